-- A map of the standard library against the finite map that contracts see.
use Rattle.std.proofs.Common.{◌≡◌, cond, List, [], ◌∷◌, Some, refl, sym, ap, ◌∙◌}
use Rattle.std.specs.Ordering.{nat_cmp, eq_by_cmp}
use Rattle.std.specs.Cmp.Lexicographic.{slice_cmp, nat_list_cmp_total}
use Rattle.std.specs.BTreeMap as tree
use Rattle.std.specs.Map.{lookup}
use Rattle.std.specs.FinMap as map
use Rattle.std.proofs.lemmas.Cmp.{eq_by_cmp_equiv}
use Rattle.std.proofs.lemmas.Map.Lookups.{exact_bytes}
use Rattle.score_base.specs.declared.keys.Key.{Key}
use Rattle.score_base.specs.declared.ids.Value.{Value}

find_lookup : (q : Key) (es : List (Key × Value))
    → map.find (slice_cmp nat_cmp) q es ≡ lookup (tree.is_at (slice_cmp nat_cmp q)) es
find_lookup q [] = refl
find_lookup q (e ∷ es) = ap (λ o. cond (eq_by_cmp (slice_cmp nat_cmp) q e.0) (Some e.1) o) (find_lookup q es)

-- the map of some entries gives each key what a search among them gives
pub get_lookup : (q : Key) (es : List (Key × Value))
    → map.get {R = slice_cmp nat_cmp} (map.from_entries es) q ≡ lookup (tree.is_at (slice_cmp nat_cmp q)) es
get_lookup q es = map.get-from_entries nat_list_cmp_total es q ∙ find_lookup q es

-- entries that give each key what those before gave, but for one key that has a new value
pub set_insert : (old new : List (Key × Value)) (k : Key) (v : Value) → ((q : Key)
    → lookup (tree.is_at (slice_cmp nat_cmp q)) new
    ≡ cond (tree.is_at (slice_cmp nat_cmp k) q) (Some v) (lookup (tree.is_at (slice_cmp nat_cmp q)) old))
    → map.from_entries {R = slice_cmp nat_cmp} new ≡ map.insert (map.from_entries old) k v
set_insert old new k v h =
    map.same_map nat_list_cmp_total exact_bytes _ _
    (λ q. get_lookup q new ∙ h q ∙ ap (λ b. cond b (Some v) (lookup (tree.is_at (slice_cmp nat_cmp q)) old)) ((eq_by_cmp_equiv nat_list_cmp_total).symm k q) ∙ sym (map.get-insert nat_list_cmp_total (map.from_entries old) k v q ∙ ap (λ o. cond (eq_by_cmp (slice_cmp nat_cmp) q k) (Some v) o) (get_lookup q old)))
