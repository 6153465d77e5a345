-- One operation more of a walk over a script.
use Rattle.std.proofs.Common.{◌≡◌, ℕ, ◌+◌, ◌<◌, Bool, true, false, cond, ◌&&◌, ◌||◌, is_none, is_some, IsTrue, List, [], ◌∷◌, ◌++◌, length, drop, get_or, Option, Some, None, refl, sym, ap, ◌∙◌}
use Rattle.std.proofs.Math.Path.{fun_ext}
use Rattle.std.proofs.lemmas.Bool.{and_parts, and_from}
use Rattle.std.proofs.lemmas.List.{append_assoc, drop_more}
use Rattle.std.specs.Option.{unwrap_or}
use Rattle.std.specs.Ordering.{nat_cmp}
use Rattle.std.specs.Cmp.Lexicographic.{slice_cmp, nat_list_cmp_total, texts_ties}
use Rattle.std.proofs.lemmas.Cmp.{eq_by_cmp_equiv}
use Rattle.std.specs.FinMap as map
use Rattle.score_base.specs.declared.keys.Key.{Key}
use Rattle.score_base.specs.declared.ids.Value.{Value}
use Rattle.score_base.specs.Keys.{same_key}
use Rattle.script_lang.specs.declared.exprs.Expr.{Expr}
use Rattle.script_lang.specs.declared.exprs.Atom.{Atom}
use Rattle.script_lang.specs.declared.exprs.Atom.TheVariants as atom
use Rattle.script_lang.specs.declared.exprs.Step.{Step}
use Rattle.script_lang.specs.declared.exprs.Step.TheVariants as step
use Rattle.script_lang.specs.declared.scripts.Op.{Op}
use Rattle.script_lang.specs.declared.scripts.Op.TheVariants as op
use Rattle.script_lang.specs.Exprs.{expr_value, all_in_atom, all_in_step, all_in_steps, all_in_expr, is_atom_among, is_step_among, are_steps_among, is_expr_among}
use Rattle.script_lang.specs.Reads.{is_key_among}
use Rattle.script_lang.specs.Scripts.{are_sound, IsBody}
use Rattle.script_lang.specs.Values.{ReadValues, value_in}
use Rattle.script_runs.specs.Serials.{put, zeros}
use Rattle.script_runs.specs.Waits.{value_taken, waiting, waiting_from}
use Rattle.script_runs.specs.Walks.{Walk, unread, read_step, taken_step, write_step, own_reads, walked, own_map}
use Rattle.script_lang.proofs.KeyLists.{same_key-turned}
use Rattle.script_runs.specs.declared.trails.Trail.{Trail}
use Rattle.script_runs.specs.Trails.{read_by, stepped, stops, is_ready}

-- ---- the finite maps against maps of all keys

got : (m : ReadValues) (k : Key) (v : Value) (q : Key)
    → map.get (map.insert m k v) q ≡ cond (same_key k q) (Some v) (map.get m q)
got m k v q = map.get-insert nat_list_cmp_total m k v q ∙ ap (λ b. cond b (Some v) (map.get m q)) ((eq_by_cmp_equiv nat_list_cmp_total).symm q k ∙ sym (texts_ties k q))

chosen : (b : Bool) (v : Value) (o : Option Value) → unwrap_or (cond b (Some v) o) 0 ≡ cond b v (unwrap_or o 0)
chosen true v o = refl
chosen false v o = refl

-- a key that has a value from now on
inserted : (m : ReadValues) (k : Key) (v : Value) → value_in (map.insert m k v) ≡ put (value_in m) k v
inserted m k v = fun_ext (λ q. ap (λ o. unwrap_or o 0) (got m k v q) ∙ chosen (same_key k q) v (map.get m q))

has_either : (b : Bool) (v : Value) (o : Option Value) → is_some (cond b (Some v) o) ≡ (b || is_some o)
has_either true v o = refl
has_either false v o = refl

has_more : (m : ReadValues) (k : Key) (v : Value) (q : Key)
    → map.contains_key (map.insert m k v) q ≡ (same_key q k || map.contains_key m q)
has_more m k v q = ap is_some (got m k v q) ∙ has_either (same_key k q) v (map.get m q) ∙ ap (λ b. b || map.contains_key m q) (same_key-turned k q)

-- ---- what a walk keeps

-- the maps that a program keeps, as maps of all keys
abbrev pub walk_of : Trail → Walk
walk_of x = record { mine = value_in x.mine; latest = value_in x.latest }

-- the walk came before operation j, behind which these operations stand
pub record Comes (values : List (ℕ × Value)) (ops : List Op) (j : ℕ) (rest : List Op) (x : Trail) : Type 0 where
  pub seen : List Key
  pub known : List Key
  pub among : (q : Key) → is_key_among q seen ≡ map.contains_key x.mine q
  pub has : (q : Key) → is_key_among q known ≡ true → map.contains_key x.latest q ≡ true
  pub sound : are_sound known rest ≡ true
  pub own : x.own ++ own_reads j seen (walk_of x) values rest ≡ own_reads 1 [] unread values ops
  pub map : walked j seen (walk_of x) values rest ≡ walked 1 [] unread values ops
  pub waits : waiting_from j seen values rest ≡ waiting ops values
  pub open' : x.waiting ≡ None

blank_map : value_in map.empty ≡ zeros
blank_map = fun_ext (λ q. ap (λ o. unwrap_or o 0) (map.get-empty (slice_cmp nat_cmp) q))

pub comes-first : (values : List (ℕ × Value)) (ops : List Op) (x : Trail) → IsBody ops
    → x ≡ record { own = []; mine = map.empty; latest = map.empty; waiting = None } → Comes values ops 1 ops x
comes-first values ops x body e = rw e (record {
  seen = [];
  known = [];
  among = λ q. sym (ap is_some (map.get-empty (slice_cmp nat_cmp) q));
  has = λ q h. cc;
  sound = body.sound;
  own = rw blank_map refl;
  map = rw blank_map refl;
  waits = refl;
  open' = refl;
})

-- ---- the keys of an expression

atom-in : (known : List Key) (p : Key → Bool) (a : Atom) → ((q : Key) → is_key_among q known ≡ true → p q ≡ true)
    → is_atom_among known a ≡ true → all_in_atom p a ≡ true
atom-in known p (atom.Number v) h e = refl
atom-in known p (atom.Key k) h e = h k e

step-in : (known : List Key) (p : Key → Bool) (s : Step) → ((q : Key) → is_key_among q known ≡ true → p q ≡ true)
    → is_step_among known s ≡ true → all_in_step p s ≡ true
step-in known p (step.Add a) h e = atom-in known p a h e
step-in known p (step.Sub a) h e = atom-in known p a h e
step-in known p (step.Mul a) h e = atom-in known p a h e
step-in known p (step.Min a) h e = atom-in known p a h e
step-in known p (step.Max a) h e = atom-in known p a h e
step-in known p (step.Pick a b) h e = and_from _ _ (atom-in known p a h (and_parts _ _ e).0) (atom-in known p b h (and_parts _ _ e).1)

steps-in : (known : List Key) (p : Key → Bool) (ss : List Step) → ((q : Key) → is_key_among q known ≡ true → p q ≡ true)
    → are_steps_among known ss ≡ true → all_in_steps p ss ≡ true
steps-in known p [] h e = refl
steps-in known p (s ∷ ss) h e = and_from _ _ (step-in known p s h (and_parts _ _ e).0) (steps-in known p ss h (and_parts _ _ e).1)

expr-in : (known : List Key) (p : Key → Bool) (e : Expr) → ((q : Key) → is_key_among q known ≡ true → p q ≡ true)
    → is_expr_among known e ≡ true → all_in_expr p e ≡ true
expr-in known p e h a = and_from _ _ (atom-in known p e.first h (and_parts _ _ (and_parts _ _ a).0).0) (steps-in known p e.steps h (and_parts _ _ a).1)

-- the keys of a write's expression were read
pub comes-ready : (values : List (ℕ × Value)) (ops rest : List Op) (o : Op) (j : ℕ) (x : Trail)
    → Comes values ops j (o ∷ rest) x → is_ready o x ≡ true
comes-ready values ops rest (op.Read k) j x at = refl
comes-ready values ops rest (op.Write k e) j x at = expr-in at.known (map.contains_key x.latest) e at.has (and_parts _ _ at.sound).0

-- ---- one operation more

is_there : (m : ReadValues) (k : Key) (v : Value) → map.get m k ≡ Some v → map.contains_key m k ≡ true
is_there m k v e = ap is_some e

also : (known : List Key) (m : ReadValues) (k : Key) (v : Value)
    → ((q : Key) → is_key_among q known ≡ true → map.contains_key m q ≡ true) → (q : Key)
    → is_key_among q (k ∷ known) ≡ true → map.contains_key (map.insert m k v) q ≡ true
also known m k v h q e = has_more m k v q ∙ either (same_key q k) (is_key_among q known) (map.contains_key m q) e (h q)
  where
    either : (a b c : Bool) → (a || b) ≡ true → (b ≡ true → c ≡ true) → (a || c) ≡ true
    either true b c p f = refl
    either false b c p f = f p

-- an own read
comes-own : (values : List (ℕ × Value)) (ops rest : List Op) (k : Key) (v : Value) (j : ℕ) (x : Trail)
    → Comes values ops j (op.Read k ∷ rest) x → map.get x.mine k ≡ Some v
    → Comes values ops (j + 1) rest (record x { own = x.own ++ (j, v) ∷ []; latest = map.insert x.latest k v })
comes-own values ops rest k v j x at has =
    let there : is_key_among k at.seen ≡ true = at.among k ∙ is_there x.mine k v has in
    let value : value_in x.mine k ≡ v = ap (λ o. unwrap_or o 0) has in
    let more : walk_of (record x { own = x.own ++ (j, v) ∷ []; latest = map.insert x.latest k v }) ≡ read_step k (walk_of x) = ap (λ f. record { mine = value_in x.mine; latest = f }) (inserted x.latest k v ∙ ap (put (value_in x.latest) k) (sym value)) in
    record {
      seen = at.seen;
      known = k ∷ at.known;
      among = at.among;
      has = also at.known x.latest k v at.has;
      sound = at.sound;
      own = append_assoc x.own ((j, v) ∷ []) _ ∙ ap (λ w. x.own ++ (j, v) ∷ own_reads (j + 1) at.seen w values rest) more ∙ ap (λ u. x.own ++ (j, u) ∷ own_reads (j + 1) at.seen (read_step k (walk_of x)) values rest) (sym value) ∙ (rw there at at.own);
      map = ap (λ w. walked (j + 1) at.seen w values rest) more ∙ (rw there at at.map);
      waits = rw there at at.waits;
      open' = at.open';
    }

-- a remote read with its taken value
comes-taken : (values : List (ℕ × Value)) (ops rest : List Op) (k : Key) (v : Value) (j : ℕ) (x : Trail)
    → Comes values ops j (op.Read k ∷ rest) x → map.get x.mine k ≡ None → value_taken j values ≡ Some v
    → Comes values ops (j + 1) rest (record x { mine = map.insert x.mine k v; latest = map.insert x.latest k v })
comes-taken values ops rest k v j x at has taken =
    let new : is_key_among k at.seen ≡ false = at.among k ∙ ap is_some has in
    let more : walk_of (record x { mine = map.insert x.mine k v; latest = map.insert x.latest k v }) ≡ taken_step k v (walk_of x) = ap (λ f. record { mine = f; latest = value_in (map.insert x.latest k v) }) (inserted x.mine k v) ∙ ap (λ f. record { mine = put (value_in x.mine) k v; latest = f }) (inserted x.latest k v) in
    record {
      seen = k ∷ at.seen;
      known = k ∷ at.known;
      among = λ q. ap (λ b. same_key q k || b) (at.among q) ∙ sym (has_more x.mine k v q);
      has = also at.known x.latest k v at.has;
      sound = at.sound;
      own = ap (λ w. x.own ++ own_reads (j + 1) (k ∷ at.seen) w values rest) more ∙ (rw (new, taken) at at.own);
      map = ap (λ w. walked (j + 1) (k ∷ at.seen) w values rest) more ∙ (rw (new, taken) at at.map);
      waits = rw (new, taken) at at.waits;
      open' = at.open';
    }

-- a write
comes-write : (values : List (ℕ × Value)) (ops rest : List Op) (k : Key) (e : Expr) (j : ℕ) (x : Trail)
    → Comes values ops j (op.Write k e ∷ rest) x → Comes values ops (j + 1) rest (stepped values j (op.Write k e) x)
comes-write values ops rest k e j x at =
    let more : walk_of (stepped values j (op.Write k e) x) ≡ write_step k e (walk_of x) = ap (λ f. record { mine = f; latest = value_in x.latest }) (inserted x.mine k (expr_value (value_in x.latest) e)) in
    record {
      seen = k ∷ at.seen;
      known = at.known;
      among = λ q. ap (λ b. same_key q k || b) (at.among q) ∙ sym (has_more x.mine k (expr_value (value_in x.latest) e) q);
      has = at.has;
      sound = (and_parts _ _ at.sound).1;
      own = ap (λ w. x.own ++ own_reads (j + 1) (k ∷ at.seen) w values rest) more ∙ at.own;
      map = ap (λ w. walked (j + 1) (k ∷ at.seen) w values rest) more ∙ at.map;
      waits = at.waits;
      open' = at.open';
    }

comes-read : (values : List (ℕ × Value)) (ops rest : List Op) (k : Key) (j : ℕ) (x : Trail)
    → Comes values ops j (op.Read k ∷ rest) x → (mine taken : Option Value) → map.get x.mine k ≡ mine
    → value_taken j values ≡ taken → (is_none mine && is_none taken) ≡ false
    → Comes values ops (j + 1) rest (read_by j k mine taken x)
comes-read values ops rest k j x at (Some v) taken has is go = comes-own values ops rest k v j x at has
comes-read values ops rest k j x at None (Some v) has is go = comes-taken values ops rest k v j x at has is
comes-read values ops rest k j x at None None has is go = cc

comes-more : (values : List (ℕ × Value)) (ops rest : List Op) (o : Op) (j : ℕ) (x : Trail)
    → Comes values ops j (o ∷ rest) x → stops values j o x ≡ false
    → Comes values ops (j + 1) rest (stepped values j o x)
comes-more values ops rest (op.Read k) j x at go = comes-read values ops rest k j x at (map.get x.mine k) (value_taken j values) refl refl go
comes-more values ops rest (op.Write k e) j x at go = comes-write values ops rest k e j x at

-- ---- the end of a walk

-- a walk that stops at operation j
pub record Left (values : List (ℕ × Value)) (ops : List Op) (x : Trail) : Type 0 where
  pub own : x.own ≡ own_reads 1 [] unread values ops
  pub mine : value_in x.mine ≡ own_map ops values
  pub waiting : x.waiting ≡ waiting ops values

-- ---- the same at a place of the operations

rest-at : (ops : List Op) (i : ℕ) (o : Op) → i < length ops → o ≡ get_or ops i o → drop i ops ≡ o ∷ drop (i + 1) ops
rest-at ops i o h e = drop_more ops i o h ∙ ap (λ y. y ∷ drop (i + 1) ops) (sym e)

pub ready-at : (values : List (ℕ × Value)) (ops : List Op) (i j : ℕ) (o : Op) (x : Trail) → i < length ops
    → o ≡ get_or ops i o → Comes values ops j (drop i ops) x → IsTrue (is_ready o x)
ready-at values ops i j o x h e at = comes-ready values ops (drop (i + 1) ops) o j x (rw (rest-at ops i o h e) at at)

pub more-at : (values : List (ℕ × Value)) (ops : List Op) (i j : ℕ) (o : Op) (x x' : Trail) → i < length ops
    → o ≡ get_or ops i o → Comes values ops j (drop i ops) x → stops values j o x ≡ false → x' ≡ stepped values j o x
    → Comes values ops (j + 1) (drop (i + 1) ops) x'
more-at values ops i j o x x' h e at go is = rw is (comes-more values ops (drop (i + 1) ops) o j x (rw (rest-at ops i o h e) at at) go)
