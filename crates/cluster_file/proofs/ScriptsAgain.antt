-- The lines of scripts are read as those scripts.
use Rattle.std.proofs.Common.{◌≡◌, ℕ, ◌<◌, ◌≤◌, true, false, ◌==◌, List, [], ◌∷◌, ◌++◌, length, length-append, nat_le, Some, None, Result, Ok, refl, sym, ap, ◌∙◌, subst, map, append_assoc, arith, codes}
use Rattle.std.specs.Cmp.Lexicographic.{slice_cmp}
use Rattle.std.specs.Ordering.{nat_cmp}
use Rattle.std.specs.BTreeSet.{insert_key}
use Rattle.std.specs.Fmt.{decimal}
use Rattle.std.specs.List.{list_any, list_all, flat_map}
use Rattle.std.proofs.lemmas.Cmp.{nat_eq_equiv}
use Rattle.std.proofs.lemmas.List.{append-nil}
use Rattle.score_base.specs.declared.keys.Key.{Key}
use Rattle.score_base.specs.declared.ids.NodeId.{NodeId}
use Rattle.score_base.specs.declared.ids.Value.{Value}
use Rattle.score_base.specs.Keys.{is_key}
use Rattle.script_lang.specs.Scripts.{ScriptData, are_sound}
use Rattle.script_lang.specs.Spelling.{op_words, session_words, tx_words, is_plain_expr, is_plain_op, script_words}
use Rattle.script_lang.specs.Reads.{keys_named, key_of}
use Rattle.script_lang.specs.declared.scripts.Op.{Op}
use Rattle.script_lang.specs.declared.scripts.Op.TheVariants as op
use Rattle.grid_model.specs.Documents.{script_numbers, are_numbers_distinct, keys_of_document, key_order, number_order}
use Rattle.cluster_file.specs.declared.drafts.Draft.{Draft}
use Rattle.cluster_file.specs.declared.drafts.Part.{Part}
use Rattle.cluster_file.specs.declared.drafts.Part.TheVariants as part
use Rattle.cluster_file.specs.Lines.{words_line, tx_line}
use Rattle.cluster_file.specs.Spelling.{is_script_in_range, node_word}
use Rattle.std.proofs.lemmas.Bool.{and_parts}
use Rattle.cluster_file.proofs.ScriptRanges.{HasRanges, ranges_of}
use Rattle.cluster_file.proofs.Members.{among_numbers, distinct_before}
use Rattle.cluster_file.proofs.Named.{numbers_last, key_order_last, number_order_last, keys_op, keys_begun, keys_more_scripts, keys_more_ops, numbers_more}
use Rattle.cluster_file.proofs.Known.{read_before}
use Rattle.cluster_file.proofs.Again.{tx_line_again, read_line_again, write_line_again, end_line_again}
use Rattle.cluster_file.proofs.ClusterAgain.{lines_from, then_lines, first_few, IsOpen, scripted}
use Rattle.script_lang.specs.declared.whys.Why.{Why}
use Rattle.script_lang.specs.declared.limits.TheConstants.{MAX_OPS}
use Rattle.cluster_file.specs.declared.limits.TheConstants.{MAX_KEYS, MAX_SCRIPTS}

-- a draft that is in a script, of these operations so far
abbrev reading : ℕ → List (List NodeId) → List (Key × Value) → List ScriptData → ScriptData → Draft
reading n ps xs ss s = record { part = part.Scripts; nodes = n; places = ps; inits = xs; scripts = ss; script = Some s; items = []; events = 0; known = record { keys = key_order (keys_of_document xs (ss ++ s ∷ [])) }; numbers = record { keys = number_order (script_numbers (ss ++ s ∷ [])) } }

module _ (n : ℕ) (ps : List (List NodeId)) (xs : List (Key × Value)) where
  tx_words_again : (p : Part) (ss : List ScriptData) (s : ScriptData) (more : List ScriptData)
      → IsOpen p → are_numbers_distinct (script_numbers (ss ++ s ∷ more)) ≡ true
      → length ss < MAX_SCRIPTS → nat_le s.home n ≡ true → HasRanges s
      → words_line (scripted p n ps xs ss) (tx_words s) ≡ Ok (reading n ps xs ss (record s { ops = [] }))
  tx_words_again p ss s more may distinct room low r =
      let bare : ScriptData = record s { ops = [] } in
      let fresh : list_any (λ u. u == s.number) (script_numbers ss) ≡ false = distinct_before (λ (a b : ℕ). a == b) nat_eq_equiv.symm are_numbers_distinct (λ x l. refl) (script_numbers ss) s.number (script_numbers more) (ap are_numbers_distinct (sym (numbers_more ss (s ∷ more))) ∙ distinct) in
      let new : list_any (λ u. u == s.number) (number_order (script_numbers ss)) ≡ false = among_numbers s.number (script_numbers ss) ∙ fresh in
      let numbers : insert_key nat_cmp (number_order (script_numbers ss)) s.number ≡ number_order (script_numbers (ss ++ bare ∷ [])) = sym (number_order_last (script_numbers ss) s.number) ∙ ap number_order (sym (numbers_last ss bare)) in
      let named : key_order (keys_of_document xs ss) ≡ key_order (keys_of_document xs (ss ++ bare ∷ [])) = ap key_order (sym (keys_begun xs ss bare refl)) in
      by p may
      ∙ tx_line_again (scripted p n ps xs ss) s room new r.number low r.home r.session
      ∙ ap (λ ts. Ok (record (reading n ps xs ss bare) { known = record { keys = key_order (keys_of_document xs ss) }; numbers = record { keys = ts } })) numbers
      ∙ ap (λ ks. Ok (record (reading n ps xs ss bare) { known = record { keys = ks } })) named
    where
      by : (q : Part) → IsOpen q → words_line (scripted q n ps xs ss) (tx_words s)
          ≡ tx_line (scripted q n ps xs ss) (decimal s.number ∷ node_word s.home ∷ session_words s.session)
      by part.Start h = absurd h
      by part.Nodes h = absurd h
      by part.Partitions h = refl
      by part.Inits h = refl
      by part.Scripts h = refl
      by part.Items h = absurd h

  op_words_again : (ss : List ScriptData) (s : ScriptData) (o : Op) (todo : List Op) → length s.ops < MAX_OPS
      → length (key_order (keys_of_document xs (ss ++ record s { ops = s.ops ++ o ∷ [] } ∷ []))) ≤ MAX_KEYS
      → is_plain_op o ≡ true → are_sound [] (s.ops ++ o ∷ todo) ≡ true
      → words_line (reading n ps xs ss s) (op_words o) ≡ Ok (reading n ps xs ss (record s { ops = s.ops ++ o ∷ [] }))
  op_words_again ss s o todo room few is sound =
      let more : ScriptData = record s { ops = s.ops ++ o ∷ [] } in
      let named : insert_key (slice_cmp nat_cmp) (key_order (keys_of_document xs (ss ++ s ∷ []))) (key_of o) ≡ key_order (keys_of_document xs (ss ++ more ∷ [])) = sym (key_order_last (keys_of_document xs (ss ++ s ∷ [])) (key_of o)) ∙ ap key_order (sym (keys_op xs ss s o)) in
      let numbers : number_order (script_numbers (ss ++ s ∷ [])) ≡ number_order (script_numbers (ss ++ more ∷ [])) = ap number_order (numbers_last ss s ∙ sym (numbers_last ss more)) in
      by o (omega (arith, few, ap length named)) is sound
      ∙ ap (λ ks. Ok (record (reading n ps xs ss more) { known = record { keys = ks }; numbers = record { keys = number_order (script_numbers (ss ++ s ∷ [])) } })) named
      ∙ ap (λ ts. Ok (record (reading n ps xs ss more) { numbers = record { keys = ts } })) numbers
    where
      by : (p : Op)
          → length (insert_key (slice_cmp nat_cmp) (key_order (keys_of_document xs (ss ++ s ∷ []))) (key_of p))
          ≤ MAX_KEYS → is_plain_op p ≡ true → are_sound [] (s.ops ++ p ∷ todo) ≡ true
          → words_line (reading n ps xs ss s) (op_words p) ≡ Ok (record (reading n ps xs ss (record s { ops = s.ops ++ p ∷ [] })) { known = record { keys = insert_key (slice_cmp nat_cmp) (key_order (keys_of_document xs (ss ++ s ∷ []))) (key_of p) }; numbers = record { keys = number_order (script_numbers (ss ++ s ∷ [])) } })
      by (op.Read k) less one rest = read_line_again (record (reading n ps xs ss s) { script = None }) s k room less one
      by (op.Write k e) less one rest =
          let both = and_parts (is_key k) (is_plain_expr e) one in
          write_line_again (record (reading n ps xs ss s) { script = None }) s k e room less both.0 both.1 (read_before s.ops k e todo rest)

  ops_again : (ss : List ScriptData) (s : ScriptData) (done todo : List Op) (tail : List (List (List ℕ)))
      → length (done ++ todo) ≤ MAX_OPS
      → length (key_order (keys_of_document xs (ss ++ record s { ops = done ++ todo } ∷ []))) ≤ MAX_KEYS
      → list_all is_plain_op todo ≡ true → are_sound [] (done ++ todo) ≡ true
      → lines_from (reading n ps xs ss (record s { ops = done })) (map op_words todo ++ tail)
      ≡ lines_from (reading n ps xs ss (record s { ops = done ++ todo })) tail
  ops_again ss s done [] tail room few are sound = ap (λ l. lines_from (reading n ps xs ss (record s { ops = l })) tail) (sym (append-nil done))
  ops_again ss s done (o ∷ todo) tail room few are sound =
      let a = and_parts (is_plain_op o) (list_all is_plain_op todo) are in
      let assoc : (done ++ o ∷ []) ++ todo ≡ done ++ o ∷ todo = append_assoc done (o ∷ []) todo in
      let all : keys_of_document xs (ss ++ record s { ops = done ++ o ∷ todo } ∷ []) ≡ keys_of_document xs (ss ++ record s { ops = done ++ o ∷ [] } ∷ []) ++ keys_named todo = ap (λ l. keys_of_document xs (ss ++ record s { ops = l } ∷ [])) (sym assoc) ∙ keys_more_ops xs ss s (done ++ o ∷ []) todo in
      then_lines (reading n ps xs ss (record s { ops = done })) (reading n ps xs ss (record s { ops = done ++ o ∷ [] })) (op_words o) (map op_words todo ++ tail) _
      (op_words_again ss (record s { ops = done }) o todo (omega (arith, room, length-append done (o ∷ todo))) (first_few (keys_of_document xs (ss ++ record s { ops = done ++ o ∷ [] } ∷ [])) (keys_named todo) (keys_of_document xs (ss ++ record s { ops = done ++ o ∷ todo } ∷ [])) all few) a.0 sound)
      (ops_again ss s (done ++ o ∷ []) todo tail (subst (λ l. length l ≤ MAX_OPS) (sym assoc) room) (subst (λ l. length (key_order (keys_of_document xs (ss ++ record s { ops = l } ∷ []))) ≤ MAX_KEYS) (sym assoc) few) a.1 (ap (are_sound []) assoc ∙ sound)
      ∙ ap (λ l. lines_from (reading n ps xs ss (record s { ops = l })) tail) assoc)

  script_again : (p : Part) (ss : List ScriptData) (s : ScriptData) (more : List ScriptData)
      (tail : List (List (List ℕ))) → IsOpen p → are_numbers_distinct (script_numbers (ss ++ s ∷ more)) ≡ true
      → length (key_order (keys_of_document xs (ss ++ s ∷ []))) ≤ MAX_KEYS → length ss < MAX_SCRIPTS
      → nat_le s.home n ≡ true → is_script_in_range s ≡ true
      → lines_from (scripted p n ps xs ss) (script_words s ++ tail)
      ≡ lines_from (scripted part.Scripts n ps xs (ss ++ s ∷ [])) tail
  script_again p ss s more tail may distinct few room low is =
      let r = ranges_of s is in
      then_lines (scripted p n ps xs ss) (reading n ps xs ss (record s { ops = [] })) (tx_words s) ((map op_words s.ops ++ (codes "end" ∷ []) ∷ []) ++ tail) _
      (tx_words_again p ss s more may distinct room low r)
      (ap (lines_from (reading n ps xs ss (record s { ops = [] }))) (append_assoc (map op_words s.ops) ((codes "end" ∷ []) ∷ []) tail)
      ∙ ops_again ss s [] s.ops ((codes "end" ∷ []) ∷ tail) r.most few r.plain r.sound
      ∙ then_lines (reading n ps xs ss s) (scripted part.Scripts n ps xs (ss ++ s ∷ [])) (codes "end" ∷ []) tail _ (end_line_again (record (reading n ps xs ss s) { script = None }) s r.least) refl)

  pub scripts_again : (p : Part) (ss rest : List ScriptData) (tail : List (List (List ℕ))) (r : Result Draft Why)
      → IsOpen p → are_numbers_distinct (script_numbers (ss ++ rest)) ≡ true
      → length (key_order (keys_of_document xs (ss ++ rest))) ≤ MAX_KEYS → length (ss ++ rest) ≤ MAX_SCRIPTS
      → list_all (λ s. nat_le s.home n) rest ≡ true → list_all is_script_in_range rest ≡ true
      → ((q : Part) → IsOpen q → lines_from (scripted q n ps xs (ss ++ rest)) tail ≡ r)
      → lines_from (scripted p n ps xs ss) (flat_map script_words rest ++ tail) ≡ r
  scripts_again p ss [] tail r may distinct few room low is next = ap (λ l. lines_from (scripted p n ps xs l) tail) (sym (append-nil ss)) ∙ next p may
  scripts_again p ss (s ∷ rest) tail r may distinct few room low is next =
      let l = and_parts (nat_le s.home n) (list_all (λ t. nat_le t.home n) rest) low in
      let i = and_parts (is_script_in_range s) (list_all is_script_in_range rest) is in
      let assoc : (ss ++ s ∷ []) ++ rest ≡ ss ++ s ∷ rest = append_assoc ss (s ∷ []) rest in
      let all : keys_of_document xs (ss ++ s ∷ rest) ≡ keys_of_document xs (ss ++ s ∷ []) ++ flat_map (λ t. keys_named t.ops) rest = ap (keys_of_document xs) (sym assoc) ∙ keys_more_scripts xs (ss ++ s ∷ []) rest in
      ap (lines_from (scripted p n ps xs ss)) (append_assoc (script_words s) (flat_map script_words rest) tail)
      ∙ script_again p ss s rest (flat_map script_words rest ++ tail) may distinct (first_few (keys_of_document xs (ss ++ s ∷ [])) (flat_map (λ t. keys_named t.ops) rest) (keys_of_document xs (ss ++ s ∷ rest)) all few) (omega (arith, room, length-append ss (s ∷ rest))) l.0 i.0
      ∙ scripts_again part.Scripts (ss ++ s ∷ []) rest tail r tt (ap (λ m. are_numbers_distinct (script_numbers m)) assoc ∙ distinct) (subst (λ m. length (key_order (keys_of_document xs m)) ≤ MAX_KEYS) (sym assoc) few) (subst (λ m. length m ≤ MAX_SCRIPTS) (sym assoc) room) l.1 i.1
      (λ q h. ap (λ m. lines_from (scripted q n ps xs m) tail) assoc ∙ next q h)
