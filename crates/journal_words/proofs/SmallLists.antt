-- What holds of each record holds of each that a compaction keeps.
use Prim.Native.Nat.{suc}
use Rattle.std.proofs.Common.{◌==◌, Bool, true, false, List, [], ◌∷◌, reverse, sym, subst, arith, if◌then◌else◌}
use Rattle.std.proofs.lemmas.List.{reverse-append}
use Rattle.std.specs.List.{All}
use Rattle.std.proofs.lemmas.List.Elements.{All-append, All-push}
use Rattle.score_base.specs.declared.ids.TxId.{TxId}
use Rattle.score_base.specs.declared.records.Record.{Record}
use Rattle.score_base.specs.declared.records.Record.TheVariants as record'
use Rattle.journal_words.specs.Small.{without_ceilings, without_decided, small, small_in_time}

module _ (P : Record → Type 0) where
  none : All P []
  none = λ k d h. absurd (omega (arith, h))

  one : (x : Record) → P x → All P (x ∷ [])
  one x p = All-push P [] x none p

  more : (x : Record) (r : List Record) → P x → All P r → All P (x ∷ r)
  more x r p all = All-append P (x ∷ []) r (one x p) all

  first : (x : Record) (r : List Record) → All P (x ∷ r) → P x
  first x r all = all 0 x (omega arith)

  rest : (x : Record) (r : List Record) → All P (x ∷ r) → All P r
  rest x r all = λ k d h. all (suc k) d (omega (arith, h))

  either : (b : Bool) (x : Record) (r : List Record) → P x → All P r → All P (if b then r else x ∷ r)
  either true x r p all = all
  either false x r p all = more x r p all

  all-ceilings : (r : List Record) → All P r → All P (without_ceilings r)
  all-ceilings [] all = all
  all-ceilings (record'.Ceiling c ∷ r) all = all-ceilings r (rest _ r all)
  all-ceilings (x ∷ r) all = more x _ (first x r all) (all-ceilings r (rest x r all))

  all-decided : (t : TxId) (r : List Record) → All P r → All P (without_decided t r)
  all-decided t [] all = all
  all-decided t (record'.Decided u f parts ∷ r) all =
      either (u == t) (record'.Decided u f parts) (without_decided t r) (first _ r all) (all-decided t r (rest _ r all))
  all-decided t (x ∷ r) all = more x _ (first x r all) (all-decided t r (rest x r all))

  all-small : (r : List Record) → All P r → All P (small r)
  all-small [] all = all
  all-small (record'.Ceiling c ∷ r) all = more _ _ (first _ r all) (all-ceilings (small r) (all-small r (rest _ r all)))
  all-small (record'.Closed t ∷ r) all = all-decided t (small r) (all-small r (rest _ r all))
  all-small (x ∷ r) all = more x _ (first x r all) (all-small r (rest x r all))

  all-reverse : (r : List Record) → All P r → All P (reverse r)
  all-reverse [] all = all
  all-reverse (x ∷ r) all =
      subst (All P) (sym (reverse-append (x ∷ []) r))
      (All-push P (reverse r) x (all-reverse r (rest x r all)) (first x r all))

  pub all-small-in-time : (r : List Record) → All P r → All P (small_in_time r)
  all-small-in-time r all = all-reverse (small (reverse r)) (all-small (reverse r) (all-reverse r all))
