-- What a table by transaction has where a transaction has nothing.
use Rattle.std.proofs.Common.{◌≡◌, inl, inr, true, false, List, None, refl, sym, subst, arith, if◌then◌else◌}
use Rattle.std.proofs.lemmas.Bool.{cases_eq}
use Rattle.std.proofs.lemmas.Bool.Decides.{nat_tests}
use Rattle.std.specs.Prelude.{◌==◌}
use Rattle.std.specs.Ordering.{nat_cmp}
use Rattle.std.specs.FinMap as map
use Rattle.score_base.specs.declared.ids.TxId.{TxId}

-- who has nothing may lose it
pub found-none : {V : Type 0} (pairs : List (TxId × V)) (u t : TxId) → map.find nat_cmp t pairs ≡ None
    → map.find nat_cmp u pairs ≡ (if u == t then None else map.find nat_cmp u pairs)
found-none {V} pairs u t none = elim (cases_eq u t) [
  | inl same ↦
      let self : u == t ≡ true = grind (arith, nat_tests) in
      let mine : map.find nat_cmp u pairs ≡ None = subst (λ (v : TxId). map.find nat_cmp v pairs ≡ None) (sym same) none in
      rw self mine
  | inr ne ↦ (let other : u == t ≡ false = grind (arith, nat_tests) in rw other refl)
]
