-- What stands, is pending or is decided behind the next record that was not before it?
use Rattle.std.proofs.Common.{◌≡◌, ◌⊎◌, inl, inr, true, false, List, ◌∷◌, Some, ap, subst, arith}
use Rattle.std.proofs.lemmas.Bool.{cases_eq}
use Rattle.std.proofs.lemmas.Bool.Decides.{nat_tests}
use Rattle.std.specs.Prelude.{◌==◌}
use Rattle.score_base.specs.declared.ids.TxId.{TxId}
use Rattle.score_base.specs.declared.ids.NodeId.{NodeId}
use Rattle.score_base.specs.declared.ids.Ident.{Ident}
use Rattle.score_base.specs.declared.records.Record.{Record}
use Rattle.score_base.specs.declared.records.Record.TheVariants as record'
use Rattle.journal_words.specs.Journals.{Prepared, Decision, decision}

-- ---- a Prepared

-- the record is this Prepared of t
pub record IsPreparedOf (t : TxId) (x : Prepared) (y : Record) : Type 0 where
  pub parts : List NodeId
  pub is : y ≡ record'.Prepared t x.home parts x.sid x.proposal x.reads x.writes

-- the record is a Prepared of t with this proposal
pub record IsProposal (t : TxId) (p : Ident) (y : Record) : Type 0 where
  pub said : Prepared
  pub proposal : said.proposal ≡ p
  pub prepared : IsPreparedOf t said y

-- ---- an Ended

-- ---- a Decided, a Closed

pub decision-before : (t : TxId) (x : Decision) (y : Record) (r : List Record) → decision t (y ∷ r) ≡ Some x
    → (y ≡ record'.Decided t x.final x.parts) ⊎ (decision t r ≡ Some x)
decision-before t x (record'.Decided u f parts) r h = elim (cases_eq u t) [
  | inl same ↦
      let self : u == t ≡ true = grind (arith, nat_tests) in
      let h' : (let z : Decision = record { final = f; parts = parts } in Some z ≡ Some x) = rw self at h in
      let e : (let z : Decision = record { final = f; parts = parts } in z ≡ x) = grind (arith, h') in
      let P : Decision → Type 0 = λ z. record'.Decided u f parts ≡ record'.Decided t z.final z.parts in
      inl (subst P e (ap (λ v. record'.Decided v f parts) same))
  | inr other ↦ inr (let self : u == t ≡ false = grind (arith, nat_tests) in rw self at h)
]
decision-before t x y r h = inr h
