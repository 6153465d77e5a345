-- What is undone behind a Decided or a Closed?
use Rattle.std.proofs.Common.{◌≡◌, ◌==◌, true, false, List, ◌∷◌, Some, None, refl, arith}
use Rattle.std.proofs.lemmas.Bool.Decides.{nat_tests}
use Rattle.score_base.specs.declared.ids.TxId.{TxId}
use Rattle.score_base.specs.declared.ids.NodeId.{NodeId}
use Rattle.score_base.specs.declared.ids.Ident.{Ident}
use Rattle.score_base.specs.declared.records.Record.{Record}
use Rattle.score_base.specs.declared.records.Record.TheVariants as record'
use Rattle.journal_words.specs.Journals.{undone}

self : (t : TxId) → (t == t) ≡ true
self t = grind (arith, nat_tests)

pub decided-undone :
    (t : TxId) (f : Ident) (ns : List NodeId) (r : List Record)
    → undone t (record'.Decided t f ns ∷ r) ≡ Some (record { final = f; parts = ns })
decided-undone t f ns r = rw (self t) refl

pub decided-other :
    (t u : TxId) (f : Ident) (ns : List NodeId) (r : List Record)
    → (t == u) ≡ false → undone u (record'.Decided t f ns ∷ r) ≡ undone u r
decided-other t u f ns r other = rw other refl

pub closed-done : (t : TxId) (r : List Record) → undone t (record'.Closed t ∷ r) ≡ None
closed-done t r = rw (self t) refl

pub closed-other :
    (t u : TxId) (r : List Record) → (t == u) ≡ false → undone u (record'.Closed t ∷ r) ≡ undone u r
closed-other t u r other = rw other refl
