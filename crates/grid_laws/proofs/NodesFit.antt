-- Each record of a journal, and the record in doubt, fits those before it.
use Rattle.std.proofs.Common.{◌≡◌, ◌+◌, ◌≤◌, Bool, true, false, List, [], ◌∷◌, Option, Some, None, inl, inr, refl, sym, subst, ◌∙◌, arith}
use Rattle.std.proofs.lemmas.Bool.Decides.{nat_tests}
use Rattle.std.proofs.lemmas.Bool.{cases_eq}
use Rattle.std.specs.Prelude.{max, ◌==◌}
use Rattle.score_base.specs.declared.ids.TxId.{TxId}
use Rattle.score_base.specs.declared.ids.NodeId.{NodeId}
use Rattle.score_base.specs.declared.ids.Ident.{Ident}
use Rattle.score_base.specs.declared.causes.Outcome.TheVariants as outcome
use Rattle.score_base.specs.declared.records.Record.{Record}
use Rattle.score_base.specs.declared.records.Record.TheVariants as record'
use Rattle.script_lang.specs.Scripts.{ScriptData}
use Rattle.grid_model.specs.Documents.{DocumentData}
use Rattle.journal_words.specs.Journals.{fits, all_fit, floor, is_above}
use Rattle.grid_model.specs.Nodes.{script_of, is_home, is_home_in, Node, Change, Nothing, Writes, Raises, Holds, Frees, Stops, Starts, Stays, where_at, changed, learnt, found}
use Rattle.grid_model.specs.Facts.{parts_at}
use Rattle.grid_laws.proofs.Frames.{at-self}
use Rattle.journal_words.proofs.Floors.{floor-above, above-higher}
use Rattle.journal_words.proofs.Pendings.{is_over}

-- ---- an act at a node

-- what an act of m does at n, where it may only change m
pub at-node : (P : NodeId → Change → Type 0) (m n : NodeId) (c : Change) → P m c → ((k : NodeId) → P k Nothing)
    → P n (where_at (m == n) c)
at-node P m n c here none = elim (cases_eq m n) [
  | inl same ↦ (let Q : NodeId → Type 0 = λ k. P k (where_at (m == k) c) in let R : Change → Type 0 = λ y. P m y in subst Q same (subst R (sym (at-self m c)) here))
  | inr other ↦ (let Q : Bool → Type 0 = λ b. P n (where_at b c) in let e : false ≡ (m == n) = grind (arith, nat_tests) in subst Q e (none n))
]

pub home-one : (o : Option ScriptData) (n k : NodeId) → is_home_in o n ≡ true → is_home_in o k ≡ true → n ≡ k
home-one None n k h i = cc
home-one (Some s) n k h i = grind (arith, nat_tests, h, i)

-- what an act of t's home k does at n
pub at-home : (d : DocumentData) (t : TxId) (P : NodeId → Change → Type 0) (k n : NodeId) (c : Change)
    → is_home d t k ≡ true → P k c → ((j : NodeId) → P j Nothing) → P n (where_at (is_home d t n) c)
at-home d t P k n c home here none = go (is_home d t n) refl
  where
    go : (b : Bool) → is_home d t n ≡ b → P n (where_at b c)
    go true e = let Q : NodeId → Type 0 = λ j. P j c in subst Q (home-one (script_of t d.scripts) k n home e) here
    go false e = none n

-- ---- a claim on records

-- each of these records
abbrev pub AllHold : (Record → Type 0) → List Record → Type 0
AllHold C [] = Unit {0}
AllHold C (y ∷ r) = C y × AllHold C r

-- the record in doubt
abbrev pub HoldsIn : (Record → Type 0) → Option Record → Type 0
HoldsIn C None = Unit {0}
HoldsIn C (Some y) = C y

-- each record that stands, and the record in doubt behind them
pub hold-found : (C : Record → Type 0) (b : Bool) (o : Option Record) (r : List Record) →
    AllHold C r → HoldsIn C o → AllHold C (found b o r)
hold-found C true (Some y) r h k = (k, h)
hold-found C true None r h k = h
hold-found C false o r h k = h

-- ---- a node whose records fit

abbrev pub FitsDoubt : DocumentData → NodeId → List Record → Option Record → Type 0
FitsDoubt d n r None = Unit {0}
FitsDoubt d n r (Some y) = fits d.cluster n r y ≡ true

-- a Decided stands at the home of its transaction, with its parts
abbrev pub AtItsHome : DocumentData → NodeId → Record → Type 0
AtItsHome d n (record'.Decided t f parts) = (is_home d t n ≡ true) × (parts ≡ parts_at d t)
AtItsHome d n y = Unit {0}

pub record IsFitNode (d : DocumentData) (n : NodeId) (x : Node) : Type 0 where
  pub fits : all_fit d.cluster n x.journal ≡ true
  pub doubt : FitsDoubt d n x.journal x.doubt
  pub quiet : x.up ≡ true → x.doubt ≡ None
  pub clock : x.up ≡ true → is_above (1 + x.next) x.journal ≡ true
  pub homes : AllHold (AtItsHome d n) x.journal
  pub home_doubt : HoldsIn (AtItsHome d n) x.doubt

-- a proposal of the record in doubt is above s
abbrev pub OverDoubt : Ident → Option Record → Type 0
OverDoubt s None = Unit {0}
OverDoubt s (Some y) = is_over s y ≡ true

-- what a change must meet
abbrev pub FitChange : DocumentData → NodeId → Node → Change → Type 0
FitChange d n x (Writes None) = Unit {0}
FitChange d n x (Writes (Some y)) =
    (x.up ≡ true) × (fits d.cluster n x.journal y ≡ true) × AtItsHome d n y × (is_over x.next y ≡ true)
FitChange d n x (Stops o) = (x.up ≡ true) × FitsDoubt d n x.journal o × HoldsIn (AtItsHome d n) o × OverDoubt x.next o
FitChange d n x c = Unit {0}

pub all-more : (d : DocumentData) (n : NodeId) (y : Record) (r : List Record) → fits d.cluster n r y ≡ true
    → all_fit d.cluster n r ≡ true → all_fit d.cluster n (y ∷ r) ≡ true
all-more d n y r h k = rw (h, k) refl

clock-learnt : (y : Record) (r : List Record) (next : Ident) → is_above (1 + next) r ≡ true
    → is_above (1 + learnt (Some y) next) (y ∷ r) ≡ true
clock-learnt (record'.Prepared t home parts sid p reads writes) r next h = grind (arith, nat_tests, above-higher (1 + next) (1 + max p next) r (omega arith) h)
clock-learnt (record'.Ended t (outcome.Commit f)) r next h = grind (arith, nat_tests, above-higher (1 + next) (1 + max f next) r (omega arith) h)
clock-learnt y r next h = h

same-node : (d : DocumentData) (n : NodeId) (x y : Node) → IsFitNode d n x → y.journal ≡ x.journal → y.doubt ≡ x.doubt
    → y.up ≡ x.up → x.next ≤ y.next → IsFitNode d n y
same-node d n x y s j o u le =
    let P : List Record → Type 0 = λ r. AllHold (AtItsHome d n) r in
    let Q : Option Record → Type 0 = λ z. HoldsIn (AtItsHome d n) z in
    let R : List Record → Option Record → Type 0 = λ r z. FitsDoubt d n r z in
    record {
      fits = rw j s.fits;
      doubt = subst (λ r. R r y.doubt) (sym j) (subst (λ z. R x.journal z) (sym o) s.doubt);
      quiet = λ e. o ∙ s.quiet (sym u ∙ e);
      clock = λ e. rw j (above-higher (1 + x.next) (1 + y.next) x.journal (omega arith) (s.clock (sym u ∙ e)));
      homes = subst P (sym j) s.homes;
      home_doubt = subst Q (sym o) s.home_doubt;
    }

pub fit-found : (d : DocumentData) (n : NodeId) (b : Bool) (o : Option Record) (r : List Record) →
    all_fit d.cluster n r ≡ true → FitsDoubt d n r o → all_fit d.cluster n (found b o r) ≡ true
fit-found d n true (Some y) r h k = all-more d n y r k h
fit-found d n true None r h k = h
fit-found d n false o r h k = h

pub fit-changed : (d : DocumentData) (n : NodeId) (x : Node) (c : Change) → IsFitNode d n x → FitChange d n x c
    → IsFitNode d n (changed c x)
fit-changed d n x Nothing s due = s
fit-changed d n x (Writes None) s due = s
fit-changed d n x (Writes (Some y)) s due =
    record {
      fits = all-more d n y x.journal due.1 s.fits;
      doubt = (let P : Option Record → Type 0 = λ z. FitsDoubt d n (y ∷ x.journal) z in subst P (sym (s.quiet due.0)) tt);
      quiet = s.quiet;
      clock = λ e. clock-learnt y x.journal x.next (s.clock e);
      homes = (due.2, s.homes);
      home_doubt = s.home_doubt;
    }
fit-changed d n x (Raises sid) s due = same-node d n x (changed (Raises sid) x) s refl refl refl (omega arith)
fit-changed d n x (Holds o) s due = same-node d n x (changed (Holds o) x) s refl refl refl (omega arith)
fit-changed d n x (Frees t op k sid) s due = same-node d n x (changed (Frees t op k sid) x) s refl refl refl (omega arith)
fit-changed d n x (Stops o) s due = record { fits = s.fits; doubt = due.1; quiet = λ e. cc; clock = λ e. cc; homes = s.homes; home_doubt = due.2 }
fit-changed d n x (Starts b) s due =
    let r : List Record = found b x.doubt x.journal in
    record {
      fits = fit-found d n b x.doubt x.journal s.fits s.doubt;
      doubt = tt;
      quiet = λ e. refl;
      clock = λ e. floor-above (1 + floor r) r (omega arith);
      homes = hold-found (AtItsHome d n) b x.doubt x.journal s.homes s.home_doubt;
      home_doubt = tt;
    }
fit-changed d n x Stays s due = record { fits = s.fits; doubt = s.doubt; quiet = λ e. cc; clock = λ e. cc; homes = s.homes; home_doubt = s.home_doubt }
