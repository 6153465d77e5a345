-- The disks of a node that is up: a record, a compaction, an arming.
use Rattle.std.proofs.Common.{◌≡◌, ◌≤◌, inl, inr, ℕ, ◌+◌, true, false, IsTrue, Option, Some, None, List, [], ◌∷◌, reverse, refl, sym, ap, subst, ◌∙◌, arith}
use Rattle.std.proofs.lemmas.List.{reverse-append, reverse-reverse}
use Rattle.score_base.specs.declared.ids.NodeId.{NodeId}
use Rattle.score_base.specs.declared.records.Record.{Record}
use Rattle.journal_words.specs.Small.{small, small_in_time}
use Rattle.grid_model.specs.declared.acts.Act.{Act}
use Rattle.grid_model.specs.declared.acts.Act.TheVariants as act
use Rattle.grid_model.specs.Documents.{DocumentData}
use Rattle.grid_model.specs.Nodes.{got, change, Writes}
use Rattle.grid_model.specs.Disks.{disklog}
use Rattle.grid_model.specs.Fuses.{fuse, is_record_at, with_record, lets_compaction}
use Rattle.grid_model.specs.Runs.{is_let, is_stop}
use Rattle.disk_laws.specs.DiskActs.{IsPromised}
use Rattle.disk_laws.specs.Shown.{Seats, first_seat, second_seat, AreAtRest}
use Rattle.disk_laws.specs.Ties.{IsTied}
use Rattle.disk_laws.specs.Calls.{HasAppended, HasCompacted, both_armed}
use Rattle.disk_laws.specs.Seats.{StandsUp, UpBehind}
use Rattle.disk_laws.proofs.Ties.{kept-lets, kept-tied, compacted-lets, tied-armed}
use Rattle.disk_laws.proofs.Owns.{same-owns, turned-owns}
use Rattle.disk_laws.proofs.NodeActs.{self, record-own, record-let, record-fuse, record-calm, record-disklog, record-journal, record-up, compacted-disklog, compacted-fuse, compacted-let, armed-fuse}

-- an act in which no count rises and that is no stop
pub calm-promised : (d : DocumentData) (p : List Act) (n : NodeId) (a : Act) → IsTrue (is_let d p a n) →
    is_stop a n ≡ false → IsPromised d p n a 0
calm-promised d p n a lets calm = record {
  goes_on = lets;
  paid = λ stop. let bad : true ≡ false = sym stop ∙ calm in grind arith;
  stopped = λ risen. absurd (risen refl);
}

-- ---- a record

pub keeps-up : (d : DocumentData) (p : List Act) (n : NodeId) (a : Act) (x : Record) (number : ℕ) (s t : Seats) →
    StandsUp d p n number s → IsTrue (is_record_at d a n) → change d (got p) a n ≡ Writes (Some x) →
    HasAppended (reverse (disklog d p n)) x number s t → UpBehind d p n a number (first_seat s) (second_seat s) t
keeps-up d p n a x number s t st is ch k = record {
  turn = record {
    own = record-own d a n is;
    more = 0;
    promised = calm-promised d p n a (record-let d p a n is ∙
        kept-lets (fuse d p n) s.live.left t.live.left s.other.left st.tied k.live.left k.live.unstopped)
        (record-calm d a n is);
    rise = same-owns s t k.second k.live.own (ap (λ z. z.own) k.other);
  };
  stands = record {
    up = record-up d p a n x ch ∙ st.up;
    rest = subst (λ r. AreAtRest r number t) (sym (ap reverse (record-disklog d p a n x is ch) ∙
        reverse-append (x ∷ []) (disklog d p n))) k.rest;
    tied = subst (λ f. IsTied f t.live.left t.other.left) (sym (record-fuse d p a n is))
        (subst (λ o. IsTied (with_record true (fuse d p n)) t.live.left o) (sym (ap (λ z. z.left) k.other))
        (kept-tied (fuse d p n) s.live.left t.live.left s.other.left st.tied k.live.left k.live.unstopped));
    plain = λ zero. record-disklog d p a n x is ch ∙ ap (λ r. x ∷ r) (st.plain zero) ∙
        sym (record-journal d p a n x ch);
  };
}

-- ---- a compaction, behind which both disks are disarmed

disarmed-rest : (r : List Record) (number : ℕ) (left : Option ℕ) (t : Seats) → AreAtRest r number t →
    AreAtRest r number (both_armed left t)
disarmed-rest r number left t is = record {
  live = is.live;
  other = is.other;
  is_live = is.is_live;
  log = is.log;
  number_is = is.number_is;
}

pub compacts-up : (d : DocumentData) (p : List Act) (n : NodeId) (number : ℕ) (s t : Seats) →
    StandsUp d p n number s → HasCompacted (reverse (disklog d p n)) number s t →
    UpBehind d p n (act.Compacted n) (number + 1) (first_seat s) (second_seat s) (both_armed None t)
compacts-up d p n number s t st k = record {
  turn = record {
    own = self n;
    more = 0;
    promised = calm-promised d p n (act.Compacted n) (compacted-let d p n ∙ lets) refl;
    rise = turned-owns s (both_armed None t) k.second own (ap (λ z. z.own) k.other);
  };
  stands = record {
    up = st.up;
    rest = disarmed-rest (reverse (disklog d (act.Compacted n ∷ p) n)) (number + 1) None t
        (subst (λ r. AreAtRest r (number + 1) t) same k.rest);
    tied = rw (compacted-fuse d p n) tt;
    plain = λ zero. let never : ⊥ = omega (arith, zero) in absurd never;
  };
}
  where
    same : small_in_time (reverse (disklog d p n)) ≡ reverse (disklog d (act.Compacted n ∷ p) n)
    same = ap (λ r. reverse (small r)) (reverse-reverse (disklog d p n)) ∙ ap reverse (sym (compacted-disklog d p n))

    lets : lets_compaction (fuse d p n) ≡ true
    lets = elim k.live [
      | inl six ↦ compacted-lets (fuse d p n) 6 s.live.left s.other.left t.live.left (omega arith) st.tied six.left
          six.unstopped
      | inr eight ↦ compacted-lets (fuse d p n) 8 s.live.left s.other.left t.live.left (omega arith) st.tied
          eight.left eight.unstopped
    ]

    own : t.live.own ≡ s.other.own
    own = elim k.live [ inl six ↦ six.own | inr eight ↦ eight.own ]

-- ---- an arming

pub arms-up : (d : DocumentData) (p : List Act) (n number k how : ℕ) (s : Seats) → StandsUp d p n number s → 1 ≤ k →
    UpBehind d p n (act.Armed n k how) number (first_seat s) (second_seat s) (both_armed (Some k) s)
arms-up d p n number k how s st live = record {
  turn = record {
    own = self n;
    more = 0;
    promised = calm-promised d p n (act.Armed n k how) refl refl;
    rise = same-owns s (both_armed (Some k) s) refl refl refl;
  };
  stands = record {
    up = st.up;
    rest = disarmed-rest (reverse (disklog d p n)) number (Some k) s st.rest;
    tied = rw (armed-fuse d p n k how) (tied-armed k live);
    plain = st.plain;
  };
}
