-- The disks of a node that goes down: a stop in a record or in a compaction with the crash behind it, and a crash.
use Rattle.std.proofs.Common.{◌≡◌, ◌≤◌, inl, inr, ◌⊎◌, ℕ, ◌+◌, IsTrue, Option, Some, None, List, [], ◌∷◌, reverse, refl, sym, ap, subst, ◌∙◌, arith}
use Rattle.std.proofs.lemmas.List.{reverse-append, reverse-reverse}
use Rattle.score_base.specs.declared.records.Record.{Record}
use Rattle.journal_words.specs.Small.{small}
use Rattle.node_journal.specs.Pairs.{in_order}
use Rattle.grid_model.specs.declared.acts.Act.{Act}
use Rattle.grid_model.specs.declared.acts.Act.TheVariants as act
use Rattle.grid_model.specs.declared.acts.Head.{Head}
use Rattle.grid_model.specs.declared.acts.Head.TheVariants as head
use Rattle.grid_model.specs.Documents.{DocumentData}
use Rattle.grid_model.specs.Nodes.{got, record_of}
use Rattle.grid_model.specs.Disks.{disklog}
use Rattle.grid_model.specs.Fuses.{fuse, lets_gate, lets_version, stops_in}
use Rattle.disk_laws.specs.SoFar.{IsJointRise}
use Rattle.disk_laws.specs.DiskActs.{IsPromised}
use Rattle.disk_laws.specs.Shown.{Shown, Seats, first_seat, second_seat, HasLog}
use Rattle.disk_laws.specs.Calls.{HasCrashed, WasCut, WasCutSmall}
use Rattle.disk_laws.specs.Seats.{StandsUp, StandsDown, HoldsLog, standing, in_doubt, compacting, IsPlain, IsTurn, DownBehind}
use Rattle.disk_laws.proofs.CountRises.{Rises, rise-later, rise-rose}
use Rattle.disk_laws.proofs.Ties.{stopped-by, gate-or, compaction-by, version-or}
use Rattle.disk_laws.proofs.Files.{crashed-seen, log-same, rest-log, rest-first, rest-second}
use Rattle.disk_laws.proofs.Owns.{live-rise, other-rise}
use Rattle.disk_laws.proofs.NodeActs.{self, DownLeaves, down-leaves, record-head, record-stops}
use Rattle.disk_laws.proofs.Ups.{calm-promised}

-- a node that goes down, by what its files hold then
fallen : (d : DocumentData) (p : List Act) (n number : ℕ) (h : Option Head) (a b first second : Shown) →
    IsPlain d p n number → HasCrashed a first → HasCrashed b second →
    HoldsLog d (act.Down n h ∷ p) n number first.file.seen second.file.seen →
    StandsDown d (act.Down n h ∷ p) n number first second
fallen d p n number h a b first second plain ca cb holds =
    let l : DownLeaves d p n h = down-leaves d p n h in
    record {
      down = l.up_is;
      first_settled = ca.crash.settled;
      second_settled = cb.crash.settled;
      holds = holds;
      tied = rw (l.fuse_is, ca.left, cb.left) tt;
      fresh = rw l.fuse_is refl;
      plain = λ zero. l.disklog_is ∙ plain zero ∙ sym l.journal_is;
    }

fallen-standing : (d : DocumentData) (p : List Act) (n number : ℕ) (h : Option Head) (a b : List ℕ) →
    HasLog (reverse (disklog d p n)) number a b → HoldsLog d (act.Down n h ∷ p) n number a b
fallen-standing d p n number h a b is = standing (subst (λ r. HasLog (reverse r) number a b)
    (sym (down-leaves d p n h).disklog_is) is)

-- a stop, by its cause
stop-promised : (d : DocumentData) (p : List Act) (n more : ℕ) (h : Head) →
    IsTrue (stops_in h (fuse d p n)) ⊎ (1 ≤ more) → IsPromised d p n (act.Down n (Some h)) more
stop-promised d p n more h cause = record { goes_on = refl; paid = λ stop. cause; stopped = λ risen. self n }

-- ---- a crash

pub crashes-down : (d : DocumentData) (p : List Act) (n number : ℕ) (s : Seats) (first second : Shown) →
    StandsUp d p n number s → HasCrashed (first_seat s) first → HasCrashed (second_seat s) second →
    DownBehind d p n (act.Down n None) number (first_seat s) (second_seat s) first second
crashes-down d p n number s first second st ca cb = record {
  turn = record {
    own = self n;
    more = 0;
    promised = calm-promised d p n (act.Down n None) refl refl;
    rise = record {
      of_first = 0;
      of_second = 0;
      first_is = inl (let e = ca.own in omega (arith, e));
      second_is =
          inl (let e = cb.own in omega (arith, e));
      sum = refl;
    };
  };
  stands = fallen d p n number None (first_seat s) (second_seat s) first second st.plain ca cb
      (fallen-standing d p n number None first.file.seen second.file.seen
      (log-same (reverse (disklog d p n)) number (first_seat s).file.seen (second_seat s).file.seen first.file.seen
      second.file.seen
      (crashed-seen (first_seat s) first (rest-first (reverse (disklog d p n)) number s st.rest) ca)
      (crashed-seen (second_seat s) second (rest-second (reverse (disklog d p n)) number s st.rest) cb)
      (rest-log (reverse (disklog d p n)) number s st.rest)));
}

-- ---- a stop in a record

cut-turn : (d : DocumentData) (p : List Act) (n number : ℕ) (h : Head) (x : Record) (s : Seats)
    (a b first second : Shown) → StandsUp d p n number s → record_of d (got p) h ≡ Some x →
    WasCut (reverse (disklog d p n)) x number s a b → HasCrashed a first → HasCrashed b second →
    IsTurn d p n (act.Down n (Some h)) (first_seat s) (second_seat s) first second
cut-turn d p n number h x s a b first second st is w ca cb = elim w.halted.cause [
  | inl rose ↦ paid (rise-rose s.live.own torn.own w.halted.later rose)
  | inr out ↦ burnt (rise-later s.live.own torn.own w.halted.later)
      (record-stops d (got p) h x (fuse d p n) is ∙ stopped-by (fuse d p n) s.live.left torn.left s.other.left st.tied
      w.halted.left out)
]
  where
    torn : Shown
    torn = in_order s.second (λ live _. live) a b

    joint : (least : ℕ) (r : Rises s.live.own torn.own least) →
        IsJointRise (first_seat s).own (second_seat s).own first.own second.own r.rise
    joint least r = live-rise s.second s.live s.other a b first second r.rise w.other r.is ca.own cb.own

    paid : Rises s.live.own torn.own 1 → IsTurn d p n (act.Down n (Some h)) (first_seat s) (second_seat s) first second
    paid r = record {
      own = self n;
      more = r.rise;
      promised = stop-promised d p n r.rise h (inr r.enough);
      rise =
          joint 1 r;
    }

    burnt : Rises s.live.own torn.own 0 → IsTrue (stops_in h (fuse d p n)) →
        IsTurn d p n (act.Down n (Some h)) (first_seat s) (second_seat s) first second
    burnt r by = record {
      own = self n;
      more = r.rise;
      promised = stop-promised d p n r.rise h (inl by);
      rise =
          joint 0 r;
    }

cut-holds : (d : DocumentData) (p : List Act) (n number : ℕ) (h : Head) (x : Record) (s : Seats)
    (a b first second : Shown) → StandsUp d p n number s → record_of d (got p) h ≡ Some x →
    WasCut (reverse (disklog d p n)) x number s a b → HasCrashed a first → HasCrashed b second →
    HoldsLog d (act.Down n (Some h) ∷ p) n number first.file.seen second.file.seen
cut-holds d p n number h x s a b first second st is w ca cb =
    elim (w.images first.file.seen second.file.seen ca.crash.image cb.crash.image) [
      | inl same ↦ fallen-standing d p n number (Some h) first.file.seen second.file.seen same
      | inr longer ↦ elim (gate-or (fuse d p n) s.live.left s.other.left st.tied) [
        | inl lets ↦ in_doubt x (l.compacting_is ∙ record-head d (got p) h x is) (l.doubt_is ∙ is)
            (ap lets_gate l.stop_is ∙ lets) (subst (λ r. HasLog r number first.file.seen second.file.seen)
            (sym (ap (λ r. reverse (x ∷ r)) l.disklog_is ∙ reverse-append (x ∷ []) (disklog d p n))) longer)
        | inr (k, left, few) ↦ fallen-standing d p n number (Some h) first.file.seen second.file.seen
            (w.early k left few first.file.seen second.file.seen ca.crash.image cb.crash.image)
      ]
    ]
  where
    l : DownLeaves d p n (Some h)
    l = down-leaves d p n (Some h)

pub cut-down : (d : DocumentData) (p : List Act) (n number : ℕ) (h : Head) (x : Record) (s : Seats)
    (a b first second : Shown) → StandsUp d p n number s → record_of d (got p) h ≡ Some x →
    WasCut (reverse (disklog d p n)) x number s a b → HasCrashed a first → HasCrashed b second →
    DownBehind d p n (act.Down n (Some h)) number (first_seat s) (second_seat s) first second
cut-down d p n number h x s a b first second st is w ca cb = record {
  turn = cut-turn d p n number h x s a b first second st is w ca cb;
  stands = fallen d p n number (Some h) a b first second st.plain ca cb
      (cut-holds d p n number h x s a b first second st is w ca cb);
}

-- ---- a stop in a compaction

small-turn : (d : DocumentData) (p : List Act) (n number : ℕ) (s : Seats) (a b first second : Shown) →
    StandsUp d p n number s → WasCutSmall (reverse (disklog d p n)) number s a b → HasCrashed a first →
    HasCrashed b second → IsTurn d p n (act.Down n (Some head.Compact)) (first_seat s) (second_seat s) first second
small-turn d p n number s a b first second st w ca cb = elim w.halted.cause [
  | inl rose ↦ paid (rise-rose s.other.own torn.own w.halted.later rose)
  | inr out ↦ burnt (rise-later s.other.own torn.own w.halted.later)
      (compaction-by (fuse d p n) s.live.left s.other.left torn.left st.tied w.halted.left out)
]
  where
    torn : Shown
    torn = in_order s.second (λ _ other. other) a b

    joint : (least : ℕ) (r : Rises s.other.own torn.own least) →
        IsJointRise (first_seat s).own (second_seat s).own first.own second.own r.rise
    joint least r = other-rise s.second s.live s.other a b first second r.rise w.live r.is ca.own cb.own

    paid : Rises s.other.own torn.own 1 → IsTurn d p n (act.Down n (Some head.Compact)) (first_seat s) (second_seat s)
        first second
    paid r = record {
      own = self n;
      more = r.rise;
      promised = stop-promised d p n r.rise head.Compact (inr r.enough);
      rise =
          joint 1 r;
    }

    burnt : Rises s.other.own torn.own 0 → IsTrue (stops_in head.Compact (fuse d p n)) →
        IsTurn d p n (act.Down n (Some head.Compact)) (first_seat s) (second_seat s) first second
    burnt r by = record {
      own = self n;
      more = r.rise;
      promised = stop-promised d p n r.rise head.Compact (inl by);
      rise = joint 0 r;
    }

small-holds : (d : DocumentData) (p : List Act) (n number : ℕ) (s : Seats) (a b first second : Shown) →
    StandsUp d p n number s → WasCutSmall (reverse (disklog d p n)) number s a b → HasCrashed a first →
    HasCrashed b second → HoldsLog d (act.Down n (Some head.Compact) ∷ p) n number first.file.seen second.file.seen
small-holds d p n number s a b first second st w ca cb =
    elim (w.images first.file.seen second.file.seen ca.crash.image cb.crash.image) [
      | inl same ↦ fallen-standing d p n number (Some head.Compact) first.file.seen second.file.seen same
      | inr less ↦ elim (version-or (fuse d p n) s.live.left s.other.left st.tied) [
        | inl lets ↦ compacting l.compacting_is (ap lets_version l.stop_is ∙ lets)
            (subst (λ r. HasLog r (number + 1) first.file.seen second.file.seen)
            (ap (λ r. reverse (small r)) (reverse-reverse (disklog d p n) ∙ sym l.disklog_is)) less)
        | inr (k, left, few) ↦ fallen-standing d p n number (Some head.Compact) first.file.seen second.file.seen
            (w.early k left few first.file.seen second.file.seen ca.crash.image cb.crash.image)
      ]
    ]
  where
    l : DownLeaves d p n (Some head.Compact)
    l = down-leaves d p n (Some head.Compact)

pub small-down : (d : DocumentData) (p : List Act) (n number : ℕ) (s : Seats) (a b first second : Shown) →
    StandsUp d p n number s → WasCutSmall (reverse (disklog d p n)) number s a b → HasCrashed a first →
    HasCrashed b second → DownBehind d p n (act.Down n (Some head.Compact)) number (first_seat s) (second_seat s)
    first second
small-down d p n number s a b first second st w ca cb = record {
  turn = small-turn d p n number s a b first second st w ca cb;
  stands = fallen d p n number (Some head.Compact) a b first second st.plain ca cb
      (small-holds d p n number s a b first second st w ca cb);
}
