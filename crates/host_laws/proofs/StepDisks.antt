-- The disks of a node that is up, behind an event whose record, where there is one, was kept.
use Rattle.std.proofs.Common.{◌≡◌, ℕ, true, IsTrue, List, [], ◌∷◌, ◌++◌, reverse, Some, refl, sym, ap, subst, ◌∙◌}
use Rattle.std.proofs.lemmas.Bool.{and_parts, and_from}
use Rattle.std.proofs.lemmas.List.{reverse-append}
use Rattle.std.specs.List.{list_all}
use Rattle.score_base.specs.declared.ids.NodeId.{NodeId}
use Rattle.score_base.specs.declared.records.Record.{Record}
use Rattle.score_disk.specs.declared.disk.Disk.{Ghosts}
use Rattle.node_journal.specs.declared.pair.Pair.{Pair}
use Rattle.node_journal.specs.PairDisks.{TellsBoth, first_of, last_of, list_of}
use Rattle.grid_model.specs.declared.acts.Act.{Act}
use Rattle.grid_model.specs.declared.acts.Act.TheVariants as act
use Rattle.grid_model.specs.Disks.{disklog}
use Rattle.grid_model.specs.Documents.{DocumentData}
use Rattle.grid_model.specs.Fuses.{is_record_at}
use Rattle.grid_model.specs.Histories.{after}
use Rattle.grid_model.specs.Nodes.{Writes, change, got}
use Rattle.node_core.specs.Steps.{IsUnwritten, IsAppended}
use Rattle.disk_laws.specs.DiskActs.{is_quiet, IsDiskEvent}
use Rattle.disk_laws.specs.Seats.{StandsUp, UpBehind}
use Rattle.disk_laws.specs.Calls.{HasAppended}
use Rattle.disk_laws.specs.Shown.{Shown, seats, first_seat, second_seat}
use Rattle.disk_laws.specs.SoFar.{IsJointRise}
use Rattle.disk_laws.proofs.CountRises.{joint-none}
use Rattle.disk_laws.proofs.Others.{up-behind, up-quiet}
use Rattle.disk_laws.proofs.Unmoved.{unmoved-all}
use Rattle.disk_laws.proofs.Ups.{keeps-up}
use Rattle.view_laws.specs.Turns.{is_quiet as is_quiet_turn}
use Rattle.host_laws.specs.Turns.{MovesDisks, quiet, turned}
use Rattle.host_laws.proofs.DiskWords.{first-is, last-is, unwritten-seats, unwritten-tells, appended-seats, appended-tells}

-- ---- acts in which no disk has a part

quiet-turn : (a : Act) → is_quiet_turn a ≡ is_quiet a
quiet-turn (act.Prepared m t p) = refl
quiet-turn (act.Ended m t o) = refl
quiet-turn (act.Ceiling m c) = refl
quiet-turn (act.Decided t f) = refl
quiet-turn (act.Closed t) = refl
quiet-turn (act.Compacted m) = refl
quiet-turn (act.Armed m k how) = refl
quiet-turn (act.Down m h) = refl
quiet-turn (act.Up m f) = refl
quiet-turn (act.StillDown m) = refl
quiet-turn a = refl

pub quiet-acts : (acts : List Act) → list_all is_quiet_turn acts ≡ true → IsTrue (list_all is_quiet acts)
quiet-acts [] h = refl
quiet-acts (a ∷ acts) h =
    let parts = and_parts (is_quiet_turn a) (list_all is_quiet_turn acts) h in
    and_from (is_quiet a) (list_all is_quiet acts) (sym (quiet-turn a) ∙ parts.0) (quiet-acts acts parts.1)

pub quiet-join : (acts more : List Act) → IsTrue (list_all is_quiet acts) → IsTrue (list_all is_quiet more) →
    IsTrue (list_all is_quiet (acts ++ more))
quiet-join [] more h k = k
quiet-join (a ∷ acts) more h k =
    let parts = and_parts (is_quiet a) (list_all is_quiet acts) h in
    and_from (is_quiet a) (list_all is_quiet (acts ++ more)) parts.0 (quiet-join acts more parts.1 k)

module _ {D : Type 0} {g : Ghosts D} where
  -- a rise of what the disks of a pair show is a rise of their counts: from that of the pair on, to it, and both
  pub from-seats : (p : Pair D g) (first last more : ℕ) →
      IsJointRise (first_seat (seats p)).own (second_seat (seats p)).own first last more →
      IsJointRise (g.own (first_of p)) (g.own (last_of p)) first last more
  from-seats p first last more rise =
      subst (λ (a : Shown). IsJointRise a.own (g.own (last_of p)) first last more) (first-is p)
      (subst (λ (a : Shown). IsJointRise (first_seat (seats p)).own a.own first last more) (last-is p) rise)

  pub to-seats : (q : Pair D g) (first last more : ℕ) →
      IsJointRise first last (first_seat (seats q)).own (second_seat (seats q)).own more →
      IsJointRise first last (g.own (first_of q)) (g.own (last_of q)) more
  to-seats q first last more rise =
      subst (λ (a : Shown). IsJointRise first last a.own (g.own (last_of q)) more) (first-is q)
      (subst (λ (a : Shown). IsJointRise first last (first_seat (seats q)).own a.own more) (last-is q) rise)

  pub seats-rise : (p q : Pair D g) (more : ℕ) →
      IsJointRise (first_seat (seats p)).own (second_seat (seats p)).own (first_seat (seats q)).own
      (second_seat (seats q)).own more →
      IsJointRise (g.own (first_of p)) (g.own (last_of p)) (g.own (first_of q)) (g.own (last_of q)) more
  seats-rise p q more rise =
      from-seats p (g.own (first_of q)) (g.own (last_of q)) more
      (to-seats q (first_seat (seats p)).own (second_seat (seats p)).own more rise)

  -- ---- behind acts

  -- the disks of n behind these acts, in which they did what they promise
  pub record DisksBehind (d : DocumentData) (past acts : List Act) (n : NodeId) (p q : Pair D g) : Type 0 where
    pub more : ℕ
    pub moves : MovesDisks d past acts n more
    pub rise : IsJointRise (g.own (first_of p)) (g.own (last_of p)) (g.own (first_of q)) (g.own (last_of q)) more
    pub tells : TellsBoth q
    pub number : q.number ≡ p.number
    pub disks : StandsUp d (after past acts) n q.number (seats q)

  pub unwritten-behind : (d : DocumentData) (past acts : List Act) (n : NodeId) (p q : Pair D g) →
      IsTrue (list_all is_quiet acts) → TellsBoth p → StandsUp d past n p.number (seats p) → IsUnwritten p q →
      DisksBehind d past acts n p q
  unwritten-behind d past acts n p q silent tells st u =
      let same : seats q ≡ seats p = unwritten-seats p q u in
      record {
        more = 0;
        moves = quiet silent refl;
        rise = seats-rise p q 0
            (subst (λ s. IsJointRise (first_seat (seats p)).own (second_seat (seats p)).own (first_seat s).own
            (second_seat s).own 0) (sym same)
            (joint-none (first_seat (seats p)).own (second_seat (seats p)).own (first_seat (seats p)).own
            (second_seat (seats p)).own refl refl));
        tells = unwritten-tells p q u tells;
        number = u.number;
        disks = up-quiet d past acts n q.number (seats q) silent
            (subst (λ s. StandsUp d past n q.number s) (sym same)
            (subst (λ k. StandsUp d past n k (seats p)) (sym u.number) st));
      }

  pub appended-behind : (d : DocumentData) (past acts front behind : List Act) (a : Act) (n : NodeId) (x : Record)
      (p q : Pair D g) → acts ≡ front ++ a ∷ behind → IsTrue (list_all is_quiet front) →
      IsTrue (list_all is_quiet behind) → IsTrue (is_record_at d a n) →
      change d (got (after past front)) a n ≡ Writes (Some x) → TellsBoth p → list_of p ≡ reverse (disklog d past n) →
      StandsUp d past n p.number (seats p) → IsAppended x p q → DisksBehind d past acts n p q
  appended-behind d past acts front behind a n x p q are before later at writes tells list st w =
      let here : List Act = after past front in
      let same : list_of p ≡ reverse (disklog d here n) =
      list ∙ ap reverse (sym (unmoved-all d past front n before).disklog_is) in
      let up : UpBehind d here n a p.number (first_seat (seats p)) (second_seat (seats p)) (seats q) =
      keeps-up d here n a x p.number (seats p) (seats q) (up-quiet d past front n p.number (seats p) before st) at
      writes
      (subst (λ r. HasAppended r x p.number (seats p) (seats q)) same
      (appended-seats x p q w tells)) in
      let is : IsDiskEvent d past acts n up.turn.more =
      record {
        front = front;
        turn = a;
        behind = behind;
        are = are;
        quiet_front = before;
        quiet_behind = later;
        own = up.turn.own;
        promised = up.turn.promised;
      } in
      record {
        more = up.turn.more;
        moves = turned is;
        rise = seats-rise p q up.turn.more up.turn.rise;
        tells = appended-tells x p q w tells;
        number = w.number;
        disks = subst (λ k. StandsUp d (after past acts) n k (seats q)) (sym w.number)
            (up-behind d past acts n up.turn.more p.number (seats q) is up.stands);
      }

-- ---- the list in time

pub list-written : (x : Record) (r list : List Record) → list ≡ reverse r → list ++ x ∷ [] ≡ reverse (x ∷ r)
list-written x r list is = ap (λ q. q ++ x ∷ []) is ∙ sym (reverse-append (x ∷ []) r)
