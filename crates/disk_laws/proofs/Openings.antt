-- The disks of a node that is down: at the start, an arming, an opening that comes up, and one that fails.
use Rattle.std.proofs.Common.{◌≡◌, ◌≤◌, inl, inr, ◌⊎◌, ℕ, ◌+◌, nat_lt, Bool, true, false, IsTrue, Option, Some, None, List, [], ◌∷◌, reverse, length, refl, sym, ap, subst, ◌∙◌, arith}
use Rattle.std.proofs.lemmas.Bool.Decides.{nat_tests}
use Rattle.std.proofs.lemmas.List.{length-reverse}
use Rattle.score_base.specs.declared.ids.NodeId.{NodeId}
use Rattle.score_base.specs.declared.records.Record.{Record}
use Rattle.score_disk.specs.Files.{IsSettled, IsImage}
use Rattle.node_journal.specs.Pairs.{age, second_lives, IsLive}
use Rattle.node_journal.specs.Log.{generation}
use Rattle.node_journal.proofs.Pairs.{settled_image}
use Rattle.journal_words.specs.Small.{small}
use Rattle.grid_model.specs.declared.acts.Act.{Act}
use Rattle.grid_model.specs.declared.acts.Act.TheVariants as act
use Rattle.grid_model.specs.declared.acts.Flag.{Flag}
use Rattle.grid_model.specs.declared.acts.Flag.TheVariants as flag
use Rattle.grid_model.specs.Documents.{DocumentData}
use Rattle.grid_model.specs.Nodes.{node, journal, found, is_kept}
use Rattle.grid_model.specs.Disks.{disklog, is_compacting, reopened}
use Rattle.grid_model.specs.Fuses.{Fuse, fuse, fuse_at_stop, with_opening, is_empty, lets_found, stops_opening}
use Rattle.grid_model.specs.Schedules.{flag_at}
use Rattle.grid_model.specs.Runs.{is_let}
use Rattle.disk_laws.specs.DiskActs.{IsPromised}
use Rattle.disk_laws.specs.Shown.{Shown, Seats, first_seat, second_seat, HasLog, AreAtRest}
use Rattle.disk_laws.specs.Ties.{IsTied, is_fresh}
use Rattle.disk_laws.specs.Calls.{HasSpent, HasHalted, HasCrashed, CameUp, FailedToOpen, IsEmptyPair, IsNew, armed}
use Rattle.disk_laws.specs.Seats.{StandsDown, HoldsLog, standing, in_doubt, compacting, IsPlain, IsTurn, UpBehind, DownBehind, StandsNew, finds_by, flag_by}
use Rattle.disk_laws.proofs.CountRises.{Rises, rise-later, rise-rose, joint-none, joint-first, joint-second}
use Rattle.disk_laws.proofs.Ties.{tied-armed, tied-swap, tied-live, tied-other, opened-tied, anew-tied, failed-by, uncounted}
use Rattle.disk_laws.proofs.Files.{log-same, log-one, empty-log, empty-kept, empty-other}
use Rattle.disk_laws.proofs.NodeActs.{self, armed-fuse, UpLeaves, up-leaves, StillLeaves, still-leaves}
use Rattle.disk_laws.proofs.Ups.{calm-promised}

-- ---- the start

less-none : (k : ℕ) → nat_lt k k ≡ false
less-none k = grind (arith, nat_tests)

-- two new disks are those of a node that was never opened
new-down : (d : DocumentData) (n : NodeId) (first second : Shown) → IsNew first → IsNew second →
    StandsDown d [] n 0 first second
new-down d n first second a b = record {
  down = refl;
  first_settled = a.settled;
  second_settled = b.settled;
  holds = standing (log-same [] 0 [] [] first.file.seen second.file.seen a.empty b.empty
      (empty-log [] [] (less-none (age (generation []))) (omega arith)));
  tied = rw (a.unarmed, b.unarmed) tt;
  fresh = refl;
  plain = λ zero. refl;
}

pub new-stands : (d : DocumentData) (n : NodeId) (first second : Shown) → IsNew first → IsNew second →
    StandsNew d [] n first second
new-stands d n first second a b = record {
  stands = new-down d n first second a b;
  sure = refl;
  uncompacted = refl;
  unarmed = refl;
}

-- ---- an arming

armed-holds : (d : DocumentData) (p : List Act) (n number k how : ℕ) (a b : List ℕ) → HoldsLog d p n number a b →
    HoldsLog d (act.Armed n k how ∷ p) n number a b
armed-holds d p n number k how a b (standing is) = standing is
armed-holds d p n number k how a b (in_doubt last not_small doubt lets is) = in_doubt last not_small doubt lets is
armed-holds d p n number k how a b (compacting is_small lets is) = compacting is_small lets is

arms-stands : (d : DocumentData) (p : List Act) (n number k how : ℕ) (first second : Shown) →
    StandsDown d p n number first second → 1 ≤ k → StandsDown d (act.Armed n k how ∷ p) n number
    (armed (Some k) first) (armed (Some k) second)
arms-stands d p n number k how first second st live = record {
  down = st.down;
  first_settled = st.first_settled;
  second_settled = st.second_settled;
  holds = armed-holds d p n number k how first.file.seen second.file.seen st.holds;
  tied = rw (armed-fuse d p n k how) (tied-armed k live);
  fresh = rw (armed-fuse d p n k how) refl;
  plain = st.plain;
}

pub arms-down : (d : DocumentData) (p : List Act) (n number k how : ℕ) (first second : Shown) →
    StandsDown d p n number first second → 1 ≤ k → DownBehind d p n (act.Armed n k how) number first second
    (armed (Some k) first) (armed (Some k) second)
arms-down d p n number k how first second st live = record {
  turn = record {
    own = self n;
    more = 0;
    promised = calm-promised d p n (act.Armed n k how) refl refl;
    rise = joint-none first.own second.own first.own second.own refl refl;
  };
  stands = arms-stands d p n number k how first second st live;
}

-- ---- what an opening finds

-- these records and this generation are what n opens with, and the opening may say so
pub record Opens (d : DocumentData) (p : List Act) (n : NodeId) (records : List Record) (number : ℕ) (f : Flag) : Type
    0 where
  pub lets : IsTrue (is_let d p (act.Up n f) n)
  pub list : records ≡ reverse (disklog d (act.Up n f ∷ p) n)
  pub plain : IsPlain d (act.Up n f ∷ p) n number

less-next : (k : ℕ) → nat_lt k (k + 1) ≡ true
less-next k = grind (arith, nat_tests)

up-let : (d : DocumentData) (p : List Act) (n : NodeId) (f : Flag) →
    (f ≡ flag.Kept → IsTrue (lets_found (is_compacting p n) (fuse_at_stop d p n))) → IsTrue (is_let d p (act.Up n f) n)
up-let d p n flag.Kept lets = let may : lets_found (is_compacting p n) (fuse_at_stop d p n) ≡ true = lets refl in
    rw (self n, may) refl
up-let d p n f lets = refl

-- a flag that says nothing was found
gone-flag : (b : Bool) (o : Option Record) → is_kept (flag_at b o false) ≡ false
gone-flag true o = refl
gone-flag false None = refl
gone-flag false (Some x) = refl

reopened-gone : (b : Bool) (o : Option Record) (r : List Record) → reopened b false o r ≡ r
reopened-gone true o r = refl
reopened-gone false o r = refl

opens-gone : (d : DocumentData) (p : List Act) (n : NodeId) (number : ℕ) (records : List Record) →
    IsPlain d p n number → records ≡ reverse (disklog d p n) →
    Opens d p n records number (flag_at (is_compacting p n) (node d p n).doubt false)
opens-gone d p n number records plain are =
    let f : Flag = flag_at (is_compacting p n) (node d p n).doubt false in
    let l : UpLeaves d p n f = up-leaves d p n f in
    let gone : is_kept f ≡ false = gone-flag (is_compacting p n) (node d p n).doubt in
    let list : disklog d (act.Up n f ∷ p) n ≡ disklog d p n = l.disklog_is ∙
    ap (λ b. reopened (is_compacting p n) b (node d p n).doubt (disklog d p n)) gone ∙
    reopened-gone (is_compacting p n) (node d p n).doubt (disklog d p n) in
    let log : journal d (act.Up n f ∷ p) n ≡ journal d p n = l.journal_is ∙
    ap (λ b. found b (node d p n).doubt (journal d p n)) gone in
    record {
      lets = up-let d p n f (λ kept. let bad : true ≡ false = sym (ap is_kept kept) ∙ gone in grind arith);
      list = are ∙ ap reverse (sym list);
      plain = λ zero. list ∙ plain zero ∙ sym log;
    }

opens-doubt : (d : DocumentData) (p : List Act) (n : NodeId) (number : ℕ) (last : Record) (records : List Record) →
    IsPlain d p n number → is_compacting p n ≡ false → (node d p n).doubt ≡ Some last →
    IsTrue (lets_found false (fuse_at_stop d p n)) → records ≡ reverse (last ∷ disklog d p n) →
    Opens d p n records number (flag_at (is_compacting p n) (node d p n).doubt true)
opens-doubt d p n number last records plain not_small doubt lets are =
    let f : Flag = flag_at (is_compacting p n) (node d p n).doubt true in
    let l : UpLeaves d p n f = up-leaves d p n f in
    let kept : f ≡ flag.Kept = rw (not_small, doubt) refl in
    let list : disklog d (act.Up n f ∷ p) n ≡ last ∷ disklog d p n = l.disklog_is ∙
    ap (λ b. reopened (is_compacting p n) b (node d p n).doubt (disklog d p n)) (ap is_kept kept) ∙
    rw (not_small, doubt) refl in
    let log : journal d (act.Up n f ∷ p) n ≡ last ∷ journal d p n = l.journal_is ∙
    ap (λ b. found b (node d p n).doubt (journal d p n)) (ap is_kept kept) ∙ rw doubt refl in
    record {
      lets = up-let d p n f (λ is. ap (λ b. lets_found b (fuse_at_stop d p n)) not_small ∙ lets);
      list = are ∙ ap reverse (sym list);
      plain = λ zero. list ∙ ap (λ r. last ∷ r) (plain zero) ∙ sym log;
    }

opens-small : (d : DocumentData) (p : List Act) (n : NodeId) (number : ℕ) (records : List Record) →
    is_compacting p n ≡ true → IsTrue (lets_found true (fuse_at_stop d p n)) →
    records ≡ reverse (small (disklog d p n)) → Opens d p n records (number + 1)
    (flag_at (is_compacting p n) (node d p n).doubt true)
opens-small d p n number records is_small lets are =
    let f : Flag = flag_at (is_compacting p n) (node d p n).doubt true in
    let l : UpLeaves d p n f = up-leaves d p n f in
    let kept : f ≡ flag.Kept = rw is_small refl in
    let list : disklog d (act.Up n f ∷ p) n ≡ small (disklog d p n) = l.disklog_is ∙
    ap (λ b. reopened (is_compacting p n) b (node d p n).doubt (disklog d p n)) (ap is_kept kept) ∙
    rw is_small refl in
    record {
      lets = up-let d p n f (λ is. ap (λ b. lets_found b (fuse_at_stop d p n)) is_small ∙ lets);
      list = are ∙ ap reverse (sym list);
      plain = λ zero. let never : ⊥ = omega (arith, zero) in absurd never;
    }

finds-same : (b : Bool) (number count : ℕ) → finds_by b number number count count ≡ false
finds-same true number count = less-none number
finds-same false number count = less-none count

pub opens-by : (d : DocumentData) (p : List Act) (n number number' : ℕ) (records : List Record) (a b : List ℕ) →
    IsPlain d p n number → HoldsLog d p n number a b → HasLog records number' a b →
    Opens d p n records number' (flag_by d p n number number' (length records))
opens-by d p n number number' records a b plain (standing is) log =
    let one = log-one records (reverse (disklog d p n)) number' number a b log is in
    let count : length records ≡ length (disklog d p n) = ap length one.0 ∙ length-reverse (disklog d p n) in
    let finds : finds_by (is_compacting p n) number number' (length (disklog d p n)) (length records) ≡ false =
    rw (one.1, count) (finds-same (is_compacting p n) number (length (disklog d p n))) in
    subst (λ x. Opens d p n records number' (flag_at (is_compacting p n) (node d p n).doubt x)) (sym finds)
    (subst (λ k. Opens d p n records k (flag_at (is_compacting p n) (node d p n).doubt false)) (sym one.1)
    (opens-gone d p n number records plain one.0))
opens-by d p n number number' records a b plain (in_doubt last not_small doubt lets is) log =
    let one = log-one records (reverse (last ∷ disklog d p n)) number' number a b log is in
    let count : length records ≡ length (disklog d p n) + 1 = ap length one.0 ∙
    length-reverse (last ∷ disklog d p n) ∙ omega arith in
    let finds : finds_by (is_compacting p n) number number' (length (disklog d p n)) (length records) ≡ true =
    rw (not_small, count) (less-next (length (disklog d p n))) in
    subst (λ x. Opens d p n records number' (flag_at (is_compacting p n) (node d p n).doubt x)) (sym finds)
    (subst (λ k. Opens d p n records k (flag_at (is_compacting p n) (node d p n).doubt true)) (sym one.1)
    (opens-doubt d p n number last records plain not_small doubt lets one.0))
opens-by d p n number number' records a b plain (compacting is_small lets is) log =
    let one = log-one records (reverse (small (disklog d p n))) number' (number + 1) a b log is in
    let finds : finds_by (is_compacting p n) number number' (length (disklog d p n)) (length records) ≡ true =
    rw (is_small, one.1) (less-next number) in
    subst (λ x. Opens d p n records number' (flag_at (is_compacting p n) (node d p n).doubt x)) (sym finds)
    (subst (λ k. Opens d p n records k (flag_at (is_compacting p n) (node d p n).doubt true)) (sym one.1)
    (opens-small d p n number records is_small lets one.0))

-- ---- an opening that comes up

none-in : (r : List Record) → [] ≡ reverse r → r ≡ []
none-in [] e = refl
none-in (x ∷ r) e = let bad : 0 ≡ length (x ∷ r) = ap length e ∙ length-reverse (x ∷ r) in grind arith

-- the fuses behind an opening that wrote nothing
untouched-tied : (b empty : Bool) (x : Option Fuse) (l o f g : Shown) → IsTrue (is_fresh x) → IsTied x f.left g.left →
    first_seat (record { second = b; live = l; other = o }) ≡ f →
    second_seat (record { second = b; live = l; other = o }) ≡ g → IsTied (with_opening empty x) l.left o.left
untouched-tied true empty x l o f g fresh tied one two =
    rw (two, one) (opened-tied empty x g.left f.left (tied-swap x f.left g.left fresh tied))
untouched-tied false empty x l o f g fresh tied one two = rw (one, two) (opened-tied empty x f.left g.left tied)

-- and behind one that made the first file anew, which is the live one then
anew-by : (b : Bool) (x : Option Fuse) (l o f g : Shown) → b ≡ false → IsTied x f.left g.left →
    HasSpent 2 f (first_seat (record { second = b; live = l; other = o })) →
    second_seat (record { second = b; live = l; other = o }) ≡ g → IsTied (with_opening true x) l.left o.left
anew-by true x l o f g first tied spent two = grind arith
anew-by false x l o f g first tied spent two = rw two (anew-tied x f.left l.left g.left tied spent.left spent.unstopped)

pub first-by : (b : Bool) (l o f g : Shown) → IsEmptyPair f g → IsLive b l.file.seen o.file.seen →
    second_seat (record { second = b; live = l; other = o }) ≡ g → b ≡ false
first-by true l o f g e lives two =
    let none : second_lives o.file.seen l.file.seen ≡ false =
    rw two (empty-other f.file.seen g.file.seen o.file.seen e.0 e.1) in
    let some : second_lives o.file.seen l.file.seen ≡ true = lives in
    let bad : true ≡ false = sym some ∙ none in
    absurd (grind arith)
first-by false l o f g e lives two = refl

-- an opening that read nothing finds an empty journal
empty-journal : (d : DocumentData) (p : List Act) (n : NodeId) (records : List Record) (number : ℕ) (f : Flag)
    (a b : List ℕ) → Opens d p n records number f → HasLog records number a b → second_lives a b ≡ false →
    length a ≤ 2 → journal d (act.Up n f ∷ p) n ≡ []
empty-journal d p n records number f a b o log lives short =
    let one = log-one records [] number 0 a b log (empty-log a b lives short) in
    let none : disklog d (act.Up n f ∷ p) n ≡ [] = none-in (disklog d (act.Up n f ∷ p) n) (sym one.0 ∙ o.list) in
    sym (o.plain one.1) ∙ none

pub opens-up : (d : DocumentData) (p : List Act) (n number number' : ℕ) (records : List Record) (first second : Shown)
    (t : Seats) → StandsDown d p n number first second → CameUp records number' first second t →
    UpBehind d p n (act.Up n (flag_by d p n number number' (length records))) number' first second t
opens-up d p n number number' records first second t st c = record {
  turn = record {
    own = self n;
    more = 0;
    promised = calm-promised d p n (act.Up n f) o.lets refl;
    rise = joint-none first.own second.own (first_seat t).own (second_seat t).own own (ap (λ z. z.own) c.second_is);
  };
  stands = record {
    up = l.up_is;
    rest = subst (λ r. AreAtRest r number' t) o.list c.rest;
    tied = subst (λ x. IsTied x t.live.left t.other.left) (sym l.fuse_is) tied;
    plain = o.plain;
  };
}
  where
    f : Flag
    f = flag_by d p n number number' (length records)

    o : Opens d p n records number' f
    o = opens-by d p n number number' records first.file.seen second.file.seen st.plain st.holds c.log

    l : UpLeaves d p n f
    l = up-leaves d p n f

    own : (first_seat t).own ≡ first.own
    own = elim c.first_is [ inl same ↦ ap (λ z. z.own) same | inr (e, spent) ↦ spent.own ]

    tied : IsTied (with_opening (is_empty (journal d (act.Up n f ∷ p) n)) (fuse d p n)) t.live.left t.other.left
    tied = elim c.first_is [
      | inl same ↦ untouched-tied t.second (is_empty (journal d (act.Up n f ∷ p) n)) (fuse d p n) t.live t.other first
          second st.fresh st.tied same c.second_is
      | inr (e, spent) ↦ subst (λ j. IsTied (with_opening (is_empty j) (fuse d p n)) t.live.left t.other.left)
          (sym (empty-journal d p n records number' f first.file.seen second.file.seen o c.log e.0 e.1))
          (anew-by t.second (fuse d p n) t.live t.other first second
          (first-by t.second t.live t.other first second e c.rest.is_live c.second_is) st.tied spent c.second_is)
    ]

-- ---- an opening that fails, with the crash behind it

crashed-as : (s torn t : Shown) → IsSettled s.file → torn.file ≡ s.file → HasCrashed torn t → t.file.seen ≡ s.file.seen
crashed-as s torn t settled same c = settled_image s.file t.file.seen settled
    (subst (λ f. IsImage f t.file.seen) same c.crash.image)

-- the log is as before
failed-log : (first second a b first' second' : Shown) → IsSettled first.file → IsSettled second.file →
    FailedToOpen first second a b → HasCrashed a first' → HasCrashed b second' → (records : List Record) (k : ℕ) →
    HasLog records k first.file.seen second.file.seen → HasLog records k first'.file.seen second'.file.seen
failed-log first second a b first' second' sf ss u ca cb records k log = elim u.first_file [
  | inl (same, left) ↦ log-same records k first.file.seen second.file.seen first'.file.seen second'.file.seen
      (crashed-as first a first' sf same ca) two log
  | inr (e, short) ↦
      let few : length first'.file.seen ≤ 2 = short first'.file.seen ca.crash.image in
      let one = log-one records [] k 0 first.file.seen second.file.seen log
      (empty-log first.file.seen second.file.seen e.0 e.1) in
      let now : HasLog [] 0 first'.file.seen second.file.seen =
      empty-log first'.file.seen second.file.seen (empty-kept first.file.seen first'.file.seen second.file.seen
      e.0 e.1 few) few in
      rw (one.0, one.1, two) now
]
  where
    two : second'.file.seen ≡ second.file.seen
    two = crashed-as second b second' ss u.second_file cb

still-holds : (d : DocumentData) (p : List Act) (n number : ℕ) (a b a' b' : List ℕ) →
    ((records : List Record) (k : ℕ) → HasLog records k a b → HasLog records k a' b') → HoldsLog d p n number a b →
    HoldsLog d (act.StillDown n ∷ p) n number a' b'
still-holds d p n number a b a' b' keep (standing is) =
    let l : StillLeaves d p n = still-leaves d p n in
    standing (subst (λ r. HasLog (reverse r) number a' b') (sym l.disklog_is)
    (keep (reverse (disklog d p n)) number is))
still-holds d p n number a b a' b' keep (in_doubt last not_small doubt lets is) =
    let l : StillLeaves d p n = still-leaves d p n in
    in_doubt last (l.compacting_is ∙ not_small) (l.doubt_is ∙ doubt) (ap (lets_found false) l.stop_is ∙ lets)
    (subst (λ r. HasLog (reverse (last ∷ r)) number a' b') (sym l.disklog_is)
    (keep (reverse (last ∷ disklog d p n)) number is))
still-holds d p n number a b a' b' keep (compacting is_small lets is) =
    let l : StillLeaves d p n = still-leaves d p n in
    compacting (l.compacting_is ∙ is_small) (ap (lets_found true) l.stop_is ∙ lets)
    (subst (λ r. HasLog (reverse (small r)) (number + 1) a' b') (sym l.disklog_is)
    (keep (reverse (small (disklog d p n))) (number + 1) is))

-- the journal of files without a record is empty
no-journal : (d : DocumentData) (p : List Act) (n number : ℕ) (a b : List ℕ) → IsPlain d p n number →
    HoldsLog d p n number a b → second_lives a b ≡ false → length a ≤ 2 → journal d p n ≡ []
no-journal d p n number a b plain (standing is) lives short =
    let one = log-one [] (reverse (disklog d p n)) 0 number a b (empty-log a b lives short) is in
    sym (plain (sym one.1)) ∙ none-in (disklog d p n) one.0
no-journal d p n number a b plain (in_doubt last not_small doubt lets is) lives short =
    let one = log-one [] (reverse (last ∷ disklog d p n)) 0 number a b (empty-log a b lives short) is in
    let bad : last ∷ disklog d p n ≡ [] = none-in (last ∷ disklog d p n) one.0 in
    absurd (grind arith)
no-journal d p n number a b plain (compacting is_small lets is) lives short =
    let one = log-one [] (reverse (small (disklog d p n))) 0 (number + 1) a b (empty-log a b lives short) is in
    let zero : 0 ≡ number + 1 = one.1 in
    let never : ⊥ = omega (arith, zero) in
    absurd never

still-promised : (d : DocumentData) (p : List Act) (n more : ℕ) →
    IsTrue (stops_opening (fuse d p n) (journal d p n)) ⊎ (1 ≤ more) → IsPromised d p n (act.StillDown n) more
still-promised d p n more cause = record { goes_on = refl; paid = λ stop. cause; stopped = λ risen. self n }

fails-turn : (d : DocumentData) (p : List Act) (n number : ℕ) (first second a b first' second' : Shown) →
    StandsDown d p n number first second → FailedToOpen first second a b → HasCrashed a first' →
    HasCrashed b second' → IsTurn d p n (act.StillDown n) first second first' second'
fails-turn d p n number first second a b first' second' st u ca cb = elim u.halted [
  | inl (h, same) ↦ elim h.cause [
    | inl rose ↦ let r : Rises first.own a.own 1 = rise-rose first.own a.own h.later rose in
        record {
          own = self n;
          more = r.rise;
          promised = still-promised d p n r.rise (inr r.enough);
          rise =
              joint-first first.own second.own first'.own second'.own r.rise (rw ca.own r.is)
              (cb.own ∙ ap (λ z. z.own) same);
        }
    | inr out ↦ let r : Rises first.own a.own 0 = rise-later first.own a.own h.later in
        record {
          own = self n;
          more = r.rise;
          promised = still-promised d p n r.rise (inl (burnt h out));
          rise =
              joint-first first.own second.own first'.own second'.own r.rise (rw ca.own r.is)
              (cb.own ∙ ap (λ z. z.own) same);
        }
  ]
  | inr (same, h) ↦ elim h.cause [
    | inl rose ↦ let r : Rises second.own b.own 1 = rise-rose second.own b.own h.later rose in
        record {
          own = self n;
          more = r.rise;
          promised = still-promised d p n r.rise (inr r.enough);
          rise =
              joint-second first.own second.own first'.own second'.own r.rise (ca.own ∙ ap (λ z. z.own) same)
              (rw cb.own r.is);
        }
    | inr out ↦ absurd (tied-other (fuse d p n) first.left second.left st.tied
        (sym (uncounted second.left b.left h.left) ∙ out))
  ]
]
  where
    burnt : HasHalted 2 first a → a.left ≡ Some 0 → IsTrue (stops_opening (fuse d p n) (journal d p n))
    burnt h out = elim u.first_file [
      | inl (same, left) ↦ absurd (tied-live (fuse d p n) first.left second.left st.tied (sym left ∙ out))
      | inr (e, short) ↦ ap (stops_opening (fuse d p n)) (no-journal d p n number first.file.seen second.file.seen
          st.plain st.holds e.0 e.1) ∙ failed-by (fuse d p n) first.left a.left second.left st.fresh st.tied h.left out
    ]

pub fails-down : (d : DocumentData) (p : List Act) (n number : ℕ) (first second a b first' second' : Shown) →
    StandsDown d p n number first second → FailedToOpen first second a b → HasCrashed a first' →
    HasCrashed b second' → DownBehind d p n (act.StillDown n) number first second first' second'
fails-down d p n number first second a b first' second' st u ca cb =
    let l : StillLeaves d p n = still-leaves d p n in
    record {
      turn = fails-turn d p n number first second a b first' second' st u ca cb;
      stands = record {
        down = l.up_is;
        first_settled = ca.crash.settled;
        second_settled = cb.crash.settled;
        holds = still-holds d p n number first.file.seen second.file.seen first'.file.seen second'.file.seen
            (failed-log first second a b first' second' st.first_settled st.second_settled u ca cb) st.holds;
        tied = rw (l.fuse_is, ca.left, cb.left) tt;
        fresh = rw l.fuse_is refl;
        plain = λ zero. l.disklog_is ∙ st.plain zero ∙ sym l.journal_is;
      };
    }

-- ---- the first opening of a node

untouched-flag : (b : Bool) (o : Option Record) (finds : Bool) → b ≡ false → o ≡ None →
    flag_at b o finds ≡ flag.Untouched
untouched-flag b o finds e f = rw (e, f) refl

pub first-up : (d : DocumentData) (p : List Act) (n number : ℕ) (records : List Record) (first second : Shown)
    (t : Seats) → StandsNew d p n first second → CameUp records number first second t →
    UpBehind d p n (act.Up n flag.Untouched) number first second t
first-up d p n number records first second t st c =
    subst (λ f. UpBehind d p n (act.Up n f) number first second t)
    (untouched-flag (is_compacting p n) (node d p n).doubt (finds_by (is_compacting p n) 0 number
    (length (disklog d p n)) (length records)) st.uncompacted st.sure)
    (opens-up d p n 0 number records first second t st.stands c)

pub first-fails : (d : DocumentData) (p : List Act) (n : ℕ) (first second a b first' second' : Shown) →
    StandsNew d p n first second → FailedToOpen first second a b → HasCrashed a first' → HasCrashed b second' →
    (x : DownBehind d p n (act.StillDown n) 0 first second first' second') × (1 ≤ x.turn.more)
first-fails d p n first second a b first' second' st u ca cb =
    let x : DownBehind d p n (act.StillDown n) 0 first second first' second' =
    fails-down d p n 0 first second a b first' second' st.stands u ca cb in (
      x,
      elim (x.turn.promised.paid (self n)) [
        | inl by ↦ let none : stops_opening None (journal d p n) ≡ true =
            sym (ap (λ o. stops_opening o (journal d p n)) st.unarmed) ∙ by in absurd (grind arith)
        | inr pays ↦ pays
      ],
    )
