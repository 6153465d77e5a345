use Rattle.std.proofs.Common.{◌≡◌, ◌+◌, ◌∷◌, List, ℕ, length, IsTrue, Ok, not, refl, sym, ap, subst, ◌∙◌, inl, inr, arith, rules}
use Rattle.score_base.specs.declared.records.Record.{Record}
use Rattle.score_disk.specs.Files.{File, IsSettled}
use Rattle.node_journal.specs.Log.{generation, log, IsLog}
use Rattle.node_journal.specs.Pairs.{number_of, in_order, listed_in, pair_log, IsLive, LeavesPair, LeavesPairOneOf, LeavesLog, LeavesLogOr}
use Rattle.journal_words.specs.Small.{small_in_time}
use Rattle.node_journal.proofs.Appends.{log_own, records_are}
use Rattle.node_journal.proofs.Compactions.{IsNew, new_file, spelled_long, next_age, spelled_is, turned, seated, seated_other}
use Rattle.node_journal.proofs.Listings.{listed_is, listed_own}
use Rattle.node_journal.specs.Spending.{Halted}
use Rattle.node_journal.proofs.Spending.{halted_weaker}
use Rattle.node_journal.proofs.Pairs.{pair_is, torn_pair, early_pair, torn_log, early_log}
use Rattle.node_journal.proofs.pair.Pair.compact.Goals as goal

pub move_to-live-requires-clause-is_log : goal.move_to-live-requires-clause-is_log
move_to-live-requires-clause-is_log g c = λ t.
    let p = c.args.self in
    let now : File = g.D.Disk.file c.compact_into.new.other in
    let rs : List Record = c.args.records.now.items in
    let told : IsTrue (g.D.Disk.tells p.other) =
    elim c.in-Ok.ensures.spends [ inl s ↦ subst IsTrue s.ok.tells t | inr s ↦ subst IsTrue s.ok.tells t ] in
    let new =
    new_file now.seen c.as_slice.result.now p.spelled.items (p.number + 1) rs
    (c.in-Ok.ensures.seen told) c.as_slice.ensures.value c.requires.ready.spelled c.requires.ready.are_records
    (omega (arith, c.requires.below)) in
    let long : c.len.result ≡ length p.spelled.items = search rules in
    log_own now.seen rs c.len.result (subst (IsLog now.seen rs) (sym long) new.is)

pub move_to-live-requires-clause-counted : goal.move_to-live-requires-clause-counted
move_to-live-requires-clause-counted g c = λ t.
    let p = c.args.self in
    let now : File = g.D.Disk.file c.compact_into.new.other in
    let rs : List Record = c.args.records.now.items in
    let told : IsTrue (g.D.Disk.tells p.other) =
    elim c.in-Ok.ensures.spends [ inl s ↦ subst IsTrue s.ok.tells t | inr s ↦ subst IsTrue s.ok.tells t ] in
    let new =
    new_file now.seen c.as_slice.result.now p.spelled.items (p.number + 1) rs
    (c.in-Ok.ensures.seen told) c.as_slice.ensures.value c.requires.ready.spelled c.requires.ready.are_records
    (omega (arith, c.requires.below)) in
    let count : c.len-in-Ok.result ≡ length rs = search rules in
    count ∙ sym (ap length (records_are now.seen rs new.read))

pub move_to-live-requires-clause-few : goal.move_to-live-requires-clause-few
move_to-live-requires-clause-few g c =
    let p = c.args.self in
    let rs : List Record = c.args.records.now.items in
    let long : c.len.result ≡ length p.spelled.items = search rules in
    let count : c.len-in-Ok.result ≡ length rs = search rules in
    omega (arith, long, count, spelled_long p.spelled.items (p.number + 1) rs c.requires.ready.spelled)

pub invariant_of-result : goal.invariant_of-result
invariant_of-result g c =
    let p = c.args.self in
    let live : File = g.D.Disk.file p.live.disk in
    let now : File = g.D.Disk.file c.compact_into.new.other in
    let rs : List Record = c.args.records.now.items in
    let to = c.move_to-live.ensures.disk in
    let left = c.move_to-live.ensures.left_disk in
    let new = λ (t : IsTrue (g.D.Disk.tells c.compact_into.new.other)).
    let told : IsTrue (g.D.Disk.tells p.other) =
    elim c.in-Ok.ensures.spends [ inl s ↦ subst IsTrue s.ok.tells t | inr s ↦ subst IsTrue s.ok.tells t ] in
    new_file now.seen c.as_slice.result.now p.spelled.items (p.number + 1) rs
    (c.in-Ok.ensures.seen told) c.as_slice.ensures.value c.requires.ready.spelled c.requires.ready.are_records
    (omega (arith, c.requires.below)) in
    let made : IsLog (2 ∷ p.spelled.items) rs (length p.spelled.items) =
    spelled_is p.spelled.items (p.number + 1) rs c.requires.ready.spelled c.requires.ready.are_records in
    let list : listed_in p.spelled.items ≡ rs = listed_is p.spelled.items rs made in
    record {
      settled =
          λ t. subst (λ d. IsSettled (g.D.Disk.file d)) (sym left)
          (p.live.settled (subst (λ d. IsTrue (g.D.Disk.tells d)) left t));
      is_live = λ t u.
          let fresh : IsNew now.seen p.spelled.items (p.number + 1) rs =
          new (subst (λ d. IsTrue (g.D.Disk.tells d)) to t) in
          let is : IsLive (not p.second) now.seen live.seen =
          turned p.second live.seen now.seen
          (next_age live.seen now.seen p.number
          (p.numbered (subst (λ d. IsTrue (g.D.Disk.tells d)) left u)) fresh.number) in
          subst (λ d. IsLive (not p.second) (g.D.Disk.file d).seen (g.D.Disk.file c.move_to-live.result.1).seen)
          (sym to)
          (subst (λ d. IsLive (not p.second) now.seen (g.D.Disk.file d).seen) (sym left) is);
      numbered = λ t.
          let fresh : IsNew now.seen p.spelled.items (p.number + 1) rs =
          new (subst (λ d. IsTrue (g.D.Disk.tells d)) to t) in
          subst (λ d. number_of (generation (g.D.Disk.file d).seen)
          ≡ p.number + 1) (sym to) (ap number_of fresh.number);
      is_listed = listed_own p.spelled.items rs made;
      same = λ t.
          let fresh : IsNew now.seen p.spelled.items (p.number + 1) rs = new
          (subst (λ d. IsTrue (g.D.Disk.tells d)) to t) in
          subst (λ d. log (g.D.Disk.file d).seen ≡ Ok (listed_in p.spelled.items)) (sym to)
          (fresh.read ∙ ap Ok (sym list));
      counted = c.move_to-live.ensures.count ∙ (let count : c.len-in-Ok.result ≡ length rs = search rules in count)
          ∙ ap length (sym list);
    }

pub returns-in-Ok-clause-compacted : goal.returns-in-Ok-clause-compacted
returns-in-Ok-clause-compacted g c = λ t.
    let p = c.args.self in
    let live : File = g.D.Disk.file p.live.disk in
    let now : File = g.D.Disk.file c.compact_into.new.other in
    let rs : List Record = c.args.records.now.items in
    let to = c.move_to-live.ensures.disk in
    let left = c.move_to-live.ensures.left_disk in
    let new =
    new_file now.seen c.as_slice.result.now p.spelled.items (p.number + 1) rs
    (c.in-Ok.ensures.seen t.1) c.as_slice.ensures.value c.requires.ready.spelled c.requires.ready.are_records
    (omega (arith, c.requires.below)) in
    let turn : IsLive (not p.second) now.seen live.seen =
    turned p.second live.seen now.seen (next_age live.seen now.seen p.number (p.numbered t.0) new.number) in
    record {
      live = subst (λ d. IsSettled (g.D.Disk.file d)) (sym to) (c.in-Ok.ensures.settled t.1);
      other = subst (λ d. IsSettled (g.D.Disk.file d)) (sym left) (p.live.settled t.0);
      is =
          subst (λ d. in_order (not p.second) pair_log (g.D.Disk.file d).seen
          (g.D.Disk.file c.move_to-live.result.1).seen ≡ Ok rs) (sym to)
          (subst (λ d. in_order (not p.second) pair_log now.seen (g.D.Disk.file d).seen
          ≡ Ok rs) (sym left) (pair_is (not p.second) now.seen live.seen turn ∙ new.read));
    }

pub returns-in-Err-clause-stopped : goal.returns-in-Err-clause-stopped
returns-in-Err-clause-stopped g c = λ t.
    let p = c.args.self in
    let old : List Record = listed_in p.listed.items in
    let live : File = g.D.Disk.file p.live.disk in
    let other : File = g.D.Disk.file p.other in
    let now : File = g.D.Disk.file c.compact_into.new.other in
    let bytes : List ℕ = 2 ∷ c.as_slice.result.now in
    let rs : List Record = c.args.records.now.items in
    let new =
    new_file bytes c.as_slice.result.now p.spelled.items
    (p.number + 1) rs refl c.as_slice.ensures.value c.requires.ready.spelled c.requires.ready.are_records
    (omega (arith, c.requires.below)) in
    let is : log live.seen ≡ Ok old = p.same t.0 in
    seated g.D.Disk.file p.second c.stop.result c.compact_into.new.other c.in_places-first.result.0
    c.in_places-first.result.1
    (LeavesPairOneOf old (small_in_time old)) c.in_places-first.ensures.first c.in_places-first.ensures.last
    (subst (λ d. in_order p.second (LeavesPairOneOf old (small_in_time old)) (g.D.Disk.file d) now)
    (sym c.stop.ensures.disk)
    (torn_pair p.second live other now bytes old (small_in_time old) (p.live.settled t.0) is (p.is_live t.0 t.1)
    (next_age live.seen bytes p.number (p.numbered t.0) new.number) (new.read
    ∙ ap Ok (c.requires.small)) (c.in-Err.ensures.stopped t.1)))

pub returns-in-Err-clause-early : goal.returns-in-Err-clause-early
returns-in-Err-clause-early g c = λ t k left low.
    let p = c.args.self in
    let old : List Record = listed_in p.listed.items in
    let live : File = g.D.Disk.file p.live.disk in
    let other : File = g.D.Disk.file p.other in
    let now : File = g.D.Disk.file c.compact_into.new.other in
    let is : log live.seen ≡ Ok old = p.same t.0 in
    seated g.D.Disk.file p.second c.stop.result c.compact_into.new.other c.in_places-first.result.0
    c.in_places-first.result.1 (LeavesPair old) c.in_places-first.ensures.first c.in_places-first.ensures.last
    (subst (λ d. in_order p.second (LeavesPair old) (g.D.Disk.file d) now) (sym c.stop.ensures.disk)
    (early_pair p.second live other now old (p.live.settled t.0) is (p.is_live t.0 t.1)
    (c.in-Err.ensures.early t.1 k left low)))

pub returns-in-Ok-clause-list : goal.returns-in-Ok-clause-list
returns-in-Ok-clause-list g c =
    let p = c.args.self in
    listed_is p.spelled.items c.args.records.now.items
    (spelled_is p.spelled.items
    (p.number + 1) c.args.records.now.items c.requires.ready.spelled c.requires.ready.are_records)

pub returns-in-Err-clause-halted : goal.returns-in-Err-clause-halted
returns-in-Err-clause-halted g c =
    let p = c.args.self in
    let now = c.compact_into.new.other in
    subst (Halted g.D.Disk 8 p.other)
    (sym (seated_other p.second c.stop.result now c.in_places-first.result.0 c.in_places-first.result.1
    c.in_places-first.ensures.first c.in_places-first.ensures.last))
    (elim c.in-Err.ensures.spends [
      | inl s ↦ halted_weaker g.D.Disk 6 8 p.other now
          (omega arith) s.err
      | inr s ↦ s.err
    ])

pub returns-in-Err-clause-stopped_log : goal.returns-in-Err-clause-stopped_log
returns-in-Err-clause-stopped_log g c = λ t.
    let p = c.args.self in
    let old : List Record = listed_in p.listed.items in
    let live : File = g.D.Disk.file p.live.disk in
    let other : File = g.D.Disk.file p.other in
    let now : File = g.D.Disk.file c.compact_into.new.other in
    let bytes : List ℕ = 2 ∷ c.as_slice.result.now in
    let rs : List Record = c.args.records.now.items in
    let new =
    new_file bytes c.as_slice.result.now p.spelled.items
    (p.number + 1) rs refl c.as_slice.ensures.value c.requires.ready.spelled c.requires.ready.are_records
    (omega (arith, c.requires.below)) in
    let is : log live.seen ≡ Ok old = p.same t.0 in
    seated g.D.Disk.file p.second c.stop.result c.compact_into.new.other c.in_places-first.result.0
    c.in_places-first.result.1
    (LeavesLogOr old p.number (small_in_time old) (p.number + 1)) c.in_places-first.ensures.first
    c.in_places-first.ensures.last
    (subst (λ d. in_order p.second (LeavesLogOr old p.number (small_in_time old) (p.number + 1)) (g.D.Disk.file d) now)
    (sym c.stop.ensures.disk)
    (torn_log p.second live other now bytes old (small_in_time old) p.number (p.number + 1) (p.live.settled t.0) is
    (p.numbered t.0) (p.is_live t.0 t.1)
    (next_age live.seen bytes p.number (p.numbered t.0) new.number) (new.read
    ∙ ap Ok (c.requires.small)) new.number (c.in-Err.ensures.stopped t.1)))

pub returns-in-Err-clause-early_log : goal.returns-in-Err-clause-early_log
returns-in-Err-clause-early_log g c = λ t k left low.
    let p = c.args.self in
    let old : List Record = listed_in p.listed.items in
    let live : File = g.D.Disk.file p.live.disk in
    let other : File = g.D.Disk.file p.other in
    let now : File = g.D.Disk.file c.compact_into.new.other in
    let is : log live.seen ≡ Ok old = p.same t.0 in
    seated g.D.Disk.file p.second c.stop.result c.compact_into.new.other c.in_places-first.result.0
    c.in_places-first.result.1 (LeavesLog old p.number) c.in_places-first.ensures.first c.in_places-first.ensures.last
    (subst (λ d. in_order p.second (LeavesLog old p.number) (g.D.Disk.file d) now) (sym c.stop.ensures.disk)
    (early_log p.second live other now old p.number (p.live.settled t.0) is (p.numbered t.0) (p.is_live t.0 t.1)
    (c.in-Err.ensures.early t.1 k left low)))
