use Rattle.std.proofs.Common.{◌≡◌, ℕ, ◌++◌, ◌∷◌, List, [], length, Ok, IsTrue, sym, ap, subst, ◌∙◌, arith, length-append}
use Rattle.score_disk.specs.Files.{File}
use Rattle.journal_records.specs.Records.{record_bytes}
use Rattle.node_journal.specs.Log.{generation, log, IsLog}
use Rattle.score_base.specs.declared.records.Record.{Record}
use Rattle.node_journal.specs.Pairs.{listed_in, number_of, LeavesPair, LeavesPairOneOf}
use Rattle.node_journal.specs.Torn.{LeavesVersion}
use Rattle.node_journal.proofs.Appends.{length-frame}
use Rattle.node_journal.proofs.Compactions.{seated, seated_live}
use Rattle.node_journal.proofs.Listings.{listed_more, listed_is, listed_own}
use Rattle.node_journal.proofs.Pairs.{pair_is, live_kept, appended_one_of, appended_old}
use Rattle.node_journal.proofs.pair.Pair.append.Goals as goal

pub put_listed-requires-clause-room : goal.put_listed-requires-clause-room
put_listed-requires-clause-room g c =
    omega (
      arith,
      c.requires.room.listed,
      ap length c.last_frame.ensures,
      ap length c.in-Ok.ensures.frame,
      length-frame (record_bytes c.args.rec),
      c.in-Ok.ensures.short,
    )

pub invariant_of-result : goal.invariant_of-result
invariant_of-result g c =
    let p = c.args.self in
    let old : List Record = listed_in p.listed.items in
    let live : File = g.D.Disk.file p.live.disk in
    let other : File = g.D.Disk.file p.other in
    let now : File = g.D.Disk.file c.in-Ok.live.disk in
    let bytes : List ℕ = c.put_listed.new.bytes.items in
    let told = λ (t : IsTrue (g.D.Disk.tells c.in-Ok.live.disk)). subst IsTrue c.in-Ok.ensures.spent.tells t in
    let new : IsLog (2 ∷ bytes) (old ++ c.args.rec ∷ []) (length bytes) =
    listed_more p.listed.items bytes c.last_frame.result.now old c.args.rec p.is_listed c.in-Ok.ensures.is
    (c.last_frame.ensures ∙ c.in-Ok.ensures.frame) c.put_listed.ensures in
    let list : listed_in bytes ≡ old ++ c.args.rec ∷ [] = listed_is bytes (old ++ c.args.rec ∷ []) new in
    record {
      settled = p.settled;
      is_live = λ t u. live_kept p.second live.seen now.seen other.seen (c.in-Ok.ensures.version (told t))
          (p.is_live (told t) u);
      numbered = λ t. ap number_of (c.in-Ok.ensures.version (told t)) ∙ p.numbered (told t);
      is_listed = listed_own bytes (old ++ c.args.rec ∷ []) new;
      same = λ t. (c.in-Ok.ensures.appended (told t) old (p.same (told t))).is ∙ ap Ok (sym list);
      counted = omega (arith, c.in-Ok.ensures.counts, p.counted, ap length list, length-append old (c.args.rec ∷ []));
    }

pub returns-in-Ok-clause-list : goal.returns-in-Ok-clause-list
returns-in-Ok-clause-list g c =
    let p = c.args.self in
    let old : List Record = listed_in p.listed.items in
    listed_is c.put_listed.new.bytes.items (old ++ c.args.rec ∷ [])
    (listed_more p.listed.items c.put_listed.new.bytes.items c.last_frame.result.now old c.args.rec p.is_listed
    c.in-Ok.ensures.is (c.last_frame.ensures ∙ c.in-Ok.ensures.frame) c.put_listed.ensures)

pub returns-in-Ok-clause-appended : goal.returns-in-Ok-clause-appended
returns-in-Ok-clause-appended g c = λ t.
    let p = c.args.self in
    let old : List Record = listed_in p.listed.items in
    let live : File = g.D.Disk.file p.live.disk in
    let other : File = g.D.Disk.file p.other in
    let now : File = g.D.Disk.file c.in-Ok.live.disk in
    let is : log live.seen ≡ Ok old = p.same t.0 in
    let rest = c.in-Ok.ensures.appended t.0 old is in
    record {
      live = rest.settled;
      other = p.settled t.1;
      is =
          pair_is p.second now.seen other.seen
          (live_kept p.second live.seen now.seen other.seen (c.in-Ok.ensures.version t.0) (p.is_live t.0 t.1))
          ∙ rest.is;
    }

pub returns-in-Err-clause-stopped : goal.returns-in-Err-clause-stopped
returns-in-Err-clause-stopped g c = λ t.
    let p = c.args.self in
    let old : List Record = listed_in p.listed.items in
    let live : File = g.D.Disk.file p.live.disk in
    let other : File = g.D.Disk.file p.other in
    let now : File = g.D.Disk.file c.in-Err.stopped.disk in
    let is : log live.seen ≡ Ok old = p.same t.0 in
    seated g.D.Disk.file p.second c.in-Err.stopped.disk p.other c.in_places-first.result.0 c.in_places-first.result.1
    (LeavesPairOneOf old (old ++ c.args.rec ∷ [])) c.in_places-first.ensures.first c.in_places-first.ensures.last
    (appended_one_of p.second live now other old c.args.rec (p.settled t.1) (p.is_live t.0 t.1)
    (c.in-Err.ensures.version_stopped t.0) (c.in-Err.ensures.stopped t.0 old is))

pub returns-in-Err-clause-early : goal.returns-in-Err-clause-early
returns-in-Err-clause-early g c = λ t k left low.
    let p = c.args.self in
    let old : List Record = listed_in p.listed.items in
    let live : File = g.D.Disk.file p.live.disk in
    let other : File = g.D.Disk.file p.other in
    let now : File = g.D.Disk.file c.in-Err.stopped.disk in
    let is : log live.seen ≡ Ok old = p.same t.0 in
    seated g.D.Disk.file p.second c.in-Err.stopped.disk p.other c.in_places-first.result.0 c.in_places-first.result.1
    (LeavesPair old) c.in_places-first.ensures.first c.in_places-first.ensures.last
    (appended_old p.second live now other old (p.settled t.1) (p.is_live t.0 t.1) (c.in-Err.ensures.version_stopped t.0)
    (c.in-Err.ensures.early t.0 k left low old is))

pub returns-in-Err-clause-version : goal.returns-in-Err-clause-version
returns-in-Err-clause-version g c = λ t.
    let p = c.args.self in
    subst (λ d. LeavesVersion (generation (g.D.Disk.file p.live.disk).seen) (g.D.Disk.file d))
    (sym (seated_live p.second c.in-Err.stopped.disk p.other c.in_places-first.result.0 c.in_places-first.result.1
    c.in_places-first.ensures.first c.in_places-first.ensures.last)) (c.in-Err.ensures.version_stopped t.0)
