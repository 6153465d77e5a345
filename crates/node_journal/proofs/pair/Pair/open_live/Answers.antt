use Rattle.std.proofs.Common.{◌≡◌, IsTrue, Ok, ◌∷◌, length, sym, ap, rules, subst, ◌∙◌}
use Rattle.score_disk.specs.Files.{File}
use Rattle.node_journal.specs.Log.{generation, IsLog}
use Rattle.node_journal.specs.Pairs.{number_of, filling}
use Rattle.std.specs.List.{All}
use Rattle.journal_records.specs.Records.{CanEncode, IsRecord}
use Rattle.journal_records.proofs.Taking.{can_encode}
use Rattle.node_journal.proofs.Compactions.{spelled_is}
use Rattle.node_journal.proofs.Listings.{listed_is, listed_own}
use Rattle.node_journal.proofs.Openings.{opened_generation}
use Rattle.node_journal.proofs.Pairs.{pair_is, live_kept}
use Rattle.node_journal.proofs.pair.Pair.open_live.Goals as goal

pub invariant_of-result : goal.invariant_of-result
invariant_of-result g c =
    let live : File = g.D.Disk.file c.args.live in
    let other : File = g.D.Disk.file c.args.other in
    let now : File = g.D.Disk.file c.in-Ok.live.disk in
    let told = λ (t : IsTrue (g.D.Disk.tells c.in-Ok.live.disk)). subst IsTrue c.in-Ok.ensures.tells t in
    let same =
    λ (t : IsTrue (g.D.Disk.tells c.in-Ok.live.disk)). opened_generation live now (c.in-Ok.ensures.kept (told t))
    (c.in-Ok.ensures.anew (told t)) in
    let lent : c.as_slice.result.now ≡ c.in-Ok.records.items = search rules in
    let new : IsLog (2 ∷ c.respell.new.out.items) c.in-Ok.records.items (length c.respell.new.out.items) =
    spelled_is c.respell.new.out.items c.args.number c.in-Ok.records.items
    (c.in-Ok-respell.ensures.out ∙ ap (filling c.args.number) lent)
    (subst (All IsRecord) lent c.in-Ok-respell.ensures.are) in
    record {
      settled = c.requires.other;
      is_live = λ t u. live_kept c.args.second live.seen now.seen other.seen (same t) (c.requires.is_live (told t) u);
      numbered = λ t. ap number_of (same t) ∙ c.requires.numbered (told t);
      is_listed = listed_own c.respell.new.out.items c.in-Ok.records.items new;
      same = λ t. (c.in-Ok.ensures.now (told t)).is
          ∙ ap Ok (sym (listed_is c.respell.new.out.items c.in-Ok.records.items new));
      counted = c.in-Ok.ensures.count ∙ ap length (sym (listed_is c.respell.new.out.items c.in-Ok.records.items new));
    }

pub returns-in-Ok-respell-clause-rest : goal.returns-in-Ok-respell-clause-rest
returns-in-Ok-respell-clause-rest g c = λ t u.
    let live : File = g.D.Disk.file c.args.live in
    let other : File = g.D.Disk.file c.args.other in
    let now : File = g.D.Disk.file c.in-Ok.live.disk in
    let same : generation now.seen ≡ generation live.seen =
    opened_generation live now (c.in-Ok.ensures.kept t) (c.in-Ok.ensures.anew t) in
    let rest = c.in-Ok.ensures.now t in
    record {
      live = rest.settled;
      other = c.requires.other u;
      is =
          pair_is c.args.second now.seen other.seen
          (live_kept c.args.second live.seen now.seen other.seen same (c.requires.is_live t u)) ∙ rest.is;
    }

pub respell-requires-clause-fit : goal.respell-requires-clause-fit
respell-requires-clause-fit g c =
    let lent : c.in-Ok.records.items ≡ c.as_slice.result.now = search rules in
    subst (All CanEncode) lent (λ k d h. can_encode _ (c.in-Ok.ensures.fit k d h))

pub returns-in-Ok-respell-clause-list : goal.returns-in-Ok-respell-clause-list
returns-in-Ok-respell-clause-list g c =
    let lent : c.as_slice.result.now ≡ c.in-Ok.records.items = search rules in
    listed_is c.respell.new.out.items c.in-Ok.records.items
    (spelled_is c.respell.new.out.items c.args.number c.in-Ok.records.items
    (c.in-Ok-respell.ensures.out ∙ ap (filling c.args.number) lent)
    (subst (All IsRecord) lent c.in-Ok-respell.ensures.are))
