use Rattle.std.proofs.Common.{sym, subst, drop, take, ◌∷◌, ◌+◌, rules}
use Rattle.std.specs.List.{All}
use Rattle.std.proofs.lemmas.List.Elements.{All-push}
use Rattle.journal_records.specs.Records.{IsRecord}
use Rattle.node_journal.specs.Log.{Spells}
use Rattle.node_journal.proofs.Listings.{listed_ends, listed_next, listed_whole, rest_is}
use Rattle.node_journal.proofs.listing.records_in.Goals as goal

pub returns-in-Ok-Closed-clause-list : goal.returns-in-Ok-Closed-clause-list
returns-in-Ok-Closed-clause-list c =
    listed_ends c.args.bytes.now c.gates.records.items c.gates.at c.gates.invariant.low c.gates.invariant.inside
    c.gates.invariant.spelled (rw (c.in-Ok-Closed.field-0-is, rest_is c.args.bytes.now c.gates.at) at c.in-Ok-Closed.ensures.ok)

pub gates-preserved : goal.gates-preserved
gates-preserved c =
    let gate = rw (c.in-Ok-Open.field-0-is, rest_is c.args.bytes.now c.gates.at) at c.in-Ok-Open.ensures.ok in
    let one = rw c.in-Ok-Open.field-0-is at c.in-Ok-Open.ensures.fit in
    record {
      low = search rules;
      inside = search rules;
      fit = subst (All IsRecord) (sym c.in-Ok.ensures.ok)
          (All-push IsRecord c.gates.records.items c.in-Ok-Open.record c.gates.invariant.fit one);
      spelled =
          subst (λ rs. Spells (drop 9 (take (c.gates.at + (1 + c.in-Ok-Open.size) + 1) (2 ∷ c.args.bytes.now))) rs)
          (sym c.in-Ok.ensures.ok)
          (listed_next c.args.bytes.now c.gates.records.items c.in-Ok-Open.record c.gates.at c.in-Ok-Open.size
          c.gates.invariant.low c.gates.invariant.inside c.gates.invariant.spelled gate);
    }

pub unreachable-requires : goal.unreachable-requires
unreachable-requires c =
    let bad = rw (c.in-Err-Bad.field-0-is, rest_is c.args.bytes.now c.gates.at) at c.in-Err-Bad.ensures.bad in
    listed_whole c.args.bytes.now c.gates.records.items c.gates.at c.requires c.gates.invariant.low
    c.gates.invariant.inside c.gates.invariant.spelled bad.1
