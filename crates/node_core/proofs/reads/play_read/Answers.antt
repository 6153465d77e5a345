use Rattle.std.proofs.Common.{◌≡◌, ◌∷◌, ◌++◌, max, sym, ap, subst, ◌∙◌}
use Rattle.grid_model.specs.declared.stories.HeldRead.{HeldRead}
use Rattle.snapshot_read.specs.declared.answers.Arrived.TheVariants as arrived
use Rattle.snapshot_read.specs.declared.answers.Promised.TheVariants as promised
use Rattle.snapshot_read.specs.Calls.{held_with, Leaves, IsAnswered, IsReserved}
use Rattle.snapshot_read.specs.Outs.{hold_outs, serve_outs, promised_outs, ceiling_outs}
use Rattle.snapshot_read.specs.Reads.{read_at, arrival, served_or_held}
use Rattle.node_core.specs.Steps.{IsAppended}
use Rattle.node_core.proofs.Afterwards.{appended, then-cut}
use Rattle.node_core.proofs.Rows.{put-none}
use Rattle.node_core.proofs.ReadRows.{once-played, kept-played, request-record, due-arrival, same-promised}
use Rattle.node_core.proofs.reads.play_read.Goals as goal

pub returns-in-Hold : goal.returns-in-Hold
returns-in-Hold g c =
    let s = c.args.store.now in
    let w = c.args.waiting.now in
    let q = c.args.q.now in
    let x = c.args.from in
    let waits = c.in-Hold.waits in
    let arrives : arrived.Hold waits ≡ arrival s (read_at s x q) = sym c.in-Hold.is ∙ c.in-Ok-arrive.ensures.answer in
    let leaves : IsAnswered (promised.Hold waits) (read_at s x q) s w c.arrive.new.store c.arrive.new.self =
    subst (λ a. Leaves a (read_at s x q) s w c.arrive.new.store c.arrive.new.self) c.in-Hold.is c.in-Ok-arrive.ensures.leaves in
    let room = c.room_for.ensures.pair in
    once-played s w c.args.pair c.room_for.new.pair x q c.arrive.new.store c.arrive.new.self c.put_held.new.outs.items
    (promised.Hold waits) c.requires.small c.requires.fit arrives leaves room
    (put-none c.put_held.new.outs.items c.in-Ok.outs.items _ _ c.put_held.ensures.outs
    c.in-Ok.ensures.none (ap (λ n. hold_outs n q.t q.op waits) c.node-n.ensures))

pub returns-in-Serve : goal.returns-in-Serve
returns-in-Serve g c =
    let s = c.args.store.now in
    let w = c.args.waiting.now in
    let q = c.args.q.now in
    let x = c.args.from in
    let answer = c.in-Serve.answer in
    let arrives : arrived.Serve answer ≡ arrival s (read_at s x q) = sym c.in-Serve.is ∙ c.in-Ok-arrive.ensures.answer in
    let leaves : IsAnswered (promised.Serve answer) (read_at s x q) s w c.arrive.new.store c.arrive.new.self =
    subst (λ a. Leaves a (read_at s x q) s w c.arrive.new.store c.arrive.new.self) c.in-Serve.is c.in-Ok-arrive.ensures.leaves in
    let room = c.room_for.ensures.pair in
    once-played s w c.args.pair c.room_for.new.pair x q c.arrive.new.store c.arrive.new.self c.put_served.new.outs.items
    (promised.Serve answer) c.requires.small c.requires.fit arrives leaves room
    (put-none c.put_served.new.outs.items c.in-Ok.outs.items _ _ c.put_served.ensures.outs
    c.in-Ok.ensures.none (ap (λ n. serve_outs n answer) c.node-n.ensures))

pub returns-in-Ok-append : goal.returns-in-Ok-append
returns-in-Ok-append g c =
    let s = c.args.store.now in
    let w = c.args.waiting.now in
    let q = c.args.q.now in
    let x = c.args.from in
    let due = c.in-NeedCeiling.due in
    let rec' = c.in-NeedCeiling.rec in
    let p = c.go-promised.result in
    let arrives : arrived.NeedCeiling due rec' ≡ arrival s (read_at s x q) =
    sym c.in-NeedCeiling.is ∙ c.in-Ok-arrive.ensures.answer in
    let reserved : IsReserved due rec' (read_at s x q) s w c.arrive.new.store c.arrive.new.self =
    subst (λ a. Leaves a (read_at s x q) s w c.arrive.new.store c.arrive.new.self) c.in-NeedCeiling.is
    c.in-Ok-arrive.ensures.leaves in
    let same = reserved.store in
    let room = c.room_for.ensures.pair in
    let written : IsAppended rec' c.args.pair c.in-Ok-append.pair =
    appended rec' c.args.pair c.room_for.new.pair c.in-Ok-append.pair room c.in-Ok-append.ensures.list
    c.in-Ok-append.ensures.appended c.in-Ok-append.ensures.spent c.in-Ok-append.ensures.other c.in-Ok-append.ensures.live
    c.in-Ok-append.ensures.number in
    kept-played s w c.args.pair c.in-Ok-append.pair x q c.go-promised.new.store c.go-promised.new.waiting
    c.put_promised.new.outs.items due rec' p c.requires.small c.requires.fit arrives
    (c.go-promised.ensures.answer ∙ ap (λ h. served_or_held c.arrive.new.store h) reserved.read
    ∙ same-promised s c.arrive.new.store (read_at s x q) same)
    (c.go-promised.ensures.node ∙ same.node) (c.go-promised.ensures.cluster ∙ same.cluster)
    (c.go-promised.ensures.journal ∙ ap (λ y. y ∷ c.arrive.new.store.journal) c.in-Ok-append.ensures.kept
    ∙ ap (λ r. rec' ∷ r) same.journal)
    (c.go-promised.ensures.next ∙ ap (λ n. max n due.read.sid) same.next
    ∙ ap (λ (h : HeldRead). max s.next h.sid) reserved.read)
    (c.go-promised.ensures.held ∙ ap (λ h. held_with p h c.arrive.new.self.reads) reserved.read
    ∙ ap (λ hs. held_with p (read_at s x q) hs) reserved.held)
    written
    (c.put_promised.ensures.outs
    ∙ ap (λ os. os ++ promised_outs c.node-n.result q.t q.op p)
    (put-none c.put_ceiling.new.outs.items c.in-Ok.outs.items _ _ c.put_ceiling.ensures.outs
    c.in-Ok.ensures.none (ap (λ n. ceiling_outs n rec') c.node-n.ensures))
    ∙ ap (λ n. ceiling_outs s.node rec' ++ promised_outs n q.t q.op p) c.node-n.ensures)

pub returns-in-Err-append : goal.returns-in-Err-append
returns-in-Err-append g c =
    let s = c.args.store.now in
    let w = c.args.waiting.now in
    let q = c.args.q.now in
    let x = c.args.from in
    let due = c.in-NeedCeiling.due in
    let rec' = c.in-NeedCeiling.rec in
    let arrives : arrived.NeedCeiling due rec' ≡ arrival s (read_at s x q) =
    sym c.in-NeedCeiling.is ∙ c.in-Ok-arrive.ensures.answer in
    let reserved : IsReserved due rec' (read_at s x q) s w c.arrive.new.store c.arrive.new.self =
    subst (λ a. Leaves a (read_at s x q) s w c.arrive.new.store c.arrive.new.self) c.in-NeedCeiling.is
    c.in-Ok-arrive.ensures.leaves in
    let room = c.room_for.ensures.pair in
    let first = c.in-Err-append.stopped.first in
    let second = c.in-Err-append.stopped.second in
    record {
      rec = rec';
      head = c.head_of-head.ensures;
      row = request-record s w.reads x q rec' c.requires.small c.requires.fit
          (due-arrival s (read_at s x q) due rec' arrives);
      disks = then-cut rec' c.args.pair c.room_for.new.pair first second room (record {
        images = c.in-Err-append.ensures.stopped;
        early = c.in-Err-append.ensures.early;
        version = c.in-Err-append.ensures.version;
        other = c.in-Err-append.ensures.other_kept;
        halted = c.in-Err-append.ensures.halted;
      });
      store = reserved.store;
      held = reserved.held;
    }
