use Rattle.std.proofs.Common.{◌≡◌, true, false, ◌<◌, length, Err, IsTrue, sym, ap, subst, ◌∙◌, inl}
use Rattle.std.proofs.lemmas.Result.{IfOk-weaker, IfErr-weaker}
use Rattle.score_disk.specs.Files.{File}
use Rattle.node_journal.specs.Log.{log}
use Rattle.node_journal.specs.Pairs.{second_lives, pair_log}
use Rattle.node_journal.proofs.Pairs.{pair_is}
use Rattle.node_journal.specs.Torn.{LeavesAsBefore}
use Rattle.node_journal.proofs.PairOpenings.{chosen, kept_long, younger_long, both_ok, both_err, both_kept, second_failed, first_failed, second_ends, first_ends}
use Rattle.node_journal.proofs.pair.Pair.open.Goals as goal

pub returns-then-is_younger-clause-log : goal.returns-then-is_younger-clause-log
returns-then-is_younger-clause-log g c =
    let f : File = g.D.Disk.file c.args.first in
    let s : File = g.D.Disk.file c.args.second in
    IfOk-weaker c.open_live.result _ _ (λ x h t u.
    let one = c.in-Ok.ensures.generation t in
    let two = c.in-Ok-generation_of.ensures.generation u in
    let is : second_lives f.seen s.seen ≡ true =
    chosen f.seen s.seen _ _ _ _ one two c.is_younger.ensures c.if-is_younger.true in
    pair_is true s.seen f.seen is ∙ ap (λ (k : File). log k.seen) (sym c.in-Ok-generation_of.ensures.looked.file)
    ∙ h (subst IsTrue (sym c.in-Ok-generation_of.ensures.looked.tells) u)) c.open_live.ensures.log

pub returns-else-is_younger-clause-log : goal.returns-else-is_younger-clause-log
returns-else-is_younger-clause-log g c =
    let f : File = g.D.Disk.file c.args.first in
    let s : File = g.D.Disk.file c.args.second in
    IfOk-weaker c.open_live-else-is_younger.result _ _ (λ x h t u.
    let one = c.in-Ok.ensures.generation t in
    let two = c.in-Ok-generation_of.ensures.generation u in
    let is : second_lives f.seen s.seen ≡ false =
    chosen f.seen s.seen _ _ _ _ one two c.is_younger.ensures c.if-is_younger.false in
    pair_is false f.seen s.seen is ∙ ap (λ (k : File). log k.seen) (sym c.in-Ok.ensures.looked.file)
    ∙ h (subst IsTrue (sym c.in-Ok.ensures.looked.tells) t)) c.open_live-else-is_younger.ensures.log

pub returns-then-is_younger-clause-kept : goal.returns-then-is_younger-clause-kept
returns-then-is_younger-clause-kept g c =
    let d = g.D.Disk in
    let f : File = d.file c.args.first in
    let s : File = d.file c.args.second in
    let r = c.open_live.result in
    let first = (let l = c.in-Ok.ensures.looked in l.ok) in
    let last = (let l = c.in-Ok-generation_of.ensures.looked in l.ok) in
    IfOk-weaker r _ _ (λ x h t u k.
    let one = c.in-Ok.ensures.generation t in
    let two = c.in-Ok-generation_of.ensures.generation u in
    let is : second_lives f.seen s.seen ≡ true =
    chosen f.seen s.seen _ _ _ _ one two c.is_younger.ensures c.if-is_younger.true in
    let long : 2 < length (d.file c.generation_of-2.new.disk).seen =
    subst (λ (n : File). 2 < length n.seen) (sym last.file) (younger_long f.seen s.seen is) in
    both_kept d x.0.second x.0.live.disk x.0.other c.args.first c.generation_of.new.disk c.args.second
    c.generation_of-2.new.disk h.0 h.1.0 first last (h.1.1 (subst IsTrue (sym last.tells) u) long))
    (both_ok r _ _ c.open_live.ensures.turned (both_ok r _ _ c.open_live.ensures.other c.open_live.ensures.kept))

pub returns-then-is_younger-clause-end : goal.returns-then-is_younger-clause-end
returns-then-is_younger-clause-end g c =
    let d = g.D.Disk in
    let f : File = d.file c.args.first in
    let s : File = d.file c.args.second in
    let first = (let l = c.in-Ok.ensures.looked in l.ok) in
    let last = (let l = c.in-Ok-generation_of.ensures.looked in l.ok) in
    let is = λ (t : IsTrue (d.tells c.args.first)) (u : IsTrue (d.tells c.args.second)).
    chosen f.seen s.seen _ _ _ _ (c.in-Ok.ensures.generation t) (c.in-Ok-generation_of.ensures.generation u)
    c.is_younger.ensures c.if-is_younger.true in
    IfErr-weaker c.open_live.result _ _ (λ e h.
    second_ends d c.args.first c.generation_of.new.disk c.args.second c.generation_of-2.new.disk first last
    (λ a b. IsTrue (d.tells c.args.first) → IsTrue (d.tells c.args.second) →
    LeavesAsBefore f (d.file a) × (d.file b ≡ s))
    (λ at. IsTrue (d.tells c.args.first) → IsTrue (d.tells c.args.second) → pair_log f.seen s.seen ≡ Err at)
    e (λ a b. IsTrue (d.tells c.generation_of-2.new.disk) →
    LeavesAsBefore (d.file c.generation_of-2.new.disk) (d.file b)) _
    (λ a b same k t u. (
      inl (ap d.file same ∙ first.file),
      kept_long f.seen s (d.file c.generation_of-2.new.disk) (d.file b)
          (is t u) last.file
          (k (subst IsTrue (sym last.tells) u)),
    ))
    (λ at bad t u. pair_is true s.seen f.seen (is t u) ∙ ap (λ (k : File). log k.seen) (sym last.file)
    ∙ bad (subst IsTrue (sym last.tells) u)) h) c.open_live.ensures.end

pub returns-else-is_younger-clause-end : goal.returns-else-is_younger-clause-end
returns-else-is_younger-clause-end g c =
    let d = g.D.Disk in
    let f : File = d.file c.args.first in
    let s : File = d.file c.args.second in
    let first = (let l = c.in-Ok.ensures.looked in l.ok) in
    let last = (let l = c.in-Ok-generation_of.ensures.looked in l.ok) in
    let is = λ (t : IsTrue (d.tells c.args.first)) (u : IsTrue (d.tells c.args.second)).
    chosen f.seen s.seen _ _ _ _ (c.in-Ok.ensures.generation t) (c.in-Ok-generation_of.ensures.generation u)
    c.is_younger.ensures c.if-is_younger.false in
    IfErr-weaker c.open_live-else-is_younger.result _ _ (λ e h.
    first_ends d c.args.first c.generation_of.new.disk c.args.second c.generation_of-2.new.disk first last
    (λ a b. IsTrue (d.tells c.args.first) → IsTrue (d.tells c.args.second) →
    LeavesAsBefore f (d.file a) × (d.file b ≡ s))
    (λ at. IsTrue (d.tells c.args.first) → IsTrue (d.tells c.args.second) → pair_log f.seen s.seen ≡ Err at)
    e (λ a b. IsTrue (d.tells c.generation_of.new.disk) →
    LeavesAsBefore (d.file c.generation_of.new.disk) (d.file a)) _
    (λ a b same k t u. (
      subst (λ n. LeavesAsBefore n (d.file a)) first.file
          (k (subst IsTrue (sym first.tells) t)),
      ap d.file same ∙ last.file,
    ))
    (λ at bad t u. pair_is false f.seen s.seen (is t u) ∙ ap (λ (k : File). log k.seen) (sym first.file)
    ∙ bad (subst IsTrue (sym first.tells) t)) h) c.open_live-else-is_younger.ensures.end

pub returns-then-is_younger-clause-first_only : goal.returns-then-is_younger-clause-first_only
returns-then-is_younger-clause-first_only g c =
    let f : File = g.D.Disk.file c.args.first in
    let s : File = g.D.Disk.file c.args.second in
    IfOk-weaker c.open_live.result _ _ (λ x h t u.
    let is : second_lives f.seen s.seen ≡ true =
    chosen f.seen s.seen _ _ _ _ (c.in-Ok.ensures.generation t) (c.in-Ok-generation_of.ensures.generation u)
    c.is_younger.ensures c.if-is_younger.true in
    let k = h t u (inl is) in
    (inl k.0, k.1)) (returns-then-is_younger-clause-kept g c)

pub returns-then-is_younger-clause-failed : goal.returns-then-is_younger-clause-failed
returns-then-is_younger-clause-failed g c =
    let d = g.D.Disk in
    let f : File = d.file c.args.first in
    let s : File = d.file c.args.second in
    let first = (let l = c.in-Ok.ensures.looked in l.ok) in
    let last = (let l = c.in-Ok-generation_of.ensures.looked in l.ok) in
    IfErr-weaker c.open_live.result _ _ (λ e h t u.
    let is : second_lives f.seen s.seen ≡ true =
    chosen f.seen s.seen _ _ _ _ (c.in-Ok.ensures.generation t) (c.in-Ok-generation_of.ensures.generation u)
    c.is_younger.ensures c.if-is_younger.true in
    second_failed d c.args.first c.generation_of.new.disk c.args.second c.generation_of-2.new.disk first last is
    (subst IsTrue (sym last.tells) u) e _ h.0 h.1)
    (both_err c.open_live.result _ _ c.open_live.ensures.end c.open_live.ensures.end_left)

pub returns-else-is_younger-clause-failed : goal.returns-else-is_younger-clause-failed
returns-else-is_younger-clause-failed g c =
    let d = g.D.Disk in
    let f : File = d.file c.args.first in
    let s : File = d.file c.args.second in
    let first = (let l = c.in-Ok.ensures.looked in l.ok) in
    let last = (let l = c.in-Ok-generation_of.ensures.looked in l.ok) in
    IfErr-weaker c.open_live-else-is_younger.result _ _ (λ e h t u.
    let is : second_lives f.seen s.seen ≡ false =
    chosen f.seen s.seen _ _ _ _ (c.in-Ok.ensures.generation t) (c.in-Ok-generation_of.ensures.generation u)
    c.is_younger.ensures c.if-is_younger.false in
    first_failed d c.args.first c.generation_of.new.disk c.args.second c.generation_of-2.new.disk first last is
    (c.requires.first t) (subst IsTrue (sym first.tells) t) e _ h.0 h.1)
    (both_err c.open_live-else-is_younger.result _ _ c.open_live-else-is_younger.ensures.end
    c.open_live-else-is_younger.ensures.end_left)
