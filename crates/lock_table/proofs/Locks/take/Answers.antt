use Rattle.std.proofs.Common.{◌≡◌, ℕ, List, ◌≤◌, Bool, false, ◌&&◌, ◌||◌, nat_eq, refl, sym, ap, subst, ◌∙◌}
use Rattle.std.proofs.lemmas.List.Elements.{All-nil}
use Rattle.lock_table.specs.Keys.{Held, holds_lock, writes_key, is_read, is_written}
use Rattle.lock_table.specs.Table.{locks_of, holds_in, writes_in, by_key, AreNumbered}
use Rattle.score_base.proofs.TableMerge.{all_merged}
use Rattle.lock_table.proofs.Places.{held_is, written_is}
use Rattle.lock_table.proofs.Taking.{not_held, writes_then_reads}
use Rattle.lock_table.proofs.Merging.{holds_merged, writes_merged, idle_free}
use Rattle.lock_table.proofs.Locks.take.Goals as goal

pub take_writes-requires-clause-idle : goal.take_writes-requires-clause-idle
take_writes-requires-clause-idle c k = rw c.self.invariant.1 refl

pub returns-clause-keys : goal.returns-clause-keys
returns-clause-keys c u k =
    let ls = c.self.inside.locks.pairs in
    let new = c.take_reads.new.locks.pairs in
    let rs = c.args.reads.now in
    let ws = c.args.writes.now in
    let none : holds_in (locks_of c.self.inside.taken.pairs) u k ≡ false = rw c.self.invariant.1 refl in
    let taken : holds_in (locks_of new) u k ≡ (nat_eq u c.args.t && (is_read rs k || is_written ws k)) =
    c.take_reads.ensures.keys u k
    ∙ ap (λ b. b || (nat_eq u c.args.t && is_read rs k))
    (c.take_writes.ensures.keys u k ∙ ap (λ b. b || (nat_eq u c.args.t && is_written ws k)) none)
    ∙ writes_then_reads false (nat_eq u c.args.t) (is_read rs k) (is_written ws k) in
    held_is (locks_of c.merge.new.self.pairs) u k
    ∙ ap (λ ps. holds_in (locks_of ps) u k) c.merge.ensures.pairs
    ∙ holds_merged ls new u k
    ∙ ap (λ b. holds_in (locks_of ls) u k || b) taken
    ∙ ap (λ b. b || (nat_eq u c.args.t && (is_read rs k || is_written ws k))) (sym (held_is (locks_of ls) u k) ∙ ap (λ (h : Held). holds_lock h u k) c.self.view_is)

pub returns-clause-written : goal.returns-clause-written
returns-clause-written c u k =
    let ls = c.self.inside.locks.pairs in
    let new = c.take_reads.new.locks.pairs in
    let rs = c.args.reads.now in
    let ws = c.args.writes.now in
    let none : (v : ℕ) (l : List ℕ) → holds_in (locks_of c.self.inside.taken.pairs) v l ≡ false = λ v l. rw c.self.invariant.1 refl in
    let none_written : writes_in (locks_of c.self.inside.taken.pairs) u k ≡ false = rw c.self.invariant.1 refl in
    let keys : (v : ℕ) (l : List ℕ) → holds_in (locks_of new) v l ≡ (nat_eq v c.args.t && (is_read rs l || is_written ws l)) = λ v l.
    c.take_reads.ensures.keys v l
    ∙ ap (λ b. b || (nat_eq v c.args.t && is_read rs l))
    (c.take_writes.ensures.keys v l ∙ ap (λ b. b || (nat_eq v c.args.t && is_written ws l)) (none v l))
    ∙ writes_then_reads false (nat_eq v c.args.t) (is_read rs l) (is_written ws l) in
    let taken : writes_in (locks_of new) u k ≡ (nat_eq u c.args.t && is_written ws k) =
    c.take_reads.ensures.written u k ∙ c.take_writes.ensures.written u k ∙ ap (λ b. b || (nat_eq u c.args.t && is_written ws k)) none_written in
    let idle : (l : List ℕ) → holds_in (locks_of ls) c.args.t l ≡ false = λ l.
    not_held (holds_in (locks_of ls) c.args.t l)
    (λ held. c.requires.idle l (sym (ap (λ (h : Held). holds_lock h c.args.t l) c.self.view_is) ∙ held_is (locks_of ls) c.args.t l ∙ held)) in
    written_is (locks_of c.merge.new.self.pairs) u k
    ∙ ap (λ ps. writes_in (locks_of ps) u k) c.merge.ensures.pairs
    ∙ writes_merged ls new c.merge.ensures.rising
    (λ v l held. idle_free ls c.args.t (λ q. is_read rs q || is_written ws q) v l (holds_in (locks_of new) v l) idle (keys v l) held) u k
    ∙ ap (λ b. writes_in (locks_of ls) u k || b) taken
    ∙ ap (λ b. b || (nat_eq u c.args.t && is_written ws k)) (sym (written_is (locks_of ls) u k) ∙ ap (λ (h : Held). writes_key h u k) c.self.view_is)

pub invariant_of-self : goal.invariant_of-self
invariant_of-self c =
    let ls = c.self.inside.locks.pairs in
    let new = c.take_reads.new.locks.pairs in
    let none : AreNumbered c.self.inside.taken.pairs = subst AreNumbered (sym c.self.invariant.1) (All-nil (λ (p : (List ℕ × ℕ) × Bool). 1 ≤ p.0.1)) in
    let taken : AreNumbered new = c.take_reads.ensures.numbered (c.take_writes.ensures.numbered none) in
    (subst AreNumbered (sym c.merge.ensures.pairs) (all_merged by_key (λ p. 1 ≤ p.0.1) ls new c.self.invariant.0 taken), c.clear.ensures.pairs)
