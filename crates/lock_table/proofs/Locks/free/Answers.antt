use Rattle.std.proofs.Common.{ℕ, Bool, List, ◌≡◌, ◌&&◌, not, nat_eq, ◌≤◌, sym, ap, ◌∙◌, subst, rules}
use Rattle.std.specs.List.{filter}
use Rattle.std.proofs.lemmas.Fn.{filter_same}
use Rattle.std.proofs.lemmas.List.Elements.{All-filter}
use Rattle.lock_table.specs.Keys.{Held, holds_lock, writes_key}
use Rattle.lock_table.specs.Table.{locks_of, holds_in, writes_in, AreNumbered}
use Rattle.lock_table.proofs.Places.{is_other, locks_of-filter, held_is, written_is, holds_in-filter, writes_in-filter}
use Rattle.lock_table.proofs.Locks.free.Goals as goal

pub returns-clause-keys : goal.returns-clause-keys
returns-clause-keys c u k =
    let ls = c.self.inside.locks.pairs in
    let rest : locks_of c.retain.new.self.pairs ≡ filter (is_other c.args.t) (locks_of ls) = ap locks_of (filter_same _ (λ (p : (List ℕ × ℕ) × Bool). not (nat_eq p.0.1 c.args.t)) _ (λ x b f r. search rules) _ _ c.retain.ensures.filtered) ∙ locks_of-filter c.args.t ls in
    held_is (locks_of c.retain.new.self.pairs) u k ∙ ap (λ xs. holds_in xs u k) rest ∙ holds_in-filter c.args.t (locks_of ls) u k
    ∙ ap (λ b. not (nat_eq u c.args.t) && b) (sym (held_is (locks_of ls) u k) ∙ ap (λ (h : Held). holds_lock h u k) c.self.view_is)

pub returns-clause-written : goal.returns-clause-written
returns-clause-written c u k =
    let ls = c.self.inside.locks.pairs in
    let rest : locks_of c.retain.new.self.pairs ≡ filter (is_other c.args.t) (locks_of ls) = ap locks_of (filter_same _ (λ (p : (List ℕ × ℕ) × Bool). not (nat_eq p.0.1 c.args.t)) _ (λ x b f r. search rules) _ _ c.retain.ensures.filtered) ∙ locks_of-filter c.args.t ls in
    written_is (locks_of c.retain.new.self.pairs) u k ∙ ap (λ xs. writes_in xs u k) rest ∙ writes_in-filter c.args.t (locks_of ls) u k
    ∙ ap (λ b. not (nat_eq u c.args.t) && b) (sym (written_is (locks_of ls) u k) ∙ ap (λ (h : Held). writes_key h u k) c.self.view_is)

pub invariant_of-self : goal.invariant_of-self
invariant_of-self c =
    let ls = c.self.inside.locks.pairs in
    let test : (List ℕ × ℕ) × Bool → Bool = λ p. not (nat_eq p.0.1 c.args.t) in
    let rest : c.retain.new.self.pairs ≡ filter test ls = filter_same _ test _ (λ x b f r. search rules) _ _ c.retain.ensures.filtered in
    (subst AreNumbered (sym rest) (All-filter test (λ p. 1 ≤ p.0.1) ls c.self.invariant.0), c.self.invariant.1)
