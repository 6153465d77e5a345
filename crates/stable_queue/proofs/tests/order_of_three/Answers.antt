use Rattle.std.proofs.Common.{◌≡◌, Bool, false, ap, ◌∙◌, IsTrue}
use Rattle.std.specs.FinSet.{contains, insert, empty, contains-empty, contains-insert}
use Rattle.stable_queue.specs.Commits.{Commits, by_final}
use Rattle.stable_queue.proofs.Members.{by_final_total}
use Rattle.stable_queue.proofs.tests.order_of_three.Goals as goal

absent : (b : Bool) → b ≡ false → ¬ IsTrue b
absent b no_member member = cc

pub add-requires-clause-absent : goal.add-requires-clause-absent
add-requires-clause-absent g c =
    let start : c.reserve.new.self.commits ≡ empty = c.reserve.ensures.commits ∙ c.new-stable.ensures in
    absent _ (ap (λ (s : Commits). contains s (5, 9)) start ∙ contains-empty by_final (5, 9))

pub add-requires-2-clause-absent : goal.add-requires-2-clause-absent
add-requires-2-clause-absent g c =
    let start : c.reserve.new.self.commits ≡ empty = c.reserve.ensures.commits ∙ c.new-stable.ensures in
    let one : c.add.new.self.commits ≡ insert empty (5, 9) = c.add.ensures.added ∙ ap (λ (s : Commits). insert s (5, 9)) start in
    absent _ (ap (λ (s : Commits). contains s (3, 8)) one ∙ contains-insert by_final_total empty (5, 9) (3, 8) ∙ contains-empty by_final (3, 8))

pub add-requires-3-clause-absent : goal.add-requires-3-clause-absent
add-requires-3-clause-absent g c =
    let start : c.reserve.new.self.commits ≡ empty = c.reserve.ensures.commits ∙ c.new-stable.ensures in
    let one : c.add.new.self.commits ≡ insert empty (5, 9) = c.add.ensures.added ∙ ap (λ (s : Commits). insert s (5, 9)) start in
    let two : c.add-2.new.self.commits ≡ insert (insert empty (5, 9)) (3, 8) = c.add-2.ensures.added ∙ ap (λ (s : Commits). insert s (3, 8)) one in
    absent _ (ap (λ (s : Commits). contains s (3, 2)) two ∙ contains-insert by_final_total (insert empty (5, 9)) (3, 8) (3, 2) ∙ contains-insert by_final_total empty (5, 9) (3, 2) ∙ contains-empty by_final (3, 2))
