-- By how much the counts of the two disks rise in a call, in the order of the disks.
use Rattle.std.proofs.Common.{◌≡◌, ℕ, Bool, true, false, not, ap, ◌∙◌, arith}
use Rattle.node_journal.specs.Pairs.{in_order}
use Rattle.disk_laws.specs.SoFar.{IsRise, IsJointRise}
use Rattle.disk_laws.specs.Shown.{Shown, Seats, first_seat, second_seat}
use Rattle.disk_laws.proofs.CountRises.{joint-none, joint-first, joint-second}

-- the same counts, where the live disk is the same of the two
same-by : (b c : Bool) (l o l' o' : Shown) → c ≡ b → l'.own ≡ l.own → o'.own ≡ o.own →
    IsJointRise (in_order b (λ f _. f) l o).own (in_order b (λ _ s. s) l o).own (in_order c (λ f _. f) l' o').own
    (in_order c (λ _ s. s) l' o').own 0
same-by true true l o l' o' e f g = joint-none o.own l.own o'.own l'.own g f
same-by false false l o l' o' e f g = joint-none l.own o.own l'.own o'.own f g
same-by true false l o l' o' e f g = grind arith
same-by false true l o l' o' e f g = grind arith

pub same-owns : (s t : Seats) → t.second ≡ s.second → t.live.own ≡ s.live.own → t.other.own ≡ s.other.own →
    IsJointRise (first_seat s).own (second_seat s).own (first_seat t).own (second_seat t).own 0
same-owns s t e f g = same-by s.second t.second s.live s.other t.live t.other e f g

-- and where it is the other one
turned-by : (b c : Bool) (l o l' o' : Shown) → c ≡ not b → l'.own ≡ o.own → o'.own ≡ l.own →
    IsJointRise (in_order b (λ f _. f) l o).own (in_order b (λ _ s. s) l o).own (in_order c (λ f _. f) l' o').own
    (in_order c (λ _ s. s) l' o').own 0
turned-by true false l o l' o' e f g = joint-none o.own l.own l'.own o'.own f g
turned-by false true l o l' o' e f g = joint-none l.own o.own o'.own l'.own g f
turned-by true true l o l' o' e f g = grind arith
turned-by false false l o l' o' e f g = grind arith

pub turned-owns : (s t : Seats) → t.second ≡ not s.second → t.live.own ≡ s.other.own → t.other.own ≡ s.live.own →
    IsJointRise (first_seat s).own (second_seat s).own (first_seat t).own (second_seat t).own 0
turned-owns s t e f g = turned-by s.second t.second s.live s.other t.live t.other e f g

-- the live disk has risen, and both have crashed behind
pub live-rise : (b : Bool) (l o f g f' g' : Shown) (more : ℕ) → in_order b (λ _ other. other) f g ≡ o →
    IsRise l.own (in_order b (λ live _. live) f g).own more → f'.own ≡ f.own → g'.own ≡ g.own →
    IsJointRise (in_order b (λ f _. f) l o).own (in_order b (λ _ s. s) l o).own f'.own g'.own more
live-rise true l o f g f' g' more same is cf cg = joint-second o.own l.own f'.own g'.own more
    (cf ∙ ap (λ x. x.own) same) (rw cg is)
live-rise false l o f g f' g' more same is cf cg = joint-first l.own o.own f'.own g'.own more (rw cf is)
    (cg ∙ ap (λ x. x.own) same)

-- the other has
pub other-rise : (b : Bool) (l o f g f' g' : Shown) (more : ℕ) → in_order b (λ live _. live) f g ≡ l →
    IsRise o.own (in_order b (λ _ other. other) f g).own more → f'.own ≡ f.own → g'.own ≡ g.own →
    IsJointRise (in_order b (λ f _. f) l o).own (in_order b (λ _ s. s) l o).own f'.own g'.own more
other-rise true l o f g f' g' more same is cf cg = joint-first o.own l.own f'.own g'.own more (rw cf is)
    (cg ∙ ap (λ x. x.own) same)
other-rise false l o f g f' g' more same is cf cg = joint-second l.own o.own f'.own g'.own more
    (cf ∙ ap (λ x. x.own) same) (rw cg is)
