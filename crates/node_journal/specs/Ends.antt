-- The ends of an opening, of one disk and of two.
use Rattle.std.specs.Prelude.{ℕ}
use Rattle.node_journal.specs.declared.ends.OpenEnd.{OpenEnd}
use Rattle.node_journal.specs.declared.ends.OpenEnd.TheVariants.{Failed, NotJournal, Memory}
use Rattle.node_journal.specs.declared.ends.PairEnd.{PairEnd}
use Rattle.node_journal.specs.declared.ends.PairEnd.TheVariants as pair

-- what holds of the disk at each end
abbrev pub MatchEnd : {D : Type 0} → OpenEnd D → (D → Type 0) → (D → ℕ → Type 0) → (D → Type 0) → Type 0
MatchEnd (Failed d) failed not_journal memory = failed d
MatchEnd (NotJournal d at) failed not_journal memory = not_journal d at
MatchEnd (Memory d) failed not_journal memory = memory d

-- what holds of the two disks at each end
abbrev pub MatchPairEnd : {D : Type 0} → PairEnd D → (D → D → Type 0) → (D → D → ℕ → Type 0) → (D → D → Type 0) → Type 0
MatchPairEnd (pair.Failed a b) failed not_journal memory = failed a b
MatchPairEnd (pair.NotJournal a b at) failed not_journal memory = not_journal a b at
MatchPairEnd (pair.Memory a b) failed not_journal memory = memory a b
