-- What a compaction keeps of a journal: the records without what a later one makes needless. The newest stands first.
use Rattle.std.specs.Prelude.{◌≡◌, Bool, true, false, ◌&&◌, ◌==◌, nat_le, List, [], ◌∷◌, reverse, if◌then◌else◌}
use Rattle.std.specs.List.{slice_index_or}
use Rattle.score_base.specs.declared.ids.TxId.{TxId}
use Rattle.score_base.specs.declared.ids.Ident.{Ident}
use Rattle.score_base.specs.declared.records.Record.{Record}
use Rattle.score_base.specs.declared.records.Record.TheVariants as record'
use Rattle.journal_words.specs.Journals.{floor, undone}

-- the records without the Ceilings
abbrev pub without_ceilings : List Record → List Record
without_ceilings [] = []
without_ceilings (record'.Ceiling c ∷ r) = without_ceilings r
without_ceilings (x ∷ r) = x ∷ without_ceilings r

-- the records without each Decided of t
abbrev pub without_decided : TxId → List Record → List Record
without_decided t [] = []
without_decided t (record'.Decided u f parts ∷ r) =
    if u == t then without_decided t r else record'.Decided u f parts ∷ without_decided t r
without_decided t (x ∷ r) = x ∷ without_decided t r

-- Small: no Ceiling but the last, no Closed, and no Decided behind which a Closed of its transaction stands
abbrev pub small : List Record → List Record
small [] = []
small (record'.Ceiling c ∷ r) = record'.Ceiling c ∷ without_ceilings (small r)
small (record'.Closed t ∷ r) = without_decided t (small r)
small (x ∷ r) = x ∷ small r

-- a record that those behind it make needless, where a Ceiling comes behind and these transactions are closed behind
abbrev pub is_needless : Bool → (TxId → Bool) → Record → Bool
is_needless ceiling closed (record'.Ceiling c) = ceiling
is_needless ceiling closed (record'.Decided t f parts) = closed t
is_needless ceiling closed (record'.Closed t) = true
is_needless ceiling closed x = false

-- the records that are not
abbrev pub without_needless : Bool → (TxId → Bool) → List Record → List Record
without_needless ceiling closed [] = []
without_needless ceiling closed (x ∷ r) =
    if is_needless ceiling closed x then without_needless ceiling closed r else x ∷ without_needless ceiling closed r

-- the record is a Ceiling
abbrev pub is_ceiling : Record → Bool
is_ceiling (record'.Ceiling c) = true
is_ceiling x = false

-- the record is a Closed of t
abbrev pub closes : TxId → Record → Bool
closes t (record'.Closed u) = u == t
closes t x = false

-- the flag of t is set; behind the flags none is
abbrev pub is_set : List Bool → TxId → Bool
is_set flags t = slice_index_or flags t false

-- Small of a list of records in the order of time
abbrev pub small_in_time : List Record → List Record
small_in_time records = reverse (small (reverse records))

-- no Ceiling is above c
abbrev pub are_ceilings_within : Ident → List Record → Bool
are_ceilings_within c [] = true
are_ceilings_within c (record'.Ceiling d ∷ r) = nat_le d c && are_ceilings_within c r
are_ceilings_within c (x ∷ r) = are_ceilings_within c r

-- no Ceiling is above the last one
abbrev pub is_last_ceiling_highest : List Record → Bool
is_last_ceiling_highest [] = true
is_last_ceiling_highest (record'.Ceiling c ∷ r) = are_ceilings_within c r
is_last_ceiling_highest (x ∷ r) = is_last_ceiling_highest r

-- the records of a participant: each Prepared and each Ended
abbrev pub of_participant : List Record → List Record
of_participant [] = []
of_participant (record'.Prepared t home parts sid p reads writes ∷ r) =
    record'.Prepared t home parts sid p reads writes ∷ of_participant r
of_participant (record'.Ended t o ∷ r) = record'.Ended t o ∷ of_participant r
of_participant (x ∷ r) = of_participant r

-- two journals that no word of a node tells apart: they have the same records of a participant, the same
-- floor, and the same decisions that are not closed
pub record AreAlike (r s : List Record) : Type 0 where
  pub ballots : of_participant r ≡ of_participant s
  pub clock : floor r ≡ floor s
  pub decisions : (t : TxId) → undone t r ≡ undone t s
