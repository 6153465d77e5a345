-- A stronger claim gives the weaker answer.
use Rattle.std.proofs.Common.{ℕ, List, Option}
use Rattle.grid_model.specs.declared.acts.Act.{Act}
use Rattle.grid_model.specs.Documents.{DocumentData}
use Rattle.text_parts.specs.Answers.{BrokenPart, SomeParts, no_part, whole_parts}

pub broken-claim : (Claim Less : DocumentData → ℕ → List Act → Type 0) (d : DocumentData) →
    ((e : ℕ) (acts : List Act) → Claim d e acts → Less d e acts) →
    (held_old held_new : Option (List ℕ)) (faults_old faults_new : ℕ) →
    BrokenPart Claim d held_old held_new faults_old faults_new →
    BrokenPart Less d held_old held_new faults_old faults_new
broken-claim Claim Less d less held_old held_new faults_old faults_new b = record {
  events = b.events;
  acts = b.acts;
  claim = less b.events b.acts b.claim;
  before = b.before;
  part = b.part;
  place = b.place;
  wrote = b.wrote;
  rose = b.rose;
}

pub some-claim : (Claim Less : DocumentData → ℕ → List Act → Type 0) (d : DocumentData) →
    ((e : ℕ) (acts : List Act) → Claim d e acts → Less d e acts) →
    (held_old held_new : Option (List ℕ)) → SomeParts Claim d held_old held_new → SomeParts Less d held_old held_new
some-claim Claim Less d less held_old held_new (no_part wrote) = no_part wrote
some-claim Claim Less d less held_old held_new (whole_parts e acts run claim wrote) =
    whole_parts e acts run (less e acts claim) wrote
