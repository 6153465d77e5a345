-- What stands of a document that was played stands of the answer, where the document was read.
use Rattle.std.proofs.Common.{◌≡◌, ℕ, ◌≤◌, List, length, Option, Ok, arith, subst}
use Rattle.score_disk.specs.declared.disk.Disk.{Ghosts}
use Rattle.score_io.specs.Streams.{ReadWhole}
use Rattle.grid_model.specs.Documents.{DocumentData}
use Rattle.cluster_file.specs.Doc.{doc}
use Rattle.score_cli.specs.Answers.{Came, Done, Broken, OutOfMemory, some}
use Rattle.score_cli.specs.Runs.{IsPlayed, whole, broken, memory}

came : (lo ln : Option (List ℕ)) (bytes seen : List ℕ) (d : DocumentData) → ReadWhole lo ln bytes
    → length bytes ≤ 4194304 → seen ≡ bytes → doc seen ≡ Ok d → Came lo ln
came lo ln bytes seen d read short same spelled = record {
  bytes = bytes;
  read = read;
  within = short;
  document = d;
  spelled = subst (λ bs. doc bs ≡ Ok d) same spelled;
}

module _ {D : Type 0} (g : Ghosts D) (lo ln ho hn : Option (List ℕ)) (fo fn code : ℕ) (bytes seen : List ℕ)
    (d : DocumentData) (given left : List D) (read : ReadWhole lo ln bytes) (short : length bytes ≤ 4194304)
    (same : seen ≡ bytes) (spelled : doc seen ≡ Ok d) where
  pub done-from : IsPlayed g d given left ho hn fo fn code → code ≡ 0 → Done g lo ln ho hn given left
  unfolding came
  done-from (whole is w) e = record {
    input = came lo ln bytes seen d read short same spelled;
    acts = w.acts;
    played = w.played;
    wrote = w.wrote;
  }
  done-from (broken is b) e = absurd (omega (arith, is, e))
  done-from (memory is p) e = absurd (omega (arith, is, e))

  pub broken-from : IsPlayed g d given left ho hn fo fn code → code ≡ 5 → Broken g lo ln ho hn fo fn given left
  unfolding came
  broken-from (whole is w) e = absurd (omega (arith, is, e))
  broken-from (broken is b) e = record { input = came lo ln bytes seen d read short same spelled; broke = b }
  broken-from (memory is p) e = absurd (omega (arith, is, e))

  pub memory-from : IsPlayed g d given left ho hn fo fn code → code ≡ 6 → OutOfMemory lo ln ho hn
  unfolding came
  memory-from (whole is w) e = absurd (omega (arith, is, e))
  memory-from (broken is b) e = absurd (omega (arith, is, e))
  memory-from (memory is p) e = some (came lo ln bytes seen d read short same spelled) p
