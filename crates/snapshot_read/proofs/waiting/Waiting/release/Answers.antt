use Rattle.std.proofs.Common.{◌≡◌, List, Option, Some, None, true, false, ap, sym, subst, ◌∙◌, get_or}
use Rattle.std.specs.Prelude.{is_some}
use Rattle.std.specs.List.{find, remove}
use Rattle.grid_model.specs.declared.stories.HeldRead.{HeldRead}
use Rattle.snapshot_read.specs.Held.{HeldReads}
use Rattle.snapshot_read.specs.Reads.{is_free, answer_to}
use Rattle.snapshot_read.specs.Outs.{without_answered}
use Rattle.snapshot_read.specs.declared.answers.Answer.{Answer}
use Rattle.snapshot_read.proofs.FirstFree.{IsFirst, none-place, some-place, none-held, held-none, answer-none, answer-some}
use Rattle.snapshot_read.proofs.waiting.Waiting.release.Goals as goal

-- no place was found
free_none : (c : goal.After-from_residual) → find (is_free c.args.store.now.journal) c.args.self.now.reads ≡ None
free_none c =
    let here : c.self.inside.reads.items ≡ c.args.self.now.reads = ap (λ (w : HeldReads). w.reads) c.self.view_is in
    none-place c.args.store.now c.least.result c.as_slice.result.now c.args.self.now.reads c.first_below.result
    c.least.ensures.clear c.first_below.ensures (c.as_slice.ensures.value ∙ here) (c.in_err-i.was {u = tt})

-- the place of the first free read
first : (c : goal.After-answer_to) →
    IsFirst c.args.store.now.journal c.args.self.now.reads c.in_ok-i.i c.remove-read.result
first c =
    let here : c.self.inside.reads.items ≡ c.args.self.now.reads = ap (λ (w : HeldReads). w.reads) c.self.view_is in
    let P : List HeldRead → Type 0 = λ xs. c.remove-read.result ≡ get_or xs c.in_ok-i.i c.remove-read.result in
    some-place c.args.store.now c.least.result c.as_slice.result.now c.args.self.now.reads c.first_below.result
    c.in_ok-i.i c.remove-read.result c.least.ensures.clear c.first_below.ensures
    (c.as_slice.ensures.value ∙ here) (c.in_ok-i.was {u = tt}) (subst P here c.remove-read.ensures.value)

pub returns-in_err-i-clause-answer : goal.returns-in_err-i-clause-answer
returns-in_err-i-clause-answer c =
    c.from_residual.ensures ∙ answer-none c.args.store.now c.args.self.now.reads (free_none c)

pub returns-in_err-i-clause-none : goal.returns-in_err-i-clause-none
returns-in_err-i-clause-none c = (
  (λ _. none-held c.args.store.now.journal c.args.self.now.reads (free_none c)),
  (λ _. ap (λ (o : Option Answer). is_some o) c.from_residual.ensures),
)

pub returns-clause-answer : goal.returns-clause-answer
returns-clause-answer c =
    ap (λ (a : Answer). Some a) c.answer_to.ensures
    ∙ answer-some c.args.store.now c.args.self.now.reads c.remove-read.result (first c).found

pub returns-clause-none : goal.returns-clause-none
returns-clause-none c = (
  (λ e. absurd (let q : true ≡ false = e in cc)),
  (λ held.
      let none = held-none c.args.store.now.journal c.args.self.now.reads held in
      let q : Some c.remove-read.result ≡ None = sym (first c).found ∙ none in
      cc),
)

pub returns-clause-held : goal.returns-clause-held
returns-clause-held c =
    let here : c.self.inside.reads.items ≡ c.args.self.now.reads = ap (λ (w : HeldReads). w.reads) c.self.view_is in
    c.remove-read.ensures.items ∙ ap (λ xs. remove xs c.in_ok-i.i) here ∙ (first c).rest
    ∙ ap (λ (a : Answer). without_answered a c.args.self.now.reads) (sym c.answer_to.ensures)
