-- The next message, and where none is left.
use Rattle.std.proofs.Common.{◌≡◌, ℕ, ◌+◌, zero, suc, Bool, List, [], length, Some, None, refl, sym, ap, ◌∙◌, if◌then◌else◌}
use Rattle.score_disk.specs.declared.disk.Disk.{Ghosts}
use Rattle.grid_model.specs.declared.acts.Act.{Act}
use Rattle.grid_model.specs.declared.items.Item.TheVariants as item
use Rattle.grid_model.specs.declared.voids.Void.TheVariants as void
use Rattle.grid_model.specs.Documents.{DocumentData}
use Rattle.grid_model.specs.Histories.{after, is_gone}
use Rattle.grid_model.specs.Schedules.{first_in, next_left, next_on}
use Rattle.grid_model.specs.States.{state_of}
use Rattle.grid_model.specs.Voids.{voided}
use Rattle.grid_laws.specs.CalmRuns.{calm}
use Rattle.grid_world.proofs.ForCode.{next-row}
use Rattle.sent_list.specs.SentLists.{SentData, ShowsSent, is_marked, least_left}
use Rattle.grid_world.specs.declared.worlds.World.{World}
use Rattle.grid_world.specs.Follows.{Delivers, Plays}
use Rattle.grid_world.specs.Worlds.{HasTold}
use Rattle.grid_world.proofs.QuietRows.{void-plays}

first_same : (f g : ℕ → Bool) (m count : ℕ) → ((k : ℕ) → f k ≡ g k) → first_in f m count ≡ first_in g m count
first_same f g m zero same = refl
first_same f g m (suc count) same =
    ap (λ b. if b then first_in f (m + 1) count else Some m) (same m)
    ∙ ap (λ o. if g m then o else Some m) (first_same f g (m + 1) count same)

left-shown : (x : SentData) (past : List Act) → ShowsSent x past → next_left past ≡ least_left x
left-shown x past s =
    sym (first_same (is_marked x.gone) (is_gone past) 1 (length x.sent) s.gone
    ∙ ap (λ ms. first_in (is_gone past) 1 (length ms)) s.sent)

module _ {D : Type 0} {g : Ghosts D} where
  pub none-left-plays : (d : DocumentData) (k : ℕ) (w w' : World D g) → least_left w.network ≡ None
      → HasTold d (voided void.NoneLeft) w w' → Plays d (item.Next k) w w' (voided void.NoneLeft)
  none-left-plays d k w w' none told = void-plays d (item.Next k) w w' void.NoneLeft told
      (λ e h given one f next.
      ap (next_on d (state_of d (after [] h)) calm) (left-shown w.network (after [] h) f.sent ∙ none))

  pub next-plays : (d : DocumentData) (k m : ℕ) (w w' : World D g) (acts : List Act) → least_left w.network ≡ Some m
      → Delivers d m w w' acts → Plays d (item.Next k) w w' acts
  next-plays d k m w w' acts is p =
      p (item.Next k) (λ past c shows. next-row d past m k c (left-shown w.network past shows ∙ is))
