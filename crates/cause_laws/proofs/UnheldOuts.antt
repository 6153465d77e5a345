-- Which rows neither hold nor serve a read and end nothing: all but those of requests and outcomes.
use Rattle.grid_laws.proofs.RowOuts.{Pass, is_of_row, is_outcome, is_read_request, is_touching, pass-acts, pass-advance, pass-answer}
use Rattle.grid_model.proofs.EventShapes.{idle-pass, is_idle}
use Rattle.grid_model.specs.Advances.{advance}
use Rattle.grid_model.specs.Rows.{answer}
use Rattle.grid_model.specs.Schedules.{kept, numbered}
use Rattle.grid_model.specs.Views.{Open, View}
use Rattle.grid_model.specs.declared.acts.Act.TheVariants as act
use Rattle.grid_model.specs.declared.acts.Act.{Act}
use Rattle.grid_model.specs.declared.events.Out.{Out}
use Rattle.grid_model.specs.declared.messages.Message.TheVariants as message
use Rattle.grid_model.specs.declared.messages.Message.{Message}
use Rattle.placement.specs.Clusters.{ClusterData}
use Rattle.score_base.specs.declared.ids.NodeId.{NodeId}
use Rattle.std.proofs.Common.{Bool, List, false, refl, sym, true, ℕ, ◌∙◌, ◌≡◌}
use Rattle.std.proofs.lemmas.Bool.{and_parts}
use Rattle.std.specs.List.{list_all}
use Rattle.std.specs.Prelude.{◌==◌}

-- an act that holds, serves and ends nothing, and opens no node
abbrev pub is_unheld : Act → Bool
is_unheld (act.Held n t op sid) = false
is_unheld (act.Served n t op k sid vn v) = false
is_unheld (act.Ended n t o) = false
is_unheld (act.Up n f) = false
is_unheld (act.StillDown n) = false
is_unheld a = true

unasked : (said : Message) → is_touching said ≡ false → is_read_request said ≡ true → false ≡ true
unasked (message.ReadReq q) none h = cc
unasked said none h = h

untold : (said : Message) → is_touching said ≡ false → is_outcome said ≡ true → false ≡ true
untold (message.Tell t o) none h = cc
untold said none h = h

-- an act that stands in no row but those of a request and an outcome
row-unheld : (n : NodeId) (said : Message) → is_touching said ≡ false → (a : Act) → is_of_row n said a ≡ true
    → is_unheld a ≡ true
row-unheld n said none (act.Held m t op sid) h = unasked said none (and_parts (is_read_request said) (m == n) h).0
row-unheld n said none (act.Served m t op k sid vn v) h = sym none ∙ (and_parts (is_touching said) (m == n) h).0
row-unheld n said none (act.Ended m t o) h = untold said none (and_parts (is_outcome said) (m == n) h).0
row-unheld n said none (act.Up m f) h = h
row-unheld n said none (act.StillDown m) h = h
row-unheld n said none a h = refl

pub unheld-acts : (m : ℕ) (n : NodeId) (b : Bool) (os : List Out) → Pass is_unheld os
    → list_all is_unheld (numbered m n (kept b n os)) ≡ true
unheld-acts m n b os h = pass-acts is_unheld n (λ k y said. refl) (λ x. refl) m b os h

pub unheld-advance : (c : ClusterData) (x : Open) (i : ℕ) → Pass is_unheld (advance c x i)
unheld-advance c x i = pass-advance is_unheld (λ t j v. refl) (λ t. refl) c x i

pub unheld-answer : (n : NodeId) (v : View) (x : NodeId) (said : Message) → is_touching said ≡ false
    → Pass is_unheld (answer n v x said)
unheld-answer n v x said none = pass-answer is_unheld n v x said (row-unheld n said none)

pub unheld-idle : (acts : List Act) → list_all is_idle acts ≡ true → list_all is_unheld acts ≡ true
unheld-idle acts is = idle-pass is_unheld (λ code. refl) (λ m. refl) (λ m. refl) acts is
