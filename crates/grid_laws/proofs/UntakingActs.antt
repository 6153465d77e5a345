-- The acts that begin nothing and take no reply: those of each row but two.
use Rattle.grid_laws.proofs.StoryClaims.{is_untaking}
use Rattle.std.proofs.Common.{◌≡◌, ℕ, Bool, true, false, List, refl}
use Rattle.std.specs.Prelude.{map}
use Rattle.std.specs.List.{flat_map, list_all}
use Rattle.score_base.specs.declared.ids.TxId.{TxId}
use Rattle.score_base.specs.declared.ids.NodeId.{NodeId}
use Rattle.grid_model.specs.declared.acts.Act.{Act}
use Rattle.grid_model.specs.declared.acts.Act.TheVariants as act
use Rattle.grid_model.specs.declared.events.Out.{Out}
use Rattle.grid_model.specs.declared.messages.Message.{Message}
use Rattle.grid_model.specs.Documents.{DocumentData}
use Rattle.grid_model.specs.Nodes.{script_of}
use Rattle.grid_model.specs.Views.{View}
use Rattle.grid_model.specs.Rows.{answer}
use Rattle.grid_model.specs.Schedules.{kept, lost_at, numbered, start_act}
use Rattle.grid_model.proofs.EventShapes.{idle-pass, is_idle}
use Rattle.grid_laws.proofs.RowOuts.{Pass, is_of_row, is_reply, pass-acts, pass-answer, pass-losses, pass-starts}

pub untaking-acts : (m : ℕ) (n : NodeId) (b : Bool) (os : List Out) → Pass is_untaking os
    → list_all is_untaking (numbered m n (kept b n os)) ≡ true
untaking-acts m n b os h = pass-acts is_untaking n (λ k y said. refl) (λ x. refl) m b os h

row-untaking : (n : NodeId) (said : Message) → is_reply said ≡ false → (a : Act) → is_of_row n said a ≡ true
    → is_untaking a ≡ true
row-untaking n said none (act.Began t m sid0) h = h
row-untaking n said none (act.Taken t op sid v) h = cc
row-untaking n said none a h = refl

pub untaking-answer : (n : NodeId) (v : View) (x : NodeId) (said : Message) → is_reply said ≡ false
    → Pass is_untaking (answer n v x said)
untaking-answer n v x said none = pass-answer is_untaking n v x said (row-untaking n said none)

-- acts that change nothing
pub untaking-idle : (acts : List Act) → list_all is_idle acts ≡ true → list_all is_untaking acts ≡ true
untaking-idle acts is = idle-pass is_untaking (λ code. refl) (λ m. refl) (λ m. refl) acts is

-- the losses of a node that is opened
pub untaking-losses : (d : DocumentData) (past : List Act) (n : NodeId) (ts : List TxId)
    → list_all is_untaking (flat_map (λ t. lost_at d past n (script_of t d.scripts)) ts) ≡ true
untaking-losses d past n ts = pass-losses is_untaking d past n ts (λ t. refl)

-- the nodes at the start
pub untaking-starts : (opens : NodeId → Bool) (ns : List NodeId)
    → list_all is_untaking (map (start_act opens) ns) ≡ true
untaking-starts opens ns = pass-starts is_untaking opens ns (λ n. refl) (λ n. refl)
