-- Acts that begin nothing and take no reply leave the values of a story; those of each event but a begin and a reply
-- are such.
use Rattle.grid_laws.proofs.StoryClaims.{is_untaking, untaking-claim}
use Rattle.cause_laws.proofs.Events.{IsEvent, of-event}
use Rattle.grid_model.proofs.EventShapes.{Shape, acts_by, again, arms, begins, crashes, delivers, idle, restarts}
use Rattle.grid_model.specs.declared.items.Item.{Item}
use Rattle.grid_model.specs.declared.acts.Flag.{Flag}
use Rattle.grid_laws.proofs.RowOuts.{is_reply, pass-advance, pass-again}
use Rattle.grid_laws.proofs.UntakingActs.{untaking-acts, untaking-answer, untaking-idle, untaking-losses}
use Rattle.grid_laws.proofs.Snapshots.{OfStory, of-stays}
use Rattle.grid_model.specs.Sessions.{floor_at}
use Rattle.grid_model.specs.Advances.{advance}
use Rattle.grid_model.specs.Documents.{DocumentData, number_order, script_numbers}
use Rattle.grid_model.specs.Histories.{after, sent, sent_at}
use Rattle.grid_model.specs.Nodes.{node, script_of}
use Rattle.grid_model.specs.Rows.{answer, begin_outs}
use Rattle.grid_model.specs.Disks.{is_compacting}
use Rattle.grid_model.specs.Schedules.{Choice, flag_at, kept, next_number, numbered, opened_row}
use Rattle.grid_model.specs.Stories.{story}
use Rattle.grid_model.specs.Views.{Open, view, participant}
use Rattle.grid_model.specs.declared.acts.Act.TheVariants as act
use Rattle.grid_model.specs.declared.acts.Act.{Act}
use Rattle.grid_model.specs.declared.messages.Message.TheVariants as message
use Rattle.grid_model.specs.declared.messages.Message.{Message}
use Rattle.grid_model.specs.declared.messages.ReadRep.{ReadRep}
use Rattle.placement.specs.Clusters.{ClusterData}
use Rattle.score_base.specs.declared.ids.Ident.{Ident}
use Rattle.score_base.specs.declared.ids.NodeId.{NodeId}
use Rattle.score_base.specs.declared.ids.TxId.{TxId}
use Rattle.score_base.specs.declared.ids.Value.{Value}
use Rattle.script_lang.specs.Scripts.{ScriptData}
use Rattle.std.proofs.Common.{Bool, List, Option, Some, [], false, refl, true, ℕ, ◌∷◌, ◌≡◌}
use Rattle.std.proofs.lemmas.Bool.{and_parts}
use Rattle.std.specs.List.{list_all}
use Rattle.std.specs.Prelude.{if◌then◌else◌}

-- ---- the values of a story

pub untaking-later : (N : Type 0) (Q : Option Ident → List (ℕ × Value) → Type 0) (d : DocumentData)
    (past acts : List Act) (t : TxId)
    → list_all is_untaking acts ≡ true → OfStory N Q (story d past t) → OfStory N Q (story d (after past acts) t)
untaking-later N Q d past [] t free k = k
untaking-later N Q d past (a ∷ acts) t free k = let both = and_parts (is_untaking a) (list_all is_untaking acts) free in untaking-later N Q d (a ∷ past) acts t both.1 (untaking-claim (OfStory N Q) (of-stays N Q) d past a t both.0 k)

-- ---- Advance

-- Advance begins no transaction and takes no reply
pub advance-untaking : (c : ClusterData) (x : Open) (i : ℕ) (b : Bool) (m : ℕ) (n : NodeId)
    → list_all is_untaking (numbered m n (kept b n (advance c x i))) ≡ true
advance-untaking c x i b m n =
    untaking-acts m n b (advance c x i) (pass-advance is_untaking (λ t j v. refl) (λ t. refl) c x i)

-- ---- the turn of an event

-- an event begins a transaction, delivers a reply, or does neither
pub data IsTurn (d : DocumentData) (past acts : List Act) : Type 0 where
  untaking_turn : list_all is_untaking acts ≡ true → IsTurn d past acts
  begun_by : (s : ScriptData) (b : Bool) → script_of s.number d.scripts ≡ Some s → (node d past s.home).up ≡ true → acts
      ≡ numbered (next_number past) s.home
      (kept b s.home (begin_outs s.home (participant (view d past s.home)) s (floor_at d past s))) → IsTurn d past acts
  answered_by : (m : ℕ) (n x : NodeId) (q : ReadRep) (b : Bool)
      → sent_at m (sent past) ≡ Some (record { from = x; to = n; message = message.ReadRep q })
      → acts ≡ act.Got m ∷ numbered (next_number past) n (kept b n (answer n (view d past n) x (message.ReadRep q)))
      → IsTurn d past acts

turn-delivered : (d : DocumentData) (past acts : List Act) (m : ℕ) (n x : NodeId) (said : Message) (b c : Bool)
    → is_reply said ≡ c → sent_at m (sent past) ≡ Some (record { from = x; to = n; message = said })
    → acts ≡ act.Got m ∷ numbered (next_number past) n (kept b n (answer n (view d past n) x said)) → IsTurn d past acts
turn-delivered d past acts m n x (message.ReadRep q) b c e is k = answered_by m n x q b is k
turn-delivered d past acts m n x said b true e is k = cc
turn-delivered d past acts m n x said b false e is k = untaking_turn (rw k (untaking-acts (next_number past) n b (answer n (view d past n) x said) (untaking-answer n (view d past n) x said e)))

turn-restart : (d : DocumentData) (past : List Act) (n : NodeId) (f : Flag) (opens : Bool)
    → IsTurn d past (if opens then opened_row d past n f else act.StillDown n ∷ [])
turn-restart d past n f true =
    untaking_turn (untaking-losses d (act.Up n f ∷ past) n (number_order (script_numbers d.scripts)))
turn-restart d past n f false = untaking_turn refl

shape-turn : (d : DocumentData) (past : List Act) (i : Item) (c : Choice) (s : Shape d past i)
    → IsTurn d past (acts_by d past i c s)
shape-turn d past i c (idle acts is) = untaking_turn (untaking-idle acts is)
shape-turn d past i c (arms n k how is) = untaking_turn refl
shape-turn d past i c (crashes n up) = untaking_turn refl
shape-turn d past i c (restarts n up) =
    turn-restart d past n (flag_at (is_compacting past n) (node d past n).doubt c.finds) c.opens
shape-turn d past i c (begins s is new up quiet) = begun_by s c.keeps is up refl
shape-turn d past i c (delivers m e is up) =
    turn-delivered d past (acts_by d past i c (delivers m e is up)) m e.to e.from e.message c.keeps
    (is_reply e.message) refl is refl
shape-turn d past i c (again n os up is) =
    untaking_turn (untaking-acts (next_number past) n c.keeps os (pass-again is_untaking (λ m. refl) d past n os is))

pub event-turn : (d : DocumentData) (past acts : List Act) → IsEvent d past acts → IsTurn d past acts
event-turn d past acts event = of-event d past acts (IsTurn d past) (shape-turn d past) event
