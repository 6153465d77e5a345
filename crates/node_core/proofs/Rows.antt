-- When are the outs of a participant the row of an event, with the store and the held reads of the next view?
use Rattle.std.proofs.Common.{◌≡◌, Bool, true, List, [], ◌∷◌, ◌++◌, Option, refl, sym, ap, subst, ◌∙◌}
use Rattle.std.specs.Prelude.{if◌then◌else◌}
use Rattle.score_base.specs.declared.ids.TxId.{TxId}
use Rattle.score_base.specs.declared.ids.NodeId.{NodeId}
use Rattle.score_base.specs.declared.records.Record.{Record}
use Rattle.script_lang.specs.Scripts.{ScriptData}
use Rattle.grid_model.specs.declared.events.Event.{Event}
use Rattle.grid_model.specs.declared.events.Event.TheVariants as event
use Rattle.grid_model.specs.declared.events.Out.{Out}
use Rattle.grid_model.specs.declared.messages.Envelope.{Envelope}
use Rattle.grid_model.specs.declared.messages.Message.{Message}
use Rattle.grid_model.specs.declared.stories.HeldRead.{HeldRead}
use Rattle.grid_model.specs.Fitness.{is_fit_at, tx_in}
use Rattle.grid_model.specs.NextViews.{behind, behind_all, next_view}
use Rattle.grid_model.specs.Rows.{outs_of, message_outs}
use Rattle.grid_model.specs.Views.{View, Open, Stage, stage}
use Rattle.grid_store.specs.Given.{Given, IsSame, participant_in}
use Rattle.snapshot_read.specs.Views.{view_with}
use Rattle.node_core.specs.Plays.{IsViewOf, IsRowAt, IsRecordAt}

-- a view with these records, this clock and these held reads
pub view-of : (s : Given) (hs : List HeldRead) (w : View)
    → w.cluster ≡ s.cluster → w.journal ≡ s.journal → w.next ≡ s.next → w.held ≡ hs → IsViewOf s hs w
view-of s hs w a b c d =
    λ i. record { cluster = a i; journal = b i; next = c i; held = d i; desk = w.desk; acks = w.acks }

-- it is as good where all but the room is as before
pub view-same : (s s' : Given) (hs hs' : List HeldRead) (w : View)
    → IsSame s s' → hs' ≡ hs → IsViewOf s hs w → IsViewOf s' hs' w
view-same s s' hs hs' w same held is =
    view-of s' hs' w (ap (λ (x : View). x.cluster) is ∙ sym same.cluster)
    (ap (λ (x : View). x.journal) is ∙ sym same.journal) (ap (λ (x : View). x.next) is ∙ sym same.next)
    (ap (λ (x : View). x.held) is ∙ sym held)

-- no out changes the cluster
pub cluster-behind : (e : Option Envelope) (o : Option ScriptData) (v : View) (os : List Out)
    → (behind_all e o v os).cluster ≡ v.cluster
cluster-behind e o v [] = refl
cluster-behind e o v (x ∷ os) = cluster-behind e o (behind e o v x) os

-- a message that is fit whatever stands at the desk is answered
pub fit-row : (s : Given) (hs : List HeldRead) (x : NodeId) (said : Message) (v : View) → IsViewOf s hs v
    → ((stand : Stage) → is_fit_at s.node (participant_in s) stand x said ≡ true)
    → outs_of s.node v (event.Deliver x said)
    ≡ message_outs s.node (participant_in s) hs (stage v (tx_in said)) x said
fit-row s hs x said v is fit =
    let P : View → Type 0 = λ w. outs_of s.node w (event.Deliver x said)
    ≡ message_outs s.node (participant_in s) hs (stage w (tx_in said)) x said in
    subst P (sym is) (at (view_with s hs v.desk v.acks).desk v.acks)
  where
    at : (desk : TxId → Option Open) (acks : TxId → List NodeId) → let w = view_with s hs desk acks in
        outs_of s.node w (event.Deliver x said)
        ≡ message_outs s.node (participant_in s) hs (stage w (tx_in said)) x said
    at desk acks =
        let w = view_with s hs desk acks in
        let P : Bool → Type 0 = λ b.
        (if b then message_outs s.node (participant_in s) hs (stage w (tx_in said)) x said else [])
        ≡ message_outs s.node (participant_in s) hs (stage w (tx_in said)) x said in
        subst P (sym (fit (stage w (tx_in said)))) refl

-- one equation a part: from the row and from what the next view has, at each desk
pub row-at : (s : Given) (hs : List HeldRead) (e : Event) (outs : List Out) (s' : Given) (hs' : List HeldRead)
    → s'.node ≡ s.node → s'.cluster ≡ s.cluster
    → ((v : View) → IsViewOf s hs v → outs ≡ outs_of s.node v e)
    → ((desk : TxId → Option Open) (acks : TxId → List NodeId) →
    IsViewOf s' hs' (next_view s.node (view_with s hs desk acks) e outs))
    → IsRowAt s hs e outs s' hs'
row-at s hs e outs s' hs' node cluster row view =
    record {
      node = node;
      cluster = cluster;
      row = row;
      view = λ v is. (let P : View → Type 0 = λ w. IsViewOf s' hs' (next_view s.node w e outs) in
          subst P (sym is) (view v.desk v.acks));
    }

-- the record of a row, from what the next view has at each desk
pub record-at : (s : Given) (hs : List HeldRead) (e : Event) (x : Record) (outs : List Out)
    → ((v : View) → IsViewOf s hs v → outs ≡ outs_of s.node v e)
    → ((desk : TxId → Option Open) (acks : TxId → List NodeId) →
    (next_view s.node (view_with s hs desk acks) e outs).journal ≡ x ∷ s.journal)
    → IsRecordAt s hs e x
record-at s hs e x outs row journal =
    λ v is. (let P : List Out → Type 0 = λ os. (next_view s.node v e os).journal ≡ x ∷ s.journal in
    let Q : View → Type 0 = λ w. (next_view s.node w e outs).journal ≡ x ∷ s.journal in
    subst P (row v is) (subst Q (sym is) (journal v.desk v.acks)))

-- what was put into an empty list
pub put-none : (now old more wanted : List Out) → now ≡ old ++ more → old ≡ [] → more ≡ wanted → now ≡ wanted
put-none now old more wanted put none same = put ∙ ap (λ os. os ++ more) none ∙ same
