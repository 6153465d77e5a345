-- The receivers of messages are nodes of the cluster.
use Rattle.std.proofs.Common.{◌≡◌, ℕ, ◌-◌, ◌≤◌, ◌==◌, zero, suc, Bool, true, false, List, [], ◌∷◌, inl, inr, Option, Some, None, refl, sym, subst, arith, true≢false, if◌then◌else◌}
use Rattle.std.specs.Prelude.{slice_get}
use Rattle.std.specs.List.{list_all, list_any}
use Rattle.std.proofs.lemmas.Bool.{and_parts, and_from, or_cases}
use Rattle.std.proofs.lemmas.Bool.Decides.{nat_tests}
use Rattle.score_base.specs.declared.ids.NodeId.{NodeId}
use Rattle.score_base.specs.declared.ids.TxId.{TxId}
use Rattle.score_base.specs.declared.keys.Key.{Key}
use Rattle.script_lang.specs.Scripts.{ScriptData}
use Rattle.script_lang.specs.Reads.{keys_of}
use Rattle.placement.specs.Places.{holds, is_among}
use Rattle.grid_model.specs.declared.acts.Act.{Act}
use Rattle.grid_model.specs.declared.acts.Act.TheVariants as act
use Rattle.grid_model.specs.declared.messages.Envelope.{Envelope}
use Rattle.grid_model.specs.Acts.{EachAct}
use Rattle.grid_model.specs.Claims.{IsGenuineAct, is_end}
use Rattle.grid_model.specs.Documents.{DocumentData, IsOne}
use Rattle.grid_model.specs.Fitness.{tx_in}
use Rattle.grid_model.specs.Histories.{after, sent, sent_at}
use Rattle.grid_model.specs.Nodes.{is_home, is_home_in, parts_in, script_of}
use Rattle.grid_model.specs.Runs.{IsRun}
use Rattle.grid_world.proofs.ForCode.{genuine, holder-least, holder-most, home-least, home-most, part-holds, sent-more}
use Rattle.view_laws.specs.RowActs.{envelopes}

-- ---- a node that has a part in a transaction

-- a number of a node of a cluster of so many
pub record IsNode (nodes : ℕ) (n : NodeId) : Type 0 where
  pub least : 1 ≤ n
  pub most : n ≤ nodes

some_holds : (n : NodeId) (d : DocumentData) (ks : List Key) → list_any (holds d.cluster.places n) ks ≡ true
    → (k : Key) × (holds d.cluster.places n k ≡ true)
some_holds n d [] h = absurd (true≢false (sym h))
some_holds n d (k ∷ ks) h = elim (or_cases (holds d.cluster.places n k) (list_any (holds d.cluster.places n) ks) h) [
  | inl here ↦ (k, here)
  | inr later ↦ some_holds n d ks later
]

part_node : (d : DocumentData) (n : NodeId) (o : Option ScriptData) → IsOne d → is_among n (parts_in d o) ≡ true
    → IsNode d.cluster.nodes n
part_node d n None one h = absurd (true≢false (sym h))
part_node d n (Some s) one h =
    let k : (k : Key) × (holds d.cluster.places n k ≡ true) =
    some_holds n d (keys_of s.ops)
    (part-holds d.cluster.places (keys_of s.ops) n h) in
    record { least = holder-least d n k.0 one k.1; most = holder-most d n k.0 one k.1 }

home_node : (d : DocumentData) (t : TxId) (n : NodeId) (o : Option ScriptData) → script_of t d.scripts ≡ o → IsOne d
    → is_home_in o n ≡ true → IsNode d.cluster.nodes n
home_node d t n None at one h = absurd (true≢false (sym h))
home_node d t n (Some s) at one h =
    let same : s.home ≡ n = grind (arith, nat_tests, h) in
    subst (IsNode d.cluster.nodes) same (record { least = home-least d t s one at; most = home-most d t s one at })

end-node : (d : DocumentData) (t : TxId) (n : NodeId) → IsOne d → is_end d t n ≡ true → IsNode d.cluster.nodes n
end-node d t n one h = elim (or_cases (is_home d t n) (is_among n (parts_in d (script_of t d.scripts))) h) [
  | inl home ↦ home_node d t n (script_of t d.scripts) refl one home
  | inr part ↦ part_node d n (script_of t d.scripts) one part
]

-- ---- the messages of a run

abbrev is_received : DocumentData → Envelope → Bool
is_received d e = is_end d (tx_in e.message) e.to

all_received : (d : DocumentData) (h : List Act) → EachAct (IsGenuineAct d) h
    → list_all (is_received d) (envelopes h) ≡ true
all_received d [] all = refl
all_received d (act.Sent m x y said ∷ h) all =
    and_from (is_end d (tx_in said) y) (list_all (is_received d) (envelopes h))
    (and_parts (is_end d (tx_in said) x) (is_end d (tx_in said) y) all.0).1 (all_received d h all.1)
all_received d (a ∷ h) all = all_received d h all.1

get_all : (p : Envelope → Bool) (es : List Envelope) (i : ℕ) (e : Envelope) → list_all p es ≡ true
    → slice_get es i ≡ Some e → p e ≡ true
get_all p [] i e all at = cc
get_all p (x ∷ es) zero e all at =
    let same : x ≡ e = cc in subst (λ y. p y ≡ true) same (and_parts (p x) (list_all p es) all).0
get_all p (x ∷ es) (suc i) e all at = get_all p es i e (and_parts (p x) (list_all p es) all).1 at

sent_all : (p : Envelope → Bool) (es : List Envelope) (m : ℕ) (e : Envelope) → list_all p es ≡ true
    → sent_at m es ≡ Some e → p e ≡ true
sent_all p es m e all at = go (m == 0) at
  where
    go : (b : Bool) → (if b then None else slice_get es (m - 1)) ≡ Some e → p e ≡ true
    go true is = cc
    go false is = get_all p es (m - 1) e all is

-- the receiver of a message of a run is a node of the cluster
pub receiver-node : (d : DocumentData) (h : List Act) (m : ℕ) (e : Envelope) → IsOne d → IsRun d d.items h
    → sent_at m (sent (after [] h)) ≡ Some e → IsNode d.cluster.nodes e.to
receiver-node d h m e one run at =
    end-node d (tx_in e.message) e.to one
    (sent_all (is_received d) (sent (after [] h)) m e
    (rw (sent-more [] h) (all_received d h (genuine d h one run))) at)
