-- Advance asks for what its transaction waits: the read, or the votes of all parts.
use Rattle.grid_laws.proofs.StoryClaims.{is_untaking}
use Rattle.cause_laws.proofs.UntakingTurns.{advance-untaking, untaking-later}
use Rattle.grid_laws.proofs.AnsweredRows.{advance-kept}
use Rattle.cause_laws.proofs.KeyHolders.{preferred-some}
use Rattle.grid_laws.proofs.Frames.{same-number}
use Rattle.grid_laws.proofs.Snapshots.{OfStory}
use Rattle.script_runs.proofs.Walks.{waiting-read}
use Rattle.grid_model.specs.Advances.{advance, advance_end, date_by, owns, prepares, request, request_of, to_node}
use Rattle.script_runs.specs.Walks.{op_at, own_reads, unread}
use Rattle.grid_model.specs.Excuses.{has_sent, is_prepare_of, is_request_of}
use Rattle.grid_model.specs.Documents.{DocumentData, IsOne}
use Rattle.grid_model.specs.Histories.{after}
use Rattle.journal_words.specs.Journals.{later}
use Rattle.grid_model.specs.Nodes.{parts_of, script_of}
use Rattle.grid_model.specs.Schedules.{kept, numbered}
use Rattle.grid_model.specs.Stories.{story, told}
use Rattle.script_runs.specs.Waits.{waiting}
use Rattle.grid_model.specs.Views.{open_of}
use Rattle.grid_model.specs.declared.acts.Act.TheVariants as act
use Rattle.grid_model.specs.declared.acts.Act.{Act}
use Rattle.grid_model.specs.declared.events.Out.TheVariants as out
use Rattle.grid_model.specs.declared.events.Out.{Out}
use Rattle.grid_model.specs.declared.messages.Message.TheVariants as message
use Rattle.grid_model.specs.declared.messages.Message.{Message}
use Rattle.grid_model.specs.declared.stories.Story.{Story}
use Rattle.placement.specs.Places.{is_among}
use Rattle.score_base.specs.declared.ids.NodeId.{NodeId}
use Rattle.score_base.specs.declared.ids.TxId.{TxId}
use Rattle.score_base.specs.declared.ids.Value.{Value}
use Rattle.score_base.specs.declared.keys.Key.{Key}
use Rattle.script_lang.specs.Reads.{is_update}
use Rattle.script_lang.specs.Scripts.{ScriptData}
use Rattle.script_lang.specs.declared.scripts.Op.TheVariants as op
use Rattle.script_lang.specs.declared.scripts.Op.{Op}
use Rattle.std.proofs.Common.{Bool, List, None, Option, Some, [], false, inl, inr, refl, subst, sym, true, ℕ, ◌+◌, ◌∙◌, ◌∷◌, ◌≡◌}
use Rattle.std.proofs.lemmas.Bool.{and_from, or_cases, or_left, or_right}
use Rattle.std.proofs.lemmas.List.Folds.{list_any-append}
use Rattle.std.specs.List.{list_all, list_any}
use Rattle.std.specs.Prelude.{if◌then◌else◌, ◌&&◌, ◌==◌}

-- ---- messages that were sent

sent-single : (p : NodeId → NodeId → Message → Bool) (past : List Act) (a : Act) → has_sent p past ≡ true
    → has_sent p (a ∷ past) ≡ true
sent-single p past (act.Sent m x y said) h = or_right (p x y said) (has_sent p past) h
sent-single p past a h = h

pub sent-later : (p : NodeId → NodeId → Message → Bool) (past acts : List Act) → has_sent p past ≡ true
    → has_sent p (after past acts) ≡ true
sent-later p past [] h = h
sent-later p past (a ∷ acts) h = sent-later p (a ∷ past) acts (sent-single p past a h)

-- an out of n is a message that passes the test
abbrev is_out : (NodeId → NodeId → Message → Bool) → NodeId → Out → Bool
is_out p n (out.Send y said) = p n y said
is_out p n (out.Act a) = false

sent-out : (p : NodeId → NodeId → Message → Bool) (past : List Act) (m : ℕ) (n : NodeId) (os : List Out)
    → list_any (is_out p n) os ≡ true → has_sent p (after past (numbered m n os)) ≡ true
sent-out p past m n [] h = cc
sent-out p past m n (out.Act a ∷ os) h = sent-out p (a ∷ past) m n os h
sent-out p past m n (out.Send y said ∷ os) h = elim (or_cases (p n y said) (list_any (is_out p n) os) h) [
  | inl here ↦ sent-later p (act.Sent m n y said ∷ past) (numbered (m + 1) n os) (or_left (p n y said) (has_sent p past) here)
  | inr later ↦ sent-out p (act.Sent m n y said ∷ past) (m + 1) n os later
]

-- ---- what is asked

-- s asked for the operation that it waits for, or each part for its vote
abbrev pub AskedBy : DocumentData → List Act → ScriptData → Option ℕ → Type 0
AskedBy d past s (Some j) = has_sent (λ x y said. is_request_of s.number j said) past ≡ true
AskedBy d past s None =
    is_update s.ops ≡ true → (n : NodeId) → is_among n (parts_of d s) ≡ true
    → has_sent (λ x y said. y == n && is_prepare_of s.number said) past ≡ true

-- with the values of this story, s asked for what it waits
abbrev pub IsAsked : DocumentData → List Act → ScriptData → Option Story → Type 0
IsAsked d past s o = OfStory (Unit {0}) (λ i values. AskedBy d past s (waiting s.ops values)) o

-- each transaction of the document
abbrev pub AllAsked : DocumentData → List Act → Type 0
AllAsked d past = (s : ScriptData) → script_of s.number d.scripts ≡ Some s → IsAsked d past s (story d past s.number)

asked-by : (d : DocumentData) (past acts : List Act) (s : ScriptData) (w : Option ℕ) → AskedBy d past s w
    → AskedBy d (after past acts) s w
asked-by d past acts s (Some j) h = sent-later (λ x y said. is_request_of s.number j said) past acts h
asked-by d past acts s None h = λ u n i. sent-later (λ x y said. y == n && is_prepare_of s.number said) past acts (h u n i)

pub asked-later : (d : DocumentData) (past acts : List Act) (s : ScriptData) (o : Option Story) → IsAsked d past s o
    → IsAsked d (after past acts) s o
asked-later d past acts s None h = tt
asked-later d past acts s (Some x) h = asked-by d past acts s (waiting s.ops x.progress.values) h

-- acts that leave the values leave what was asked
pub untaking-asked : (d : DocumentData) (past acts : List Act) (s : ScriptData) → list_all is_untaking acts ≡ true
    → IsAsked d past s (story d past s.number) → IsAsked d (after past acts) s (story d (after past acts) s.number)
untaking-asked d past acts s calm h =
    untaking-later (Unit {0})
    (λ i values. AskedBy d (after past acts) s (waiting s.ops values)) d past acts s.number calm
    (asked-later d past acts s (story d past s.number) h)

-- ---- Advance asks

read-test : (t : TxId) (j : ℕ) → ((t == t) && (j == j)) ≡ true
read-test t j = and_from (t == t) (j == j) (same-number t) (same-number j)

out-request : (d : DocumentData) (s : ScriptData) (x : Story) (n : NodeId) (j : ℕ) (k : Key) → IsOne d
    → op_at s.ops j ≡ Some (op.Read k)
    → list_any (is_out (λ x y said. is_request_of s.number j said) n) (request d.cluster (open_of s x) j 0) ≡ true
out-request d s x n j k one at =
    let y = preferred-some d s.home k one in
    let P : Option Op → Type 0 = λ o. list_any (is_out (λ x y said. is_request_of s.number j said) n) (request_of d.cluster (open_of s x) j 0 o) ≡ true in
    let Q : Option NodeId → Type 0 = λ o. list_any (is_out (λ x y said. is_request_of s.number j said) n) (to_node o (message.ReadReq (record { t = s.number; op = j; key = k; date = date_by x.progress.sid0 x.progress.sid }))) ≡ true in
    subst P (sym at) (subst Q (sym y.1) (or_left ((s.number == s.number) && (j == j)) false (read-test s.number j)))

out-prepare : (d : DocumentData) (s : ScriptData) (x : Story) (n k : NodeId) (ns : List NodeId) → is_among k ns ≡ true
    → list_any (is_out (λ x y said. y == k && is_prepare_of s.number said) n) (prepares d.cluster (open_of s x) ns)
    ≡ true
out-prepare d s x n k [] h = cc
out-prepare d s x n k (i ∷ ns) h = elim (or_cases (i == k) (is_among k ns) h) [
  | inl here ↦ or_left (i == k && s.number == s.number) (list_any (is_out (λ x y said. y == k && is_prepare_of s.number said) n) (prepares d.cluster (open_of s x) ns)) (and_from (i == k) (s.number == s.number) here (same-number s.number))
  | inr later ↦ or_right (i == k && s.number == s.number) (list_any (is_out (λ x y said. y == k && is_prepare_of s.number said) n) (prepares d.cluster (open_of s x) ns)) (out-prepare d s x n k ns later)
]

out-advance : (d : DocumentData) (p : NodeId → NodeId → Message → Bool) (n : NodeId) (s : ScriptData) (x : Story)
    (i : ℕ) (w : Option ℕ) → waiting s.ops x.progress.values ≡ w
    → list_any (is_out p n) (advance_end d.cluster (open_of s x) w) ≡ true
    → list_any (is_out p n) (advance d.cluster (open_of s x) i) ≡ true
out-advance d p n s x i w e h =
    let P : Option ℕ → Type 0 = λ o. list_any (is_out p n) (advance_end d.cluster (open_of s x) o) ≡ true in
    list_any-append (is_out p n) (owns s.number i (own_reads 1 [] unread x.progress.values s.ops)) (advance_end d.cluster (open_of s x) (waiting s.ops x.progress.values))
    ∙ or_right (list_any (is_out p n) (owns s.number i (own_reads 1 [] unread x.progress.values s.ops))) (list_any (is_out p n) (advance_end d.cluster (open_of s x) (waiting s.ops x.progress.values))) (subst P (sym e) h)

advance-sent : (d : DocumentData) (p : NodeId → NodeId → Message → Bool) (now : List Act) (m : ℕ) (n : NodeId)
    (b : Bool) (s : ScriptData) (x : Story) (i : ℕ) (w : Option ℕ) → waiting s.ops x.progress.values ≡ w
    → list_any (is_out p n) (advance_end d.cluster (open_of s x) w) ≡ true
    → has_sent p (after now (numbered m n (kept b n (advance d.cluster (open_of s x) i)))) ≡ true
advance-sent d p now m n b s x i w e h =
    let P : List Out → Type 0 = λ os. has_sent p (after now (numbered m n os)) ≡ true in
    subst P (sym (advance-kept d.cluster (open_of s x) i b n)) (sent-out p now m n (advance d.cluster (open_of s x) i) (out-advance d p n s x i w e h))

advance-asks : (d : DocumentData) (now : List Act) (m : ℕ) (n : NodeId) (b : Bool) (s : ScriptData) (x : Story) (i : ℕ)
    (w : Option ℕ) → IsOne d → waiting s.ops x.progress.values ≡ w
    → AskedBy d (after now (numbered m n (kept b n (advance d.cluster (open_of s x) i)))) s w
advance-asks d now m n b s x i (Some j) one e =
    let k = waiting-read j s.ops x.progress.values e in
    advance-sent d (λ x y said. is_request_of s.number j said) now m n b s x i (Some j) e (out-request d s x n j k.0 one k.1)
advance-asks d now m n b s x i None one e = λ u k h.
    let P : Bool → Type 0 = λ c. list_any (is_out (λ x y said. y == k && is_prepare_of s.number said) n) (if c then prepares d.cluster (open_of s x) (parts_of d s) else out.Act (act.Finished s.number) ∷ []) ≡ true in
    advance-sent d (λ x y said. y == k && is_prepare_of s.number said) now m n b s x i None e (subst P (sym u) (out-prepare d s x n k (parts_of d s) h))

-- the transaction that goes on
pub self-asked : (d : DocumentData) (now : List Act) (m : ℕ) (n : NodeId) (b : Bool) (s : ScriptData) (x : Story) (i : ℕ) → IsOne d → story d now s.number ≡ Some x → let acts : List Act = numbered m n (kept b n (advance d.cluster (open_of s x) i)) in IsAsked d (after now acts) s (story d (after now acts) s.number)
self-asked d now m n b s x i one told =
    let acts : List Act = numbered m n (kept b n (advance d.cluster (open_of s x) i)) in
    let P : Option Story → Type 0 = λ o. OfStory ⊥ (λ i values. values ≡ x.progress.values) o in
    let same : OfStory ⊥ (λ i values. values ≡ x.progress.values) (story d (after now acts) s.number) = untaking-later ⊥ (λ i values. values ≡ x.progress.values) d now acts s.number (advance-untaking d.cluster (open_of s x) i b m n) (subst P (sym told) refl) in
    from (story d (after now acts) s.number) same (advance-asks d now m n b s x i (waiting s.ops x.progress.values) one refl)
  where
    from : (o : Option Story) → OfStory ⊥ (λ i values. values ≡ x.progress.values) o → AskedBy d
        (after now (numbered m n (kept b n (advance d.cluster (open_of s x) i)))) s (waiting s.ops x.progress.values)
        → IsAsked d (after now (numbered m n (kept b n (advance d.cluster (open_of s x) i)))) s o
    from None k h = absurd k
    from (Some y) k h = let P : List (ℕ × Value) → Type 0 = λ values. AskedBy d (after now (numbered m n (kept b n (advance d.cluster (open_of s x) i)))) s (waiting s.ops values) in subst P (sym k) h
