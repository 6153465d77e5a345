-- What an act leaves as it was.
use Rattle.std.proofs.Common.{◌≡◌, ℕ, ◌⊎◌, inl, inr, Bool, true, false, List, [], ◌∷◌, ◌++◌, Option, Some, None, refl, subst, arith}
use Rattle.std.proofs.lemmas.Bool.Decides.{nat_tests}
use Rattle.std.specs.Prelude.{if◌then◌else◌, ◌==◌}
use Rattle.score_base.specs.declared.ids.TxId.{TxId}
use Rattle.score_base.specs.declared.ids.NodeId.{NodeId}
use Rattle.score_base.specs.declared.ids.Ident.{Ident}
use Rattle.score_base.specs.declared.keys.Key.{Key}
use Rattle.score_base.specs.declared.records.Record.{Record}
use Rattle.grid_model.specs.declared.acts.Act.{Act}
use Rattle.grid_model.specs.declared.acts.Act.TheVariants as act
use Rattle.grid_model.specs.declared.messages.Envelope.{Envelope}
use Rattle.grid_model.specs.declared.stories.HeldRead.{HeldRead}
use Rattle.grid_model.specs.Documents.{DocumentData}
use Rattle.grid_model.specs.Nodes.{got, held_by, with_held, node, journal, Node, is_request, said_by, freed, Change, Holds, Stops, where_at, change, changed, without_read, is_read}
use Rattle.grid_laws.proofs.Causes.{held_ever, IsIn}

pub same-number : (n : ℕ) → (n == n) ≡ true
same-number n = grind (arith, nat_tests)

-- an act of n at n
pub at-self : (n : NodeId) (x : Change) → where_at (n == n) x ≡ x
at-self n x = rw (same-number n) refl

-- an act that neither stops nor opens a node
abbrev pub is_steady : Act → Bool
is_steady (act.Down n h) = false
is_steady (act.Up n f) = false
is_steady (act.StillDown n) = false
is_steady a = true

pub up-stays : (d : DocumentData) (past : List Act) (a : Act) (n : NodeId) → is_steady a ≡ true
    → (node d (a ∷ past) n).up ≡ (node d past n).up
up-stays d past a n h = grind arith

-- an act that writes nothing and opens no node
abbrev pub is_mute : Act → Bool
is_mute (act.Prepared n t p) = false
is_mute (act.Ended n t o) = false
is_mute (act.Ceiling n c) = false
is_mute (act.Decided t f) = false
is_mute (act.Closed t) = false
is_mute (act.Up n f) = false
is_mute a = true

pub journal-stays : (d : DocumentData) (past : List Act) (a : Act) (n : NodeId) → is_mute a ≡ true
    → journal d (a ∷ past) n ≡ journal d past n
journal-stays d past a n h = grind arith

-- ---- the reads that are held were held once

pub in-append : (h x : HeldRead) (hs : List HeldRead) → IsIn h (hs ++ x ∷ []) → IsIn h hs ⊎ (x ≡ h)
in-append h x [] (inl same) = inr same
in-append h x [] (inr none) = absurd none
in-append h x (y ∷ hs) (inl same) = inl (inl same)
in-append h x (y ∷ hs) (inr more) = elim (in-append h x hs more) [ inl i ↦ inl (inr i) | inr e ↦ inr e ]

pub in-more : (h x : HeldRead) (hs : List HeldRead) → IsIn h hs → IsIn h (hs ++ x ∷ [])
in-more h x [] i = absurd i
in-more h x (y ∷ hs) (inl same) = inl same
in-more h x (y ∷ hs) (inr more) = inr (in-more h x hs more)

pub in-last : (h : HeldRead) (hs : List HeldRead) → IsIn h (hs ++ h ∷ [])
in-last h [] = inl refl
in-last h (y ∷ hs) = inr (in-last h hs)

in-rest : (h : HeldRead) (b : Bool) (x : HeldRead) (hs rest : List HeldRead) → (IsIn h rest → IsIn h hs)
    → IsIn h (if b then hs else x ∷ rest) → IsIn h (x ∷ hs)
in-rest h true x hs rest go i = inr i
in-rest h false x hs rest go (inl same) = inl same
in-rest h false x hs rest go (inr more) = inr (go more)

in-without : (h : HeldRead) (t : TxId) (op : ℕ) (k : Key) (sid : Ident) (hs : List HeldRead)
    → IsIn h (without_read t op k sid hs) → IsIn h hs
in-without h t op k sid [] i = i
in-without h t op k sid (x ∷ hs) i = in-rest h (is_read t op k sid x) x hs (without_read t op k sid hs) (in-without h t op k sid hs) i

-- an act that changes no held reads
abbrev pub is_still : Act → Bool
is_still (act.Held n t op sid) = false
is_still (act.Served n t op k sid vn v) = false
is_still (act.Down n h) = false
is_still a = true

pub held-stays : (d : DocumentData) (e : Option Envelope) (a : Act) (n : NodeId) (x : Node) → is_still a ≡ true
    → (changed (change d e a n) x).held ≡ x.held
held-stays d e a n x h = grind arith

held-where : (h : HeldRead) (b : Bool) (o : Option HeldRead) (x : Node) (ever : List HeldRead)
    → ((i : HeldRead) → IsIn i x.held → IsIn i ever) → IsIn h (changed (where_at b (Holds o)) x).held
    → IsIn h (if b then with_held o ever else ever)
held-where h false o x ever go i = go h i
held-where h true None x ever go i = go h i
held-where h true (Some y) x ever go i = elim (in-append h y x.held i) [ inl j ↦ in-more h y ever (go h j) | inr e ↦ let P : HeldRead → Type 0 = λ z. IsIn z (ever ++ y ∷ []) in subst P e (in-last y ever) ]

freed-where : (h : HeldRead) (b c : Bool) (t : TxId) (op : ℕ) (k : Key) (sid : Ident) (x : Node)
    → IsIn h (changed (where_at b (freed c t op k sid)) x).held → IsIn h x.held
freed-where h false c t op k sid x i = i
freed-where h true true t op k sid x i = i
freed-where h true false t op k sid x i = in-without h t op k sid x.held i

stop-where : (h : HeldRead) (b : Bool) (o : Option Record) (x : Node) → IsIn h (changed (where_at b (Stops o)) x).held
    → IsIn h x.held
stop-where h false o x i = i
stop-where h true o x i = absurd i

still-held : (d : DocumentData) (past : List Act) (a : Act) (n : NodeId) (h : HeldRead) → is_still a ≡ true
    → IsIn h (node d (a ∷ past) n).held → IsIn h (node d past n).held
still-held d past a n h still i = let P : List HeldRead → Type 0 = λ hs. IsIn h hs in subst P (held-stays d (got past) a n (node d past n) still) i

-- each held read was held once
pub in-held : (d : DocumentData) (past : List Act) (n : NodeId) (h : HeldRead) → IsIn h (node d past n).held
    → IsIn h (held_ever d past n)
in-held d [] n h i = i
in-held d (act.Held m t op sid ∷ past) n h i = held-where h (m == n) (held_by (got past) t op sid) (node d past n) (held_ever d past n) (λ j. in-held d past n j) i
in-held d (act.Served m t op k sid vn v ∷ past) n h i = in-held d past n h (freed-where h (m == n) (is_request (said_by (got past))) t op k sid (node d past n) i)
in-held d (act.Down m o ∷ past) n h i = in-held d past n h (stop-where h (m == n) _ (node d past n) i)
in-held d (a ∷ past) n h i = in-held d past n h (still-held d past a n h refl i)
