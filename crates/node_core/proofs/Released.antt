-- What is served of the held reads until each is held.
use Rattle.std.proofs.Common.{◌≡◌, ◌+◌, ◌≤◌, Bool, true, false, List, [], ◌∷◌, ◌++◌, length, Some, None, refl, sym, ap, subst, ◌∙◌, cond, arith, append_assoc}
use Rattle.std.specs.Prelude.{if◌then◌else◌}
use Rattle.std.specs.List.{find, flat_map}
use Rattle.score_base.specs.declared.ids.NodeId.{NodeId}
use Rattle.score_base.specs.declared.records.Record.{Record}
use Rattle.grid_model.specs.declared.events.Out.{Out}
use Rattle.grid_model.specs.declared.stories.HeldRead.{HeldRead}
use Rattle.grid_model.specs.Nodes.{is_read, without_read}
use Rattle.grid_store.specs.Given.{Given}
use Rattle.snapshot_read.specs.declared.answers.Answer.{Answer}
use Rattle.snapshot_read.specs.Reads.{is_free}
use Rattle.snapshot_read.specs.Outs.{serve_outs, without_answered, first_answer, Releases}
use Rattle.snapshot_read.proofs.FirstFree.{same-read}
use Rattle.node_core.specs.Plays.{IsReleased}
use Rattle.snapshot_read.proofs.ReleaseRows.{answered-first}

one-less : (r : List Record) (hs : List HeldRead) (h : HeldRead) → find (is_free r) hs ≡ Some h
    → length (without_read h.t h.op h.key h.sid hs) + 1 ≡ length hs
one-less r [] h e = absurd (cc)
one-less r (y ∷ hs) h e = go (is_read h.t h.op h.key h.sid y) refl (is_free r y) e (one-less r hs h)
  where
    go : (b : Bool) → is_read h.t h.op h.key h.sid y ≡ b → (f : Bool)
        → cond f (Some y) (find (is_free r) hs) ≡ Some h
        → (find (is_free r) hs ≡ Some h → length (without_read h.t h.op h.key h.sid hs) + 1 ≡ length hs)
        → length (if b then hs else y ∷ without_read h.t h.op h.key h.sid hs) + 1 ≡ length (y ∷ hs)
    go true is f e more = omega arith
    go false is true e more =
        let same : y ≡ h = cc in
        let P : HeldRead → Type 0 = λ z. is_read h.t h.op h.key h.sid z ≡ true in
        let own : is_read h.t h.op h.key h.sid y ≡ true = subst P (sym same) (same-read h) in
        absurd (let q : true ≡ false = sym own ∙ is in cc)
    go false is false e more = (let less = more e in omega arith)

-- one of the held reads is served
pub served-less : (s : Given) (hs : List HeldRead) (a : Answer) → first_answer s hs ≡ Some a
    → length (without_answered a hs) + 1 ≡ length hs
served-less s hs a e =
    let first = answered-first s hs a e in
    let P : Answer → Type 0 = λ x. length (without_answered x hs) + 1 ≡ length hs in
    subst P (sym first.is) (one-less s.journal hs first.read first.found)

-- an answer has at most three outs
pub serves-three : (n : NodeId) (a : Answer) → length (serve_outs n a) ≤ 3
serves-three n a = go a.raised
  where
    go : (b : Bool) → length (serve_outs n (record a { raised = b })) ≤ 3
    go true = omega arith
    go false = omega arith

-- What was served so far: whatever is served of what is left is, with it, served of what was held.
pub record IsServing (s : Given) (n : NodeId) (hs : List HeldRead) (before : List Out) (left : List HeldRead)
    (behind : List Out) : Type 0 where
  pub answers : (rest : List Answer) → (end : List HeldRead) → Releases s left rest end → List Answer
  pub released : (rest : List Answer) → (end : List HeldRead) → (is : Releases s left rest end)
      → Releases s hs (answers rest end is) end
  pub outs : (rest : List Answer) → (end : List HeldRead) → (is : Releases s left rest end)
      → behind ++ flat_map (serve_outs n) rest ≡ before ++ flat_map (serve_outs n) (answers rest end is)

pub serving-none : (s : Given) (n : NodeId) (hs : List HeldRead) (before : List Out) → IsServing s n hs before hs before
serving-none s n hs before =
    record { answers = λ rest end is. rest; released = λ rest end is. is; outs = λ rest end is. refl }

pub serving-more : (s : Given) (n : NodeId) (hs : List HeldRead) (before : List Out) (left : List HeldRead)
    (behind : List Out) (a : Answer) (left' : List HeldRead) (behind' : List Out)
    → IsServing s n hs before left behind → first_answer s left ≡ Some a → left' ≡ without_answered a left
    → behind' ≡ behind ++ serve_outs n a → IsServing s n hs before left' behind'
serving-more s n hs before left behind a left' behind' so first now is =
    record {
      answers = λ rest end e. so.answers (a ∷ rest) end (more rest end e);
      released = λ rest end e. so.released (a ∷ rest) end (more rest end e);
      outs = λ rest end e.
          ap (λ z. z ++ flat_map (serve_outs n) rest) is
          ∙ append_assoc behind (serve_outs n a) (flat_map (serve_outs n) rest)
          ∙ so.outs (a ∷ rest) end (more rest end e);
    }
  where
    more : (rest : List Answer) (end : List HeldRead) → Releases s left' rest end → Releases s left (a ∷ rest) end
    more rest end e = (first, subst (λ z. Releases s z rest end) now e)

append-none : (os : List Out) → os ++ [] ≡ os
append-none [] = refl
append-none (o ∷ os) = ap (λ z. o ∷ z) (append-none os)

-- each of those that are left is held
pub serving-done : (s : Given) (n : NodeId) (hs : List HeldRead) (before : List Out) (left : List HeldRead)
    (behind : List Out) → IsServing s n hs before left behind → first_answer s left ≡ None
    → IsReleased s n hs before left behind
serving-done s n hs before left behind so none =
    record {
      answers = so.answers [] left (none, refl);
      released = so.released [] left (none, refl);
      outs = sym (append-none behind) ∙ so.outs [] left (none, refl);
    }

pub none-left : (s : Given) (hs : List HeldRead) → length hs ≡ 0 → first_answer s hs ≡ None
none-left s [] e = refl
none-left s (h ∷ hs) e = absurd (omega (arith, e))
