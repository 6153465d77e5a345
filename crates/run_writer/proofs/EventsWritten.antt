-- Events that are played and written one behind the other.
use Rattle.std.proofs.Common.{◌≡◌, ℕ, ◌+◌, ◌≤◌, List, [], ◌∷◌, ◌++◌, length, Option, Some, None, Result, Ok, Err, OnOk, refl, sym, ap, subst, ◌∙◌, arith, append_assoc}
use Rattle.std.specs.Prelude.{IsErr, IsErrAnd, IsErrOf}
use Rattle.std.specs.Io.KnownBytes.{Appends, Keeps}
use Rattle.std.proofs.KnownBytes.{Appends-trans}
use Rattle.std.proofs.lemmas.List.{length-append}
use Rattle.score_base.specs.Faults.{Rose}
use Rattle.score_disk.specs.declared.disk.Disk.{Ghosts}
use Rattle.score_io.specs.Streams.{AppendsPart}
use Rattle.grid_model.specs.declared.acts.Act.{Act}
use Rattle.grid_model.specs.declared.items.Item.{Item}
use Rattle.grid_model.specs.Documents.{DocumentData}
use Rattle.text_parts.specs.declared.parts.PartEnd.{PartEnd}
use Rattle.text_parts.specs.declared.parts.PartEnd.TheVariants.{WriteFault, Memory}
use Rattle.text_parts.specs.Parts.{act_lines, IsPart}
use Rattle.text_parts.specs.Answers.{SomeParts, whole_parts}
use Rattle.grid_world.specs.declared.worlds.World.{World}
use Rattle.grid_world.specs.Follows.{Follows, Plays}
use Rattle.grid_world.specs.Replays.{CanPlayAll}
use Rattle.run_writer.specs.Writing.{IsLawfulSoFar, IsWritten, OrEnds, Writes}
use Rattle.run_writer.proofs.ForCode.{lines-append, next-behind, part-behind, part-event}

-- ---- answers

-- an error that is handed on
pub err-is : {A : Type 0} (r : Result A PartEnd) (why : PartEnd) → IsErr r → IsErrAnd r (λ y. y ≡ why) → r ≡ Err why
err-is (Ok x) why is same = absurd same
err-is (Err y) why is same = ap Err same

-- ---- sinks

pub appends-kept : (a b c : Option (List ℕ)) (bs : List ℕ) → Appends a b bs → Keeps b c → Appends a c bs
appends-kept None b c bs p q = tt
appends-kept (Some x) None c bs p q = absurd p
appends-kept (Some x) (Some y) None bs p q = absurd q
appends-kept (Some x) (Some y) (Some z) bs p q = q ∙ p

pub rose-later : (a b c : ℕ) → a ≤ b → Rose b c → Rose a c
rose-later a b c later rose = omega (arith, later, rose)

module _ {D : Type 0} {g : Ghosts D} where
  -- what was written are the first parts of a lawful run
  pub some-parts : (d : DocumentData) (e : ℕ) (given : List D) (w : World D g) (start held held' : Option (List ℕ))
      → (x : IsWritten d e given w start held) → Keeps held held' → SomeParts IsLawfulSoFar d start held'
  some-parts d e given w start held held' x kept =
      let f : Follows d e x.acts given w = x.follows in
      whole_parts e x.acts f.hosts.lawful.run (f.hosts.rise, f.hosts.lawful)
      (appends-kept start held held' (act_lines x.acts) x.wrote kept)

  -- ---- one event

  -- an event was played, and its lines were written or not
  pub event-writes : (d : DocumentData) (i : Item) (w w' : World D g) (held held' : Option (List ℕ)) (faults faults' : ℕ)
      (acts : List Act) (r : Result (Unit {0}) PartEnd) → Plays d i w w' acts
      → OnOk r (Appends held held' (act_lines acts))
      → (IsErrOf r WriteFault → AppendsPart held held' (act_lines acts))
      → (IsErrOf r WriteFault → Rose faults faults') → (IsErrOf r Memory → Keeps held held')
      → Writes d (i ∷ []) w w' held held' faults faults' r
  event-writes d i w w' held held' faults faults' acts (Ok t) plays all part rose kept =
      λ e given start least one x next few low.
      let p = plays e x.acts given one x.follows next (omega (arith, few)) in
      record {
        acts = x.acts ++ acts;
        follows = p.2;
        wrote = subst (Appends start held') (sym (lines-append x.acts acts))
            (Appends-trans start held held' (act_lines x.acts) (act_lines acts) x.wrote all);
      }
  event-writes d i w w' held held' faults faults' acts (Err WriteFault) plays all part rose kept =
      λ e given start least one x next few low.
      let p = plays e x.acts given one x.follows next (omega (arith, few)) in
      record {
        events = e + 1;
        acts = x.acts ++ acts;
        follows = p.2;
        before = act_lines x.acts;
        part = act_lines acts;
        place = subst (λ z. IsPart d (e + 1) (x.acts ++ z) (act_lines x.acts) (act_lines z)) (sym p.1)
            (part-event d e x.acts i next.0 p.0 x.follows.hosts.lawful.run next.1);
        wrote = part-behind start held held' (act_lines x.acts) (act_lines acts) x.wrote (part refl);
        rose = rose-later least faults faults' low (rose refl);
      }
  event-writes d i w w' held held' faults faults' acts (Err Memory) plays all part rose kept =
      λ e given start least one x next few low. some-parts d e given w start held held' x (kept refl)

  -- there was no memory for an event
  pub event-stops : (d : DocumentData) (is : List Item) (w w' : World D g) (held held' : Option (List ℕ))
      (faults faults' : ℕ) → Keeps held held' → Writes d is w w' held held' faults faults' (Err Memory)
  event-stops d is w w' held held' faults faults' kept =
      λ e given start least one x next few low. some-parts d e given w start held held' x kept

  -- ---- events one behind the other

  pub writes-none : (d : DocumentData) (w : World D g) (held : Option (List ℕ)) (faults : ℕ)
      → Writes d [] w w held held faults faults (Ok tt)
  writes-none d w held faults = λ e given start least one x next few low.
      let count : e ≡ e + length {A = Item} [] = omega arith in
      subst (λ k. IsWritten d k given w start held) count x

  pub writes-both : (d : DocumentData) (xs ys : List Item) (w mid w' : World D g) (h0 h1 h2 : Option (List ℕ))
      (f0 f1 f2 : ℕ) (r : Result (Unit {0}) PartEnd) → Writes d xs w mid h0 h1 f0 f1 (Ok tt) → f0 ≤ f1
      → Writes d ys mid w' h1 h2 f1 f2 r → Writes d (xs ++ ys) w w' h0 h2 f0 f2 r
  writes-both d xs ys w mid w' h0 h1 h2 f0 f1 f2 r p later q = λ e given start least one x next few low.
      let count : e + length xs + length ys ≡ e + length (xs ++ ys) = omega (arith, length-append xs ys) in
      let there : IsWritten d (e + length xs) given mid start h1 =
      p e given start least one x (ys ++ next.0, next.1 ∙ append_assoc xs ys next.0)
      (omega (arith, few, length-append xs ys)) low in
      subst (λ k. OrEnds (IsWritten d k given w' start h2) d given w' start h2 least f2 r) count
      (q (e + length xs) given start least one there (next-behind d e xs ys next.0 next.1) (omega (arith, count, few))
      (omega (arith, low, later)))

  -- the writing ended before all were played
  pub writes-early : (d : DocumentData) (xs ys : List Item) (w w' : World D g) (h0 h1 : Option (List ℕ)) (f0 f1 : ℕ)
      (why : PartEnd) → Writes d xs w w' h0 h1 f0 f1 (Err why) → Writes d (xs ++ ys) w w' h0 h1 f0 f1 (Err why)
  writes-early d xs ys w w' h0 h1 f0 f1 WriteFault p = λ e given start least one x next few low.
      p e given start least one x (ys ++ next.0, next.1 ∙ append_assoc xs ys next.0)
      (omega (arith, few, length-append xs ys)) low
  writes-early d xs ys w w' h0 h1 f0 f1 Memory p = λ e given start least one x next few low.
      p e given start least one x (ys ++ next.0, next.1 ∙ append_assoc xs ys next.0)
      (omega (arith, few, length-append xs ys)) low

  -- those behind can be played
  pub can-write-behind : (d : DocumentData) (xs ys : List Item) (w w' : World D g) (h0 h1 : Option (List ℕ)) (f0 f1 : ℕ)
      → CanPlayAll d (xs ++ ys) w → Writes d xs w w' h0 h1 f0 f1 (Ok tt) → CanPlayAll d ys w'
  can-write-behind d xs ys w w' h0 h1 f0 f1 c p =
      let few = c.few in
      let x : IsWritten d (c.e + length xs) c.given w' None h1 =
      p c.e c.given None 0 c.one (record { acts = c.h; follows = c.follows; wrote = tt })
      (ys ++ c.next.0, c.next.1 ∙ append_assoc xs ys c.next.0) (omega (arith, few, length-append xs ys)) (omega arith) in
      record {
        one = c.one;
        e = c.e + length xs;
        h = x.acts;
        given = c.given;
        follows = x.follows;
        next = next-behind d c.e xs ys c.next.0 c.next.1;
        few = omega (arith, few, length-append xs ys);
      }
