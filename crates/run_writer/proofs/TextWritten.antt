-- The start row, all events and the summary make the text; and what a world leaves where it is given up.
use Rattle.std.proofs.Common.{◌≡◌, ℕ, ◌+◌, ◌≤◌, List, [], length, Option, Result, Ok, Err, OnOk, refl, sym, ap, subst, ◌∙◌, arith}
use Rattle.std.specs.Prelude.{IsErrOf, sum_by}
use Rattle.std.specs.Io.KnownBytes.{Appends, Keeps}
use Rattle.std.proofs.KnownBytes.{Appends-nil, Appends-trans}
use Rattle.std.proofs.lemmas.List.{append-nil}
use Rattle.score_base.specs.Faults.{Rose}
use Rattle.score_disk.specs.declared.disk.Disk.{Ghosts}
use Rattle.score_io.specs.Streams.{AppendsPart}
use Rattle.grid_model.specs.declared.acts.Act.{Act}
use Rattle.grid_model.specs.Cuts.{IsCutRun, cut, events}
use Rattle.grid_model.specs.Documents.{DocumentData, events_of}
use Rattle.history_print.specs.Text.{summary_text}
use Rattle.run_tally.specs.Tallies.{tally_of}
use Rattle.run_tally.specs.Texts.{TallyText}
use Rattle.text_parts.specs.declared.parts.PartEnd.{PartEnd}
use Rattle.text_parts.specs.declared.parts.PartEnd.TheVariants.{WriteFault, Memory}
use Rattle.text_parts.specs.Parts.{act_lines, IsPart}
use Rattle.text_parts.specs.Answers.{BrokenPart, SomeParts, no_part}
use Rattle.grid_world.specs.declared.worlds.World.{World}
use Rattle.grid_world.specs.Ends.{HasEnded}
use Rattle.grid_world.specs.Follows.{Follows}
use Rattle.grid_world.specs.Replays.{CanPlayAll, HasReplayed}
use Rattle.grid_world.specs.Starts.{IsFresh, Opens}
use Rattle.run_writer.specs.Writing.{IsLawfulSoFar, IsTextWritten, IsTorn, IsWhole, IsWritten, OrEnds, Writes, WritesStart, WritesText}
use Rattle.run_writer.proofs.ForCode.{count-events, ended-replays, part-first, part-behind, part-start, part-tally, stopped-replays, tally-cut}
use Rattle.run_writer.proofs.EventsWritten.{appends-kept, rose-later, some-parts}

no-parts : (d : DocumentData) (held held' : Option (List ℕ)) → Keeps held held' → SomeParts IsLawfulSoFar d held held'
no-parts d held held' kept = no_part (appends-kept held held held' [] (Appends-nil held) kept)

-- a tally whose text is the summary
summary-told : (d : DocumentData) (h : List Act) → IsCutRun d (sum_by events_of d.items) h
    → TallyText d (tally_of d h) ≡ summary_text d h
summary-told d h run =
    tally-cut d (sum_by events_of d.items) h []
    (subst (IsCutRun d (sum_by events_of d.items)) (sym (append-nil h)) run)

module _ {D : Type 0} {g : Ghosts D} where
  -- ---- the start row

  pub start-writes : (d : DocumentData) (w w' : World D g) (held held' : Option (List ℕ)) (faults faults' : ℕ)
      (acts : List Act) (r : Result (Unit {0}) PartEnd) → Opens d w w' acts
      → OnOk r (Appends held held' (act_lines acts))
      → (IsErrOf r WriteFault → AppendsPart held held' (act_lines acts))
      → (IsErrOf r WriteFault → Rose faults faults') → (IsErrOf r Memory → Keeps held held')
      → WritesStart d w w' held held' faults faults' r
  start-writes d w w' held held' faults faults' acts (Ok t) opens all part rose kept = λ given fresh.
      record { acts = acts; follows = (opens given fresh).2; wrote = all }
  start-writes d w w' held held' faults faults' acts (Err WriteFault) opens all part rose kept = λ given fresh.
      let f : Follows d 0 acts given w' = (opens given fresh).2 in
      record {
        events = 0;
        acts = acts;
        follows = f;
        before = [];
        part = act_lines acts;
        place = part-start d acts f.hosts.lawful.run;
        wrote = part-first held held' (act_lines acts) (part refl);
        rose = rose refl;
      }
  start-writes d w w' held held' faults faults' acts (Err Memory) opens all part rose kept = λ given fresh.
      no-parts d held held' (kept refl)

  pub start-stops : (d : DocumentData) (w w' : World D g) (held held' : Option (List ℕ)) (faults faults' : ℕ)
      → Keeps held held' → WritesStart d w w' held held' faults faults' (Err Memory)
  start-stops d w w' held held' faults faults' kept = λ given fresh. no-parts d held held' kept

  -- ---- the whole

  -- all events can be played behind the start row
  pub can-write-all : (d : DocumentData) (w w' : World D g) (h0 h1 : Option (List ℕ)) (f0 f1 : ℕ)
      → ((given : List D) × IsFresh d given w) → WritesStart d w w' h0 h1 f0 f1 (Ok tt) → CanPlayAll d (events d) w'
  can-write-all d w w' h0 h1 f0 f1 fresh start =
      let x : IsWritten d 0 fresh.0 w' h0 h1 = start fresh.0 fresh.1 in
      record {
        one = fresh.1.one;
        e = 0;
        h = x.acts;
        given = fresh.0;
        follows = x.follows;
        next = ([], sym (append-nil (events d)));
        few = let most = fresh.1.one.document.events in omega (arith, most, count-events d.items);
      }

  events-written : (d : DocumentData) (w mid w' : World D g) (h0 h1 h2 : Option (List ℕ)) (f0 f1 f2 : ℕ)
      (r : Result (Unit {0}) PartEnd) → (given : List D) → IsFresh d given w
      → WritesStart d w mid h0 h1 f0 f1 (Ok tt) → f0 ≤ f1 → Writes d (events d) mid w' h1 h2 f1 f2 r
      → OrEnds (IsWritten d (0 + length (events d)) given w' h0 h2) d given w' h0 h2 f0 f2 r
  events-written d w mid w' h0 h1 h2 f0 f1 f2 r given fresh start later p =
      let most = fresh.one.document.events in
      p 0 given h0 f0 fresh.one (start given fresh) ([], sym (append-nil (events d)))
      (omega (arith, most, count-events d.items)) later

  -- the start row was not written
  pub text-early : (d : DocumentData) (w w' : World D g) (h0 h1 : Option (List ℕ)) (f0 f1 : ℕ) (why : PartEnd)
      → WritesStart d w w' h0 h1 f0 f1 (Err why) → WritesText d w w' h0 h1 f0 f1 (Err why)
  text-early d w w' h0 h1 f0 f1 WriteFault p = p
  text-early d w w' h0 h1 f0 f1 Memory p = p

  -- the events were not all written
  pub text-ends : (d : DocumentData) (w mid w' : World D g) (h0 h1 h2 : Option (List ℕ)) (f0 f1 f2 : ℕ) (why : PartEnd)
      → WritesStart d w mid h0 h1 f0 f1 (Ok tt) → f0 ≤ f1 → Writes d (events d) mid w' h1 h2 f1 f2 (Err why)
      → WritesText d w w' h0 h2 f0 f2 (Err why)
  text-ends d w mid w' h0 h1 h2 f0 f1 f2 WriteFault start later p = λ given fresh.
      events-written d w mid w' h0 h1 h2 f0 f1 f2 (Err WriteFault) given fresh start later p
  text-ends d w mid w' h0 h1 h2 f0 f1 f2 Memory start later p = λ given fresh.
      events-written d w mid w' h0 h1 h2 f0 f1 f2 (Err Memory) given fresh start later p

  -- the summary was written behind all, or not
  pub text-writes : (d : DocumentData) (w mid w' : World D g) (h0 h1 h2 h3 : Option (List ℕ)) (f0 f1 f2 f3 : ℕ)
      (r : Result (Unit {0}) PartEnd) → WritesStart d w mid h0 h1 f0 f1 (Ok tt) → f0 ≤ f1
      → Writes d (events d) mid w' h1 h2 f1 f2 (Ok tt) → f1 ≤ f2 → OnOk r (Appends h2 h3 (TallyText d w'.tally))
      → (IsErrOf r WriteFault → AppendsPart h2 h3 (TallyText d w'.tally)) → (IsErrOf r WriteFault → Rose f2 f3)
      → (IsErrOf r Memory → Keeps h2 h3) → WritesText d w w' h0 h3 f0 f3 r
  text-writes d w mid w' h0 h1 h2 h3 f0 f1 f2 f3 r start later p further all part rose kept = λ given fresh.
      behind given (subst (λ k. IsWritten d k given w' h0 h2) count
      (events-written d w mid w' h0 h1 h2 f0 f1 f2 (Ok tt) given fresh start later p)) r all part rose kept
    where
      count : 0 + length (events d) ≡ sum_by events_of d.items
      count = let is = count-events d.items in omega (arith, is)

      behind : (given : List D) → IsWritten d (sum_by events_of d.items) given w' h0 h2
          → (r : Result (Unit {0}) PartEnd) → OnOk r (Appends h2 h3 (TallyText d w'.tally))
          → (IsErrOf r WriteFault → AppendsPart h2 h3 (TallyText d w'.tally)) → (IsErrOf r WriteFault → Rose f2 f3)
          → (IsErrOf r Memory → Keeps h2 h3) → OrEnds (IsWhole d given w' h0 h3) d given w' h0 h3 f0 f3 r
      behind given x (Ok t) all part rose kept =
          let told : TallyText d w'.tally ≡ summary_text d x.acts =
          ap (TallyText d) x.follows.tally ∙ summary-told d x.acts x.follows.hosts.lawful.run in
          record {
            acts = x.acts;
            follows = x.follows;
            wrote = Appends-trans h0 h2 h3 (act_lines x.acts) (summary_text d x.acts) x.wrote
                (subst (Appends h2 h3) told all);
          }
      behind given x (Err WriteFault) all part rose kept = record {
        events = sum_by events_of d.items;
        acts = x.acts;
        follows = x.follows;
        before = act_lines x.acts;
        part = TallyText d w'.tally;
        place = subst (λ t. IsPart d (sum_by events_of d.items) x.acts (act_lines x.acts) (TallyText d t))
            (sym x.follows.tally) (part-tally d x.acts x.follows.hosts.lawful.run);
        wrote = part-behind h0 h2 h3 (act_lines x.acts) (TallyText d w'.tally) x.wrote (part refl);
        rose = rose-later f0 f2 f3 (omega (arith, later, further)) (rose refl);
      }
      behind given x (Err Memory) all part rose kept =
          some-parts d (sum_by events_of d.items) given w' h0 h2 h3 x (kept refl)

  -- ---- the disks

  pub whole-left : (d : DocumentData) (w w' : World D g) (given left : List D) (h0 h1 : Option (List ℕ)) (f0 f1 : ℕ)
      → IsFresh d given w → WritesText d w w' h0 h1 f0 f1 (Ok tt) → HasEnded w' left
      → IsTextWritten g d given left h0 h1
  whole-left d w w' given left h0 h1 f0 f1 fresh p ended =
      let x : IsWhole d given w' h0 h1 = p given fresh in
      record {
        acts = x.acts;
        replayed = ended-replays d (sum_by events_of d.items) x.acts given left w' fresh.one x.follows (omega arith) ended;
        wrote = x.wrote;
      }

  pub broken-left : (d : DocumentData) (w w' : World D g) (given left : List D) (h0 h1 : Option (List ℕ)) (f0 f1 : ℕ)
      → IsFresh d given w → WritesText d w w' h0 h1 f0 f1 (Err WriteFault) → HasEnded w' left
      → BrokenPart (λ x e h. HasReplayed g (cut e x) given left h) d h0 h1 f0 f1
  broken-left d w w' given left h0 h1 f0 f1 fresh p ended =
      let x : IsTorn d given w' h0 h1 f0 f1 = p given fresh in
      record {
        events = x.events;
        acts = x.acts;
        claim = stopped-replays d x.events x.acts given left w' fresh.one x.follows ended;
        before = x.before;
        part = x.part;
        place = x.place;
        wrote = x.wrote;
        rose = x.rose;
      }

  pub memory-left : (d : DocumentData) (w w' : World D g) (given : List D) (h0 h1 : Option (List ℕ)) (f0 f1 : ℕ)
      → IsFresh d given w → WritesText d w w' h0 h1 f0 f1 (Err Memory) → SomeParts IsLawfulSoFar d h0 h1
  memory-left d w w' given h0 h1 f0 f1 fresh p = p given fresh
