-- Worked seats: two new disks, of which the first is made anew by an opening and which are armed then.
use Rattle.std.proofs.Common.{◌≡◌, ◌≤◌, inr, ℕ, nat_lt, false, Some, None, List, [], ◌∷◌, length, refl, sym, ap, ◌∙◌, arith}
use Rattle.std.proofs.lemmas.Bool.Decides.{nat_tests}
use Rattle.node_journal.specs.Log.{generation}
use Rattle.node_journal.specs.Pairs.{age, number_of, second_lives}
use Rattle.node_journal.proofs.Generations.{gen_short}
use Rattle.grid_model.specs.declared.acts.Act.TheVariants as act
use Rattle.grid_model.specs.declared.acts.Flag.TheVariants as flag
use Rattle.grid_model.specs.Documents.{DocumentData}
use Rattle.disk_laws.specs.Ties.{IsTied}
use Rattle.disk_laws.specs.Shown.{Shown, Seats, HasLog}
use Rattle.disk_laws.specs.Calls.{CameUp, IsNew, both_armed}
use Rattle.disk_laws.specs.Seats.{StandsUp}
use Rattle.disk_laws.proofs.Files.{empty-log}
use Rattle.disk_laws.proofs.Openings.{new-stands, first-up}
use Rattle.disk_laws.proofs.Ups.{arms-up}

-- a settled disk that holds these bytes and is not armed
abbrev pub holding : List ℕ → Shown
holding bytes = record {
  file = record { seen = bytes; touched = λ i. false; least = length bytes; greatest = length bytes };
  left = None;
  own = 0;
}

-- two files of at most two bytes: the first lives
none_lives : (a b : List ℕ) → length a ≤ 2 → length b ≤ 2 → second_lives a b ≡ false
none_lives a b e f = go (age (generation a)) (age (generation b))
    (ap age (gen_short a (omega (arith, e)) ∙ sym (gen_short b (omega (arith, f)))))
  where
    go : (x y : ℕ) → x ≡ y → nat_lt x y ≡ false
    go x y same = grind (arith, nat_tests)

abbrev pub anew_seats : Seats
anew_seats = record { second = false; live = holding (1 ∷ 0 ∷ []); other = holding [] }

anew_up : CameUp [] 0 (holding []) (holding []) anew_seats
anew_up = record {
  log = empty-log [] [] (none_lives [] [] (omega arith) (omega arith)) (omega arith);
  rest = record {
    live = record { touched = λ i. refl; least = refl; greatest = refl };
    other = record { touched = λ i. refl; least = refl; greatest = refl };
    is_live = none_lives (1 ∷ 0 ∷ []) [] (omega arith) (omega arith);
    log = log.log;
    number_is = ap (λ g. number_of g) (gen_short (1 ∷ 0 ∷ []) (omega arith));
  };
  first_is = inr (
    (none_lives [] [] (omega arith) (omega arith), omega arith),
    record
        { left = refl; unstopped = λ out. cc; own = refl },
  );
  second_is = refl;
}
  where
    log : HasLog [] 0 (1 ∷ 0 ∷ []) []
    log = empty-log (1 ∷ 0 ∷ []) [] (none_lives (1 ∷ 0 ∷ []) [] (omega arith) (omega arith)) (omega arith)

new_disk : IsNew (holding [])
new_disk = record {
  empty = refl;
  settled = record { touched = λ i. refl; least = refl; greatest = refl };
  unarmed =
      refl;
}

-- the node of two new disks comes up
pub first_opening-stands : (d : DocumentData) → StandsUp d (act.Up 1 flag.Untouched ∷ []) 1 0 anew_seats
first_opening-stands d = (first-up d [] 1 0 [] (holding []) (holding []) anew_seats
    (new-stands d 1 (holding []) (holding []) new_disk new_disk) anew_up).stands

-- and stands behind an arming with both disks armed
pub armed-stands : (d : DocumentData) → StandsUp d (act.Armed 1 3 0 ∷ act.Up 1 flag.Untouched ∷ []) 1 0
    (both_armed (Some 3) anew_seats)
armed-stands d = (arms-up d (act.Up 1 flag.Untouched ∷ []) 1 0 3 0 anew_seats (first_opening-stands d)
    (omega arith)).stands

-- with the fuses of its disks not armed it does not
pub unarmed-refuted : (d : DocumentData) → StandsUp d (act.Armed 1 3 0 ∷ act.Up 1 flag.Untouched ∷ []) 1 0 anew_seats
    → ⊥
unarmed-refuted d st = st.tied

-- nor with one of them armed with another number
pub other_number-refuted : (d : DocumentData) (s : Seats) → s.live.left ≡ Some 3 → s.other.left ≡ Some 4 →
    StandsUp d (act.Armed 1 3 0 ∷ act.Up 1 flag.Untouched ∷ []) 1 0 s → ⊥
other_number-refuted d s one two st =
    let tied : IsTied (Some (record { k = 3; records = 0; opened = 0 })) (Some 3) (Some 4) = rw (one, two) at st.tied in
    let bad : ◌≡◌ {A = ℕ} 4 3 = tied.whole in
    omega (arith, bad)
