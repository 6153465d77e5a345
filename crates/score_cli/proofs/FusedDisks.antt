-- What stands of the disks of a run stands of the disks behind their fuses.
use Rattle.std.proofs.Common.{◌≡◌, ℕ, ◌+◌, ◌*◌, ◌≤◌, zero, suc, Bool, IsTrue, List, [], ◌∷◌, length, Option, Some, None, refl, sym, ap, subst, ◌∙◌, arith}
use Rattle.std.specs.Prelude.{map, slice_get}
use Rattle.std.specs.Option.{option_map}
use Rattle.std.proofs.lemmas.List.{length-map}
use Rattle.std.proofs.lemmas.Option.{slice_get-map}
use Rattle.score_base.specs.declared.ids.NodeId.{NodeId}
use Rattle.score_disk.specs.Files.{File, IsSettled}
use Rattle.score_disk.specs.declared.disk.Disk.{Ghosts}
use Rattle.score_disk.specs.declared.fused.Fused.{Fused}
use Rattle.grid_model.specs.declared.acts.Act.{Act}
use Rattle.grid_model.specs.Cuts.{cut}
use Rattle.grid_model.specs.Documents.{DocumentData, IsOne}
use Rattle.grid_model.specs.Runs.{Lawful}
use Rattle.disk_laws.specs.Holds.{Holds, HoldBoth, first_of_node, second_of_node}
use Rattle.disk_laws.specs.SoFar.{IsJointRise}
use Rattle.text_parts.specs.Answers.{BrokenPart, SomeParts}
use Rattle.host_laws.specs.Starts.{AreNew}
use Rattle.grid_world.specs.Follows.{own_in, owns}
use Rattle.grid_world.specs.Replays.{HasReplayed, file_in, files}
use Rattle.grid_world.specs.Starts.{AreDisksOf, none, more}
use Rattle.run_writer.specs.Writing.{IsLawfulSoFar, IsTextWritten}
use Rattle.score_cli.specs.Headline.{Headline}
use Rattle.score_cli.specs.Answers.{HeadlineSoFar}
use Rattle.score_cli.specs.Disks.{AreBlank, IsBlank, Played, counts, faults_in}
use Rattle.score_cli.specs.Fuses.{fused, unfused}
use Rattle.score_cli.specs.Runs.{IsPlayed, whole, broken}
use Rattle.score_cli.proofs.ForCode.{broken-claim, cut-one, some-claim}

-- the headline holds of each lawful run of a document
abbrev pub Law : Type 0
Law = (d : DocumentData) (h : List Act) (rise : NodeId → ℕ) → IsOne d → Lawful d h rise → Headline d h rise

-- ---- of what is lawful, the headline

pub some-headlines : Law → (d : DocumentData) → IsOne d → (held_old held_new : Option (List ℕ))
    → SomeParts IsLawfulSoFar d held_old held_new → SomeParts HeadlineSoFar d held_old held_new
some-headlines law d one old new p =
    some-claim IsLawfulSoFar HeadlineSoFar d
    (λ e acts so_far. (so_far.0, law (cut e d) acts so_far.0 (cut-one d e one) so_far.1)) old new p

joint : (a b x y a' b' x' y' rise : ℕ) → a ≡ a' → b ≡ b' → x ≡ x' → y ≡ y' → IsJointRise a b x y rise
    → IsJointRise a' b' x' y' rise
joint a b x y a' b' x' y' rise p q r s j =
    subst (λ z. IsJointRise a' b' x' z rise) s
    (subst (λ z. IsJointRise a' b' z y rise) r
    (subst (λ z. IsJointRise a' z x y rise) q (subst (λ z. IsJointRise z b x y rise) p j)))

module _ {D : Type 0} (g : Ghosts D) (f : Ghosts (Fused D)) (file : (x : Fused D) → f.file x ≡ g.file x.inner)
    (own : (x : Fused D) → f.own x ≡ g.faults x.inner) (tells : (x : Fused D) → f.tells x ≡ g.tells x.inner)
    (left : (x : Fused D) → f.left x ≡ x.left) where
  -- ---- blank disks, each with a fuse, are new

  blank-new : (a b : D) → IsBlank g a → IsBlank g b → AreNew f (fused a) (fused b)
  blank-new a b p q = record {
    first_new = record {
      empty = ap (λ z. z.seen) (file (fused a)) ∙ p.empty.1;
      settled = subst IsSettled (sym (file (fused a))) p.settled;
      unarmed = left (fused a);
    };
    second_new = record {
      empty = ap (λ z. z.seen) (file (fused b)) ∙ q.empty.1;
      settled = subst IsSettled (sym (file (fused b))) q.settled;
      unarmed = left (fused b);
    };
    tells_first = subst IsTrue (sym (tells (fused a))) p.empty.0;
    tells_second = subst IsTrue (sym (tells (fused b))) q.empty.0;
  }

  blank-disks : (n : ℕ) (disks : List D) → 2 * n ≤ length disks
      → ((m : ℕ) (disk : D) → slice_get disks m ≡ Some disk → IsBlank g disk) → AreDisksOf f n (map fused disks)
  blank-disks zero disks long each = none (map fused disks)
  blank-disks (suc n) [] long each = absurd (omega (arith, long))
  blank-disks (suc n) (a ∷ []) long each = absurd (omega (arith, long))
  blank-disks (suc n) (a ∷ b ∷ disks) long each =
      let next : n + 1 ≡ suc n = omega arith in
      subst (λ k. AreDisksOf f k (fused a ∷ fused b ∷ map fused disks)) next
      (more n (fused a) (fused b) (map fused disks) (blank-new a b (each 0 a refl) (each 1 b refl))
      (blank-disks n disks (omega (arith, long)) (λ m disk at. each (suc (suc m)) disk at)))

  pub fused-disks : (n : ℕ) (disks : List D) → n ≤ 16 → AreBlank g disks → AreDisksOf f n (map fused disks)
  fused-disks n disks few blank = let count = blank.count in blank-disks n disks (omega (arith, few, count)) blank.each

  -- ---- what stands in a place

  own-unfused : (o : Option (Fused D)) → own_in f o ≡ faults_in g (option_map unfused o)
  own-unfused None = refl
  own-unfused (Some x) = own x

  own-fused : (o : Option D) → own_in f (option_map fused o) ≡ faults_in g o
  own-fused None = refl
  own-fused (Some x) = own (fused x)

  file-unfused : (o : Option (Fused D)) → file_in f o ≡ file_in g (option_map unfused o)
  file-unfused None = refl
  file-unfused (Some x) = file x

  file-fused : (o : Option D) → file_in f (option_map fused o) ≡ file_in g o
  file-fused None = refl
  file-fused (Some x) = file (fused x)

  counts-left : (xs : List (Fused D)) (m : ℕ) → owns f xs m ≡ counts g (map unfused xs) m
  counts-left xs m = own-unfused (slice_get xs m) ∙ ap (faults_in g) (sym (slice_get-map unfused xs m))

  counts-given : (xs : List D) (m : ℕ) → owns f (map fused xs) m ≡ counts g xs m
  counts-given xs m = ap (own_in f) (slice_get-map fused xs m) ∙ own-fused (slice_get xs m)

  files-left : (xs : List (Fused D)) (m : ℕ) → files f xs m ≡ files g (map unfused xs) m
  files-left xs m = file-unfused (slice_get xs m) ∙ ap (file_in g) (sym (slice_get-map unfused xs m))

  files-given : (xs : List D) (m : ℕ) → files f (map fused xs) m ≡ files g xs m
  files-given xs m = ap (file_in f) (slice_get-map fused xs m) ∙ file-fused (slice_get xs m)

  -- ---- a run

  held : (d : DocumentData) (h : List Act) (given : List D) (xs : List (Fused D))
      → Holds d h (files f (map fused given)) (files f xs) → Holds d h (files g given) (files g (map unfused xs))
  held d h given xs all = record {
    logs = all.logs;
    disks = λ n low high.
        subst (λ z. HoldBoth (all.logs n) (files g (map unfused xs) (first_of_node n)) z)
        (files-left xs (second_of_node n))
        (subst (λ z. HoldBoth (all.logs n) z (files f xs (second_of_node n))) (files-left xs (first_of_node n))
        (all.disks n low high));
    are_logs = all.are_logs;
    updates = all.updates;
    others = λ m past. sym (files-left xs m) ∙ all.others m past ∙ files-given given m;
  }

  -- how many disks are left
  places-left : (d : DocumentData) (h : List Act) (given : List D) (xs : List (Fused D))
      → HasReplayed f d (map fused given) xs h → length xs ≡ length given
  places-left d h given xs run = run.places ∙ length-map given fused

  played : Law → (d : DocumentData) → IsOne d → (h : List Act) (given : List D) (xs : List (Fused D))
      → HasReplayed f d (map fused given) xs h → Played g d h given (map unfused xs)
  played law d one h given xs run = record {
    rise = run.rise;
    headline = law d h run.rise one run.lawful;
    rises = λ n low high.
        joint (owns f (map fused given) (first_of_node n)) (owns f (map fused given) (second_of_node n))
        (owns f xs (first_of_node n)) (owns f xs (second_of_node n)) (counts g given (first_of_node n))
        (counts g given (second_of_node n)) (counts g (map unfused xs) (first_of_node n))
        (counts g (map unfused xs) (second_of_node n)) (run.rise n) (counts-given given (first_of_node n))
        (counts-given given (second_of_node n)) (counts-left xs (first_of_node n)) (counts-left xs (second_of_node n))
        (run.rises n low high);
    holds = held d h given xs run.holds;
    places = length-map xs unfused ∙ places-left d h given xs run;
  }

  -- ---- what a run that was written leaves

  pub whole-left : Law → (d : DocumentData) → IsOne d → (given : List D) (armed xs : List (Fused D)) (left : List D)
      → armed ≡ map fused given → left ≡ map unfused xs → (held_old held_new : Option (List ℕ))
      (faults_old faults_new : ℕ) → IsTextWritten f d armed xs held_old held_new
      → IsPlayed g d given left held_old held_new faults_old faults_new 0
  whole-left law d one given armed xs left same back old new fo fn w =
      whole refl
      (record {
        acts = w.acts;
        played = subst (Played g d w.acts given) (sym back)
            (played law d one w.acts given xs (subst (λ z. HasReplayed f d z xs w.acts) same w.replayed));
        wrote = w.wrote;
      })

  pub broken-left : Law → (d : DocumentData) → IsOne d → (given : List D) (armed xs : List (Fused D)) (left : List D)
      → armed ≡ map fused given → left ≡ map unfused xs → (held_old held_new : Option (List ℕ))
      (faults_old faults_new : ℕ)
      → BrokenPart (λ x e h. HasReplayed f (cut e x) armed xs h) d held_old held_new faults_old faults_new
      → IsPlayed g d given left held_old held_new faults_old faults_new 5
  broken-left law d one given armed xs left same back old new fo fn b =
      broken refl
      (broken-claim (λ x e h. HasReplayed f (cut e x) armed xs h) (λ x e h. Played g (cut e x) h given left) d
      (λ e acts run. subst (Played g (cut e d) acts given) (sym back)
      (played law (cut e d) (cut-one d e one) acts given xs (subst (λ z. HasReplayed f (cut e d) z xs acts) same run)))
      old new fo fn b)
