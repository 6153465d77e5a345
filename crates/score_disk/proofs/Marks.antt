-- How the marks of a disk in memory follow its file.
use Rattle.std.proofs.Common.{◌≡◌, ℕ, ◌+◌, ◌-◌, ◌<◌, ◌≤◌, ◌||◌, Bool, false, max, min, List, length, take, refl, sym, ap, ◌∙◌, arith, inl, inr}
use Rattle.std.proofs.Math.Path.{fun_ext}
use Rattle.std.proofs.lemmas.Bool.{cases_lt}
use Rattle.score_disk.specs.Files.{File, written, cut_to, covers, put_at}
use Rattle.score_disk.specs.Copies.{Copies, is_marked}
use Rattle.score_disk.proofs.Places.{neither, outside, length-put_at, get_or-put_at}

low_mark : (old new : List Bool) (least at n : ℕ) → ((i : ℕ) → is_marked new i ≡ (is_marked old i || covers at n i))
    → length new ≡ max (length old) (at + n) → at ≤ length old
    → ((i : ℕ) → is_marked old i ≡ false → i < length old → i < least) → (i : ℕ) → is_marked new i ≡ false
    → i < length new → i < least
low_mark old new least at n marked long within low i e h =
    let both = neither (is_marked old i) (covers at n i) (sym (marked i) ∙ e) in
    elim (cases_lt i (length old)) [
      | inl below ↦ low i both.0 below
      | inr above ↦ elim (outside at n i both.1) [ inl x ↦ absurd (omega (arith, x, above, within)) | inr x ↦ absurd (omega (arith, x, above, long, h)) ]
    ]

pub copies_written : (bytes settled new : List ℕ) (old marks : List Bool) (least at : ℕ)
    → Copies bytes settled old least → at ≤ length bytes
    → ((i : ℕ) → is_marked marks i ≡ (is_marked old i || covers at (length new) i))
    → length marks ≡ max (length old) (at + length new) → Copies (put_at bytes at new) settled marks least
copies_written bytes settled new old marks least at k h marked long =
    let here : length (put_at bytes at new) ≡ max (length bytes) (at + length new) = length-put_at bytes at new h in
    record {
      bytes_least = omega (arith, here, k.bytes_least);
      bytes_most = omega (arith, here, long, k.bytes_most);
      settled_least = k.settled_least;
      settled_most = omega (arith, long, k.settled_most);
      same = λ i e. let both = neither (is_marked old i) (covers at (length new) i) (sym (marked i) ∙ e) in
          k.same i both.0 ∙ sym (get_or-put_at bytes at new i h (outside at (length new) i both.1));
      low = low_mark old marks least at (length new) marked long (omega (arith, h, k.bytes_most)) k.low;
    }

-- a file of these bytes and marks
abbrev pub marked_file : List ℕ → List Bool → ℕ → File
marked_file bytes marks least =
    record { seen = bytes; touched = is_marked marks; least = least; greatest = length marks }

same_file : (bytes seen : List ℕ) (marks : List Bool) (touched : ℕ → Bool) (low least greatest : ℕ) → bytes ≡ seen
    → ((i : ℕ) → is_marked marks i ≡ touched i) → low ≡ least → length marks ≡ greatest
    → marked_file bytes marks low ≡ record { seen = seen; touched = touched; least = least; greatest = greatest }
same_file bytes seen marks touched low least greatest b t l g =
    let with_seen : List ℕ → File = λ x. record { seen = x; touched = is_marked marks; least = low; greatest = length marks } in
    let with_touched : (ℕ → Bool) → File = λ x. record { seen = seen; touched = x; least = low; greatest = length marks } in
    let with_least : ℕ → File = λ x. record { seen = seen; touched = touched; least = x; greatest = length marks } in
    let with_greatest : ℕ → File = λ x. record { seen = seen; touched = touched; least = least; greatest = x } in
    ap with_seen b ∙ (ap with_touched (fun_ext t) ∙ (ap with_least l ∙ ap with_greatest g))

pub file_written : (bytes now new : List ℕ) (old marks : List Bool) (least at : ℕ) → now ≡ put_at bytes at new
    → ((i : ℕ) → is_marked marks i ≡ (is_marked old i || covers at (length new) i))
    → length marks ≡ max (length old) (at + length new)
    → marked_file now marks least ≡ written at new (marked_file bytes old least)
file_written bytes now new old marks least at e marked long = same_file now (put_at bytes at new) marks _ least least _ e marked refl long

pub file_cut : (bytes now : List ℕ) (old marks : List Bool) (low least at long : ℕ) → long ≡ length old
    → at ≤ length old → now ≡ take at bytes
    → ((i : ℕ) → is_marked marks i ≡ (is_marked old i || covers at (long - at) i))
    → length marks ≡ max (length old) (at + (long - at)) → low ≡ min least at
    → marked_file now marks low ≡ cut_to at (marked_file bytes old least)
file_cut bytes now old marks low least at long n h e marked more l = same_file now (take at bytes) marks _ low (min least at) (length old) e (λ i. marked i ∙ ap (λ k. is_marked old i || covers at (k - at) i) n) l (omega (arith, more, h, n))
