-- How a key lies in its fields.
use Rattle.std.specs.Prelude.{◌≡◌, ℕ, ◌-◌, ◌≤◌, ◌++◌, List, take, drop, replicate, IsTrue, length}
use Rattle.std.proofs.Common.{sym, ap, ◌∙◌, length-take-le, arith, length-append}
use Rattle.std.proofs.Math.Seq.{take-append_seam, drop-append_seam}
use Rattle.std.proofs.lemmas.List.{take-append-drop, drop-replicate, length-replicate}
use Rattle.score_base.specs.Keys.{is_key}
use Rattle.score_base.specs.declared.keys.Key.TheInside.{Inside}

-- the bytes in use
abbrev pub key_text : Inside → List ℕ
key_text k = take k.used k.text

-- the bytes in use are a key, and the others are 0
pub record IsPadded (k : Inside) : Type 0 where
  pub array : length k.text ≡ 32
  pub within : k.used ≤ 32
  pub key : IsTrue (is_key (take k.used k.text))
  pub padding : drop k.used k.text ≡ replicate (32 - k.used) 0

-- the fields of the key of these bytes
abbrev pub padded : List ℕ → Inside
padded bs = record { text = bs ++ replicate (32 - length bs) 0; used = length bs }

pub padded-key_text : (k : Inside) → IsPadded k → padded (take k.used k.text) ≡ k
padded-key_text k h =
    let long : length (take k.used k.text) ≡ k.used = length-take-le k.used k.text (omega arith) in
    let whole : take k.used k.text ++ replicate (32 - k.used) 0 ≡ k.text =
    ap (λ l. take k.used k.text ++ l) (sym h.padding) ∙ take-append-drop k.used k.text in
    let both : padded (take k.used k.text) ≡ record { text = take k.used k.text ++ replicate (32 - k.used) 0; used = k.used } =
    ap (λ (n : ℕ). record { text = take k.used k.text ++ replicate (32 - n) 0; used = n }) long in
    both ∙ ap (λ (bs : List ℕ). record { text = bs; used = k.used }) whole

pub padded_bytes : (xs zeros : List ℕ) → zeros ≡ replicate 32 0 → length xs ≤ 32 → IsTrue (is_key xs)
    → IsPadded (record { text = xs ++ drop (length xs) zeros; used = length xs })
padded_bytes xs zeros e short key =
    let rest : drop (length xs) zeros ≡ replicate (32 - length xs) 0 =
    ap (drop (length xs)) e ∙ drop-replicate (length xs) 32 0 in
    let long : length (xs ++ drop (length xs) zeros) ≡ 32 =
    rw rest (rw length-append (rw length-replicate (omega arith))) in
    record {
      array = long;
      within = short;
      key = rw (take-append_seam xs (drop (length xs) zeros)) key;
      padding = drop-append_seam xs (drop (length xs) zeros) ∙ rest;
    }
