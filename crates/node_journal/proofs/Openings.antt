-- What an opening reads, and what a log that is made anew leaves.
use Rattle.std.proofs.Common.{◌≡◌, ◌≢◌, ◌⊎◌, ℕ, ◌+◌, ◌<◌, ◌≤◌, List, [], ◌∷◌, length, drop, refl, sym, subst, ap, inl, inr, ◌∙◌, arith, get_or, Result, Ok, Err, OnErr}
use Rattle.std.specs.Prelude.{slice_range}
use Rattle.std.proofs.lemmas.Bool.{cases_lt}
use Rattle.score_disk.specs.Files.{File, synced, written}
use Rattle.node_journal.specs.Log.{generation, log, Spells, IsLog, HasGateAt}
use Rattle.node_journal.proofs.Generations.{gen_other}
use Rattle.node_journal.proofs.Blocks.{spells_nil}
use Rattle.std.proofs.lemmas.List.{drop_all}
use Rattle.node_journal.proofs.Versions.{version_first, version_second, version_none, generation_short}
use Rattle.node_journal.proofs.Logs.{log_unversioned}

first_read : (seen piece : List ℕ) → piece ≡ slice_range seen 0 (0 + 1) → 0 < length seen
    → get_or piece 0 0 ≡ get_or seen 0 0
first_read [] piece e h = absurd (omega (arith, h))
first_read (b ∷ seen) piece e h = ap (λ l. get_or l 0 0) e

pub versioned_first : (seen piece : List ℕ) → piece ≡ slice_range seen 0 (0 + 1) → 2 < length seen
    → get_or piece 0 0 ≡ 1 → HasGateAt seen 1
versioned_first seen piece e h one = version_first seen (sym (first_read seen piece e (omega (arith, h))) ∙ one)

pub versioned_second : (seen piece : List ℕ) → piece ≡ slice_range seen 0 (0 + 1) → 10 ≤ length seen
    → get_or piece 0 0 ≡ 2 → HasGateAt seen 9
versioned_second seen piece e h two = version_second seen h (sym (first_read seen piece e (omega (arith, h))) ∙ two)

pub unversioned : (seen piece : List ℕ) → piece ≡ slice_range seen 0 (0 + 1) → 2 < length seen → get_or piece 0 0 ≢ 1
    → (get_or piece 0 0 ≢ 2) ⊎ (length seen ≤ 9) → log seen ≡ Err 0
unversioned seen piece e h one two =
    let same : get_or piece 0 0 ≡ get_or seen 0 0 = first_read seen piece e (omega (arith, h)) in
    log_unversioned seen h (version_none seen (λ i. one (same ∙ i)) (elim two [ inl k ↦ inl (λ i. k (same ∙ i)) | inr k ↦ inr k ]))

pub at_errors : {T E P : Type 0} (result : Result T E) → P → OnErr result P
at_errors (Ok x) p = tt
at_errors (Err e) p = p

-- a log that is made anew
pub anew_log : (old bytes : List ℕ) → length old ≤ 2 → bytes ≡ 1 ∷ 0 ∷ drop 2 old → IsLog bytes [] 1
anew_log old bytes short e =
    let none : drop 2 old ≡ [] = drop_all 2 old short in
    let is : bytes ≡ 1 ∷ 0 ∷ [] = e ∙ ap (λ l. 1 ∷ 0 ∷ l) none in
    let v : HasGateAt (1 ∷ 0 ∷ []) 1 = version_first (1 ∷ 0 ∷ []) refl in
    subst (λ l. IsLog l [] 1) (sym is) (record {
      version = v.version;
      place = omega (arith, v.gate);
      within = omega arith;
      closed = λ z. omega (arith, z);
      spelled = subst (λ n. Spells (drop n (1 ∷ [])) []) (sym v.gate) spells_nil;
    })

-- an opening leaves the generation, or makes a file without one anew
pub opened_generation : (f now : File) → (2 < length f.seen → now ≡ f)
    → (length f.seen ≤ 2 → now ≡ synced (written 0 (1 ∷ 0 ∷ []) f)) → generation now.seen ≡ generation f.seen
opened_generation f now kept anew = elim (cases_lt 2 (length f.seen)) [
  | inl long ↦ ap (λ (x : File). generation x.seen) (kept long)
  | inr short ↦
      let one : get_or now.seen 0 0 ≡ 1 = ap (λ (x : File). get_or x.seen 0 0) (anew short) in
      gen_other now.seen (λ e. omega (arith, one, e)) ∙ sym (generation_short f.seen (omega (arith, short)))
]
