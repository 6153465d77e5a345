-- With no fault, the words and the bytes decide the code, but for want of memory.
use Rattle.std.proofs.Common.{◌≡◌, ◌⊎◌, ℕ, ◌≤◌, Bool, true, false, List, length, Option, Some, Ok, Err, inl, inr, refl, sym, ◌∙◌, subst, arith, nat_le}
use Rattle.std.proofs.lemmas.Bool.Decides.{nat_tests}
use Rattle.score_base.specs.Faults.{Rose}
use Rattle.score_disk.specs.declared.disk.Disk.{Ghosts}
use Rattle.score_io.specs.Streams.{ReadWhole, Lost}
use Rattle.cluster_file.specs.Doc.{doc}
use Rattle.score_cli.specs.Answers.{Came, Done, Broken, NoDocument, TooLong, IsCode, code_asked}
use Rattle.score_cli.proofs.ForCode.{whole_told, lost_told}

within : (bytes : List ℕ) → length bytes ≤ 4194304 → nat_le (length bytes) 4194304 ≡ true
within bytes h = grind (arith, nat_tests)

beyond : (bytes : List ℕ) → 4194305 ≤ length bytes → nat_le (length bytes) 4194304 ≡ false
beyond bytes h = grind (arith, nat_tests)

done-code : (lo ln : Option (List ℕ)) (bytes : List ℕ) → lo ≡ Some bytes → Came lo ln → code_asked bytes ≡ 0
done-code lo ln bytes told d =
    let read : ReadWhole (Some bytes) ln d.bytes = subst (λ o. ReadWhole o ln d.bytes) told d.read in
    let same : d.bytes ≡ bytes = (whole_told bytes d.bytes ln read).0 in
    let short : length bytes ≤ 4194304 = subst (λ bs. length bs ≤ 4194304) same d.within in
    let spelled : doc bytes ≡ Ok d.document = subst (λ bs. doc bs ≡ Ok d.document) same d.spelled in
    rw (within bytes short, spelled) refl

refused-code : (lo ln ho hn : Option (List ℕ)) (fo fn : ℕ) (bytes : List ℕ) → lo ≡ Some bytes
    → NoDocument lo ln ho hn fo fn → code_asked bytes ≡ 3
refused-code lo ln ho hn fo fn bytes told d =
    let read : ReadWhole (Some bytes) ln d.bytes = subst (λ o. ReadWhole o ln d.bytes) told d.read in
    let same : d.bytes ≡ bytes = (whole_told bytes d.bytes ln read).0 in
    let short : length bytes ≤ 4194304 = subst (λ bs. length bs ≤ 4194304) same d.within in
    let refused : doc bytes ≡ Err d.refusal = subst (λ bs. doc bs ≡ Err d.refusal) same d.refused in
    rw (within bytes short, refused) refl

long-code : (lo ln ho hn : Option (List ℕ)) (fo fn : ℕ) (bytes : List ℕ) → lo ≡ Some bytes → TooLong lo ln ho hn fo fn
    → code_asked bytes ≡ 3
long-code lo ln ho hn fo fn bytes told d =
    let came : Lost (Some bytes) ln 4194305 = subst (λ o. Lost o ln 4194305) told d.came in
    rw (beyond bytes (lost_told bytes 4194305 ln came)) refl

pub complete : {D : Type 0} (g : Ghosts D) (given left : List D) (lo ln ho hn : Option (List ℕ))
    (fo fn go gn n : ℕ) (command : Bool) → IsCode n → (n ≡ 2 → command ≡ false)
    → (n ≡ 0 → Done g lo ln ho hn given left) → (n ≡ 3 → NoDocument lo ln ho hn go gn ⊎ TooLong lo ln ho hn go gn)
    → (n ≡ 4 → Rose fo fn) → (n ≡ 5 → Broken g lo ln ho hn go gn given left) → (bytes : List ℕ) → lo ≡ Some bytes
    → command ≡ true → (Rose fo fn → ⊥) → (Rose go gn → ⊥) → (n ≡ code_asked bytes) ⊎ (n ≡ 6)
complete g given left lo ln ho hn fo fn go gn n command code usage done refused fault broken bytes told is source sink =
    elim code [
      | inl e ↦ inl (e ∙ sym (done-code lo ln bytes told (done e).input))
      | inr c2 ↦ elim c2 [
        | inl e ↦ absurd (let bad : true ≡ false = sym is ∙ usage e in cc)
        | inr c3 ↦ elim c3 [
          | inl e ↦ inl (e ∙ sym (elim (refused e) [ inl d ↦ refused-code lo ln ho hn go gn bytes told d | inr d ↦ long-code lo ln ho hn go gn bytes told d ]))
          | inr c4 ↦ elim c4 [
            | inl e ↦ absurd (source (fault e))
            | inr c5 ↦ elim c5 [
              | inl e ↦ absurd (sink ((broken e).broke.rose))
              | inr e ↦ inr e
            ]
          ]
        ]
      ]
    ]
