-- What a body says was spelled so, and what is spelled so is said: the two ways, record by record.
use Rattle.std.proofs.Common.{◌≡◌, ℕ, ◌+◌, ◌≤◌, ◌^◌, ◌<◌, cond, eqb, List, [], ◌∷◌, ◌++◌, length, Option, Some, None, option_map, refl, sym, ap, subst, ◌∙◌, append_assoc, arith, length-append, inl, inr, ◌⊎◌}
use Rattle.std.proofs.lemmas.Option.{cond_some}
use Rattle.std.proofs.lemmas.Bool.{eqb-true}
use Rattle.std.proofs.lemmas.Bool.Decides.{eqb_tells}
use Rattle.std.proofs.lemmas.List.{append-nil, nil_from_length}
use Rattle.score_base.specs.declared.causes.Outcome.{Outcome}
use Rattle.score_base.specs.declared.records.Record.{Record}
use Rattle.score_base.specs.declared.records.Record.TheVariants.{Prepared, Ended, Ceiling, Decided, Closed}
use Rattle.score_fields.specs.Spelling.{IsBytes, IsTx, IsNode, AreNodes, nodes_bytes, AreKeys, keys_bytes, AreWrites, writes_bytes, IsOutcome, outcome_bytes, two_bytes, eight_bytes}
use Rattle.score_fields.specs.Reading.{◌>>=◌, first_tx, first_eight}
use Rattle.score_fields.proofs.Codecs.{IsCodec, IsBytes-rest, IsBytes-behind, bind_some, codec_within, codec_tx, codec_eight}
use Rattle.score_fields.proofs.Bounds.{nodes_small, keys_small, writes_small, outcome_small}
use Rattle.score_fields.proofs.Lengths.{length-two_bytes, length-eight_bytes}
use Rattle.score_fields.proofs.NodeCodec.{codec_nodes}
use Rattle.score_fields.proofs.ListCodecs.{codec_keys, codec_writes}
use Rattle.score_fields.proofs.ChoiceCodecs.{codec_outcome}
use Rattle.journal_records.specs.Records.{record_bytes, IsRecord, first_both, whole, first_prepared, first_ended, first_decided, as_prepared, as_ended, as_decided, decode_of}

-- ---- two values

codec_both : {A B : Type 0} {Is : A → Type 0} {Are : B → Type 0} {f : A → List ℕ} {g : B → List ℕ}
    {first : List ℕ → Option (A × List ℕ)} {second : List ℕ → Option (B × List ℕ)}
    → IsCodec Is f first → IsCodec Are g second
    → IsCodec (λ x. Is x.0 × Are x.1) (λ x. f x.0 ++ g x.1) (first_both first second)
codec_both {A} {B} {Is} {Are} {f} {g} {first} {second} one two = record { again = again; takes = takes } where
  again : (x : A × B) (rest : List ℕ) → Is x.0 × Are x.1
      → first_both first second ((f x.0 ++ g x.1) ++ rest) ≡ Some (x, rest)
  again x rest is = ap (first_both first second) (append_assoc (f x.0) (g x.1) rest) ∙ rw (one.again x.0 (g x.1 ++ rest) is.0, two.again x.1 rest is.1) refl

  takes : (bytes : List ℕ) (x : A × B) (rest : List ℕ) → IsBytes bytes → first_both first second bytes ≡ Some (x, rest)
      → (Is x.0 × Are x.1) × (bytes ≡ (f x.0 ++ g x.1) ++ rest)
  takes bytes x rest fits e =
      let a = bind_some (first bytes) (λ y. second y.1 >>= λ z. Some ((y.0, z.0), z.1)) (x, rest) e in
      let b = bind_some (second a.0.1) (λ z. Some ((a.0.0, z.0), z.1)) (x, rest) a.2 in
      let p = one.takes bytes a.0.0 a.0.1 fits a.1 in
      let q = two.takes a.0.1 b.0.0 b.0.1 (IsBytes-behind (f a.0.0) a.0.1 bytes p.1 fits) b.1 in
      let made : (A × B) × List ℕ = ((a.0.0, b.0.0), b.0.1) in
      let same : made ≡ (x, rest) = cc in
      let all : bytes ≡ (f a.0.0 ++ g b.0.0) ++ b.0.1 = p.1 ∙ ap (λ (y : List ℕ). f a.0.0 ++ y) q.1 ∙ sym (append_assoc (f a.0.0) (g b.0.0) b.0.1) in
      subst (λ (y : (A × B) × List ℕ). (Is y.0.0 × Are y.0.1) × (bytes ≡ (f y.0.0 ++ g y.0.1) ++ y.1)) same ((p.0, q.0), all)

-- ---- all of the bytes

-- a record that is made of a value behind its tag, and its one spelling
record IsKind {A : Type 0} (Is : A → Type 0) (f : A → List ℕ) (first : List ℕ → Option (A × List ℕ)) (tag : ℕ)
    (make : A → Record) : Type 0 where
  pub codec : IsCodec Is f first
  pub fits : (a : A) → Is a → IsRecord (make a)
  pub spelled : (a : A) → record_bytes (make a) ≡ tag ∷ f a

whole_again : {A : Type 0} {Is : A → Type 0} {f : A → List ℕ} {first : List ℕ → Option (A × List ℕ)}
    → IsCodec Is f first → (a : A) → Is a → whole (first (f a)) ≡ Some a
whole_again {A} {Is} {f} {first} codec a is =
    let read : first (f a) ≡ Some (a, []) = ap first (sym (append-nil (f a))) ∙ codec.again a [] is in
    ap (λ (o : Option (A × List ℕ)). whole o) read

whole_takes : {A : Type 0} {Is : A → Type 0} {f : A → List ℕ} {first : List ℕ → Option (A × List ℕ)}
    → IsCodec Is f first
    → (bytes : List ℕ) (a : A) → IsBytes bytes → whole (first bytes) ≡ Some a → Is a × (bytes ≡ f a)
whole_takes {A} {Is} {f} {first} codec bytes a fits e = by_read (first bytes) refl e where
  by_read : (o : Option (A × List ℕ)) → first bytes ≡ o → whole o ≡ Some a → Is a × (bytes ≡ f a)
  by_read None read e' = absurd cc
  by_read (Some x) read e' =
      let g = cond_some (eqb (length x.1) 0) x.0 a e' in
      let p = codec.takes bytes x.0 x.1 fits read in
      let none : x.1 ≡ [] = nil_from_length x.1 (eqb-true _ _ g.0) in
      let all : bytes ≡ f x.0 = p.1 ∙ ap (λ (y : List ℕ). f x.0 ++ y) none ∙ append-nil (f x.0) in
      subst (λ (y : A). Is y × (bytes ≡ f y)) g.1 (p.0, all)

mapped_some : {A B : Type 0} (make : A → B) (o : Option A) (b : B) → option_map make o ≡ Some b
    → (a : A) × (o ≡ Some a) × (make a ≡ b)
mapped_some make None b e = absurd cc
mapped_some make (Some a) b e = (a, refl, cc)

kind_takes : {A : Type 0} {Is : A → Type 0} {f : A → List ℕ} {first : List ℕ → Option (A × List ℕ)} {tag : ℕ}
    {make : A → Record} → IsKind Is f first tag make
    → (bytes : List ℕ) (r : Record) → IsBytes bytes → option_map make (whole (first bytes)) ≡ Some r
    → IsRecord r × (tag ∷ bytes ≡ record_bytes r)
kind_takes {A} {Is} {f} {first} {tag} {make} kind bytes r fits e =
    let m = mapped_some make (whole (first bytes)) r e in
    let p = whole_takes kind.codec bytes m.0 fits m.1 in
    let all : tag ∷ bytes ≡ record_bytes (make m.0) = ap (λ (y : List ℕ). tag ∷ y) p.1 ∙ sym (kind.spelled m.0) in
    subst (λ (y : Record). IsRecord y × (tag ∷ bytes ≡ record_bytes y)) m.2 (kind.fits m.0 p.0, all)

kind_again : {A : Type 0} {Is : A → Type 0} {f : A → List ℕ} {first : List ℕ → Option (A × List ℕ)} {tag : ℕ}
    {make : A → Record} → IsKind Is f first tag make
    → (a : A) → Is a → option_map make (whole (first (f a))) ≡ Some (make a)
kind_again {A} {Is} {f} {first} {tag} {make} kind a is = ap (λ (o : Option A). option_map make o) (whole_again kind.codec a is)

-- ---- the five kinds

abbrev PreparedParts : Type 0
PreparedParts = ℕ × (ℕ × (List ℕ × (ℕ × (ℕ × (List (List ℕ) × List (List ℕ × ℕ))))))

abbrev IsPrepared : PreparedParts → Type 0
IsPrepared a =
    IsTx a.0 × (IsNode a.1.0 × (AreNodes a.1.1.0
    × ((a.1.1.1.0 < 2 ^ 64) × ((a.1.1.1.1.0 < 2 ^ 64) × (AreKeys a.1.1.1.1.1.0 × AreWrites a.1.1.1.1.1.1)))))

abbrev prepared_bytes : PreparedParts → List ℕ
prepared_bytes a =
    two_bytes a.0 ++ ((a.1.0 ∷ []) ++ (nodes_bytes a.1.1.0 ++ (eight_bytes a.1.1.1.0
    ++ (eight_bytes a.1.1.1.1.0 ++ (keys_bytes a.1.1.1.1.1.0 ++ writes_bytes a.1.1.1.1.1.1)))))

codec_prepared : IsCodec IsPrepared prepared_bytes first_prepared
codec_prepared = codec_both codec_tx (codec_both (codec_within 1 16) (codec_both codec_nodes (codec_both codec_eight (codec_both codec_eight (codec_both codec_keys codec_writes)))))

kind_prepared : IsKind IsPrepared prepared_bytes first_prepared 1 as_prepared
unfolding record_bytes IsRecord
kind_prepared = record {
  codec = codec_prepared;
  fits = λ a is. (is.0, is.1.0, is.1.1.0, is.1.1.1.0, is.1.1.1.1.0, is.1.1.1.1.1.0, is.1.1.1.1.1.1);
  spelled = λ a. ap (λ (y : List ℕ). 1 ∷ (two_bytes a.0 ++ ((a.1.0 ∷ []) ++ (nodes_bytes a.1.1.0 ++ (eight_bytes a.1.1.1.0 ++ (eight_bytes a.1.1.1.1.0 ++ (keys_bytes a.1.1.1.1.1.0 ++ y))))))) (append-nil (writes_bytes a.1.1.1.1.1.1));
}

kind_ended : IsKind (λ a. IsTx a.0 × IsOutcome a.1) (λ a. two_bytes a.0 ++ outcome_bytes a.1) first_ended 2 as_ended
unfolding record_bytes IsRecord
kind_ended = record {
  codec = codec_both codec_tx codec_outcome;
  fits = λ a is. is;
  spelled = λ a. ap (λ (y : List ℕ). 2 ∷ (two_bytes a.0 ++ y)) (append-nil (outcome_bytes a.1));
}

kind_ceiling : IsKind (λ c. c < 2 ^ 64) eight_bytes first_eight 3 Ceiling
unfolding record_bytes IsRecord
kind_ceiling = record { codec = codec_eight; fits = λ c is. is; spelled = λ c. ap (λ (y : List ℕ). 3 ∷ y) (append-nil (eight_bytes c)) }

kind_decided : IsKind (λ a. IsTx a.0 × ((a.1.0 < 2 ^ 64) × AreNodes a.1.1))
    (λ a. two_bytes a.0 ++ (eight_bytes a.1.0 ++ nodes_bytes a.1.1)) first_decided 4 as_decided
unfolding record_bytes IsRecord
kind_decided = record {
  codec = codec_both codec_tx (codec_both codec_eight codec_nodes);
  fits = λ a is. (is.0, is.1.0, is.1.1);
  spelled = λ a. ap (λ (y : List ℕ). 4 ∷ (two_bytes a.0 ++ (eight_bytes a.1.0 ++ y))) (append-nil (nodes_bytes a.1.1));
}

kind_closed : IsKind IsTx two_bytes first_tx 5 Closed
unfolding record_bytes IsRecord
kind_closed = record { codec = codec_tx; fits = λ t is. is; spelled = λ t. ap (λ (y : List ℕ). 5 ∷ y) (append-nil (two_bytes t)) }

-- ---- any record

pub decode_again : (r : Record) → IsRecord r → decode_of (record_bytes r) ≡ Some r
unfolding decode_of IsRecord
decode_again (Prepared t home parts sid p reads writes) is =
    let a : PreparedParts = (t, (home, (parts, (sid, (p, (reads, writes)))))) in
    ap decode_of (kind_prepared.spelled a) ∙ kind_again kind_prepared a (is.0, (is.1, (is.2, (is.3, (is.4, (is.5, is.6))))))
decode_again (Ended t outcome) is = let a : ℕ × Outcome = (t, outcome) in ap decode_of (kind_ended.spelled a) ∙ kind_again kind_ended a is
decode_again (Ceiling c) is = ap decode_of (kind_ceiling.spelled c) ∙ kind_again kind_ceiling c is
decode_again (Decided t f parts) is = let a : ℕ × (ℕ × List ℕ) = (t, (f, parts)) in ap decode_of (kind_decided.spelled a) ∙ kind_again kind_decided a (is.0, (is.1, is.2))
decode_again (Closed t) is = ap decode_of (kind_closed.spelled t) ∙ kind_again kind_closed t is

-- a test of the tag, and what it leads to
by_tag : (tag n : ℕ) (x y z : Option Record) → cond (eqb tag n) x y ≡ z → ((tag ≡ n) × (x ≡ z)) ⊎ (y ≡ z)
by_tag tag n x y z e = elim (eqb_tells tag n) [
  | inl p ↦ inl (p.1, (rw p.0 at e))
  | inr p ↦ inr (rw p.0 at e)
]

pub decode_takes : (body : List ℕ) (r : Record) → IsBytes body → decode_of body ≡ Some r
    → IsRecord r × (body ≡ record_bytes r)
unfolding decode_of
decode_takes [] r fits e = absurd cc
decode_takes (tag ∷ body) r fits e =
    let rest = IsBytes-rest tag body fits in
    elim (by_tag tag 1 _ _ (Some r) e) [
      | inl p ↦ found tag 1 p.0 (kind_takes kind_prepared body r rest p.1)
      | inr e2 ↦ elim (by_tag tag 2 _ _ (Some r) e2) [
        | inl p ↦ found tag 2 p.0 (kind_takes kind_ended body r rest p.1)
        | inr e3 ↦ elim (by_tag tag 3 _ _ (Some r) e3) [
          | inl p ↦ found tag 3 p.0 (kind_takes kind_ceiling body r rest p.1)
          | inr e4 ↦ elim (by_tag tag 4 _ _ (Some r) e4) [
            | inl p ↦ found tag 4 p.0 (kind_takes kind_decided body r rest p.1)
            | inr e5 ↦ elim (by_tag tag 5 _ _ (Some r) e5) [
              | inl p ↦ found tag 5 p.0 (kind_takes kind_closed body r rest p.1)
              | inr e6 ↦ absurd cc
            ]
          ]
        ]
      ]
    ] where
      found : (n m : ℕ) → n ≡ m → IsRecord r × (m ∷ body ≡ record_bytes r) → IsRecord r × (n ∷ body ≡ record_bytes r)
      found n m same p = (p.0, ap (λ (k : ℕ). k ∷ body) same ∙ p.1)

-- as long as its parts together
pub sum_long : (a b : List ℕ) (m n : ℕ) → length a ≤ m → length b ≤ n → length (a ++ b) ≤ m + n
sum_long a b m n la lb = omega (arith, length-append a b)

prepared_small : (a : PreparedParts) → IsPrepared a → length (prepared_bytes a) ≤ 2406
prepared_small a is =
    let lists : List ℕ = keys_bytes a.1.1.1.1.1.0 ++ writes_bytes a.1.1.1.1.1.1 in
    let with_p : List ℕ = eight_bytes a.1.1.1.1.0 ++ lists in
    let with_sid : List ℕ = eight_bytes a.1.1.1.0 ++ with_p in
    let with_parts : List ℕ = nodes_bytes a.1.1.0 ++ with_sid in
    let with_home : List ℕ = (a.1.0 ∷ []) ++ with_parts in
    let six : length lists ≤ 2370 = sum_long (keys_bytes a.1.1.1.1.1.0) (writes_bytes a.1.1.1.1.1.1) 1057 1313 (keys_small a.1.1.1.1.1.0 is.1.1.1.1.1.0) (writes_small a.1.1.1.1.1.1 is.1.1.1.1.1.1) in
    let five : length with_p ≤ 2378 = sum_long (eight_bytes a.1.1.1.1.0) lists 8 2370 (omega (arith, length-eight_bytes a.1.1.1.1.0)) six in
    let four : length with_sid ≤ 2386 = sum_long (eight_bytes a.1.1.1.0) with_p 8 2378 (omega (arith, length-eight_bytes a.1.1.1.0)) five in
    let three : length with_parts ≤ 2403 = sum_long (nodes_bytes a.1.1.0) with_sid 17 2386 (nodes_small a.1.1.0 is.1.1.0) four in
    let two : length with_home ≤ 2404 = sum_long (a.1.0 ∷ []) with_parts 1 2403 (omega arith) three in
    sum_long (two_bytes a.0) with_home 2 2404 (omega (arith, length-two_bytes a.0)) two

-- no record has more than 2,407 bytes
pub record_small : (r : Record) → IsRecord r → length (record_bytes r) ≤ 2407
unfolding record_bytes IsRecord
record_small (Prepared t home parts sid p reads writes) is =
    let a : PreparedParts = (t, (home, (parts, (sid, (p, (reads, writes)))))) in
    omega (arith, ap length (kind_prepared.spelled a), prepared_small a (is.0, (is.1, (is.2, (is.3, (is.4, (is.5, is.6)))))))
record_small (Ended t outcome) is = omega (arith, length-append {A = ℕ}, length-two_bytes t, outcome_small outcome)
record_small (Ceiling c) is = omega (arith, length-append {A = ℕ}, length-eight_bytes c)
record_small (Decided t f parts) is =
    let a : ℕ × (ℕ × List ℕ) = (t, (f, parts)) in
    omega (arith, ap length (kind_decided.spelled a), length-append (two_bytes t) (eight_bytes f ++ nodes_bytes parts), length-append (eight_bytes f) (nodes_bytes parts), length-two_bytes t, length-eight_bytes f, nodes_small parts is.2)
record_small (Closed t) is = omega (arith, length-append {A = ℕ}, length-two_bytes t)
