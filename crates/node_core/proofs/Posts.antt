-- The messages and the acts of one out more.
use Rattle.std.proofs.Common.{◌≡◌, ℕ, ◌+◌, ◌≤◌, List, [], ◌∷◌, ◌++◌, length, ◌<◌, ◌^◌, ◌∙◌, refl, sym, ap, arith}
use Rattle.std.proofs.lemmas.List.{length-append, append_assoc}
use Rattle.score_base.specs.declared.ids.NodeId.{NodeId}
use Rattle.grid_model.specs.declared.acts.Act.{Act}
use Rattle.grid_model.specs.declared.events.Out.{Out}
use Rattle.grid_model.specs.declared.events.Out.TheVariants as out
use Rattle.grid_model.specs.declared.messages.Envelope.{Envelope}
use Rattle.grid_model.specs.Schedules.{numbered}
use Rattle.node_core.specs.Links.{posts, IsFrontSent}

pub posts_more : (n : NodeId) (o : Out) (os : List Out) → posts n (o ∷ os) ≡ posts n (o ∷ []) ++ posts n os
posts_more n (out.Act a) os = refl
posts_more n (out.Send to said) os = refl

pub numbered_more : (m : ℕ) (n : NodeId) (o : Out) (os : List Out)
    → numbered m n (o ∷ os) ≡ numbered m n (o ∷ []) ++ numbered (m + length (posts n (o ∷ []))) n os
numbered_more m n (out.Act a) os = ap (λ k. a ∷ numbered k n os) (sym (grind arith))
numbered_more m n (out.Send to said) os = refl

tail : List Envelope → List Envelope
tail [] = []
tail (x ∷ xs) = xs

head : Envelope → List Envelope → Envelope
head d [] = d
head d (x ∷ xs) = x

more : (o x : Envelope) (all os xs : List Envelope) → x ≡ o → IsFrontSent all os xs → IsFrontSent all (o ∷ os) (x ∷ xs)
more o x all os xs is sent =
    record { front = sent.front; rest = sent.rest; whole = sent.whole; sent = rw (is, sent.sent) refl }

-- what was sent is a front, where what is left to be sent makes it whole
pub front_of : (before all now left : List Envelope) → now ++ left ≡ before ++ all → length before ≤ length now
    → IsFrontSent all before now
unfolding head tail
front_of [] all now left whole older = record { front = now; rest = left; whole = sym whole; sent = refl }
front_of (o ∷ os) all [] left whole older = absurd (grind (arith, older))
front_of (o ∷ os) all (x ∷ xs) left whole older =
    more o x all os xs (ap (head x) whole) (front_of os all xs left (ap tail whole) (grind (arith, older)))

-- there is a number left for one message more
pub room_one : (n : NodeId) (o : Out) (os items : List Out) (now before all : List Envelope) → items ≡ o ∷ os
    → now ++ posts n items ≡ before ++ all → length before + length all < 2 ^ 32
    → length now + length (posts n (o ∷ [])) < 2 ^ 32
room_one n o os items now before all is whole few =
    let counts : length now + length (posts n items) ≡ length before + length all =
    sym (length-append now (posts n items)) ∙ ap length whole ∙ length-append before all in
    let split : length (posts n items) ≡ length (posts n (o ∷ [])) + length (posts n os) =
    ap (λ xs. length (posts n xs)) is ∙ ap length (posts_more n o os) ∙ length-append (posts n (o ∷ [])) (posts n os) in
    omega (arith, counts, split, few)

pub sent_step : (n : NodeId) (o : Out) (os items : List Out) (now now' before all : List Envelope) → items ≡ o ∷ os
    → now ++ posts n items ≡ before ++ all → now' ≡ now ++ posts n (o ∷ []) → now' ++ posts n os ≡ before ++ all
sent_step n o os items now now' before all is whole one =
    ap (λ xs. xs ++ posts n os) one
    ∙ append_assoc now (posts n (o ∷ [])) (posts n os)
    ∙ ap (λ xs. now ++ xs) (sym (posts_more n o os) ∙ ap (posts n) (sym is))
    ∙ whole

pub acts_step : (n : NodeId) (o : Out) (os items : List Out) (now now' : List Envelope) (act : Act) (acts goal : List Act)
    → items ≡ o ∷ os → now' ≡ now ++ posts n (o ∷ []) → act ∷ [] ≡ numbered (length now + 1) n (o ∷ [])
    → acts ++ numbered (length now + 1) n items ≡ goal
    → (acts ++ act ∷ []) ++ numbered (length now' + 1) n os ≡ goal
acts_step n o os items now now' act acts goal is one act_is told =
    let next : length now' + 1 ≡ (length now + 1) + length (posts n (o ∷ [])) =
    let counts : length now' ≡ length now + length (posts n (o ∷ [])) = ap length one ∙ length-append now (posts n (o ∷ [])) in
    omega (arith, counts) in
    append_assoc acts (act ∷ []) (numbered (length now' + 1) n os)
    ∙ ap (λ xs. acts ++ xs)
    (ap (λ xs. xs ++ numbered (length now' + 1) n os) act_is
    ∙ ap (λ k. numbered (length now + 1) n (o ∷ []) ++ numbered k n os) next
    ∙ sym (numbered_more (length now + 1) n o os)
    ∙ ap (numbered (length now + 1) n) (sym is))
    ∙ told

pub older_step : (before now now' more' : List Envelope) → length before ≤ length now → now' ≡ now ++ more'
    → length before ≤ length now'
older_step before now now' more' older one = omega (arith, older, ap length one ∙ length-append now more')
