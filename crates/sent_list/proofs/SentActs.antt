-- What the list tells behind acts.
use Rattle.std.proofs.Common.{◌≡◌, ℕ, ◌+◌, ◌-◌, ◌^◌, ◌<◌, ◌≤◌, ◌&&◌, ◌||◌, ◌==◌, zero, suc, Bool, true, false, List, [], ◌∷◌, ◌++◌, ◌∙◌, length, map, None, is_some, refl, sym, ap, subst, arith, slice_get, length-append, if◌then◌else◌}
use Rattle.std.specs.List.{list_all}
use Rattle.std.proofs.lemmas.List.{append_assoc, append-nil, length-set}
use Rattle.grid_model.specs.declared.acts.Act.{Act}
use Rattle.grid_model.specs.declared.acts.Act.TheVariants as act
use Rattle.grid_model.specs.declared.events.Out.{Out}
use Rattle.grid_model.specs.declared.events.Out.TheVariants as out
use Rattle.grid_model.specs.declared.messages.Envelope.{Envelope}
use Rattle.grid_model.specs.Histories.{after, sent, sent_at, is_gone}
use Rattle.grid_model.specs.Schedules.{numbered}
use Rattle.node_core.specs.Links.{posts}
use Rattle.sent_list.specs.SentLists.{SentData, SentStep, ShowsSent, IsKept, is_marked, marked, with_sent, takes_sent, is_silent, sends_or_silent}
use Rattle.sent_list.proofs.GoneMarks.{marked_one, marked_more, passed_more, not_zero, set_suc}

-- ---- one act more

get_inside : (ms : List Envelope) (i : ℕ) → is_some (slice_get ms i) ≡ true → i < length ms
get_inside [] i e = absurd (grind (arith, e))
get_inside (m ∷ ms) zero e = omega arith
get_inside (m ∷ ms) (suc i) e = let under = get_inside ms i e in omega (arith, under)

at_suc : (ms : List Envelope) (i : ℕ) → sent_at (suc i) ms ≡ slice_get ms i
at_suc ms i =
    let back : suc i - 1 ≡ i = omega arith in
    ap (λ b. if b then None else slice_get ms (suc i - 1)) (not_zero i) ∙ ap (slice_get ms) back

-- a message that was sent has a number from 1 on
inside : (m : ℕ) (ms : List Envelope) → is_some (sent_at m ms) ≡ true → m ≤ length ms
inside zero ms e = omega arith
inside (suc i) ms e =
    let under = get_inside ms i (subst (λ o. is_some o ≡ true) (at_suc ms i) e) in omega (arith, under)

not_none : (m : ℕ) (ms : List Envelope) → is_some (sent_at m ms) ≡ true → 1 ≤ m
not_none zero ms e = absurd (grind (arith, e))
not_none (suc i) ms e = omega arith

length-marked : (m : ℕ) (marks : List Bool) → length (marked m marks) ≡ length marks
length-marked zero marks = refl
length-marked (suc i) marks = ap length (set_suc marks i) ∙ length-set marks i true

shows-gone : (x : SentData) (past : List Act) (m : ℕ) → ShowsSent x past → is_some (sent_at m (sent past)) ≡ true
    → (k : ℕ) → is_marked (marked m x.gone) k ≡ ((m == k) || is_gone past k)
shows-gone x past m shows is k =
    let few : m ≤ length x.gone = omega (arith, inside m (sent past) is, ap length shows.sent, shows.marks) in
    marked_one x.gone m k (not_none m (sent past) is) few ∙ ap (λ b. (m == k) || b) (shows.gone k)

length_unmarked : (ms : List Envelope) → length (map (λ (m : Envelope). false) ms) ≡ length ms
length_unmarked [] = refl
length_unmarked (m ∷ ms) = ap suc (length_unmarked ms)

shows-sent : (x : SentData) (past : List Act) (ms : List Envelope) → ShowsSent x past
    → length (with_sent ms x).gone ≡ length (with_sent ms x).sent
shows-sent x past ms shows =
    omega (arith, length-append x.sent ms, length-append x.gone (map (λ m. false) ms), length_unmarked ms, shows.marks)

shows-one : (x : SentData) (past : List Act) (e : Envelope) → ShowsSent x past
    → ShowsSent (with_sent (e ∷ []) x) (act.Sent 0 e.from e.to e.message ∷ past)
shows-one x past e shows = record {
  marks = shows-sent x past (e ∷ []) shows;
  sent = ap (λ ms. ms ++ e ∷ []) shows.sent;
  gone = λ k. marked_more x.gone (e ∷ []) k ∙ shows.gone k;
}

pub sent-step : (x : SentData) (past : List Act) (a : Act) → ShowsSent x past → takes_sent (sent past) a ≡ true
    → ShowsSent (SentStep a x) (a ∷ past)
sent-step x past (act.Sent m y z said) shows is =
    let e : Envelope = record { from = y; to = z; message = said } in
    let shown = shows-one x past e shows in
    record { marks = shown.marks; sent = shown.sent; gone = shown.gone }
sent-step x past (act.Got m) shows is = record { marks = length-marked m x.gone ∙ shows.marks; sent = shows.sent; gone = shows-gone x past m shows is }
sent-step x past (act.Missed m) shows is = record { marks = length-marked m x.gone ∙ shows.marks; sent = shows.sent; gone = shows-gone x past m shows is }
sent-step x past (act.Dropped m) shows is = record { marks = length-marked m x.gone ∙ shows.marks; sent = shows.sent; gone = shows-gone x past m shows is }
sent-step x past a shows is = record { marks = shows.marks; sent = shows.sent; gone = shows.gone }

-- what is kept beside the list, behind messages more
pub kept_more : (ms more : List Envelope) (marks : List Bool) (cursor : ℕ) → IsKept ms marks cursor
    → length ms + length more < 2 ^ 32 → IsKept (ms ++ more) (marks ++ map (λ m. false) more) cursor
kept_more ms more marks cursor kept few = record {
  even = omega (arith, length-append ms more, length-append marks (map (λ m. false) more), length_unmarked more, kept.even);
  few = omega (arith, length-append ms more, few);
  behind = kept.behind ∙ sym (passed_more marks more);
}

-- ---- the acts of a node's outs

silent_sent : (a : Act) (past : List Act) → is_silent a ≡ true → sent (a ∷ past) ≡ sent past
silent_sent (act.Sent m y z said) past e = absurd (grind (arith, e))
silent_sent a past e = refl

silent_gone : (a : Act) (past : List Act) (k : ℕ) → is_silent a ≡ true → is_gone (a ∷ past) k ≡ is_gone past k
silent_gone (act.Got m) past k e = absurd (grind (arith, e))
silent_gone (act.Missed m) past k e = absurd (grind (arith, e))
silent_gone (act.Dropped m) past k e = absurd (grind (arith, e))
silent_gone a past k e = refl

both : (b c : Bool) → (b && c) ≡ true → (b ≡ true) × (c ≡ true)
both true true is = (refl, refl)
both true false is = absurd (grind (arith, is))
both false c is = absurd (grind (arith, is))

sent-outs : (m n : ℕ) (os : List Out) (past : List Act) → list_all sends_or_silent os ≡ true
    → sent (after past (numbered m n os)) ≡ sent past ++ posts n os
sent-outs m n [] past e = sym (append-nil (sent past))
sent-outs m n (out.Act a ∷ os) past e =
    let known = both (is_silent a) (list_all sends_or_silent os) e in
    sent-outs m n os (a ∷ past) known.1 ∙ ap (λ ms. ms ++ posts n os) (silent_sent a past known.0)
sent-outs m n (out.Send to said ∷ os) past e =
    sent-outs (m + 1) n os (act.Sent m n to said ∷ past) e
    ∙ append_assoc (sent past) (record { from = n; to = to; message = said } ∷ []) (posts n os)

gone-outs : (m n : ℕ) (os : List Out) (past : List Act) (k : ℕ) → list_all sends_or_silent os ≡ true
    → is_gone (after past (numbered m n os)) k ≡ is_gone past k
gone-outs m n [] past k e = refl
gone-outs m n (out.Act a ∷ os) past k e =
    let known = both (is_silent a) (list_all sends_or_silent os) e in
    gone-outs m n os (a ∷ past) k known.1 ∙ silent_gone a past k known.0
gone-outs m n (out.Send to said ∷ os) past k e = gone-outs (m + 1) n os (act.Sent m n to said ∷ past) k e

pub shows-outs : (x : SentData) (past : List Act) (m n : ℕ) (os : List Out) → ShowsSent x past
    → list_all sends_or_silent os ≡ true → ShowsSent (with_sent (posts n os) x) (after past (numbered m n os))
shows-outs x past m n os shows e = record {
  marks = shows-sent x past (posts n os) shows;
  sent = ap (λ ms. ms ++ posts n os) shows.sent ∙ sym (sent-outs m n os past e);
  gone = λ k. marked_more x.gone (posts n os) k ∙ shows.gone k ∙ sym (gone-outs m n os past k e);
}
