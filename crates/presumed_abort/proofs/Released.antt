-- A change that is made while its transaction is away: nothing is left of the taking away.
use Rattle.std.proofs.Common.{◌≡◌, ℕ, nat_eq, true, List, [], ◌∷◌, Option, Some, None, refl, sym, ap, subst, ◌∙◌, arith}
use Rattle.std.specs.Prelude.{is_some, IfSome, IfNone}
use Rattle.std.specs.Map.{lookup}
use Rattle.std.proofs.lemmas.Bool.Decides.{nat_tests}
use Rattle.indexmap.specs.IndexMap.{insert_entry}
use Rattle.score_base.specs.declared.ids.TxId.{TxId}
use Rattle.score_base.specs.declared.ids.NodeId.{NodeId}
use Rattle.placement.specs.Clusters.{ClusterData}
use Rattle.grid_model.specs.declared.events.Out.{Out}
use Rattle.grid_model.specs.declared.messages.ReadReq.{ReadReq}
use Rattle.presumed_abort.specs.declared.states.Reading.{Reading}
use Rattle.presumed_abort.specs.declared.stands.Stand.{Stand}
use Rattle.presumed_abort.specs.declared.stands.Stand.TheVariants as stand
use Rattle.presumed_abort.specs.Stands.{standing}
use Rattle.presumed_abort.specs.Turns.{Change, Stays, Keeps, Goes, Makes, changed, Turn, waits_as}
use Rattle.presumed_abort.specs.declared.turns.Turn.{Turn as StateTurn}
use Rattle.presumed_abort.specs.Becoming.{change_of}
use Rattle.presumed_abort.specs.Typed.{change_then, turn_of}
use Rattle.presumed_abort.specs.Dues.{IsDone}
use Rattle.presumed_abort.specs.Replies.{request_sent}
use Rattle.presumed_abort.specs.Retries.{turned, asked_again}
use Rattle.presumed_abort.proofs.Inserts.{inserted-twice, removed-twice}

pub released :
    (t : TxId) (x : Change) (desk : List (TxId × Stand))
    → Makes x → is_some (standing desk t) ≡ true → changed t x (changed t (Keeps stand.Away) desk) ≡ changed t x desk
released t Stays desk makes there = absurd makes
released t (Keeps s) desk makes there = inserted-twice t stand.Away s desk
released t Goes desk makes there = removed-twice t stand.Away desk there

-- what stands somewhere makes its change
pub of-makes : (o : Option Stand) → Makes (change_of o)
of-makes None = tt
of-makes (Some s) = tt

pub changed-over :
    (t : TxId) (x : Change) (desk away new : List (TxId × Stand))
    → Makes x → is_some (standing desk t) ≡ true → away ≡ changed t (Keeps stand.Away) desk → new ≡ changed t x away
    → new ≡ changed t x desk
changed-over t x desk away new makes there a n = n ∙ ap (changed t x) a ∙ released t x desk makes there

-- what stands there may be written there
inserted-there :
    {A : Type 0} (t : ℕ) (s : A) (es : List (ℕ × A)) → lookup (nat_eq t) es ≡ Some s → insert_entry nat_eq es t s ≡ es
inserted-there t s [] is = absurd (grind (arith, is))
inserted-there t s (e ∷ es) is = grind (arith, nat_tests, is, inserted-there t s es)

pub put-back :
    (t : TxId) (s : Stand) (desk away new : List (TxId × Stand))
    → standing desk t ≡ Some s → away ≡ changed t (Keeps stand.Away) desk → new ≡ insert_entry nat_eq away t s
    → new ≡ desk
put-back t s desk away new is a n =
    n ∙ ap (λ es. insert_entry nat_eq es t s) a ∙ inserted-twice t stand.Away s desk ∙ inserted-there t s desk is

-- a turn that gives nothing, and its transaction stands so
pub waits-done :
    (x : Turn) (t : TxId) (s : Stand) (desk away new : List (TxId × Stand)) (outs : List Out)
    → x ≡ waits_as s → is_some (standing desk t) ≡ true → away ≡ changed t (Keeps stand.Away) desk
    → new ≡ insert_entry nat_eq away t s → outs ≡ []
    → IsDone x t desk new outs
waits-done x t s desk away new outs is there a n o =
    record {
      outs_are = o ∙ sym (ap (λ y. y.outs) is);
      none = ap (λ y. y.rec) is;
      desk =
          changed-over t (Keeps s) desk away new tt there a n
          ∙ ap (λ c. changed t c desk) (sym (ap (λ y. y.change) is));
    }

-- a turn that gives these outs, and its transaction is taken out
pub gone-done :
    (x : Turn) (t : TxId) (desk away new : List (TxId × Stand)) (given outs : List Out)
    → x ≡ record { outs = given; change = Goes; rec = None }
    → is_some (standing desk t) ≡ true → away ≡ changed t (Keeps stand.Away) desk → new ≡ changed t Goes away
    → outs ≡ given
    → IsDone x t desk new outs
gone-done x t desk away new given outs is there a n o =
    record {
      outs_are = o ∙ sym (ap (λ y. y.outs) is);
      none = ap (λ y. y.rec) is;
      desk =
          changed-over t Goes desk away new tt there a n
          ∙ ap (λ c. changed t c desk) (sym (ap (λ y. y.change) is));
    }

-- a turn of a state whose transaction is put where it goes
pub settled-done :
    (x : Turn) (t : TxId) (y : StateTurn) (o : Option Stand) (desk away new : List (TxId × Stand)) (outs : List Out)
    → turn_of y ≡ x → change_of o ≡ change_then y.goes → is_some (standing desk t) ≡ true
    → away ≡ changed t (Keeps stand.Away) desk → new ≡ changed t (change_of o) away → outs ≡ y.outs.items
    → IsDone x t desk new outs
settled-done x t y o desk away new outs is goes there a n given =
    record {
      outs_are = given ∙ ap (λ z. z.outs) is;
      none = sym (ap (λ z. z.rec) is);
      desk =
          changed-over t (change_of o) desk away new (of-makes o) there a n
          ∙ ap (λ c. changed t c desk) (goes ∙ ap (λ z. z.change) is);
    }

-- a read that was asked for again, and put back
pub asked-done :
    (c : ClusterData) (t : TxId) (r x : Reading) (q : Option (NodeId × ReadReq)) (os : List Out)
    (desk away new : List (TxId × Stand)) (outs : List Out)
    → request_sent q ≡ os → IfSome q (λ p. x ≡ turned c r) → IfNone q (x ≡ r)
    → standing desk t ≡ Some (stand.Reading r) → is_some (standing desk t) ≡ true
    → away ≡ changed t (Keeps stand.Away) desk → new ≡ insert_entry nat_eq away t (stand.Reading x)
    → outs ≡ request_sent q
    → IsDone (asked_again c r os) t desk new outs
asked-done c t r x None os desk away new outs sent some none is there a n o =
    subst (λ ys. IsDone (asked_again c r ys) t desk new outs) sent
    (record {
      outs_are = o;
      none = refl;
      desk =
          put-back t (stand.Reading r) desk away new is a
          (n ∙ ap (λ y. insert_entry nat_eq away t (stand.Reading y)) none);
    })
asked-done c t r x (Some p) os desk away new outs sent some none is there a n o =
    subst (λ ys. IsDone (asked_again c r ys) t desk new outs) sent
    (record {
      outs_are = o;
      none = refl;
      desk =
          changed-over t (Keeps (stand.Reading (turned c r))) desk away new tt there a
          (n ∙ ap (λ y. insert_entry nat_eq away t (stand.Reading y)) some);
    })
