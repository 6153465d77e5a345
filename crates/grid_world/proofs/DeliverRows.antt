-- A delivery, and a message that is dropped.
use Rattle.std.proofs.Common.{◌≡◌, ℕ, ◌<◌, true, false, List, [], ◌∷◌, Option, Some, None, is_some, refl, sym, ap, subst, ◌∙◌}
use Rattle.score_disk.specs.declared.disk.Disk.{Ghosts}
use Rattle.grid_model.specs.declared.acts.Act.{Act}
use Rattle.grid_model.specs.declared.acts.Act.TheVariants as act
use Rattle.grid_model.specs.declared.events.Event.{Event}
use Rattle.grid_model.specs.declared.events.Event.TheVariants as event
use Rattle.grid_model.specs.declared.items.Item.{Item}
use Rattle.grid_model.specs.declared.items.Item.TheVariants as item
use Rattle.grid_model.specs.declared.messages.Envelope.{Envelope}
use Rattle.grid_model.specs.declared.voids.Void.TheVariants as void
use Rattle.grid_model.specs.Cuts.{cut}
use Rattle.grid_model.specs.Documents.{DocumentData, IsOne}
use Rattle.grid_model.specs.Histories.{after, sent, sent_at}
use Rattle.grid_model.specs.Nodes.{node}
use Rattle.grid_model.specs.Schedules.{Choice, row, deliver_on, drop_row}
use Rattle.grid_model.specs.States.{state_of}
use Rattle.grid_model.specs.Voids.{voided}
use Rattle.grid_laws.specs.CalmRuns.{calm}
use Rattle.grid_world.proofs.ForCode.{cut-one, deliver-comes, deliver-row, dropped-unmoved, missed-unmoved, sent-step}
use Rattle.sent_list.specs.SentLists.{ShowsSent, with_gone}
use Rattle.grid_hosts.specs.declared.hosts.Host.{Host}
use Rattle.host_laws.specs.Standing.{HostStands}
use Rattle.grid_world.specs.declared.worlds.World.{World}
use Rattle.grid_world.specs.Follows.{CanPlaySome, Delivers, Follows, Plays}
use Rattle.grid_world.specs.Worlds.{CanRun, HasTold, PlaysBehind, host_at, is_up_in}
use Rattle.grid_world.proofs.Known.{follows-few, follows-generation, follows-host, follows-run, follows-up, up-standing}
use Rattle.grid_world.proofs.QuietRows.{quiet-follows, void-plays}
use Rattle.grid_world.proofs.RanRows.{IsRow, ran-plays}
use Rattle.grid_world.proofs.Receivers.{IsNode, receiver-node}

-- the delivery of a message
abbrev pub delivery : Envelope → Event
delivery x = event.Deliver x.from x.message

module _ {D : Type 0} {g : Ghosts D} where
  -- the world where message m was taken away
  abbrev pub taken : ℕ → World D g → World D g
  taken m w = record w { network = with_gone m w.network }

  -- the row of an item is that of a delivery of message m
  abbrev pub IsDelivery : DocumentData → World D g → Item → ℕ → Type 0
  IsDelivery d w i m = (past : List Act) (c : Choice) → ShowsSent w.network past → row d past i c ≡ row d past (item.Deliver m) c

  -- ---- it was not sent

  pub unsent-delivers : (d : DocumentData) (m : ℕ) (w w' : World D g) → sent_at m w.network.sent ≡ None
      → HasTold d (voided void.NotSent) w w' → Delivers d m w w' (voided void.NotSent)
  unsent-delivers d m w w' none told = λ i is. void-plays d i w w' void.NotSent told
      (λ e h given one f next.
      is (after [] h) calm f.sent
      ∙ ap (deliver_on d (state_of d (after [] h)) calm m) (ap (sent_at m) (sym f.sent.sent) ∙ none))

  pub undropped-plays : (d : DocumentData) (m : ℕ) (w w' : World D g) → is_some (sent_at m w.network.sent) ≡ false
      → HasTold d (voided void.NotSent) w w' → Plays d (item.Drop m) w w' (voided void.NotSent)
  undropped-plays d m w w' none told = void-plays d (item.Drop m) w w' void.NotSent told
      (λ e h given one f next. ap (drop_row m) (ap (sent_at m) (sym f.sent.sent) ∙ no (sent_at m w.network.sent) none))
    where
      no : (o : Option Envelope) → is_some o ≡ false → o ≡ None
      no None e = refl
      no (Some x) e = cc

  -- ---- it is taken away

  pub dropped-plays : (d : DocumentData) (m : ℕ) (w w' : World D g) → is_some (sent_at m w.network.sent) ≡ true
      → HasTold d (act.Dropped m ∷ []) (taken m w) w' → Plays d (item.Drop m) w w' (act.Dropped m ∷ [])
  dropped-plays d m w w' some told = λ e h given one f next few.
      let there : is_some (sent_at m (sent (after [] h))) ≡ true = ap (λ ms. is_some (sent_at m ms)) (sym f.sent.sent) ∙ some in
      let is : act.Dropped m ∷ [] ≡ row d (after [] h) (item.Drop m) calm = sym (was (sent_at m (sent (after [] h))) there) in (
        calm,
        is,
        quiet-follows d (item.Drop m) w (taken m w) w' (act.Dropped m ∷ []) calm e h given
            (record {
              hosts = refl;
              tally = refl;
              keeps = record { rest = refl; given_up = refl };
              told = told;
              quiet = refl;
              others = λ past n. dropped-unmoved d past m n;
            }) f next is
            (sent-step w.network (after [] h) (act.Dropped m) f.sent there),
      )
    where
      was : (o : Option Envelope) → is_some o ≡ true → drop_row m o ≡ act.Dropped m ∷ []
      was None e = cc
      was (Some x) e = refl

  pub missed-delivers : (d : DocumentData) (m : ℕ) (x : Envelope) (w w' : World D g)
      → sent_at m w.network.sent ≡ Some x → is_up_in w x.to ≡ false
      → HasTold d (act.Missed m ∷ []) (taken m w) w' → Delivers d m w w' (act.Missed m ∷ [])
  missed-delivers d m x w w' at down told = λ i same e h given one f next few.
      let there : sent_at m (sent (after [] h)) ≡ Some x = ap (sent_at m) (sym f.sent.sent) ∙ at in
      let r : IsNode d.cluster.nodes x.to = receiver-node (cut e d) h m x (cut-one d e one) (follows-run d e h given w f) there in
      let down' : (node d (after [] h) x.to).up ≡ false = sym (follows-up d e h given w x.to f r.least r.most) ∙ down in
      let is : act.Missed m ∷ [] ≡ row d (after [] h) i calm =
      sym (same (after [] h) calm f.sent ∙ ap (deliver_on d (state_of d (after [] h)) calm m) there ∙ rw down' refl) in (
        calm,
        is,
        quiet-follows d i w (taken m w) w' (act.Missed m ∷ []) calm e h given
            (record {
              hosts = refl;
              tally = refl;
              keeps = record { rest = refl; given_up = refl };
              told = told;
              quiet = refl;
              others = λ past n. missed-unmoved d past m n;
            }) f next is
            (sent-step w.network (after [] h) (act.Missed m) f.sent (ap is_some there)),
      )

  -- ---- its receiver plays it

  -- the receiver can play it
  pub deliver-runs : (d : DocumentData) (m : ℕ) (x : Envelope) (w : World D g) → CanPlaySome d w
      → sent_at m w.network.sent ≡ Some x → is_up_in w x.to ≡ true → CanRun d x.to (delivery x) (taken m w)
  deliver-runs d m x w some at up =
      let can = some.can in
      let f = can.follows in
      let run = follows-run d can.e can.h can.given w f in
      let there : sent_at m (sent (after [] can.h)) ≡ Some x = ap (sent_at m) (sym f.sent.sent) ∙ at in
      let r : IsNode d.cluster.nodes x.to = receiver-node (cut can.e d) can.h m x (cut-one d can.e can.one) run there in
      let y : (y : Host D g) × (host_at w x.to ≡ Some y) × HostStands d (after [] can.h) x.to y =
      follows-host d can.e can.h can.given w x.to f r.least r.most in
      record {
        past = after [] can.h;
        m = m;
        host = y.0;
        at = y.1;
        stands = y.2;
        up = up-standing w x.to y.0 up y.1;
        comes = deliver-comes (cut can.e d) (cut can.e d).items can.h m x run there;
        e = can.e;
        generation = follows-generation d can.e can.h can.given w x.to f r.least r.most;
        few = follows-few d can.e can.h can.given w f can.few;
        short = can.few;
        sent = f.sent.sent;
      }

  deliver-is-row : (d : DocumentData) (m : ℕ) (x : Envelope) (w : World D g) (i : Item) (e : ℕ) (h : List Act)
      (given : List D) → IsDelivery d w i m → sent_at m w.network.sent ≡ Some x → is_up_in w x.to ≡ true → IsOne d
      → Follows d e h given w → e < 50000 → IsRow d i w (taken m w) x.to m (delivery x) e h
  deliver-is-row d m x w i e h given same at up one f few =
      let run = follows-run d e h given w f in
      let there : sent_at m (sent (after [] h)) ≡ Some x = ap (sent_at m) (sym f.sent.sent) ∙ at in
      let r : IsNode d.cluster.nodes x.to = receiver-node (cut e d) h m x (cut-one d e one) run there in
      let up' : (node d (after [] h) x.to).up ≡ true = sym (follows-up d e h given w x.to f r.least r.most) ∙ up in
      record {
        row = λ c. same (after [] h) c f.sent ∙ deliver-row d (after [] h) m x c there up';
        comes = deliver-comes (cut e d) (cut e d).items h m x run there;
        least = r.least;
        most = r.most;
        few = follows-few d e h given w f few;
        sent = sent-step w.network (after [] h) (act.Got m) f.sent (ap is_some there);
      }

  pub deliver-delivers : (d : DocumentData) (m : ℕ) (x : Envelope) (w w' : World D g) (acts : List Act)
      → sent_at m w.network.sent ≡ Some x → is_up_in w x.to ≡ true
      → PlaysBehind d (act.Got m ∷ []) x.to (delivery x) (taken m w) w' acts → Delivers d m w w' acts
  deliver-delivers d m x w w' acts at up p = λ i same.
      subst (Plays d i w w') (sym p.are)
      (ran-plays d i w (taken m w) p.mid w' x.to m (delivery x) p.more
      (record {
        hosts = refl;
        tally = refl;
        keeps = record { rest = refl; given_up = refl };
        played = p.played;
        told = p.told;
        id = p.played.moved.turned.id;
      })
      (up-standing (taken m w) x.to p.played.moved.before up p.played.moved.at) (λ e. cc)
      (λ e h given one f next few. deliver-is-row d m x w i e h given same at up one f few))
