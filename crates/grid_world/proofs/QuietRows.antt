-- An event in which no disk has a part.
use Rattle.std.proofs.Common.{◌≡◌, ℕ, ◌+◌, List, [], ◌∷◌, ◌++◌, length, IsTrue, refl, sym, ap, ◌∙◌}
use Rattle.std.specs.List.{list_all}
use Rattle.score_disk.specs.declared.disk.Disk.{Ghosts}
use Rattle.grid_model.specs.declared.acts.Act.{Act}
use Rattle.grid_model.specs.declared.acts.Act.TheVariants as act
use Rattle.grid_model.specs.declared.items.Item.{Item}
use Rattle.grid_model.specs.declared.voids.Void.{Void}
use Rattle.grid_model.specs.Documents.{DocumentData, IsOne}
use Rattle.grid_model.specs.Histories.{after}
use Rattle.grid_model.specs.Schedules.{Choice, row}
use Rattle.grid_model.specs.Voids.{void_code, voided}
use Rattle.grid_world.proofs.ForCode.{after-append, quiet-more, sent-step, unmoved-same, void-unmoved}
use Rattle.grid_laws.specs.CalmRuns.{calm}
use Rattle.disk_laws.specs.DiskActs.{is_quiet}
use Rattle.view_laws.specs.Unmoved.{IsUnmoved}
use Rattle.run_tally.specs.Tallies.{TallyData, TallyStart, TallyStep, tally_after, tally_of}
use Rattle.sent_list.specs.SentLists.{ShowsSent}
use Rattle.host_laws.specs.Follows.{IsNext}
use Rattle.grid_world.specs.declared.worlds.World.{World}
use Rattle.grid_world.specs.Follows.{Follows, Plays, owns}
use Rattle.grid_world.specs.Worlds.{HasRoom, HasTold, KeepsRest}

-- the tally of more acts
tally-append : (d : DocumentData) (x : TallyData) (xs ys : List Act)
    → tally_after d x (xs ++ ys) ≡ tally_after d (tally_after d x xs) ys
tally-append d x [] ys = refl
tally-append d x (a ∷ xs) ys = tally-append d (TallyStep d x a) xs ys

pub tally-more : (d : DocumentData) (h acts : List Act) (was now : TallyData) → was ≡ tally_of d h
    → now ≡ tally_after d was acts → now ≡ tally_of d (h ++ acts)
tally-more d h acts was now e f = f ∙ ap (λ x. tally_after d x acts) e ∙ sym (tally-append d (TallyStart d) h acts)

module _ {D : Type 0} {g : Ghosts D} where
  -- ---- the disks that are no node's

  pub keeps-both : (w mid w' : World D g) → KeepsRest w mid → KeepsRest mid w' → KeepsRest w w'
  keeps-both w mid w' a b = record { rest = b.rest ∙ a.rest; given_up = b.given_up ∙ a.given_up }

  pub keeps-room : (w w' : World D g) → KeepsRest w w' → length w'.hosts.items ≡ length w.hosts.items → HasRoom w
      → HasRoom w'
  keeps-room w w' k same r = record {
    none = ap (λ x. x.items) k.given_up ∙ r.none;
    room = rw (k.given_up, ap (λ x. length x.items) k.rest, same) r.room;
  }

  -- ---- the world behind quiet acts

  -- What leaves every node: quiet acts of the row of an item, which the tally took behind a change of the messages alone.
  pub record IsQuietRow (d : DocumentData) (w mid w' : World D g) (acts : List Act) : Type 0 where
    pub hosts : mid.hosts ≡ w.hosts
    pub tally : mid.tally ≡ w.tally
    pub keeps : KeepsRest w mid
    pub told : HasTold d acts mid w'
    pub quiet : IsTrue (list_all is_quiet acts)
    pub others : (past : List Act) (m : ℕ) → IsUnmoved d past (after past acts) m

  pub quiet-follows : (d : DocumentData) (i : Item) (w mid w' : World D g) (acts : List Act) (c : Choice) (e : ℕ)
      (h : List Act) (given : List D) → IsQuietRow d w mid w' acts → Follows d e h given w → IsNext d e i
      → acts ≡ row d (after [] h) i c → ShowsSent mid.network (after (after [] h) acts)
      → Follows d (e + 1) (h ++ acts) given w'
  quiet-follows d i w mid w' acts c e h given q f next is sent =
      let same : w'.hosts ≡ w.hosts = q.told.hosts ∙ q.hosts in
      let keeps : KeepsRest w w' = keeps-both w mid w' q.keeps q.told.keeps in
      record {
        hosts = rw same
            (quiet-more d e h (owns g given) w.hosts.items i c acts f.hosts next is q.quiet (q.others (after [] h)));
        sent = rw (q.told.network, after-append [] h acts) sent;
        tally = tally-more d h acts w.tally w'.tally f.tally (q.told.tally ∙ ap (λ x. tally_after d x acts) q.tally);
        seats = f.seats;
        rest = ap (λ x. x.items) keeps.rest ∙ f.rest;
        room = keeps-room w w' keeps (ap (λ x. length x.items) same) f.room;
      }

  told-row : (d : DocumentData) (w w' : World D g) (acts : List Act) → HasTold d acts w w'
      → IsTrue (list_all is_quiet acts) → ((past : List Act) (m : ℕ) → IsUnmoved d past (after past acts) m)
      → IsQuietRow d w w w' acts
  told-row d w w' acts t quiet others = record {
    hosts = refl;
    tally = refl;
    keeps = record { rest = refl; given_up = refl };
    told = t;
    quiet = quiet;
    others = others;
  }

  -- an event that is void
  pub void-plays : (d : DocumentData) (i : Item) (w w' : World D g) (why : Void) → HasTold d (voided why) w w'
      → ((e : ℕ) (h : List Act) (given : List D) → IsOne d → Follows d e h given w → IsNext d e i
      → row d (after [] h) i calm ≡ voided why) → Plays d i w w' (voided why)
  void-plays d i w w' why t is = λ e h given one f next few. (
    calm,
    sym (is e h given one f next),
    quiet-follows d i w w w' (voided why) calm e h given
        (told-row d w w' (voided why) t refl (λ past m. void-unmoved d past (void_code why) m)) f next
        (sym (is e h given one f next))
        (sent-step w.network (after [] h) (act.Void (void_code why)) f.sent refl),
  )

  -- an event without an act
  pub none-plays : (d : DocumentData) (i : Item) (w : World D g)
      → ((e : ℕ) (h : List Act) (given : List D) → IsOne d → Follows d e h given w → IsNext d e i
      → row d (after [] h) i calm ≡ []) → Plays d i w w []
  none-plays d i w is = λ e h given one f next few. (
    calm,
    sym (is e h given one f next),
    quiet-follows d i w w w [] calm e h given
        (told-row d w w [] (record { hosts = refl; network = refl; tally = refl; keeps = record { rest = refl; given_up = refl } }) refl
        (λ past m. unmoved-same d past m)) f next
        (sym (is e h given one f next)) f.sent,
  )
