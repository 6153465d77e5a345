-- A restart.
use Rattle.std.proofs.Common.{◌≡◌, ℕ, ◌+◌, ◌≤◌, true, false, List, [], ◌∷◌, ◌++◌, drop, Some, refl, sym, ap, subst, ◌∙◌, append_assoc}
use Rattle.score_base.specs.declared.ids.NodeId.{NodeId}
use Rattle.score_disk.specs.declared.disk.Disk.{Ghosts}
use Rattle.grid_model.specs.declared.acts.Act.{Act}
use Rattle.grid_model.specs.declared.acts.Act.TheVariants as act
use Rattle.grid_model.specs.declared.acts.Flag.{Flag}
use Rattle.grid_model.specs.declared.items.Item.{Item}
use Rattle.grid_model.specs.declared.items.Item.TheVariants as item
use Rattle.grid_model.specs.declared.voids.Void.TheVariants as void
use Rattle.grid_model.specs.Cuts.{cut, events, IsCutRun}
use Rattle.grid_model.specs.Documents.{DocumentData, number_order, script_numbers}
use Rattle.grid_model.specs.Histories.{after}
use Rattle.grid_model.specs.Nodes.{node}
use Rattle.grid_model.specs.Schedules.{Choice, losses, opened_row, row}
use Rattle.grid_model.specs.Voids.{voided}
use Rattle.grid_world.proofs.ForCode.{after-append, are-openable, cut-more, here, one-unmoved, opened-unmoved, pass-losses, phases-cut, reopens-behind, run-uncut, sent-step}
use Rattle.sent_list.specs.SentLists.{is_silent}
use Rattle.run_tally.specs.Phases.{losses_in}
use Rattle.run_tally.specs.Tallies.{tally_after, tally_of}
use Rattle.grid_hosts.specs.declared.hosts.Host.{Host}
use Rattle.grid_hosts.specs.declared.hosts.Place.{Place}
use Rattle.grid_hosts.specs.declared.hosts.Place.TheVariants.{Up, Down}
use Rattle.grid_hosts.specs.declared.openings.Restarted.{Restarted}
use Rattle.grid_hosts.specs.declared.openings.Restarted.TheVariants as restarted
use Rattle.grid_hosts.specs.Hosts.{CanOpen, HasRestarted, ReopensAt, is_standing}
use Rattle.host_laws.specs.Standing.{HostStands, Stands}
use Rattle.host_laws.specs.Turns.{RestartedBehind, UpRow}
use Rattle.grid_world.specs.declared.worlds.World.{World}
use Rattle.grid_world.specs.Follows.{CanPlay, Follows, Plays}
use Rattle.grid_world.specs.Worlds.{CanReopen, HasMoved, HasRisen, HasTold, host_at, is_up_in}
use Rattle.grid_world.proofs.Known.{at-most, follows-host, follows-run, follows-up, next-item, up-place}
use Rattle.grid_world.proofs.QuietRows.{tally-more, void-plays}
use Rattle.grid_world.proofs.RanRows.{turn-follows}
use Rattle.grid_world.proofs.SilentActs.{silent_all}
use Rattle.grid_world.proofs.StopRows.{moved-stands, moved-turned}

-- the losses that the tally tells are those of the opening
told_losses : (d : DocumentData) (e : ℕ) (h : List Act) (n : NodeId) (f : Flag) (c : Choice) (later : List Item)
    → IsCutRun d e h → drop e (events d) ≡ item.Restart n ∷ later
    → row d (after [] h) (item.Restart n) c ≡ opened_row d (after [] h) n f
    → losses_in d (tally_of d (h ++ act.Up n f ∷ [])) n ≡ losses d (act.Up n f ∷ after [] h) n
told_losses d e h n f c later run at is =
    let past : List Act = after [] h in
    let whole : IsCutRun d (e + 1) (h ++ opened_row d past n f) =
    subst (λ xs. IsCutRun d (e + 1) (h ++ xs)) is (cut-more d e h (item.Restart n) later c run at) in
    let split : h ++ opened_row d past n f ≡ (h ++ act.Up n f ∷ []) ++ losses d (act.Up n f ∷ past) n =
    sym (append_assoc h (act.Up n f ∷ []) (losses d (act.Up n f ∷ past) n)) in
    (phases-cut d (e + 1) (h ++ act.Up n f ∷ []) (losses d (act.Up n f ∷ past) n) (subst (IsCutRun d (e + 1)) split whole)).losses n
    ∙ ap (λ p. losses d p n) (after-append [] h (act.Up n f ∷ []))

module _ {D : Type 0} {g : Ghosts D} where
  restart_most : (d : DocumentData) (n : NodeId) (w : World D g) → CanPlay d (item.Restart n) w → n ≤ d.cluster.nodes
  restart_most d n w can = at-most n d.cluster.nodes (next-item d can.e (item.Restart n) can.one can.next)

  -- it is up
  pub unneeded-plays : (d : DocumentData) (n : NodeId) (w w' : World D g) → 1 ≤ n → CanPlay d (item.Restart n) w
      → is_up_in w n ≡ true → HasTold d (voided void.IsUp) w w' → Plays d (item.Restart n) w w' (voided void.IsUp)
  unneeded-plays d n w w' least can up told = void-plays d (item.Restart n) w w' void.IsUp told
      (λ e h given one f next.
      let up' : (node d (after [] h) n).up ≡ true = sym (follows-up d e h given w n f least (restart_most d n w can)) ∙ up in
      rw up' refl)

  opens_at : (d : DocumentData) (e : ℕ) (h : List Act) (n : NodeId) (p : Place D g) → IsCutRun d e h
      → Stands d (after [] h) n p → CanOpen n d.cluster p
  opens_at d e h n (Up x) run s = tt
  opens_at d e h n (Down first second fall) run s =
      are-openable d (cut e d).items h n first second fall (run-uncut d e h run) s

  -- a node that is down can be opened
  pub restart-opens : (d : DocumentData) (n : NodeId) (w : World D g) → 1 ≤ n → CanPlay d (item.Restart n) w
      → CanReopen d n w
  restart-opens d n w least can =
      let f = can.follows in
      let x : (x : Host D g) × (host_at w n ≡ Some x) × HostStands d (after [] can.h) n x =
      follows-host d can.e can.h can.given w n f least (restart_most d n w can) in
      record {
        host = x.0;
        at = x.1;
        opens = opens_at d can.e can.h n x.0.place (follows-run d can.e can.h can.given w f) x.2.place;
        id = x.2.id;
      }

  reopened_at : (d : DocumentData) (e : ℕ) (h : List Act) (n : NodeId) (p q : Place D g) (r : Restarted) → IsCutRun d e h
      → Stands d (after [] h) n p → is_standing p ≡ false → ReopensAt n d.cluster p q r
      → RestartedBehind d (after [] h) n p q r
  reopened_at d e h n (Up x) q r run s down is = cc
  reopened_at d e h n (Down first second fall) q r run s down is =
      reopens-behind d (cut e d).items h n first second fall q r (run-uncut d e h run) s is

  behind : (d : DocumentData) (e : ℕ) (h : List Act) (given : List D) (w mid : World D g) (n : NodeId) (r : Restarted)
      (m : HasMoved n (λ x y. HasRestarted d.cluster x y r) w mid) → Follows d e h given w → 1 ≤ n → n ≤ d.cluster.nodes
      → is_up_in w n ≡ false
      → RestartedBehind d (after [] h) n m.moved.before.place m.moved.now.place r
  behind d e h given w mid n r m f least most down =
      let s : HostStands d (after [] h) n m.moved.before = moved-stands d e h given w n m.moved.before f least most m.moved.at in
      reopened_at d e h n m.moved.before.place m.moved.now.place r (follows-run d e h given w f) s.place
      (sym (up-place w n m.moved.before m.moved.at) ∙ down)
      (subst (λ k. ReopensAt k d.cluster m.moved.before.place m.moved.now.place r) s.id m.moved.turned.place)

  -- ---- it stays down

  pub still-plays : (d : DocumentData) (n : NodeId) (w mid w' : World D g) → 1 ≤ n → CanPlay d (item.Restart n) w
      → is_up_in w n ≡ false → HasMoved n (λ x y. HasRestarted d.cluster x y restarted.StillDown) w mid
      → HasTold d (act.StillDown n ∷ []) mid w' → Plays d (item.Restart n) w w' (act.StillDown n ∷ [])
  still-plays d n w mid w' least can down m told = λ e h given one f next few.
      let most = restart_most d n w can in
      let stays : Choice = record { keeps = true; opens = false; finds = false } in
      let down' : (node d (after [] h) n).up ≡ false = sym (follows-up d e h given w n f least most) ∙ down in
      let is : act.StillDown n ∷ [] ≡ row d (after [] h) (item.Restart n) stays = sym (rw down' refl) in (
        stays,
        is,
        turn-follows d (item.Restart n) w w' (act.StillDown n ∷ []) stays e h given n m.moved.before m.moved.now
            (moved-turned d n (λ x y. HasRestarted d.cluster x y restarted.StillDown) w mid w' (act.StillDown n ∷ []) m m.moved.turned.id told)
            f next is least most (behind d e h given w mid n restarted.StillDown m f least most down)
            (λ k apart. one-unmoved d (after [] h) (act.StillDown n) n k (here n) apart)
            (rw (told.network, m.network) (sent-step w.network (after [] h) (act.StillDown n) f.sent refl)),
      )

  -- ---- it comes up

  pub risen-plays : (d : DocumentData) (n : NodeId) (f : Flag) (w mid w' : World D g) (acts : List Act) → 1 ≤ n
      → CanPlay d (item.Restart n) w → is_up_in w n ≡ false
      → HasMoved n (λ x y. HasRestarted d.cluster x y (restarted.Up f)) w mid → HasRisen d n f mid w' acts
      → Plays d (item.Restart n) w w' acts
  risen-plays d n f w mid w' acts least can down m risen = λ e h given one fol next few.
      let most = restart_most d n w can in
      let past : List Act = after [] h in
      let b : UpRow d past n m.moved.before.place m.moved.now.place f = behind d e h given w mid n (restarted.Up f) m fol least most down in
      let comes : Choice = record { keeps = true; opens = true; finds = b.finds } in
      let down' : (node d past n).up ≡ false = sym (follows-up d e h given w n fol least most) ∙ down in
      let rows : row d past (item.Restart n) comes ≡ opened_row d past n f = rw down' (ap (opened_row d past n) (sym b.flag)) in
      let lost : losses_in d (tally_after d mid.tally (act.Up n f ∷ [])) n ≡ losses d (act.Up n f ∷ past) n =
      ap (λ x. losses_in d x n) (tally-more d h (act.Up n f ∷ []) w.tally _ fol.tally (ap (λ x. tally_after d x (act.Up n f ∷ [])) m.moved.tally))
      ∙ told_losses d e h n f comes next.0 (follows-run d e h given w fol) next.1 rows in
      let are : acts ≡ opened_row d past n f = risen.are ∙ ap (λ xs. act.Up n f ∷ xs) lost in
      subst (λ xs. (c : Choice) × (xs ≡ row d past (item.Restart n) c) × Follows d (e + 1) (h ++ xs) given w') (sym are) (
        comes,
        sym rows,
        turn-follows d (item.Restart n) w w' (opened_row d past n f) comes e h given n m.moved.before m.moved.now
            (moved-turned d n (λ x y. HasRestarted d.cluster x y (restarted.Up f)) w mid w' (opened_row d past n f) m m.moved.turned.id
            (subst (λ xs. HasTold d xs mid w') are risen.told))
            fol next (sym rows) least most b.turns (λ k apart. opened-unmoved d past n f k apart)
            (rw (risen.told.network, m.network)
            (silent_all w.network (act.Up n f ∷ past) (losses d (act.Up n f ∷ past) n)
            (pass-losses is_silent d (act.Up n f ∷ past) n (number_order (script_numbers d.scripts)) (λ t. refl))
            (sent-step w.network past (act.Up n f) fol.sent refl))),
      )
