-- A begin.
use Rattle.std.proofs.Common.{◌≡◌, ℕ, ◌≤◌, ◌<◌, true, false, List, [], Option, Some, None, is_some, refl, sym, ap, subst, ◌∙◌, true≢false}
use Rattle.score_base.specs.declared.ids.TxId.{TxId}
use Rattle.score_disk.specs.declared.disk.Disk.{Ghosts}
use Rattle.script_lang.specs.Scripts.{ScriptData}
use Rattle.grid_model.specs.declared.acts.Act.{Act}
use Rattle.grid_model.specs.declared.events.Event.TheVariants as event
use Rattle.grid_model.specs.declared.items.Item.TheVariants as item
use Rattle.grid_model.specs.declared.stories.Story.{Story}
use Rattle.grid_model.specs.declared.voids.Void.TheVariants as void
use Rattle.grid_model.specs.Cuts.{cut}
use Rattle.grid_model.specs.Documents.{DocumentData, IsOne}
use Rattle.grid_model.specs.Histories.{after}
use Rattle.grid_model.specs.Nodes.{node, script_of}
use Rattle.grid_model.specs.Schedules.{begin_on, begun_on}
use Rattle.grid_model.specs.Sessions.{floor_at}
use Rattle.grid_model.specs.States.{state_of}
use Rattle.grid_model.specs.Stories.{story}
use Rattle.grid_model.specs.Voids.{voided}
use Rattle.grid_laws.specs.CalmRuns.{calm}
use Rattle.grid_world.proofs.ForCode.{begin-comes, begin-row, cut-one, home-least, home-most}
use Rattle.run_tally.specs.Phases.{TellsPhases, begun_in, busy_in, floor_in}
use Rattle.view_laws.specs.RowActs.{event_row}
use Rattle.grid_hosts.specs.declared.hosts.Host.{Host}
use Rattle.host_laws.specs.Standing.{HostStands}
use Rattle.host_laws.specs.Follows.{IsNext}
use Rattle.grid_world.specs.declared.worlds.World.{World}
use Rattle.grid_world.specs.Follows.{CanPlay, Follows, Plays}
use Rattle.grid_world.specs.Worlds.{CanRun, HasTold, PlaysBehind, host_at, is_up_in}
use Rattle.grid_world.proofs.Known.{follows-few, follows-generation, follows-host, follows-phases, follows-run, follows-up, up-standing}
use Rattle.grid_world.proofs.QuietRows.{none-plays, void-plays}
use Rattle.grid_world.proofs.RanRows.{IsRow, ran-plays}

unbegun : (o : Option Story) → is_some o ≡ false → o ≡ None
unbegun None e = refl
unbegun (Some x) e = absurd (true≢false e)

begun : (o : Option Story) → is_some o ≡ true → (x : Story) × (o ≡ Some x)
begun None e = absurd (true≢false (sym e))
begun (Some x) e = (x, refl)

module _ {D : Type 0} {g : Ghosts D} where
  -- it was begun before
  pub again-plays : (d : DocumentData) (t : TxId) (w w' : World D g) → begun_in w.tally t ≡ true
      → HasTold d (voided void.Begun) w w' → Plays d (item.Begin t) w w' (voided void.Begun)
  again-plays d t w w' is told = void-plays d (item.Begin t) w w' void.Begun told
      (λ e h given one f next.
      let x : (x : Story) × (story d (after [] h) t ≡ Some x) =
      begun (story d (after [] h) t) (sym ((follows-phases d e h given w f).begun t) ∙ is) in
      ap (λ o. begin_on d (state_of d (after [] h)) calm o (script_of t d.scripts)) x.1)

  -- what is known of the story where it was not
  new : (d : DocumentData) (e : ℕ) (h : List Act) (given : List D) (w : World D g) (t : TxId) → Follows d e h given w
      → begun_in w.tally t ≡ false → story d (after [] h) t ≡ None
  new d e h given w t f is = unbegun (story d (after [] h) t) (sym ((follows-phases d e h given w f).begun t) ∙ is)

  -- it has no script
  pub unwritten-plays : (d : DocumentData) (t : TxId) (w : World D g) → begun_in w.tally t ≡ false
      → script_of t d.scripts ≡ None → Plays d (item.Begin t) w w []
  unwritten-plays d t w is none = none-plays d (item.Begin t) w
      (λ e h given one f next. ap (λ o. begin_on d (state_of d (after [] h)) calm o (script_of t d.scripts)) (new d e h given w t f is)
      ∙ ap (begun_on d (state_of d (after [] h)) calm) none)

  -- its home is down
  pub homeless-plays : (d : DocumentData) (t : TxId) (s : ScriptData) (w w' : World D g) → begun_in w.tally t ≡ false
      → script_of t d.scripts ≡ Some s → is_up_in w s.home ≡ false → HasTold d (voided void.HomeDown) w w'
      → Plays d (item.Begin t) w w' (voided void.HomeDown)
  homeless-plays d t s w w' is at down told = void-plays d (item.Begin t) w w' void.HomeDown told
      (λ e h given one f next.
      let down' : (node d (after [] h) s.home).up ≡ false =
      sym (follows-up d e h given w s.home f (home-least d t s one at) (home-most d t s one at)) ∙ down in
      ap (λ o. begin_on d (state_of d (after [] h)) calm o (script_of t d.scripts)) (new d e h given w t f is)
      ∙ ap (begun_on d (state_of d (after [] h)) calm) at ∙ rw down' refl)

  -- its session is busy
  pub busy-plays : (d : DocumentData) (t : TxId) (s : ScriptData) (w w' : World D g) → begun_in w.tally t ≡ false
      → script_of t d.scripts ≡ Some s → is_up_in w s.home ≡ true → busy_in d w.tally s.session ≡ true
      → HasTold d (voided void.SessionBusy) w w' → Plays d (item.Begin t) w w' (voided void.SessionBusy)
  busy-plays d t s w w' is at up busy told = void-plays d (item.Begin t) w w' void.SessionBusy told
      (λ e h given one f next.
      let up' : (node d (after [] h) s.home).up ≡ true =
      sym (follows-up d e h given w s.home f (home-least d t s one at) (home-most d t s one at)) ∙ up in
      ap (λ o. begin_on d (state_of d (after [] h)) calm o (script_of t d.scripts)) (new d e h given w t f is)
      ∙ ap (begun_on d (state_of d (after [] h)) calm) at
      ∙ rw (up', sym ((follows-phases d e h given w f).busy s.session) ∙ busy) refl)

  -- ---- it begins

  begin-is-row : (d : DocumentData) (t : TxId) (s : ScriptData) (w : World D g) (e : ℕ) (h : List Act) (given : List D)
      → begun_in w.tally t ≡ false → script_of t d.scripts ≡ Some s → is_up_in w s.home ≡ true
      → busy_in d w.tally s.session ≡ false → IsOne d → Follows d e h given w → IsNext d e (item.Begin t) → e < 50000
      → IsRow d (item.Begin t) w w s.home 0 (event.Begin s (floor_in d w.tally s.session)) e h
  begin-is-row d t s w e h given is at up quiet one f next few =
      let least : 1 ≤ s.home = home-least d t s one at in
      let most : s.home ≤ d.cluster.nodes = home-most d t s one at in
      let phases : TellsPhases d w.tally (after [] h) = follows-phases d e h given w f in
      let up' : (node d (after [] h) s.home).up ≡ true = sym (follows-up d e h given w s.home f least most) ∙ up in
      let floor : floor_in d w.tally s.session ≡ floor_at d (after [] h) s = phases.floor s.session in
      record {
        row = λ c.
            begin-row (cut e d) h t 0 s c (cut-one d e one) (follows-run d e h given w f) at (new d e h given w t f is) up'
            (sym (phases.busy s.session) ∙ quiet)
            ∙ ap (λ k. event_row d (after [] h) c s.home 0 (event.Begin s k)) (sym floor);
        comes = begin-comes d (after [] h) t 0 s (floor_in d w.tally s.session) at;
        least = least;
        most = most;
        few = follows-few d e h given w f few;
        sent = f.sent;
      }

  -- its home can play that
  pub begin-runs : (d : DocumentData) (t : TxId) (s : ScriptData) (w : World D g) → CanPlay d (item.Begin t) w
      → script_of t d.scripts ≡ Some s → is_up_in w s.home ≡ true
      → CanRun d s.home (event.Begin s (floor_in d w.tally s.session)) w
  begin-runs d t s w can at up =
      let f = can.follows in
      let x : (x : Host D g) × (host_at w s.home ≡ Some x) × HostStands d (after [] can.h) s.home x =
      follows-host d can.e can.h can.given w s.home f (home-least d t s can.one at) (home-most d t s can.one at) in
      record {
        past = after [] can.h;
        m = 0;
        host = x.0;
        at = x.1;
        stands = x.2;
        up = up-standing w s.home x.0 up x.1;
        comes = begin-comes d (after [] can.h) t 0 s (floor_in d w.tally s.session) at;
        e = can.e;
        generation = follows-generation d can.e can.h can.given w s.home f (home-least d t s can.one at) (home-most d t s can.one at);
        few = follows-few d can.e can.h can.given w f can.few;
        short = can.few;
        sent = f.sent.sent;
      }

  pub begin-plays : (d : DocumentData) (t : TxId) (s : ScriptData) (w w' : World D g) (acts : List Act)
      → begun_in w.tally t ≡ false → script_of t d.scripts ≡ Some s → is_up_in w s.home ≡ true
      → busy_in d w.tally s.session ≡ false
      → PlaysBehind d [] s.home (event.Begin s (floor_in d w.tally s.session)) w w' acts
      → Plays d (item.Begin t) w w' acts
  begin-plays d t s w w' acts is at up quiet p =
      let ev = event.Begin s (floor_in d w.tally s.session) in
      subst (Plays d (item.Begin t) w w') (sym p.are)
      (ran-plays d (item.Begin t) w w p.mid w' s.home 0 ev p.more
      (record {
        hosts = refl;
        tally = refl;
        keeps = record { rest = refl; given_up = refl };
        played = p.played;
        told = p.told;
        id = p.played.moved.turned.id;
      })
      (up-standing w s.home p.played.moved.before up p.played.moved.at) (λ e. cc)
      (λ e h given one f next few. begin-is-row d t s w e h given is at up quiet one f next few))
