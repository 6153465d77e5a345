-- An event that one node plays.
use Rattle.std.proofs.Common.{◌≡◌, ◌≢◌, ℕ, ◌+◌, ◌-◌, ◌≤◌, ◌<◌, Bool, true, false, List, [], ◌∷◌, ◌++◌, length, Some, refl, sym, ap, subst, ◌∙◌, arith, true≢false}
use Rattle.std.specs.List.{list_all}
use Rattle.std.specs.Prelude.{slice_get, slice_set}
use Rattle.score_base.specs.declared.ids.NodeId.{NodeId}
use Rattle.score_disk.specs.declared.disk.Disk.{Ghosts}
use Rattle.grid_model.specs.declared.acts.Act.{Act}
use Rattle.grid_model.specs.declared.acts.Act.TheVariants as act
use Rattle.grid_model.specs.declared.events.Event.{Event}
use Rattle.grid_model.specs.declared.events.Event.TheVariants as event
use Rattle.grid_model.specs.declared.events.Out.{Out}
use Rattle.grid_model.specs.declared.events.Out.TheVariants as out
use Rattle.grid_model.specs.declared.items.Item.{Item}
use Rattle.grid_model.specs.Documents.{DocumentData, IsOne}
use Rattle.grid_model.specs.Histories.{after, sent}
use Rattle.grid_model.specs.NextViews.{Comes, brought}
use Rattle.grid_model.specs.Rows.{outs_of}
use Rattle.grid_model.specs.Schedules.{Choice, kept, next_number, numbered, row}
use Rattle.grid_model.specs.Views.{view}
use Rattle.grid_world.proofs.ForCode.{after-append, are_own, came-brought, compacts-behind, event-unmoved, few-outs, runs-behind, sent-step, shows-outs, turn-more, unsome}
use Rattle.count_laws.specs.Few.{IsFew}
use Rattle.view_laws.specs.RowActs.{came, event_row}
use Rattle.view_laws.specs.Unmoved.{IsUnmoved}
use Rattle.run_tally.specs.Tallies.{tally_after}
use Rattle.sent_list.specs.SentLists.{ShowsSent, sends_or_silent}
use Rattle.grid_hosts.specs.declared.hosts.Host.{Host}
use Rattle.grid_hosts.specs.declared.hosts.Place.{Place}
use Rattle.grid_hosts.specs.declared.hosts.Place.TheVariants.{Up, Down}
use Rattle.grid_hosts.specs.declared.steps.Ran.{Ran}
use Rattle.grid_hosts.specs.declared.steps.Ran.TheVariants.{Outs, Stopped, Memory}
use Rattle.grid_hosts.specs.Hosts.{HasCompacted, HasRun, RunsAt, is_standing}
use Rattle.host_laws.specs.Standing.{Stands, HostStands, generation_in}
use Rattle.host_laws.specs.Turns.{Turns, RanBehind}
use Rattle.host_laws.specs.Follows.{IsNext, HostFollows}
use Rattle.grid_world.specs.declared.worlds.World.{World}
use Rattle.grid_world.specs.Follows.{Follows, Plays, owns}
use Rattle.grid_world.specs.Worlds.{host_at, HasPlayed, HasTold, IsTold, KeepsRest}
use Rattle.std.proofs.lemmas.List.{length-set}
use Rattle.grid_world.proofs.QuietRows.{tally-more, keeps-both, keeps-room}

-- ---- the messages of a row

silent-own : (os : List Out) → are_own os ≡ true → list_all sends_or_silent os ≡ true
silent-own [] e = refl
silent-own (out.Act (act.Sent m x y said) ∷ os) e = e
silent-own (out.Act (act.Got m) ∷ os) e = e
silent-own (out.Act (act.Missed m) ∷ os) e = e
silent-own (out.Act (act.Dropped m) ∷ os) e = e
silent-own (out.Act a ∷ os) e = silent-own os e
silent-own (out.Send to said ∷ os) e = silent-own os e

-- a message that is got is not sent
sent-came : (past : List Act) (m : ℕ) (e : Event) → sent (after past (came m e)) ≡ sent past
sent-came past m (event.Deliver x said) = refl
sent-came past m (event.Begin s floor) = refl
sent-came past m (event.Retry t) = refl
sent-came past m (event.Ask t) = refl
sent-came past m (event.AskPeer t y) = refl
sent-came past m event.Compact = refl

brought-came : (past : List Act) (m : ℕ) (e : Event) → after past (came m e) ≡ brought m e past
brought-came past m (event.Deliver x said) = refl
brought-came past m (event.Begin s floor) = refl
brought-came past m (event.Retry t) = refl
brought-came past m (event.Ask t) = refl
brought-came past m (event.AskPeer t y) = refl
brought-came past m event.Compact = refl

-- the disks keep what is written, or fail
abbrev keeps : Bool → Choice
keeps b = record { keeps = b; opens = true; finds = false }

module _ {D : Type 0} {g : Ghosts D} where
  -- What is known where node n is to play an event of a run that the world follows: the row of the item is that of the
  -- event, which comes as message m; the message was taken away.
  pub record IsRow (d : DocumentData) (i : Item) (w mid : World D g) (n m : ℕ) (ev : Event) (e : ℕ) (h : List Act) :
      Type 0 where
    pub row : (c : Choice) → row d (after [] h) i c ≡ event_row d (after [] h) c n m ev
    pub comes : Comes d (after [] h) n m ev
    pub least : 1 ≤ n
    pub most : n ≤ d.cluster.nodes
    pub few : IsFew d (after [] h) e
    pub sent : ShowsSent mid.network (after (after [] h) (came m ev))

  pub ran-behind : (d : DocumentData) (past : List Act) (n m : ℕ) (ev : Event) (b now : Host D g) (ran : Ran)
      → HostStands d past n b → is_standing b.place ≡ true → Comes d past n m ev → (ev ≡ event.Compact → ⊥)
      → HasRun b ev now ran → RanBehind d past n m ev b.place now.place ran
  ran-behind d past n m ev b now ran s up comes plain run = go b.place s.place up run.runs
    where
      go : (p : Place D g) → Stands d past n p → is_standing p ≡ true → RunsAt p ev now.place ran
          → RanBehind d past n m ev p now.place ran
      go (Up x) stands is runs = runs-behind d past n m ev x now.place ran stands comes plain runs
      go (Down first second fall) stands is runs = absurd (true≢false (sym is))

  -- the world behind an event in which the host of n went from x to y, and which has these acts
  pub record IsTurned (d : DocumentData) (w w' : World D g) (acts : List Act) (n : NodeId) (x y : Host D g) : Type 0
    where
      pub at : host_at w n ≡ Some x
      pub hosts : w'.hosts.items ≡ slice_set w.hosts.items (n - 1) y
      pub id : y.id ≡ x.id
      pub tally : w'.tally ≡ tally_after d w.tally acts
      pub keeps : KeepsRest w w'

  pub turn-follows : (d : DocumentData) (i : Item) (w w' : World D g) (acts : List Act) (c : Choice) (e : ℕ)
      (h : List Act) (given : List D) (n : ℕ) (x y : Host D g) → IsTurned d w w' acts n x y → Follows d e h given w
      → IsNext d e i → acts ≡ row d (after [] h) i c → 1 ≤ n → n ≤ d.cluster.nodes
      → Turns d (after [] h) acts n x.place y.place
      → ((m : ℕ) → n ≢ m → IsUnmoved d (after [] h) (after (after [] h) acts) m)
      → ShowsSent w'.network (after (after [] h) acts) → Follows d (e + 1) (h ++ acts) given w'
  turn-follows d i w w' acts c e h given n x y t f next is least most turns others sent = record {
    hosts = turn-more d e h (owns g given) w.hosts.items w'.hosts.items i c acts n x y f.hosts next is least most t.at
        t.id turns t.hosts others;
    sent = rw (after-append [] h acts) sent;
    tally = tally-more d h acts w.tally w'.tally f.tally t.tally;
    seats = f.seats;
    rest = ap (λ xs. xs.items) t.keeps.rest ∙ f.rest;
    room = keeps-room w w' t.keeps (ap length t.hosts ∙ length-set w.hosts.items (n - 1) y) f.room;
  }

  -- What an event of node n made of the world, whose item has the row of the event: its message was taken away, the
  -- node played it, and the tally took its acts.
  pub record IsRanRow (d : DocumentData) (w mid out' w' : World D g) (n m : ℕ) (ev : Event) (acts : List Act)
      (turn : Host D g → Host D g → Ran → Type 0) : Type 0 where
    pub hosts : mid.hosts ≡ w.hosts
    pub tally : mid.tally ≡ w.tally
    pub keeps : KeepsRest w mid
    pub played : HasPlayed n turn mid out' acts
    pub told : HasTold d (came m ev ++ acts) out' w'
    pub id : played.moved.now.id ≡ played.moved.before.id

  -- how the event ends behind every run that the world follows
  abbrev pub Ends : DocumentData → List Act → ℕ → ℕ → ℕ → Event → Host D g → Host D g → Ran → Type 0
  Ends d h e n m ev x y ran =
      HostStands d (after [] h) n x → generation_in x.place ≤ e → RanBehind d (after [] h) n m ev x.place y.place ran

  ran-follows : (d : DocumentData) (i : Item) (w mid out' w' : World D g) (n m : ℕ) (ev : Event)
      (acts : List Act) (turn : Host D g → Host D g → Ran → Type 0) (q : IsRanRow d w mid out' w' n m ev acts turn)
      (e : ℕ) (h : List Act) (given : List D)
      → Ends d h e n m ev q.played.moved.before q.played.moved.now q.played.ran
      → Follows d e h given w → IsNext d e i → IsRow d i w mid n m ev e h
      → (c : Choice) × ((came m ev ++ acts) ≡ row d (after [] h) i c) × Follows d (e + 1) (h ++ (came m ev ++ acts)) given w'
  ran-follows d i w mid out' w' n m ev acts turn q e h given ends f next r =
      by p.ran (ends was.stands was.generation) p.told
    where
      p : HasPlayed n turn mid out' acts
      p = q.played

      before : Host D g
      before = p.moved.before

      now : Host D g
      now = p.moved.now

      whole : List Act
      whole = came m ev ++ acts

      past : List Act
      past = after [] h

      turned : IsTurned d w w' whole n before now
      turned = record {
        at = subst (λ hs. slice_get hs.items (n - 1) ≡ Some before) q.hosts p.moved.at;
        hosts = ap (λ hs. hs.items) q.told.hosts ∙ p.moved.hosts ∙ ap (λ hs. slice_set hs.items (n - 1) now) q.hosts;
        id = q.id;
        tally = q.told.tally ∙ ap (λ x. tally_after d x whole) (p.moved.tally ∙ q.tally);
        keeps = keeps-both w out' w' (keeps-both w mid out' q.keeps p.moved.keeps) q.told.keeps;
      }

      here : (x : Host D g) × (slice_get w.hosts.items (n - 1) ≡ Some x) × HostFollows d e h (owns g given) (f.hosts.rise n) n x
      here = f.hosts.host n r.least r.most

      was : HostFollows d e h (owns g given) (f.hosts.rise n) n before
      was = subst (HostFollows d e h (owns g given) (f.hosts.rise n) n) (unsome here.0 before (sym here.1 ∙ turned.at)) here.2

      number : length mid.network.sent + 1 ≡ next_number past
      number = ap (λ ms. length ms + 1) (r.sent.sent ∙ sent-came past m ev)

      own : are_own (outs_of n (view d past n) ev) ≡ true
      own = (few-outs d past n e ev r.few).own

      by : (ran : Ran) → RanBehind d past n m ev before.place now.place ran → IsTold mid.network n ran out'.network acts
          → (c : Choice) × (whole ≡ row d past i c) × Follows d (e + 1) (h ++ whole) given w'
      by (Outs outs) b t =
          let given_outs : List Out = outs.items in
          let are : acts ≡ numbered (next_number past) n (outs_of n (view d past n) ev) =
          t.0 ∙ ap (λ k. numbered k n given_outs) number ∙ ap (numbered (next_number past) n) b.row in
          let is : whole ≡ row d past i (keeps true) = ap (λ xs. came m ev ++ xs) are ∙ sym (r.row (keeps true)) in
          let turns : Turns d past whole n before.place now.place =
          subst (λ xs. Turns d past (came m ev ++ xs) n before.place now.place) (sym (t.0 ∙ ap (λ k. numbered k n given_outs) number)) b.turns in
          let others : (k : ℕ) → n ≢ k → IsUnmoved d past (after past whole) k =
          λ k apart. subst (λ q. IsUnmoved d past q k) (sym (came-brought past acts m ev ∙ ap (after (brought m ev past)) are))
          (event-unmoved d past n m (next_number past) ev true k r.comes apart) in
          let silent : list_all sends_or_silent given_outs ≡ true = rw b.row (silent-own (outs_of n (view d past n) ev) own) in
          let sent' : ShowsSent w'.network (after past whole) =
          rw (q.told.network, t.1, after-append past (came m ev) acts, t.0)
          (shows-outs mid.network (after past (came m ev)) (length mid.network.sent + 1) n given_outs r.sent silent) in (
            keeps true,
            is,
            turn-follows d i w w' whole (keeps true) e h given n before now turned f next is r.least r.most turns others sent',
          )
      by (Stopped head) b t =
          let are : acts ≡ numbered (next_number past) n (kept false n (outs_of n (view d past n) ev)) =
          t.0 ∙ sym (ap (numbered (next_number past) n) b.row) in
          let is : whole ≡ row d past i (keeps false) = ap (λ xs. came m ev ++ xs) are ∙ sym (r.row (keeps false)) in
          let turns : Turns d past whole n before.place now.place =
          subst (λ xs. Turns d past (came m ev ++ xs) n before.place now.place) (sym t.0) b.turns in
          let others : (k : ℕ) → n ≢ k → IsUnmoved d past (after past whole) k =
          λ k apart. subst (λ q. IsUnmoved d past q k) (sym (came-brought past acts m ev ∙ ap (after (brought m ev past)) are))
          (event-unmoved d past n m (next_number past) ev false k r.comes apart) in
          let sent' : ShowsSent w'.network (after past whole) =
          rw (q.told.network, t.1, after-append past (came m ev) acts, t.0)
          (sent-step mid.network (after past (came m ev)) (act.Down n (Some head)) r.sent refl) in (
            keeps false,
            is,
            turn-follows d i w w' whole (keeps false) e h given n before now turned f next is r.least r.most turns others sent',
          )
      by Memory b t = absurd t

  -- the event of a node that is up, where it is no compaction, behind one run
  pub ran-plays-at : (d : DocumentData) (i : Item) (w mid out' w' : World D g) (n m : ℕ) (ev : Event)
      (acts : List Act) (q : IsRanRow d w mid out' w' n m ev acts (λ x y r. HasRun x ev y r))
      → is_standing q.played.moved.before.place ≡ true → (ev ≡ event.Compact → ⊥)
      → (e : ℕ) (h : List Act) (given : List D) → Follows d e h given w → IsNext d e i → IsRow d i w mid n m ev e h
      → (c : Choice) × ((came m ev ++ acts) ≡ row d (after [] h) i c) × Follows d (e + 1) (h ++ (came m ev ++ acts)) given w'
  ran-plays-at d i w mid out' w' n m ev acts q up plain e h given f next r =
      let p = q.played in
      ran-follows d i w mid out' w' n m ev acts (λ x y r. HasRun x ev y r) q e h given
      (λ stands generation. ran-behind d (after [] h) n m ev p.moved.before p.moved.now p.ran stands up r.comes plain p.moved.turned)
      f next r

  -- and behind every run
  pub ran-plays : (d : DocumentData) (i : Item) (w mid out' w' : World D g) (n m : ℕ) (ev : Event)
      (acts : List Act) (q : IsRanRow d w mid out' w' n m ev acts (λ x y r. HasRun x ev y r))
      → is_standing q.played.moved.before.place ≡ true → (ev ≡ event.Compact → ⊥)
      → ((e : ℕ) (h : List Act) (given : List D) → IsOne d → Follows d e h given w → IsNext d e i → e < 50000
      → IsRow d i w mid n m ev e h)
      → Plays d i w w' (came m ev ++ acts)
  ran-plays d i w mid out' w' n m ev acts q up plain rows =
      λ e h given one f next few.
      ran-plays-at d i w mid out' w' n m ev acts q up plain e h given f next (rows e h given one f next few)

  -- a compaction of a node that is up
  pub small-behind : (d : DocumentData) (past : List Act) (n e : ℕ) (b now : Host D g) (ran : Ran)
      → HostStands d past n b → is_standing b.place ≡ true → e < 50000 → generation_in b.place ≤ e
      → HasCompacted b now ran → RanBehind d past n 0 event.Compact b.place now.place ran
  small-behind d past n e b now ran s up few low is = go b.place refl s.place up low
    where
      go : (p : Place D g) → b.place ≡ p → Stands d past n p → is_standing p ≡ true → generation_in p ≤ e
          → RanBehind d past n 0 event.Compact p now.place ran
      go (Up x) at stands up low = compacts-behind d past n x b now ran stands (omega (arith, low, few)) at is
      go (Down first second fall) at stands up low = absurd (true≢false (sym up))

  pub compact-plays : (d : DocumentData) (i : Item) (w out' w' : World D g) (n : ℕ) (acts : List Act)
      (q : IsRanRow d w w out' w' n 0 event.Compact acts (λ x y r. HasCompacted x y r))
      → is_standing q.played.moved.before.place ≡ true
      → ((e : ℕ) (h : List Act) (given : List D) → IsOne d → Follows d e h given w → IsNext d e i → e < 50000
      → IsRow d i w w n 0 event.Compact e h)
      → Plays d i w w' acts
  compact-plays d i w out' w' n acts q up rows =
      λ e h given one f next few.
      let p = q.played in
      ran-follows d i w w out' w' n 0 event.Compact acts (λ x y r. HasCompacted x y r) q e h given
      (λ stands low. small-behind d (after [] h) n e p.moved.before p.moved.now p.ran stands up few low p.moved.turned)
      f next (rows e h given one f next few)
