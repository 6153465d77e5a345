-- An event of a node that may give nothing: what a home sends again, and what a node asks.
use Rattle.std.proofs.Common.{◌≡◌, ℕ, ◌+◌, ◌≤◌, ◌==◌, true, false, List, [], ◌∷◌, ◌++◌, length, Some, None, refl, sym, ap, subst, ◌∙◌, nat_le}
use Rattle.std.specs.List.{list_any}
use Rattle.std.proofs.lemmas.Bool.{and_parts}
use Rattle.std.proofs.lemmas.List.{append-nil}
use Rattle.score_base.specs.declared.ids.NodeId.{NodeId}
use Rattle.score_base.specs.declared.ids.TxId.{TxId}
use Rattle.score_disk.specs.declared.disk.Disk.{Ghosts}
use Rattle.script_lang.specs.Scripts.{ScriptData}
use Rattle.grid_world.proofs.ForCode.{ask-row, home-least, home-most, retry-row, sent-step, stands-unmoved, unsome, void-unmoved}
use Rattle.grid_model.specs.declared.acts.Act.{Act}
use Rattle.grid_model.specs.declared.acts.Act.TheVariants as act
use Rattle.grid_model.specs.declared.events.Event.{Event}
use Rattle.grid_model.specs.declared.events.Event.TheVariants as event
use Rattle.grid_model.specs.declared.events.Out.{Out}
use Rattle.grid_model.specs.declared.events.Out.TheVariants as out
use Rattle.grid_model.specs.declared.items.Item.{Item}
use Rattle.grid_model.specs.declared.items.Item.TheVariants as item
use Rattle.grid_model.specs.declared.voids.Void.{Void}
use Rattle.grid_model.specs.declared.voids.Void.TheVariants as void
use Rattle.grid_model.specs.Documents.{DocumentData, IsOne, script_numbers}
use Rattle.grid_model.specs.Histories.{after}
use Rattle.grid_model.specs.NextViews.{Comes}
use Rattle.grid_model.specs.Nodes.{node, script_of}
use Rattle.grid_model.specs.Rows.{outs_of}
use Rattle.grid_model.specs.Schedules.{Choice, kept, next_number, numbered, or_void, row, retry_on}
use Rattle.grid_model.specs.States.{state_of}
use Rattle.grid_model.specs.Views.{view}
use Rattle.grid_model.specs.Voids.{void_code, voided}
use Rattle.grid_laws.specs.CalmRuns.{calm}
use Rattle.view_laws.specs.RowActs.{came, event_row}
use Rattle.node_core.specs.Links.{posts}
use Rattle.sent_list.specs.SentLists.{SentData, with_sent}
use Rattle.run_tally.specs.Tallies.{tally_after}
use Rattle.grid_hosts.specs.declared.hosts.Host.{Host}
use Rattle.grid_hosts.specs.declared.hosts.Place.{Place}
use Rattle.grid_hosts.specs.declared.steps.Ran.{Ran}
use Rattle.grid_hosts.specs.declared.steps.Ran.TheVariants.{Outs, Stopped, Memory}
use Rattle.grid_hosts.specs.Hosts.{HasRun}
use Rattle.host_laws.specs.Standing.{HostStands}
use Rattle.host_laws.specs.Turns.{MovesDisks, quiet, turned, RanBehind, Turns}
use Rattle.grid_world.specs.declared.worlds.World.{World}
use Rattle.grid_world.specs.Follows.{CanPlay, Follows, Plays}
use Rattle.grid_world.specs.Worlds.{CanRun, HasPlayed, HasTold, IsTold, OrVoid, gave, void as voids, host_at, is_up_in}
use Rattle.grid_world.proofs.Known.{at-most, follows-few, follows-generation, follows-host, follows-up, next-item, up-standing}
use Rattle.grid_world.proofs.QuietRows.{keeps-both, none-plays, void-plays}
use Rattle.grid_world.proofs.RanRows.{IsTurned, ran-behind, ran-plays-at, turn-follows}

-- ---- nothing is given

outs_none : (k n : ℕ) (os : List Out) → numbered k n os ≡ [] → os ≡ []
outs_none k n [] e = refl
outs_none k n (out.Act a ∷ os) e = cc
outs_none k n (out.Send to said ∷ os) e = cc

or_some : (code : ℕ) (os : List Out) (acts : List Act) → (os ≡ [] → ⊥) → or_void code os acts ≡ acts
or_some code [] acts some = absurd (some refl)
or_some code (o ∷ os) acts some = refl

with_none : (s : SentData) → with_sent [] s ≡ s
with_none s = ap (λ ms. record { sent = ms; gone = s.gone ++ [] }) (append-nil s.sent)
    ∙ ap (λ gs. record { sent = s.sent; gone = gs }) (append-nil s.gone)

-- The row of an item is that of an event of n, or void where this has nothing.
pub record IsOrRow (d : DocumentData) (i : Item) (n : NodeId) (ev : Event) (why : Void) (past : List Act) : Type 0
  where
    pub row : (c : Choice) → row d past i c
        ≡ or_void (void_code why) (outs_of n (view d past n) ev) (event_row d past c n 0 ev)
    pub comes : Comes d past n 0 ev
    pub plain : ev ≡ event.Compact → ⊥
    pub silent : came 0 ev ≡ []

module _ {D : Type 0} {g : Ghosts D} where
  -- a node whose row has nothing has no act
  none-behind : (d : DocumentData) (past : List Act) (n m : ℕ) (ev : Event) (p q : Place D g) (ran : Ran)
      (s s' : SentData) (acts : List Act) → RanBehind d past n m ev p q ran → IsTold s n ran s' acts
      → outs_of n (view d past n) ev ≡ [] → acts ≡ []
  none-behind d past n m ev p q (Outs outs) s s' acts b t none =
      t.0 ∙ ap (numbered (length s.sent + 1) n) (b.row ∙ none)
  none-behind d past n m ev p q (Stopped h) s s' acts b t none =
      let never : [] ≡ out.Act (act.Down n (Some h)) ∷ [] = sym (ap (kept false n) none) ∙ b.row in cc
  none-behind d past n m ev p q Memory s s' acts b t none = absurd t

  -- What is known where a node gave nothing: its row has nothing, it stands behind no act, and no message was sent.
  record GaveNone (d : DocumentData) (past : List Act) (n : ℕ) (ev : Event) (p q : Place D g) (s s' : SentData) :
      Type 0 where
    row : outs_of n (view d past n) ev ≡ []
    turns : Turns d past [] n p q
    same : s' ≡ s

  gave-none : (d : DocumentData) (past : List Act) (n m : ℕ) (ev : Event) (p q : Place D g) (ran : Ran)
      (s s' : SentData) → came m ev ≡ [] → RanBehind d past n m ev p q ran → IsTold s n ran s' []
      → GaveNone d past n ev p q s s'
  gave-none d past n m ev p q (Outs outs) s s' silent b t =
      let none : outs.items ≡ [] = outs_none (length s.sent + 1) n outs.items (sym t.0) in
      record {
        row = sym b.row ∙ none;
        turns = subst (λ xs. Turns d past xs n p q) (ap (λ os. came m ev ++ numbered (next_number past) n os) none ∙ ap (λ xs. xs ++ []) silent) b.turns;
        same = t.1 ∙ ap (λ os. with_sent (posts n os) s) none ∙ with_none s;
      }
  gave-none d past n m ev p q (Stopped h) s s' silent b t = let never : [] ≡ act.Down n (Some h) ∷ [] = t.0 in cc
  gave-none d past n m ev p q Memory s s' silent b t = absurd t

  -- behind no act, and then a void one
  void-turns : (d : DocumentData) (past : List Act) (n : ℕ) (p q : Place D g) (why : Void) → Turns d past [] n p q
      → Turns d past (voided why) n p q
  void-turns d past n p q why t = record {
    more = t.more;
    moves = moves t.moves;
    rise = t.rise;
    grown = t.grown;
    stands = stands-unmoved d past (after past (voided why)) n q (void-unmoved d past (void_code why) n) t.stands;
  }
    where
      never : (front behind : List Act) (a : Act) → [] ≡ front ++ a ∷ behind → ⊥
      never [] behind a e = cc
      never (x ∷ front) behind a e = cc

      moves : MovesDisks d past [] n t.more → MovesDisks d past (voided why) n t.more
      moves (quiet still none) = quiet refl none
      moves (turned is) = absurd (never is.front is.behind is.turn is.are)

  -- ---- the row of an item that may be void

  -- n can play an event that comes behind every run
  pub event-runs : (d : DocumentData) (i : Item) (w : World D g) (n : NodeId) (ev : Event) → CanPlay d i w → 1 ≤ n
      → n ≤ d.cluster.nodes → is_up_in w n ≡ true → ((past : List Act) → Comes d past n 0 ev) → CanRun d n ev w
  event-runs d i w n ev can least most up comes =
      let f = can.follows in
      let x : (x : Host D g) × (host_at w n ≡ Some x) × HostStands d (after [] can.h) n x =
      follows-host d can.e can.h can.given w n f least most in
      record {
        past = after [] can.h;
        m = 0;
        host = x.0;
        at = x.1;
        stands = x.2;
        up = up-standing w n x.0 up x.1;
        comes = comes (after [] can.h);
        e = can.e;
        generation = follows-generation d can.e can.h can.given w n f least most;
        few = follows-few d can.e can.h can.given w f can.few;
        short = can.few;
        sent = f.sent.sent;
      }

  -- what stands behind a node's event, and the world that was told of it
  or_turned : (d : DocumentData) (w mid w' : World D g) (acts : List Act) (n : NodeId) (ev : Event)
      (p : HasPlayed n (λ x y r. HasRun x ev y r) w mid acts) (told : List Act) → HasTold d told mid w'
      → IsTurned d w w' told n p.moved.before p.moved.now
  or_turned d w mid w' acts n ev p told t = record {
    at = p.moved.at;
    hosts = ap (λ hs. hs.items) t.hosts ∙ p.moved.hosts;
    id = p.moved.turned.id;
    tally = t.tally ∙ ap (λ x. tally_after d x told) p.moved.tally;
    keeps = keeps-both w mid w' p.moved.keeps t.keeps;
  }

  or_stands : (d : DocumentData) (e : ℕ) (h : List Act) (given : List D) (w mid : World D g) (acts : List Act)
      (n : NodeId) (ev : Event) (p : HasPlayed n (λ x y r. HasRun x ev y r) w mid acts) → Follows d e h given w → 1 ≤ n
      → n ≤ d.cluster.nodes → HostStands d (after [] h) n p.moved.before
  or_stands d e h given w mid acts n ev p f least most =
      let x : (x : Host D g) × (host_at w n ≡ Some x) × HostStands d (after [] h) n x =
      follows-host d e h given w n f least most in
      subst (HostStands d (after [] h) n) (unsome x.0 p.moved.before (sym x.1 ∙ p.moved.at)) x.2

  or_behind : (d : DocumentData) (e : ℕ) (h : List Act) (given : List D) (w mid : World D g) (acts : List Act)
      (n : NodeId) (ev : Event) (p : HasPlayed n (λ x y r. HasRun x ev y r) w mid acts) → Follows d e h given w → 1 ≤ n
      → n ≤ d.cluster.nodes → is_up_in w n ≡ true → Comes d (after [] h) n 0 ev → (ev ≡ event.Compact → ⊥)
      → RanBehind d (after [] h) n 0 ev p.moved.before.place p.moved.now.place p.ran
  or_behind d e h given w mid acts n ev p f least most up comes plain =
      ran-behind d (after [] h) n 0 ev p.moved.before p.moved.now p.ran
      (or_stands d e h given w mid acts n ev p f least most) (up-standing w n p.moved.before up p.moved.at) comes plain
      p.moved.turned

  pub or-plays : (d : DocumentData) (i : Item) (w w' : World D g) (n : NodeId) (ev : Event) (why : Void)
      (acts : List Act) → 1 ≤ n → n ≤ d.cluster.nodes → is_up_in w n ≡ true
      → ((e : ℕ) (h : List Act) (given : List D) → Follows d e h given w → IsOrRow d i n ev why (after [] h))
      → OrVoid d why n ev w w' acts → Plays d i w w' acts
  or-plays d i w w' n ev why acts least most up rows (gave mid p some t) = λ e h given one f next few.
      let r : IsOrRow d i n ev why (after [] h) = rows e h given f in
      let b = or_behind d e h given w mid acts n ev p f least most up r.comes r.plain in
      let given_some : outs_of n (view d (after [] h) n) ev ≡ [] → ⊥ =
      λ none. some (none-behind d (after [] h) n 0 ev p.moved.before.place p.moved.now.place p.ran w.network mid.network acts b p.told none) in
      subst (λ xs. (c : Choice) × (xs ≡ row d (after [] h) i c) × Follows d (e + 1) (h ++ xs) given w')
      (ap (λ xs. xs ++ acts) r.silent)
      (ran-plays-at d i w w mid w' n 0 ev acts
      (record {
        hosts = refl;
        tally = refl;
        keeps = record { rest = refl; given_up = refl };
        played = p;
        told = subst (λ xs. HasTold d xs mid w') (sym (ap (λ xs. xs ++ acts) r.silent)) t;
        id = p.moved.turned.id;
      })
      (up-standing w n p.moved.before up p.moved.at) r.plain e h given f next
      (record {
        row = λ c. r.row c ∙ or_some (void_code why) (outs_of n (view d (after [] h) n) ev) (event_row d (after [] h) c n 0 ev) given_some;
        comes = r.comes;
        least = least;
        most = most;
        few = follows-few d e h given w f few;
        sent = rw r.silent f.sent;
      }))
  or-plays d i w w' n ev why acts least most up rows (voids mid p t are) = λ e h given one f next few.
      let r : IsOrRow d i n ev why (after [] h) = rows e h given f in
      let b = or_behind d e h given w mid [] n ev p f least most up r.comes r.plain in
      let none : GaveNone d (after [] h) n ev p.moved.before.place p.moved.now.place w.network mid.network =
      gave-none d (after [] h) n 0 ev p.moved.before.place p.moved.now.place p.ran w.network mid.network r.silent b p.told in
      let is : voided why ≡ row d (after [] h) i calm =
      sym (r.row calm ∙ ap (λ os. or_void (void_code why) os (event_row d (after [] h) calm n 0 ev)) none.row) in
      subst (λ xs. (c : Choice) × (xs ≡ row d (after [] h) i c) × Follows d (e + 1) (h ++ xs) given w') (sym are) (
        calm,
        is,
        turn-follows d i w w' (voided why) calm e h given n p.moved.before p.moved.now
            (or_turned d w mid w' [] n ev p (voided why) t) f next is least most
            (void-turns d (after [] h) n p.moved.before.place p.moved.now.place why none.turns)
            (λ m apart. void-unmoved d (after [] h) (void_code why) m)
            (rw (t.network, none.same) (sent-step w.network (after [] h) (act.Void (void_code why)) f.sent refl)),
      )

  -- ---- a node that is down

  pub down-plays : (d : DocumentData) (i : Item) (w w' : World D g) (n : NodeId) (why : Void) → 1 ≤ n
      → n ≤ d.cluster.nodes → is_up_in w n ≡ false
      → ((past : List Act) → (node d past n).up ≡ false → row d past i calm ≡ voided why)
      → HasTold d (voided why) w w' → Plays d i w w' (voided why)
  down-plays d i w w' n why least most down rows told = void-plays d i w w' why told
      (λ e h given one f next.
      rows (after [] h) (sym (follows-up d e h given w n f least most) ∙ down))

  -- ---- retry

  pub unwritten-retries : (d : DocumentData) (t : TxId) (w : World D g) → script_of t d.scripts ≡ None
      → Plays d (item.Retry t) w w []
  unwritten-retries d t w none = none-plays d (item.Retry t) w
      (λ e h given one f next. ap (retry_on d (state_of d (after [] h)) calm t) none)

  pub homeless-retries : (d : DocumentData) (t : TxId) (s : ScriptData) (w w' : World D g) → IsOne d
      → script_of t d.scripts ≡ Some s → is_up_in w s.home ≡ false → HasTold d (voided void.HomeDown) w w'
      → Plays d (item.Retry t) w w' (voided void.HomeDown)
  homeless-retries d t s w w' one at down told =
      down-plays d (item.Retry t) w w' s.home void.HomeDown (home-least d t s one at) (home-most d t s one at) down
      (λ past down'. ap (retry_on d (state_of d past) calm t) at ∙ rw down' refl) told

  pub retry-plays : (d : DocumentData) (t : TxId) (s : ScriptData) (w w' : World D g) (acts : List Act) → IsOne d
      → script_of t d.scripts ≡ Some s → is_up_in w s.home ≡ true
      → OrVoid d void.NothingOwed s.home (event.Retry t) w w' acts → Plays d (item.Retry t) w w' acts
  retry-plays d t s w w' acts one at up p =
      or-plays d (item.Retry t) w w' s.home (event.Retry t) void.NothingOwed acts (home-least d t s one at)
      (home-most d t s one at) up
      (λ e h given f.
      let least = home-least d t s one at in
      let most = home-most d t s one at in
      record {
        row = λ c. retry-row d (after [] h) t 0 s c at (sym (follows-up d e h given w s.home f least most) ∙ up);
        comes = tt;
        plain = λ e. cc;
        silent = refl;
      }) p

  pub retry-runs : (d : DocumentData) (t : TxId) (s : ScriptData) (w : World D g) → CanPlay d (item.Retry t) w
      → script_of t d.scripts ≡ Some s → is_up_in w s.home ≡ true → CanRun d s.home (event.Retry t) w
  retry-runs d t s w can at up =
      event-runs d (item.Retry t) w s.home (event.Retry t) can (home-least d t s can.one at) (home-most d t s can.one at) up
      (λ past. tt)

  -- ---- ask

  ask_most : (d : DocumentData) (n : NodeId) (t : TxId) (w : World D g) → CanPlay d (item.Ask n t) w → n ≤ d.cluster.nodes
  ask_most d n t w can =
      at-most n d.cluster.nodes
      (and_parts (nat_le n d.cluster.nodes) (list_any (λ u. u == t) (script_numbers d.scripts))
      (next-item d can.e (item.Ask n t) can.one can.next)).0

  pub down-asks : (d : DocumentData) (n : NodeId) (t : TxId) (w w' : World D g) → 1 ≤ n → CanPlay d (item.Ask n t) w
      → is_up_in w n ≡ false → HasTold d (voided void.NotPending) w w'
      → Plays d (item.Ask n t) w w' (voided void.NotPending)
  down-asks d n t w w' least can down told =
      down-plays d (item.Ask n t) w w' n void.NotPending least (ask_most d n t w can) down (λ past down'. rw down' refl) told

  pub ask-plays : (d : DocumentData) (n : NodeId) (t : TxId) (w w' : World D g) (acts : List Act) → 1 ≤ n
      → CanPlay d (item.Ask n t) w → is_up_in w n ≡ true → OrVoid d void.NotPending n (event.Ask t) w w' acts
      → Plays d (item.Ask n t) w w' acts
  ask-plays d n t w w' acts least can up p =
      or-plays d (item.Ask n t) w w' n (event.Ask t) void.NotPending acts least (ask_most d n t w can) up
      (λ e h given f.
      record {
        row = λ c. ask-row d (after [] h) n t 0 c (sym (follows-up d e h given w n f least (ask_most d n t w can)) ∙ up);
        comes = tt;
        plain = λ e. cc;
        silent = refl;
      }) p

  pub ask-runs : (d : DocumentData) (n : NodeId) (t : TxId) (w : World D g) → 1 ≤ n → CanPlay d (item.Ask n t) w
      → is_up_in w n ≡ true → CanRun d n (event.Ask t) w
  ask-runs d n t w least can up =
      event-runs d (item.Ask n t) w n (event.Ask t) can least (ask_most d n t w can) up (λ past. tt)
