-- The view behind an advance: its transaction alone stands otherwise, where its script and its values say.
use Rattle.std.proofs.Common.{◌≡◌, ℕ, Bool, true, false, List, [], ◌∷◌, ◌++◌, Option, Some, None, refl, sym, ap, ◌∙◌, slice_get, map, length, arith, if◌then◌else◌}
use Rattle.std.proofs.lemmas.Bool.Decides.{nat_tests}
use Rattle.std.specs.Prelude.{◌==◌}
use Rattle.score_base.specs.declared.ids.TxId.{TxId}
use Rattle.score_base.specs.declared.ids.NodeId.{NodeId}
use Rattle.score_base.specs.declared.ids.Value.{Value}
use Rattle.score_base.specs.declared.keys.Key.{Key}
use Rattle.script_lang.specs.Scripts.{ScriptData}
use Rattle.script_lang.specs.declared.scripts.Op.{Op}
use Rattle.script_lang.specs.Reads.{key_of, is_update}
use Rattle.script_runs.specs.Waits.{waiting}
use Rattle.script_runs.specs.Walks.{op_at}
use Rattle.placement.specs.Places.{holders, preferred, is_among, others}
use Rattle.placement.specs.Clusters.{ClusterData}
use Rattle.journal_words.specs.Journals.{undone}
use Rattle.grid_model.specs.declared.acts.Act.TheVariants as act
use Rattle.grid_model.specs.declared.events.Out.{Out}
use Rattle.grid_model.specs.declared.events.Out.TheVariants as out
use Rattle.grid_model.specs.declared.messages.Envelope.{Envelope}
use Rattle.grid_model.specs.declared.messages.Message.TheVariants as message
use Rattle.grid_model.specs.Stories.{place_behind, with_request}
use Rattle.grid_model.specs.Views.{View, Open, stage_by, stage}
use Rattle.grid_model.specs.Advances.{parts_now, prepares, request_of, request, advance_end, to_node, date_by}
use Rattle.grid_model.specs.NextViews.{behind_all, changed_open, if_update}
use Rattle.presumed_abort.specs.declared.stands.Stand.TheVariants as stand
use Rattle.presumed_abort.specs.Turns.{Turn, Change, Keeps, Goes}
use Rattle.presumed_abort.specs.Replies.{holders_of, advanced}
use Rattle.presumed_abort.specs.Views.{kept}
use Rattle.presumed_abort.proofs.DeskSteps.{Steps, behind_change}
use Rattle.presumed_abort.proofs.Stages.{stage-is}

pub hits : {A : Type 0} (a b : TxId) (met' missed' : A) → a ≡ b → (if a == b then met' else missed') ≡ met'
hits a b met' missed' same = (let met : (a == b) ≡ true = grind (arith, nat_tests, same) in rw met refl)

pub misses :
    {A : Type 0} (a b c : TxId) (met' missed' : A)
    → a ≡ b → (b == c) ≡ false → (if a == c then met' else missed') ≡ missed'
misses a b c met' missed' same apart =
    (let missed : (a == c) ≡ false = grind (arith, nat_tests, same, apart) in rw missed refl)

-- ---- outs that leave the view

pub owns-behind :
    (e : Option Envelope) (s : Option ScriptData) (v : View) (t : TxId) (ys : List (ℕ × Value)) (os : List Out)
    → behind_all e s v (map (λ y. out.Act (act.Own t y.0 y.1)) ys ++ os) ≡ behind_all e s v os
owns-behind e s v t [] os = refl
owns-behind e s v t (y ∷ ys) os = owns-behind e s v t ys os

pub prepares-behind :
    (e : Option Envelope) (s : Option ScriptData) (v : View) (c : ClusterData) (x : Open) (ns : List NodeId)
    → behind_all e s v (prepares c x ns) ≡ v
prepares-behind e s v c x [] = refl
prepares-behind e s v c x (n ∷ ns) = prepares-behind e s v c x ns

-- ---- a transaction that came further

-- The view w behind v, where t came so far, has taken no turn to a next holder, and alone stands otherwise.
pub record CameTo (v w : View) (t : TxId) (o : Open) : Type 0 where
  pub cluster : w.cluster ≡ v.cluster
  pub journal : w.journal ≡ v.journal
  pub next : w.next ≡ v.next
  pub held : w.held ≡ v.held
  pub desk : (u : TxId) → (t == u) ≡ false → w.desk u ≡ v.desk u
  pub acks : (u : TxId) → (t == u) ≡ false → w.acks u ≡ v.acks u
  pub undecided : undone t v.journal ≡ None
  pub here : w.desk t ≡ Some o
  pub number : o.script.number ≡ t
  pub first : o.progress.turn ≡ 0

-- a turn without a record
abbrev pub turning : List Out → Change → Turn
turning os x = record { outs = os; change = x; rec = None }

-- the view z behind w, where t stands so at last
rest-steps :
    (v w z : View) (t : TxId) (o : Open) → CameTo v w t o
    → (os : List Out) (change : Change) (y : Option Open)
    → z.cluster ≡ w.cluster → z.journal ≡ w.journal → z.next ≡ w.next → z.held ≡ w.held → z.acks ≡ w.acks
    → ((u : TxId) → (t == u) ≡ false → z.desk u ≡ w.desk u) → z.desk t ≡ y
    → kept z.cluster t (stage_by None y (z.acks t)) ≡ behind_change change (kept v.cluster t (stage v t))
    → Steps v z t (turning os change)
rest-steps v w z t o came os change y cluster journal next held acks other here stands =
    record {
      cluster = cluster ∙ came.cluster;
      journal = journal ∙ came.journal;
      next = next ∙ came.next;
      held = held ∙ came.held;
      others = λ u apart.
          stage-is z u _ _ _ (ap (undone u) (journal ∙ came.journal)) (other u apart ∙ came.desk u apart)
          (ap (λ f. f u) acks ∙ came.acks u apart);
      same =
          ap (kept z.cluster t)
          (stage-is z t None y (z.acks t) (ap (undone t) (journal ∙ came.journal) ∙ came.undecided) here refl)
          ∙ stands;
    }

-- where no node is preferred, none holds the key
none-holds :
    (c : ClusterData) (home : NodeId) (k : Key) (i : ℕ)
    → slice_get (preferred c.places home k) 0 ≡ None → place_behind (length (holders c.places k)) i ≡ 0
none-holds c home k i none = go (holders c.places k) (is_among home (holders c.places k)) none
  where
    go :
        (hs : List NodeId) (b : Bool)
        → slice_get (if b then home ∷ others home hs else hs) 0 ≡ None → place_behind (length hs) i ≡ 0
    go hs true none = absurd (grind (arith, none))
    go [] false none = grind (arith, nat_tests)
    go (h ∷ hs) false none = absurd (grind (arith, none))

-- a transaction that has taken no turn
turn-stays :
    (o : Open) (i : ℕ)
    → o.progress.turn ≡ 0 → i ≡ 0 → o ≡ record o { progress = record o.progress { turn = i } }
turn-stays o i first none = ap (λ k. record o { progress = record o.progress { turn = k } }) (first ∙ sym none)

-- ---- the end of an advance

request-steps :
    (e : Option Envelope) (s : Option ScriptData) (v w : View) (t : TxId) (o : Open) (os : List Out) (j : ℕ)
    → CameTo v w t o → waiting o.script.ops o.progress.values ≡ Some j
    → Steps v (behind_all e s w (request w.cluster o j 0)) t (turning os (advanced w.cluster t o (Some j)))
request-steps e s v w t o os j came waits = by (op_at o.script.ops j)
  where
    turned : ℕ → Open
    turned i = record o { progress = record o.progress { turn = i } }

    read : ℕ → Change
    read r = Keeps (stand.Reading (record { tx = turned (place_behind r o.progress.turn); op = j }))

    stands :
        (z : View) (i : ℕ)
        → kept z.cluster t (stage_by None (Some (turned i)) (z.acks t))
        ≡ Some (stand.Reading (record { tx = turned i; op = j }))
    stands z i = rw waits refl

    stays : (r : ℕ) → place_behind r o.progress.turn ≡ 0 → Steps v w t (turning os (read r))
    stays r none =
        rest-steps v w w t o came os (read r) (Some (turned (place_behind r o.progress.turn))) refl refl refl refl refl
        (λ u apart. refl)
        (came.here ∙ ap Some (turn-stays o (place_behind r o.progress.turn) came.first none))
        (stands w (place_behind r o.progress.turn))

    by :
        (op : Option Op)
        → Steps v (behind_all e s w (request_of w.cluster o j 0 op)) t (turning os (read (holders_of w.cluster op)))
    by None = stays 0 (grind (arith, nat_tests))
    by (Some op) = to (slice_get (preferred w.cluster.places o.script.home (key_of op)) 0) refl
      where
        r : ℕ
        r = length (holders w.cluster.places (key_of op))

        to :
            (m : Option NodeId) → slice_get (preferred w.cluster.places o.script.home (key_of op)) 0 ≡ m
            → Steps v
            (behind_all e s w
            (to_node m
            (message.ReadReq
            (record {
              t = o.script.number;
              op = j;
              key = key_of op;
              date = date_by o.progress.sid0 o.progress.sid;
            })))) t
            (turning os (read r))
        to None none = stays r (none-holds w.cluster o.script.home (key_of op) o.progress.turn none)
        to (Some m) some =
            rest-steps v w _ t o came os (read r) (Some (turned (place_behind r o.progress.turn)))
            refl refl refl refl refl
            (λ u apart. misses o.script.number t u _ _ came.number apart)
            (hits o.script.number t _ _ came.number ∙ ap (changed_open (with_request r)) came.here)
            (stands w (place_behind r o.progress.turn))

pub end-steps :
    (e : Option Envelope) (s : Option ScriptData) (v w : View) (t : TxId) (o : Open) (os : List Out) (j : Option ℕ)
    → CameTo v w t o → waiting o.script.ops o.progress.values ≡ j
    → Steps v (behind_all e s w (advance_end w.cluster o j)) t (turning os (advanced w.cluster t o j))
end-steps e s v w t o os (Some j) came waits = request-steps e s v w t o os j came waits
end-steps e s v w t o os None came waits = by (is_update o.script.ops) refl
  where
    collects : Change
    collects = Keeps (stand.Collecting (record { t = t; tx = o; parts = parts_now w.cluster o }))

    by :
        (b : Bool) → is_update o.script.ops ≡ b
        → Steps v
        (behind_all e s w
        (if b then prepares w.cluster o (parts_now w.cluster o) else out.Act (act.Finished o.script.number) ∷ [])) t
        (turning os (if b then collects else Goes))
    by true update =
        rw (prepares-behind e s w w.cluster o (parts_now w.cluster o))
        (rest-steps v w w t o came os collects (Some o) refl refl refl refl refl
        (λ u apart. refl) came.here (rw waits refl))
    by false update =
        rest-steps v w _ t o came os Goes None refl refl refl refl refl
        (λ u apart. misses o.script.number t u _ _ came.number apart)
        (hits o.script.number t _ _ came.number ∙ ap if_update came.here ∙ rw update refl)
        refl
