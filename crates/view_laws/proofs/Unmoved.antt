-- What an act of one node leaves of another.
use Rattle.std.proofs.Common.{◌≡◌, ℕ, Bool, true, false, ◌&&◌, ◌==◌, List, [], ◌∷◌, Option, Some, None, refl, sym, ap, subst, ◌∙◌, inl, inr, arith}
use Rattle.std.proofs.lemmas.Bool.{and_parts, cases_eq}
use Rattle.std.proofs.lemmas.Bool.Decides.{nat_tests}
use Rattle.std.specs.List.{list_all}
use Rattle.score_base.specs.declared.ids.TxId.{TxId}
use Rattle.score_base.specs.declared.ids.NodeId.{NodeId}
use Rattle.script_lang.specs.Scripts.{ScriptData}
use Rattle.grid_model.specs.declared.acts.Act.{Act}
use Rattle.grid_model.specs.declared.acts.Act.TheVariants as act
use Rattle.grid_model.specs.declared.messages.Message.{Message}
use Rattle.grid_model.specs.declared.messages.Message.TheVariants as message
use Rattle.grid_model.specs.declared.stories.Story.{Story}
use Rattle.grid_model.specs.Disks.{disklog, is_compacting}
use Rattle.grid_model.specs.Documents.{DocumentData}
use Rattle.grid_model.specs.Fuses.{Fuse, fuse, fuse_at_stop, with_opening, with_record}
use Rattle.grid_model.specs.Histories.{after, sent, sent_at}
use Rattle.grid_model.specs.Nodes.{Node, is_home, is_home_in, node, script_of}
use Rattle.grid_model.specs.Stories.{if_told, story, without_answers}
use Rattle.grid_model.specs.Views.{acks_at, open_at, view}
use Rattle.grid_model.proofs.HeardViews.{letter}
use Rattle.grid_model.proofs.ViewSteps.{same-view}
use Rattle.view_laws.specs.Unmoved.{IsUnmoved}
use Rattle.view_laws.proofs.Asleep.{heard-other}

-- ---- an act of a node

-- a message of n's own: a request is of a transaction of n
abbrev pub is_own_message : DocumentData → NodeId → Message → Bool
is_own_message d n (message.ReadReq q) = is_home d q.t n
is_own_message d n said = true

-- an act that changes nothing but node n and its transactions
abbrev pub is_own : DocumentData → NodeId → Act → Bool
is_own d n (act.Began t k sid0) = is_home d t n
is_own d n (act.Sent m x y said) = is_own_message d n said
is_own d n (act.Got m) = false
is_own d n (act.Armed k at how) = k == n
is_own d n (act.Raised k sid) = k == n
is_own d n (act.Served k t op key sid vn v) = k == n
is_own d n (act.Held k t op sid) = k == n
is_own d n (act.Taken t op sid v) = is_home d t n
is_own d n (act.Prepared k t p) = k == n
is_own d n (act.Ended k t o) = k == n
is_own d n (act.Ceiling k c) = k == n
is_own d n (act.Decided t f) = is_home d t n
is_own d n (act.Aborted t k why) = is_home d t n
is_own d n (act.Finished t) = is_home d t n
is_own d n (act.Closed t) = is_home d t n
is_own d n (act.Compacted k) = k == n
is_own d n (act.Down k h) = k == n
is_own d n (act.Up k f) = k == n
is_own d n (act.StillDown k) = k == n
is_own d n (act.Lost t) = is_home d t n
is_own d n a = true

-- ---- other nodes, other transactions

apart : (k n m : NodeId) → (k == n) ≡ true → (n == m) ≡ false → (k == m) ≡ false
apart k n m is other = grind (arith, nat_tests, is, other)

-- a transaction has one home
home-apart : (d : DocumentData) (t : TxId) (n m : NodeId) → is_home d t n ≡ true → (n == m) ≡ false →
    is_home d t m ≡ false
home-apart d t n m is other = go (script_of t d.scripts) is
  where
    go : (o : Option ScriptData) → is_home_in o n ≡ true → is_home_in o m ≡ false
    go None h = refl
    go (Some s) h = apart s.home n m h other

tx-apart : (d : DocumentData) (u t : TxId) (n m : NodeId) → is_home d u n ≡ true → is_home d t m ≡ true →
    (n == m) ≡ false → (u == t) ≡ false
tx-apart d u t n m mine theirs other = elim (cases_eq u t) [
  | inl same ↦
      let never : true ≡ false =
      sym theirs ∙ home-apart d t n m (subst (λ w. is_home d w n ≡ true) same mine) other in
      cc
  | inr different ↦ (grind (arith, nat_tests, different))
]

untold : (b : Bool) (f : Story → Story) (o : Option Story) → b ≡ false → if_told b f o ≡ o
untold true f o e = cc
untold false f None e = refl
untold false f (Some x) e = refl

pub unrecorded : (b : Bool) (o : Option Fuse) → b ≡ false → with_record b o ≡ o
unrecorded b None e = refl
unrecorded b (Some x) e = rw e refl

unopened : (b c : Bool) (o : Option Fuse) → b ≡ false → with_opening (b && c) o ≡ o
unopened b c None e = refl
unopened b c (Some x) e = rw e refl

-- ---- one act

module _ (d : DocumentData) (past : List Act) (n m : NodeId) (other : (n == m) ≡ false) where
  node-unmoved : (a : Act) → is_own d n a ≡ true → node d (a ∷ past) m ≡ node d past m
  node-unmoved (act.Raised k sid) h = rw (apart k n m h other) refl
  node-unmoved (act.Served k t op key sid vn v) h = rw (apart k n m h other) refl
  node-unmoved (act.Held k t op sid) h = rw (apart k n m h other) refl
  node-unmoved (act.Prepared k t p) h = rw (apart k n m h other) refl
  node-unmoved (act.Ended k t o) h = rw (apart k n m h other) refl
  node-unmoved (act.Ceiling k c) h = rw (apart k n m h other) refl
  node-unmoved (act.Decided t f) h = rw (home-apart d t n m h other) refl
  node-unmoved (act.Closed t) h = rw (home-apart d t n m h other) refl
  node-unmoved (act.Down k o) h = rw (apart k n m h other) refl
  node-unmoved (act.Up k f) h = rw (apart k n m h other) refl
  node-unmoved (act.StillDown k) h = rw (apart k n m h other) refl
  node-unmoved a h = refl

  disklog-unmoved : (a : Act) → is_own d n a ≡ true → disklog d (a ∷ past) m ≡ disklog d past m
  disklog-unmoved (act.Raised k sid) h = rw (apart k n m h other) refl
  disklog-unmoved (act.Served k t op key sid vn v) h = rw (apart k n m h other) refl
  disklog-unmoved (act.Held k t op sid) h = rw (apart k n m h other) refl
  disklog-unmoved (act.Prepared k t p) h = rw (apart k n m h other) refl
  disklog-unmoved (act.Ended k t o) h = rw (apart k n m h other) refl
  disklog-unmoved (act.Ceiling k c) h = rw (apart k n m h other) refl
  disklog-unmoved (act.Decided t f) h = rw (home-apart d t n m h other) refl
  disklog-unmoved (act.Closed t) h = rw (home-apart d t n m h other) refl
  disklog-unmoved (act.Compacted k) h = rw (apart k n m h other) refl
  disklog-unmoved (act.Down k o) h = rw (apart k n m h other) refl
  disklog-unmoved (act.Up k f) h = rw (apart k n m h other) refl
  disklog-unmoved (act.StillDown k) h = rw (apart k n m h other) refl
  disklog-unmoved a h = refl

  compacting-unmoved : (a : Act) → is_own d n a ≡ true → is_compacting (a ∷ past) m ≡ is_compacting past m
  compacting-unmoved (act.Down k o) h = rw (apart k n m h other) refl
  compacting-unmoved (act.Up k f) h = rw (apart k n m h other) refl
  compacting-unmoved a h = refl

  fuse-unmoved : (a : Act) → is_own d n a ≡ true → fuse d (a ∷ past) m ≡ fuse d past m
  fuse-unmoved (act.Armed k at how) h = rw (apart k n m h other) refl
  fuse-unmoved (act.Compacted k) h = rw (apart k n m h other) refl
  fuse-unmoved (act.Down k o) h = rw (apart k n m h other) refl
  fuse-unmoved (act.StillDown k) h = rw (apart k n m h other) refl
  fuse-unmoved (act.Up k f) h = unopened (k == m) _ (fuse d past m) (apart k n m h other)
  fuse-unmoved (act.Prepared k t p) h = unrecorded (k == m) (fuse d past m) (apart k n m h other)
  fuse-unmoved (act.Ended k t o) h = unrecorded (k == m) (fuse d past m) (apart k n m h other)
  fuse-unmoved (act.Ceiling k c) h = unrecorded (k == m) (fuse d past m) (apart k n m h other)
  fuse-unmoved (act.Decided t f) h = unrecorded (is_home d t m) (fuse d past m) (home-apart d t n m h other)
  fuse-unmoved (act.Closed t) h = unrecorded (is_home d t m) (fuse d past m) (home-apart d t n m h other)
  fuse-unmoved a h = unrecorded false (fuse d past m) refl

  stop-unmoved : (a : Act) → is_own d n a ≡ true → fuse_at_stop d (a ∷ past) m ≡ fuse_at_stop d past m
  stop-unmoved (act.Down k o) h = rw (apart k n m h other) refl
  stop-unmoved a h = refl

  story-sent : (k : ℕ) (x y : NodeId) (said : Message) (t : TxId) → is_own_message d n said ≡ true →
      is_home d t m ≡ true → story d (act.Sent k x y said ∷ past) t ≡ story d past t
  story-sent k x y (message.ReadReq q) t h theirs =
      untold (q.t == t) _ (story d past t) (tx-apart d q.t t n m h theirs other)
  story-sent k x y said t h theirs = refl

  story-stopped : (k : NodeId) (t : TxId) → (k == n) ≡ true → is_home d t m ≡ true → is_home d t k ≡ false
  story-stopped k t h theirs = elim (cases_eq m k) [
    | inl same ↦ (let never : (k == m) ≡ false = apart k n m h other in absurd (grind (arith, nat_tests, same, never)))
    | inr different ↦ home-apart d t m k theirs (grind (arith, nat_tests, different))
  ]

  story-unmoved : (a : Act) → is_own d n a ≡ true → (t : TxId) → is_home d t m ≡ true →
      story d (a ∷ past) t ≡ story d past t
  story-unmoved (act.Began u k sid0) h t theirs = rw (tx-apart d u t n m h theirs other) refl
  story-unmoved (act.Sent k x y said) h t theirs = story-sent k x y said t h theirs
  story-unmoved (act.Got k) h t theirs = cc
  story-unmoved (act.Taken u j sid v) h t theirs =
      untold (u == t) _ (story d past t) (tx-apart d u t n m h theirs other)
  story-unmoved (act.Finished u) h t theirs =
      untold (u == t) _ (story d past t) (tx-apart d u t n m h theirs other)
  story-unmoved (act.Aborted u k why) h t theirs =
      untold (u == t) _ (story d past t) (tx-apart d u t n m h theirs other)
  story-unmoved (act.Lost u) h t theirs =
      untold (u == t) _ (story d past t) (tx-apart d u t n m h theirs other)
  story-unmoved (act.Down k o) h t theirs =
      untold (is_home d t k) without_answers (story d past t) (story-stopped k t h theirs)
  story-unmoved a h t theirs = refl

-- ---- the view

-- the view of a node is that of the node and of its transactions
pub view-by : (d : DocumentData) (past now : List Act) (n : NodeId) → node d now n ≡ node d past n →
    ((t : TxId) → is_home d t n ≡ true → story d now t ≡ story d past t) → view d now n ≡ view d past n
view-by d past now n same told =
    same-view _ _ refl (ap (λ (h : Node). h.journal) same) (ap (λ (h : Node). h.next) same)
    (ap (λ (h : Node). h.held) same) (λ t. desk t (script_of t d.scripts) refl)
    (λ t. acks t (script_of t d.scripts) refl)
  where
    of : (t : TxId) (s : ScriptData) → script_of t d.scripts ≡ Some s → (s.home == n) ≡ true →
        story d now t ≡ story d past t
    of t s is home = told t (rw is home)

    desk : (t : TxId) (so : Option ScriptData) → script_of t d.scripts ≡ so →
        open_at n (node d now n) so (story d now t) ≡ open_at n (node d past n) so (story d past t)
    desk t None is = refl
    desk t (Some s) is = go (s.home == n) refl
      where
        go : (b : Bool) → (s.home == n) ≡ b →
            open_at n (node d now n) (Some s) (story d now t) ≡ open_at n (node d past n) (Some s) (story d past t)
        go true home = rw (same, of t s is home) refl
        go false home = rw home refl

    acks : (t : TxId) (so : Option ScriptData) → script_of t d.scripts ≡ so →
        acks_at n (node d now n) t so (story d now t) ≡ acks_at n (node d past n) t so (story d past t)
    acks t None is = refl
    acks t (Some s) is = go (s.home == n) refl
      where
        go : (b : Bool) → (s.home == n) ≡ b →
            acks_at n (node d now n) t (Some s) (story d now t) ≡ acks_at n (node d past n) t (Some s) (story d past t)
        go true home = rw (same, of t s is home) refl
        go false home = rw home refl

-- ---- acts

unmoved-act : (d : DocumentData) (past : List Act) (n m : NodeId) (a : Act) → is_own d n a ≡ true →
    (n == m) ≡ false → IsUnmoved d past (a ∷ past) m
unmoved-act d past n m a h other = record {
  view = view-by d past (a ∷ past) m (node-unmoved d past n m other a h) (story-unmoved d past n m other a h);
  node = node-unmoved d past n m other a h;
  disklog = disklog-unmoved d past n m other a h;
  compacting = compacting-unmoved d past n m other a h;
  fuse = fuse-unmoved d past n m other a h;
  fuse_at_stop = stop-unmoved d past n m other a h;
  stories = story-unmoved d past n m other a h;
}

pub unmoved-same : (d : DocumentData) (past : List Act) (m : NodeId) → IsUnmoved d past past m
unmoved-same d past m = record {
  view = refl;
  node = refl;
  disklog = refl;
  compacting = refl;
  fuse = refl;
  fuse_at_stop = refl;
  stories = λ t h. refl;
}

pub unmoved-then : (d : DocumentData) (past now later : List Act) (m : NodeId) → IsUnmoved d past now m →
    IsUnmoved d now later m → IsUnmoved d past later m
unmoved-then d past now later m a b = record {
  view = b.view ∙ a.view;
  node = b.node ∙ a.node;
  disklog = b.disklog ∙ a.disklog;
  compacting = b.compacting ∙ a.compacting;
  fuse = b.fuse ∙ a.fuse;
  fuse_at_stop = b.fuse_at_stop ∙ a.fuse_at_stop;
  stories = λ t h. b.stories t h ∙ a.stories t h;
}

-- acts of one node leave another
pub unmoved-acts : (d : DocumentData) (past acts : List Act) (n m : NodeId) → list_all (is_own d n) acts ≡ true →
    (n == m) ≡ false → IsUnmoved d past (after past acts) m
unmoved-acts d past [] n m h other = unmoved-same d past m
unmoved-acts d past (a ∷ acts) n m h other =
    let parts = and_parts (is_own d n a) (list_all (is_own d n) acts) h in
    unmoved-then d past (a ∷ past) (after (a ∷ past) acts) m (unmoved-act d past n m a parts.0 other)
    (unmoved-acts d (a ∷ past) acts n m parts.1 other)

-- a message that comes to one node leaves another
pub unmoved-got : (d : DocumentData) (past : List Act) (n x : NodeId) (k : ℕ) (said : Message) (m : NodeId) →
    sent_at k (sent past) ≡ Some (letter n x said) → (n == m) ≡ false → IsUnmoved d past (act.Got k ∷ past) m
unmoved-got d past n x k said m is other =
    let told : (t : TxId) → is_home d t m ≡ true → story d (act.Got k ∷ past) t ≡ story d past t =
    λ t home. rw is (heard-other d past t m (letter n x said) (story d past t) home other) in
    record {
      view = view-by d past (act.Got k ∷ past) m refl told;
      node = refl;
      disklog = refl;
      compacting = refl;
      fuse = unrecorded false (fuse d past m) refl;
      fuse_at_stop = refl;
      stories = told;
    }

-- an act that changes nothing leaves each node
pub unmoved-idle : (d : DocumentData) (past : List Act) (a : Act) (m : NodeId) → node d (a ∷ past) m ≡ node d past m →
    disklog d (a ∷ past) m ≡ disklog d past m → is_compacting (a ∷ past) m ≡ is_compacting past m →
    fuse d (a ∷ past) m ≡ fuse d past m → fuse_at_stop d (a ∷ past) m ≡ fuse_at_stop d past m →
    ((t : TxId) → story d (a ∷ past) t ≡ story d past t) → IsUnmoved d past (a ∷ past) m
unmoved-idle d past a m node disk compacting fuse stop told = record {
  view = view-by d past (a ∷ past) m node (λ t h. told t);
  node = node;
  disklog = disk;
  compacting = compacting;
  fuse = fuse;
  fuse_at_stop = stop;
  stories = λ t h. told t;
}
