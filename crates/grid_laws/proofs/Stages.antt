-- What stands behind the stage of a transaction: its script, its story and its home.
use Rattle.std.proofs.Common.{◌≡◌, ℕ, Bool, true, false, List, [], ◌∷◌, Option, Some, None, refl, sym, ap, ◌∙◌, arith, zero, suc}
use Rattle.std.proofs.lemmas.Bool.Decides.{nat_tests}
use Rattle.std.specs.Prelude.{◌==◌, if◌then◌else◌, filter, slice_get}
use Rattle.score_base.specs.declared.ids.TxId.{TxId}
use Rattle.score_base.specs.declared.ids.NodeId.{NodeId}
use Rattle.score_base.specs.declared.keys.Key.{Key}
use Rattle.score_base.specs.declared.causes.Ballot.TheVariants as ballot
use Rattle.script_lang.specs.Scripts.{ScriptData}
use Rattle.placement.specs.Places.{is_among, holds, preferred}
use Rattle.grid_model.specs.declared.acts.Act.{Act}
use Rattle.grid_model.specs.declared.acts.Act.TheVariants as act
use Rattle.grid_model.specs.declared.messages.Message.{Message}
use Rattle.grid_model.specs.declared.messages.Message.TheVariants as message
use Rattle.grid_model.specs.declared.stories.Story.{Story}
use Rattle.grid_model.specs.Documents.{DocumentData}
use Rattle.grid_model.specs.Histories.{sent, sent_at}
use Rattle.journal_words.specs.Journals.{Decision, undone}
use Rattle.grid_model.specs.Nodes.{Node, node, script_of}
use Rattle.grid_model.specs.Stories.{phase_at, is_open, story, heard_at}
use Rattle.script_runs.specs.Waits.{waiting}
use Rattle.grid_model.specs.Views.{Open, Reads, Collects, Commits, open_of, open_by, open_at, open_stage, stage_by, stage, view}
use Rattle.grid_laws.proofs.Causes.{AtHome}

-- ---- members

pub among-get : (ns : List NodeId) (i : ℕ) (n : NodeId) → slice_get ns i ≡ Some n → is_among n ns ≡ true
among-get [] i n e = cc
among-get (m ∷ ns) zero n e = grind (arith, nat_tests)
among-get (m ∷ ns) (suc i) n e = grind (arith, among-get ns i n)

pub among-filter : (p : NodeId → Bool) (ns : List NodeId) (n : NodeId) → is_among n (filter p ns) ≡ true
    → is_among n ns ≡ true
among-filter p [] n e = e
among-filter p (m ∷ ns) n e = grind (arith, nat_tests, among-filter p ns n)

-- a node that a home prefers holds the key
pub holds-preferred : (places : List (List NodeId)) (home : NodeId) (k : Key) (n : NodeId)
    → is_among n (preferred places home k) ≡ true → holds places n k ≡ true
holds-preferred places home k n e = grind (arith, nat_tests, among-filter)

-- ---- a script

-- ---- an open transaction

-- x is what n, its home, knows of t, which waits for w
pub record Opens (d : DocumentData) (past : List Act) (n : NodeId) (t : TxId) (x : Open) (w : Option ℕ) : Type 0 where
  pub script : ScriptData
  pub story : Story
  pub at : AtHome d past n t script story
  pub unended : is_open (phase_at script (Some story) (node d past n)) ≡ true
  pub is : x ≡ open_of script story
  pub reads : waiting script.ops story.progress.values ≡ w
  pub new : undone t (node d past n).journal ≡ None

-- the script and the story of an open transaction
record OpenAt (n : NodeId) (h : Node) (o : Option ScriptData) (y : Option Story) (x : Open) : Type 0 where
  script : ScriptData
  story : Story
  some : o ≡ Some script
  home : script.home ≡ n
  told : y ≡ Some story
  unended : is_open (phase_at script (Some story) h) ≡ true
  is : x ≡ open_of script story

open-told : (n : NodeId) (h : Node) (s : ScriptData) (y : Story) (x : Open) (b : Bool)
    → is_open (phase_at s (Some y) h) ≡ b → s.home ≡ n → (if b then Some (open_of s y) else None) ≡ Some x
    → OpenAt n h (Some s) (Some y) x
open-told n h s y x true unended home e = record { script = s; story = y; some = refl; home = home; told = refl; unended = unended; is = cc }
open-told n h s y x false unended home e = cc

open-home : (n : NodeId) (h : Node) (s : ScriptData) (o : Option Story) (x : Open) (b : Bool) → (s.home == n) ≡ b
    → (if b then open_by s (phase_at s o h) o else None) ≡ Some x → OpenAt n h (Some s) o x
open-home n h s None x true home e = cc
open-home n h s (Some y) x true home e = open-told n h s y x (is_open (phase_at s (Some y) h)) refl (grind (arith, nat_tests)) e
open-home n h s o x false home e = cc

open-some : (n : NodeId) (h : Node) (o : Option ScriptData) (y : Option Story) (x : Open) → open_at n h o y ≡ Some x
    → OpenAt n h o y x
open-some n h None y x e = cc
open-some n h (Some s) y x e = open-home n h s y x (s.home == n) refl e

opens-at : (d : DocumentData) (past : List Act) (n : NodeId) (t : TxId) (x : Open) (w : Option ℕ)
    → undone t (node d past n).journal ≡ None → OpenAt n (node d past n) (script_of t d.scripts) (story d past t) x
    → waiting x.script.ops x.progress.values ≡ w → Opens d past n t x w
opens-at d past n t x w new o reads =
    record {
      script = o.script;
      story = o.story;
      at = record { script = o.some; home = o.home; story = o.told };
      unended = o.unended;
      is = o.is;
      reads = rw o.is at reads;
      new = new;
    }

stage-open : (d : DocumentData) (past : List Act) (n : NodeId) (t : TxId) (u : Option Decision) (o : Option Open)
    (acks : List NodeId) (x : Open) (w : Option ℕ) → undone t (node d past n).journal ≡ u
    → open_at n (node d past n) (script_of t d.scripts) (story d past t) ≡ o → stage_by u o acks ≡ open_stage x w
    → Opens d past n t x w
stage-open d past n t (Some y) o acks x None e f is = cc
stage-open d past n t (Some y) o acks x (Some j) e f is = cc
stage-open d past n t None None acks x None e f is = cc
stage-open d past n t None None acks x (Some j) e f is = cc
stage-open d past n t None (Some y) acks x w e f is = same (waiting y.script.ops y.progress.values) w refl is
  where
    same : (v w : Option ℕ) → waiting y.script.ops y.progress.values ≡ v → open_stage y v ≡ open_stage x w
        → Opens d past n t x w
    same None None r is = let s : y ≡ x = cc in opens-at d past n t x None e (open-some n (node d past n) (script_of t d.scripts) (story d past t) x (f ∙ ap (λ z. Some z) s)) (ap (λ (z : Open). waiting z.script.ops z.progress.values) (sym s) ∙ r)
    same (Some i) (Some j) r is =
        let s : y ≡ x = cc in
        let k : i ≡ j = cc in
        opens-at d past n t x (Some j) e (open-some n (node d past n) (script_of t d.scripts) (story d past t) x (f ∙ ap (λ z. Some z) s)) (ap (λ (z : Open). waiting z.script.ops z.progress.values) (sym s) ∙ r ∙ ap (λ z. Some z) k)
    same None (Some j) r is = cc
    same (Some i) None r is = cc

pub opens-reads : (d : DocumentData) (past : List Act) (n : NodeId) (t : TxId) (x : Open) (j : ℕ)
    → stage (view d past n) t ≡ Reads x j → Opens d past n t x (Some j)
opens-reads d past n t x j e = stage-open d past n t (undone t (node d past n).journal) (open_at n (node d past n) (script_of t d.scripts) (story d past t)) _ x (Some j) refl refl e

pub opens-collects : (d : DocumentData) (past : List Act) (n : NodeId) (t : TxId) (x : Open)
    → stage (view d past n) t ≡ Collects x → Opens d past n t x None
opens-collects d past n t x e = stage-open d past n t (undone t (node d past n).journal) (open_at n (node d past n) (script_of t d.scripts) (story d past t)) _ x None refl refl e

commits-by : (u : Option Decision) (o : Option Open) (acks : List NodeId) (y : Decision) (some : List NodeId)
    → stage_by u o acks ≡ Commits y some → u ≡ Some y
commits-by (Some z) o acks y some e = cc
commits-by None (Some x) acks y some e = other (waiting x.script.ops x.progress.values) e
  where
    other : (w : Option ℕ) → open_stage x w ≡ Commits y some → None ≡ Some y
    other None e = cc
    other (Some j) e = cc
commits-by None None acks y some e = cc

pub stage-commits : (d : DocumentData) (past : List Act) (n : NodeId) (t : TxId) (y : Decision) (acks : List NodeId)
    → stage (view d past n) t ≡ Commits y acks → undone t (node d past n).journal ≡ Some y
stage-commits d past n t y acks e = commits-by _ _ _ y acks e

-- ---- what a message leaves of a story

-- a message that a story counts
abbrev pub is_counted : Message → Bool
is_counted (message.Vote t (ballot.Yes p)) = true
is_counted (message.Ack t) = true
is_counted said = false

heard-same : (d : DocumentData) (past : List Act) (s : Option ScriptData) (x n : NodeId) (said : Message)
    (o : Option Story) → is_counted said ≡ false
    → heard_at d past s (Some (record { from = x; to = n; message = said })) o ≡ o
heard-same d past None x n said o e = refl
heard-same d past (Some s) x n said o e = grind (arith, e)

pub story-quiet : (d : DocumentData) (past : List Act) (m : ℕ) (x n : NodeId) (said : Message) (t : TxId)
    → sent_at m (sent past) ≡ Some (record { from = x; to = n; message = said }) → is_counted said ≡ false
    → story d (act.Got m ∷ past) t ≡ story d past t
story-quiet d past m x n said t is e = rw is (heard-same d past (script_of t d.scripts) x n said (story d past t) e)
