-- Few messages are sent and few reads are held: what one event adds, whatever its disks choose.
use Rattle.std.proofs.Common.{◌≡◌, ℕ, ◌+◌, ◌≤◌, Bool, true, false, List, [], ◌∷◌, length, arith, if◌then◌else◌}
use Rattle.std.specs.List.{list_all}
use Rattle.script_lang.specs.Scripts.{ScriptData}
use Rattle.grid_model.specs.declared.acts.Act.{Act}
use Rattle.grid_model.specs.declared.acts.Act.TheVariants as act
use Rattle.grid_model.specs.declared.acts.Flag.{Flag}
use Rattle.grid_model.specs.declared.events.Event.{Event}
use Rattle.grid_model.specs.declared.events.Event.TheVariants as event
use Rattle.grid_model.specs.declared.events.Out.{Out}
use Rattle.grid_model.specs.declared.items.Item.{Item}
use Rattle.grid_model.specs.declared.messages.Message.{Message}
use Rattle.grid_model.specs.Sessions.{floor_at}
use Rattle.grid_model.specs.Documents.{DocumentData}
use Rattle.grid_model.specs.Histories.{after}
use Rattle.grid_model.specs.Nodes.{node}
use Rattle.grid_model.specs.Views.{view, stage, participant}
use Rattle.grid_model.specs.Fitness.{tx_in, is_fit_begin}
use Rattle.grid_model.specs.Disks.{is_compacting}
use Rattle.grid_model.specs.Rows.{outs_of, compact_outs, answer, begin_outs, retry_outs, ask_outs, ask_peer_outs}
use Rattle.grid_model.specs.Schedules.{Choice, numbered, next_number, flag_at, losses, kept, opened_row, row}
use Rattle.grid_model.proofs.EventShapes.{Shape, idle, arms, crashes, restarts, begins, delivers, again, IsAgain, retries, asks, asks_peer, compacts, is_idle, acts_by, by-shape}
use Rattle.count_laws.specs.Few.{sends, IsFew}
use Rattle.count_laws.proofs.Counts.{Counts, counts-more, counts-begin, counts-answer, counts-retry, counts-ask, counts-ask_peer, counts-compact, counts-if, counts-none, counts-kept}
use Rattle.count_laws.proofs.Posts.{Adds, adds-numbered, sent-after, held-after}
use Rattle.count_laws.proofs.Shorts.{short-at}
use Rattle.count_laws.proofs.Losses.{are_lost, losses-lost, lost-posts, lost-holdings}

-- ---- what nodes give

pub few-begin : (d : DocumentData) (past : List Act) (k : ℕ) (s : ScriptData) (floor n : ℕ)
    → Counts (16 + k) 1 (begin_outs n (participant (view d past n)) s floor)
few-begin d past k s floor n = counts-more 16 0 (16 + k) 1 (begin_outs n (participant (view d past n)) s floor) (omega arith) (omega arith) (counts-begin n (participant (view d past n)) s floor)

pub few-answer : (d : DocumentData) (past : List Act) (k n x : ℕ) (said : Message) → IsFew d past k
    → Counts (16 + k) 1 (answer n (view d past n) x said)
few-answer d past k n x said f = counts-more (16 + length (node d past n).held) 1 (16 + k) 1 (answer n (view d past n) x said) (omega (arith, f.held_few n)) (omega arith) (counts-answer n (participant (view d past n)) (view d past n).held (stage (view d past n) (tx_in said)) x said)

pub few-retry : (d : DocumentData) (past : List Act) (k n t : ℕ)
    → Counts (16 + k) 1 (retry_outs d.cluster t (stage (view d past n) t))
few-retry d past k n t = counts-more 16 0 (16 + k) 1 (retry_outs d.cluster t (stage (view d past n) t)) (omega arith) (omega arith) (counts-retry d.cluster t (stage (view d past n) t) (short-at d past n t _ _))

few-ask : (d : DocumentData) (past : List Act) (k n t : ℕ) → Counts (16 + k) 1 (ask_outs (participant (view d past n)) t)
few-ask d past k n t = counts-more 1 0 (16 + k) 1 (ask_outs (participant (view d past n)) t) (omega arith) (omega arith) (counts-ask (participant (view d past n)) t)

few-ask_peer : (d : DocumentData) (past : List Act) (k n t m : ℕ)
    → Counts (16 + k) 1 (ask_peer_outs (participant (view d past n)) t m)
few-ask_peer d past k n t m = counts-more 1 0 (16 + k) 1 (ask_peer_outs (participant (view d past n)) t m) (omega arith) (omega arith) (counts-ask_peer (participant (view d past n)) t m)

few-compact : (k n : ℕ) → Counts (16 + k) 1 (compact_outs n)
few-compact k n = counts-more 0 0 (16 + k) 1 (compact_outs n) (omega arith) (omega arith) (counts-compact n)

-- what a node gives at an event
pub few-outs : (d : DocumentData) (past : List Act) (n k : ℕ) (e : Event) → IsFew d past k
    → Counts (16 + k) 1 (outs_of n (view d past n) e)
few-outs d past n k (event.Begin s floor) f =
    counts-if (is_fit_begin n (view d past n) s floor) (16 + k) 1 _ [] (few-begin d past k s floor n) (counts-none (16 + k) 1)
few-outs d past n k (event.Deliver x said) f = few-answer d past k n x said f
few-outs d past n k (event.Retry t) f = few-retry d past k n t
few-outs d past n k (event.Ask t) f = few-ask d past k n t
few-outs d past n k (event.AskPeer t m) f = few-ask_peer d past k n t m
few-outs d past n k event.Compact f = few-compact k n

pub outs-few : (d : DocumentData) (past : List Act) (n k : ℕ) (e : Event) → IsFew d past k
    → sends (outs_of n (view d past n) e) ≤ 16 + k
outs-few d past n k e f = (few-outs d past n k e f).sent

-- ---- the rows

adds-kept : (past : List Act) (k n : ℕ) (b : Bool) (os : List Out) → Counts k 1 os
    → Adds k (numbered (next_number past) n (kept b n os))
adds-kept past k n b os c = adds-numbered k 1 (next_number past) n (kept b n os) (omega arith) (counts-kept b k 1 n os c)

adds-got : (k m : ℕ) (acts : List Act) → Adds k acts → Adds k (act.Got m ∷ acts)
adds-got k m acts a = record { sent = a.sent; held = a.held }

adds-idle : (k : ℕ) (acts : List Act) → list_all is_idle acts ≡ true → Adds k acts
adds-idle k [] is = record { sent = omega arith; held = omega arith }
adds-idle k (act.Void code ∷ acts) is = let a = adds-idle k acts is in record { sent = a.sent; held = a.held }
adds-idle k (act.Missed m ∷ acts) is = let a = adds-idle k acts is in record { sent = a.sent; held = a.held }
adds-idle k (act.Dropped m ∷ acts) is = let a = adds-idle k acts is in record { sent = a.sent; held = a.held }
adds-idle k (a ∷ acts) is = cc

adds-opened : (d : DocumentData) (past : List Act) (k n : ℕ) (f : Flag) → Adds k (opened_row d past n f)
adds-opened d past k n f =
    let lost : are_lost (losses d (act.Up n f ∷ past) n) ≡ true = losses-lost d (act.Up n f ∷ past) n in
    record {
      sent = omega (arith, lost-posts (losses d (act.Up n f ∷ past) n) lost);
      held = omega (arith, lost-holdings (losses d (act.Up n f ∷ past) n) lost);
    }

adds-opening : (d : DocumentData) (past : List Act) (k n : ℕ) (f : Flag) (opens : Bool)
    → Adds k (if opens then opened_row d past n f else act.StillDown n ∷ [])
adds-opening d past k n f true = adds-opened d past k n f
adds-opening d past k n f false = record { sent = omega arith; held = omega arith }

few-again : (d : DocumentData) (past : List Act) (k n : ℕ) (os : List Out) → IsAgain d past n os → Counts (16 + k) 1 os
few-again d past k n os (retries t is) = rw is (few-retry d past k n t)
few-again d past k n os (asks t is) = rw is (few-ask d past k n t)
few-again d past k n os (asks_peer t m is) = rw is (few-ask_peer d past k n t m)
few-again d past k n os (compacts is) = rw is (few-compact k n)

adds-shape : (d : DocumentData) (past : List Act) (k : ℕ) (i : Item) (c : Choice) → IsFew d past k → (s : Shape d past i)
    → Adds (16 + k) (acts_by d past i c s)
adds-shape d past k i c f (idle acts is) = adds-idle (16 + k) acts is
adds-shape d past k i c f (arms n j how is) = record { sent = omega arith; held = omega arith }
adds-shape d past k i c f (crashes n up) = record { sent = omega arith; held = omega arith }
adds-shape d past k i c f (restarts n up) =
    adds-opening d past (16 + k) n (flag_at (is_compacting past n) (node d past n).doubt c.finds) c.opens
adds-shape d past k i c f (begins s is new up quiet) =
    adds-kept past (16 + k) s.home c.keeps _ (few-begin d past k s (floor_at d past s) s.home)
adds-shape d past k i c f (delivers m e is up) =
    adds-got (16 + k) m _ (adds-kept past (16 + k) e.to c.keeps _ (few-answer d past k e.to e.from e.message f))
adds-shape d past k i c f (again n os up is) = adds-kept past (16 + k) n c.keeps os (few-again d past k n os is)

-- one event more, whatever its disks choose
pub few-row : (d : DocumentData) (past : List Act) (k : ℕ) (i : Item) (c : Choice) → k ≤ 50000 → IsFew d past k
    → IsFew d (after past (row d past i c)) (k + 1)
few-row d past k i c h f =
    let a : Adds (16 + k) (row d past i c) = by-shape d past i c (Adds (16 + k)) (adds-shape d past k i c f) in
    record {
      sent_few = omega (arith, sent-after past (row d past i c), a.sent, f.sent_few, h);
      held_few = λ n. omega (arith, held-after d past (row d past i c) n, a.held, f.held_few n);
    }
