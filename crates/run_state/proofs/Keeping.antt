-- What is kept act by act tells what the acts tell.
use Rattle.std.proofs.Common.{◌≡◌, ◌≤◌, ℕ, ◌||◌, ◌++◌, Bool, List, [], ◌∷◌, length, Option, refl, ap, ◌∙◌}
use Rattle.grid_model.specs.declared.acts.Act.{Act}
use Rattle.grid_model.specs.declared.acts.Act.TheVariants as act
use Rattle.grid_model.specs.declared.messages.Envelope.{Envelope}
use Rattle.grid_model.specs.declared.stories.Story.{Story}
use Rattle.grid_model.specs.Documents.{DocumentData}
use Rattle.grid_model.specs.Histories.{after, sent, sent_at, is_gone}
use Rattle.grid_model.specs.Nodes.{Node, got, change, changed}
use Rattle.run_state.specs.Kept.{Keeps, posted, got_by, going, is_number, is_marked, node_in, telling, retold_by}
use Rattle.run_state.proofs.ForCode.{after-append}
use Rattle.run_state.proofs.Told.{stories-more}

sent-more : (a : Act) (ms : List Envelope) (past : List Act) → ms ≡ sent past → posted a ms ≡ sent (a ∷ past)
sent-more (act.Sent m x y said) ms past e = rw e refl
sent-more a ms past e = e

got-more : (a : Act) (ms : List Envelope) (last : Option Envelope) (past : List Act) → ms ≡ sent past → last ≡ got past
    → got_by a ms last ≡ got (a ∷ past)
got-more (act.Got m) ms last past e g = ap (sent_at m) e
got-more a ms last past e g = g

gone-more : (a : Act) (past : List Act) (k : ℕ) → (is_number (going a) k || is_gone past k) ≡ is_gone (a ∷ past) k
gone-more (act.Got m) past k = refl
gone-more (act.Missed m) past k = refl
gone-more (act.Dropped m) past k = refl
gone-more a past k = refl

pub keeps-more : (d : DocumentData) (past : List Act) (a : Act) (ms : List Envelope) (marks marks' : List Bool)
    (last : Option Envelope) (nodes nodes' : List Node) (stories : List (ℕ × Story))
    → Keeps d past ms marks last nodes stories
    → ((k : ℕ) → is_marked marks' k ≡ (is_number (going a) k || is_marked marks k))
    → length nodes' ≡ 16
    → ((n : ℕ) → 1 ≤ n → n ≤ 16 → node_in nodes' n ≡ changed (change d last a n) (node_in nodes n))
    → Keeps d (a ∷ past) (posted a ms) marks' (got_by a ms last) nodes' (retold_by d a (telling d past a) stories)
keeps-more d past a ms marks marks' last nodes nodes' stories k marked count each = record {
  sent_is = sent-more a ms past k.sent_is;
  gone_is = λ m. marked m ∙ ap (λ b. is_number (going a) m || b) (k.gone_is m) ∙ gone-more a past m;
  got_is = got-more a ms last past k.sent_is k.got_is;
  nodes_are = record {
    count = count;
    each = λ n p q. each n p q ∙ ap (λ e. changed (change d e a n) (node_in nodes n)) k.got_is ∙ ap (changed (change d (got past) a n)) (k.nodes_are.each n p q);
  };
  stories_are = stories-more d past a stories k.stories_are;
}

-- the same of lists that are what they should be
pub keeps-act : (d : DocumentData) (acts acts' : List Act) (a : Act) (ms ms' : List Envelope) (marks marks' : List Bool)
    (last last' : Option Envelope) (nodes nodes' : List Node) (stories stories' : List (ℕ × Story))
    (o : Option (ℕ × Story))
    → Keeps d (after [] acts) ms marks last nodes stories
    → acts' ≡ acts ++ a ∷ []
    → ms' ≡ posted a ms
    → ((k : ℕ) → is_marked marks' k ≡ (is_number (going a) k || is_marked marks k))
    → last' ≡ got_by a ms last
    → length nodes' ≡ 16
    → ((n : ℕ) → 1 ≤ n → n ≤ 16 → node_in nodes' n ≡ changed (change d last a n) (node_in nodes n))
    → o ≡ telling d (after [] acts) a
    → stories' ≡ retold_by d a o stories
    → Keeps d (after [] acts') ms' marks' last' nodes' stories'
keeps-act d acts acts' a ms ms' marks marks' last last' nodes nodes' stories stories' o k acts-are ms-are marked last-is count each o-is stories-are =
    let kept : Keeps d (a ∷ after [] acts) (posted a ms) marks' (got_by a ms last) nodes' (retold_by d a (telling d (after [] acts) a) stories) = keeps-more d (after [] acts) a ms marks marks' last nodes nodes' stories k marked count each in
    rw (acts-are, after-append [] acts (a ∷ []), ms-are, last-is, stories-are, o-is) kept
