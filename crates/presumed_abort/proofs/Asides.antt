-- Which outs leave every transaction of a desk where it stands?
use Rattle.std.proofs.Common.{◌≡◌, Bool, true, false, ◌&&◌, List, [], ◌∷◌, ◌++◌, Option, Some, None, refl, ap, sym, ◌∙◌, arith}
use Rattle.std.proofs.Math.Path.{fun_ext}
use Rattle.std.specs.List.{list_all}
use Rattle.std.proofs.lemmas.List.Folds.{list_all-append}
use Rattle.score_base.specs.declared.ids.TxId.{TxId}
use Rattle.score_base.specs.declared.ids.Ident.{Ident}
use Rattle.score_base.specs.declared.records.Record.{Record}
use Rattle.script_lang.specs.Scripts.{ScriptData}
use Rattle.journal_words.specs.Journals.{undone}
use Rattle.grid_model.specs.declared.acts.Act.TheVariants as act
use Rattle.grid_model.specs.declared.events.Out.{Out}
use Rattle.grid_model.specs.declared.events.Out.TheVariants as out
use Rattle.grid_model.specs.declared.messages.Envelope.{Envelope}
use Rattle.grid_model.specs.declared.messages.Message.{Message}
use Rattle.grid_model.specs.declared.messages.Message.TheVariants as message
use Rattle.grid_model.specs.Nodes.{written, prepared_by, prepared_from}
use Rattle.grid_model.specs.Views.{View, stage}
use Rattle.grid_model.specs.NextViews.{behind, behind_all}
use Rattle.presumed_abort.specs.declared.stands.Stand.{Stand}
use Rattle.presumed_abort.specs.Views.{kept, IsDeskOf}
use Rattle.presumed_abort.proofs.Stages.{stage-is}

-- a message that asks for no read
abbrev pub is_no_request : Message → Bool
is_no_request (message.ReadReq q) = false
is_no_request said = true

-- the out touches no transaction of a desk
abbrev pub is_aside : Out → Bool
is_aside (out.Send to said) = is_no_request said
is_aside (out.Act (act.Began t n sid0)) = false
is_aside (out.Act (act.Taken t j sid w)) = false
is_aside (out.Act (act.Finished t)) = false
is_aside (out.Act (act.Aborted t n why)) = false
is_aside (out.Act (act.Decided t f)) = false
is_aside (out.Act (act.Closed t)) = false
is_aside o = true

abbrev pub are_aside : List Out → Bool
are_aside os = list_all is_aside os

-- The view w has at its desk what v has.
pub record Aside (v w : View) : Type 0 where
  pub cluster : w.cluster ≡ v.cluster
  pub undone' : (t : TxId) → undone t w.journal ≡ undone t v.journal
  pub desk : (t : TxId) → w.desk t ≡ v.desk t
  pub acks : (t : TxId) → w.acks t ≡ v.acks t

pub aside-more : (v w z : View) → Aside v w → Aside w z → Aside v z
aside-more v w z first next =
    record {
      cluster = next.cluster ∙ first.cluster;
      undone' = λ t. next.undone' t ∙ first.undone' t;
      desk = λ t. next.desk t ∙ first.desk t;
      acks = λ t. next.acks t ∙ first.acks t;
    }

-- ---- one out

prepared-aside :
    (e : Option Envelope) (u t : TxId) (p : Ident) (r : List Record)
    → undone t (written (prepared_by e u p) r) ≡ undone t r
prepared-aside None u t p r = refl
prepared-aside (Some e) u t p r = go e.message
  where
    go : (said : Message) → undone t (written (prepared_from e.from said u p) r) ≡ undone t r
    go (message.Prepare q) = refl
    go said = refl

pub out-aside :
    (e : Option Envelope) (s : Option ScriptData) (v : View) (o : Out) → is_aside o ≡ true → Aside v (behind e s v o)
out-aside e s v (out.Send to (message.ReadReq q)) is = absurd (grind (arith, is))
out-aside e s v (out.Send to said) is =
    record { cluster = refl; undone' = λ t. refl; desk = λ t. refl; acks = λ t. refl }
out-aside e s v (out.Act (act.Began t n sid0)) is = absurd (grind (arith, is))
out-aside e s v (out.Act (act.Taken t j sid w)) is = absurd (grind (arith, is))
out-aside e s v (out.Act (act.Finished t)) is = absurd (grind (arith, is))
out-aside e s v (out.Act (act.Aborted t n why)) is = absurd (grind (arith, is))
out-aside e s v (out.Act (act.Decided t f)) is = absurd (grind (arith, is))
out-aside e s v (out.Act (act.Closed t)) is = absurd (grind (arith, is))
out-aside e s v (out.Act (act.Prepared n u p)) is =
    record {
      cluster = refl;
      undone' = λ t. prepared-aside e u t p v.journal;
      desk = λ t. refl;
      acks = λ t. refl;
    }
out-aside e s v (out.Act a) is =
    record { cluster = refl; undone' = λ t. refl; desk = λ t. refl; acks = λ t. refl }

-- ---- many

pub both : (b c : Bool) → (b && c) ≡ true → (b ≡ true) × (c ≡ true)
both true true is = (refl, refl)
both true false is = absurd (grind (arith, is))
both false c is = absurd (grind (arith, is))

pub outs-aside :
    (e : Option Envelope) (s : Option ScriptData) (v : View) (os : List Out)
    → are_aside os ≡ true → Aside v (behind_all e s v os)
outs-aside e s v [] are = record { cluster = refl; undone' = λ t. refl; desk = λ t. refl; acks = λ t. refl }
outs-aside e s v (o ∷ os) are =
    let known = both (is_aside o) (are_aside os) are in
    aside-more v (behind e s v o) (behind_all e s (behind e s v o) os) (out-aside e s v o known.0)
    (outs-aside e s (behind e s v o) os known.1)

pub are-append : (os ps : List Out) → are_aside os ≡ true → are_aside ps ≡ true → are_aside (os ++ ps) ≡ true
are-append os ps a b = list_all-append is_aside os ps ∙ rw (a, b) refl

-- ---- the desk

pub aside-desk :
    (v w : View) (desk : List (TxId × Stand)) → Aside v w → IsDeskOf v desk → IsDeskOf w desk
aside-desk v w desk aside is =
    is
    ∙ fun_ext
    (λ t. sym
    (ap (λ c. kept c t (stage w t)) aside.cluster
    ∙ ap (kept v.cluster t)
    (stage-is w t _ _ _ (aside.undone' t) (aside.desk t) (aside.acks t))))
