-- The text of the tally of a run's first acts is their summary.
use Rattle.std.proofs.Common.{◌≡◌, ℕ, ◌==◌, Bool, true, false, ◌&&◌, List, [], ◌∷◌, ◌++◌, codes, Option, Some, None, refl, sym, ap, subst, ◌∙◌, arith, if◌then◌else◌}
use Rattle.std.proofs.lemmas.Bool.{or_right}
use Rattle.std.proofs.lemmas.Bool.Decides.{nat_tests}
use Rattle.std.specs.Fmt.{decimal}
use Rattle.std.specs.List.{flat_map, range_with_len}
use Rattle.std.specs.Option.{option_map}
use Rattle.score_base.specs.declared.ids.TxId.{TxId}
use Rattle.score_base.specs.declared.ids.NodeId.{NodeId}
use Rattle.score_base.specs.declared.ids.Ident.{Ident}
use Rattle.score_base.specs.declared.ids.Value.{Value}
use Rattle.score_base.specs.declared.keys.Key.{Key}
use Rattle.score_base.specs.declared.causes.Outcome.TheVariants as outcome
use Rattle.score_base.specs.declared.records.Record.{Record}
use Rattle.script_lang.specs.declared.scripts.Op.{Op}
use Rattle.script_lang.specs.Scripts.{ScriptData}
use Rattle.placement.specs.Places.{holds}
use Rattle.placement.specs.Clusters.{init}
use Rattle.journal_words.specs.declared.versions.Version.{Version}
use Rattle.journal_words.specs.Journals.{pendings, commits, applied_of, best, decision, is_clear, is_closed, later, later_decision, newest_version, prepared_of, wrote_in}
use Rattle.grid_model.specs.declared.acts.Act.{Act}
use Rattle.grid_model.specs.declared.stories.Story.{Story}
use Rattle.grid_model.specs.Documents.{DocumentData, script_numbers, keys_of_document, key_order, number_order}
use Rattle.grid_model.specs.Histories.{after}
use Rattle.grid_model.specs.Keyed.{at_key}
use Rattle.grid_model.specs.Nodes.{journal, node, script_of}
use Rattle.grid_model.specs.Stories.{skipped_in, story}
use Rattle.grid_model.specs.Runs.{IsRun, Rows}
use Rattle.grid_model.specs.Schedules.{start_row, events_in}
use Rattle.grid_model.specs.declared.items.Item.{Item}
use Rattle.grid_model.specs.Cuts.{IsCutRun, cut}
use Rattle.history_print.specs.Acts.{line}
use Rattle.history_print.specs.Begun.{story_words}
use Rattle.history_print.specs.Text.{tx_line, script_line, tx_lines, version_line, holder_line, key_lines, keys_lines, summary_by, summary_text}
use Rattle.run_tally.specs.Tallies.{NodeData, node_in, tally_of}
use Rattle.run_tally.specs.Texts.{tx_words, told_line, told_lines, wrote_by, newest_of, newest_at, told_key, told_holders, told_keys, TallyText}
use Rattle.run_tally.proofs.ForCode.{AllDue, all-count, later-all, nodes-fit, commits-ended, ended-prepared, has_pair, due-run, story_same, after-append}
use Rattle.run_tally.proofs.Entries.{tally, tally-after}
use Rattle.run_tally.proofs.TxsTold.{tx_of, txs-told}
use Rattle.run_tally.proofs.NodesTold.{NodeTold, nodes-told, at-finals}
use Rattle.run_tally.proofs.WritesNoted.{prepared-noted}

-- the same lines, one for each
lines-same : {A : Type 0} (f g : A → List ℕ) (xs : List A) → ((x : A) → f x ≡ g x) → flat_map f xs ≡ flat_map g xs
lines-same f g [] same = refl
lines-same f g (x ∷ xs) same = rw (same x, lines-same f g xs same) refl

-- ---- transactions

words-same : (ops : List Op) (o : Option Story) (f : Option Ident) → tx_words ops (tx_of o) f ≡ story_words ops o f
unfolding tx_words story_words
words-same ops None f = refl
words-same ops (Some x) f = refl

-- the final identifier of the decision that stands
pub final-told : (d : DocumentData) (past : List Act) → AllDue d past → (t : TxId) (n : NodeId) →
    at_key t (node_in n (tally d past).nodes).decided ≡ option_map (λ y. y.final)
    (later_decision (skipped_in (story d past t)) t (journal d past n))
final-told d past due t n =
    let P : ℕ → Type 0 = λ k. decision t (journal d past n) ≡ later_decision k t (journal d past n) in
    let stands : decision t (journal d past n) ≡ later_decision (skipped_in (story d past t)) t (journal d past n) =
    subst P (sym (all-count d past due t)) (sym (later-all t (journal d past n))) in
    ap (at_key t) (nodes-told d past due n).decided ∙ at-finals t (journal d past n)
    ∙ ap (option_map (λ y. y.final)) stands

tx-told : (d : DocumentData) (past : List Act) → AllDue d past → (o : Option ScriptData) →
    told_line (tally d past) o ≡ script_line (story d past) (journal d past) o
unfolding told_line script_line tx_line
tx-told d past due None = refl
tx-told d past due (Some s) =
    let t : TxId = s.number in
    let o : Option Story = story d past t in
    let r : List Record = journal d past s.home in
    ap (λ ws. line (codes "tx" ∷ decimal t ∷ ws))
    (rw (txs-told d past t, final-told d past due t s.home)
    (words-same s.ops o _ ∙ story_same s.ops o (is_closed t r) (later_decision (skipped_in o) t r)))

txs-same : (d : DocumentData) (past : List Act) → AllDue d past →
    told_lines d.scripts (tally d past) ≡ tx_lines d.scripts (story d past) (journal d past)
unfolding told_lines tx_lines
txs-same d past due = lines-same (λ t. told_line (tally d past) (script_of t d.scripts))
    (λ t. script_line (story d past) (journal d past) (script_of t d.scripts))
    (number_order (script_numbers d.scripts)) (λ t. tx-told d past due (script_of t d.scripts))

-- ---- keys

-- what these commits wrote to k is what the notes say
abbrev WroteAs : NodeData → List Record → Key → List (TxId × Ident) → Type 0
WroteAs x r k [] = Unit {0}
WroteAs x r k (y ∷ ys) = (wrote_by (at_key y.0 x.writes) k ≡ wrote_in (prepared_of y.0 r) k) × WroteAs x r k ys

newest-if : (b : Bool) (r : List Record) (k : Key) (start : Value) (y : TxId × Ident) (zs : List (TxId × Ident))
    (w : Option Value) (v : Version) → w ≡ wrote_in (prepared_of y.0 r) k → v ≡ best r k start zs →
    (if b then later y.1 y.0 w v else v) ≡ best r k start (if b then y ∷ zs else zs)
newest-if true r k start y zs w v same rest = rw (same, rest) refl
newest-if false r k start y zs w v same rest = rest

newest-same : (x : NodeData) (r : List Record) (k : Key) (start : Value) (ys : List (TxId × Ident)) →
    x.pending ≡ pendings r → WroteAs x r k ys → newest_of x k start ys ≡ best r k start (applied_of r ys)
newest-same x r k start [] same wrote = refl
newest-same x r k start (y ∷ ys) same wrote =
    rw same (newest-if (is_clear y.1 r) r k start y (applied_of r ys) (wrote_by (at_key y.0 x.writes) k) (newest_of x k start ys) wrote.0 (newest-same x r k start ys same wrote.1))

-- a commit of n wrote what is noted of it
wrote-noted : (d : DocumentData) (past : List Act) → AllDue d past → (n : NodeId) (k : Key) (t : TxId) (f : Ident) →
    has_pair t f (commits (journal d past n)) ≡ true →
    wrote_by (at_key t (node_in n (tally d past).nodes).writes) k ≡ wrote_in (prepared_of t (journal d past n)) k
wrote-noted d past due n k t f has =
    let fits = (nodes-fit d past due n).fits in
    let y = ended-prepared d.cluster n t (outcome.Commit f) (journal d past n) fits
    (commits-ended d.cluster n t f (journal d past n) fits has) in
    rw (prepared-noted d past due n t y.0 y.1, y.1) refl

wrote-all : (d : DocumentData) (past : List Act) → AllDue d past →
    (n : NodeId) (k : Key) (ys : List (TxId × Ident)) →
    ((t : TxId) (f : Ident) → has_pair t f ys ≡ true → has_pair t f (commits (journal d past n)) ≡ true) →
    WroteAs (node_in n (tally d past).nodes) (journal d past n) k ys
wrote-all d past due n k [] among = tt
wrote-all d past due n k (y ∷ ys) among = (
  wrote-noted d past due n k y.0 y.1 (among y.0 y.1 (grind (arith, nat_tests))),
  wrote-all d past due n k ys (λ t f has. among t f (or_right (y.0 == t && y.1 == f) (has_pair t f ys) has)),
)

version-same : (d : DocumentData) (past : List Act) → AllDue d past → (n : NodeId) (k : Key) (start : Value) →
    newest_at (node_in n (tally d past).nodes) k start ≡ newest_version (journal d past n) k start
version-same d past due n k start =
    let x : NodeData = node_in n (tally d past).nodes in
    let s : NodeTold x (node d past n) = nodes-told d past due n in
    ap (newest_of x k start) s.commits
    ∙ newest-same x (journal d past n) k start (commits (journal d past n)) s.pending
    (wrote-all d past due n k (commits (journal d past n)) (λ t f has. has))

key-told : (d : DocumentData) (past : List Act) → AllDue d past → (k : Key) (n : NodeId) →
    told_key d.cluster (tally d past) k n ≡ holder_line d.cluster (journal d past) k n
unfolding told_key holder_line
key-told d past due k n = ap (λ v. if holds d.cluster.places n k then version_line k n v else [])
    (version-same d past due n k (init d.cluster k))

holders-told : (d : DocumentData) (past : List Act) → AllDue d past → (k : Key) →
    told_holders d.cluster (tally d past) k ≡ key_lines d.cluster (journal d past) k
unfolding told_holders key_lines
holders-told d past due k = lines-same (told_key d.cluster (tally d past) k)
    (holder_line d.cluster (journal d past) k) (range_with_len 1 16) (λ n. key-told d past due k n)

keys-same : (d : DocumentData) (past : List Act) → AllDue d past →
    told_keys d (tally d past) ≡ keys_lines d (journal d past)
unfolding told_keys keys_lines
keys-same d past due = lines-same (told_holders d.cluster (tally d past)) (key_lines d.cluster (journal d past))
    (key_order (keys_of_document d.cluster.inits d.scripts)) (λ k. holders-told d past due k)

-- ---- the whole

text-same : (d : DocumentData) (past : List Act) → AllDue d past →
    TallyText d (tally d past) ≡ summary_by d (story d past) (journal d past)
unfolding TallyText summary_by
text-same d past due = rw (txs-same d past due, keys-same d past due) refl

-- each act of the first acts of a run was due
due-front : (d : DocumentData) (past acts : List Act) → AllDue d (after past acts) → AllDue d past
due-front d past [] due = due
due-front d past (a ∷ acts) due = (due-front d (a ∷ past) acts due).1

-- each of the first acts of a run was due
pub due-first : (d : DocumentData) (items : List Item) (acts later : List Act) → IsRun d items (acts ++ later) →
    AllDue d (after [] acts)
due-first d items acts later run =
    let P : List Act → Type 0 = λ p. AllDue d p in
    let all : AllDue d (after (after [] acts) later) =
    subst P (after-append [] acts later) (due-run d items (acts ++ later) run) in
    due-front d (after [] acts) later all

-- the tally of acts is that of the past that they make
pub tally-first : (d : DocumentData) (acts : List Act) → tally_of d acts ≡ tally d (after [] acts)
tally-first d acts = tally-after d [] acts

pub tally-text : (d : DocumentData) (items : List Item) (acts later : List Act) → IsRun d items (acts ++ later) →
    TallyText d (tally_of d acts) ≡ summary_text d acts
tally-text d items acts later run =
    ap (TallyText d) (tally-first d acts) ∙ text-same d (after [] acts) (due-first d items acts later run)

-- a run of the cut document is one of the document, with its first events as items
rows-uncut : (d : DocumentData) (e : ℕ) (past : List Act) (es : List Item) (h : List Act) →
    Rows (cut e d) past es h → Rows d past es h
unfolding Rows
rows-uncut d e past es h is = is

-- a run of the cut document
pub run-uncut : (d : DocumentData) (e : ℕ) (h : List Act) → IsCutRun d e h → IsRun d (cut e d).items h
run-uncut d e h run = record {
  opens = run.opens;
  rest = run.rest;
  start = run.start;
  rows = rows-uncut d e (after [] (start_row d.cluster.nodes run.opens))
      (flat_map events_in (cut e d).items) run.rest run.rows;
}

pub tally-cut : (d : DocumentData) (e : ℕ) (acts later : List Act) → IsCutRun d e (acts ++ later) →
    TallyText d (tally_of d acts) ≡ summary_text d acts
tally-cut d e acts later run = tally-text d (cut e d).items acts later (run-uncut d e (acts ++ later) run)
