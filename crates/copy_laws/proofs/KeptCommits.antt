-- Each committed update stands in all lists of records that the disks may hold, with the values of the
-- serial copy.
use Rattle.std.proofs.Common.{Bool, false, inl, inr, ◌≡◌, ◌⊎◌, ◌||◌, is_some, true, List, [], ◌∷◌, ◌++◌, reverse, Option, Some, None, refl, sym, ap, subst, ◌∙◌, arith}
use Rattle.std.proofs.lemmas.Bool.{and_parts, both_ways, or_cases, or_right}
use Rattle.std.proofs.lemmas.Bool.Decides.{nat_tests}
use Rattle.std.proofs.lemmas.List.{reverse-reverse}
use Rattle.std.specs.List.{list_all}
use Rattle.std.specs.Prelude.{◌==◌, ◌&&◌, filter, if◌then◌else◌}
use Rattle.score_base.specs.declared.ids.TxId.{TxId}
use Rattle.score_base.specs.declared.ids.NodeId.{NodeId}
use Rattle.score_base.specs.declared.ids.Ident.{Ident}
use Rattle.score_base.specs.declared.keys.Key.{Key}
use Rattle.score_base.specs.declared.causes.Outcome.TheVariants as outcome
use Rattle.score_base.specs.declared.records.Record.{Record}
use Rattle.score_base.specs.declared.records.Record.TheVariants as record'
use Rattle.script_lang.specs.Scripts.{ScriptData}
use Rattle.script_lang.specs.Reads.{is_key_among, is_update, written_keys}
use Rattle.placement.specs.Places.{holds, is_among}
use Rattle.grid_model.specs.declared.acts.Act.{Act}
use Rattle.grid_model.specs.Documents.{DocumentData}
use Rattle.script_runs.specs.Serials.{Map, map_behind}
use Rattle.journal_words.specs.Journals.{Decision, Prepared, decision, ended, prepared_of, undone, has_commit, has_decided, is_closed}
use Rattle.journal_words.specs.Small.{small, of_participant}
use Rattle.grid_model.specs.Nodes.{is_home, is_home_in, journal, parts_in, script_of}
use Rattle.script_runs.specs.Waits.{waiting}
use Rattle.script_runs.specs.Walks.{own_map}
use Rattle.grid_model.specs.Copies.{copy_of, is_finished, order}
use Rattle.grid_model.specs.Facts.{is_over, IsDecided, RestsOnParts}
use Rattle.grid_model.specs.Claims.{AreLogs, IsKept, IsLog, in_doubt, standing, compacting, has_ended, writes_at, writes_on}
use Rattle.grid_model.specs.Disks.{disklog, is_compacting, was_compacted}
use Rattle.journal_words.proofs.ParticipantWords.{same_word, prepared-reads}
use Rattle.journal_words.proofs.AlikeWords.{small-participant, small-undone}
use Rattle.grid_model.proofs.DiskLists.{IsPlain, disk-alike, uncompacted}
use Rattle.grid_laws.proofs.ClosedSay.{closed-say, closed-stands}
use Rattle.grid_laws.proofs.DecisionsOnce.{decided-same}
use Rattle.grid_laws.proofs.MessagesBacked.{commit-decided}
use Rattle.script_lang.proofs.KeyLists.{among-here, among-later}
use Rattle.journal_words.proofs.Decisions.{decision-has, has_decided-grows, has_decided-says, undone-says}
use Rattle.journal_words.proofs.Once.{prepared-stays}
use Rattle.journal_words.proofs.Stands.{has_commit-says, has_prepared-says}
use Rattle.grid_model.proofs.Undecided.{script-number}
use Rattle.grid_model.proofs.Written.{among-filter, with_values}
use Rattle.script_runs.proofs.SerialWalks.{AreOf, map-serial}
use Rattle.grid_model.proofs.SerialCopies.{AllTake, Takes, copy-last, last_map, take-rest}
use Rattle.grid_laws.proofs.DecisionsRest.{decisions-rest}
use Rattle.grid_laws.proofs.NodesFitActs.{nodes-fit}
use Rattle.grid_laws.proofs.FinishedSay.{finished-update}
use Rattle.copy_laws.proofs.OrderMembers.{decided-order}
use Rattle.journal_words.proofs.Orders.{has_member}
use Rattle.copy_laws.proofs.Footing.{Rests, values_in}
use Rattle.copy_laws.proofs.PreparedFields.{PreparedOf, prepared-fields}
use Rattle.copy_laws.proofs.AllTaken.{all-taken, Decided, decided-member}

-- ---- what a log has

-- what stands in the disk list, stays behind one record more and stays in Small is in each list that the
-- live file may hold
in-log : (d : DocumentData) (past : List Act) (n : NodeId) (log : List Record) (P : List Record → Type 0)
    → ((y : Record) (r : List Record) → P r → P (y ∷ r)) → (P (disklog d past n) → P (small (disklog d past n)))
    → IsLog d past n log → P (disklog d past n) → P (reverse log)
in-log d past n log P more smaller (standing is) h =
    subst P (sym (ap reverse is ∙ reverse-reverse (disklog d past n))) h
in-log d past n log P more smaller (in_doubt last doubt is) h =
    subst P (sym (ap reverse is ∙ reverse-reverse (last ∷ disklog d past n))) (more last (disklog d past n) h)
in-log d past n log P more smaller (compacting doubt is) h =
    subst P (sym (ap reverse is ∙ reverse-reverse (small (disklog d past n)))) (smaller h)

-- what stands in the journal of a node that was not compacted, and stays behind one record more
plain-log : (d : DocumentData) (past : List Act) (n : NodeId) (log : List Record) (P : List Record → Type 0)
    → ((y : Record) (r : List Record) → P r → P (y ∷ r)) → IsPlain d past n → IsLog d past n log → P (journal d past n)
    → P (reverse log)
plain-log d past n log P more plain (standing is) h =
    subst P (sym (ap reverse is ∙ reverse-reverse (disklog d past n))) (subst P (sym plain.same) h)
plain-log d past n log P more plain (in_doubt last doubt is) h =
    subst P (sym (ap reverse is ∙ reverse-reverse (last ∷ disklog d past n)))
    (more last (disklog d past n) (subst P (sym plain.same) h))
plain-log d past n log P more plain (compacting doubt is) h = absurd (both_ways (is_compacting past n) plain.settled doubt)

-- an Ended with a final identifier

ended-has : (t : TxId) (f : Ident) (r : List Record) → ended t r ≡ Some (outcome.Commit f) → has_ended t f r ≡ true
ended-has t f [] e = cc
ended-has t f (record'.Ended u (outcome.Commit g) ∷ r) e = grind (arith, nat_tests, e, ended-has t f r)
ended-has t f (record'.Ended u outcome.Abort ∷ r) e = grind (arith, nat_tests, e, ended-has t f r)
ended-has t f (y ∷ r) e = ended-has t f r e

has_ended-grows : (t : TxId) (f : Ident) (y : Record) (r : List Record) → has_ended t f r ≡ true
    → has_ended t f (y ∷ r) ≡ true
has_ended-grows t f (record'.Ended u (outcome.Commit g)) r h = or_right (u == t && g == f) (has_ended t f r) h
has_ended-grows t f (record'.Ended u outcome.Abort) r h = h
has_ended-grows t f y r h = h

has_ended-reads : (t : TxId) (f : Ident) (r : List Record) → has_ended t f (of_participant r) ≡ has_ended t f r
has_ended-reads t f [] = refl
has_ended-reads t f (record'.Prepared u home parts sid p reads writes ∷ r) = has_ended-reads t f r
has_ended-reads t f (record'.Ended u (outcome.Commit g) ∷ r) = ap (λ b. (u == t && g == f) || b) (has_ended-reads t f r)
has_ended-reads t f (record'.Ended u outcome.Abort ∷ r) = has_ended-reads t f r
has_ended-reads t f (y ∷ r) = has_ended-reads t f r

-- ---- what a member wrote

same-values : (g m : Map) (ks : List Key) → ((k : Key) → is_key_among k ks ≡ true → g k ≡ m k)
    → with_values g ks ≡ with_values m ks
same-values g m [] each = refl
same-values g m (k ∷ ks) each =
    let here : (k, g k) ≡ (k, m k) = ap (λ v. (k, v)) (each k (among-here k ks)) in
    let rest : with_values g ks ≡ with_values m ks = same-values g m ks (λ x h. each x (among-later x k ks h)) in
    ap (λ y. y ∷ with_values g ks) here ∙ ap (λ ys. (k, m k) ∷ ys) rest

-- a member of the order took its values from the copy of those before it
copy-takes : (d : DocumentData) (past : List Act) (f : Ident) (t : TxId) (s : ScriptData)
    (later before : List (Ident × TxId)) → Rests d past → order d past ≡ later ++ (f, t) ∷ before
    → script_of t d.scripts ≡ Some s
    → (waiting s.ops (values_in d past t) ≡ None) × AreOf (copy_of d before) 1 (values_in d past t) s.ops
copy-takes d past f t s later before r at is =
    let all : AllTake d (values_in d past) (later ++ (f, t) ∷ before) = subst (AllTake d (values_in d past)) at (all-taken d past r) in
    let mine : AllTake d (values_in d past) ((f, t) ∷ before) = take-rest d (values_in d past) later ((f, t) ∷ before) all in
    let P : Option ScriptData → Type 0 = λ o. Takes o (values_in d past t) (last_map d (values_in d past) before) in
    let takes = subst P is mine.0 in
    (takes.0, λ i k v named e. takes.1 i k v named e ∙ sym (copy-last d (values_in d past) before mine.1 k))

-- so what it wrote is what its script leaves there
wrote-copy : (d : DocumentData) (past : List Act) (f : Ident) (t : TxId) (s : ScriptData) (n : NodeId)
    (later before : List (Ident × TxId)) → Rests d past → order d past ≡ later ++ (f, t) ∷ before
    → script_of t d.scripts ≡ Some s
    → with_values (own_map s.ops (values_in d past t)) (filter (holds d.cluster.places n) (written_keys [] s.ops))
    ≡ writes_on d n s (copy_of d before)
wrote-copy d past f t s n later before r at is = same-values (own_map s.ops (values_in d past t)) (map_behind (copy_of d before) s.ops) (filter (holds d.cluster.places n) (written_keys [] s.ops)) each
  where
    each : (k : Key) → is_key_among k (filter (holds d.cluster.places n) (written_keys [] s.ops)) ≡ true
        → own_map s.ops (values_in d past t) k ≡ map_behind (copy_of d before) s.ops k
    each k h =
        let takes = copy-takes d past f t s later before r at is in
        let among : is_key_among k (written_keys [] s.ops) ≡ true = (and_parts (is_key_among k (written_keys [] s.ops)) (holds d.cluster.places n k) (sym (among-filter (holds d.cluster.places n) k (written_keys [] s.ops)) ∙ h)).0 in
        sym (map-serial (copy_of d before) (values_in d past t) s.ops k takes.0 takes.1 ∙ ap (λ b. if b then own_map s.ops (values_in d past t) k else copy_of d before k) among)

-- ---- a committed update

-- the Prepared of a member stands at each part, with all its writes there
prepared-copy : (d : DocumentData) (past : List Act) (f : Ident) (t : TxId) (s : ScriptData) (n : NodeId)
    (later before : List (Ident × TxId)) → Rests d past → order d past ≡ later ++ (f, t) ∷ before
    → script_of t d.scripts ≡ Some s → is_among n (parts_in d (Some s)) ≡ true
    → (x : Prepared) × (prepared_of t (journal d past n) ≡ Some x) × (x.writes ≡ writes_on d n s (copy_of d before))
prepared-copy d past f t s n later before r at is part =
    let w : Decided d past f t = decided-member d past f t later before r at in
    let rests : RestsOnParts d past t f = (decisions-rest d past r.due false w.decided.0 t f w.decided.2).1 in
    let P : Option ScriptData → Type 0 = λ o. is_among n (parts_in d o) ≡ true in
    let p = rests.each n (subst P (sym is) part) in
    let x = has_prepared-says d.cluster n t p.0 (journal d past n) (nodes-fit d past r.due n).fits p.1 in
    let y : PreparedOf d past n t x.0 = prepared-fields d past n t x.0 r.due x.1 in
    let same : y.script ≡ s = one-script y.script (sym y.named ∙ is) in
    (x.0, x.1, y.writes ∙ ap (λ (z : ScriptData). with_values (own_map z.ops (values_in d past t)) (filter (holds d.cluster.places n) (written_keys [] z.ops))) same ∙ wrote-copy d past f t s n later before r at is)
  where
    one-script : (z : ScriptData) → Some z ≡ Some s → z ≡ s
    one-script z e = cc

-- a decision that is not open is closed
done-closed : (t : TxId) (x : Decision) (r : List Record) → undone t r ≡ None → decision t r ≡ Some x
    → is_closed t r ≡ true
done-closed t x r h e = go (is_closed t r) refl h
  where
    go : (b : Bool) → is_closed t r ≡ b → (if b then None else decision t r) ≡ None → b ≡ true
    go true is h = refl
    go false is h = absurd (grind (arith, h, e))

-- each part of a transaction that is over has ended it with commit
over-each : (d : DocumentData) (past : List Act) (t : TxId) (n : NodeId) (ns : List NodeId)
    → list_all (λ k. has_commit t (journal d past k)) ns ≡ true → is_among n ns ≡ true
    → has_commit t (journal d past n) ≡ true
over-each d past t n [] h i = absurd (grind (arith, i))
over-each d past t n (k ∷ ns) h i =
    let both = and_parts (has_commit t (journal d past k)) (list_all (λ j. has_commit t (journal d past j)) ns) h in
    elim (or_cases (k == n) (is_among n ns) i) [
      | inl here ↦ (let same : k ≡ n = grind (arith, nat_tests, here) in
          subst (λ (j : NodeId). has_commit t (journal d past j) ≡ true) same both.0)
      | inr more ↦ over-each d past t n ns both.1 more
    ]

-- a committed update is kept in all lists that the disks may hold
commit-kept : (d : DocumentData) (past : List Act) (logs : NodeId → List Record) (s : ScriptData) (f : Ident)
    (later before : List (Ident × TxId)) → Rests d past → AreLogs d past logs → script_of s.number d.scripts ≡ Some s
    → order d past ≡ later ++ (f, s.number) ∷ before → IsKept d past logs s
commit-kept d past logs s f later before r are is at =
    record {
      final = f;
      later = later;
      before = before;
      member = at;
      decided = home-log (was_compacted past s.home) (undone s.number (journal d past s.home)) refl refl;
      prepared = part-log;
    }
  where
    t : TxId
    t = s.number

    w : Decided d past f t
    w = decided-member d past f t later before r at

    home : w.decided.0 ≡ s.home
    home =
        let mine : is_home_in (Some s) w.decided.0 ≡ true = subst (λ (o : Option ScriptData). is_home_in o w.decided.0 ≡ true) is w.decided.1 in
        sym (grind (arith, nat_tests, mine))

    at-home : has_decided t f (journal d past s.home) ≡ true
    at-home = subst (λ (n : NodeId). has_decided t f (journal d past n) ≡ true) home w.decided.2

    -- a decision that is not closed stands in the live file of its home
    open-log : (y : Decision) → undone t (journal d past s.home) ≡ Some y
        → has_decided t f (reverse (logs s.home)) ≡ true
    open-log y e =
        let disk : undone t (disklog d past s.home) ≡ Some y =
        (disk-alike d past s.home (nodes-fit d past r.due s.home).fits).decisions t ∙ e in
        let same : y.final ≡ f =
        (let own : is_home d t s.home ≡ true = subst (λ (n : NodeId). is_home d t n ≡ true) home w.decided.1 in
        decided-same d past r.due t y.final f
        (s.home, own, decision-has t y (journal d past s.home) (undone-says t y (journal d past s.home) e).decided)
        (s.home, own, at-home)) in
        let here : has_decided t f (disklog d past s.home) ≡ true =
        subst (λ (g : Ident). has_decided t g (disklog d past s.home) ≡ true) same
        (decision-has t y (disklog d past s.home) (undone-says t y (disklog d past s.home) disk).decided) in
        let smaller : undone t (small (disklog d past s.home)) ≡ Some y =
        small-undone t (disklog d past s.home) ∙ disk in
        in-log d past s.home (logs s.home) (λ q. has_decided t f q ≡ true) (λ z q h. has_decided-grows t f z q h)
        (λ h. subst (λ (g : Ident). has_decided t g (small (disklog d past s.home)) ≡ true) same
        (decision-has t y (small (disklog d past s.home))
        (undone-says t y (small (disklog d past s.home)) smaller).decided)) (are.each s.home) here

    -- each part of a closed transaction has ended it with commit
    closed-log : undone t (journal d past s.home) ≡ None → (n : NodeId) → is_among n (parts_in d (Some s)) ≡ true
        → has_ended t f (reverse (logs n)) ≡ true
    closed-log e n part =
        let x = has_decided-says t f (journal d past s.home) at-home in
        let over : is_over d past t ≡ true =
        closed-stands d past s.home t (journal d past s.home) (closed-say d past r.due s.home).journal
        (done-closed t x.0 (journal d past s.home) e x.1) in
        let ended_all =
        and_parts (is_some (script_of t d.scripts))
        (list_all (λ k. has_commit t (journal d past k)) (parts_in d (script_of t d.scripts))) over in
        let P : Option ScriptData → Type 0 = λ o. is_among n (parts_in d o) ≡ true in
        let commit : has_commit t (journal d past n) ≡ true =
        over-each d past t n (parts_in d (script_of t d.scripts)) ended_all.1 (subst P (sym is) part) in
        let g = has_commit-says d.cluster n t (journal d past n) (nodes-fit d past r.due n).fits commit in
        let same : g.0 ≡ f = decided-same d past r.due t g.0 f (commit-decided d past r.due n t g.0 g.1) w.decided in
        let here : has_ended t f (journal d past n) ≡ true =
        subst (λ (i : Ident). has_ended t i (journal d past n) ≡ true) same
        (ended-has t g.0 (journal d past n) g.1) in
        let disk : has_ended t f (disklog d past n) ≡ true =
        same_word (has_ended t f) (has_ended-reads t f) (disklog d past n) (journal d past n)
        (disk-alike d past n (nodes-fit d past r.due n).fits).ballots ∙ here in
        in-log d past n (logs n) (λ q. has_ended t f q ≡ true) (λ z q h. has_ended-grows t f z q h)
        (λ h. same_word (has_ended t f) (has_ended-reads t f) (small (disklog d past n)) (disklog d past n)
        (small-participant (disklog d past n)) ∙ h) (are.each n) disk

    home-log : (b : Bool) (o : Option Decision) → was_compacted past s.home ≡ b → undone t (journal d past s.home) ≡ o
        → (has_decided t f (reverse (logs s.home)) ≡ true)
        ⊎ ((was_compacted past s.home ≡ true)
        × ((n : NodeId) → is_among n (parts_in d (Some s)) ≡ true → has_ended t f (reverse (logs n)) ≡ true))
    home-log false o e h =
        inl (plain-log d past s.home (logs s.home) (λ r. has_decided t f r ≡ true)
        (λ y r i. has_decided-grows t f y r i) (uncompacted d past s.home e) (are.each s.home) at-home)
    home-log true (Some y) e h = inl (open-log y h)
    home-log true None e h = inr (e, λ n part. closed-log h n part)

    part-log : (n : NodeId) → is_among n (parts_in d (Some s)) ≡ true
        → writes_at (prepared_of t (reverse (logs n))) ≡ Some (writes_on d n s (copy_of d before))
    part-log n part =
        let x = prepared-copy d past f t s n later before r at is part in
        let disk : prepared_of t (disklog d past n) ≡ Some x.0 =
        same_word (prepared_of t) (prepared-reads t) (disklog d past n) (journal d past n)
        (disk-alike d past n (nodes-fit d past r.due n).fits).ballots ∙ x.1 in
        let stands : prepared_of t (reverse (logs n)) ≡ Some x.0 =
        in-log d past n (logs n) (λ q. prepared_of t q ≡ Some x.0) (λ y q h. prepared-stays t y q x.0 h)
        (λ h. same_word (prepared_of t) (prepared-reads t) (small (disklog d past n)) (disklog d past n)
        (small-participant (disklog d past n)) ∙ h) (are.each n) disk in
        ap writes_at stands ∙ ap (λ ws. Some ws) x.2

-- ---- a finished update

-- a member of a list stands between others
pub member-split : (f : Ident) (t : TxId) (xs : List (Ident × TxId)) → has_member f t xs ≡ true
    → (later : List (Ident × TxId)) × (before : List (Ident × TxId)) × (xs ≡ later ++ (f, t) ∷ before)
member-split f t [] h = cc
member-split f t (x ∷ xs) h = elim (or_cases (x.0 == f && x.1 == t) (has_member f t xs) h) [
  | inl here ↦
      let f' : x.0 ≡ f = grind (arith, nat_tests, here) in
      let t' : x.1 ≡ t = grind (arith, nat_tests, here) in
      ([], xs, ap (λ g. (g, x.1) ∷ xs) f' ∙ ap (λ u. (f, u) ∷ xs) t')
  | inr more ↦ (let w = member-split f t xs more in (x ∷ w.0, w.1, ap (λ ys. x ∷ ys) w.2))
]

-- it is decided, so it is in the order, and it is kept
pub finished-kept : (d : DocumentData) (past : List Act) (logs : NodeId → List Record) (s : ScriptData) (t : TxId)
    → Rests d past → AreLogs d past logs → script_of t d.scripts ≡ Some s → is_update s.ops ≡ true
    → is_finished past t ≡ true → IsKept d past logs s
finished-kept d past logs s t r are is update finished =
    let number : s.number ≡ t = script-number t d.scripts s is in
    let f = finished-update d past r.due s t is update finished in
    let P : TxId → Type 0 = λ u. IsDecided d past u f.0 in
    let dec : IsDecided d past s.number f.0 = subst P (sym number) f.1 in
    let w = member-split f.0 s.number (order d past) (decided-order d past s.number f.0 r.one dec) in
    let Q : TxId → Type 0 = λ u. script_of u d.scripts ≡ Some s in
    commit-kept d past logs s f.0 w.0 w.1 r are (subst Q (sym number) is) w.2
