-- Each Prepare that was sent is fit at its receiver, but for the size of its identifier.
use Rattle.std.proofs.Common.{◌≡◌, ℕ, ◌+◌, ◌≤◌, Bool, true, false, List, [], ◌∷◌, length, Some, refl, sym, ap, subst, arith, suc}
use Rattle.std.proofs.lemmas.Bool.{and_from, and_parts}
use Rattle.std.proofs.lemmas.Bool.Decides.{nat_tests}
use Rattle.std.specs.Prelude.{◌==◌, filter, nat_le, if◌then◌else◌}
use Rattle.std.specs.List.{list_all}
use Rattle.score_base.specs.declared.ids.TxId.{TxId}
use Rattle.score_base.specs.declared.ids.NodeId.{NodeId}
use Rattle.score_base.specs.declared.ids.Value.{Value}
use Rattle.score_base.specs.declared.keys.Key.{Key}
use Rattle.script_lang.specs.declared.scripts.Op.{Op}
use Rattle.script_lang.specs.Scripts.{ScriptData, are_sound}
use Rattle.script_lang.specs.Reads.{keys_of, remote_keys, written_keys}
use Rattle.placement.specs.Places.{is_among, holds}
use Rattle.placement.specs.Clusters.{ClusterData}
use Rattle.grid_model.specs.declared.acts.Act.{Act}
use Rattle.grid_model.specs.declared.messages.Message.{Message}
use Rattle.grid_model.specs.declared.messages.Message.TheVariants as message
use Rattle.grid_model.specs.declared.messages.Prepare.{Prepare}
use Rattle.grid_model.specs.Documents.{DocumentData, IsOne, is_body}
use Rattle.grid_model.specs.Histories.{sent, sent_at}
use Rattle.journal_words.specs.Journals.{are_distinct_keys, are_own_keys, keys_of_writes}
use Rattle.grid_model.specs.Nodes.{script_of}
use Rattle.grid_model.specs.Stories.{is_small}
use Rattle.grid_model.specs.Views.{Open, open_of}
use Rattle.script_runs.specs.Walks.{own_map}
use Rattle.grid_model.specs.Advances.{parts_now, prepare_for}
use Rattle.grid_model.specs.Fitness.{is_fit_prepare, is_rising}
use Rattle.grid_model.proofs.Written.{with_values, with_values-keys}
use Rattle.grid_laws.proofs.Causes.{AllDue, SendDue, PrepareDue}
use Rattle.grid_laws.proofs.Holds.{sent-hold}
use Rattle.grid_laws.proofs.PartsRise.{parts-rise, parts-most, among-some, part-holds}
use Rattle.grid_laws.proofs.ScriptKeys.{filter-length, remote-length, written-length, remote-distinct, written-distinct, filter-distinct, filter-passes, lists-some}

-- ---- the scripts of a document

body-of : (t : TxId) (ss : List ScriptData) (s : ScriptData) → list_all (λ x. is_body x.ops) ss ≡ true
    → script_of t ss ≡ Some s → is_body s.ops ≡ true
body-of t [] s all e = cc
body-of t (x ∷ ss) s all e = go (x.number == t) e (and_parts (is_body x.ops) (list_all (λ y. is_body y.ops) ss) all).0 (λ f. body-of t ss s (and_parts (is_body x.ops) (list_all (λ y. is_body y.ops) ss) all).1 f)
  where
    go : (b : Bool) → (if b then Some x else script_of t ss) ≡ Some s → is_body x.ops ≡ true
        → (script_of t ss ≡ Some s → is_body s.ops ≡ true) → is_body s.ops ≡ true
    go true e h more = (let is : x ≡ s = cc in let P : ScriptData → Type 0 = λ y. is_body y.ops ≡ true in subst P is h)
    go false e h more = more e

-- a script has at most 32 operations
pub body-most : (d : DocumentData) (t : TxId) (s : ScriptData) → IsOne d → script_of t d.scripts ≡ Some s
    → length s.ops ≤ 32
body-most d t s one e =
    let b : is_body s.ops ≡ true = body-of t d.scripts s one.bodies e in
    let le : nat_le (length s.ops) 32 ≡ true = (and_parts (nat_le (length s.ops) 32) (are_sound [] s.ops) (and_parts (nat_le 1 (length s.ops)) _ b).1).0 in
    grind (arith, nat_tests, le)

-- ---- the Prepare of a home for a part

-- a Prepare is fit at n, but for its identifier
pub record FitLists (c : ClusterData) (n : NodeId) (q : Prepare) : Type 0 where
  pub least : nat_le 1 (length q.parts) ≡ true
  pub most : nat_le (length q.parts) 16 ≡ true
  pub rising : is_rising q.parts ≡ true
  pub part : is_among n q.parts ≡ true
  pub some : nat_le 1 (length q.reads + length q.writes) ≡ true
  pub reads : nat_le (length q.reads) 32 ≡ true
  pub writes : nat_le (length q.writes) 32 ≡ true
  pub read : are_own_keys c n q.reads ≡ true
  pub written : are_own_keys c n (keys_of_writes q.writes) ≡ true

-- with a small identifier it is fit
pub fit-small : (c : ClusterData) (n : NodeId) (q : Prepare) → FitLists c n q → is_small q.sid ≡ true
    → is_fit_prepare c n q ≡ true
fit-small c n q f small =
    and_from (is_small q.sid) _ small
    (and_from (nat_le 1 (length q.parts)) _ f.least
    (and_from (nat_le (length q.parts) 16) _ f.most
    (and_from (is_rising q.parts) _ f.rising
    (and_from (is_among n q.parts) _ f.part
    (and_from (nat_le 1 (length q.reads + length q.writes)) _ f.some
    (and_from (nat_le (length q.reads) 32) _ f.reads
    (and_from (nat_le (length q.writes) 32) _ f.writes
    (and_from (are_own_keys c n q.reads) _ f.read f.written))))))))

length-values : (m : Key → Value) (ks : List Key) → length (with_values m ks) ≡ length ks
length-values m [] = refl
length-values m (k ∷ ks) = ap (λ i. suc i) (length-values m ks)

own-keys : (c : ClusterData) (n : NodeId) (ks : List Key) → are_distinct_keys ks ≡ true
    → are_own_keys c n (filter (holds c.places n) ks) ≡ true
own-keys c n ks h = and_from (are_distinct_keys (filter (holds c.places n) ks)) _ (filter-distinct (holds c.places n) ks h) (filter-passes (holds c.places n) ks)

for-part : (c : ClusterData) (x : Open) (n : NodeId) → length x.script.ops ≤ 32 → is_among n (parts_now c x) ≡ true
    → FitLists c n (prepare_for c x n)
for-part c x n most part =
    let ops : List Op = x.script.ops in
    let reads : List Key = filter (holds c.places n) (remote_keys [] ops) in
    let keys : List Key = filter (holds c.places n) (written_keys [] ops) in
    let values : length (with_values (own_map ops x.progress.values) keys) ≡ length keys = length-values (own_map ops x.progress.values) keys in
    let named : keys_of_writes (with_values (own_map ops x.progress.values) keys) ≡ keys = with_values-keys (own_map ops x.progress.values) keys in
    let some : 1 ≤ length reads + length keys = lists-some (holds c.places n) ops (part-holds c.places (keys_of ops) n part) in
    let short : length reads ≤ 32 = omega (arith, filter-length (holds c.places n) (remote_keys [] ops), remote-length [] ops, most) in
    let brief : length keys ≤ 32 = omega (arith, filter-length (holds c.places n) (written_keys [] ops), written-length [] ops, most) in
    record {
      least = among-some n (parts_now c x) part;
      most = parts-most c.places (keys_of ops);
      rising = parts-rise c.places (keys_of ops);
      part = part;
      some = rw values (grind (arith, nat_tests, some));
      reads = grind (arith, nat_tests, short);
      writes = rw values (grind (arith, nat_tests, brief));
      read = own-keys c n (remote_keys [] ops) (remote-distinct [] ops);
      written = rw named (own-keys c n (written_keys [] ops) (written-distinct [] ops));
    }

-- ---- the Prepares that were sent

abbrev Fits : DocumentData → NodeId → Message → Type 0
Fits d y (message.Prepare q) = FitLists d.cluster y q
Fits d y said = Unit {0}

prepare-due : (d : DocumentData) (past : List Act) (n y : NodeId) (q : Prepare) → IsOne d → PrepareDue d past n y q
    → FitLists d.cluster y q
prepare-due d past n y q one due =
    let P : Prepare → Type 0 = λ z. FitLists d.cluster y z in
    subst P (sym due.is) (for-part d.cluster (open_of due.script due.story) y (body-most d q.t due.script one due.at.script) due.part)

fits-due : (d : DocumentData) (past : List Act) (n y : NodeId) (said : Message) → IsOne d → SendDue d past n y said
    → Fits d y said
fits-due d past n y (message.Prepare q) one due = prepare-due d past n y q one due
fits-due d past n y said one due = tt

-- a Prepare that was sent to n is fit there, but for its identifier
pub prepare-sent : (d : DocumentData) (past : List Act) → IsOne d → AllDue d past → (m : ℕ) (x n : NodeId) (q : Prepare)
    → sent_at m (sent past) ≡ Some (record { from = x; to = n; message = message.Prepare q }) → FitLists d.cluster n q
prepare-sent d past one due m x n q is = sent-hold (λ now k y said. Fits d y said) d past (λ now a k y said all h. h) (λ now k y said all h. fits-due d now k y said one h) due m (record { from = x; to = n; message = message.Prepare q }) is

-- and with a small identifier it is fit
pub prepare-fit : (d : DocumentData) (past : List Act) → IsOne d → AllDue d past → (m : ℕ) (x n : NodeId) (q : Prepare)
    → sent_at m (sent past) ≡ Some (record { from = x; to = n; message = message.Prepare q }) → is_small q.sid ≡ true
    → is_fit_prepare d.cluster n q ≡ true
prepare-fit d past one due m x n q is small = fit-small d.cluster n q (prepare-sent d past one due m x n q is) small
