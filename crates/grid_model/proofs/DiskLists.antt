-- The disk list of a node and its journal have the same Small, so no row tells them apart.
use Rattle.std.proofs.Common.{◌≡◌, Bool, true, false, ◌&&◌, ◌||◌, ap, List, [], ◌∷◌, Option, Some, None, refl, ◌∙◌, arith, if◌then◌else◌}
use Rattle.std.specs.Prelude.{◌==◌}
use Rattle.score_base.specs.declared.ids.NodeId.{NodeId}
use Rattle.score_base.specs.declared.records.Record.{Record}
use Rattle.score_base.specs.declared.records.Record.TheVariants as record'
use Rattle.placement.specs.Clusters.{ClusterData}
use Rattle.grid_model.specs.declared.acts.Act.{Act}
use Rattle.grid_model.specs.declared.acts.Act.TheVariants as act
use Rattle.grid_model.specs.declared.acts.Head.{Head}
use Rattle.grid_model.specs.declared.acts.Head.TheVariants as head
use Rattle.grid_model.specs.declared.messages.Envelope.{Envelope}
use Rattle.grid_model.specs.Documents.{DocumentData}
use Rattle.journal_words.specs.Journals.{all_fit}
use Rattle.grid_model.specs.Nodes.{is_home, parts_in, script_of, Node, Change, Writes, Starts, Stops, node, journal, got, change, changed, where_at, freed, is_request, said_by, written, found, is_kept, doubt_of}
use Rattle.grid_model.specs.Disks.{is_compact, is_compacting, was_compacted, recorded, reopened, disklog}
use Rattle.journal_words.specs.Small.{small, AreAlike}
use Rattle.journal_words.proofs.Fits.{newest-fits, rest-fits}
use Rattle.journal_words.proofs.Smalls.{small-next, small-twice}
use Rattle.journal_words.proofs.AlikeWords.{alike-by-small, fit-highest}
use Rattle.journal_words.proofs.AlikeFits.{alike-fits}
use Rattle.journal_words.proofs.SmallFits.{small-fit}

-- ---- a compaction in doubt leaves no record in doubt

-- the change neither stops nor starts the node
abbrev is_quiet : Change → Bool
is_quiet (Stops o) = false
is_quiet (Starts kept) = false
is_quiet x = true

quiet-at : (b : Bool) (x : Change) → is_quiet x ≡ true → is_quiet (where_at b x) ≡ true
quiet-at true x is = is
quiet-at false x is = refl

-- the act neither stops nor opens a node
abbrev is_ordinary : Act → Bool
is_ordinary (act.Down m h) = false
is_ordinary (act.Up m f) = false
is_ordinary a = true

quiet-change : (d : DocumentData) (e : Option Envelope) (a : Act) (n : NodeId) → is_ordinary a ≡ true
    → is_quiet (change d e a n) ≡ true
quiet-change d e (act.Down m h) n is = absurd (grind (arith, is))
quiet-change d e (act.Up m f) n is = absurd (grind (arith, is))
quiet-change d e (act.Served m t op k sid vn v) n is = quiet-at (m == n) _ (go (is_request (said_by e)))
  where
    go : (b : Bool) → is_quiet (freed b t op k sid) ≡ true
    go true = refl
    go false = refl
quiet-change d e (act.Prepared m t p) n is = quiet-at (m == n) _ refl
quiet-change d e (act.Ended m t o) n is = quiet-at (m == n) _ refl
quiet-change d e (act.Ceiling m c) n is = quiet-at (m == n) _ refl
quiet-change d e (act.Decided t f) n is =
    quiet-at (is_home d t n) (Writes (Some (record'.Decided t f (parts_in d (script_of t d.scripts))))) refl
quiet-change d e (act.Closed t) n is = quiet-at (is_home d t n) (Writes (Some (record'.Closed t))) refl
quiet-change d e (act.Raised m sid) n is = quiet-at (m == n) _ refl
quiet-change d e (act.Held m t op sid) n is = quiet-at (m == n) _ refl
quiet-change d e (act.StillDown m) n is = quiet-at (m == n) _ refl
quiet-change d e a n is = refl

quiet-doubt : (x : Change) (h : Node) → is_quiet x ≡ true → (changed x h).doubt ≡ h.doubt
quiet-doubt (Stops o) h is = absurd (grind (arith, is))
quiet-doubt (Starts kept) h is = absurd (grind (arith, is))
quiet-doubt x h is = refl

compact-doubt : (d : DocumentData) (e : Option Envelope) (h : Option Head) → is_compact h ≡ true → doubt_of d e h ≡ None
compact-doubt d e (Some head.Compact) is = refl
compact-doubt d e h is = absurd (grind (arith, is))

pub compacting-doubt : (d : DocumentData) (past : List Act) (n : NodeId) → is_compacting past n ≡ true
    → (node d past n).doubt ≡ None
compacting-doubt d [] n is = refl
compacting-doubt d (act.Down m h ∷ past) n is = go (m == n) (λ e. compacting-doubt d past n e) is
  where
    go : (b : Bool) → (is_compacting past n ≡ true → (node d past n).doubt ≡ None)
        → (if b then is_compact h else is_compacting past n) ≡ true
        → (changed (where_at b (Stops (doubt_of d (got past) h))) (node d past n)).doubt ≡ None
    go true before is = compact-doubt d (got past) h is
    go false before is = before is
compacting-doubt d (act.Up m f ∷ past) n is = go (m == n) (λ e. compacting-doubt d past n e) is
  where
    go : (b : Bool) → (is_compacting past n ≡ true → (node d past n).doubt ≡ None)
        → (if b then false else is_compacting past n) ≡ true
        → (changed (where_at b (Starts (is_kept f))) (node d past n)).doubt ≡ None
    go true before is = refl
    go false before is = before is
compacting-doubt d (a ∷ past) n is =
    quiet-doubt (change d (got past) a n) (node d past n) (quiet-change d (got past) a n refl)
    ∙ compacting-doubt d past n is

-- ---- what an act leaves of both lists

-- a list of records that stands for a journal: each record fits where those of the journal do, and Small is the same
abbrev StandsFor : ClusterData → NodeId → List Record → List Record → Type 0
StandsFor c n r j = (small r ≡ small j) × (all_fit c n j ≡ true → all_fit c n r ≡ true)

stands-more : (c : ClusterData) (n : NodeId) (o : Option Record) (r j : List Record) → StandsFor c n r j
    → StandsFor c n (written o r) (written o j)
stands-more c n None r j at = at
stands-more c n (Some x) r j at = (small-next x r j at.0, λ fit. more fit)
  where
    more : all_fit c n (x ∷ j) ≡ true → all_fit c n (x ∷ r) ≡ true
    more fit =
        let j_fit = rest-fits c n x j fit in
        let r_fit = at.1 j_fit in
        rw (
          alike-fits c n r j (alike-by-small r j (fit-highest c n r r_fit) (fit-highest c n j j_fit) at.0) x,
          newest-fits c n x j fit,
        ) r_fit

stands-small : (c : ClusterData) (n : NodeId) (r j : List Record) → StandsFor c n r j → StandsFor c n (small r) j
stands-small c n r j at = (small-twice r ∙ at.0, λ fit. small-fit c n r (at.1 fit))

stands-found : (c : ClusterData) (n : NodeId) (kept : Bool) (o : Option Record) (r j : List Record) → StandsFor c n r j
    → StandsFor c n (found kept o r) (found kept o j)
stands-found c n true o r j at = stands-more c n o r j at
stands-found c n false o r j at = at

stands-quiet : (c : ClusterData) (n : NodeId) (x : Change) (h : Node) (r : List Record) → is_quiet x ≡ true
    → StandsFor c n r h.journal → StandsFor c n (recorded x r) (changed x h).journal
stands-quiet c n (Writes o) h r is at = stands-more c n o r h.journal at
stands-quiet c n (Stops o) h r is at = absurd (grind (arith, is))
stands-quiet c n (Starts kept) h r is at = absurd (grind (arith, is))
stands-quiet c n x h r is at = at

stands-opened : (c : ClusterData) (n : NodeId) (compacting kept : Bool) (h : Node) (r : List Record)
    → (compacting ≡ true → h.doubt ≡ None) → StandsFor c n r h.journal → StandsFor c n
    (reopened compacting kept h.doubt r) (found kept h.doubt h.journal)
stands-opened c n true true h r none at = rw (none refl) (stands-small c n r h.journal at)
stands-opened c n true false h r none at = at
stands-opened c n false kept h r none at = stands-found c n kept h.doubt r h.journal at

-- ---- the disk list

pub disk-stands : (c : ClusterData) (d : DocumentData) (past : List Act) (n : NodeId)
    → StandsFor c n (disklog d past n) (journal d past n)
disk-stands c d [] n = (refl, λ fit. refl)
disk-stands c d (act.Compacted m ∷ past) n = go (m == n) (disk-stands c d past n)
  where
    go : (b : Bool) → StandsFor c n (disklog d past n) (journal d past n)
        → StandsFor c n (if b then small (disklog d past n) else disklog d past n) (journal d past n)
    go true at = stands-small c n (disklog d past n) (journal d past n) at
    go false at = at
disk-stands c d (act.Up m f ∷ past) n = go (m == n) (disk-stands c d past n)
  where
    go : (b : Bool) → StandsFor c n (disklog d past n) (journal d past n)
        → StandsFor c n (if b then reopened (is_compacting past n) (is_kept f) (node d past n).doubt
        (disklog d past n) else disklog d past n) (changed (where_at b (Starts (is_kept f)))
        (node d past n)).journal
    go true at =
        stands-opened c n (is_compacting past n) (is_kept f) (node d past n) (disklog d past n)
        (λ is. compacting-doubt d past n is) at
    go false at = at
disk-stands c d (act.Down m h ∷ past) n = go (m == n) (disk-stands c d past n)
  where
    go : (b : Bool) → StandsFor c n (disklog d past n) (journal d past n)
        → StandsFor c n (recorded (where_at b (Stops (doubt_of d (got past) h))) (disklog d past n))
        (changed (where_at b (Stops (doubt_of d (got past) h))) (node d past n)).journal
    go true at = at
    go false at = at
disk-stands c d (a ∷ past) n =
    stands-quiet c n (change d (got past) a n) (node d past n) (disklog d past n) (quiet-change d (got past) a n refl)
    (disk-stands c d past n)

-- the disk list and the journal have the same Small, behind each list of acts
pub disk-small : (d : DocumentData) (past : List Act) (n : NodeId) → small (disklog d past n) ≡ small (journal d past n)
disk-small d past n = (disk-stands d.cluster d past n).0

-- each record of the disk list fits those before it, where those of the journal do
pub disk-fit : (d : DocumentData) (past : List Act) (n : NodeId) → all_fit d.cluster n (journal d past n) ≡ true
    → all_fit d.cluster n (disklog d past n) ≡ true
disk-fit d past n fit = (disk-stands d.cluster d past n).1 fit

-- and then they are alike
pub disk-alike : (d : DocumentData) (past : List Act) (n : NodeId) → all_fit d.cluster n (journal d past n) ≡ true
    → AreAlike (disklog d past n) (journal d past n)
disk-alike d past n fit =
    alike-by-small (disklog d past n) (journal d past n)
    (fit-highest d.cluster n (disklog d past n) (disk-fit d past n fit))
    (fit-highest d.cluster n (journal d past n) fit) (disk-small d past n)

-- ---- where nothing was compacted

recorded-same : (x : Change) (h : Node) (r : List Record) → is_quiet x ≡ true → r ≡ h.journal
    → recorded x r ≡ (changed x h).journal
recorded-same (Writes o) h r is same = ap (written o) same
recorded-same (Stops o) h r is same = absurd (grind (arith, is))
recorded-same (Starts kept) h r is same = absurd (grind (arith, is))
recorded-same x h r is same = same

neither : (b c : Bool) → (b || c) ≡ false → (b ≡ false) × (c ≡ false)
neither true c e = absurd (grind (arith, e))
neither false c e = (refl, e)

-- the disk list is the journal, and no compaction is in doubt
pub record IsPlain (d : DocumentData) (past : List Act) (n : NodeId) : Type 0 where
  pub settled : is_compacting past n ≡ false
  pub same : disklog d past n ≡ journal d past n

-- where no compaction of n went on or stopped
pub uncompacted : (d : DocumentData) (past : List Act) (n : NodeId) → was_compacted past n ≡ false → IsPlain d past n
uncompacted d [] n e = record { settled = refl; same = refl }
uncompacted d (act.Compacted m ∷ past) n e =
    let h = neither (m == n) (was_compacted past n) e in
    let k = uncompacted d past n h.1 in
    record { settled = k.settled; same = rw h.0 k.same }
uncompacted d (act.Down m o ∷ past) n e =
    let h = neither ((m == n) && is_compact o) (was_compacted past n) e in
    let k = uncompacted d past n h.1 in
    record { settled = settled (m == n) h.0 k.settled; same = same (m == n) k.same }
  where
    settled : (b : Bool) → (b && is_compact o) ≡ false → is_compacting past n ≡ false
        → (if b then is_compact o else is_compacting past n) ≡ false
    settled true here before = here
    settled false here before = before

    same : (b : Bool) → disklog d past n ≡ journal d past n
        → recorded (where_at b (Stops (doubt_of d (got past) o))) (disklog d past n)
        ≡ (changed (where_at b (Stops (doubt_of d (got past) o))) (node d past n)).journal
    same true before = before
    same false before = before
uncompacted d (act.Up m f ∷ past) n e =
    let k = uncompacted d past n e in
    record { settled = settled (m == n) k.settled; same = same (m == n) k.settled k.same }
  where
    settled : (b : Bool) → is_compacting past n ≡ false → (if b then false else is_compacting past n) ≡ false
    settled true before = refl
    settled false before = before

    same : (b : Bool) → is_compacting past n ≡ false → disklog d past n ≡ journal d past n
        → (if b then reopened (is_compacting past n) (is_kept f) (node d past n).doubt (disklog d past n)
        else disklog d past n) ≡ (changed (where_at b (Starts (is_kept f))) (node d past n)).journal
    same true now before = rw (now, before) refl
    same false now before = before
uncompacted d (a ∷ past) n e =
    let k = uncompacted d past n e in
    record {
      settled = k.settled;
      same =
          recorded-same (change d (got past) a n) (node d past n) (disklog d past n)
          (quiet-change d (got past) a n refl) k.same;
    }
