-- What an append leaves, done or stopped.
use Rattle.std.proofs.Common.{◌≡◌, ℕ, ◌+◌, List, [], ◌∷◌, ◌++◌, length, sym, ap, subst, ◌∙◌, inl, inr, arith, length-append, Ok}
use Rattle.std.proofs.lemmas.Grind.{elements}
use Rattle.score_base.specs.declared.records.Record.{Record}
use Rattle.score_disk.specs.Files.{File, IsSettled, synced, written}
use Rattle.journal_records.specs.Records.{record_bytes, IsRecord}
use Rattle.node_journal.specs.Log.{generation, log, records_of, framed, IsLog}
use Rattle.node_journal.specs.Torn.{LeavesClosed, LeavesOneOf, LeavesOld, LeavesOldOrNew, LeavesVersion, opened_at}
use Rattle.node_journal.proofs.Frames.{record_block}
use Rattle.node_journal.proofs.Logs.{log_is, log_kept, log_opened, version_kept, opened_version}
use Rattle.node_journal.proofs.Torn.{settled_synced}

pub length-framed : (body : List ℕ) → length (framed body) ≡ 2 + length body
unfolding framed
length-framed body = grind (arith, elements)

pub length-frame : (body : List ℕ) → length (framed body ++ 0 ∷ []) ≡ 3 + length body
length-frame body = omega (arith, length-append (framed body) (0 ∷ []), length-framed body)

-- the records of a log
pub records_are : (bytes : List ℕ) (rs : List Record) → log bytes ≡ Ok rs → records_of (log bytes) ≡ rs
records_are bytes rs e = ap records_of e

pub log_read : (bytes : List ℕ) (rs : List Record) (gate : ℕ) → log bytes ≡ Ok rs
    → IsLog bytes (records_of (log bytes)) gate → IsLog bytes rs gate
log_read bytes rs gate e l = subst (λ xs. IsLog bytes xs gate) (records_are bytes rs e) l

pub log_own : (bytes : List ℕ) (rs : List Record) (gate : ℕ) → IsLog bytes rs gate
    → IsLog bytes (records_of (log bytes)) gate
log_own bytes rs gate l = subst (λ xs. IsLog bytes xs gate) (sym (records_are bytes rs (log_is bytes rs gate l))) l

-- all four calls were done
pub append_done : (f now : File) (frame : List ℕ) (rs : List Record) (r : Record) (gate n : ℕ) → IsRecord r
    → frame ≡ framed (record_bytes r) ++ 0 ∷ [] → n ≡ length (record_bytes r)
    → now ≡ synced (written gate (1 ∷ []) (synced (written (gate + 1) frame f))) → IsLog f.seen rs gate
    → IsLog now.seen (rs ++ r ∷ []) (gate + (n + 3))
append_done f now frame rs r gate n fit e long done l =
    let opened : now.seen ≡ opened_at f.seen gate (framed (record_bytes r) ++ 0 ∷ []) = ap (λ (x : File). x.seen) done ∙ ap (opened_at f.seen gate) e in
    let place : gate + (1 + length (framed (record_bytes r))) ≡ gate + (n + 3) = omega (arith, length-framed (record_bytes r), long) in
    subst (λ xs. IsLog xs (rs ++ r ∷ []) (gate + (n + 3))) (sym opened)
    (subst (IsLog (opened_at f.seen gate (framed (record_bytes r) ++ 0 ∷ [])) (rs ++ r ∷ [])) place (log_opened f.seen (framed (record_bytes r)) rs r gate l (record_block r fit)))

pub append_settled : (f now : File) (frame : List ℕ) (gate : ℕ)
    → now ≡ synced (written gate (1 ∷ []) (synced (written (gate + 1) frame f))) → IsSettled now
append_settled f now frame gate e = subst IsSettled (sym e) (settled_synced (written gate (1 ∷ []) (synced (written (gate + 1) frame f))))

-- one of them failed
pub append_torn : (f now : File) (frame : List ℕ) (rs : List Record) (r : Record) (gate : ℕ) → IsRecord r
    → frame ≡ framed (record_bytes r) ++ 0 ∷ [] → IsLog f.seen rs gate → LeavesOneOf f.seen gate frame now
    → LeavesOldOrNew rs r now
append_torn f now frame rs r gate fit e l leaves c image = elim (leaves c image) [
  | inl kept ↦ inl (log_is c rs gate (log_kept f.seen c rs gate l kept))
  | inr opened ↦ inr (ap log (opened ∙ ap (opened_at f.seen gate) e) ∙ log_is (opened_at f.seen gate (framed (record_bytes r) ++ 0 ∷ [])) (rs ++ r ∷ []) (gate + (1 + length (framed (record_bytes r)))) (log_opened f.seen (framed (record_bytes r)) rs r gate l (record_block r fit)))
]

-- one of the first two failed
pub append_early : (f now : File) (rs : List Record) (gate : ℕ) → IsLog f.seen rs gate → LeavesClosed f.seen gate now
    → LeavesOld rs now
append_early f now rs gate l leaves c image = log_is c rs gate (log_kept f.seen c rs gate l (leaves c image))

-- neither the frame nor the gate touches the version
pub append_version : (f now : File) (frame : List ℕ) (rs : List Record) (gate : ℕ)
    → now ≡ synced (written gate (1 ∷ []) (synced (written (gate + 1) frame f))) → IsLog f.seen rs gate
    → generation now.seen ≡ generation f.seen
append_version f now frame rs gate done l =
    let opened : now.seen ≡ opened_at f.seen gate frame = ap (λ (x : File). x.seen) done in
    ap generation opened ∙ opened_version f.seen frame rs gate l

pub torn_version : (f now : File) (frame : List ℕ) (rs : List Record) (gate : ℕ) → IsLog f.seen rs gate
    → LeavesOneOf f.seen gate frame now → LeavesVersion (generation f.seen) now
torn_version f now frame rs gate l leaves c image = elim (leaves c image) [
  | inl kept ↦ (version_kept f.seen c rs gate l kept.place kept.front).number
  | inr opened ↦ ap generation opened ∙ opened_version f.seen frame rs gate l
]
