-- The keys of a script, and which of its reads are remote.
use Rattle.std.specs.Prelude.{Bool, true, false, List, [], ◌∷◌, if◌then◌else◌}
use Rattle.std.specs.List.{list_any}
use Rattle.score_base.specs.declared.keys.Key.{Key}
use Rattle.score_base.specs.Keys.{same_key}
use Rattle.script_lang.specs.declared.scripts.Op.{Op}
use Rattle.script_lang.specs.declared.scripts.Op.TheVariants as op

-- the key is among these
abbrev pub is_key_among : Key → List Key → Bool
is_key_among k ks = list_any (same_key k) ks

-- the key that an operation names
abbrev pub key_of : Op → Key
key_of (op.Read k) = k
key_of (op.Write k e) = k

-- the keys of the operations, in their order, each as often as it is named
abbrev pub keys_named : List Op → List Key
keys_named [] = []
keys_named (o ∷ ops) = key_of o ∷ keys_named ops

-- the keys that a read among these operations names
abbrev pub known_keys : List Op → List Key
known_keys [] = []
known_keys (op.Read k ∷ ops) = k ∷ known_keys ops
known_keys (op.Write k e ∷ ops) = known_keys ops

-- the key, unless it is among these
abbrev pub unless_among : List Key → Key → List Key
unless_among seen k = if is_key_among k seen then [] else (k ∷ [])

-- those of the keys that are not in seen, each once, in the order of first naming
abbrev pub distinct_keys : List Key → List Key → List Key
distinct_keys seen [] = []
distinct_keys seen (k ∷ ks) = if is_key_among k seen then distinct_keys seen ks else k ∷ distinct_keys (k ∷ seen) ks

-- the keys of a script, each once, in the order of first naming
abbrev pub keys_of : List Op → List Key
keys_of ops = distinct_keys [] (keys_named ops)

-- the key of a read, unless it is among those named before
abbrev pub remote_key : List Key → Op → List Key
remote_key seen (op.Read k) = unless_among seen k
remote_key seen (op.Write k e) = []

-- the keys that are read remotely, in order: by a read of a key that no operation before it names
abbrev pub remote_keys : List Key → List Op → List Key
remote_keys seen [] = []
remote_keys seen (op.Read k ∷ ops) =
    if is_key_among k seen then remote_keys seen ops else k ∷ remote_keys (k ∷ seen) ops
remote_keys seen (op.Write k e ∷ ops) = remote_keys (k ∷ seen) ops

-- the key of a write, unless it is among those written before
abbrev pub written_key : List Key → Op → List Key
written_key seen (op.Read k) = []
written_key seen (op.Write k e) = unless_among seen k

-- the keys that are written, each once, in the order of first writing
abbrev pub written_keys : List Key → List Op → List Key
written_keys seen [] = []
written_keys seen (op.Read k ∷ ops) = written_keys seen ops
written_keys seen (op.Write k e ∷ ops) =
    if is_key_among k seen then written_keys seen ops else k ∷ written_keys (k ∷ seen) ops

-- the script has a write
abbrev pub is_update : List Op → Bool
is_update [] = false
is_update (op.Read k ∷ ops) = is_update ops
is_update (op.Write k e ∷ ops) = true
