-- Disks with and without a fuse.
use Rattle.std.specs.Prelude.{None}
use Rattle.score_disk.specs.declared.fused.Fused.{Fused}

-- a disk with a fuse that is not armed
abbrev pub fused : {D : Type 0} → D → Fused D
fused disk = record { inner = disk; left = None; stops = 0 }

-- the disk behind its fuse
abbrev pub unfused : {D : Type 0} → Fused D → D
unfused disk = disk.inner
