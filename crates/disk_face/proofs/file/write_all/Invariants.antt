use Rattle.std.proofs.Common.{◌≡◌, ◌-◌, ◌<◌, ◌≤◌, length, take, IsTrue}
use Rattle.disk_face.specs.Disk.{Torn, Written}
use Rattle.disk_face.proofs.file.write_all.Given as goal

abbrev pub invariant-writing : goal.invariant-writing
invariant-writing g l =
    (l.taken ≤ length l.bytes)
    × (l.taken ≡ 0 → g.F.RawFile.content l.file ≡ g.F.RawFile.content l.initial.file)
    × (IsTrue (g.F.RawFile.honest l.initial.file) → 0 < l.taken
    → Written l.at (take l.taken l.bytes) (g.F.RawFile.content l.initial.file) (g.F.RawFile.content l.file))
    × Torn l.at (length l.bytes) (g.F.RawFile.content l.initial.file) (g.F.RawFile.content l.file)
    × Torn l.at (length l.bytes) (g.F.RawFile.synced l.initial.file) (g.F.RawFile.synced l.file)
    × (g.F.RawFile.honest l.file ≡ g.F.RawFile.honest l.initial.file)
    × (IsTrue (g.F.RawFile.works l.initial.file) → IsTrue (g.F.RawFile.works l.file))
    × (IsTrue (g.F.RawFile.tells_length l.initial.file) → IsTrue (g.F.RawFile.tells_length l.file))

abbrev pub decreases-writing : goal.decreases-writing
decreases-writing g l = length l.bytes - l.taken
