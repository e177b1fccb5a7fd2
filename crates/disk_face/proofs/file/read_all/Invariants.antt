use Rattle.std.proofs.Common.{◌≡◌, ℕ, ◌+◌, ◌-◌, ◌<◌, ◌≤◌, length, slice_index, IsTrue}
use Rattle.disk_face.specs.Disk.{Unwritten}
use Rattle.disk_face.proofs.file.read_all.Given as goal

abbrev pub invariant-reading : goal.invariant-reading
invariant-reading g l =
    (l.filled ≤ length l.buf)
    × (IsTrue (g.F.RawFile.honest l.initial.file) → (i : ℕ) → i < l.filled
    → slice_index (g.F.RawFile.content l.initial.file) (l.at + i) ≡ slice_index l.buf i)
    × Unwritten g.F.RawFile.content g.F.RawFile.synced g.F.RawFile.honest l.initial.file l.file
    × (IsTrue (g.F.RawFile.works l.initial.file) → IsTrue (g.F.RawFile.works l.file))
    × (IsTrue (g.F.RawFile.tells_length l.initial.file) → IsTrue (g.F.RawFile.tells_length l.file))

abbrev pub decreases-reading : goal.decreases-reading
decreases-reading g l = length l.initial.buf - l.filled
