use Rattle.std.proofs.Common.{◌≡◌, ℕ, ◌-◌, ◌<◌, ◌≤◌, length, slice_index}
use Rattle.disk_face.proofs.lying.invert.Given as goal

abbrev pub invariant-inverting : goal.invariant-inverting
invariant-inverting l =
    (length l.bytes ≡ length l.initial.bytes)
    × (l.done ≤ length l.bytes)
    × ((i : ℕ) → i < l.done → slice_index l.bytes i ≡ 255 - slice_index l.initial.bytes i)
    × ((i : ℕ) → l.done ≤ i → slice_index l.bytes i ≡ slice_index l.initial.bytes i)

abbrev pub decreases-inverting : goal.decreases-inverting
decreases-inverting l = length l.initial.bytes - l.done
