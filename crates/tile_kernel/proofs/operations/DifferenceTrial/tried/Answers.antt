-- Where the mark is not negative, the difference has not wrapped.
use Rattle.std.proofs.Common.{refl, rules, SFits, w64, ◌+◌, ◌-◌, ◌%◌, ◌^◌, to_z, of_z}
use Rattle.tile_kernel.proofs.Signs.{difference_kept}
use Rattle.tile_kernel.proofs.Results.{ranged_same}
use Rattle.tile_kernel.proofs.operations.DifferenceTrial.tried.Goals as goal

pub returns : goal.returns
returns c = λ h.
    let fits : SFits w64 (to_z w64 ((of_z w64 c.args.x + (2 ^ 64 - of_z w64 c.args.y)) % 2 ^ 64)) = search rules in
    ranged_same _ _ (difference_kept c.args.x c.args.y _ c.ranges.x c.ranges.y refl h) fits
