-- Rising numbers lie between the first and the last of them.
use Rattle.std.proofs.Common.{◌-◌, ◌<◌, length, arith, rules, SFits, w64}
use Rattle.std.proofs.lemmas.Int.{ints}
use Rattle.tile_kernel.specs.Keyed.{number_at}
use Rattle.tile_kernel.proofs.Rising.{not_above}
use Rattle.tile_kernel.proofs.slots.range.Goals as goal

pub steps-last-requires : goal.steps-last-requires
steps-last-requires c =
    let numbers = c.args.numbers.now in
    let some : 0 < length numbers = search rules in
    let up = not_above numbers 0 (length numbers - 1) c.requires (omega arith) (omega arith) in
    let first : SFits w64 (number_at numbers 0) = search rules in
    let last : SFits w64 (number_at numbers (length numbers - 1)) = search rules in
    omega (arith, ints, up)

pub returns-clause-near : goal.returns-clause-near
returns-clause-near c k lt =
    let numbers = c.args.numbers.now in
    let first : SFits w64 (number_at numbers 0) = search rules in
    let last : SFits w64 (number_at numbers (length numbers - 1)) = search rules in
    let low = not_above numbers 0 k c.requires (omega arith) lt in
    let high = not_above numbers k (length numbers - 1) c.requires (omega (arith, lt)) (omega (arith, lt)) in
    let at = c.steps-last.ensures in
    (omega (arith, ints, low), omega (arith, ints, high, at))
