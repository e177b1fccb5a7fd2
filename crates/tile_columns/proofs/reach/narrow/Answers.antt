-- Both axes get the coordinates.
use Rattle.std.proofs.Common.{rules, arith, SFits, w32}
use Rattle.std.proofs.lemmas.Int.{ints}
use Rattle.tile_columns.proofs.Narrowing.{columns_there, rows_there, narrowed_both}
use Rattle.tile_columns.proofs.ZoneFolds.{if_done}
use Rattle.tile_columns.proofs.reach.narrow.Goals as goal

pub narrow-requires : goal.narrow-requires
narrow-requires c =
    let low : SFits w32 c.args.extents.columns.lo = search rules in
    let high : SFits w32 c.args.extents.columns.hi = search rules in
    columns_there c.args.extents c.args.domain.now _ _ c.requires (omega (arith, ints)) (omega (arith, ints))

pub narrow-requires-2 : goal.narrow-requires-2
narrow-requires-2 c =
    let low : SFits w32 c.args.extents.rows.lo = search rules in
    let high : SFits w32 c.args.extents.rows.hi = search rules in
    rows_there c.args.extents c.args.domain.now c.in_ok-across.across _ _ _ _ c.requires c.in_ok-across.ensures (omega (arith, ints)) (omega (arith, ints))

pub returns : goal.returns
returns c =
    let low : SFits w32 c.args.extents.rows.lo = search rules in
    let high : SFits w32 c.args.extents.rows.hi = search rules in
    let clow : SFits w32 c.args.extents.columns.lo = search rules in
    let chigh : SFits w32 c.args.extents.columns.hi = search rules in
    if_done c.narrow-2.result _ _ (λ d e. narrowed_both c.args.extents c.args.domain.now c.in_ok-across.across d _ _ _ _ c.requires c.in_ok-across.ensures e (omega (arith, ints)) (omega (arith, ints)) (omega (arith, ints)) (omega (arith, ints))) c.narrow-2.ensures
