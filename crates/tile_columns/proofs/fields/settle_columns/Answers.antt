-- One more column is settled by the positions.
use Rattle.std.proofs.Common.{◌≡◌, ◌∙◌, ◌<◌, ap, arith, length, get_or, set}
use Rattle.std.proofs.lemmas.Grind.{common_steps}
use Rattle.tile_columns.specs.Fields.{settled_by}
use Rattle.tile_columns.proofs.Behind.{partly_at, partly_next, length-partly}
use Rattle.tile_columns.proofs.fields.settle_columns.Goals as goal

pub loop-k-preserved : goal.loop-k-preserved
loop-k-preserved c =
    let f = settled_by c.args.positions.now c.args.interval.lo c.args.interval.hi in
    let xs = c.args.columns.now.items in
    let k = c.loop-k.k in
    let old = c.index_mut.result.now in
    let inv = c.loop-k.invariant in
    let n = ap length inv ∙ length-partly f c.loop-k.k c.args.columns.now.items in
    let lt : k < length xs = omega (arith, n, c.loop-k-test.true) in
    let is : old ≡ get_or xs k old = c.index_mut.ensures.value ∙ ap (λ l. get_or l k old) inv ∙ partly_at f k xs old in
    ap (λ x. set c.loop-k.columns.items k x) (c.in_ok-settle.ensures ∙ ap f is)
    ∙ ap (λ l. set l k (f (get_or xs k old))) inv
    ∙ partly_next f k xs old lt

pub returns : goal.returns
returns c = grind (arith, common_steps)
