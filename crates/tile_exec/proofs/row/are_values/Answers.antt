-- One more column.
use Rattle.std.proofs.Common.{[], refl, sym, subst, arith, length, get_or, below_more}
use Rattle.std.specs.Prelude.{All}
use Rattle.std.proofs.lemmas.List.{get_or_default, get_or_read_under}
use Rattle.std.proofs.lemmas.List.Elements.{All-map}
use Rattle.wcps_mean.specs.declared.cell.Outcome.TheVariants.{Value}
use Rattle.tile_kernel.specs.Told.{IsValue}
use Rattle.tile_exec.proofs.row.are_values.Goals as goal

pub loop-k-preserved : goal.loop-k-preserved
loop-k-preserved c =
    let columns = c.args.columns.now in
    let k = c.loop-k.k in
    let column = c.index-columns-k.result in
    let own = subst (All IsValue) (sym c.in-Some.ensures) (All-map IsValue Value _ (λ j d lt. tt)) in
    let same = get_or_read_under columns k (length columns) column [] c.index-columns-k.is (omega (arith, c.loop-k-test.true)) refl in
    below_more (λ j. All IsValue (get_or columns j [])) k c.loop-k.invariant (subst (All IsValue) same own)

pub returns : goal.returns
returns c = λ h j d lt. subst (All IsValue) (get_or_default c.args.columns.now j [] d lt) (c.loop-k.invariant j (omega (arith, lt, c.loop-k-test.false)))
