-- After the exchange the values are the cells.
use Rattle.std.proofs.Common.{◌≡◌, ◌∙◌, ℤ, List, length, map, ap, arith, take_all}
use Rattle.std.specs.Prelude.{Vec}
use Rattle.std.specs.declared.alloc.Global.{Global}
use Rattle.wcps_mean.specs.declared.cell.Outcome.TheVariants.{Value}
use Rattle.tile_kernel.proofs.column.Column.exchange_narrow.Goals as goal

pub returns : goal.returns
returns c =
    let same : c.swap.new.x.items ≡ c.args.cells.now.items = ap (λ (v : Vec ℤ Global). v.items) c.swap.ensures.x_after in
    ap (λ (zs : List ℤ). map Value zs) (take_all 4096 c.swap.new.x.items (omega (arith, c.requires, ap length same)) ∙ same)
