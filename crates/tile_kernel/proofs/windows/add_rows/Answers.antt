-- In the end all rows are summarized.
use Rattle.std.proofs.Common.{◌≡◌, ◌*◌, arith, subst, length}
use Rattle.tile_kernel.specs.Windows.{KeepsAcross}
use Rattle.tile_kernel.proofs.windows.add_rows.Goals as goal

pub returns : goal.returns
returns g c =
    let end : c.loop-row.row ≡ c.args.rows = omega arith in
    subst (λ n. KeepsAcross g.S.Summary.keeps g.S.Summary.counted c.args.grid.now c.args.across.now (n * length c.args.across.now) c.loop-row.kept) end c.loop-row.invariant
