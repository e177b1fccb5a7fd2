-- The summaries that were written are those of the list.
use Rattle.std.proofs.Common.{◌*◌, arith, subst, sym, length}
use Rattle.std.proofs.lemmas.Grind.{common_steps}
use Rattle.tile_kernel.specs.Windows.{KeepsAcross}
use Rattle.tile_kernel.proofs.Places.{written_back}
use Rattle.tile_kernel.proofs.windows.rows_across.Goals as goal

pub returns-clause-kept : goal.returns-clause-kept
returns-clause-kept g c =
    subst (KeepsAcross g.S.Summary.keeps g.S.Summary.counted c.args.grid.now c.args.across.now (c.args.rows * length c.args.across.now))
    (sym (written_back c.in_ok-kept.kept.len c.add_rows.new.kept _ (omega (arith, c.in_ok-kept.kept.ok.0))))
    c.add_rows.ensures

pub returns-clause-length : goal.returns-clause-length
returns-clause-length g c = grind (arith, common_steps)
