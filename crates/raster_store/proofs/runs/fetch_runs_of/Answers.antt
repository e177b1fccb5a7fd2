-- A tile that is kept of the coverage's version is the coverage's, and one that is read is kept.
use Rattle.std.proofs.Common.{rules, Some}
use Rattle.arr_core.specs.Runs.{cells_of}
use Rattle.raster_store.proofs.Versions.{adds_of}
use Rattle.raster_store.proofs.runs.fetch_runs_of.Goals as goal

pub returns-then-branch-clause-read : goal.returns-then-branch-clause-read
returns-then-branch-clause-read g c = c.requires.kept _ (Some (cells_of c.get_runs.new.runs)) (c.in_ok-get_runs.ensures.kept (search rules)) (search rules)

pub returns-clause-kept : goal.returns-clause-kept
returns-clause-kept g c =
    adds_of _ c.args.of.coverage.now _ _ _ _ _ c.get_runs.ensures.same c.keep_runs.ensures (search rules) c.in_ok-read_runs_of.ensures.read
