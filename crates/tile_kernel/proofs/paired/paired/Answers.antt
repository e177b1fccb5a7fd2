-- The runs go over all places of both columns.
use Rattle.std.proofs.Common.{◌∙◌, sym, ap, length}
use Rattle.tile_kernel.specs.declared.seen.Seen.{Seen}
use Rattle.tile_kernel.specs.Repeated.{shown}
use Rattle.tile_kernel.proofs.Repeats.{runs_places}
use Rattle.tile_kernel.proofs.paired.paired.Goals as goal

pub paired_over-requires-clause-left : goal.paired_over-requires-clause-left
paired_over-requires-clause-left c = ap (λ (s : Seen). length (shown s)) c.in-Runs.is ∙ runs_places c.in-Runs.runs

pub paired_over-requires-clause-right : goal.paired_over-requires-clause-right
paired_over-requires-clause-right c = sym c.requires ∙ ap (λ (s : Seen). length (shown s)) c.in-Runs.is ∙ runs_places c.in-Runs.runs

pub paired_over-requires-in-Runs-right-clause-left : goal.paired_over-requires-in-Runs-right-clause-left
paired_over-requires-in-Runs-right-clause-left c = c.requires ∙ ap (λ (s : Seen). length (shown s)) c.in-Runs-right.is ∙ runs_places c.in-Runs-right.runs

pub paired_over-requires-in-Runs-right-clause-right : goal.paired_over-requires-in-Runs-right-clause-right
paired_over-requires-in-Runs-right-clause-right c = ap (λ (s : Seen). length (shown s)) c.in-Runs-right.is ∙ runs_places c.in-Runs-right.runs
