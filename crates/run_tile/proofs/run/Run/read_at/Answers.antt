-- The run that is read at a place is the one that stands there, counted from 0.
use Rattle.std.proofs.Common.{ℕ, ◌+◌, ◌*◌, drop, ap, ◌∙◌}
use Rattle.std.proofs.lemmas.List.{take_rest}
use Rattle.run_tile.specs.Runs.{run_of, run_at}
use Rattle.run_tile.proofs.run.Run.read_at.Goals as goal

pub returns : goal.returns
unfolding run_at
returns c =
    let bytes = c.args.bytes.now in
    c.read.ensures ∙ ap (run_of c.args.kind) (take_rest bytes _) ∙ ap (λ (w : ℕ). run_of c.args.kind (drop (c.args.place * (2 + w)) bytes)) c.width-size.ensures
