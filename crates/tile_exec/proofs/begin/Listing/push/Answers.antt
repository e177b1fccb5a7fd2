-- A task of the plan comes behind those that are listed, and its boxes are counted.
use Rattle.tile_exec.proofs.Begun.{pushed}
use Rattle.tile_exec.proofs.begin.Listing.push.Goals as goal

pub returns : goal.returns
returns c = λ plan tree is fit few. pushed plan c.args.self.now _ c.args.task tree c.args.boxes c.in_ok-push.ensures.items c.saturating_add-self.ensures is fit few
