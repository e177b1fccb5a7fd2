-- Two domains are told to be the same exactly where they have the same axes.
use Rattle.map_templates.proofs.Same.{told-same}
use Rattle.map_templates.proofs.expansion.are_same.Goals as goal

pub returns : goal.returns
returns c = told-same c.is_same.result c.args.domain.now c.args.other.now c.is_same.ensures
