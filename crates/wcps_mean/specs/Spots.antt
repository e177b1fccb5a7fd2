-- Where parts stand.
use Rattle.wcps_types.specs.Typed.{field_tree}
use Rattle.wcps_mean.specs.declared.part.Spot.{Spot}
use Rattle.wcps_mean.specs.Parts.{PartTree}

-- the part that stands there
abbrev pub part_at : Spot → PartTree
part_at s = record { tree = field_tree s.node.now s.field; iterates = s.iterates }
