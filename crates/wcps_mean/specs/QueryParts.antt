-- Parts of queries as values alone.
use Rattle.std.specs.Prelude.{pos, option_map, unwrap_or}
use Rattle.wcps_types.specs.Typed.{number, tree_view}
use Rattle.wcps_types.specs.Renamed.{over}
use Rattle.wcps_mean.specs.declared.query_part.QueryPart.{QueryPart}
use Rattle.wcps_mean.specs.Parts.{PartTree, at_point, part_of}

-- the part over its coverages, which is there
abbrev pub part_view : QueryPart → PartTree
part_view p = unwrap_or (part_of p.part (over p.coverages.items (option_map tree_view p.tree)))
    (at_point (number (pos 0)))
