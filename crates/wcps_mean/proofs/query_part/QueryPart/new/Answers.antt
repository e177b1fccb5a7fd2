-- A part that is there is the part of the tree over the coverages.
use Rattle.std.proofs.Common.{rules, ◌≡◌, ◌∙◌, sym, true, false}
use Rattle.std.specs.Prelude.{option_map}
use Rattle.wcps_types.specs.Typed.{tree_view}
use Rattle.wcps_types.specs.Renamed.{over}
use Rattle.wcps_mean.specs.Parts.{part_of}
use Rattle.wcps_mean.proofs.PartsOver.{None-is_some, Some-unwrap_or}
use Rattle.wcps_mean.proofs.query_part.QueryPart.new.Goals as goal

pub returns-then-not-has_part : goal.returns-then-not-has_part
returns-then-not-has_part c =
    let no : c.has_part.result ≡ false = search rules in
    None-is_some (part_of c.args.part (over c.args.coverages.items (option_map tree_view c.args.tree))) (sym (c.has_part.ensures c.args.coverages.items) ∙ no)

pub returns : goal.returns
returns c =
    let yes : c.has_part.result ≡ true = search rules in
    Some-unwrap_or (part_of c.args.part (over c.args.coverages.items (option_map tree_view c.args.tree))) _ (sym (c.has_part.ensures c.args.coverages.items) ∙ yes)
