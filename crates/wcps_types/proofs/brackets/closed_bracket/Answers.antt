-- To take out the last axis and then those before it is to take out all of them.
use Rattle.std.proofs.Common.{[], ◌∷◌, map, ap, sym, ◌∙◌, arith}
use Rattle.std.proofs.lemmas.List.{map-append}
use Rattle.wcps_types.specs.Shapes.{shape_view}
use Rattle.wcps_types.specs.Brackets.{cut_view, all_cut_out}
use Rattle.wcps_types.proofs.Applied.{all_cut_out_last}
use Rattle.wcps_types.proofs.Fields.{bracket_fields}
use Rattle.wcps_types.proofs.brackets.closed_bracket.Goals as goal

pub loop-cut-preserved : goal.loop-cut-preserved
loop-cut-preserved c =
    let made = c.in_ok-shape.ensures in
    let last = all_cut_out_last (map cut_view c.pop.new.self.items) (cut_view c.in-Some.cut) (shape_view c.loop-cut.shape) in
    let split = map-append cut_view c.pop.new.self.items (c.in-Some.cut ∷ []) in
    let parts = ap (λ cuts. all_cut_out (map cut_view cuts) (shape_view c.loop-cut.shape)) c.in-Some.ensures.items in
    let whole = ap (λ trees. all_cut_out trees (shape_view c.loop-cut.shape)) split in
    let here = ap (all_cut_out (map cut_view c.pop.new.self.items)) made in
    here ∙ sym last ∙ sym whole ∙ sym parts ∙ c.loop-cut.invariant

pub returns : goal.returns
returns c = grind (arith, bracket_fields)
