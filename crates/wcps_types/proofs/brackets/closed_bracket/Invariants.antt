use Rattle.std.proofs.Common.{◌≡◌, map, vec_len}
use Rattle.wcps_types.specs.Shapes.{shape_view}
use Rattle.wcps_types.specs.Brackets.{all_cut_out, cut_view}
use Rattle.wcps_types.proofs.brackets.closed_bracket.Given as goal

abbrev pub invariant-loop-cut : goal.invariant-loop-cut
invariant-loop-cut l =
    all_cut_out (map cut_view l.cuts.items) (shape_view l.shape) ≡ all_cut_out (map cut_view l.fn.cuts.items) (shape_view l.fn.shape)

abbrev pub decreases-loop-cut : goal.decreases-loop-cut
decreases-loop-cut l = vec_len l.cuts
