-- Two lists of kinds pass as the same just where they are.
use Rattle.std.specs.Cmp.{booleans_Decides}
use Rattle.std.proofs.lemmas.Slice.Eq.{slice_eq-Decides}
use Rattle.wcps_types.proofs.same.are_same_kinds.Goals as goal

pub returns : goal.returns
returns c = slice_eq-Decides booleans_Decides _ _ _ c.eq.ensures
