-- Two lists of numbers pass as the same just where they are.
use Rattle.std.specs.Cmp.{signed_Decides}
use Rattle.std.proofs.lemmas.Slice.Eq.{slice_eq-Decides}
use Rattle.wcps_types.proofs.same.are_same_numbers.Goals as goal

pub returns : goal.returns
returns c = slice_eq-Decides signed_Decides _ _ _ c.eq.ensures
