use Rattle.std.proofs.Common.{◌≡◌, ◌++◌, drop}
use Rattle.wcps_types.specs.Variables.{signatures_in}
use Rattle.wcps_types.specs.Sharing.{signatures_at}
use Rattle.wcps_types.proofs.sharing.signatures_at.Given as goal

abbrev pub invariant-loop-place : goal.invariant-loop-place
invariant-loop-place l = signatures_in l.signatures.items ++ signatures_at l.coverages (drop l.place-index l.places) ≡ signatures_at l.coverages l.places
