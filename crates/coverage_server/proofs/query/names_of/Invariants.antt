use Rattle.std.proofs.Common.{◌≡◌, map, take}
use Rattle.arr_core.specs.declared.signature.Signature.{Signature}
use Rattle.coverage_server.proofs.query.names_of.Given as goal

abbrev pub invariant-loop-coverage : goal.invariant-loop-coverage
invariant-loop-coverage l = l.names.items ≡ map (λ (c : Signature). c.name) (take l.coverage-index l.coverages)
