use Rattle.std.proofs.Common.{◌≡◌, ◌++◌, take}
use Rattle.std.specs.Prelude.{codes, string_bytes}
use Rattle.std.specs.List.{flat_map}
use Rattle.arr_core.specs.declared.signature.Signature.{Signature}
use Rattle.coverage_server.specs.Views.{signatures_of}
use Rattle.coverage_server.proofs.requests.list.Given as goal

abbrev pub invariant-loop-place : goal.invariant-loop-place
invariant-loop-place g l = string_bytes l.text ≡ flat_map (λ (s : Signature). s.name ++ codes "\n") (take l.place (signatures_of l.coverages.store))
