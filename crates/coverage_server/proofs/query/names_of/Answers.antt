-- Once the name of each coverage has been copied, the names are those of all of them.
use Rattle.std.proofs.Common.{◌≤◌, length, map, ap, ◌∙◌, arith}
use Rattle.std.proofs.lemmas.List.{take_all}
use Rattle.std.proofs.lemmas.Grind.{common_steps}
use Rattle.arr_core.specs.declared.signature.Signature.{Signature}
use Rattle.coverage_server.proofs.query.names_of.Goals as goal

pub returns : goal.returns
returns c =
    let all : length c.args.coverages.now ≤ c.loop-coverage.coverage-index = omega arith in
    c.loop-coverage.invariant ∙ ap (map (λ (s : Signature). s.name)) (take_all c.loop-coverage.coverage-index c.args.coverages.now all)

pub loop-coverage-preserved : goal.loop-coverage-preserved
loop-coverage-preserved c = grind (arith, common_steps)
