-- The key's outcomes at the points are looked up.
use Rattle.std.proofs.Common.{◌∙◌, ◌≤◌, ◌+◌, ap, sym, subst, arith, rules, length}
use Rattle.std.specs.Prelude.{IfOk, IfSome, OnOk, Option, List, option_copied}
use Rattle.arr_core.specs.Domains.{count}
use Rattle.arr_core.proofs.Points.{length-points}
use Rattle.wcps_mean.specs.declared.cell.Outcome.{Outcome}
use Rattle.plan_ir.specs.Bodies.{body_view, fold_view}
use Rattle.plan_ir.specs.Planned.{cells_of}
use Rattle.plan_ir.specs.Units.{bound_times}
use Rattle.tile_columns.specs.Meaning.{chosen}
use Rattle.tile_exec.specs.Known.{IsKnownOf, AreKnownPairs, IsColumnBy}
use Rattle.tile_exec.proofs.Knowing.{bound_few, looked_up}
use Rattle.tile_exec.proofs.keyed.known_column.Goals.{in-None-2, in-Some-2+in_ok-column-in-Some-2}
use Rattle.tile_exec.proofs.keyed.known_column.Goals as goal

pub write_outcomes-requires : goal.write_outcomes-requires
write_outcomes-requires g c =
    let pairs = subst (λ o. IfSome o (λ v. AreKnownPairs c.in-Some.known.now.outcomes.items c.spread.new.self v.items)) c.in-Some-2.is c.in_ok-outcomes_by-in-Some.ensures in
    let many = pairs.many in
    omega (arith, many, ap length c.deref.ensures.value, ap length c.spread.ensures, c.in_ok-column_over-in-Some.ensures.places, length-points c.args.part.now, c.requires.few)

pub returns-after-branch-3-clause-value : goal.returns-after-branch-3-clause-value
returns-after-branch-3-clause-value g c =
    let s = g.S.Tiles.state c.args.source.now in
    let ground = c.args.ground.now in
    let part = c.args.part.now in
    let k = c.args.key.now in
    let known = c.in-Some.known.now in
    let keyed = c.requires.keyed in
    let P = λ (o : Option (List Outcome)). IfSome o (λ x. IsColumnBy s ground part k (option_copied c.args.known) x) in
    elim c.match-branch-3.branch [
      | in-None-2 w ↦ subst (λ r. IfOk r P) (sym w.result-is) tt
      | in-Some-2+in_ok-column-in-Some-2 w ↦ subst (λ r. IfOk r P) (sym w.result-is)
          (λ knows i.
          let holds = subst (λ o. IfSome (option_copied o) (IsKnownOf (cells_of s.cells ground.coverages.now) ground.registers.now (length part) (fold_view k.fold.now))) c.in-Some.is (knows i) in
          let pairs = subst (λ o. IfSome o (λ v. AreKnownPairs known.outcomes.items c.spread.new.self v.items)) w.in-Some-2.is c.in_ok-outcomes_by-in-Some.ensures in
          w.write_outcomes.ensures ∙ w.deref.ensures.value
          ∙ looked_up s ground part k known c.spread.new.self w.in-Some-2.outcomes.items c.axes-axes.ensures.domain.ordered keyed.found (c.same_zones.ensures (search rules)) holds (c.spread.ensures ∙ c.in_ok-column_over-in-Some.ensures.value i) pairs)
    ]

pub returns-after-branch-3-clause-fetched : goal.returns-after-branch-3-clause-fetched
returns-after-branch-3-clause-fetched g c =
    let s = g.S.Tiles.state c.args.source.now in
    let now = g.S.Tiles.state c.column_over.new.source in
    let part = c.args.part.now in
    let k = c.args.key.now in
    let f = c.in_ok-column_over-in-Some.ensures.fetched in
    let few = bound_few (chosen s c.args.ground.now) part (body_view k.body.now) in
    let all : now.fetched ≤ s.fetched + (bound_times (count part) (body_view k.body.now) + bound_times 0 (fold_view k.fold.now)) = omega (arith, f, few) in
    elim c.match-branch-3.branch [
      | in-None-2 w ↦ subst (λ r. OnOk r (now.fetched ≤ s.fetched + (bound_times (count part) (body_view k.body.now) + bound_times 0 (fold_view k.fold.now)))) (sym w.result-is) all
      | in-Some-2+in_ok-column-in-Some-2 w ↦ subst (λ r. OnOk r (now.fetched ≤ s.fetched + (bound_times (count part) (body_view k.body.now) + bound_times 0 (fold_view k.fold.now)))) (sym w.result-is) all
    ]
