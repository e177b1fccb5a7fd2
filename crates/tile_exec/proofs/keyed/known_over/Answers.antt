-- The samples of the box tell what is known, if they are few.
use Rattle.std.proofs.Common.{◌≤◌, ◌+◌, ap, sym, subst, arith, length}
use Rattle.std.specs.Prelude.{Some, IfSome}
use Rattle.std.specs.List.{All}
use Rattle.std.proofs.lemmas.List.{length-map}
use Rattle.arr_core.specs.Domains.{count}
use Rattle.plan_ir.specs.Bodies.{body_view, fold_view}
use Rattle.plan_ir.specs.Placed.{spans}
use Rattle.tile_columns.specs.Meaning.{chosen}
use Rattle.tile_columns.proofs.Fetching.{times_both}
use Rattle.tile_exec.specs.Known.{IsSampleOf}
use Rattle.tile_exec.proofs.Knowing.{knows_before, samples_later, times_least}
use Rattle.tile_exec.proofs.keyed.known_over.Goals as goal

pub samples_of-requires-clause-placed : goal.samples_of-requires-clause-placed
samples_of-requires-clause-placed g c =
    let keyed = c.requires.keyed in
    let found = keyed.found in
    let key = found.key in
    key.placed (chosen (g.S.Tiles.state c.args.source.now) c.args.ground.now) (length c.args.ground.now.registers.now) (spans c.args.area.now) (length-map c.args.area.now _) keyed.placed

pub returns-in-None-clause-fetched : goal.returns-in-None-clause-fetched
returns-in-None-clause-fetched g c =
    let f = c.in_ok-samples_of.ensures.fetched in
    let m = times_least (count c.args.area.now) (count c.args.area.now + 4096) (body_view c.args.key.now.body.now) (omega arith) in
    omega (arith, f, m)

pub returns-then-is_empty-clause-fetched : goal.returns-then-is_empty-clause-fetched
returns-then-is_empty-clause-fetched g c =
    let f = c.in_ok-samples_of.ensures.fetched in
    let m = times_least (count c.args.area.now) (count c.args.area.now + 4096) (body_view c.args.key.now.body.now) (omega arith) in
    omega (arith, f, m)

pub returns-in_ok-known-in-Some-clause-value : goal.returns-in_ok-known-in-Some-clause-value
returns-in_ok-known-in-Some-clause-value g c =
    let s = g.S.Tiles.state c.args.source.now in
    let now = g.S.Tiles.state c.samples_of.new.source in
    let only = c.samples_of.ensures.reads.only in
    let ground = c.args.ground.now in
    let area = c.args.area.now in
    let key = body_view c.args.key.now.body.now in
    let h = subst (λ o. IfSome o (λ v. All (IsSampleOf s ground area key) v.items)) c.in-Some.is c.in_ok-samples_of.ensures.value in
    knows_before s now ground (length area) (fold_view c.args.key.now.fold.now) (Some c.in_ok-known-in-Some.known) only.cells only.intact
    (λ i. c.in_ok-known-in-Some.ensures.value (subst (All (IsSampleOf now ground area key)) (sym c.deref.ensures.value) (samples_later s now ground area key c.in-Some.samples.items only.cells i h)))

pub returns-in_ok-known-in-Some-clause-fetched : goal.returns-in_ok-known-in-Some-clause-fetched
returns-in_ok-known-in-Some-clause-fetched g c =
    let area = c.args.area.now in
    let key = body_view c.args.key.now.body.now in
    let few = subst (λ o. IfSome o (λ v. length v.items ≤ 4096)) c.in-Some.is c.in_ok-samples_of.ensures.few in
    let a = c.in_ok-samples_of.ensures.fetched in
    let b = c.in_ok-known-in-Some.ensures.fetched in
    let n = ap length c.deref.ensures.value in
    let m = times_least (length c.deref.result.now) 4096 key (omega (arith, n, few)) in
    let t = times_both (count area) 4096 key in
    omega (arith, a, b, m, t)
