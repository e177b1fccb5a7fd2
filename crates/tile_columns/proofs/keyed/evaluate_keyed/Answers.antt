-- The accumulators of all places are told of the whole box in one pass.
use Rattle.std.proofs.Common.{◌≡◌, ◌∙◌, ap, sym, subst, arith, length, take, drop, rules}
use Rattle.std.specs.Prelude.{◌++◌}
use Rattle.arr_core.specs.Domains.{points}
use Rattle.plan_ir.specs.Bodies.{body_view, condition_view}
use Rattle.tile_kernel.specs.Standing.{AreOf, HaveAtMost}
use Rattle.tile_columns.specs.Folds.{FoldHasPlace, AreOfFold}
use Rattle.tile_columns.specs.Meaning.{meaning}
use Rattle.tile_columns.proofs.Condensings.{whole_back, all_told}
use Rattle.tile_columns.proofs.ZoneKeys.{bodies_bound}
use Rattle.tile_columns.proofs.keyed.evaluate_keyed.Goals as goal

pub write_outcomes-requires : goal.write_outcomes-requires
write_outcomes-requires g c =
    let same : length c.tell_zones.new.folds ≡ length c.in_ok-folds.folds.items = c.tell_zones.auto.folds ∙ ap length c.deref_mut.ensures.value in
    let back : take c.in_ok-folds.folds.len (c.tell_zones.new.folds ++ drop (length c.tell_zones.new.folds) c.in_ok-folds.folds.items) ≡ c.tell_zones.new.folds =
    whole_back c.in_ok-folds.folds.len c.tell_zones.new.folds c.in_ok-folds.folds.items (omega (arith, c.in_ok-folds.folds.ok.0)) same in
    let m = ap length c.deref.ensures.value ∙ c.in_ok-finish_folds.ensures.places ∙ ap length back ∙ same ∙ c.in_ok-folds.ensures.length in
    omega (arith, m, c.places.ensures.few)

pub tell_zones-requires : goal.tell_zones-requires
tell_zones-requires g c =
    let f = c.args.key.now.fold.now in
    let lent = sym c.deref_mut.ensures.value in
    let place : FoldHasPlace (g.S.Tiles.state c.args.source.now) c.args.ground.now f c.args.frame.now = record { signatures = c.requires.signatures; place = c.requires.place } in
    let zones = c.requires.zones in
    let folds : AreOfFold f c.args.frame.now 0 c.deref_mut.result.now = record {
      many = ap length c.deref_mut.ensures.value ∙ c.in_ok-folds.ensures.length ∙ c.places.ensures.value;
      kinds = subst (AreOf f.op) lent c.in_ok-folds.ensures.op;
      room = subst (HaveAtMost 0) lent c.in_ok-folds.ensures.room;
    } in
    search (rules, place, zones, folds)

pub returns-clause-value : goal.returns-clause-value
returns-clause-value g c = λ i.
    let f = c.args.key.now.fold.now in
    let same : length c.tell_zones.new.folds ≡ length c.in_ok-folds.folds.items = c.tell_zones.auto.folds ∙ ap length c.deref_mut.ensures.value in
    let back : take c.in_ok-folds.folds.len (c.tell_zones.new.folds ++ drop (length c.tell_zones.new.folds) c.in_ok-folds.folds.items) ≡ c.tell_zones.new.folds =
    whole_back c.in_ok-folds.folds.len c.tell_zones.new.folds c.in_ok-folds.folds.items (omega (arith, c.in_ok-folds.folds.ok.0)) same in
    let long : length c.tell_zones.new.folds ≡ length c.args.frame.now = same ∙ c.in_ok-folds.ensures.length ∙ c.places.ensures.value in
    c.write_outcomes.ensures ∙ c.deref.ensures.value
    ∙ all_told f.op (meaning (g.S.Tiles.state c.args.source.now) c.args.ground.now (condition_view f.condition)) (meaning (g.S.Tiles.state c.args.source.now) c.args.ground.now (body_view f.body)) c.args.frame.now (points f.domain) c.in_ok-folds.folds.items c.deref_mut.result.now c.tell_zones.new.folds _ c.finish_folds.new.list.items
    back c.deref_mut.ensures.value long c.in_ok-folds.ensures.op c.in_ok-folds.ensures.stands (λ a. c.in_ok-tell_zones.ensures.op) (c.in_ok-tell_zones.ensures.told i) c.in_ok-finish_folds.ensures.value

pub returns-clause-places : goal.returns-clause-places
returns-clause-places g c =
    let same : length c.tell_zones.new.folds ≡ length c.in_ok-folds.folds.items = c.tell_zones.auto.folds ∙ ap length c.deref_mut.ensures.value in
    let back : take c.in_ok-folds.folds.len (c.tell_zones.new.folds ++ drop (length c.tell_zones.new.folds) c.in_ok-folds.folds.items) ≡ c.tell_zones.new.folds =
    whole_back c.in_ok-folds.folds.len c.tell_zones.new.folds c.in_ok-folds.folds.items (omega (arith, c.in_ok-folds.folds.ok.0)) same in
    let long : length c.tell_zones.new.folds ≡ length c.args.frame.now = same ∙ c.in_ok-folds.ensures.length ∙ c.places.ensures.value in
    ap length (c.write_outcomes.ensures ∙ c.deref.ensures.value) ∙ c.in_ok-finish_folds.ensures.places ∙ ap length back ∙ long

pub returns-clause-fetched : goal.returns-clause-fetched
returns-clause-fetched g c =
    let z = c.requires.zones in
    let m = bodies_bound c.args.key.now.fold.now c.args.key.now.zones z.depth z.zoned in
    omega (arith, c.in_ok-tell_zones.ensures.fetched, m)
