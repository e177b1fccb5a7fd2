-- One more field has its column, and no more tiles are fetched than the fields so far may.
use Rattle.std.proofs.Common.{◌≡◌, ◌∙◌, ◌<◌, ◌≤◌, ◌+◌, ℤ, List, [], ◌∷◌, ap, sym, subst, arith, rules, length, length-append, map}
use Rattle.std.specs.Prelude.{sum_by}
use Rattle.std.specs.List.{All}
use Rattle.std.proofs.lemmas.List.Elements.{All-push}
use Rattle.std.proofs.lemmas.Grind.{common_steps}
use Rattle.wcps_mean.specs.declared.cell.Outcome.{Outcome}
use Rattle.plan_ir.specs.Bodies.{body_view}
use Rattle.plan_ir.specs.Run.{run}
use Rattle.plan_ir.specs.Plans.{signature_of, field_view}
use Rattle.plan_ir.specs.Planned.{cells_of}
use Rattle.tile_columns.specs.Evaluating.{HasPlace, fetches}
use Rattle.tile_columns.specs.Fields.{bodies_behind, HavePlaces}
use Rattle.tile_columns.proofs.Behind.{field_at, column_more, bodies_more, whole_list}
use Rattle.tile_columns.proofs.Calls.{reads_on}
use Rattle.tile_columns.proofs.fields.field_columns.Goals as goal

pub evaluate-requires-clause-place : goal.evaluate-requires-clause-place
evaluate-requires-clause-place g c =
    let inv = c.loop-field.invariant in
    let regs = length c.args.ground.now.registers.now in
    let body = body_view c.field-item.result.body in
    subst (HasPlace (signature_of (g.S.Tiles.state c.loop-field.source).coverages c.args.ground.now.coverages.now) regs body) (sym inv.frame)
    (subst (λ all. HasPlace (signature_of all c.args.ground.now.coverages.now) regs body c.args.frame.now) (sym inv.reads.coverages)
    (field_at (signature_of (g.S.Tiles.state c.args.source.now).coverages c.args.ground.now.coverages.now) regs c.args.fields.now c.args.frame.now c.loop-field.field-index c.field-item.result c.requires.place (omega (arith, c.loop-field-test.true)) c.field-item.is))

pub returns-in_err-evaluate-clause-reads : goal.returns-in_err-evaluate-clause-reads
returns-in_err-evaluate-clause-reads g c =
    let inv = c.loop-field.invariant in
    let e = c.in_err-evaluate.ensures.reads.tells in
    let i = inv.reads.intact in
    record { only = reads_on inv.reads c.evaluate.ensures.reads.only; tells = search (rules, inv.failures, e, i) }

pub loop-field-preserved : goal.loop-field-preserved
loop-field-preserved g c =
    let inv = c.loop-field.invariant in
    let cov = c.args.ground.now.coverages.now in
    let regs = c.args.ground.now.registers.now in
    let k = c.loop-field.field-index in
    let x = c.field-item.result in
    let tree = body_view x.body in
    let a = ap length c.in_ok-push_column.ensures in
    let b = length-append c.loop-field.columns.items (c.evaluate.new.out ∷ []) in
    let lt : c.loop-field.field-index < length c.args.fields.now = omega (arith, c.loop-field-test.true) in
    let ens = c.in_ok-evaluate.ensures in
    record {
      value = λ i.
          column_more (cells_of (g.S.Tiles.state c.args.source.now).cells cov) regs c.args.fields.now c.args.frame.now k x c.evaluate.new.out c.loop-field.columns.items c.push_column.new.columns.items lt c.field-item.is
          (ens.value (inv.reads.intact i) ∙ ap (λ s. map (run (cells_of s cov) regs tree) c.loop-field.frame) inv.reads.cells ∙ ap (map (run (cells_of (g.S.Tiles.state c.args.source.now).cells cov) regs tree)) inv.frame)
          c.in_ok-push_column.ensures (inv.value i);
      fields = omega (arith, a, b, inv.fields);
      places = subst (HavePlaces (length c.args.frame.now)) (sym c.in_ok-push_column.ensures) (All-push (λ (o : List Outcome). length o ≡ length c.args.frame.now) c.loop-field.columns.items c.evaluate.new.out inv.places (ens.places ∙ ap length inv.frame));
      frame = ens.frame ∙ inv.frame;
      fetched = λ n h.
          let step = ens.fetched n (subst (All (λ (e : List ℤ). n ≤ length e)) (sym inv.frame) h) in
          let e : fetches (signature_of (g.S.Tiles.state c.loop-field.source).coverages cov) n c.loop-field.frame tree ≡ fetches (signature_of (g.S.Tiles.state c.args.source.now).coverages cov) n c.args.frame.now tree =
          ap (λ all. fetches (signature_of all cov) n c.loop-field.frame tree) inv.reads.coverages ∙ ap (λ f. fetches (signature_of (g.S.Tiles.state c.args.source.now).coverages cov) n f tree) inv.frame in
          let m = bodies_more (fetches (signature_of (g.S.Tiles.state c.args.source.now).coverages cov) n c.args.frame.now) c.args.fields.now k x lt c.field-item.is in
          let before = inv.fetched n h in
          omega (arith, step, e, m, before);
      reads = reads_on inv.reads ens.reads.only;
      failures = ens.reads.tells ∙ inv.failures;
    }

pub returns-clause-fetched : goal.returns-clause-fetched
returns-clause-fetched g c = λ n h.
    let cov = c.args.ground.now.coverages.now in
    let f = fetches (signature_of (g.S.Tiles.state c.args.source.now).coverages cov) n c.args.frame.now in
    subst (λ l. (g.S.Tiles.state c.loop-field.source).fetched ≤ (g.S.Tiles.state c.args.source.now).fetched + sum_by f (bodies_behind [] (map field_view l)))
    (whole_list c.loop-field.field-index c.args.fields.now (omega (arith, c.loop-field-test.false)))
    (c.loop-field.invariant.fetched n h)

pub returns-clause-value : goal.returns-clause-value
returns-clause-value g c = grind (arith, common_steps)
