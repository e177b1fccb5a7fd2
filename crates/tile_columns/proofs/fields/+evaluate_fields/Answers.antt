-- A bind gives the fields behind it one more variable and settles them; an empty interval leaves them blank.
use Rattle.std.proofs.Common.{◌≡◌, ◌∙◌, ◌<◌, ◌≤◌, ◌+◌, ◌-◌, ℕ, ℤ, List, [], ap, sym, subst, arith, rules, length, take, drop, map, replicate, pos, SFits, w32}
use Rattle.std.specs.Prelude.{sum_by, OnOk}
use Rattle.std.specs.List.{All}
use Rattle.std.proofs.lemmas.Int.{to_z-of_z}
use Rattle.std.proofs.lemmas.List.{length-map}
use Rattle.std.proofs.lemmas.Grind.{common_steps}
use Rattle.arr_core.proofs.FirstAxis.{cut}
use Rattle.wcps_mean.specs.declared.cell.Outcome.TheVariants.{Value}
use Rattle.plan_ir.specs.declared.plan.Bind.{Bind}
use Rattle.plan_ir.specs.Bodies.{body_view}
use Rattle.plan_ir.specs.Plans.{signature_of, bind_view, field_view}
use Rattle.plan_ir.specs.Planned.{cells_of}
use Rattle.tile_columns.specs.Frames.{extended}
use Rattle.tile_columns.specs.Binding.{coordinate_or_lo}
use Rattle.tile_columns.specs.Evaluating.{fetches}
use Rattle.tile_columns.specs.Fields.{columns_behind, bodies_behind, HavePlaces, FieldsHavePlace, settled_by}
use Rattle.tile_columns.proofs.Bindings.{length-extended, cut_extended}
use Rattle.tile_columns.proofs.Fetching.{long_extended}
use Rattle.tile_columns.proofs.Behind.{below_of, not_below_of, empty_binds, settled_places, blank_places, settled_blank, settled_fields, behind_extended, fetched_first, fetched_behind, fetched_more}
use Rattle.tile_columns.proofs.fields.+evaluate_fields.Goals as goal

pub returns-then-bind-clause-value : goal.returns-then-bind-clause-value
returns-then-bind-clause-value g t c = λ i.
    let s = cells_of (g.S.Tiles.state c.args.source.now).cells c.args.ground.now.coverages.now in
    let regs = c.args.ground.now.registers.now in
    let b = c.bind-item.result in
    let fields = map field_view c.args.fields.now in
    let positions = c.evaluate.new.out in
    let blank = replicate (length positions) (Value (pos 0)) in
    let binds = cut c.args.binds.now b c.in-len1-up.len_at_least c.bind-item.is in
    let lo : SFits w32 c.bind-item.result.interval.lo = search rules in
    let hi : SFits w32 c.bind-item.result.interval.hi = search rules in
    let none = below_of _ _ b.interval.hi b.interval.lo (to_z-of_z w32 b.interval.hi hi) (to_z-of_z w32 b.interval.lo lo) c.if-bind.true in
    c.in_ok-columns-in-len1-up.ensures
    ∙ ap (λ n. replicate n (settled_by positions b.interval.lo b.interval.hi blank)) (sym (length-map c.args.fields.now field_view))
    ∙ settled_blank s regs (bind_view b) (map bind_view (take (length c.args.binds.now - 1) (drop 1 c.args.binds.now))) fields positions c.args.frame.now blank (c.in_ok-evaluate-in-len1-up.ensures.value i) none
    ∙ ap (λ l. columns_behind s regs (map bind_view l) fields c.args.frame.now) (sym binds)

pub returns-then-bind-clause-places : goal.returns-then-bind-clause-places
returns-then-bind-clause-places g t c = λ k d lt.
    let b = c.bind-item.result in
    let positions = c.evaluate.new.out in
    let is = c.in_ok-columns-in-len1-up.ensures in
    subst (HavePlaces (length c.args.frame.now)) (sym is)
    (λ k d lt. blank_places positions b.interval.lo b.interval.hi (length c.args.fields.now) (replicate (length positions) (Value (pos 0))) k d lt ∙ c.in_ok-evaluate-in-len1-up.ensures.places) k d lt

pub returns-then-bind-clause-fetched : goal.returns-then-bind-clause-fetched
returns-then-bind-clause-fetched g t c = λ n h.
    let b = c.bind-item.result in
    let f = fetches (signature_of (g.S.Tiles.state c.args.source.now).coverages c.args.ground.now.coverages.now) n c.args.frame.now in
    let few = c.in_ok-evaluate-in-len1-up.ensures.fetched n h in
    let first = fetched_first f c.args.binds.now b (take (length c.args.binds.now - 1) (drop 1 c.args.binds.now)) (map field_view c.args.fields.now) (cut c.args.binds.now b c.in-len1-up.len_at_least c.bind-item.is) in
    omega (arith, few, first)

pub evaluate_fields-requires : goal.evaluate_fields-requires
evaluate_fields-requires g t c κs within =
    let b = c.bind-item.result in
    let cov = c.args.ground.now.coverages.now in
    let regs = length c.args.ground.now.registers.now in
    let fields = map field_view c.args.fields.now in
    let rest = take (length c.args.binds.now - 1) (drop 1 c.args.binds.now) in
    let binds = cut c.args.binds.now b c.in-len1-up.len_at_least c.bind-item.is in
    let frame : c.push_column.new.self ≡ extended c.args.frame.now (map (coordinate_or_lo b.interval.lo b.interval.hi) c.evaluate.new.out) =
    c.in_ok-push_column-in-len1-up.ensures ∙ ap (λ f. extended f c.in_ok-numbers-in-len1-up.numbers.items) c.in_ok-evaluate-in-len1-up.ensures.frame ∙ ap (extended c.args.frame.now) c.in_ok-numbers-in-len1-up.ensures in
    let lo : SFits w32 c.bind-item.result.interval.lo = search rules in
    let hi : SFits w32 c.bind-item.result.interval.hi = search rules in
    let some = not_below_of _ _ b.interval.hi b.interval.lo (to_z-of_z w32 b.interval.hi hi) (to_z-of_z w32 b.interval.lo lo) c.if-bind.false in
    let place : FieldsHavePlace (signature_of (g.S.Tiles.state c.evaluate.new.source).coverages cov) regs (map bind_view rest) fields c.push_column.new.self =
    subst (λ all. FieldsHavePlace (signature_of all cov) regs (map bind_view rest) fields c.push_column.new.self) (sym c.evaluate.ensures.reads.only.coverages)
    (subst (FieldsHavePlace (signature_of (g.S.Tiles.state c.args.source.now).coverages cov) regs (map bind_view rest) fields) (sym frame)
    (behind_extended (signature_of (g.S.Tiles.state c.args.source.now).coverages cov) regs b.interval (body_view b.position) (map bind_view rest) fields c.args.frame.now c.evaluate.new.out
    (subst (λ l. FieldsHavePlace (signature_of (g.S.Tiles.state c.args.source.now).coverages cov) regs (map bind_view l) fields c.args.frame.now) binds c.requires.place)
    some c.in_ok-evaluate-in-len1-up.ensures.places)) in
    let same : c.args.ground.now.signatures.now ≡ (g.S.Tiles.state c.evaluate.new.source).coverages = c.requires.signatures ∙ sym c.evaluate.ensures.reads.only.coverages in
    let less : length rest < length c.args.binds.now = (let e = ap length binds in omega (arith, e)) in
    search (rules, place, same, less)

pub settle_columns-requires : goal.settle_columns-requires
settle_columns-requires g t c = λ k d lt.
    c.in_ok-columns-in-len1-up-2.ensures.places k d lt
    ∙ ap length (c.in_ok-push_column-in-len1-up.ensures ∙ ap (λ f. extended f c.in_ok-numbers-in-len1-up.numbers.items) c.in_ok-evaluate-in-len1-up.ensures.frame)
    ∙ length-extended c.args.frame.now _ ∙ sym c.in_ok-evaluate-in-len1-up.ensures.places

pub returns-in-empty-clause-fetched : goal.returns-in-empty-clause-fetched
returns-in-empty-clause-fetched g t c =
    let e : c.args.binds.now ≡ [] = empty_binds c.args.binds.now c.in-empty.len_below in
    subst (λ (l : List Bind). OnOk c.field_columns.result ((n : ℕ) → All (λ (e : List ℤ). n ≤ length e) c.args.frame.now → (g.S.Tiles.state c.field_columns.new.source).fetched ≤ (g.S.Tiles.state c.args.source.now).fetched + sum_by (fetches (signature_of (g.S.Tiles.state c.args.source.now).coverages c.args.ground.now.coverages.now) n c.args.frame.now) (bodies_behind (map bind_view l) (map field_view c.args.fields.now))))
    (sym e) c.field_columns.ensures.fetched

pub returns-in_ok-settle_columns-in-len1-up-clause-value : goal.returns-in_ok-settle_columns-in-len1-up-clause-value
returns-in_ok-settle_columns-in-len1-up-clause-value g t c = λ i.
    let cov = c.args.ground.now.coverages.now in
    let s = cells_of (g.S.Tiles.state c.args.source.now).cells cov in
    let regs = c.args.ground.now.registers.now in
    let b = c.bind-item.result in
    let fields = map field_view c.args.fields.now in
    let positions = c.evaluate.new.out in
    let rest = map bind_view (take (length c.args.binds.now - 1) (drop 1 c.args.binds.now)) in
    let binds = cut c.args.binds.now b c.in-len1-up.len_at_least c.bind-item.is in
    let at = c.in_ok-evaluate-in-len1-up.ensures in
    let frame : c.push_column.new.self ≡ extended c.args.frame.now (map (coordinate_or_lo b.interval.lo b.interval.hi) positions) =
    c.in_ok-push_column-in-len1-up.ensures ∙ ap (λ f. extended f c.in_ok-numbers-in-len1-up.numbers.items) at.frame ∙ ap (extended c.args.frame.now) c.in_ok-numbers-in-len1-up.ensures in
    c.in_ok-settle_columns-in-len1-up.ensures
    ∙ ap (map (settled_by positions b.interval.lo b.interval.hi))
    (c.in_ok-columns-in-len1-up-2.ensures.value (at.reads.only.intact i)
    ∙ ap (λ f. columns_behind (cells_of f cov) regs rest fields c.push_column.new.self) at.reads.only.cells
    ∙ ap (columns_behind s regs rest fields) frame)
    ∙ settled_fields s regs (bind_view b) rest fields positions c.args.frame.now (at.value i)
    ∙ ap (λ l. columns_behind s regs (map bind_view l) fields c.args.frame.now) (sym binds)

pub returns-in_ok-settle_columns-in-len1-up-clause-places : goal.returns-in_ok-settle_columns-in-len1-up-clause-places
returns-in_ok-settle_columns-in-len1-up-clause-places g t c = λ k d lt.
    let b = c.bind-item.result in
    let positions = c.evaluate.new.out in
    subst (HavePlaces (length c.args.frame.now)) (sym c.in_ok-settle_columns-in-len1-up.ensures)
    (λ k d lt. settled_places positions b.interval.lo b.interval.hi c.in_ok-columns-in-len1-up-2.columns.items k d lt ∙ c.in_ok-evaluate-in-len1-up.ensures.places) k d lt

pub returns-in_ok-settle_columns-in-len1-up-clause-frame : goal.returns-in_ok-settle_columns-in-len1-up-clause-frame
returns-in_ok-settle_columns-in-len1-up-clause-frame g t c =
    let at = c.in_ok-evaluate-in-len1-up.ensures in
    c.truncate.ensures
    ∙ ap (map (take c.depth-depth.result)) (c.in_ok-columns-in-len1-up-2.ensures.frame ∙ c.in_ok-push_column-in-len1-up.ensures ∙ ap (λ f. extended f c.in_ok-numbers-in-len1-up.numbers.items) at.frame)
    ∙ cut_extended c.args.frame.now _ c.depth-depth.result (subst (All (λ (e : List ℤ). length e ≡ c.depth-depth.result)) at.frame c.depth-depth.ensures)

pub returns-in_ok-settle_columns-in-len1-up-clause-fetched : goal.returns-in_ok-settle_columns-in-len1-up-clause-fetched
returns-in_ok-settle_columns-in-len1-up-clause-fetched g t c = λ n h.
    let b = c.bind-item.result in
    let cov = c.args.ground.now.coverages.now in
    let fields = map field_view c.args.fields.now in
    let rest = take (length c.args.binds.now - 1) (drop 1 c.args.binds.now) in
    let cs = signature_of (g.S.Tiles.state c.args.source.now).coverages cov in
    let f = fetches cs n c.args.frame.now in
    let at = c.in_ok-evaluate-in-len1-up.ensures in
    let frame : c.push_column.new.self ≡ extended c.args.frame.now c.in_ok-numbers-in-len1-up.numbers.items =
    c.in_ok-push_column-in-len1-up.ensures ∙ ap (λ f. extended f c.in_ok-numbers-in-len1-up.numbers.items) at.frame in
    let long = subst (All (λ (e : List ℤ). n ≤ length e)) (sym frame) (long_extended c.args.frame.now c.in_ok-numbers-in-len1-up.numbers.items n h) in
    let few = at.fetched n h in
    let more = c.in_ok-columns-in-len1-up-2.ensures.fetched n long in
    let e : sum_by (fetches (signature_of (g.S.Tiles.state c.evaluate.new.source).coverages cov) n c.push_column.new.self) (bodies_behind (map bind_view rest) fields) ≡ sum_by f (bodies_behind (map bind_view rest) fields) =
    ap (λ all. sum_by (fetches (signature_of all cov) n c.push_column.new.self) (bodies_behind (map bind_view rest) fields)) at.reads.only.coverages
    ∙ ap (λ l. sum_by (fetches cs n l) (bodies_behind (map bind_view rest) fields)) frame
    ∙ fetched_behind cs n c.args.frame.now c.in_ok-numbers-in-len1-up.numbers.items (bodies_behind (map bind_view rest) fields) h in
    let all = fetched_more f c.args.binds.now b rest fields (cut c.args.binds.now b c.in-len1-up.len_at_least c.bind-item.is) in
    omega (arith, few, more, e, all)

pub field_columns-requires-clause-place : goal.field_columns-requires-clause-place
field_columns-requires-clause-place g t c = grind (arith, common_steps)

pub evaluate-requires-clause-place : goal.evaluate-requires-clause-place
evaluate-requires-clause-place g t c = grind (arith, common_steps)

pub returns-then-bind-clause-fields : goal.returns-then-bind-clause-fields
returns-then-bind-clause-fields g t c = grind (arith, common_steps)

pub push_column-requires : goal.push_column-requires
push_column-requires g t c = grind (arith, common_steps)

pub returns-in-empty-clause-value : goal.returns-in-empty-clause-value
returns-in-empty-clause-value g t c = grind (arith, common_steps)
