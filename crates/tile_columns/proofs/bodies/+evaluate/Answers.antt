-- Each node of a body gives its column of outcomes, a fold by points or by tiles, and fetches within its bound.
use Rattle.std.proofs.Common.{◌≡◌, ◌∙◌, ◌+◌, ◌-◌, ◌*◌, ◌^◌, ◌<◌, ◌≤◌, ℕ, ℤ, List, [], ◌∷◌, ◌++◌, refl, ap, sym, subst, length, map, get_or, take, drop, arith, pos, rules}
use Rattle.std.specs.Prelude.{replicate, OnOk, IfOk, Option, option_copied}
use Rattle.std.proofs.lemmas.Grind.{common_steps}
use Rattle.wcps_mean.specs.declared.cell.Outcome.TheVariants.{Value}
use Rattle.plan_ir.specs.Bodies.{read}
use Rattle.plan_ir.proofs.Folds.{folded}
use Rattle.tile_kernel.specs.Told.{demanded_of}
use Rattle.tile_columns.proofs.Ranges.{map_map}
use Rattle.arr_core.specs.Domains.{points, rank_of, IsInside}
use Rattle.wcps_mean.specs.Cells.{operate1}
use Rattle.plan_ir.specs.Bodies.{body_view, condition_view, fold_view}
use Rattle.plan_ir.specs.Run.{run, numbers_at}
use Rattle.plan_ir.specs.Plans.{signature_of}
use Rattle.plan_ir.specs.Planned.{cells_of}
use Rattle.tile_kernel.specs.Columns.{operate_all}
use Rattle.tile_kernel.proofs.Places.{operate_all-map, length-operate_all}
use Rattle.tile_columns.specs.Frames.{extended}
use Rattle.tile_columns.specs.Binding.{at_positions, with_coordinate}
use Rattle.tile_columns.specs.Condensing.{under_vars}
use Rattle.tile_columns.specs.Evaluating.{HasPlace}
use Rattle.tile_columns.proofs.Placing.{items_there, place_at_point, folded_place}
use Rattle.tile_columns.proofs.Bindings.{place_extended, settled_at, length-at_positions, length-extended, cut_under, cut_extended, bound_all, filled}
use Rattle.tile_columns.proofs.Condensings.{told_always, told_where, told_under, point_more, whole_back, all_told}
use Rattle.std.proofs.lemmas.List.{length-map}
use Rattle.std.specs.List.{All}
use Rattle.plan_ir.specs.Units.{bound_times}
use Rattle.arr_core.specs.Domains.{count}
use Rattle.tile_columns.specs.Evaluating.{fetches}
use Rattle.tile_columns.proofs.Fetching.{read_few, times_few, times_more, fetches_extended, long_extended, on_ok}
use Rattle.std.specs.List.{flat_map}
use Rattle.std.proofs.Math.Nat.{mul_comm}
use Rattle.arr_core.specs.Tiles.{tile_boxes}
use Rattle.arr_core.proofs.Points.{length-points, count-pos}
use Rattle.tile_kernel.specs.declared.accumulator.Accumulator.{Accumulator}
use Rattle.tile_kernel.specs.Told.{Told, told_at, demanded_at}
use Rattle.tile_kernel.specs.Standing.{Stands, AreOf, HaveAtMost, EachTakesIn}
use Rattle.tile_columns.specs.Condensing.{told_of, told_ranked}
use Rattle.tile_columns.specs.Zones.{own_of, key_of, other_of, AreZonesOf}
use Rattle.tile_columns.specs.TileOrder.{points_to}
use Rattle.tile_columns.proofs.TileOrders.{points_whole}
use Rattle.tile_kernel.proofs.Falsity.{never_told}
use Rattle.tile_columns.proofs.TileFolds.{no_tile, tile_more, all_tiles, points_next, room_more, place_more, count_more, rest_more, stands_ranked, always_told, one_place, place_in_part, times_tile}
use Rattle.tile_columns.proofs.ZoneFolds.{zone_told, own_place, other_place, key_place, zone_bound, times_next}
use Rattle.tile_columns.proofs.ZoneKeys.{zoned_equation}
use Rattle.tile_columns.specs.Meaning.{meaning, chosen, HasPlaceOver, IsColumnOf, Fetches}
use Rattle.tile_columns.specs.Folds.{FoldHasPlace, BodiesHavePlace, AreOfFold, FetchesPoint, FetchesPoints, FetchesOwn}
use Rattle.tile_columns.proofs.Calls.{reads_on}
use Rattle.tile_columns.proofs.FoldPlaces.{reads_same, fold_later}
use Rattle.tile_columns.proofs.WindowMeaning.{all_windows, windows_many, window_bound}
use Rattle.tile_columns.proofs.bodies.+evaluate.Goals as goal

pub at_coordinates-evaluate-requires : goal.at_coordinates-evaluate-requires
at_coordinates-evaluate-requires g t c =
    let here : HasPlaceOver (g.S.Tiles.state c.args.source.now) c.args.bound.now.ground.now (body_view c.args.body.now) c.push_column.new.self =
    subst (HasPlaceOver (g.S.Tiles.state c.args.source.now) c.args.bound.now.ground.now (body_view c.args.body.now))
    (sym (c.in_ok-push_column.ensures ∙ ap (extended c.args.frame.now) c.in_ok-numbers.ensures))
    (place_extended c.args.bound.now.interval (body_view c.args.body.now) c.args.frame.now c.args.bound.now.positions.now c.requires.place c.requires.ordered c.requires.positions) in
    search (rules, here)

pub at_coordinates-returns-clause-places : goal.at_coordinates-returns-clause-places
at_coordinates-returns-clause-places g t c = c.in_ok-evaluate.ensures.places ∙ ap length c.in_ok-push_column.ensures ∙ length-extended c.args.frame.now _

pub at_coordinates-returns-clause-frame : goal.at_coordinates-returns-clause-frame
at_coordinates-returns-clause-frame g t c =
    c.truncate.ensures ∙ ap (map (take c.depth-depth.result)) (c.in_ok-evaluate.ensures.frame ∙ c.in_ok-push_column.ensures)
    ∙ cut_extended c.args.frame.now _ c.depth-depth.result c.depth-depth.ensures

pub bind-returns-then-interval-clause-places : goal.bind-returns-then-interval-clause-places
bind-returns-then-interval-clause-places g t c = ap length c.in_ok-settle.ensures ∙ length-at_positions c.args.bound.now.positions.now _ _ _ ∙ c.requires.positions

pub bind-returns-clause-value : goal.bind-returns-clause-value
bind-returns-clause-value g t c = λ i.
    c.in_ok-settle-2.ensures
    ∙ settled_at (meaning (g.S.Tiles.state c.args.source.now) c.args.bound.now.ground.now (body_view c.args.body.now)) c.args.bound.now.positions.now c.at_coordinates.new.out c.args.bound.now.interval.lo c.args.bound.now.interval.hi c.args.frame.now c.requires.positions (c.in_ok-at_coordinates.ensures.value i)

pub bind-returns-clause-places : goal.bind-returns-clause-places
bind-returns-clause-places g t c = ap length c.in_ok-settle-2.ensures ∙ length-at_positions c.args.bound.now.positions.now _ _ _ ∙ c.requires.positions

pub condense-condense_window-requires : goal.condense-condense_window-requires
condense-condense_window-requires g t c =
    let w = rw c.in-Some.is at c.in_ok-found.ensures in
    record { signatures = c.requires.signatures; ready = w.ready }

pub condense-returns-in-Some-clause-value : goal.condense-returns-in-Some-clause-value
condense-returns-in-Some-clause-value g t c =
    let w = rw c.in-Some.is at c.in_ok-found.ensures in
    on_ok c.condense_window.result (λ v i. v i ∙ all_windows (g.S.Tiles.state c.args.source.now) c.args.ground.now c.args.fold.now c.args.frame.now c.in-Some.window w) c.condense_window.ensures.value

pub condense-returns-in-Some-clause-places : goal.condense-returns-in-Some-clause-places
condense-returns-in-Some-clause-places g t c =
    let w = rw c.in-Some.is at c.in_ok-found.ensures in
    on_ok c.condense_window.result (λ v. v ∙ windows_many c.args.ground.now c.args.fold.now c.args.frame.now c.in-Some.window w) c.condense_window.ensures.places

pub condense-returns-in-Some-clause-fetched : goal.condense-returns-in-Some-clause-fetched
condense-returns-in-Some-clause-fetched g t c =
    let w = rw c.in-Some.is at c.in_ok-found.ensures in
    let few = window_bound c.args.ground.now c.args.fold.now c.args.frame.now c.in-Some.window w in
    on_ok c.condense_window.result (λ le n h. omega (arith, le, few)) c.condense_window.ensures.fetched

pub condense-write_outcomes-requires : goal.condense-write_outcomes-requires
condense-write_outcomes-requires g t c =
    let same : length c.tell_all.new.folds ≡ length c.in_ok-folds.folds.items = c.tell_all.auto.folds ∙ ap length c.deref_mut.ensures.value in
    let back : take c.in_ok-folds.folds.len (c.tell_all.new.folds ++ drop (length c.tell_all.new.folds) c.in_ok-folds.folds.items) ≡ c.tell_all.new.folds =
    whole_back c.in_ok-folds.folds.len c.tell_all.new.folds c.in_ok-folds.folds.items (omega (arith, c.in_ok-folds.folds.ok.0)) same in
    let long : length c.tell_all.new.folds ≡ length c.args.frame.now = same ∙ c.in_ok-folds.ensures.length ∙ c.places.ensures.value in
    let m = ap length c.deref.ensures.value ∙ c.in_ok-finish_folds.ensures.places ∙ ap length back ∙ same ∙ c.in_ok-folds.ensures.length in
    omega (arith, m, c.places.ensures.few)

pub condense-tell_all-requires : goal.condense-tell_all-requires
condense-tell_all-requires g t c =
    let lent = sym c.deref_mut.ensures.value in
    let place : FoldHasPlace (g.S.Tiles.state c.args.source.now) c.args.ground.now c.args.fold.now c.args.frame.now = record { signatures = c.requires.signatures; place = c.requires.place } in
    let folds : AreOfFold c.args.fold.now c.args.frame.now 0 c.deref_mut.result.now = record {
      many = ap length c.deref_mut.ensures.value ∙ c.in_ok-folds.ensures.length ∙ c.places.ensures.value;
      kinds = subst (AreOf c.args.fold.now.op) lent c.in_ok-folds.ensures.op;
      room = subst (HaveAtMost 0) lent c.in_ok-folds.ensures.room;
    } in
    search (rules, place, folds)

pub condense-returns-clause-value : goal.condense-returns-clause-value
condense-returns-clause-value g t c = λ i.
    let same : length c.tell_all.new.folds ≡ length c.in_ok-folds.folds.items = c.tell_all.auto.folds ∙ ap length c.deref_mut.ensures.value in
    let back : take c.in_ok-folds.folds.len (c.tell_all.new.folds ++ drop (length c.tell_all.new.folds) c.in_ok-folds.folds.items) ≡ c.tell_all.new.folds =
    whole_back c.in_ok-folds.folds.len c.tell_all.new.folds c.in_ok-folds.folds.items (omega (arith, c.in_ok-folds.folds.ok.0)) same in
    let long : length c.tell_all.new.folds ≡ length c.args.frame.now = same ∙ c.in_ok-folds.ensures.length ∙ c.places.ensures.value in
    c.write_outcomes.ensures ∙ c.deref.ensures.value
    ∙ all_told c.args.fold.now.op (meaning (g.S.Tiles.state c.args.source.now) c.args.ground.now (condition_view c.args.fold.now.condition)) (meaning (g.S.Tiles.state c.args.source.now) c.args.ground.now (body_view c.args.fold.now.body)) c.args.frame.now (points c.args.fold.now.domain) c.in_ok-folds.folds.items c.deref_mut.result.now c.tell_all.new.folds _ c.finish_folds.new.list.items
    back c.deref_mut.ensures.value long c.in_ok-folds.ensures.op c.in_ok-folds.ensures.stands (λ a. c.in_ok-tell_all.ensures.op) (c.in_ok-tell_all.ensures.told i) c.in_ok-finish_folds.ensures.value

pub condense-returns-clause-places : goal.condense-returns-clause-places
condense-returns-clause-places g t c =
    let same : length c.tell_all.new.folds ≡ length c.in_ok-folds.folds.items = c.tell_all.auto.folds ∙ ap length c.deref_mut.ensures.value in
    let back : take c.in_ok-folds.folds.len (c.tell_all.new.folds ++ drop (length c.tell_all.new.folds) c.in_ok-folds.folds.items) ≡ c.tell_all.new.folds =
    whole_back c.in_ok-folds.folds.len c.tell_all.new.folds c.in_ok-folds.folds.items (omega (arith, c.in_ok-folds.folds.ok.0)) same in
    let long : length c.tell_all.new.folds ≡ length c.args.frame.now = same ∙ c.in_ok-folds.ensures.length ∙ c.places.ensures.value in
    ap length (c.write_outcomes.ensures ∙ c.deref.ensures.value) ∙ c.in_ok-finish_folds.ensures.places ∙ ap length back ∙ long

pub evaluate-look_up-requires-clause-inside : goal.evaluate-look_up-requires-clause-inside
evaluate-look_up-requires-clause-inside g t c =
    let h = subst (λ b. HasPlaceOver (g.S.Tiles.state c.args.source.now) c.args.ground.now (body_view b) c.args.frame.now) c.in-Table.is c.requires.place in
    λ k d lt. subst (λ is. IsInside c.in-Table.domain (numbers_at (get_or c.args.frame.now k d) is)) (sym c.deref-in-Table-2.ensures.value)
    (items_there c.in-Table.domain c.in-Table.items.items c.in-Table.indexes.items c.args.frame.now h k d lt)

pub evaluate-returns-in-Lit-clause-value : goal.evaluate-returns-in-Lit-clause-value
evaluate-returns-in-Lit-clause-value g t c = λ i.
    let e : c.fill.new.self ≡ replicate c.places-places.result (Value c.in-Lit.z) = search rules in
    e ∙ filled (Value c.in-Lit.z) c.args.frame.now c.places-places.result c.places-places.ensures.value
    ∙ ap (λ b. map (meaning (g.S.Tiles.state c.args.source.now) c.args.ground.now (body_view b)) c.args.frame.now) (sym c.in-Lit.is)

pub evaluate-returns-in-Reg-clause-value : goal.evaluate-returns-in-Reg-clause-value
evaluate-returns-in-Reg-clause-value g t c = λ i.
    c.fill-in-Reg.ensures ∙ ap (replicate c.places-places.result) c.register.ensures
    ∙ filled (get_or c.args.ground.now.registers.now c.in-Reg.k (Value (pos 0))) c.args.frame.now c.places-places.result c.places-places.ensures.value
    ∙ ap (λ b. map (meaning (g.S.Tiles.state c.args.source.now) c.args.ground.now (body_view b)) c.args.frame.now) (sym c.in-Reg.is)

pub evaluate-returns-in_ok-operand-in-Op1-clause-value : goal.evaluate-returns-in_ok-operand-in-Op1-clause-value
evaluate-returns-in_ok-operand-in-Op1-clause-value g t c = λ i.
    c.operate_column.ensures
    ∙ ap (map (operate1 c.in-Op1.op)) (c.in_ok-operand-in-Op1.ensures.value i ∙ ap (λ b. map (meaning (g.S.Tiles.state c.args.source.now) c.args.ground.now (body_view b)) c.args.frame.now) c.deref.ensures)
    ∙ map_map (operate1 c.in-Op1.op) (meaning (g.S.Tiles.state c.args.source.now) c.args.ground.now (body_view c.in-Op1.e.value)) c.args.frame.now
    ∙ ap (λ b. map (meaning (g.S.Tiles.state c.args.source.now) c.args.ground.now (body_view b)) c.args.frame.now) (sym c.in-Op1.is)

pub evaluate-returns-in_ok-right-in-Op2-clause-value : goal.evaluate-returns-in_ok-right-in-Op2-clause-value
evaluate-returns-in_ok-right-in-Op2-clause-value g t c = λ i.
    let x = c.in_ok-left-in-Op2.ensures.value i ∙ ap (λ b. map (meaning (g.S.Tiles.state c.args.source.now) c.args.ground.now (body_view b)) c.args.frame.now) c.deref-in-Op2.ensures in
    let y = c.in_ok-right-in-Op2.ensures.value (c.column_of-in-Op2.ensures.reads.only.intact i)
    ∙ ap (λ s. map (run (cells_of s c.args.ground.now.coverages.now) c.args.ground.now.registers.now (body_view c.deref-in-Op2-2.result.now)) c.column_of-in-Op2.new.frame) c.column_of-in-Op2.ensures.reads.only.cells ∙ ap (λ f. map (meaning (g.S.Tiles.state c.args.source.now) c.args.ground.now (body_view c.deref-in-Op2-2.result.now)) f) c.in_ok-left-in-Op2.ensures.frame
    ∙ ap (λ b. map (meaning (g.S.Tiles.state c.args.source.now) c.args.ground.now (body_view b)) c.args.frame.now) c.deref-in-Op2-2.ensures in
    c.operate_columns.ensures
    ∙ ap (λ l. operate_all c.in-Op2.op l c.in_ok-right-in-Op2.right) x
    ∙ ap (operate_all c.in-Op2.op (map (meaning (g.S.Tiles.state c.args.source.now) c.args.ground.now (body_view c.in-Op2.l.value)) c.args.frame.now)) y
    ∙ operate_all-map c.in-Op2.op (meaning (g.S.Tiles.state c.args.source.now) c.args.ground.now (body_view c.in-Op2.l.value)) (meaning (g.S.Tiles.state c.args.source.now) c.args.ground.now (body_view c.in-Op2.r.value)) c.args.frame.now
    ∙ ap (λ b. map (meaning (g.S.Tiles.state c.args.source.now) c.args.ground.now (body_view b)) c.args.frame.now) (sym c.in-Op2.is)

pub evaluate-returns-in_ok-right-in-Op2-clause-places : goal.evaluate-returns-in_ok-right-in-Op2-clause-places
evaluate-returns-in_ok-right-in-Op2-clause-places g t c =
    ap length c.operate_columns.ensures
    ∙ length-operate_all c.in-Op2.op c.in_ok-left-in-Op2.left c.in_ok-right-in-Op2.right (c.in_ok-left-in-Op2.ensures.places ∙ sym (c.in_ok-right-in-Op2.ensures.places ∙ ap length c.in_ok-left-in-Op2.ensures.frame))
    ∙ c.in_ok-left-in-Op2.ensures.places

pub evaluate-returns-in-Read-clause-value : goal.evaluate-returns-in-Read-clause-value
evaluate-returns-in-Read-clause-value g t c =
    subst (λ b. OnOk c.read_cells.result ((g.S.Tiles.state c.args.source.now).intact → c.read_cells.new.out ≡ map (meaning (g.S.Tiles.state c.args.source.now) c.args.ground.now b) c.args.frame.now))
    (ap (read c.in-Read.coverage c.in-Read.field) c.deref-in-Read.ensures.value ∙ ap body_view (sym c.in-Read.is)) c.read_cells.ensures.value

pub evaluate-returns-in_ok-bind-in-Bind-clause-value : goal.evaluate-returns-in_ok-bind-in-Bind-clause-value
evaluate-returns-in_ok-bind-in-Bind-clause-value g t c = λ i.
    let at = c.in_ok-positions-in-Bind.ensures.value i ∙ ap (λ b. map (meaning (g.S.Tiles.state c.args.source.now) c.args.ground.now (body_view b)) c.args.frame.now) c.deref-in-Bind.ensures in
    c.in_ok-bind-in-Bind.ensures.value (c.column_of-in-Bind.ensures.reads.only.intact i)
    ∙ ap (λ s. at_positions c.in_ok-positions-in-Bind.positions c.in-Bind.interval.lo c.in-Bind.interval.hi (with_coordinate (run (cells_of s c.args.ground.now.coverages.now) c.args.ground.now.registers.now (body_view c.deref-in-Bind-2.result.now)) c.column_of-in-Bind.new.frame)) c.column_of-in-Bind.ensures.reads.only.cells
    ∙ ap (λ f. at_positions c.in_ok-positions-in-Bind.positions c.in-Bind.interval.lo c.in-Bind.interval.hi (with_coordinate (meaning (g.S.Tiles.state c.args.source.now) c.args.ground.now (body_view c.deref-in-Bind-2.result.now)) f)) c.in_ok-positions-in-Bind.ensures.frame
    ∙ ap (λ b. at_positions c.in_ok-positions-in-Bind.positions c.in-Bind.interval.lo c.in-Bind.interval.hi (with_coordinate (meaning (g.S.Tiles.state c.args.source.now) c.args.ground.now (body_view b)) c.args.frame.now)) c.deref-in-Bind-2.ensures
    ∙ bound_all (meaning (g.S.Tiles.state c.args.source.now) c.args.ground.now (body_view c.in-Bind.inner.value)) (meaning (g.S.Tiles.state c.args.source.now) c.args.ground.now (body_view c.in-Bind.position.value)) c.in_ok-positions-in-Bind.positions c.in-Bind.interval.lo c.in-Bind.interval.hi c.args.frame.now at
    ∙ ap (λ b. map (meaning (g.S.Tiles.state c.args.source.now) c.args.ground.now (body_view b)) c.args.frame.now) (sym c.in-Bind.is)

pub evaluate-returns-in-Fold-clause-value : goal.evaluate-returns-in-Fold-clause-value
evaluate-returns-in-Fold-clause-value g t c =
    subst (λ b. OnOk c.condense.result ((g.S.Tiles.state c.args.source.now).intact → c.condense.new.out ≡ map (meaning (g.S.Tiles.state c.args.source.now) c.args.ground.now b) c.args.frame.now))
    (ap fold_view c.deref-in-Fold.ensures ∙ sym (folded c.in-Fold.fold) ∙ ap body_view (sym c.in-Fold.is)) c.condense.ensures.value

pub tell-returns-in_ok-column-in-None-clause-told : goal.tell-returns-in_ok-column-in-None-clause-told
tell-returns-in_ok-column-in-None-clause-told g t c = λ i.
    subst (λ (o : Option _). EachTakesIn c.args.folds.now c.add_column.new.folds (λ k. demanded_of c.args.point.now.place (meaning (g.S.Tiles.state c.args.source.now) c.args.point.now.ground.now (condition_view o) (get_or c.args.frame.now k [])) (meaning (g.S.Tiles.state c.args.source.now) c.args.point.now.ground.now (body_view c.args.fold.now.body) (get_or c.args.frame.now k []))))
    (sym c.in-None.is)
    (told_always (meaning (g.S.Tiles.state c.args.source.now) c.args.point.now.ground.now (body_view c.args.fold.now.body)) c.args.frame.now c.in_ok-column-in-None.column c.args.point.now.place c.args.folds.now c.add_column.new.folds (c.add_column.auto.folds ∙ c.requires.folds.many) (c.in_ok-column-in-None.ensures.value i) c.add_column.ensures.stands)

pub tell-returns-in_ok-column-in-None-clause-folds : goal.tell-returns-in_ok-column-in-None-clause-folds
tell-returns-in_ok-column-in-None-clause-folds g t c =
    record { many = c.add_column.auto.folds ∙ c.requires.folds.many; kinds = c.add_column.ensures.op c.args.fold.now.op c.requires.folds.kinds; room = c.add_column.ensures.room }

pub tell-returns-in_ok-column-in-Some-clause-told : goal.tell-returns-in_ok-column-in-Some-clause-told
tell-returns-in_ok-column-in-Some-clause-told g t c = λ i.
    let y = c.in_ok-column-in-Some.ensures.value (c.column_of-in-Some.ensures.reads.only.intact i) ∙ ap (λ s. map (run (cells_of s c.args.point.now.ground.now.coverages.now) c.args.point.now.ground.now.registers.now (body_view c.args.fold.now.body)) c.column_of-in-Some.new.frame) c.column_of-in-Some.ensures.reads.only.cells ∙ ap (λ f. map (meaning (g.S.Tiles.state c.args.source.now) c.args.point.now.ground.now (body_view c.args.fold.now.body)) f) c.in_ok-chosen-in-Some.ensures.frame in
    subst (λ (o : Option _). EachTakesIn c.args.folds.now c.add_column_where.new.folds (λ k. demanded_of c.args.point.now.place (meaning (g.S.Tiles.state c.args.source.now) c.args.point.now.ground.now (condition_view o) (get_or c.args.frame.now k [])) (meaning (g.S.Tiles.state c.args.source.now) c.args.point.now.ground.now (body_view c.args.fold.now.body) (get_or c.args.frame.now k []))))
    (sym c.in-Some.is)
    (told_where (meaning (g.S.Tiles.state c.args.source.now) c.args.point.now.ground.now (body_view c.in-Some.condition)) (meaning (g.S.Tiles.state c.args.source.now) c.args.point.now.ground.now (body_view c.args.fold.now.body)) c.args.frame.now c.in_ok-chosen-in-Some.chosen c.in_ok-column-in-Some.column c.args.point.now.place c.args.folds.now c.add_column_where.new.folds (c.add_column_where.auto.folds ∙ c.requires.folds.many)
    (c.in_ok-chosen-in-Some.ensures.value i) y c.add_column_where.ensures.stands)

pub tell-returns-in_ok-column-in-Some-clause-folds : goal.tell-returns-in_ok-column-in-Some-clause-folds
tell-returns-in_ok-column-in-Some-clause-folds g t c =
    record { many = c.add_column_where.auto.folds ∙ c.requires.folds.many; kinds = c.add_column_where.ensures.op c.args.fold.now.op c.requires.folds.kinds; room = c.add_column_where.ensures.room }

pub tell_point-tell-requires : goal.tell_point-tell-requires
tell_point-tell-requires g t c =
    let under_point = folded_place c.args.fold.now.op c.args.fold.now.domain (condition_view c.args.fold.now.condition) (body_view c.args.fold.now.body) c.args.frame.now c.requires.place.place in
    let chosen : HasPlaceOver (g.S.Tiles.state c.args.source.now) c.args.point.now.ground.now (condition_view c.args.fold.now.condition) c.push_place.new.frame =
    subst (HasPlaceOver (g.S.Tiles.state c.args.source.now) c.args.point.now.ground.now (condition_view c.args.fold.now.condition)) (sym c.in_ok-push_place.ensures.frame) (place_at_point c.args.fold.now.domain (condition_view c.args.fold.now.condition) c.args.frame.now (get_or (points c.args.fold.now.domain) c.args.point.now.place []) under_point.0 c.in_ok-push_place.ensures.inside) in
    let told : HasPlaceOver (g.S.Tiles.state c.args.source.now) c.args.point.now.ground.now (body_view c.args.fold.now.body) c.push_place.new.frame =
    subst (HasPlaceOver (g.S.Tiles.state c.args.source.now) c.args.point.now.ground.now (body_view c.args.fold.now.body)) (sym c.in_ok-push_place.ensures.frame) (place_at_point c.args.fold.now.domain (body_view c.args.fold.now.body) c.args.frame.now (get_or (points c.args.fold.now.domain) c.args.point.now.place []) under_point.1 c.in_ok-push_place.ensures.inside) in
    let place : BodiesHavePlace (g.S.Tiles.state c.args.source.now) c.args.point.now.ground.now c.args.fold.now c.push_place.new.frame = record { signatures = c.requires.place.signatures; condition = chosen; body = told } in
    let small : c.args.point.now.place < 16777216 = omega (arith, c.requires.point, c.points-few.ensures.value, c.points-few.ensures.few) in
    let long : length c.args.folds.now ≡ length c.push_place.new.frame = c.requires.folds.many ∙ sym (ap length c.in_ok-push_place.ensures.frame ∙ length-map c.args.frame.now (λ e. e ++ (get_or (points c.args.fold.now.domain) c.args.point.now.place []))) in
    let folds : AreOfFold c.args.fold.now c.push_place.new.frame c.args.point.now.place c.args.folds.now = record { many = long; kinds = c.requires.folds.kinds; room = c.requires.folds.room } in
    search (rules, place, small, folds)

pub tell_point-returns-clause-told : goal.tell_point-returns-clause-told
tell_point-returns-clause-told g t c = λ i.
    told_under (meaning (g.S.Tiles.state c.args.source.now) c.args.point.now.ground.now (condition_view c.args.fold.now.condition)) (meaning (g.S.Tiles.state c.args.source.now) c.args.point.now.ground.now (body_view c.args.fold.now.body)) c.args.frame.now (get_or (points c.args.fold.now.domain) c.args.point.now.place []) c.args.point.now.place c.args.folds.now c.tell.new.folds (c.tell.auto.folds ∙ c.requires.folds.many)
    (subst (λ f. EachTakesIn c.args.folds.now c.tell.new.folds (λ k. demanded_of c.args.point.now.place (meaning (g.S.Tiles.state c.args.source.now) c.args.point.now.ground.now (condition_view c.args.fold.now.condition) (get_or f k [])) (meaning (g.S.Tiles.state c.args.source.now) c.args.point.now.ground.now (body_view c.args.fold.now.body) (get_or f k [])))) c.in_ok-push_place.ensures.frame (c.in_ok-tell.ensures.told i))

pub tell_point-returns-clause-folds : goal.tell_point-returns-clause-folds
tell_point-returns-clause-folds g t c =
    record { many = c.tell.auto.folds ∙ c.requires.folds.many; kinds = c.in_ok-tell.ensures.folds.kinds; room = c.in_ok-tell.ensures.folds.room }

pub tell_points-tell_point-requires : goal.tell_points-tell_point-requires
tell_points-tell_point-requires g t c =
    let inv = c.loop-place.invariant in
    let place = subst (FoldHasPlace (g.S.Tiles.state c.loop-place.source) c.args.ground.now c.args.fold.now) (sym inv.frame) (fold_later c.args.ground.now c.args.fold.now c.args.frame.now inv.reads c.requires.place) in
    let point : c.loop-place.place < length (points c.args.fold.now.domain) = omega (arith, c.loop-place-test.true, c.points-place-end.ensures.value) in
    let folds = subst (λ f. AreOfFold c.args.fold.now f c.loop-place.place c.loop-place.folds) (sym inv.frame) inv.folds in
    search (rules, place, point, folds)

pub tell_point-returns-clause-frame : goal.tell_point-returns-clause-frame
tell_point-returns-clause-frame g t c =
    c.truncate.ensures ∙ ap (map (take c.depth-depth.result)) (c.in_ok-tell.ensures.frame ∙ c.in_ok-push_place.ensures.frame)
    ∙ cut_under c.args.frame.now (get_or (points c.args.fold.now.domain) c.args.point.now.place []) c.depth-depth.result c.depth-depth.ensures

pub tell_points-loop-place-preserved : goal.tell_points-loop-place-preserved
tell_points-loop-place-preserved g t c =
    let inv = c.loop-place.invariant in
    record {
      told = λ i.
          point_more (λ k. under_vars (meaning (g.S.Tiles.state c.args.source.now) c.args.ground.now (condition_view c.args.fold.now.condition)) (get_or c.args.frame.now k [])) (λ k. under_vars (meaning (g.S.Tiles.state c.args.source.now) c.args.ground.now (body_view c.args.fold.now.body)) (get_or c.args.frame.now k [])) (points c.args.fold.now.domain) c.loop-place.place c.args.folds.now c.loop-place.folds c.tell_point.new.folds
          (omega (arith, c.loop-place-test.true, c.points-place-end.ensures.value)) (inv.told i)
          (subst (λ f. EachTakesIn c.loop-place.folds c.tell_point.new.folds (λ k. demanded_of c.loop-place.place (under_vars (meaning (g.S.Tiles.state c.args.source.now) c.args.ground.now (condition_view c.args.fold.now.condition)) (get_or f k []) (get_or (points c.args.fold.now.domain) c.loop-place.place [])) (under_vars (meaning (g.S.Tiles.state c.args.source.now) c.args.ground.now (body_view c.args.fold.now.body)) (get_or f k []) (get_or (points c.args.fold.now.domain) c.loop-place.place [])))) inv.frame
          (subst (λ s. EachTakesIn c.loop-place.folds c.tell_point.new.folds (λ k. demanded_of c.loop-place.place (under_vars (run (cells_of s c.args.ground.now.coverages.now) c.args.ground.now.registers.now (condition_view c.args.fold.now.condition)) (get_or c.loop-place.frame k []) (get_or (points c.args.fold.now.domain) c.loop-place.place [])) (under_vars (run (cells_of s c.args.ground.now.coverages.now) c.args.ground.now.registers.now (body_view c.args.fold.now.body)) (get_or c.loop-place.frame k []) (get_or (points c.args.fold.now.domain) c.loop-place.place [])))) inv.reads.cells (c.in_ok-tell_point.ensures.told (inv.reads.intact i))));
      folds = subst (λ f. AreOfFold c.args.fold.now f (c.loop-place.place + 1) c.tell_point.new.folds) inv.frame c.in_ok-tell_point.ensures.folds;
      frame = c.in_ok-tell_point.ensures.frame ∙ inv.frame;
      fetched =
          let step = subst (λ f. FetchesPoint c.args.fold.now f g.S.Tiles c.loop-place.source c.tell_point.new.source) inv.frame c.in_ok-tell_point.ensures.fetched in
          let x = times_more (length c.args.frame.now) c.loop-place.place (condition_view c.args.fold.now.condition) in
          let y = times_more (length c.args.frame.now) c.loop-place.place (body_view c.args.fold.now.body) in
          omega (arith, step, inv.fetched, x, y);
      reads = reads_on inv.reads c.tell_point.ensures.reads.only;
      failures = c.in_ok-tell_point.ensures.reads.tells ∙ inv.failures;
    }

pub evaluate-returns-in_ok-operand-in-Op1-clause-fetched : goal.evaluate-returns-in_ok-operand-in-Op1-clause-fetched
evaluate-returns-in_ok-operand-in-Op1-clause-fetched g t c = λ n h.
    let a = c.in_ok-operand-in-Op1.ensures.fetched n h in
    let d : fetches (chosen (g.S.Tiles.state c.args.source.now) c.args.ground.now) n c.args.frame.now (body_view c.deref.result.now) ≡ fetches (chosen (g.S.Tiles.state c.args.source.now) c.args.ground.now) n c.args.frame.now (body_view c.in-Op1.e.value) = ap (λ b. fetches (chosen (g.S.Tiles.state c.args.source.now) c.args.ground.now) n c.args.frame.now (body_view b)) c.deref.ensures in
    let e : fetches (chosen (g.S.Tiles.state c.args.source.now) c.args.ground.now) n c.args.frame.now (body_view c.args.body.now) ≡ fetches (chosen (g.S.Tiles.state c.args.source.now) c.args.ground.now) n c.args.frame.now (body_view c.in-Op1.e.value) = ap (λ b. fetches (chosen (g.S.Tiles.state c.args.source.now) c.args.ground.now) n c.args.frame.now (body_view b)) c.in-Op1.is in
    omega (arith, a, d, e)

pub evaluate-returns-in_ok-right-in-Op2-clause-fetched : goal.evaluate-returns-in_ok-right-in-Op2-clause-fetched
evaluate-returns-in_ok-right-in-Op2-clause-fetched g t c = λ n h.
    let a = c.in_ok-left-in-Op2.ensures.fetched n h in
    let b = c.in_ok-right-in-Op2.ensures.fetched n (subst (All (λ (e : List ℤ). n ≤ length e)) (sym c.in_ok-left-in-Op2.ensures.frame) h) in
    let d : fetches (chosen (g.S.Tiles.state c.args.source.now) c.args.ground.now) n c.args.frame.now (body_view c.deref-in-Op2.result.now) ≡ fetches (chosen (g.S.Tiles.state c.args.source.now) c.args.ground.now) n c.args.frame.now (body_view c.in-Op2.l.value) = ap (λ b. fetches (chosen (g.S.Tiles.state c.args.source.now) c.args.ground.now) n c.args.frame.now (body_view b)) c.deref-in-Op2.ensures in
    let e : fetches (chosen (g.S.Tiles.state c.column_of-in-Op2.new.source) c.args.ground.now) n c.column_of-in-Op2.new.frame (body_view c.deref-in-Op2-2.result.now) ≡ fetches (chosen (g.S.Tiles.state c.args.source.now) c.args.ground.now) n c.args.frame.now (body_view c.in-Op2.r.value) =
    ap (λ all. fetches (signature_of all c.args.ground.now.coverages.now) n c.column_of-in-Op2.new.frame (body_view c.deref-in-Op2-2.result.now)) c.column_of-in-Op2.ensures.reads.only.coverages ∙ ap (λ f. fetches (chosen (g.S.Tiles.state c.args.source.now) c.args.ground.now) n f (body_view c.deref-in-Op2-2.result.now)) c.in_ok-left-in-Op2.ensures.frame ∙ ap (λ b. fetches (chosen (g.S.Tiles.state c.args.source.now) c.args.ground.now) n c.args.frame.now (body_view b)) c.deref-in-Op2-2.ensures in
    let i : fetches (chosen (g.S.Tiles.state c.args.source.now) c.args.ground.now) n c.args.frame.now (body_view c.args.body.now) ≡ fetches (chosen (g.S.Tiles.state c.args.source.now) c.args.ground.now) n c.args.frame.now (body_view c.in-Op2.l.value) + fetches (chosen (g.S.Tiles.state c.args.source.now) c.args.ground.now) n c.args.frame.now (body_view c.in-Op2.r.value) = ap (λ b. fetches (chosen (g.S.Tiles.state c.args.source.now) c.args.ground.now) n c.args.frame.now (body_view b)) c.in-Op2.is in
    omega (arith, a, b, d, e, i)

pub evaluate-returns-in_ok-bind-in-Bind-clause-fetched : goal.evaluate-returns-in_ok-bind-in-Bind-clause-fetched
evaluate-returns-in_ok-bind-in-Bind-clause-fetched g t c = λ n h.
    let a = c.in_ok-positions-in-Bind.ensures.fetched n h in
    let b = c.in_ok-bind-in-Bind.ensures.fetched n (subst (All (λ (e : List ℤ). n ≤ length e)) (sym c.in_ok-positions-in-Bind.ensures.frame) h) in
    let d : fetches (chosen (g.S.Tiles.state c.args.source.now) c.args.ground.now) n c.args.frame.now (body_view c.deref-in-Bind.result.now) ≡ fetches (chosen (g.S.Tiles.state c.args.source.now) c.args.ground.now) n c.args.frame.now (body_view c.in-Bind.position.value) = ap (λ b. fetches (chosen (g.S.Tiles.state c.args.source.now) c.args.ground.now) n c.args.frame.now (body_view b)) c.deref-in-Bind.ensures in
    let e : fetches (chosen (g.S.Tiles.state c.column_of-in-Bind.new.source) c.args.ground.now) n c.column_of-in-Bind.new.frame (body_view c.deref-in-Bind-2.result.now) ≡ fetches (chosen (g.S.Tiles.state c.args.source.now) c.args.ground.now) n c.args.frame.now (body_view c.in-Bind.inner.value) =
    ap (λ all. fetches (signature_of all c.args.ground.now.coverages.now) n c.column_of-in-Bind.new.frame (body_view c.deref-in-Bind-2.result.now)) c.column_of-in-Bind.ensures.reads.only.coverages ∙ ap (λ f. fetches (chosen (g.S.Tiles.state c.args.source.now) c.args.ground.now) n f (body_view c.deref-in-Bind-2.result.now)) c.in_ok-positions-in-Bind.ensures.frame ∙ ap (λ b. fetches (chosen (g.S.Tiles.state c.args.source.now) c.args.ground.now) n c.args.frame.now (body_view b)) c.deref-in-Bind-2.ensures in
    let i : fetches (chosen (g.S.Tiles.state c.args.source.now) c.args.ground.now) n c.args.frame.now (body_view c.args.body.now) ≡ fetches (chosen (g.S.Tiles.state c.args.source.now) c.args.ground.now) n c.args.frame.now (body_view c.in-Bind.position.value) + fetches (chosen (g.S.Tiles.state c.args.source.now) c.args.ground.now) n c.args.frame.now (body_view c.in-Bind.inner.value) = ap (λ b. fetches (chosen (g.S.Tiles.state c.args.source.now) c.args.ground.now) n c.args.frame.now (body_view b)) c.in-Bind.is in
    omega (arith, a, b, d, e, i)

pub evaluate-returns-in-Read-clause-fetched : goal.evaluate-returns-in-Read-clause-fetched
evaluate-returns-in-Read-clause-fetched g t c =
    on_ok c.read_cells.result (λ le n h.
    subst (λ b. (g.S.Tiles.state c.read_cells.new.source).fetched ≤ (g.S.Tiles.state c.args.source.now).fetched + fetches (chosen (g.S.Tiles.state c.args.source.now) c.args.ground.now) n c.args.frame.now b) (ap (read c.in-Read.coverage c.in-Read.field) c.deref-in-Read.ensures.value ∙ ap body_view (sym c.in-Read.is))
    (let m = read_few (chosen (g.S.Tiles.state c.args.source.now) c.args.ground.now) n c.args.frame.now c.in-Read.coverage c.in-Read.field c.deref-in-Read.result.now in omega (arith, le, m))) c.read_cells.ensures.fetched

pub evaluate-returns-in-Fold-clause-fetched : goal.evaluate-returns-in-Fold-clause-fetched
evaluate-returns-in-Fold-clause-fetched g t c =
    subst (λ b. OnOk c.condense.result ((n : ℕ) → All (λ (e : List ℤ). n ≤ length e) c.args.frame.now → (g.S.Tiles.state c.condense.new.source).fetched ≤ (g.S.Tiles.state c.args.source.now).fetched + fetches (chosen (g.S.Tiles.state c.args.source.now) c.args.ground.now) n c.args.frame.now b))
    (ap fold_view c.deref-in-Fold.ensures ∙ sym (folded c.in-Fold.fold) ∙ ap body_view (sym c.in-Fold.is)) c.condense.ensures.fetched

pub at_coordinates-returns-clause-fetched : goal.at_coordinates-returns-clause-fetched
at_coordinates-returns-clause-fetched g t c = λ n h.
    let long = subst (All (λ (e : List ℤ). n ≤ length e)) (sym c.in_ok-push_column.ensures) (long_extended c.args.frame.now _ n h) in
    let a = c.in_ok-evaluate.ensures.fetched n long in
    let e : fetches (chosen (g.S.Tiles.state c.args.source.now) c.args.bound.now.ground.now) n c.push_column.new.self (body_view c.args.body.now) ≡ fetches (chosen (g.S.Tiles.state c.args.source.now) c.args.bound.now.ground.now) n c.args.frame.now (body_view c.args.body.now) =
    ap (λ f. fetches (chosen (g.S.Tiles.state c.args.source.now) c.args.bound.now.ground.now) n f (body_view c.args.body.now)) c.in_ok-push_column.ensures ∙ fetches_extended (chosen (g.S.Tiles.state c.args.source.now) c.args.bound.now.ground.now) n c.args.frame.now _ (body_view c.args.body.now) h in
    omega (arith, a, e)

pub condense-returns-clause-fetched : goal.condense-returns-clause-fetched
condense-returns-clause-fetched g t c = λ n h. c.in_ok-tell_all.ensures.fetched

pub tell_points-returns-clause-fetched : goal.tell_points-returns-clause-fetched
tell_points-returns-clause-fetched g t c =
    let e : c.loop-place.place ≡ count c.args.fold.now.domain = omega (arith, c.loop-place-test.false, c.loop-place.auto.place-end, c.points-place-end.ensures.count) in
    subst (λ k. FetchesPoints c.args.fold.now (length c.args.frame.now * k) g.S.Tiles c.args.source.now c.loop-place.source) e c.loop-place.invariant.fetched

pub tell_point-returns-clause-fetched : goal.tell_point-returns-clause-fetched
tell_point-returns-clause-fetched g t c =
    subst (λ k. FetchesPoints c.args.fold.now k g.S.Tiles c.args.source.now c.tell.new.source)
    (ap length c.in_ok-push_place.ensures.frame ∙ length-map c.args.frame.now (λ e. e ++ (get_or (points c.args.fold.now.domain) c.args.point.now.place []))) c.in_ok-tell.ensures.fetched

pub tell-returns-in_ok-column-in-None-clause-fetched : goal.tell-returns-in_ok-column-in-None-clause-fetched
tell-returns-in_ok-column-in-None-clause-fetched g t c =
    let a = c.in_ok-column-in-None.ensures.fetched 0 (λ k d lt. omega arith) in
    let b = times_few (chosen (g.S.Tiles.state c.args.source.now) c.args.point.now.ground.now) 0 c.args.frame.now (body_view c.args.fold.now.body) in
    omega (arith, a, b)

pub tell-returns-in_ok-column-in-Some-clause-fetched : goal.tell-returns-in_ok-column-in-Some-clause-fetched
tell-returns-in_ok-column-in-Some-clause-fetched g t c =
    let a = c.in_ok-chosen-in-Some.ensures.fetched 0 (λ k d lt. omega arith) in
    let b = c.in_ok-column-in-Some.ensures.fetched 0 (λ k d lt. omega arith) in
    let x = times_few (chosen (g.S.Tiles.state c.args.source.now) c.args.point.now.ground.now) 0 c.args.frame.now (body_view c.in-Some.condition) in
    let y = times_few (chosen (g.S.Tiles.state c.args.source.now) c.args.point.now.ground.now) 0 c.args.frame.now (body_view c.args.fold.now.body) in
    let e : fetches (chosen (g.S.Tiles.state c.column_of-in-Some.new.source) c.args.point.now.ground.now) 0 c.column_of-in-Some.new.frame (body_view c.args.fold.now.body) ≡ fetches (chosen (g.S.Tiles.state c.args.source.now) c.args.point.now.ground.now) 0 c.args.frame.now (body_view c.args.fold.now.body) =
    ap (λ all. fetches (signature_of all c.args.point.now.ground.now.coverages.now) 0 c.column_of-in-Some.new.frame (body_view c.args.fold.now.body)) c.column_of-in-Some.ensures.reads.only.coverages ∙ ap (λ f. fetches (chosen (g.S.Tiles.state c.args.source.now) c.args.point.now.ground.now) 0 f (body_view c.args.fold.now.body)) c.in_ok-chosen-in-Some.ensures.frame in
    let i : bound_times (length c.args.frame.now) (condition_view c.args.fold.now.condition) ≡ bound_times (length c.args.frame.now) (body_view c.in-Some.condition) = ap (λ (o : Option _). bound_times (length c.args.frame.now) (condition_view o)) c.in-Some.is in
    omega (arith, a, b, x, y, e, i)

-- ---- a tile box at a time

pub tell_tiles-loop-tile-init : goal.tell_tiles-loop-tile-init
tell_tiles-loop-tile-init g t c =
    let dom = c.args.fold.now.domain in
    record {
      told = λ i. no_tile dom (meaning (g.S.Tiles.state c.args.source.now) c.args.ground.now (condition_view c.args.fold.now.condition)) (meaning (g.S.Tiles.state c.args.source.now) c.args.ground.now (body_view c.args.fold.now.body)) c.args.frame.now c.args.folds.now;
      folds = record { many = c.requires.folds.many; kinds = c.requires.folds.kinds; room = λ k d lt. let few = c.requires.folds.room k d lt in omega (arith, few) };
      fetched = omega arith;
      reads = reads_same _;
      failures = refl;
    }

pub tell_tiles-tell_part-requires : goal.tell_tiles-tell_part-requires
tell_tiles-tell_part-requires g t c =
    let inv = c.loop-tile.invariant in
    let lt : c.loop-tile.tile < length (tile_boxes c.args.fold.now.domain) = omega (arith, c.loop-tile-test.true, c.tiles-tile-end.ensures.value) in
    let place = fold_later c.args.ground.now c.args.fold.now c.args.frame.now inv.reads c.requires.place in
    let part = c.in_ok-part.ensures.part in
    let folds : AreOfFold c.args.fold.now c.args.frame.now (2 ^ 24 - length (points c.in_ok-part.part.area)) c.loop-tile.folds = record {
      many = inv.folds.many;
      kinds = inv.folds.kinds;
      room = room_more c.args.fold.now.domain c.in_ok-part.part.area c.loop-tile.tile c.loop-tile.folds c.axes-axes.ensures.domain lt c.in_ok-part.ensures.tile inv.folds.room;
    } in
    search (rules, place, part, folds)

pub tell_tiles-loop-tile-preserved : goal.tell_tiles-loop-tile-preserved
tell_tiles-loop-tile-preserved g t c =
    let inv = c.loop-tile.invariant in
    let dom = c.args.fold.now.domain in
    let part = c.in_ok-part.part.area in
    let lt : c.loop-tile.tile < length (tile_boxes dom) = omega (arith, c.loop-tile-test.true, c.tiles-tile-end.ensures.value) in
    let is = c.in_ok-part.ensures.tile in
    record {
      told = λ i.
          tile_more dom (meaning (g.S.Tiles.state c.args.source.now) c.args.ground.now (condition_view c.args.fold.now.condition)) (meaning (g.S.Tiles.state c.args.source.now) c.args.ground.now (body_view c.args.fold.now.body)) c.args.frame.now part c.loop-tile.tile c.args.folds.now c.loop-tile.folds c.tell_part.new.folds lt is (inv.told i)
          (subst (λ s. EachTakesIn c.loop-tile.folds c.tell_part.new.folds (λ k. flat_map (told_ranked dom (run (cells_of s c.args.ground.now.coverages.now) c.args.ground.now.registers.now (condition_view c.args.fold.now.condition)) (run (cells_of s c.args.ground.now.coverages.now) c.args.ground.now.registers.now (body_view c.args.fold.now.body)) (get_or c.args.frame.now k [])) (points part))) inv.reads.cells (c.in_ok-tell_part.ensures.told (inv.reads.intact i)));
      folds = subst (λ n. AreOfFold c.args.fold.now c.args.frame.now n c.tell_part.new.folds) (sym (points_next dom part c.loop-tile.tile lt is)) (c.in_ok-tell_part.ensures.folds (length (points_to dom c.loop-tile.tile)) inv.folds);
      fetched =
          let x = times_tile (length c.args.frame.now) dom part c.loop-tile.tile (condition_view c.args.fold.now.condition) lt is in
          let y = times_tile (length c.args.frame.now) dom part c.loop-tile.tile (body_view c.args.fold.now.body) lt is in
          omega (arith, c.in_ok-tell_part.ensures.fetched, inv.fetched, x, y);
      reads = reads_on inv.reads c.tell_part.ensures.reads.only;
      failures = c.in_ok-tell_part.ensures.reads.tells ∙ inv.failures;
    }

pub tell_tiles-returns-clause-told : goal.tell_tiles-returns-clause-told
tell_tiles-returns-clause-told g t c = λ i.
    let whole : c.loop-tile.tile ≡ length (tile_boxes c.args.fold.now.domain) = omega (arith, c.loop-tile-test.false, c.loop-tile.auto.tile-end, c.tiles-tile-end.ensures.value) in
    all_tiles c.args.fold.now.domain (meaning (g.S.Tiles.state c.args.source.now) c.args.ground.now (condition_view c.args.fold.now.condition)) (meaning (g.S.Tiles.state c.args.source.now) c.args.ground.now (body_view c.args.fold.now.body)) c.args.frame.now c.args.folds.now c.loop-tile.folds c.loop-tile.tile c.axes-axes.ensures.domain.ordered whole (c.loop-tile.invariant.told i)

pub tell_tiles-returns-clause-fetched : goal.tell_tiles-returns-clause-fetched
tell_tiles-returns-clause-fetched g t c =
    let whole : c.loop-tile.tile ≡ length (tile_boxes c.args.fold.now.domain) = omega (arith, c.loop-tile-test.false, c.loop-tile.auto.tile-end, c.tiles-tile-end.ensures.value) in
    let n : length (points_to c.args.fold.now.domain c.loop-tile.tile) ≡ count c.args.fold.now.domain = ap (λ n. length (points_to c.args.fold.now.domain n)) whole ∙ points_whole c.args.fold.now.domain c.axes-axes.ensures.domain.ordered in
    subst (λ k. FetchesPoints c.args.fold.now (length c.args.frame.now * k) g.S.Tiles c.args.source.now c.loop-tile.source) n c.loop-tile.invariant.fetched

pub tell_part-loop-place-init : goal.tell_part-loop-place-init
tell_part-loop-place-init g t c = record {
  told = λ i k d lt. absurd (omega (arith, lt));
  counted = λ k d lt. absurd (omega (arith, lt));
  rest = λ k d le. refl;
  op = c.requires.folds.kinds;
  fetched = omega arith;
  reads = reads_same _;
  failures = refl;
}

pub tell_part-fold_frame-requires : goal.tell_part-fold_frame-requires
tell_part-fold_frame-requires g t c =
    let inv = c.loop-place.invariant in
    let lt : c.loop-place.place < length c.args.around.now.frame.now = omega (arith, c.loop-place-test.true, c.places-place-end.ensures.value) in
    let signatures : c.args.around.now.ground.now.signatures.now ≡ (g.S.Tiles.state c.loop-place.source).coverages = c.requires.place.signatures ∙ sym inv.reads.coverages in
    let one = one_place (fold_view c.args.fold.now) c.args.around.now.frame.now c.loop-place.place lt c.requires.place.place in
    let chosen : HasPlaceOver (g.S.Tiles.state c.loop-place.source) c.args.around.now.ground.now (condition_view c.args.fold.now.condition) c.in_ok-own.own =
    subst (λ all. HasPlace (signature_of all c.args.around.now.ground.now.coverages.now) (length c.args.around.now.ground.now.registers.now) (condition_view c.args.fold.now.condition) c.in_ok-own.own) (sym inv.reads.coverages)
    (subst (HasPlaceOver (g.S.Tiles.state c.args.source.now) c.args.around.now.ground.now (condition_view c.args.fold.now.condition)) (sym c.in_ok-own.ensures)
    (place_in_part c.args.fold.now.domain c.args.part.now.area (condition_view c.args.fold.now.condition) (get_or c.args.around.now.frame.now c.loop-place.place []) (folded_place c.args.fold.now.op c.args.fold.now.domain (condition_view c.args.fold.now.condition) (body_view c.args.fold.now.body) ((get_or c.args.around.now.frame.now c.loop-place.place []) ∷ []) one).0 c.requires.part.inside c.requires.part.ordered)) in
    let told : HasPlaceOver (g.S.Tiles.state c.loop-place.source) c.args.around.now.ground.now (body_view c.args.fold.now.body) c.in_ok-own.own =
    subst (λ all. HasPlace (signature_of all c.args.around.now.ground.now.coverages.now) (length c.args.around.now.ground.now.registers.now) (body_view c.args.fold.now.body) c.in_ok-own.own) (sym inv.reads.coverages)
    (subst (HasPlaceOver (g.S.Tiles.state c.args.source.now) c.args.around.now.ground.now (body_view c.args.fold.now.body)) (sym c.in_ok-own.ensures)
    (place_in_part c.args.fold.now.domain c.args.part.now.area (body_view c.args.fold.now.body) (get_or c.args.around.now.frame.now c.loop-place.place []) (folded_place c.args.fold.now.op c.args.fold.now.domain (condition_view c.args.fold.now.condition) (body_view c.args.fold.now.body) ((get_or c.args.around.now.frame.now c.loop-place.place []) ∷ []) one).1 c.requires.part.inside c.requires.part.ordered)) in
    let long : length c.deref.result.now ≡ length c.in_ok-own.own =
    ap length (c.deref.ensures.value ∙ c.requires.part.ranks) ∙ length-map (points c.args.part.now.area) (rank_of c.args.fold.now.domain)
    ∙ sym (ap length c.in_ok-own.ensures ∙ length-map (points c.args.part.now.area) (λ p. (get_or c.args.around.now.frame.now c.loop-place.place []) ++ p)) in
    let place : BodiesHavePlace (g.S.Tiles.state c.loop-place.source) c.args.around.now.ground.now c.args.fold.now c.in_ok-own.own = record { signatures = signatures; condition = chosen; body = told } in
    search (rules, place, long)

pub tell_part-merge_at-requires : goal.tell_part-merge_at-requires
tell_part-merge_at-requires g t c =
    let inv = c.loop-place.invariant in
    let lt : c.loop-place.place < length c.args.folds.now = omega (arith, c.loop-place-test.true, c.places-place-end.ensures.value, c.requires.folds.many) in
    let there : c.loop-place.place < length c.loop-place.folds = omega (arith, lt, c.loop-place.auto.folds) in
    let kind : AreOf c.in_ok-found.found.running.op c.loop-place.folds = subst (λ op. AreOf op c.loop-place.folds) (sym c.in_ok-found.ensures.op) inv.op in
    let few = length-points c.args.part.now.area in
    record {
      place = there;
      op = kind;
      room = λ d.
          let n = c.requires.folds.room c.loop-place.place d lt in
          let same = ap (λ (a : Accumulator). a.running.count) (inv.rest c.loop-place.place d (omega arith)) in
          let m = ap length c.in_ok-own.ensures ∙ length-map (points c.args.part.now.area) (λ p. (get_or c.args.around.now.frame.now c.loop-place.place []) ++ p) in
          omega (arith, n, same, few, m, c.requires.part.few, c.in_ok-found.ensures.count);
    }

pub tell_part-loop-place-preserved : goal.tell_part-loop-place-preserved
tell_part-loop-place-preserved g t c =
    let inv = c.loop-place.invariant in
    let part = c.args.part.now.area in
    let dom = c.args.fold.now.domain in
    let cov = c.args.around.now.ground.now.coverages.now in
    let regs = c.args.around.now.ground.now.registers.now in
    let told : (ℕ → ℕ → List ℤ → ℤ) → List ℤ → List Told = λ s vars. flat_map (told_ranked dom (run (cells_of s cov) regs (condition_view c.args.fold.now.condition)) (run (cells_of s cov) regs (body_view c.args.fold.now.body)) vars) (points part) in
    let long = ap length c.in_ok-own.ensures ∙ length-map (points part) (λ p. (get_or c.args.around.now.frame.now c.loop-place.place []) ++ p) in
    record {
      told = λ i.
          place_more c.args.folds.now c.loop-place.folds c.merge_at.new.folds c.loop-place.place c.in_ok-found.found (λ k. told (g.S.Tiles.state c.args.source.now).cells (get_or c.args.around.now.frame.now k [])) c.merge_at.ensures
          (subst (λ s. Stands c.in_ok-found.found (told s (get_or c.args.around.now.frame.now c.loop-place.place []))) inv.reads.cells
          (stands_ranked dom (meaning (g.S.Tiles.state c.loop-place.source) c.args.around.now.ground.now (condition_view c.args.fold.now.condition)) (meaning (g.S.Tiles.state c.loop-place.source) c.args.around.now.ground.now (body_view c.args.fold.now.body)) (get_or c.args.around.now.frame.now c.loop-place.place []) (points part) c.in_ok-own.own c.deref.result.now c.in_ok-found.found c.in_ok-own.ensures (c.deref.ensures.value ∙ c.requires.part.ranks) (c.in_ok-found.ensures.stands (inv.reads.intact i))))
          inv.rest (inv.told i);
      counted = count_more c.args.folds.now c.loop-place.folds c.merge_at.new.folds c.loop-place.place (length (points part)) c.in_ok-found.found c.merge_at.ensures (omega (arith, c.in_ok-found.ensures.count, long)) inv.rest inv.counted;
      rest = rest_more c.args.folds.now c.loop-place.folds c.merge_at.new.folds c.loop-place.place c.in_ok-found.found c.merge_at.ensures inv.rest;
      op = c.merge_at.ensures.kinds c.args.fold.now.op inv.op;
      fetched =
          let x = times_more (count part) c.loop-place.place (condition_view c.args.fold.now.condition) in
          let y = times_more (count part) c.loop-place.place (body_view c.args.fold.now.body) in
          let u = ap (λ m. bound_times m (condition_view c.args.fold.now.condition)) (long ∙ length-points part) in
          let v = ap (λ m. bound_times m (body_view c.args.fold.now.body)) (long ∙ length-points part) in
          omega (arith, c.in_ok-found.ensures.fetched, inv.fetched, x, y, u, v);
      reads = reads_on inv.reads c.fold_frame.ensures.reads.only;
      failures = c.in_ok-found.ensures.reads.tells ∙ inv.failures;
    }

pub tell_part-returns-clause-told : goal.tell_part-returns-clause-told
tell_part-returns-clause-told g t c = λ i told s k d lt.
    let same = c.loop-place.auto.folds in
    let end : k < c.loop-place.place = omega (arith, lt, same, c.loop-place-test.false, c.places-place-end.ensures.value, c.requires.folds.many) in
    c.loop-place.invariant.told i k d end (told k) (s k d (omega (arith, lt, same)))

pub tell_part-returns-clause-folds : goal.tell_part-returns-clause-folds
tell_part-returns-clause-folds g t c =
    let same = c.loop-place.auto.folds in
    let inv = c.loop-place.invariant in
    λ n h. record {
      many = same ∙ h.many;
      kinds = inv.op;
      room = λ k d lt.
          let end : k < c.loop-place.place = omega (arith, lt, same, c.loop-place-test.false, c.places-place-end.ensures.value, c.requires.folds.many) in
          let a = inv.counted k d end in
          let b = h.room k d (omega (arith, lt, same)) in
          omega (arith, a, b);
    }

pub tell_part-returns-clause-fetched : goal.tell_part-returns-clause-fetched
tell_part-returns-clause-fetched g t c =
    let e : c.loop-place.place ≡ length c.args.around.now.frame.now = omega (arith, c.loop-place-test.false, c.loop-place.auto.place-end, c.places-place-end.ensures.value) in
    let n : count c.args.part.now.area * c.loop-place.place ≡ length c.args.around.now.frame.now * count c.args.part.now.area = ap (λ k. count c.args.part.now.area * k) e ∙ mul_comm (count c.args.part.now.area) (length c.args.around.now.frame.now) in
    subst (λ k. FetchesPoints c.args.fold.now k g.S.Tiles c.args.source.now c.loop-place.source) n c.loop-place.invariant.fetched

pub fold_frame-returns-in_ok-column-in-None-clause-stands : goal.fold_frame-returns-in_ok-column-in-None-clause-stands
fold_frame-returns-in_ok-column-in-None-clause-stands g t c = λ i.
    subst (λ (o : Option _). Stands c.fold_column-found.result (demanded_at c.args.ranks.now (map (meaning (g.S.Tiles.state c.args.source.now) c.args.ground.now (condition_view o)) c.args.frame.now) (map (meaning (g.S.Tiles.state c.args.source.now) c.args.ground.now (body_view c.args.fold.now.body)) c.args.frame.now)))
    (sym c.in-None.is)
    (subst (Stands c.fold_column-found.result) (ap (told_at c.args.ranks.now) (c.in_ok-column-in-None.ensures.value i) ∙ always_told c.args.ranks.now (meaning (g.S.Tiles.state c.args.source.now) c.args.ground.now (body_view c.args.fold.now.body)) c.args.frame.now) c.fold_column-found.ensures.stands)

pub fold_frame-returns-in_ok-column-in-None-clause-fetched : goal.fold_frame-returns-in_ok-column-in-None-clause-fetched
fold_frame-returns-in_ok-column-in-None-clause-fetched g t c =
    let a = c.in_ok-column-in-None.ensures.fetched 0 (λ k d lt. omega arith) in
    let b = times_few (chosen (g.S.Tiles.state c.args.source.now) c.args.ground.now) 0 c.args.frame.now (body_view c.args.fold.now.body) in
    omega (arith, a, b)

pub fold_frame-returns-then-is_never-clause-stands : goal.fold_frame-returns-then-is_never-clause-stands
fold_frame-returns-then-is_never-clause-stands g t c = λ i.
    subst (λ (o : Option _). Stands c.empty.result (demanded_at c.args.ranks.now (map (meaning (g.S.Tiles.state c.args.source.now) c.args.ground.now (condition_view o)) c.args.frame.now) (map (meaning (g.S.Tiles.state c.args.source.now) c.args.ground.now (body_view c.args.fold.now.body)) c.args.frame.now)))
    (sym c.in-Some.is)
    (subst (Stands c.empty.result)
    (sym (never_told c.args.ranks.now c.in_ok-chosen-in-Some.chosen (map (meaning (g.S.Tiles.state c.args.source.now) c.args.ground.now (body_view c.args.fold.now.body)) c.args.frame.now) (c.is_never.ensures c.if-is_never.true))
    ∙ ap (λ l. demanded_at c.args.ranks.now l (map (meaning (g.S.Tiles.state c.args.source.now) c.args.ground.now (body_view c.args.fold.now.body)) c.args.frame.now)) (c.in_ok-chosen-in-Some.ensures.value i)) c.empty.ensures.stands)

pub fold_frame-returns-then-is_never-clause-fetched : goal.fold_frame-returns-then-is_never-clause-fetched
fold_frame-returns-then-is_never-clause-fetched g t c =
    let a = c.in_ok-chosen-in-Some.ensures.fetched 0 (λ k d lt. omega arith) in
    let x = times_few (chosen (g.S.Tiles.state c.args.source.now) c.args.ground.now) 0 c.args.frame.now (body_view c.in-Some.condition) in
    let i : bound_times (length c.args.frame.now) (condition_view c.args.fold.now.condition) ≡ bound_times (length c.args.frame.now) (body_view c.in-Some.condition) = ap (λ (o : Option _). bound_times (length c.args.frame.now) (condition_view o)) c.in-Some.is in
    omega (arith, a, x, i)

pub fold_frame-returns-in_ok-column-in-Some-clause-stands : goal.fold_frame-returns-in_ok-column-in-Some-clause-stands
fold_frame-returns-in_ok-column-in-Some-clause-stands g t c = λ i.
    let y = c.in_ok-column-in-Some.ensures.value (c.column_of-in-Some.ensures.reads.only.intact i) ∙ ap (λ s. map (run (cells_of s c.args.ground.now.coverages.now) c.args.ground.now.registers.now (body_view c.args.fold.now.body)) c.column_of-in-Some.new.frame) c.column_of-in-Some.ensures.reads.only.cells ∙ ap (λ f. map (meaning (g.S.Tiles.state c.args.source.now) c.args.ground.now (body_view c.args.fold.now.body)) f) c.in_ok-chosen-in-Some.ensures.frame in
    subst (λ (o : Option _). Stands c.fold_column_where-found.result (demanded_at c.args.ranks.now (map (meaning (g.S.Tiles.state c.args.source.now) c.args.ground.now (condition_view o)) c.args.frame.now) (map (meaning (g.S.Tiles.state c.args.source.now) c.args.ground.now (body_view c.args.fold.now.body)) c.args.frame.now)))
    (sym c.in-Some.is)
    (subst (Stands c.fold_column_where-found.result)
    (ap (λ l. demanded_at c.args.ranks.now l c.in_ok-column-in-Some.column) (c.in_ok-chosen-in-Some.ensures.value i) ∙ ap (demanded_at c.args.ranks.now (map (meaning (g.S.Tiles.state c.args.source.now) c.args.ground.now (body_view c.in-Some.condition)) c.args.frame.now)) y) c.fold_column_where-found.ensures.stands)

pub fold_frame-returns-in_ok-column-in-Some-clause-fetched : goal.fold_frame-returns-in_ok-column-in-Some-clause-fetched
fold_frame-returns-in_ok-column-in-Some-clause-fetched g t c =
    let a = c.in_ok-chosen-in-Some.ensures.fetched 0 (λ k d lt. omega arith) in
    let b = c.in_ok-column-in-Some.ensures.fetched 0 (λ k d lt. omega arith) in
    let x = times_few (chosen (g.S.Tiles.state c.args.source.now) c.args.ground.now) 0 c.args.frame.now (body_view c.in-Some.condition) in
    let y = times_few (chosen (g.S.Tiles.state c.args.source.now) c.args.ground.now) 0 c.args.frame.now (body_view c.args.fold.now.body) in
    let e : fetches (chosen (g.S.Tiles.state c.column_of-in-Some.new.source) c.args.ground.now) 0 c.column_of-in-Some.new.frame (body_view c.args.fold.now.body) ≡ fetches (chosen (g.S.Tiles.state c.args.source.now) c.args.ground.now) 0 c.args.frame.now (body_view c.args.fold.now.body) =
    ap (λ all. fetches (signature_of all c.args.ground.now.coverages.now) 0 c.column_of-in-Some.new.frame (body_view c.args.fold.now.body)) c.column_of-in-Some.ensures.reads.only.coverages ∙ ap (λ f. fetches (chosen (g.S.Tiles.state c.args.source.now) c.args.ground.now) 0 f (body_view c.args.fold.now.body)) c.in_ok-chosen-in-Some.ensures.frame in
    let i : bound_times (length c.args.frame.now) (condition_view c.args.fold.now.condition) ≡ bound_times (length c.args.frame.now) (body_view c.in-Some.condition) = ap (λ (o : Option _). bound_times (length c.args.frame.now) (condition_view o)) c.in-Some.is in
    omega (arith, a, b, x, y, e, i)

pub tell_part-returns-in_err-found-clause-reads : goal.tell_part-returns-in_err-found-clause-reads
tell_part-returns-in_err-found-clause-reads g t c =
    let inv = c.loop-place.invariant in
    let e = c.in_err-found.ensures.reads.tells in
    let i = inv.reads.intact in
    record { only = reads_on inv.reads c.fold_frame.ensures.reads.only; tells = search (rules, inv.failures, e, i) }

-- ---- folds of zones

pub tell_all-returns-in-Some-clause-fetched : goal.tell_all-returns-in-Some-clause-fetched
tell_all-returns-in-Some-clause-fetched g t c =
    let z = rw c.in-Some.is at c.zones_of.ensures in
    let m = zone_bound (length c.args.frame.now) (count c.args.fold.now.domain) c.in-Some.zones.role (condition_view c.args.fold.now.condition) (body_view c.args.fold.now.body) (own_of c.args.fold.now c.in-Some.zones) (key_of c.args.fold.now c.in-Some.zones) c.in-Some.zones.key_first z.depth z.zoned z.some (count-pos c.args.fold.now.domain) in
    on_ok c.tell_zones.result (λ le. omega (arith, le, m)) c.tell_zones.ensures.fetched

pub other_column-returns-in_ok-always_true-in-None-clause-value : goal.other_column-returns-in_ok-always_true-in-None-clause-value
other_column-returns-in_ok-always_true-in-None-clause-value g t c = λ i.
    c.in_ok-always_true-in-None.ensures
    ∙ filled (Value (pos 1)) c.args.frame.now (length c.args.frame.now) refl
    ∙ ap (λ b. map (meaning (g.S.Tiles.state c.args.source.now) c.args.on.now.ground.now b) c.args.frame.now)
    (ap (λ o. condition_view (option_copied o)) (sym c.in-None.is) ∙ c.other_of.ensures.other)

pub other_column-column_of-requires : goal.other_column-column_of-requires
other_column-column_of-requires g t c =
    let there : HasPlaceOver (g.S.Tiles.state c.args.source.now) c.args.on.now.ground.now (body_view c.in-Some.body.now) c.args.frame.now =
    subst (λ b. HasPlaceOver (g.S.Tiles.state c.args.source.now) c.args.on.now.ground.now b c.args.frame.now) (sym c.other_of.ensures.other ∙ ap (λ o. condition_view (option_copied o)) c.in-Some.is) c.requires.place in
    search (rules, there)

pub other_column-returns-in-Some-clause-value : goal.other_column-returns-in-Some-clause-value
other_column-returns-in-Some-clause-value g t c =
    subst (λ b. IfOk c.column_of.result (IsColumnOf (g.S.Tiles.state c.args.source.now) c.args.on.now.ground.now b c.args.frame.now))
    (ap (λ o. condition_view (option_copied o)) (sym c.in-Some.is) ∙ c.other_of.ensures.other) c.column_of.ensures.value

pub other_column-returns-in-Some-clause-fetched : goal.other_column-returns-in-Some-clause-fetched
other_column-returns-in-Some-clause-fetched g t c =
    subst (λ b. Fetches c.column_of.result c.args.on.now.ground.now b c.args.frame.now g.S.Tiles c.args.source.now c.column_of.new.source)
    (ap (λ o. condition_view (option_copied o)) (sym c.in-Some.is) ∙ c.other_of.ensures.other) c.column_of.ensures.fetched

pub tell_zone_tiles-loop-number-init : goal.tell_zone_tiles-loop-number-init
tell_zone_tiles-loop-number-init g t c =
    record {
      told = λ h i. no_tile c.args.fold.now.domain (meaning (g.S.Tiles.state c.args.source.now) c.args.zoned.now.zoning.ground.now (condition_view c.args.fold.now.condition)) (meaning (g.S.Tiles.state c.args.source.now) c.args.zoned.now.zoning.ground.now (body_view c.args.fold.now.body)) c.args.zoned.now.frame.now c.args.folds.now;
      folds = record { many = c.requires.folds.many; kinds = c.requires.folds.kinds; room = λ k d lt. let few = c.requires.folds.room k d lt in omega (arith, few) };
      fetched = omega arith;
      reads = reads_same _;
      failures = refl;
    }

pub tell_zone_tiles-tell_zone_part-requires : goal.tell_zone_tiles-tell_zone_part-requires
tell_zone_tiles-tell_zone_part-requires g t c =
    let inv = c.loop-number.invariant in
    let lt : c.loop-number.number < length (tile_boxes c.args.fold.now.domain) = omega (arith, c.loop-number-test.true, c.tiles-number-end.ensures.value) in
    let place = fold_later c.args.zoned.now.zoning.ground.now c.args.fold.now c.args.zoned.now.frame.now inv.reads c.requires.place in
    let zones = c.requires.zones in
    let keys = c.requires.keys in
    let part = c.in_ok-part.ensures.part in
    let folds : AreOfFold c.args.fold.now c.args.zoned.now.frame.now (2 ^ 24 - length (points c.in_ok-part.part.area)) c.loop-number.folds = record {
      many = inv.folds.many;
      kinds = inv.folds.kinds;
      room = room_more c.args.fold.now.domain c.in_ok-part.part.area c.loop-number.number c.loop-number.folds c.axes-axes.ensures.domain lt c.in_ok-part.ensures.tile inv.folds.room;
    } in
    search (rules, place, zones, keys, part, folds)

pub tell_zone_tiles-loop-number-preserved : goal.tell_zone_tiles-loop-number-preserved
tell_zone_tiles-loop-number-preserved g t c =
    let inv = c.loop-number.invariant in
    let dom = c.args.fold.now.domain in
    let part = c.in_ok-part.part.area in
    let lt : c.loop-number.number < length (tile_boxes dom) = omega (arith, c.loop-number-test.true, c.tiles-number-end.ensures.value) in
    let is = c.in_ok-part.ensures.tile in
    record {
      told = λ h i.
          tile_more dom (meaning (g.S.Tiles.state c.args.source.now) c.args.zoned.now.zoning.ground.now (condition_view c.args.fold.now.condition)) (meaning (g.S.Tiles.state c.args.source.now) c.args.zoned.now.zoning.ground.now (body_view c.args.fold.now.body)) c.args.zoned.now.frame.now part c.loop-number.number c.args.folds.now c.loop-number.folds c.tell_zone_part.new.folds lt is (inv.told h i)
          (subst (λ s. EachTakesIn c.loop-number.folds c.tell_zone_part.new.folds (λ k. flat_map (told_ranked dom (run (cells_of s c.args.zoned.now.zoning.ground.now.coverages.now) c.args.zoned.now.zoning.ground.now.registers.now (condition_view c.args.fold.now.condition)) (run (cells_of s c.args.zoned.now.zoning.ground.now.coverages.now) c.args.zoned.now.zoning.ground.now.registers.now (body_view c.args.fold.now.body)) (get_or c.args.zoned.now.frame.now k [])) (points part))) inv.reads.cells
          (c.in_ok-tell_zone_part.ensures.told (λ _. subst (λ s. c.args.zoned.now.keys.now.column ≡ map (run (cells_of s c.args.zoned.now.zoning.ground.now.coverages.now) c.args.zoned.now.zoning.ground.now.registers.now (key_of c.args.fold.now c.args.zoned.now.zoning.zones)) c.args.zoned.now.frame.now) (sym inv.reads.cells) (h i)) (inv.reads.intact i)));
      folds = subst (λ n. AreOfFold c.args.fold.now c.args.zoned.now.frame.now n c.tell_zone_part.new.folds) (sym (points_next dom part c.loop-number.number lt is)) (c.in_ok-tell_zone_part.ensures.folds (length (points_to dom c.loop-number.number)) inv.folds);
      fetched =
          let x = times_next dom part c.loop-number.number (own_of c.args.fold.now c.args.zoned.now.zoning.zones) lt is in
          let y = times_next dom part c.loop-number.number (other_of c.args.fold.now c.args.zoned.now.zoning.zones) lt is in
          omega (arith, c.in_ok-tell_zone_part.ensures.fetched, inv.fetched, x, y);
      reads = reads_on inv.reads c.tell_zone_part.ensures.reads.only;
      failures = c.in_ok-tell_zone_part.ensures.reads.tells ∙ inv.failures;
    }

pub tell_zone_tiles-returns-clause-told : goal.tell_zone_tiles-returns-clause-told
tell_zone_tiles-returns-clause-told g t c = λ h i.
    let whole : c.loop-number.number ≡ length (tile_boxes c.args.fold.now.domain) = omega (arith, c.loop-number-test.false, c.loop-number.auto.number-end, c.tiles-number-end.ensures.value) in
    all_tiles c.args.fold.now.domain (meaning (g.S.Tiles.state c.args.source.now) c.args.zoned.now.zoning.ground.now (condition_view c.args.fold.now.condition)) (meaning (g.S.Tiles.state c.args.source.now) c.args.zoned.now.zoning.ground.now (body_view c.args.fold.now.body)) c.args.zoned.now.frame.now c.args.folds.now c.loop-number.folds c.loop-number.number c.axes-axes.ensures.domain.ordered whole (c.loop-number.invariant.told h i)

pub tell_zone_tiles-returns-clause-fetched : goal.tell_zone_tiles-returns-clause-fetched
tell_zone_tiles-returns-clause-fetched g t c =
    let whole : c.loop-number.number ≡ length (tile_boxes c.args.fold.now.domain) = omega (arith, c.loop-number-test.false, c.loop-number.auto.number-end, c.tiles-number-end.ensures.value) in
    let n : length (points_to c.args.fold.now.domain c.loop-number.number) ≡ count c.args.fold.now.domain = ap (λ n. length (points_to c.args.fold.now.domain n)) whole ∙ points_whole c.args.fold.now.domain c.axes-axes.ensures.domain.ordered in
    subst (λ k. FetchesOwn c.args.zoned.now c.args.fold.now k g.S.Tiles c.args.source.now c.loop-number.source) n c.loop-number.invariant.fetched

pub tell_zone_part-side_of-side-requires : goal.tell_zone_part-side_of-side-requires
tell_zone_part-side_of-side-requires g t c = zoned_equation c.args.fold.now c.args.zoned.now.zoning.zones c.requires.zones.depth c.requires.zones.zoned

pub tell_zone_part-column_of-requires : goal.tell_zone_part-column_of-requires
tell_zone_part-column_of-requires g t c =
    let one = one_place (fold_view c.args.fold.now) c.args.zoned.now.frame.now 0 c.requires.zones.some c.requires.place.place in
    let both = folded_place c.args.fold.now.op c.args.fold.now.domain (condition_view c.args.fold.now.condition) (body_view c.args.fold.now.body) (get_or c.args.zoned.now.frame.now 0 [] ∷ []) one in
    let there : HasPlaceOver (g.S.Tiles.state c.args.source.now) c.args.zoned.now.zoning.ground.now (own_of c.args.fold.now c.args.zoned.now.zoning.zones) c.in_ok-inner.inner =
    subst (HasPlaceOver (g.S.Tiles.state c.args.source.now) c.args.zoned.now.zoning.ground.now (own_of c.args.fold.now c.args.zoned.now.zoning.zones)) (sym c.in_ok-inner.ensures)
    (own_place c.args.zoned.now.zoning.zones.role (condition_view c.args.fold.now.condition) (body_view c.args.fold.now.body) (own_of c.args.fold.now c.args.zoned.now.zoning.zones) (key_of c.args.fold.now c.args.zoned.now.zoning.zones) c.args.zoned.now.zoning.zones.key_first c.requires.zones.depth (map (λ p. get_or c.args.zoned.now.frame.now 0 [] ++ p) (points c.args.part.now.area)) c.requires.zones.zoned
    (place_in_part c.args.fold.now.domain c.args.part.now.area (condition_view c.args.fold.now.condition) (get_or c.args.zoned.now.frame.now 0 []) both.0 c.requires.part.inside c.requires.part.ordered)
    (place_in_part c.args.fold.now.domain c.args.part.now.area (body_view c.args.fold.now.body) (get_or c.args.zoned.now.frame.now 0 []) both.1 c.requires.part.inside c.requires.part.ordered)) in
    let here = subst (λ b. HasPlaceOver (g.S.Tiles.state c.args.source.now) c.args.zoned.now.zoning.ground.now b c.in_ok-inner.inner) (sym c.side_of-side.ensures.side) there in
    search (rules, here)

pub tell_zone_part-other_column-requires : goal.tell_zone_part-other_column-requires
tell_zone_part-other_column-requires g t c =
    let one = one_place (fold_view c.args.fold.now) c.args.zoned.now.frame.now 0 c.requires.zones.some c.requires.place.place in
    let both = folded_place c.args.fold.now.op c.args.fold.now.domain (condition_view c.args.fold.now.condition) (body_view c.args.fold.now.body) (get_or c.args.zoned.now.frame.now 0 [] ∷ []) one in
    let signatures : c.args.zoned.now.zoning.ground.now.signatures.now ≡ (g.S.Tiles.state c.column_of.new.source).coverages = c.requires.place.signatures ∙ sym c.column_of.ensures.reads.only.coverages in
    let there : HasPlaceOver (g.S.Tiles.state c.column_of.new.source) c.args.zoned.now.zoning.ground.now (other_of c.args.fold.now c.args.zoned.now.zoning.zones) c.column_of.new.frame =
    subst (HasPlaceOver (g.S.Tiles.state c.column_of.new.source) c.args.zoned.now.zoning.ground.now (other_of c.args.fold.now c.args.zoned.now.zoning.zones)) (sym (c.in_ok-own.ensures.frame ∙ c.in_ok-inner.ensures))
    (subst (λ all. HasPlace (signature_of all c.args.zoned.now.zoning.ground.now.coverages.now) (length c.args.zoned.now.zoning.ground.now.registers.now) (other_of c.args.fold.now c.args.zoned.now.zoning.zones) (map (λ p. get_or c.args.zoned.now.frame.now 0 [] ++ p) (points c.args.part.now.area))) (sym c.column_of.ensures.reads.only.coverages)
    (other_place c.args.zoned.now.zoning.zones.role (condition_view c.args.fold.now.condition) (body_view c.args.fold.now.body) (own_of c.args.fold.now c.args.zoned.now.zoning.zones) (key_of c.args.fold.now c.args.zoned.now.zoning.zones) c.args.zoned.now.zoning.zones.key_first c.requires.zones.depth (map (λ p. get_or c.args.zoned.now.frame.now 0 [] ++ p) (points c.args.part.now.area)) c.requires.zones.zoned
    (place_in_part c.args.fold.now.domain c.args.part.now.area (body_view c.args.fold.now.body) (get_or c.args.zoned.now.frame.now 0 []) both.1 c.requires.part.inside c.requires.part.ordered))) in
    let equation = zoned_equation c.args.fold.now c.args.zoned.now.zoning.zones c.requires.zones.depth c.requires.zones.zoned in
    search (rules, signatures, equation, there)

pub tell_zone_part-tell_seen-requires : goal.tell_zone_part-tell_seen-requires
tell_zone_part-tell_seen-requires g t c =
    let area = c.args.part.now.area in
    let wide : length c.in_ok-column.column ≡ length (points area) =
    c.in_ok-column.ensures.places ∙ ap length (c.in_ok-own.ensures.frame ∙ c.in_ok-inner.ensures) ∙ length-map (points area) (λ p. get_or c.args.zoned.now.frame.now 0 [] ++ p) in
    let own : length c.in_ok-own.own ≡ length c.in_ok-column.column =
    c.in_ok-own.ensures.places ∙ sym (c.in_ok-column.ensures.places ∙ ap length c.in_ok-own.ensures.frame) in
    let ranks : length c.deref.result.now ≡ length c.in_ok-column.column =
    ap length (c.deref.ensures.value ∙ c.requires.part.ranks) ∙ length-map (points area) (rank_of c.args.fold.now.domain) ∙ sym wide in
    let keys : length c.args.folds.now ≡ length c.args.zoned.now.keys.now.column = c.requires.folds.many ∙ sym c.requires.keys in
    let op = c.requires.folds.kinds in
    let room : HaveAtMost (2 ^ 24 - length c.in_ok-column.column) c.args.folds.now = subst (λ n. HaveAtMost (2 ^ 24 - n) c.args.folds.now) (sym wide) c.requires.folds.room in
    record { seen = record { own = own; ranks = ranks }; keys = keys; op = op; room = room }

pub tell_zone_part-returns-clause-told : goal.tell_zone_part-returns-clause-told
tell_zone_part-returns-clause-told g t c = λ h i.
    let own = c.in_ok-own.ensures.value i ∙ ap (λ b. map (meaning (g.S.Tiles.state c.args.source.now) c.args.zoned.now.zoning.ground.now b) c.in_ok-inner.inner) c.side_of-side.ensures.side in
    let column = c.in_ok-column.ensures.value (c.column_of.ensures.reads.only.intact i) ∙ ap (λ s. map (run (cells_of s c.args.zoned.now.zoning.ground.now.coverages.now) c.args.zoned.now.zoning.ground.now.registers.now (other_of c.args.fold.now c.args.zoned.now.zoning.zones)) c.column_of.new.frame) c.column_of.ensures.reads.only.cells ∙ ap (map (meaning (g.S.Tiles.state c.args.source.now) c.args.zoned.now.zoning.ground.now (other_of c.args.fold.now c.args.zoned.now.zoning.zones))) c.in_ok-own.ensures.frame in
    zone_told (cells_of (g.S.Tiles.state c.args.source.now).cells c.args.zoned.now.zoning.ground.now.coverages.now) c.args.zoned.now.zoning.ground.now.registers.now c.args.fold.now.domain c.args.zoned.now.zoning.zones.role (condition_view c.args.fold.now.condition) (body_view c.args.fold.now.body) (own_of c.args.fold.now c.args.zoned.now.zoning.zones) (key_of c.args.fold.now c.args.zoned.now.zoning.zones) c.args.zoned.now.zoning.zones.key_first
    c.args.zoned.now.frame.now (points c.args.part.now.area) c.in_ok-inner.inner c.args.zoned.now.keys.now.column c.in_ok-own.own c.in_ok-column.column c.deref.result.now c.args.folds.now c.tell_seen.new.folds
    c.requires.zones (c.tell_seen.auto.folds ∙ c.requires.folds.many) c.in_ok-inner.ensures (c.deref.ensures.value ∙ c.requires.part.ranks) (h i) own column c.in_ok-tell_seen.ensures.told

pub tell_zone_part-returns-clause-folds : goal.tell_zone_part-returns-clause-folds
tell_zone_part-returns-clause-folds g t c =
    let area = c.args.part.now.area in
    let wide : length c.in_ok-column.column ≡ length (points area) =
    c.in_ok-column.ensures.places ∙ ap length (c.in_ok-own.ensures.frame ∙ c.in_ok-inner.ensures) ∙ length-map (points area) (λ p. get_or c.args.zoned.now.frame.now 0 [] ++ p) in
    λ n h. record {
      many = c.tell_seen.auto.folds ∙ h.many;
      kinds = c.in_ok-tell_seen.ensures.op;
      room = subst (λ m. HaveAtMost (n + m) c.tell_seen.new.folds) wide (c.in_ok-tell_seen.ensures.room n h.room);
    }

pub tell_zone_part-returns-clause-fetched : goal.tell_zone_part-returns-clause-fetched
tell_zone_part-returns-clause-fetched g t c =
    let area = c.args.part.now.area in
    let a = c.in_ok-own.ensures.fetched 0 (λ k d lt. omega arith) in
    let same = ap (fetches (chosen (g.S.Tiles.state c.args.source.now) c.args.zoned.now.zoning.ground.now) 0 c.in_ok-inner.inner) c.side_of-side.ensures.side in
    let b = c.in_ok-column.ensures.fetched 0 (λ k d lt. omega arith) in
    let x = times_few (chosen (g.S.Tiles.state c.args.source.now) c.args.zoned.now.zoning.ground.now) 0 c.in_ok-inner.inner (own_of c.args.fold.now c.args.zoned.now.zoning.zones) in
    let y = times_few (chosen (g.S.Tiles.state c.args.source.now) c.args.zoned.now.zoning.ground.now) 0 c.in_ok-inner.inner (other_of c.args.fold.now c.args.zoned.now.zoning.zones) in
    let e : fetches (chosen (g.S.Tiles.state c.column_of.new.source) c.args.zoned.now.zoning.ground.now) 0 c.column_of.new.frame (other_of c.args.fold.now c.args.zoned.now.zoning.zones) ≡ fetches (chosen (g.S.Tiles.state c.args.source.now) c.args.zoned.now.zoning.ground.now) 0 c.in_ok-inner.inner (other_of c.args.fold.now c.args.zoned.now.zoning.zones) =
    ap (λ all. fetches (signature_of all c.args.zoned.now.zoning.ground.now.coverages.now) 0 c.column_of.new.frame (other_of c.args.fold.now c.args.zoned.now.zoning.zones)) c.column_of.ensures.reads.only.coverages ∙ ap (λ f. fetches (chosen (g.S.Tiles.state c.args.source.now) c.args.zoned.now.zoning.ground.now) 0 f (other_of c.args.fold.now c.args.zoned.now.zoning.zones)) c.in_ok-own.ensures.frame in
    let n : length c.in_ok-inner.inner ≡ count area = ap length c.in_ok-inner.ensures ∙ length-map (points area) (λ p. get_or c.args.zoned.now.frame.now 0 [] ++ p) ∙ length-points area in
    let u = ap (λ m. bound_times m (own_of c.args.fold.now c.args.zoned.now.zoning.zones)) n in
    let v = ap (λ m. bound_times m (other_of c.args.fold.now c.args.zoned.now.zoning.zones)) n in
    omega (arith, a, same, b, x, y, e, u, v)

pub tell_zones-side_of-key-requires : goal.tell_zones-side_of-key-requires
tell_zones-side_of-key-requires g t c = zoned_equation c.args.fold.now c.args.on.now.zones c.requires.zones.depth c.requires.zones.zoned

pub tell_zones-column_of-requires : goal.tell_zones-column_of-requires
tell_zones-column_of-requires g t c =
    let there : HasPlaceOver (g.S.Tiles.state c.args.source.now) c.args.on.now.ground.now (key_of c.args.fold.now c.args.on.now.zones) c.args.frame.now =
    key_place c.args.fold.now.op c.args.fold.now.domain c.args.on.now.zones.role (condition_view c.args.fold.now.condition) (body_view c.args.fold.now.body) (own_of c.args.fold.now c.args.on.now.zones) (key_of c.args.fold.now c.args.on.now.zones) c.args.on.now.zones.key_first c.args.frame.now c.requires.zones c.requires.place.place in
    let here = subst (λ b. HasPlaceOver (g.S.Tiles.state c.args.source.now) c.args.on.now.ground.now b c.args.frame.now) (sym c.side_of-key.ensures.side) there in
    search (rules, here)

pub tell_zones-tell_zone_tiles-requires : goal.tell_zones-tell_zone_tiles-requires
tell_zones-tell_zone_tiles-requires g t c =
    let frame = c.in_ok-column.ensures.frame in
    let place = subst (FoldHasPlace (g.S.Tiles.state c.column_of.new.source) c.args.on.now.ground.now c.args.fold.now) (sym frame) (fold_later c.args.on.now.ground.now c.args.fold.now c.args.frame.now c.column_of.ensures.reads.only c.requires.place) in
    let zones = subst (λ f. AreZonesOf c.args.fold.now f c.args.on.now.zones) (sym frame) c.requires.zones in
    let keys : length c.in_ok-keys.keys.column ≡ length c.column_of.new.frame = ap length c.in_ok-keys.ensures ∙ c.in_ok-column.ensures.places ∙ ap length (sym frame) in
    let folds = subst (λ f. AreOfFold c.args.fold.now f 0 c.args.folds.now) (sym frame) c.requires.folds in
    search (rules, place, zones, keys, folds)

pub tell_zones-returns-clause-told : goal.tell_zones-returns-clause-told
tell_zones-returns-clause-told g t c = λ i.
    let same = c.column_of.ensures.reads.only.cells in
    let frame = c.in_ok-column.ensures.frame in
    let keys : c.in_ok-keys.keys.column ≡ map (meaning (g.S.Tiles.state c.column_of.new.source) c.args.on.now.ground.now (key_of c.args.fold.now c.args.on.now.zones)) c.column_of.new.frame =
    c.in_ok-keys.ensures ∙ c.in_ok-column.ensures.value i
    ∙ ap (λ b. map (meaning (g.S.Tiles.state c.args.source.now) c.args.on.now.ground.now b) c.args.frame.now) c.side_of-key.ensures.side
    ∙ ap (λ s. map (run (cells_of s c.args.on.now.ground.now.coverages.now) c.args.on.now.ground.now.registers.now (key_of c.args.fold.now c.args.on.now.zones)) c.args.frame.now) (sym same) ∙ ap (map (meaning (g.S.Tiles.state c.column_of.new.source) c.args.on.now.ground.now (key_of c.args.fold.now c.args.on.now.zones))) (sym frame) in
    subst (λ s. EachTakesIn c.args.folds.now c.tell_zone_tiles.new.folds (λ k. told_of (under_vars (run (cells_of s c.args.on.now.ground.now.coverages.now) c.args.on.now.ground.now.registers.now (condition_view c.args.fold.now.condition)) (get_or c.args.frame.now k [])) (under_vars (run (cells_of s c.args.on.now.ground.now.coverages.now) c.args.on.now.ground.now.registers.now (body_view c.args.fold.now.body)) (get_or c.args.frame.now k [])) 0 (points c.args.fold.now.domain))) same
    (subst (λ f. EachTakesIn c.args.folds.now c.tell_zone_tiles.new.folds (λ k. told_of (under_vars (meaning (g.S.Tiles.state c.column_of.new.source) c.args.on.now.ground.now (condition_view c.args.fold.now.condition)) (get_or f k [])) (under_vars (meaning (g.S.Tiles.state c.column_of.new.source) c.args.on.now.ground.now (body_view c.args.fold.now.body)) (get_or f k [])) 0 (points c.args.fold.now.domain))) frame
    (c.in_ok-tell_zone_tiles.ensures.told (λ _. keys) (c.column_of.ensures.reads.only.intact i)))

pub tell_zones-returns-clause-fetched : goal.tell_zones-returns-clause-fetched
tell_zones-returns-clause-fetched g t c =
    let a = c.in_ok-column.ensures.fetched 0 (λ k d lt. omega arith) in
    let same = ap (fetches (chosen (g.S.Tiles.state c.args.source.now) c.args.on.now.ground.now) 0 c.args.frame.now) c.side_of-key.ensures.side in
    let x = times_few (chosen (g.S.Tiles.state c.args.source.now) c.args.on.now.ground.now) 0 c.args.frame.now (key_of c.args.fold.now c.args.on.now.zones) in
    let b = c.in_ok-tell_zone_tiles.ensures.fetched in
    omega (arith, a, same, x, b)

pub at_coordinates-push_column-requires : goal.at_coordinates-push_column-requires
at_coordinates-push_column-requires g t c = grind (arith, common_steps)

pub bind-settle-requires : goal.bind-settle-requires
bind-settle-requires g t c = grind (arith, common_steps)

pub evaluate-returns-in-Lit-clause-places : goal.evaluate-returns-in-Lit-clause-places
evaluate-returns-in-Lit-clause-places g t c = grind (arith, common_steps)

pub evaluate-returns-in-Reg-clause-places : goal.evaluate-returns-in-Reg-clause-places
evaluate-returns-in-Reg-clause-places g t c = grind (arith, common_steps)

pub tell_points-returns-clause-told : goal.tell_points-returns-clause-told
tell_points-returns-clause-told g t c = grind (arith, common_steps)
