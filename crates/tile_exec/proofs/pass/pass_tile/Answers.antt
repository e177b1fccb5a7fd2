-- With a condition or without, what the tile's points tell is taken in, and no more is fetched than the bound.
use Rattle.std.proofs.Common.{arith, ◌≡◌, sym, ap, ◌∙◌, subst, length, map}
use Rattle.arr_core.specs.Domains.{points, rank_of}
use Rattle.arr_core.specs.Tiles.{tile_box}
use Rattle.plan_ir.specs.Bodies.{body_view, condition_view}
use Rattle.plan_ir.specs.Run.{run}
use Rattle.plan_ir.specs.Plans.{signature_of, pass_view}
use Rattle.plan_ir.specs.Placed.{IsPlaced, spans}
use Rattle.plan_ir.specs.Planned.{cells_of}
use Rattle.plan_ir.specs.Units.{bound_of}
use Rattle.tile_kernel.specs.Told.{told_at, demanded_at}
use Rattle.tile_kernel.specs.Standing.{Stands}
use Rattle.tile_kernel.proofs.Falsity.{never_told}
use Rattle.tile_columns.specs.Evaluating.{HasPlace}
use Rattle.tile_columns.proofs.Tilings.{tile_is}
use Rattle.tile_exec.proofs.Finding.{told_always, told_where, placed_within, bounded_over}
use Rattle.tile_exec.proofs.pass.pass_tile.Goals as goal

pub column_at-requires-clause-place : goal.column_at-requires-clause-place
column_at-requires-clause-place g c =
    let cs = signature_of (g.S.Tiles.state c.args.source.now).coverages c.args.ground.now.coverages.now in
    let regs = length c.args.ground.now.registers.now in
    let area = c.args.pass.now.domain in
    let tile = tile_is area c.args.tile c.axes-axes.ensures.domain c.requires.tile in
    let body = body_view c.args.pass.now.body in
    subst (HasPlace cs regs body) (sym c.in_ok-frame.ensures) (placed_within cs regs area (tile_box area c.args.tile) body c.requires.placed.2 tile.inside tile.ordered)

pub column_at-requires-in-Some-clause-place : goal.column_at-requires-in-Some-clause-place
column_at-requires-in-Some-clause-place g c =
    let cs = signature_of (g.S.Tiles.state c.args.source.now).coverages c.args.ground.now.coverages.now in
    let regs = length c.args.ground.now.registers.now in
    let area = c.args.pass.now.domain in
    let tile = tile_is area c.args.tile c.axes-axes.ensures.domain c.requires.tile in
    let tree : condition_view c.args.pass.now.condition ≡ body_view c.in-Some.condition = ap condition_view c.in-Some.is in
    let body = body_view c.in-Some.condition in
    subst (HasPlace cs regs body) (sym c.in_ok-frame.ensures)
    (placed_within cs regs area (tile_box area c.args.tile) body (subst (IsPlaced cs regs (spans area)) tree c.requires.placed.1) tile.inside tile.ordered)

pub column_at-requires-in-Some-2-clause-place : goal.column_at-requires-in-Some-2-clause-place
column_at-requires-in-Some-2-clause-place g c =
    let cov = c.args.ground.now.coverages.now in
    let regs = length c.args.ground.now.registers.now in
    let area = c.args.pass.now.domain in
    let tile = tile_is area c.args.tile c.axes-axes.ensures.domain c.requires.tile in
    let body = body_view c.args.pass.now.body in
    let first = c.in_ok-column_at-in-Some.ensures in
    let here = placed_within (signature_of (g.S.Tiles.state c.args.source.now).coverages cov) regs area (tile_box area c.args.tile) body c.requires.placed.2 tile.inside tile.ordered in
    let there = subst (HasPlace (signature_of (g.S.Tiles.state c.args.source.now).coverages cov) regs body) (sym (first.frame ∙ c.in_ok-frame.ensures)) here in
    subst (λ a. HasPlace (signature_of a cov) regs body c.column_at-in-Some.new.frame) (sym first.reads.only.coverages) there

pub returns-in-None-clause-count : goal.returns-in-None-clause-count
returns-in-None-clause-count g c =
    omega (arith, c.in_ok-told-in-None.ensures.count, c.in_ok-column_at-in-None.ensures.places, ap length c.in_ok-frame.ensures)

pub fold_part-requires-clause-column : goal.fold_part-requires-clause-column
fold_part-requires-clause-column g c = c.in_ok-column_at-in-None.ensures.places ∙ ap length c.in_ok-frame.ensures

pub returns-in-None-clause-stands : goal.returns-in-None-clause-stands
returns-in-None-clause-stands g c = λ intact.
    let p = pass_view c.args.pass.now in
    let s = cells_of (g.S.Tiles.state c.args.source.now).cells c.args.ground.now.coverages.now in
    let regs = c.args.ground.now.registers.now in
    let part = tile_box p.domain c.args.tile in
    let column = c.in_ok-column_at-in-None.ensures.value intact ∙ ap (map (run s regs p.body)) c.in_ok-frame.ensures in
    subst (Stands c.in_ok-told-in-None.told)
    (ap (told_at (map (rank_of p.domain) (points part))) column ∙ told_always s regs p (points part) (ap condition_view c.in-None.is))
    c.in_ok-told-in-None.ensures.stands

pub returns-in-None-clause-fetched : goal.returns-in-None-clause-fetched
returns-in-None-clause-fetched g c =
    let area = c.args.pass.now.domain in
    let s = g.S.Tiles.state c.args.source.now in
    let cs = signature_of s.coverages c.args.ground.now.coverages.now in
    let tile = tile_is area c.args.tile c.axes-axes.ensures.domain c.requires.tile in
    let f = bounded_over cs (tile_box area c.args.tile) c.in_ok-frame.frame (body_view c.args.pass.now.body) s.fetched (g.S.Tiles.state c.column_at.new.source).fetched c.in_ok-frame.ensures tile.ordered c.in_ok-column_at-in-None.ensures.fetched in
    omega (arith, f)

pub returns-clause-count : goal.returns-clause-count
returns-clause-count g c =
    let frame = c.in_ok-column_at-in-Some.ensures.frame ∙ c.in_ok-frame.ensures in
    omega (arith, c.in_ok-told-in-Some.ensures.count, c.in_ok-column_at-in-Some-2.ensures.places, ap length frame)

pub fold_part_where-requires-clause-column : goal.fold_part_where-requires-clause-column
fold_part_where-requires-clause-column g c =
    c.in_ok-column_at-in-Some-2.ensures.places ∙ ap length (c.in_ok-column_at-in-Some.ensures.frame ∙ c.in_ok-frame.ensures)

pub fold_part_where-requires-clause-condition : goal.fold_part_where-requires-clause-condition
fold_part_where-requires-clause-condition g c =
    let frame = c.in_ok-column_at-in-Some.ensures.frame in
    omega (arith, c.in_ok-column_at-in-Some.ensures.places, c.in_ok-column_at-in-Some-2.ensures.places, ap length frame)

pub returns-clause-stands : goal.returns-clause-stands
returns-clause-stands g c = λ intact.
    let p = pass_view c.args.pass.now in
    let cov = c.args.ground.now.coverages.now in
    let s = cells_of (g.S.Tiles.state c.args.source.now).cells cov in
    let regs = c.args.ground.now.registers.now in
    let part = tile_box p.domain c.args.tile in
    let first = c.in_ok-column_at-in-Some.ensures in
    let frame = first.frame ∙ c.in_ok-frame.ensures in
    let tree : condition_view c.args.pass.now.condition ≡ body_view c.in-Some.condition = ap condition_view c.in-Some.is in
    let chosen = first.value intact ∙ ap (λ t. map (run s regs t) c.in_ok-frame.frame) (sym tree) ∙ ap (map (run s regs p.condition)) c.in_ok-frame.ensures in
    let column = c.in_ok-column_at-in-Some-2.ensures.value (first.reads.only.intact intact) ∙ ap (λ f. map (run (cells_of f cov) regs p.body) c.column_at-in-Some.new.frame) first.reads.only.cells ∙ ap (map (run s regs p.body)) frame in
    subst (Stands c.in_ok-told-in-Some.told)
    (ap (λ l. demanded_at (map (rank_of p.domain) (points part)) l c.column_at-in-Some-2.new.out) chosen ∙ ap (demanded_at (map (rank_of p.domain) (points part)) (map (run s regs p.condition) (points part))) column ∙ told_where s regs p (points part))
    c.in_ok-told-in-Some.ensures.stands

pub returns-clause-fetched : goal.returns-clause-fetched
returns-clause-fetched g c =
    let area = c.args.pass.now.domain in
    let part = tile_box area c.args.tile in
    let cov = c.args.ground.now.coverages.now in
    let s = g.S.Tiles.state c.args.source.now in
    let cs = signature_of s.coverages cov in
    let tile = tile_is area c.args.tile c.axes-axes.ensures.domain c.requires.tile in
    let first = c.in_ok-column_at-in-Some.ensures in
    let between = g.S.Tiles.state c.column_at-in-Some.new.source in
    let after = g.S.Tiles.state c.column_at-in-Some-2.new.source in
    let f = bounded_over cs part c.in_ok-frame.frame (body_view c.in-Some.condition) s.fetched between.fetched c.in_ok-frame.ensures tile.ordered first.fetched in
    let h = bounded_over (signature_of between.coverages cov) part c.column_at-in-Some.new.frame (body_view c.args.pass.now.body) between.fetched after.fetched (first.frame ∙ c.in_ok-frame.ensures) tile.ordered c.in_ok-column_at-in-Some-2.ensures.fetched in
    let tree : condition_view c.args.pass.now.condition ≡ body_view c.in-Some.condition = ap condition_view c.in-Some.is in
    omega (arith, f, h, ap (bound_of cs part) tree, ap (λ a. bound_of (signature_of a cov) part (body_view c.args.pass.now.body)) first.reads.only.coverages)

pub returns-then-is_never-clause-stands : goal.returns-then-is_never-clause-stands
returns-then-is_never-clause-stands g c = λ intact.
    let p = pass_view c.args.pass.now in
    let s = cells_of (g.S.Tiles.state c.args.source.now).cells c.args.ground.now.coverages.now in
    let regs = c.args.ground.now.registers.now in
    let part = tile_box p.domain c.args.tile in
    let ranks = map (rank_of p.domain) (points part) in
    let body = map (run s regs p.body) (points part) in
    let tree : condition_view c.args.pass.now.condition ≡ body_view c.in-Some.condition = ap condition_view c.in-Some.is in
    let chosen = c.in_ok-column_at-in-Some.ensures.value intact ∙ ap (λ t. map (run s regs t) c.in_ok-frame.frame) (sym tree) ∙ ap (map (run s regs p.condition)) c.in_ok-frame.ensures in
    let none = sym (ap (λ l. demanded_at ranks l body) chosen) ∙ never_told ranks c.column_at-in-Some.new.out body (c.is_never.ensures c.if-is_never.true) in
    subst (Stands c.empty.result) (sym none ∙ told_where s regs p (points part)) c.empty.ensures.stands

pub returns-then-is_never-clause-fetched : goal.returns-then-is_never-clause-fetched
returns-then-is_never-clause-fetched g c =
    let area = c.args.pass.now.domain in
    let part = tile_box area c.args.tile in
    let s = g.S.Tiles.state c.args.source.now in
    let cs = signature_of s.coverages c.args.ground.now.coverages.now in
    let tile = tile_is area c.args.tile c.axes-axes.ensures.domain c.requires.tile in
    let f = bounded_over cs part c.in_ok-frame.frame (body_view c.in-Some.condition) s.fetched (g.S.Tiles.state c.column_at-in-Some.new.source).fetched c.in_ok-frame.ensures tile.ordered c.in_ok-column_at-in-Some.ensures.fetched in
    let tree : condition_view c.args.pass.now.condition ≡ body_view c.in-Some.condition = ap condition_view c.in-Some.is in
    omega (arith, f, ap (bound_of cs part) tree)
