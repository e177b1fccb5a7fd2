-- The body has its place at each point of the box, and fetches no more tiles there than its bound.
use Rattle.std.proofs.Common.{sym, subst}
use Rattle.plan_ir.specs.Bodies.{body_view}
use Rattle.tile_columns.specs.Meaning.{chosen, HasPlaceOver}
use Rattle.tile_exec.proofs.Finding.{bounded_over}
use Rattle.tile_exec.proofs.column.column_over.Goals as goal

pub column_at-requires-clause-place : goal.column_at-requires-clause-place
column_at-requires-clause-place g c =
    subst (HasPlaceOver (g.S.Tiles.state c.args.source.now) c.args.ground.now (body_view c.args.body.now)) (sym c.in_ok-frame.ensures) c.requires.place

pub returns-clause-fetched : goal.returns-clause-fetched
returns-clause-fetched g c =
    let s = g.S.Tiles.state c.args.source.now in
    bounded_over (chosen s c.args.ground.now) c.args.at.now c.in_ok-frame.frame (body_view c.args.body.now) s.fetched (g.S.Tiles.state c.column_at.new.source).fetched
    c.in_ok-frame.ensures c.axes-axes.ensures.domain.ordered c.in_ok-column_at.ensures.fetched
