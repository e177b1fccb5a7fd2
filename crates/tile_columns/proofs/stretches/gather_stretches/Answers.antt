-- After the last stretch the cells of all places have been read.
use Rattle.std.proofs.Common.{◌+◌, ◌≤◌, ◌∙◌, sym, subst, arith, length, get_or, take, [], List, ℕ, ℤ}
use Rattle.std.proofs.lemmas.List.{length-map}
use Rattle.std.proofs.lemmas.Grind.{common_steps}
use Rattle.plan_ir.specs.Run.{numbers_at}
use Rattle.arr_core.specs.Meeting.{tile_number}
use Rattle.plan_ir.specs.Units.{distinct}
use Rattle.tile_columns.specs.declared.spots.Spot.{Spot}
use Rattle.tile_columns.specs.Readings.{tiles_of, ranks_of, cell_read}
use Rattle.tile_columns.specs.Spots.{AreInOrder, tiles_in}
use Rattle.tile_columns.proofs.Calls.{reads_on}
use Rattle.tile_columns.proofs.InOrder.{BeginsAt, begins_next, one_more_tile}
use Rattle.tile_columns.proofs.Picking.{StandAt, all_read}
use Rattle.tile_columns.proofs.stretches.gather_stretches.Goals as goal

pub loop-from-preserved : goal.loop-from-preserved
loop-from-preserved g c =
    let inv = c.loop-from.invariant in
    let next = c.in_ok-from.ensures in
    let spots = c.loop-from.scratch.spots.items in
    let same = sym next.spots.spots in
    let stand : (ℕ → ℕ → List ℤ → ℤ) → List Spot → List ℤ → ℕ → Type 0 = λ cells l.
    StandAt l (λ p. cells c.args.reading.now.coverage c.args.reading.now.field (numbers_at (get_or c.args.frame.now p []) c.args.reading.now.indexes.now)) in
    let more = one_more_tile spots c.loop-from.from c.in_ok-from.from inv.begins next.stretch in
    record {
      ordered = record {
        spots = subst (AreInOrder (tiles_of c.args.reading.now c.args.frame.now) (ranks_of c.args.reading.now c.args.frame.now)) same inv.ordered.spots;
        cells = next.spots.cells ∙ inv.ordered.cells;
      };
      within = subst (λ (l : List Spot). c.in_ok-from.from ≤ length l) same next.stretch.within;
      begins = subst (λ (l : List Spot). BeginsAt l c.in_ok-from.from) same (begins_next spots c.loop-from.from c.in_ok-from.from inv.ordered.spots.rising next.stretch);
      value = λ i.
          subst (λ cells. stand cells c.fetch_stretch.new.scratch.spots.items c.fetch_stretch.new.scratch.cells.items c.in_ok-from.from) inv.reads.cells
          (next.value (inv.reads.intact i) (subst (λ cells. stand cells spots c.loop-from.scratch.cells.items c.loop-from.from) (sym inv.reads.cells) (inv.value i)));
      fetched = subst (λ (l : List Spot). (g.S.Tiles.state c.fetch_stretch.new.source).fetched ≤ (g.S.Tiles.state c.args.source.now).fetched + length (distinct (take c.in_ok-from.from (tiles_in l)))) same (omega (arith, next.fetched, inv.fetched, more));
      reads = reads_on inv.reads c.fetch_stretch.ensures.reads.only;
      failures = next.reads.tells ∙ inv.failures;
    }

pub returns-clause-value : goal.returns-clause-value
returns-clause-value g c = λ i.
    let inv = c.loop-from.invariant in
    let n = length-map c.args.frame.now (λ e. tile_number c.args.reading.now.domain.now (numbers_at e c.args.reading.now.indexes.now)) in
    all_read (tiles_of c.args.reading.now c.args.frame.now) (ranks_of c.args.reading.now c.args.frame.now) c.loop-from.scratch.spots.items c.args.frame.now [] (cell_read (g.S.Tiles.state c.args.source.now) c.args.reading.now) c.loop-from.scratch.cells.items c.loop-from.from
    inv.ordered.spots n inv.ordered.cells (omega (arith, c.loop-from-test.false, c.len.ensures)) (inv.value i)

pub order_places-requires : goal.order_places-requires
order_places-requires g c = grind (arith, common_steps)

pub returns-clause-fetched : goal.returns-clause-fetched
returns-clause-fetched g c = grind (arith, common_steps)
