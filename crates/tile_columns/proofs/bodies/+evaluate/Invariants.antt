use Rattle.std.proofs.Common.{◌≡◌, ℕ, ◌<◌, ◌≤◌, ◌+◌, ◌*◌, length, take, get_or, []}
use Rattle.arr_core.specs.Domains.{points, count}
use Rattle.tile_kernel.specs.declared.accumulator.Accumulator.{Accumulator}
use Rattle.tile_kernel.specs.Standing.{AreOf, TakesIn, EachTakesIn}
use Rattle.tile_columns.specs.Sources.{OnlyReads}
use Rattle.tile_columns.specs.TileOrder.{points_to}
use Rattle.tile_columns.specs.Folds.{AreOfFold, AreKeysOf, listed, added_by, FetchesPoints, FetchesOwn}
use Rattle.tile_columns.proofs.bodies.+evaluate.Given as goal

abbrev pub invariant-tell_points-loop-place : goal.invariant-tell_points-loop-place
invariant-tell_points-loop-place g l = record {
  told : (g.S.Tiles.state l.fn.source).intact → EachTakesIn l.fn.folds l.folds (λ k. listed (g.S.Tiles.state l.fn.source) l.ground l.fold (take l.place (points l.fold.domain)) (get_or l.fn.frame k []));
  folds : AreOfFold l.fold l.fn.frame l.place l.folds;
  frame : l.frame ≡ l.fn.frame;
  fetched : FetchesPoints l.fold (length l.fn.frame * l.place) g.S.Tiles l.fn.source l.source;
  reads : OnlyReads (g.S.Tiles.state l.fn.source) (g.S.Tiles.state l.source);
  failures : (g.S.Tiles.state l.source).failures ≡ (g.S.Tiles.state l.fn.source).failures;
}

abbrev pub invariant-tell_tiles-loop-tile : goal.invariant-tell_tiles-loop-tile
invariant-tell_tiles-loop-tile g l = record {
  told : (g.S.Tiles.state l.fn.source).intact → EachTakesIn l.fn.folds l.folds (λ k. added_by (g.S.Tiles.state l.fn.source) l.ground l.fold (points_to l.fold.domain l.tile) (get_or l.frame k []));
  folds : AreOfFold l.fold l.frame (length (points_to l.fold.domain l.tile)) l.folds;
  fetched : FetchesPoints l.fold (length l.frame * length (points_to l.fold.domain l.tile)) g.S.Tiles l.fn.source l.source;
  reads : OnlyReads (g.S.Tiles.state l.fn.source) (g.S.Tiles.state l.source);
  failures : (g.S.Tiles.state l.source).failures ≡ (g.S.Tiles.state l.fn.source).failures;
}

abbrev pub invariant-tell_part-loop-place : goal.invariant-tell_part-loop-place
invariant-tell_part-loop-place g l = record {
  told : (g.S.Tiles.state l.fn.source).intact → (k : ℕ) (d : Accumulator) → k < l.place → TakesIn (get_or l.fn.folds k d) (get_or l.folds k d) (added_by (g.S.Tiles.state l.fn.source) l.around.ground.now l.fold (points l.part.area) (get_or l.around.frame.now k []));
  counted : (k : ℕ) (d : Accumulator) → k < l.place → (get_or l.folds k d).running.count ≤ (get_or l.fn.folds k d).running.count + length (points l.part.area);
  rest : (k : ℕ) (d : Accumulator) → l.place ≤ k → get_or l.folds k d ≡ get_or l.fn.folds k d;
  op : AreOf l.fold.op l.folds;
  fetched : FetchesPoints l.fold (count l.part.area * l.place) g.S.Tiles l.fn.source l.source;
  reads : OnlyReads (g.S.Tiles.state l.fn.source) (g.S.Tiles.state l.source);
  failures : (g.S.Tiles.state l.source).failures ≡ (g.S.Tiles.state l.fn.source).failures;
}

abbrev pub invariant-tell_zone_tiles-loop-number : goal.invariant-tell_zone_tiles-loop-number
invariant-tell_zone_tiles-loop-number g l = record {
  told : AreKeysOf (g.S.Tiles.state l.fn.source) l.zoned l.fold → (g.S.Tiles.state l.fn.source).intact → EachTakesIn l.fn.folds l.folds (λ k. added_by (g.S.Tiles.state l.fn.source) l.zoned.zoning.ground.now l.fold (points_to l.fold.domain l.number) (get_or l.zoned.frame.now k []));
  folds : AreOfFold l.fold l.zoned.frame.now (length (points_to l.fold.domain l.number)) l.folds;
  fetched : FetchesOwn l.zoned l.fold (length (points_to l.fold.domain l.number)) g.S.Tiles l.fn.source l.source;
  reads : OnlyReads (g.S.Tiles.state l.fn.source) (g.S.Tiles.state l.source);
  failures : (g.S.Tiles.state l.source).failures ≡ (g.S.Tiles.state l.fn.source).failures;
}
