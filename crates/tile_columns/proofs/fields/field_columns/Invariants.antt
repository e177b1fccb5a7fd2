use Rattle.std.proofs.Common.{◌≡◌, ◌≤◌, ◌+◌, ℕ, ℤ, List, [], length, take, map}
use Rattle.std.specs.Prelude.{sum_by}
use Rattle.std.specs.List.{All}
use Rattle.plan_ir.specs.Plans.{signature_of, field_view}
use Rattle.plan_ir.specs.Planned.{cells_of}
use Rattle.tile_columns.specs.Sources.{OnlyReads}
use Rattle.tile_columns.specs.Evaluating.{fetches}
use Rattle.tile_columns.specs.Fields.{HavePlaces, columns_behind, bodies_behind}
use Rattle.tile_columns.proofs.fields.field_columns.Given as goal

abbrev pub invariant-loop-field : goal.invariant-loop-field
invariant-loop-field g l = record {
  value : (g.S.Tiles.state l.fn.source).intact → l.columns.items ≡ columns_behind (cells_of (g.S.Tiles.state l.fn.source).cells l.ground.coverages.now) l.ground.registers.now [] (map field_view (take l.field-index l.fields)) l.fn.frame;
  fields : length l.columns.items ≡ l.field-index;
  places : HavePlaces (length l.fn.frame) l.columns.items;
  frame : l.frame ≡ l.fn.frame;
  fetched : (n : ℕ) → All (λ (e : List ℤ). n ≤ length e) l.fn.frame → (g.S.Tiles.state l.source).fetched ≤ (g.S.Tiles.state l.fn.source).fetched + sum_by (fetches (signature_of (g.S.Tiles.state l.fn.source).coverages l.ground.coverages.now) n l.fn.frame) (bodies_behind [] (map field_view (take l.field-index l.fields)));
  reads : OnlyReads (g.S.Tiles.state l.fn.source) (g.S.Tiles.state l.source);
  failures : (g.S.Tiles.state l.source).failures ≡ (g.S.Tiles.state l.fn.source).failures;
}
