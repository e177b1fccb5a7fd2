-- Items of lists that have one for each point of a domain, in row-major order.
use Rattle.std.specs.Prelude.{ℤ, pos, List, slice_index_or}
use Rattle.arr_core.specs.declared.domain.Axis.{Axis}
use Rattle.arr_core.specs.Domains.{rank_of}
use Rattle.plan_ir.specs.declared.body.Index.{Index}
use Rattle.plan_ir.specs.Run.{numbers_at}
use Rattle.tile_columns.specs.declared.lookup.Table.{Table}

-- the item at the point that the indexes give under variables
abbrev pub item_at : List Axis → List ℤ → List Index → List ℤ → ℤ
item_at domain items is e = slice_index_or items (rank_of domain (numbers_at e is)) (pos 0)

-- the same of a table
abbrev pub item_of : Table → List ℤ → ℤ
item_of t = item_at t.domain.now t.items.now t.indexes.now
