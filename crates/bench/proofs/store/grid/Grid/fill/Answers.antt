-- The only coverage of the store has a field, and so its first one may be filled.
use Rattle.std.proofs.Common.{◌<◌, length}
use Rattle.arr_core.specs.declared.signature.Signature.{Signature}
use Rattle.bench.proofs.Alone.{alone}
use Rattle.bench.proofs.store.grid.Grid.fill.Goals as goal

pub fill_box-requires : goal.fill_box-requires
fill_box-requires g c = record { field = alone c.self.inside.signature c.self.inside.store.coverages (λ (s : Signature). 0 < length s.fields) c.self.invariant.0 c.self.invariant.1 }
