use Rattle.std.proofs.Common.{◌≡◌, ◌++◌, []}
use Rattle.metadata.specs.Metadata.{indexes_of}
use Rattle.coverage_server.proofs.OpeningLemmas.{IsAttached}
use Rattle.coverage_server.proofs.opening.attach_all.Given as goal

abbrev pub invariant-loop-fields : goal.invariant-loop-fields
invariant-loop-fields g l =
    IsAttached (g.B.Blocks.state l.fn.cells.blocks).content l.catalogue (indexes_of l.yielded) l.cells.coverages l.cells.indexes l.place × (l.cells.blocks ≡ l.fn.cells.blocks)
    × (l.fn.indexes.items ≡ l.yielded ++ l.fields-iterator.rest.items) × (l.cells.snapshots ≡ []) × (l.cells.fetched ≡ l.fn.cells.fetched)
