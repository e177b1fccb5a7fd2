use Rattle.std.proofs.Common.{take}
use Rattle.catalogue.proofs.Lists.{ReadSoFar}
use Rattle.metadata.specs.Metadata.{indexes_bytes, indexes_of}
use Rattle.metadata.specs.Parts.{AreCountedIn}
use Rattle.metadata.proofs.reading.read_indexes.Given as goal

abbrev pub invariant-loop-place : goal.invariant-loop-place
invariant-loop-place l =
    ReadSoFar (AreCountedIn l.version l.catalogue) indexes_bytes l.initial.bytes (indexes_of l.indexes.items) l.bytes l.place
    × AreCountedIn l.version (take l.place l.catalogue) (indexes_of l.indexes.items)
