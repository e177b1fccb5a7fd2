use Rattle.std.proofs.Common.{All}
use Rattle.catalogue.specs.Reading.{AreMany}
use Rattle.catalogue.proofs.Lists.{ReadSoFar}
use Rattle.metadata.specs.Parts.{index_part_bytes, IsIndexIn}
use Rattle.metadata.proofs.reading.read_fields.Given as goal

abbrev pub invariant-loop : goal.invariant-loop
invariant-loop l =
    ReadSoFar (AreMany (IsIndexIn l.version) l.count) index_part_bytes l.initial.bytes l.indexes.items l.bytes l.counter × All (IsIndexIn l.version) l.indexes.items
