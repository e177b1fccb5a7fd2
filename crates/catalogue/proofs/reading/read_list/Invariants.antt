use Rattle.std.proofs.Common.{All}
use Rattle.catalogue.specs.Reading.{AreMany}
use Rattle.catalogue.proofs.Lists.{ReadSoFar}
use Rattle.catalogue.proofs.reading.read_list.Given as goal

abbrev pub invariant-loop : goal.invariant-loop
invariant-loop g l =
    ReadSoFar (AreMany g.T.Readable.is_value l.count) g.T.Readable.code l.initial.bytes l.list.items l.bytes l.counter
    × All g.T.Readable.is_value l.list.items
