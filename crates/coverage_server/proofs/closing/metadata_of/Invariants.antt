use Rattle.std.proofs.Common.{◌≡◌, ◌++◌, take}
use Rattle.std.specs.List.{flat_map}
use Rattle.catalogue.specs.Bytes.{catalogue_bytes}
use Rattle.metadata.specs.Metadata.{part_bytes, indexes_bytes}
use Rattle.coverage_server.specs.Views.{signatures_of}
use Rattle.coverage_server.proofs.closing.metadata_of.Given as goal

abbrev pub invariant-loop-place : goal.invariant-loop-place
invariant-loop-place g l =
    l.bytes.items ≡ part_bytes (catalogue_bytes (signatures_of l.coverages.store)) ++ flat_map indexes_bytes (take l.place l.coverages.indexes)
