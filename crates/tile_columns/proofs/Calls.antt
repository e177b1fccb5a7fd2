-- Calls one after the other.
use Rattle.std.proofs.Common.{◌∙◌, arith}
use Rattle.tile_columns.specs.Sources.{SourceState, OnlyReads}

-- two calls that only read
pub reads_on : {K : Type 0} {first middle last : SourceState K} → OnlyReads first middle → OnlyReads middle last → OnlyReads first last
reads_on a b = record {
  coverages = b.coverages ∙ a.coverages;
  cells = b.cells ∙ a.cells;
  kept = b.kept ∙ a.kept;
  rises = omega (arith, a.rises, b.rises);
  intact = λ i. b.intact (a.intact i);
}
