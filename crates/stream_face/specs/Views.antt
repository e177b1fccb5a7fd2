-- What a reader and a writer tell of themselves at a moment.
use Rattle.std.specs.Prelude.{ℕ, Bool, List, Option}

-- the bytes that are still to come, and how many reads have failed so far, where the reader tells them
pub record SourceView : Type 0 where
  pub remaining : Option (List ℕ)
  pub failures : Option ℕ

-- The bytes that have come so far; how many writes have failed or took none of some bytes, and flushes have failed; and
-- whether bytes that were taken wait for a flush: where the writer tells them.
pub record SinkView : Type 0 where
  pub contents : Option (List ℕ)
  pub failures : Option ℕ
  pub waiting : Option Bool
