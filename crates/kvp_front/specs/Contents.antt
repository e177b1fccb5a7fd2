-- The cells that an update writes.
use Rattle.std.specs.Prelude.{ℕ, List, [], ◌∷◌, Result, Ok, Err, codes}
use Rattle.arr_core.specs.declared.cell.Cell.{Cell}
use Rattle.kvp_front.specs.Values.{and_then, values_of}
use Rattle.kvp_front.specs.Spelling.{cell_in, list_in}
use Rattle.kvp_front.specs.declared.request.RequestError.{RequestError}
use Rattle.kvp_front.specs.declared.request.RequestError.TheVariants.{MissingKey, RepeatedKey, BadValue}
use Rattle.kvp_front.specs.declared.content.Content.{Content}
use Rattle.kvp_front.specs.declared.content.Content.TheVariants as Written

-- one cell everywhere, or a cell for each point in row-major order
pub data Cells : Type 0 where
  fill : Cell → Cells
  values : List Cell → Cells

abbrev pub content_view : Content → Cells
content_view (Written.Fill cell) = fill cell
content_view (Written.Values cells) = values cells.items

-- From the values under `fill` and those under `values`: first neither may be given twice, then one has to be there,
-- then not both, and then the spelling counts.
abbrev pub content_of : List (List ℕ) → List (List ℕ) → Result Cells RequestError
content_of [] [] = Err MissingKey
content_of [] (text ∷ []) = and_then (λ cells. Ok (values cells)) (list_in cell_in text)
content_of [] (text ∷ second ∷ more) = Err RepeatedKey
content_of (text ∷ []) [] = and_then (λ cell. Ok (fill cell)) (cell_in text)
content_of (text ∷ []) (other ∷ []) = Err BadValue
content_of (text ∷ []) (other ∷ second ∷ more) = Err RepeatedKey
content_of (text ∷ second ∷ more) others = Err RepeatedKey

-- the content that pairs spell under both keys
abbrev pub content_under : List (List ℕ × List ℕ) → Result Cells RequestError
content_under pairs = content_of (values_of (codes "fill") pairs) (values_of (codes "values") pairs)
