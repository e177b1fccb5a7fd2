-- CSV text of an answer.
use Rattle.std.specs.Prelude.{ℕ, suc, ◌/◌, ◌%◌, max, nat_eq, cond, true, false, List, [], ◌∷◌, ◌++◌, codes}
use Rattle.std.specs.Fmt.{signed_decimal}
use Rattle.arr_core.specs.declared.cell.Cell.{Cell}
use Rattle.arr_core.specs.declared.cell.Cell.TheVariants as cells
use Rattle.wcps_mean.specs.declared.item.Item.{Item}

-- an integer in decimal, or `true` or `false`
abbrev pub cell_text : Cell → List ℕ
cell_text (cells.Int z) = signed_decimal z
cell_text (cells.Bool true) = codes "true"
cell_text (cells.Bool false) = codes "false"

-- what stands after the first n cells of an item, where a point has so many fields and a line so many points: within a
-- point a space, within a line `,`, at the end of a line LF
abbrev pub separator : ℕ → ℕ → ℕ → List ℕ
separator fields line n = cond (nat_eq (n % fields) 0) (cond (nat_eq (n / fields % line) 0) (codes "\n") (codes ","))
    (codes " ")

-- the cells after the first n, each with what stands after it
abbrev pub cells_text : ℕ → ℕ → ℕ → List Cell → List ℕ
cells_text fields line n [] = []
cells_text fields line n (c ∷ cs) = cell_text c ++ separator fields line (suc n) ++ cells_text fields line (suc n) cs

-- an item; a number of fields or points is at least 1
abbrev pub item_text : Item → List ℕ
item_text i = cells_text (max i.fields 1) (max i.line 1) 0 i.cells

-- the items, an empty line between two of them
abbrev pub csv : List Item → List ℕ
csv [] = []
csv (i ∷ []) = item_text i
csv (i ∷ j ∷ items) = item_text i ++ codes "\n" ++ csv (j ∷ items)
