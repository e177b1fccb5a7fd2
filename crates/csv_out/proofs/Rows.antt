-- Worked texts, computed.
use Rattle.std.proofs.Common.{◌≡◌, [], ◌∷◌, refl, true, false}
use Rattle.std.specs.Prelude.{pos, negsuc, codes}
use Rattle.arr_core.specs.declared.cell.Cell.TheVariants.{Int, Bool}
use Rattle.std.specs.Fmt.{digits}
use Rattle.csv_out.specs.Csv.{csv}

no_items : csv [] ≡ []
no_items = refl

scalar : csv (record { line = 1; fields = 1; cells = Int (pos 7) ∷ [] } ∷ []) ≡ codes "7\n"
unfolding digits
scalar = refl

least_integer : csv (record { line = 1; fields = 1; cells = Int (negsuc 9223372036854775807) ∷ [] } ∷ []) ≡ codes "-9223372036854775808\n"
unfolding digits
least_integer = refl

two_lines : csv (record { line = 3; fields = 1; cells = Int (pos 0) ∷ Int (pos 1) ∷ Int (pos 2) ∷ Int (pos 10) ∷ Int (pos 11) ∷ Int (pos 12) ∷ [] } ∷ []) ≡ codes "0,1,2\n10,11,12\n"
unfolding digits
two_lines = refl

two_fields : csv (record { line = 2; fields = 2; cells = Int (pos 7) ∷ Bool false ∷ Int (pos 7) ∷ Bool true ∷ [] } ∷ []) ≡ codes "7 false,7 true\n"
unfolding digits
two_fields = refl

two_items : csv (record { line = 1; fields = 1; cells = Int (pos 1) ∷ [] } ∷ record { line = 1; fields = 1; cells = Int (pos 2) ∷ [] } ∷ []) ≡ codes "1\n\n2\n"
unfolding digits
two_items = refl
