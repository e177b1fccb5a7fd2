-- One field of values.
use Rattle.std.proofs.Common.{◌≡◌, ◌∙◌, ◌∷◌, [], ◌≤◌, ◌<◌, List, Bool, ℕ, ℤ, ap, ap₂, sym, subst, arith, refl, length, map, false, get_or}
use Rattle.wcps_mean.specs.declared.cell.Outcome.{Outcome}
use Rattle.wcps_mean.specs.declared.cell.Outcome.TheVariants.{Value}
use Rattle.tile_exec.specs.Items.{AreWrittenTo}
use Rattle.tile_exec.specs.Rows.{LieBelow, all_cells_told, values_told}
use Rattle.tile_exec.proofs.row.write_points.Goals as goal

single : {X : Type 0} (xs : List X) (d : X) → 1 ≤ length xs → length xs < 2 → xs ≡ get_or xs 0 d ∷ []
single [] d some few = absurd (omega arith)
single (x ∷ []) d some few = refl
single (x ∷ y ∷ xs) d some few = absurd (omega arith)

-- the cells of all points are those of one column of values
of_values : (ranks : List ℕ) (booleans : List Bool) (columns : List (List Outcome)) (column : List Outcome) (values : List ℤ) → booleans ≡ get_or booleans 0 false ∷ [] → columns ≡ get_or columns 0 column ∷ []
    → column ≡ get_or columns 0 column → column ≡ map Value values → all_cells_told ranks booleans columns ≡ values_told ranks (get_or booleans 0 false) values
of_values ranks booleans columns column values one own is known =
    ap₂ (all_cells_told ranks) one (own ∙ ap (λ (c : List Outcome). c ∷ []) (sym is ∙ known))

pub write_values-requires-clause-below : goal.write_values-requires-clause-below
write_values-requires-clause-below c =
    let one = single c.args.booleans.now false (omega (arith, c.in-len1.len_at_least)) (omega (arith, c.in-len1.len_below)) in
    let own = single c.args.columns.now c.column-item.result (omega (arith, c.in-len1-columns.len_at_least)) (omega (arith, c.in-len1-columns.len_below)) in
    subst (LieBelow (length c.args.cells.now.items))
    (of_values c.args.ranks.now c.args.booleans.now c.args.columns.now c.column-item.result c.in-Some.values.now one own c.column-item.is c.in-Some.ensures) c.requires.below

pub returns-in-Some-clause-written : goal.returns-in-Some-clause-written
returns-in-Some-clause-written c =
    let one = single c.args.booleans.now false (omega (arith, c.in-len1.len_at_least)) (omega (arith, c.in-len1.len_below)) in
    let own = single c.args.columns.now c.column-item.result (omega (arith, c.in-len1-columns.len_at_least)) (omega (arith, c.in-len1-columns.len_below)) in
    subst (AreWrittenTo c.args.cells.now.items c.write_values.new.cells.items)
    (sym (of_values c.args.ranks.now c.args.booleans.now c.args.columns.now c.column-item.result c.in-Some.values.now one own c.column-item.is c.in-Some.ensures)) c.write_values.ensures.written
