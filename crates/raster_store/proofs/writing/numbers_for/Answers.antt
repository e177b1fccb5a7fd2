-- Cells that the field may have are stored as their numbers, each alone or one for all.
use Rattle.std.proofs.Common.{rules, w64, SFits, ◌≡◌, length, All, sym}
use Rattle.std.proofs.lemmas.Int.{to_z-of_z}
use Rattle.std.proofs.lemmas.List.{length-replicate}
use Rattle.std.proofs.lemmas.List.Elements.{All-replicate}
use Rattle.arr_core.specs.Cells.{Holds, stored}
use Rattle.arr_core.specs.Domains.{count, IsBoxOf}
use Rattle.tile_store.specs.declared.numbers.Numbers.TheVariants as numbers
use Rattle.raster_store.proofs.Cells.{stored_same, stored_for, refused_same, fits_stored, fits_each}
use Rattle.raster_store.proofs.writing.numbers_for.Goals as goal

pub returns-then-not-holds-clause-refused : goal.returns-then-not-holds-clause-refused
returns-then-not-holds-clause-refused c =
    let n = count c.args.area.now in
    let box : IsBoxOf c.args.signature.now.domain c.args.area.now = search rules in
    let unfit : Holds c.kind_of-kind.result c.in-Same.cell → ⊥ = search rules in
    rw c.in-Same.is (box, length-replicate n c.in-Same.cell, refused_same _ _ c.args.area.now c.in-Same.cell c.kind_of-kind.ensures unfit)

pub returns-in_ok-stored_cells-in-Each-clause-stored : goal.returns-in_ok-stored_cells-in-Each-clause-stored
returns-in_ok-stored_cells-in-Each-clause-stored c =
    let kind = c.kind_of-kind.result in
    let cells = c.in-Each.list.now in
    let box : IsBoxOf c.args.signature.now.domain c.args.area.now = search rules in
    let long : length cells ≡ count c.args.area.now = search rules in
    let all : All (Holds kind) cells = search rules in
    let same = c.in_ok-stored_cells-in-Each.ensures in
    rw c.in-Each.is (stored_for c.args.signature.now c.args.field c.args.area.now kind cells (numbers.Each c.in_ok-stored_cells-in-Each.field-0)
    c.kind_of-kind.ensures box long all (fits_each kind c.args.area.now cells _ same long all) same)

pub returns-else-not-holds-clause-stored : goal.returns-else-not-holds-clause-stored
returns-else-not-holds-clause-stored c =
    let kind = c.kind_of-kind.result in
    let x = c.in-Same.cell in
    let n = count c.args.area.now in
    let box : IsBoxOf c.args.signature.now.domain c.args.area.now = search rules in
    let holds : Holds kind x = search rules in
    let fits : SFits w64 c.stored.result = search rules in
    rw (c.in-Same.is, to_z-of_z w64 c.stored.result fits, c.stored.ensures)
    (stored_for c.args.signature.now c.args.field c.args.area.now kind _ (numbers.Same (stored x)) c.kind_of-kind.ensures box (length-replicate n x)
    (All-replicate (Holds kind) n x holds) (fits_stored kind x holds) (sym (stored_same n x)))
