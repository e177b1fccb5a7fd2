-- Work and cells of trees over coverages.
use Rattle.std.proofs.Common.{◌≡◌, ℕ, ◌+◌, ◌*◌, List, [], ◌∷◌, zero, suc, refl, ap, sym, ◌∙◌, map}
use Rattle.std.specs.Prelude.{Option, Some, None, option_map, slice_get}
use Rattle.std.proofs.lemmas.List.{length-map}
use Rattle.arr_core.specs.Domains.{count}
use Rattle.wcps_types.specs.Typed as typed
use Rattle.wcps_types.specs.Typed.{Typed, FieldTree, CombinationTree}
use Rattle.wcps_types.specs.declared.typed_query.Maker.{Maker}
use Rattle.wcps_types.specs.Renamed.{renamed, renamed_field, renamed_combination, over}
use Rattle.wcps_types.specs.Sharing.{AreCounted}
use Rattle.wcps_types.specs.Work.{work_of, fields_work, condition_work, query_work, capped}
use Rattle.wcps_types.specs.Cells.{result_cells, capped_cells}

-- over coverages as over variables
work-renamed : (cs : List ℕ) (t : Typed) → work_of (renamed cs t) ≡ work_of t
work-renamed cs (typed.number z) = refl
work-renamed cs (typed.iterator k) = refl
work-renamed cs (typed.cell c f) = refl
work-renamed cs (typed.unary op e) = ap (λ n. 1 + n) (work-renamed cs e)
work-renamed cs (typed.binary op l r) = rw (work-renamed cs l, work-renamed cs r) refl
work-renamed cs (typed.scalar e) = work-renamed cs e
work-renamed cs (typed.select e) = ap (λ n. 1 + n) (work-renamed cs e)
work-renamed cs (typed.bracket e) = ap (λ n. 1 + n) (work-renamed cs e)
work-renamed cs (typed.slice e axis lo hi position) = rw (work-renamed cs e, work-renamed cs position) refl
work-renamed cs (typed.array e) = ap (λ n. 1 + n) (work-renamed cs e)
work-renamed cs (typed.listed box items) = refl
work-renamed cs (typed.condense op box e) = ap (λ n. 1 + count box * n) (work-renamed cs e)
work-renamed cs (typed.condense_where op box c e) = rw (work-renamed cs c, work-renamed cs e) refl
work-renamed cs (typed.reduce op box e) = ap (λ n. 1 + count box * n) (work-renamed cs e)

fields-renamed : (cs : List ℕ) (fields : List FieldTree) → fields_work (map (renamed_field cs) fields) ≡ fields_work fields
fields-renamed cs [] = refl
fields-renamed cs (f ∷ fields) = rw (work-renamed cs f.tree, fields-renamed cs fields) refl

where-renamed : (cs : List ℕ) (c : Option Typed) → condition_work (option_map (renamed cs) c) ≡ condition_work c
where-renamed cs None = refl
where-renamed cs (Some c) = work-renamed cs c

pub work_over : (cs : List ℕ) (t : CombinationTree) → query_work (renamed_combination cs t ∷ []) ≡ query_work (t ∷ [])
work_over cs t = rw (where-renamed cs t.condition, fields-renamed cs t.item.fields) refl

pub cells_over : (cs : List ℕ) (t : CombinationTree) → result_cells (renamed_combination cs t ∷ []) ≡ result_cells (t ∷ [])
cells_over cs t = ap (λ n. count t.item.domain * n + 0) (length-map t.item.fields (renamed_field cs))

-- what a maker tells is so of each combination that has its tree
abbrev pub work_told : Option Maker → ℕ
work_told None = 1
work_told (Some m) = m.work

abbrev pub cells_told : Option Maker → ℕ
cells_told None = 0
cells_told (Some m) = m.cells

pub told_work : (trees : List CombinationTree) (makers : List Maker) (places : List ℕ) (k : ℕ) → AreCounted trees makers → work_told (slice_get makers k) ≡ capped (query_work (over places (slice_get trees k) ∷ []))
told_work [] [] places k h = refl
told_work [] (m ∷ makers) places k h = absurd h
told_work (t ∷ trees) [] places k h = absurd h
told_work (t ∷ trees) (m ∷ makers) places zero h = ap (λ (c : Maker). c.work) h.0 ∙ ap capped (sym (work_over places t))
told_work (t ∷ trees) (m ∷ makers) places (suc k) h = told_work trees makers places k h.1

pub told_cells : (trees : List CombinationTree) (makers : List Maker) (places : List ℕ) (k : ℕ) → AreCounted trees makers → cells_told (slice_get makers k) ≡ capped_cells (result_cells (over places (slice_get trees k) ∷ []))
told_cells [] [] places k h = refl
told_cells [] (m ∷ makers) places k h = absurd h
told_cells (t ∷ trees) [] places k h = absurd h
told_cells (t ∷ trees) (m ∷ makers) places zero h = ap (λ (c : Maker). c.cells) h.0 ∙ ap capped_cells (sym (cells_over places t))
told_cells (t ∷ trees) (m ∷ makers) places (suc k) h = told_cells trees makers places k h.1
