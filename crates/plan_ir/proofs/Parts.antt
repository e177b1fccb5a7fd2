-- What a plan gives, by what its parts give.
use Rattle.std.proofs.Common.{◌≡◌, ℕ, zero, suc, ◌<◌, ℤ, List, [], ◌∷◌, map, length, refl, ap, ◌∙◌, arith, Bool, true, false, cond, Result, Ok, Err}
use Rattle.std.specs.Prelude.{slice_get, option_map}
use Rattle.arr_core.specs.declared.cell.Cell.{Cell}
use Rattle.wcps_mean.specs.declared.cell.PointFault.{PointFault}
use Rattle.wcps_mean.specs.declared.cell.Outcome.{Outcome}
use Rattle.wcps_mean.specs.declared.item.Item.{Item}
use Rattle.wcps_mean.specs.Answer.{then_of, line_of, field_count}
use Rattle.plan_ir.specs.declared.plan.Steps.{Steps}
use Rattle.plan_ir.specs.declared.plan.Combination.{Combination}
use Rattle.plan_ir.specs.Plans.{BindTree, FieldBody, ItemTree, StepsTree, Choice, steps_view, choice_view}
use Rattle.plan_ir.specs.Placed.{AreDemanded}
use Rattle.plan_ir.specs.Planned.{item_cells, item_planned, chosen, given_out, choice_planned}

pub slice_get-map : {X Y : Type 0} (f : X → Y) (xs : List X) (k : ℕ) → slice_get (map f xs) k ≡ option_map f (slice_get xs k)
slice_get-map f [] k = refl
slice_get-map f (x ∷ xs) zero = refl
slice_get-map f (x ∷ xs) (suc k) = slice_get-map f xs k

-- each combination with the steps that it has
pub each-choice : (s : ℕ → ℕ → List ℤ → ℤ) (steps : List Steps) (all : List Combination) → map (λ (c : Choice). choice_planned s c.coverages (slice_get (map steps_view steps) c.steps)) (map choice_view all) ≡ map (λ (c : Combination). choice_planned s c.coverages.items (option_map steps_view (slice_get steps c.steps))) all
each-choice s steps [] = refl
each-choice s steps (c ∷ all) =
    ap (λ o. choice_planned s c.coverages.items o ∷ map (λ (c : Choice). choice_planned s c.coverages (slice_get (map steps_view steps) c.steps)) (map choice_view all)) (slice_get-map steps_view steps c.steps)
    ∙ ap (λ l. choice_planned s c.coverages.items (option_map steps_view (slice_get steps c.steps)) ∷ l) (each-choice s steps all)

pub item-err : (s : ℕ → ℕ → List ℤ → ℤ) (regs : List Outcome) (i : ItemTree) (f : PointFault) → item_cells s regs i ≡ Err f → item_planned s regs i ≡ Err f
item-err s regs i f h = ap (λ (r : Result (List Cell) PointFault). then_of r (λ cells. Ok (record { line = line_of i.domain; fields = field_count (length i.fields); cells = cells }))) h

abbrev from_item : Result Item PointFault → Result (List Item) PointFault
from_item r = then_of r (λ i. Ok (i ∷ []))

abbrev from_choice : Result Item PointFault → Result Bool PointFault → Result (List Item) PointFault
from_choice q r = then_of r (λ b. cond b (from_item q) (Ok []))

pub chosen-err : (s : ℕ → ℕ → List ℤ → ℤ) (regs : List Outcome) (t : StepsTree) (f : PointFault) → chosen s regs t.condition ≡ Err f → given_out s regs t ≡ Err f
chosen-err s regs t f h = ap (from_choice (item_planned s regs t.item)) h

pub chosen-false : (s : ℕ → ℕ → List ℤ → ℤ) (regs : List Outcome) (t : StepsTree) → chosen s regs t.condition ≡ Ok false → given_out s regs t ≡ Ok []
chosen-false s regs t h = ap (from_choice (item_planned s regs t.item)) h

pub chosen-item : (s : ℕ → ℕ → List ℤ → ℤ) (regs : List Outcome) (t : StepsTree) (i : Item) → chosen s regs t.condition ≡ Ok true → item_planned s regs t.item ≡ Ok i → given_out s regs t ≡ Ok (i ∷ [])
chosen-item s regs t i h e = ap (from_choice (item_planned s regs t.item)) h ∙ ap from_item e

pub chosen-item-err : (s : ℕ → ℕ → List ℤ → ℤ) (regs : List Outcome) (t : StepsTree) (f : PointFault) → chosen s regs t.condition ≡ Ok true → item_planned s regs t.item ≡ Err f → given_out s regs t ≡ Err f
chosen-item-err s regs t f h e = ap (from_choice (item_planned s regs t.item)) h ∙ ap from_item e

-- what a field demands may have binds
pub some-demanded : (binds : List BindTree) (fields : List FieldBody) → 0 < length fields → AreDemanded binds fields
some-demanded binds [] lt = absurd (omega (arith, lt))
some-demanded binds (f ∷ fields) lt = tt
