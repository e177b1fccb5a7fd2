-- What is said of a context: of its coverages, the variables of its `for` list, and its iterators, outermost first.
use Rattle.std.specs.Prelude.{ℕ, List, ◌++◌, Result}
use Rattle.wcps_text.specs.Tree.{Tree, PlaceTree}
use Rattle.wcps_types.specs.declared.context.Context.{Context}
use Rattle.wcps_types.specs.declared.boxes.Opened.{Opened}
use Rattle.wcps_types.specs.declared.refusal.CheckError.{CheckError}
use Rattle.wcps_types.specs.declared.shape.Shape.{Shape}
use Rattle.wcps_types.specs.Frames.{names_in}
use Rattle.wcps_types.specs.Variables.{signatures_in}
use Rattle.wcps_types.specs.Shapes.{Answer, Says, then_of, shape_view}
use Rattle.wcps_types.specs.Brackets.{BracketTree, place_to_cut}
use Rattle.wcps_types.specs.Typing.{Check, typ, typ_place}

-- a check in a context
abbrev pub under : {A : Type 0} → Check A → Context → A
under check c = check (signatures_in c.coverages.now) c.bound.now.list.items (names_in c.scope.now.frames)

-- the same in the scope of further iterators
abbrev pub inside : {A : Type 0} → Check A → Context → Opened → A
inside check c over = check (signatures_in c.coverages.now) c.bound.now.list.items
    (names_in c.scope.now.frames ++ over.variables.items)

-- the expression has the shape that a call gave, or its first refusal
abbrev pub TypesTo : Context → Tree → Result Shape CheckError → Type 0
TypesTo c e result = Says shape_view result (under typ c e)

-- a bracket with one axis more: first whether it is there and was not named before
abbrev pub cut_in : Context → List ℕ → BracketTree → PlaceTree → Answer BracketTree
cut_in c x b p = then_of (place_to_cut x b) (λ (k : ℕ). under typ_place c k x b p)
