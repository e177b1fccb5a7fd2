-- That the query of a template means Tomlin's operation.
use Rattle.std.specs.Prelude.{◌≡◌, ◌≤◌, ℤ, negsuc, pos, ◌≤ℤ◌, List, Result, IfOk, Ok}
use Rattle.arr_core.specs.declared.domain.Axis.{Axis}
use Rattle.arr_core.specs.declared.signature.Signature.{Signature}
use Rattle.arr_core.specs.Domains.{AreOrdered}
use Rattle.arr_core.specs.Limits.{max_bound}
use Rattle.wcps_types.specs.Typed.{Typed}
use Rattle.wcps_mean.specs.declared.cell.Outcome.TheVariants.{Value}
use Rattle.wcps_mean.specs.Meaning.{val}
use Rattle.wcps_mean.specs.Reading.{CellsOf}
use Rattle.wcps_mean.specs.Answer.{answer}
use Rattle.map_templates.specs.Tomlin.{Raster}
use Rattle.map_templates.specs.Refusals.{Answer}
use Rattle.map_templates.specs.Expansion.{Operation, local_on, focal_on, zonal_on, max_radius}
use Rattle.map_templates.specs.Meaning.{Cells, AreIntegers, array_of}
use Rattle.map_templates.specs.TypedTrees.{single, tree_of, domain_of}

-- a tree that gives the values of a raster at each point
abbrev pub Reads : CellsOf → Typed → Raster → Type 0
Reads s t a = (env p : List ℤ) → val s t env p ≡ Value (a p)

-- two trees that give the values of the layers of an operation
abbrev pub ReadsLayers : CellsOf → Cells → Operation → Typed → Typed → Type 0
ReadsLayers s cells (local_on op first f second g axes) a b =
    Reads s a (cells first.coverage f) × Reads s b (cells second.coverage g)
ReadsLayers s cells (focal_on op layer f x y radius) a b = Reads s a (cells layer.coverage f)
ReadsLayers s cells (zonal_on op layer f zones g axes) a b =
    Reads s a (cells layer.coverage f) × Reads s b (cells zones.coverage g)

-- bounds of 32 bits
abbrev pub IsSmall : Axis → Type 0
IsSmall a = (negsuc max_bound ≤ℤ a.lo) × (a.hi ≤ℤ pos max_bound)

-- a radius of no more than is allowed, and bounds of 32 bits
abbrev pub IsBounded : Operation → Type 0
IsBounded (local_on op first f second g axes) = Unit {0}
IsBounded (focal_on op layer f x y radius) = (radius ≤ max_radius) × IsSmall x × IsSmall y
IsBounded (zonal_on op layer f zones g axes) = Unit {0}

-- over whatever cells, the answer of its typed tree is the array that Tomlin's operation gives, or Overflow where a
-- value of that leaves 64 bits somewhere
abbrev pub IsTomlins : Operation → Type 0
IsTomlins o =
    (s : CellsOf) (cells : Cells) (coverages : List Signature) (a b : Typed) → AreIntegers cells
    → ReadsLayers s cells o a b → IsBounded o → AreOrdered (domain_of o)
    → answer s (single coverages (domain_of o) (tree_of o a b)) ≡ array_of cells o

-- where a call gave something, the operation that is asked for is Tomlin's
abbrev pub AsksTomlins : {A E : Type 0} → Answer Operation → Result A E → Type 0
AsksTomlins a result = IfOk result (λ text. (o : Operation) → a ≡ Ok o → IsTomlins o)
