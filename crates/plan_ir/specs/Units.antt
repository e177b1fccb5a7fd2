-- The units of a plan: its boxes in the order in which they are done, how many points they have, and how many tiles the
-- evaluation of one may fetch.
use Rattle.std.specs.Prelude.{ℕ, ◌+◌, ◌*◌, nat_lt, nat_eq, cond, Bool, true, List, [], ◌∷◌, ◌++◌, map, length, slice_get, Option, Some, None, sum_by}
use Rattle.std.specs.List.{flat_map, list_any, list_all}
use Rattle.arr_core.specs.declared.domain.Axis.{Axis}
use Rattle.arr_core.specs.declared.signature.Signature.{Signature}
use Rattle.arr_core.specs.Domains.{points, count}
use Rattle.arr_core.specs.Tiles.{tile_boxes}
use Rattle.arr_core.specs.Meeting.{tile_number}
use Rattle.plan_ir.specs.declared.body.Index.{Index}
use Rattle.plan_ir.specs.declared.body.Index.TheVariants.{Const, Var}
use Rattle.plan_ir.specs.Bodies.{Tree, lit, var, reg, op1, op2, read, table, bind, fold}
use Rattle.plan_ir.specs.Run.{numbers_at}
use Rattle.plan_ir.specs.Plans.{PassTree, BindTree, FieldBody, ItemTree, StepsTree, Choice, PlanTree, signature_of}

-- one of a condition, if there is one
abbrev pub condition_units : Option Tree → ℕ
condition_units None = 0
condition_units (Some c) = 1

-- the points of an item; one without fields has nothing to evaluate, and is given in one unit
abbrev pub item_units : List Axis → List FieldBody → ℕ
item_units box [] = 1
item_units box (f ∷ fields) = count box

-- of a combination: the points of its passes' boxes, one for its condition, and those of its item
abbrev pub steps_units : Option StepsTree → ℕ
steps_units None = 0
steps_units (Some s) = sum_by (λ (p : PassTree). count p.domain)
    s.passes + (condition_units s.condition + item_units s.item.domain s.item.fields)

-- at most so many units has a plan
abbrev pub units : PlanTree → ℕ
units plan = sum_by (λ (c : Choice). steps_units (slice_get plan.steps c.steps)) plan.combinations

-- a box, the coverages that are read there, and the bodies that are evaluated at each of its points
pub record Stage : Type 0 where
  pub box : List Axis
  pub coverages : List ℕ
  pub bodies : List Tree

-- one stage for each tile of a box
abbrev pub tile_stages : List ℕ → List Tree → List Axis → List Stage
tile_stages coverages bodies box =
    map (λ b. record { box = b; coverages = coverages; bodies = bodies }) (tile_boxes box)

abbrev pub pass_stages : List ℕ → PassTree → List Stage
pass_stages coverages p = tile_stages coverages (p.condition ∷ p.body ∷ []) p.domain

abbrev pub condition_stages : List ℕ → Option Tree → List Stage
condition_stages coverages None = []
condition_stages coverages (Some c) = record { box = []; coverages = coverages; bodies = c ∷ [] } ∷ []

-- the positions of the binds, then the bodies of the fields; without fields, no bodies in the box without axes
abbrev pub item_stages : List ℕ → ItemTree → List FieldBody → List Stage
item_stages coverages i [] = record { box = []; coverages = coverages; bodies = [] } ∷ []
item_stages coverages i (f ∷ fields) =
    tile_stages coverages (map (λ (b : BindTree). b.position) i.binds ++ map (λ (f : FieldBody). f.body) (f ∷ fields))
    i.domain

-- of a combination: the tiles of each pass in order
abbrev pub passes_boxes : List ℕ → Option StepsTree → List Stage
passes_boxes coverages None = []
passes_boxes coverages (Some s) = flat_map (pass_stages coverages) s.passes

-- of a combination: the box without axes of its condition, if any, then the boxes of its item
abbrev pub out_boxes : List ℕ → Option StepsTree → List Stage
out_boxes coverages None = []
out_boxes coverages (Some s) = condition_stages coverages s.condition ++ item_stages coverages s.item s.item.fields

-- all boxes of a plan in their order: the passes, then what is given out
abbrev pub boxes : PlanTree → List Stage
boxes plan =
    flat_map (λ (c : Choice). passes_boxes c.coverages (slice_get plan.steps c.steps)) plan.combinations
    ++ flat_map (λ (c : Choice). out_boxes c.coverages (slice_get plan.steps c.steps)) plan.combinations

-- a number that is not yet listed goes to the end
abbrev pub added : List ℕ → ℕ → List ℕ
added seen n = cond (list_any (λ m. nat_eq m n) seen) seen (seen ++ n ∷ [])

abbrev pub distinct_after : List ℕ → List ℕ → List ℕ
distinct_after seen [] = seen
distinct_after seen (n ∷ ns) = distinct_after (added seen n) ns

-- the different numbers of a list, in order of their first place
abbrev pub distinct : List ℕ → List ℕ
distinct ns = distinct_after [] ns

-- the tiles that hold a point which the indexes give from a point of the box
abbrev pub tiles_read : List Axis → List Axis → List Index → List ℕ
tiles_read axes box is = distinct (map (λ p. tile_number axes (numbers_at p is)) (points box))

-- constants, and variables among the first n
abbrev pub index_below : ℕ → Index → Bool
index_below n (Const z) = true
index_below n (Var k) = nat_lt k n

abbrev pub domain_of : Option Signature → List Axis
domain_of None = []
domain_of (Some c) = c.domain

-- how many tiles a read under no fold may fetch: where its indexes are constants and variables of the box, those that
-- hold a point which it indexes; else one for each point of the box
abbrev pub bound_read : Option Signature → List Axis → List Index → ℕ
bound_read c box is = cond (list_all (index_below (length box)) is) (length (tiles_read (domain_of c) box is))
    (count box)

-- the reads of a body, each n times; under folds the points of their boxes times as often
abbrev pub bound_times : ℕ → Tree → ℕ
bound_times n (lit z) = 0
bound_times n (var k) = 0
bound_times n (reg k) = 0
bound_times n (op1 op e) = bound_times n e
bound_times n (op2 op l r) = bound_times n l + bound_times n r
bound_times n (read c f is) = n
bound_times n (table box items is) = 0
bound_times n (bind i lo hi e) = bound_times n i + bound_times n e
bound_times n (fold op box c e) = bound_times (n * count box) c + bound_times (n * count box) e

-- the sum over the reads of a body; cs has the coverage of each place
abbrev pub bound_of : (ℕ → Option Signature) → List Axis → Tree → ℕ
bound_of cs box (lit z) = 0
bound_of cs box (var k) = 0
bound_of cs box (reg k) = 0
bound_of cs box (op1 op e) = bound_of cs box e
bound_of cs box (op2 op l r) = bound_of cs box l + bound_of cs box r
bound_of cs box (read c f is) = bound_read (cs c) box is
bound_of cs box (table b items is) = 0
bound_of cs box (bind i lo hi e) = bound_of cs box i + bound_of cs box e
bound_of cs box (fold op b c e) = bound_times (count box * count b) c + bound_times (count box * count b) e

-- at most so many tiles the evaluation of a stage of a plan fetches
abbrev pub bound : PlanTree → Stage → ℕ
bound plan stage = sum_by (bound_of (signature_of plan.coverages stage.coverages) stage.box) stage.bodies
