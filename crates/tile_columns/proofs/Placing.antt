-- Bodies have their places under further variables.
use Rattle.std.proofs.Common.{◌≡◌, ℕ, zero, suc, List, [], ◌∷◌, ◌++◌, get_or, refl, sym, ap, ◌∙◌, subst, arith, ℤ, pos, Option, Some, None}
use Rattle.std.specs.Prelude.{◌≤ℤ◌, slice_get, IsSomeAnd}
use Rattle.std.specs.List.{All}
use Rattle.std.proofs.lemmas.Int.{ints}
use Rattle.std.proofs.lemmas.List.Elements.{All-map}
use Rattle.arr_core.specs.declared.domain.Axis.{Axis}
use Rattle.arr_core.specs.declared.signature.Signature.{Signature}
use Rattle.arr_core.specs.Domains.{IsInside}
use Rattle.wcps_text.specs.declared.operator.BinaryOperator.{BinaryOperator}
use Rattle.wcps_text.specs.declared.operator.Aggregate.{Aggregate}
use Rattle.plan_ir.specs.declared.body.Interval.{Interval}
use Rattle.plan_ir.specs.declared.body.Index.{Index}
use Rattle.plan_ir.specs.declared.body.Index.TheVariants.{Const, Var}
use Rattle.plan_ir.specs.Bodies.{Tree, op2, read, table, bind, fold}
use Rattle.plan_ir.specs.Run.{number_at, numbers_at}
use Rattle.plan_ir.specs.Placed.{span, spans, LiesWithin, LiesIn, Indexes, HasCells}
use Rattle.plan_ir.specs.Plans.{signature_of}
use Rattle.plan_ir.specs.Units.{domain_of}
use Rattle.tile_columns.specs.Sources.{IsRead}
use Rattle.tile_columns.specs.Frames.{under}
use Rattle.tile_columns.specs.Evaluating.{AreWithin, HasPlace, HasPlaceUnder}

-- the number of a variable lies in the variable's interval
variable_within : (scope : List Interval) (e : List ℤ) (k : ℕ) (a : Interval) → AreWithin scope e → IsSomeAnd (slice_get scope k) (λ b. LiesWithin b a) → (a.lo ≤ℤ get_or e k (pos 0)) × (get_or e k (pos 0) ≤ℤ a.hi)
variable_within [] e k a w h = absurd h
variable_within (b ∷ scope) [] k a w h = absurd w
variable_within (b ∷ scope) (z ∷ e) zero a w h = (omega (arith, ints, h.0, w.0), omega (arith, ints, h.1, w.1))
variable_within (b ∷ scope) (z ∷ e) (suc k) a w h = variable_within scope e k a w.2 h

index_within : (scope : List Interval) (e : List ℤ) (i : Index) (a : Interval) → AreWithin scope e → LiesIn a scope i → (a.lo ≤ℤ number_at e i) × (number_at e i ≤ℤ a.hi)
index_within scope e (Const z) a w h = h
index_within scope e (Var k) a w h = variable_within scope e k a w h

-- indexes that lie in the intervals of a box give a point of it
pub indexes_inside : (axes : List Axis) (scope : List Interval) (is : List Index) (e : List ℤ) → Indexes (spans axes) scope is → AreWithin scope e → IsInside axes (numbers_at e is)
indexes_inside [] scope [] e h w = tt
indexes_inside [] scope (i ∷ is) e h w = absurd h
indexes_inside (a ∷ axes) scope [] e h w = absurd h
indexes_inside (a ∷ axes) scope (i ∷ is) e h w =
    let b = index_within scope e i (span a) w h.0 in
    (b.0, b.1, indexes_inside axes scope is e h.1 w)

pub within_more : (scope more : List Interval) (e x : List ℤ) → AreWithin scope e → AreWithin more x → AreWithin (scope ++ more) (e ++ x)
within_more [] more [] x w v = v
within_more [] more (z ∷ e) x w v = absurd w
within_more (b ∷ scope) more [] x w v = absurd w
within_more (b ∷ scope) more (z ∷ e) x w v = (w.0, w.1, within_more scope more e x w.2 v)

point_within : (box : List Axis) (x : List ℤ) → IsInside box x → AreWithin (spans box) x
point_within [] [] i = tt
point_within [] (z ∷ x) i = absurd i
point_within (a ∷ box) [] i = absurd i
point_within (a ∷ box) (z ∷ x) i = (i.0, i.1, point_within box x i.2)

-- ---- the parts of a body

pub left_place : {cs : ℕ → Option Signature} {n : ℕ} (op : BinaryOperator) (l r : Tree) (envs : List (List ℤ)) → HasPlace cs n (op2 op l r) envs → HasPlace cs n l envs
left_place op l r envs h = record { scope = h.scope; placed = h.placed.0; within = h.within }

pub right_place : {cs : ℕ → Option Signature} {n : ℕ} (op : BinaryOperator) (l r : Tree) (envs : List (List ℤ)) → HasPlace cs n (op2 op l r) envs → HasPlace cs n r envs
right_place op l r envs h = record { scope = h.scope; placed = h.placed.1; within = h.within }

pub position_place : {cs : ℕ → Option Signature} {n : ℕ} (i : Tree) (lo hi : ℤ) (e : Tree) (envs : List (List ℤ)) → HasPlace cs n (bind i lo hi e) envs → HasPlace cs n i envs
position_place i lo hi e envs h = record { scope = h.scope; placed = h.placed.0; within = h.within }

pub bound_place : {cs : ℕ → Option Signature} {n : ℕ} (i : Tree) (b : Interval) (e : Tree) (envs : List (List ℤ)) → HasPlace cs n (bind i b.lo b.hi e) envs → HasPlaceUnder cs n (b ∷ []) e envs
bound_place i b e envs h = record { scope = h.scope; placed = h.placed.1; within = h.within }

pub folded_place : {cs : ℕ → Option Signature} {n : ℕ} (op : Aggregate) (box : List Axis) (c e : Tree) (envs : List (List ℤ)) → HasPlace cs n (fold op box c e) envs → HasPlaceUnder cs n (spans box) c envs × HasPlaceUnder cs n (spans box) e envs
folded_place op box c e envs h = (record { scope = h.scope; placed = h.placed.0; within = h.within }, record { scope = h.scope; placed = h.placed.1; within = h.within })

-- ---- further variables

-- numbers that lie in the further intervals
pub place_under : {cs : ℕ → Option Signature} {n : ℕ} (more : List Interval) (e : Tree) (envs : List (List ℤ)) (x : List ℤ) → HasPlaceUnder cs n more e envs → AreWithin more x → HasPlace cs n e (under envs x)
place_under more e envs x h w = record {
  scope = h.scope ++ more;
  placed = h.placed;
  within = All-map (AreWithin (h.scope ++ more)) (λ v. v ++ x) envs (λ k d lt. within_more h.scope more (get_or envs k d) x (h.within k d lt) w);
}

-- a point of the further box
pub place_at_point : {cs : ℕ → Option Signature} {n : ℕ} (box : List Axis) (e : Tree) (envs : List (List ℤ)) (x : List ℤ) → HasPlaceUnder cs n (spans box) e envs → IsInside box x → HasPlace cs n e (under envs x)
place_at_point box e envs x h i = place_under (spans box) e envs x h (point_within box x i)

-- ---- what is read

pub cells_there : {cs : ℕ → Option Signature} {n : ℕ} (c f : ℕ) (is : List Index) (envs : List (List ℤ)) (s : Signature) → HasPlace cs n (read c f is) envs → cs c ≡ Some s → IsRead (Some s) f s.domain × All (λ e. IsInside s.domain (numbers_at e is)) envs
cells_there {cs} c f is envs s h e =
    let p = subst (λ o. HasCells o f h.scope is) e h.placed in
    ((p.0, refl), (λ k d lt. indexes_inside s.domain h.scope is (get_or envs k d) p.1 (h.within k d lt)))

some_there : (o : Option Signature) (f : ℕ) (scope : List Interval) (is : List Index) → HasCells o f scope is → IsSomeAnd o (λ s. Unit {0})
some_there None f scope is h = absurd h
some_there (Some s) f scope is h = tt

pub coverage_there : {cs : ℕ → Option Signature} {n : ℕ} (c f : ℕ) (is : List Index) (envs : List (List ℤ)) → HasPlace cs n (read c f is) envs → IsSomeAnd (cs c) (λ s. Unit {0})
coverage_there {cs} c f is envs h = some_there (cs c) f h.scope is h.placed

there_at : (all : List Signature) (n : ℕ) (d : Signature) → IsSomeAnd (slice_get all n) (λ s. Unit {0}) → slice_get all n ≡ Some (get_or all n d)
there_at [] n d h = absurd h
there_at (s ∷ all) zero d h = refl
there_at (s ∷ all) (suc n) d h = there_at all n d h

-- the coverage that a read names
chosen_there : {n : ℕ} (all signatures : List Signature) (chosen : List ℕ) (c f place : ℕ) (is : List Index) (envs : List (List ℤ)) (d : Signature) → HasPlace (signature_of all chosen) n (read c f is) envs → signatures ≡ all → place ≡ get_or chosen c 0 → signature_of all chosen c ≡ Some (get_or signatures place d)
chosen_there all signatures chosen c f place is envs d h e i =
    there_at all (get_or chosen c 0) d (coverage_there c f is envs h)
    ∙ ap (λ l. Some (get_or l (get_or chosen c 0) d)) (sym e) ∙ ap (λ k. Some (get_or signatures k d)) (sym i)

pub points_there : {n : ℕ} (all signatures : List Signature) (chosen : List ℕ) (c f place : ℕ) (is : List Index) (envs : List (List ℤ)) (d : Signature) → HasPlace (signature_of all chosen) n (read c f is) envs → signatures ≡ all → place ≡ get_or chosen c 0 → All (λ e. IsInside (get_or signatures place d).domain (numbers_at e is)) envs
points_there all signatures chosen c f place is envs d h e i = (cells_there c f is envs (get_or signatures place d) h (chosen_there all signatures chosen c f place is envs d h e i)).1

pub domain_there : {n : ℕ} (all signatures : List Signature) (chosen : List ℕ) (c f place : ℕ) (is : List Index) (envs : List (List ℤ)) (d : Signature) → HasPlace (signature_of all chosen) n (read c f is) envs → signatures ≡ all → place ≡ get_or chosen c 0 → (get_or signatures place d).domain ≡ domain_of (signature_of all chosen c)
domain_there all signatures chosen c f place is envs d h e i = ap domain_of (sym (chosen_there all signatures chosen c f place is envs d h e i))

-- what is looked up in a table
pub items_there : {cs : ℕ → Option Signature} {n : ℕ} (box : List Axis) (items : List ℤ) (is : List Index) (envs : List (List ℤ)) → HasPlace cs n (table box items is) envs → All (λ e. IsInside box (numbers_at e is)) envs
items_there box items is envs h = λ k d lt. indexes_inside box h.scope is (get_or envs k d) h.placed.0 (h.within k d lt)
