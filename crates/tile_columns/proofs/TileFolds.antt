-- Folds that are told tile by tile.
use Rattle.std.proofs.Common.{◌≡◌, ◌≢◌, ℕ, zero, suc, ◌+◌, ◌-◌, ◌*◌, ◌<◌, ◌≤◌, ◌^◌, List, [], ◌∷◌, ◌++◌, length, get_or, map, take, refl, sym, ap, ◌∙◌, subst, arith, ℤ, pos, below_more, length-append, Option, Some, None}
use Rattle.std.specs.List.{flat_map, range_with_len}
use Rattle.std.specs.List.Sorted.{IsPermutation}
use Rattle.std.proofs.lemmas.List.Sorted.{length_permutation, All-permutation, Contains-permutation, IsPermutation-append_right}
use Rattle.std.proofs.lemmas.List.Elements.{All-map, All-cons, All-nil}
use Rattle.arr_core.specs.declared.domain.Axis.{Axis}
use Rattle.arr_core.specs.declared.signature.Signature.{Signature}
use Rattle.arr_core.specs.Domains.{points, count, point_at, rank_of, IsBoxOf, AreOrdered, IsDomain}
use Rattle.arr_core.specs.Tiles.{tile_boxes, tile_box}
use Rattle.arr_core.proofs.Points.{length-points, rank-point}
use Rattle.wcps_text.specs.declared.operator.Aggregate.{Aggregate}
use Rattle.wcps_text.specs.declared.operator.Aggregate.TheVariants.{Sum, Product, Greatest, Least, Every, Any, Count, Average}
use Rattle.wcps_mean.specs.declared.running.Running.{Running}
use Rattle.wcps_mean.specs.declared.cell.PointFault.{PointFault}
use Rattle.wcps_mean.specs.declared.cell.Outcome.{Outcome}
use Rattle.wcps_mean.specs.declared.cell.Outcome.TheVariants.{Value, Fault}
use Rattle.wcps_mean.specs.Condensers.{values}
use Rattle.wcps_mean.specs.Feeding.{Keeps}
use Rattle.wcps_mean.specs.Magnitudes.{cap}
use Rattle.plan_ir.specs.Bodies.{Tree}
use Rattle.plan_ir.specs.Placed.{spans}
use Rattle.plan_ir.specs.Units.{bound_times}
use Rattle.tile_kernel.specs.declared.accumulator.Accumulator.{Accumulator}
use Rattle.tile_kernel.specs.Told.{Told, outcomes, told_at, demanded_of, demanded_at, IsValue, IsFirst, StandsFrom}
use Rattle.tile_kernel.specs.Standing.{Stands, TakesIn, EachTakesIn, HaveAtMost}
use Rattle.tile_kernel.proofs.Orders.{total-permuted, trues-permuted, every-permuted, any-permuted, has_zero-permuted, sign-permuted, size-permuted, greatest-permuted, least-permuted}
use Rattle.tile_columns.specs.Evaluating.{AreWithin, HasPlace, HasPlaceUnder}
use Rattle.tile_columns.specs.Condensing.{told_of, under_vars, told_ranked, MergesAt}
use Rattle.tile_columns.specs.TileOrder.{points_to}
use Rattle.tile_columns.proofs.Boxes.{points_within}
use Rattle.tile_columns.proofs.Condensings.{takes_nothing, takes_then, takes_same}
use Rattle.tile_columns.proofs.Fetching.{times_both}
use Rattle.tile_columns.proofs.Placing.{within_more}
use Rattle.tile_columns.proofs.TileOrders.{told_all, told_more, points_more, points_few, points_by_place}

-- ---- the order of telling does not matter

keeps_permuted : (op : Aggregate) (r : Running) (told more : List Told) → IsPermutation told more → Keeps op r (values (outcomes told)) → Keeps op r (values (outcomes more))
keeps_permuted Sum r told more p h = h ∙ total-permuted told more p
keeps_permuted Average r told more p h = h ∙ total-permuted told more p
keeps_permuted Product r told more p h = record {
  zero_kept = h.zero_kept ∙ has_zero-permuted told more p;
  sign_kept = h.sign_kept ∙ sign-permuted told more p;
  size_kept = h.size_kept ∙ ap cap (size-permuted told more p);
}
keeps_permuted Greatest r told more p h = h ∙ greatest-permuted told more p
keeps_permuted Least r told more p h = h ∙ least-permuted told more p
keeps_permuted Every r told more p h = h ∙ every-permuted told more p
keeps_permuted Any r told more p h = h ∙ any-permuted told more p
keeps_permuted Count r told more p h = h ∙ trues-permuted told more p

first_permuted : (fault : Option PointFault) (place : ℕ) (told more : List Told) → IsPermutation told more → IsFirst fault place told → IsFirst fault place more
first_permuted None place told more p h = All-permutation (λ (t : Told). IsValue t.1) told more p h
first_permuted (Some f) place told more p h = (Contains-permutation told more (place, Fault f) p h.0, All-permutation (λ (t : Told). StandsFrom place t.0 t.1) told more p h.1)

stands_permuted : (a : Accumulator) (told more : List Told) → IsPermutation told more → Stands a told → Stands a more
stands_permuted a told more p h = record {
  counted = let l = length_permutation told more p in omega (arith, h.counted, l);
  faulted = first_permuted a.running.fault a.place told more p h.faulted;
  kept = keeps_permuted a.running.op a.running told more p h.kept;
}

takes_permuted : (before after : List Accumulator) (more same : ℕ → List Told) → EachTakesIn before after more → ((k : ℕ) → IsPermutation (more k) (same k)) → EachTakesIn before after same
takes_permuted before after more same h p = λ told s k d lt.
    stands_permuted (get_or after k d) (told k ++ more k) (told k ++ same k) (IsPermutation-append_right (told k) (more k) (same k) (p k)) (h told s k d lt)

-- ---- the points of a box in their order

ranked_from : (box : List Axis) (c e : List ℤ → Outcome) (vars : List ℤ) (a n : ℕ) → a + n ≤ count box
    → flat_map (told_ranked box c e vars) (map (point_at box) (range_with_len a n)) ≡ told_of (under_vars c vars) (under_vars e vars) a (map (point_at box) (range_with_len a n))
ranked_from box c e vars a zero h = refl
ranked_from box c e vars a (suc n) h =
    let x = point_at box a in
    let xs = map (point_at box) (range_with_len (a + 1) n) in
    let next : a + 1 ≡ suc a = omega arith in
    ap (λ k. demanded_of k (c (vars ++ x)) (e (vars ++ x)) ++ flat_map (told_ranked box c e vars) xs) (rank-point box a (omega (arith, h)))
    ∙ ap (λ l. demanded_of a (c (vars ++ x)) (e (vars ++ x)) ++ l) (ranked_from box c e vars (a + 1) n (omega (arith, h)))
    ∙ ap (λ k. demanded_of a (c (vars ++ x)) (e (vars ++ x)) ++ told_of (under_vars c vars) (under_vars e vars) k xs) next

ranked_in_order : (box : List Axis) (c e : List ℤ → Outcome) (vars : List ℤ) → flat_map (told_ranked box c e vars) (points box) ≡ told_of (under_vars c vars) (under_vars e vars) 0 (points box)
ranked_in_order box c e vars =
    ap (flat_map (told_ranked box c e vars)) (points_by_place box)
    ∙ ranked_from box c e vars 0 (count box) (omega arith)
    ∙ ap (told_of (under_vars c vars) (under_vars e vars) 0) (sym (points_by_place box))

-- accumulators that were told of all tiles were told of all points
pub all_tiles : (box : List Axis) (c e : List ℤ → Outcome) (envs : List (List ℤ)) (before after : List Accumulator) (n : ℕ) → AreOrdered box → n ≡ length (tile_boxes box)
    → EachTakesIn before after (λ k. flat_map (told_ranked box c e (get_or envs k [])) (points_to box n))
    → EachTakesIn before after (λ k. told_of (under_vars c (get_or envs k [])) (under_vars e (get_or envs k [])) 0 (points box))
all_tiles box c e envs before after n ordered whole h =
    takes_permuted before after (λ k. flat_map (told_ranked box c e (get_or envs k [])) (points_to box n)) (λ k. told_of (under_vars c (get_or envs k [])) (under_vars e (get_or envs k [])) 0 (points box)) h
    (λ k. subst (IsPermutation (flat_map (told_ranked box c e (get_or envs k [])) (points_to box n))) (ranked_in_order box c e (get_or envs k []))
    (subst (λ m. IsPermutation (flat_map (told_ranked box c e (get_or envs k [])) (points_to box m)) (flat_map (told_ranked box c e (get_or envs k [])) (points box))) (sym whole)
    (told_all (told_ranked box c e (get_or envs k [])) box ordered)))

take_none : {X : Type 0} (xs : List X) → take 0 xs ≡ []
take_none [] = refl
take_none (x ∷ xs) = refl

-- before the first tile
pub no_tile : (box : List Axis) (c e : List ℤ → Outcome) (envs : List (List ℤ)) (folds : List Accumulator) → EachTakesIn folds folds (λ k. flat_map (told_ranked box c e (get_or envs k [])) (points_to box 0))
no_tile box c e envs folds =
    takes_same folds folds (λ k. []) (λ k. flat_map (told_ranked box c e (get_or envs k [])) (points_to box 0)) (takes_nothing folds)
    (λ k lt. sym (ap (λ l. flat_map (told_ranked box c e (get_or envs k [])) (flat_map points l)) (take_none (tile_boxes box))))

-- one more tile
pub tile_more : (box : List Axis) (c e : List ℤ → Outcome) (envs : List (List ℤ)) (part : List Axis) (t : ℕ) (before mid after : List Accumulator) → t < length (tile_boxes box) → part ≡ tile_box box t
    → EachTakesIn before mid (λ k. flat_map (told_ranked box c e (get_or envs k [])) (points_to box t))
    → EachTakesIn mid after (λ k. flat_map (told_ranked box c e (get_or envs k [])) (points part))
    → EachTakesIn before after (λ k. flat_map (told_ranked box c e (get_or envs k [])) (points_to box (t + 1)))
tile_more box c e envs part t before mid after lt is h g =
    takes_same before after (λ k. flat_map (told_ranked box c e (get_or envs k [])) (points_to box t) ++ flat_map (told_ranked box c e (get_or envs k [])) (points part)) (λ k. flat_map (told_ranked box c e (get_or envs k [])) (points_to box (t + 1)))
    (takes_then before mid after (λ k. flat_map (told_ranked box c e (get_or envs k [])) (points_to box t)) (λ k. flat_map (told_ranked box c e (get_or envs k [])) (points part)) h g)
    (λ k l. ap (λ b. flat_map (told_ranked box c e (get_or envs k [])) (points_to box t) ++ flat_map (told_ranked box c e (get_or envs k [])) (points b)) is ∙ sym (told_more (told_ranked box c e (get_or envs k [])) box t lt))

-- how many points the tiles with one more have
pub points_next : (box part : List Axis) (t : ℕ) → t < length (tile_boxes box) → part ≡ tile_box box t → length (points_to box (t + 1)) ≡ length (points_to box t) + length (points part)
points_next box part t lt is =
    ap length (points_more box t lt) ∙ length-append (points_to box t) (points (tile_box box t)) ∙ ap (λ b. length (points_to box t) + length (points b)) (sym is)

-- there is room for one more tile
pub room_more : (box part : List Axis) (t : ℕ) (folds : List Accumulator) → IsDomain box → t < length (tile_boxes box) → part ≡ tile_box box t → HaveAtMost (length (points_to box t)) folds → HaveAtMost (2 ^ 24 - length (points part)) folds
room_more box part t folds d lt is h =
    let n = points_next box part t lt is in
    let few = points_few box (t + 1) d in
    λ k a l. let m = h k a l in omega (arith, n, few, m)

-- ---- the places of a frame, one after the other

-- what one more accumulator has taken in
pub place_more : (before mid after : List Accumulator) (place : ℕ) (found : Accumulator) (told : ℕ → List Told) → MergesAt place found mid after → Stands found (told place)
    → ((k : ℕ) (d : Accumulator) → place ≤ k → get_or mid k d ≡ get_or before k d) → ((k : ℕ) (d : Accumulator) → k < place → TakesIn (get_or before k d) (get_or mid k d) (told k))
    → (k : ℕ) (d : Accumulator) → k < place + 1 → TakesIn (get_or before k d) (get_or after k d) (told k)
place_more before mid after place found told m s rest h k d lt =
    below_more (λ k. (d : Accumulator) → TakesIn (get_or before k d) (get_or after k d) (told k)) place
    (λ k l d. let ne : k ≢ place = omega arith in subst (λ a. TakesIn (get_or before k d) a (told k)) (sym (m.others k d ne)) (h k d l))
    (λ d. subst (λ a. TakesIn a (get_or after place d) (told place)) (rest place d (omega arith)) (m.told (told place) d s))
    k lt d

-- how many points one more accumulator has been told of
pub count_more : (before mid after : List Accumulator) (place n : ℕ) (found : Accumulator) → MergesAt place found mid after → found.running.count ≤ n
    → ((k : ℕ) (d : Accumulator) → place ≤ k → get_or mid k d ≡ get_or before k d) → ((k : ℕ) (d : Accumulator) → k < place → (get_or mid k d).running.count ≤ (get_or before k d).running.count + n)
    → (k : ℕ) (d : Accumulator) → k < place + 1 → (get_or after k d).running.count ≤ (get_or before k d).running.count + n
count_more before mid after place n found m few rest h k d lt =
    below_more (λ k. (d : Accumulator) → (get_or after k d).running.count ≤ (get_or before k d).running.count + n) place
    (λ k l d. let ne : k ≢ place = omega arith in subst (λ (a : Accumulator). a.running.count ≤ (get_or before k d).running.count + n) (sym (m.others k d ne)) (h k d l))
    (λ d. let e = m.count d in let r = ap (λ (a : Accumulator). a.running.count) (rest place d (omega arith)) in omega (arith, e, r, few))
    k lt d

pub rest_more : (before mid after : List Accumulator) (place : ℕ) (found : Accumulator) → MergesAt place found mid after → ((k : ℕ) (d : Accumulator) → place ≤ k → get_or mid k d ≡ get_or before k d)
    → (k : ℕ) (d : Accumulator) → place + 1 ≤ k → get_or after k d ≡ get_or before k d
rest_more before mid after place found m rest k d le = let ne : k ≢ place = omega arith in m.others k d ne ∙ rest k d (omega arith)

-- ---- the body at the points of a part

-- what the points of a part tell, by columns
pub told_chosen : (box : List Axis) (c r : List ℤ → Outcome) (vars : List ℤ) (xs : List (List ℤ)) → demanded_at (map (rank_of box) xs) (map c (map (λ p. vars ++ p) xs)) (map r (map (λ p. vars ++ p) xs)) ≡ flat_map (told_ranked box c r vars) xs
told_chosen box c r vars [] = refl
told_chosen box c r vars (x ∷ xs) = ap (λ l. told_ranked box c r vars x ++ l) (told_chosen box c r vars xs)

-- an accumulator of the columns of a part
pub stands_ranked : (box : List Axis) (c r : List ℤ → Outcome) (vars : List ℤ) (xs frame : List (List ℤ)) (ranks : List ℕ) (a : Accumulator) → frame ≡ map (λ p. vars ++ p) xs → ranks ≡ map (rank_of box) xs
    → Stands a (demanded_at ranks (map c frame) (map r frame)) → Stands a (flat_map (told_ranked box c r vars) xs)
stands_ranked box c r vars xs frame ranks a e q s =
    subst (Stands a)
    (ap (λ l. demanded_at l (map c frame) (map r frame)) q ∙ ap (λ f. demanded_at (map (rank_of box) xs) (map c f) (map r f)) e ∙ told_chosen box c r vars xs) s

-- without a condition
pub always_told : (ranks : List ℕ) (r : List ℤ → Outcome) (frame : List (List ℤ)) → told_at ranks (map r frame) ≡ demanded_at ranks (map (λ e. Value (pos 1)) frame) (map r frame)
always_told [] r frame = refl
always_told (p ∷ ranks) r [] = refl
always_told (p ∷ ranks) r (x ∷ frame) = ap (λ l. (p, r x) ∷ l) (always_told ranks r frame)

-- ---- places of bodies

pub one_place : {cs : ℕ → Option Signature} {n : ℕ} (e : Tree) (envs : List (List ℤ)) (k : ℕ) → k < length envs → HasPlace cs n e envs → HasPlace cs n e (get_or envs k [] ∷ [])
one_place e envs k lt h = record { scope = h.scope; placed = h.placed; within = All-cons (AreWithin h.scope) (get_or envs k []) [] (h.within k [] lt) (All-nil (AreWithin h.scope)) }

pub place_in_part : {cs : ℕ → Option Signature} {n : ℕ} (box part : List Axis) (e : Tree) (vars : List ℤ) → HasPlaceUnder cs n (spans box) e (vars ∷ []) → IsBoxOf box part → AreOrdered part → HasPlace cs n e (map (λ p. vars ++ p) (points part))
place_in_part box part e vars h b o = record {
  scope = h.scope ++ spans box;
  placed = h.placed;
  within = All-map (AreWithin (h.scope ++ spans box)) (λ p. vars ++ p) (points part) (λ k d lt. within_more h.scope (spans box) vars (get_or (points part) k d) (h.within 0 vars (omega arith)) (points_within box part b o k d lt));
}

-- ---- how many tiles are fetched

pub times_parts : (n a b : ℕ) (e : Tree) → bound_times (n * (a + b)) e ≡ bound_times (n * a) e + bound_times (n * b) e
times_parts n a b e = let m : n * (a + b) ≡ n * a + n * b = grind arith in ap (λ j. bound_times j e) m ∙ times_both (n * a) (n * b) e

-- one more tile
pub times_tile : (n : ℕ) (box part : List Axis) (t : ℕ) (e : Tree) → t < length (tile_boxes box) → part ≡ tile_box box t → bound_times (n * length (points_to box (t + 1))) e ≡ bound_times (n * length (points_to box t)) e + bound_times (n * count part) e
times_tile n box part t e lt is =
    ap (λ m. bound_times (n * m) e) (points_next box part t lt is ∙ ap (λ m. length (points_to box t) + m) (length-points part))
    ∙ times_parts n (length (points_to box t)) (count part) e
