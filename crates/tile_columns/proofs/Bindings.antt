-- Bodies under a position's value.
use Rattle.std.proofs.Common.{◌≡◌, ℕ, suc, ◌<◌, List, [], ◌∷◌, ◌++◌, length, get_or, take, map, refl, sym, ap, ◌∙◌, subst, arith, ℤ, pos, cond, Bool, true, false, Option}
use Rattle.std.specs.Prelude.{◌≤ℤ◌, ◌<ℤ◌, int_le, ◌&&◌, replicate}
use Rattle.std.specs.List.{All, range_with_len}
use Rattle.std.proofs.lemmas.Int.{ints}
use Rattle.std.proofs.lemmas.Bool.{false≢true}
use Rattle.std.proofs.lemmas.List.{length-map, get_or-map, map-id}
use Rattle.std.proofs.lemmas.List.FromFn.{get_or-map-range_with_len, length-map-range_with_len}
use Rattle.arr_core.specs.declared.signature.Signature.{Signature}
use Rattle.wcps_mean.specs.declared.cell.Outcome.{Outcome}
use Rattle.wcps_mean.specs.declared.cell.Outcome.TheVariants.{Value, Fault}
use Rattle.wcps_mean.specs.declared.cell.PointFault.TheVariants.{OutOfDomain}
use Rattle.wcps_mean.specs.Cells.{at_position}
use Rattle.plan_ir.specs.declared.body.Interval.{Interval}
use Rattle.plan_ir.specs.Bodies.{Tree}
use Rattle.tile_kernel.specs.Columns.{outcome_at}
use Rattle.tile_columns.specs.Frames.{under, extended}
use Rattle.tile_columns.specs.Binding.{coordinate_or_lo, at_positions, with_coordinate}
use Rattle.tile_columns.specs.Evaluating.{AreWithin, HasPlace, HasPlaceUnder}
use Rattle.wcps_mean.proofs.Stacks.{cut-back}
use Rattle.tile_columns.proofs.Ranges.{map_map, same_over, by_places}
use Rattle.tile_columns.proofs.Placing.{within_more}

-- ---- coordinates

-- of tests that both hold
both_hold : (a b : Bool) → (a && b) ≡ true → (a ≡ true) × (b ≡ true)
both_hold true b h = (refl, h)
both_hold false b h = absurd (false≢true h)

le_of : (x y : ℤ) → int_le x y ≡ true → x ≤ℤ y
le_of x y h = grind (arith, ints)

chosen_within : (lo hi z : ℤ) (b : Bool) → lo ≤ℤ hi → (int_le lo z && int_le z hi) ≡ b → (lo ≤ℤ cond b z lo) × (cond b z lo ≤ℤ hi)
chosen_within lo hi z true le h = let p = both_hold (int_le lo z) (int_le z hi) h in (le_of lo z p.0, le_of z hi p.1)
chosen_within lo hi z false le h = (omega (arith, ints), le)

-- a coordinate lies in an interval that has any
pub coordinate_within : (lo hi : ℤ) (o : Outcome) → lo ≤ℤ hi → (lo ≤ℤ coordinate_or_lo lo hi o) × (coordinate_or_lo lo hi o ≤ℤ hi)
coordinate_within lo hi (Fault f) le = (omega (arith, ints), le)
coordinate_within lo hi (Value z) le = chosen_within lo hi z (int_le lo z && int_le z hi) le refl

-- so the body has its place under the coordinates
pub place_extended : {cs : ℕ → Option Signature} {n : ℕ} (b : Interval) (e : Tree) (envs : List (List ℤ)) (positions : List Outcome) → HasPlaceUnder cs n (b ∷ []) e envs → b.lo ≤ℤ b.hi → length positions ≡ length envs → HasPlace cs n e (extended envs (map (coordinate_or_lo b.lo b.hi) positions))
place_extended b e envs positions h le m =
    let zs = map (coordinate_or_lo b.lo b.hi) positions in
    let all = length-map-range_with_len (λ k. get_or envs k [] ++ get_or zs k (pos 0) ∷ []) 0 (length envs) in
    record {
      scope = h.scope ++ b ∷ [];
      placed = h.placed;
      within = λ k d lt.
          let l : k < length envs = omega arith in
          let z : get_or zs k (pos 0) ≡ coordinate_or_lo b.lo b.hi (outcome_at positions k) = get_or-map (coordinate_or_lo b.lo b.hi) positions k (Value (pos 0)) (pos 0) (omega arith) in
          let w = coordinate_within b.lo b.hi (outcome_at positions k) le in
          let v : AreWithin (b ∷ []) (get_or zs k (pos 0) ∷ []) = subst (λ z. AreWithin (b ∷ []) (z ∷ [])) (sym z) (w.0, w.1, tt) in
          subst (AreWithin (h.scope ++ b ∷ [])) (sym (get_or-map-range_with_len (λ k. get_or envs k [] ++ get_or zs k (pos 0) ∷ []) 0 (length envs) k k d l (omega arith)))
          (within_more h.scope (b ∷ []) (get_or envs k []) (get_or zs k (pos 0) ∷ []) (h.within k [] l) v);
    }

-- ---- outcomes

tested : (lo hi z : ℤ) (b : Bool) (go : ℤ → Outcome) → cond b (go (cond b z lo)) (Fault OutOfDomain) ≡ cond b (go z) (Fault OutOfDomain)
tested lo hi z true go = refl
tested lo hi z false go = refl

-- where the position lies in the interval, its coordinate is the position's value
pub at_coordinate : (o : Outcome) (lo hi : ℤ) (go : ℤ → Outcome) → at_position o lo hi (λ z. go (coordinate_or_lo lo hi o)) ≡ at_position o lo hi go
at_coordinate (Fault f) lo hi go = refl
at_coordinate (Value z) lo hi go = tested lo hi z (int_le lo z && int_le z hi) go

-- the outcomes at the coordinates, tested
pub settled_at : (go : List ℤ → Outcome) (positions column : List Outcome) (lo hi : ℤ) (envs : List (List ℤ)) → length positions ≡ length envs → column ≡ map go (extended envs (map (coordinate_or_lo lo hi) positions))
    → at_positions positions lo hi (λ k z. outcome_at column k) ≡ at_positions positions lo hi (with_coordinate go envs)
settled_at go positions column lo hi envs m e =
    let zs = map (coordinate_or_lo lo hi) positions in
    let f : ℕ → List ℤ = λ k. get_or envs k [] ++ get_or zs k (pos 0) ∷ [] in
    let all = length-map-range_with_len f 0 (length envs) in
    same_over (λ k. at_position (outcome_at positions k) lo hi (λ z. outcome_at column k)) (λ k. at_position (outcome_at positions k) lo hi (with_coordinate go envs k)) (length positions) (λ k lt.
    let o = outcome_at positions k in
    let there : outcome_at column k ≡ go (get_or envs k [] ++ coordinate_or_lo lo hi o ∷ []) =
    ap (λ c. outcome_at c k) e
    ∙ get_or-map go (extended envs zs) k [] (Value (pos 0)) (omega arith)
    ∙ ap go (get_or-map-range_with_len f 0 (length envs) k k [] (omega arith) (omega arith))
    ∙ ap (λ z. go (get_or envs k [] ++ z ∷ [])) (get_or-map (coordinate_or_lo lo hi) positions k (Value (pos 0)) (pos 0) lt) in
    ap (λ w. at_position o lo hi (λ z. w)) there ∙ at_coordinate o lo hi (with_coordinate go envs k))

no_coordinate : (lo hi z : ℤ) (b : Bool) (v w : Outcome) → hi <ℤ lo → (int_le lo z && int_le z hi) ≡ b → cond b v (Fault OutOfDomain) ≡ cond b w (Fault OutOfDomain)
no_coordinate lo hi z true v w lt h = let p = both_hold (int_le lo z) (int_le z hi) h in let a = le_of lo z p.0 in let c = le_of z hi p.1 in absurd (omega (arith, ints, a, c, lt))
no_coordinate lo hi z false v w lt h = refl

-- an interval without coordinates
pub at_none : (o : Outcome) (lo hi : ℤ) (go : ℤ → Outcome) (w : Outcome) → hi <ℤ lo → at_position o lo hi (λ z. w) ≡ at_position o lo hi go
at_none (Fault f) lo hi go w lt = refl
at_none (Value z) lo hi go w lt = no_coordinate lo hi z (int_le lo z && int_le z hi) w (go z) lt refl

pub settled_nowhere : (positions column : List Outcome) (lo hi : ℤ) (go : ℕ → ℤ → Outcome) → hi <ℤ lo → at_positions positions lo hi (λ k z. outcome_at column k) ≡ at_positions positions lo hi go
settled_nowhere positions column lo hi go lt =
    same_over (λ k. at_position (outcome_at positions k) lo hi (λ z. outcome_at column k)) (λ k. at_position (outcome_at positions k) lo hi (go k)) (length positions)
    (λ k l. at_none (outcome_at positions k) lo hi (go k) (outcome_at column k) lt)

-- a bind, by its position's column
pub bound_all : (go f : List ℤ → Outcome) (positions : List Outcome) (lo hi : ℤ) (envs : List (List ℤ)) → positions ≡ map f envs → at_positions positions lo hi (with_coordinate go envs) ≡ map (λ e. at_position (f e) lo hi (λ z. go (e ++ z ∷ []))) envs
bound_all go f positions lo hi envs e =
    let n : length positions ≡ length envs = ap length e ∙ length-map envs f in
    same_over (λ k. at_position (outcome_at positions k) lo hi (with_coordinate go envs k)) (λ k. at_position (f (get_or envs k [])) lo hi (with_coordinate go envs k)) (length positions)
    (λ k lt. ap (λ o. at_position o lo hi (with_coordinate go envs k)) (ap (λ c. outcome_at c k) e ∙ get_or-map f envs k [] (Value (pos 0)) (omega arith)))
    ∙ ap (λ m. map (λ k. at_position (f (get_or envs k [])) lo hi (with_coordinate go envs k)) (range_with_len 0 m)) n
    ∙ sym (by_places (λ e. at_position (f e) lo hi (λ z. go (e ++ z ∷ []))) envs [])

pub length-at_positions : (positions : List Outcome) (lo hi : ℤ) (go : ℕ → ℤ → Outcome) → length (at_positions positions lo hi go) ≡ length positions
length-at_positions positions lo hi go = length-map-range_with_len (λ k. at_position (outcome_at positions k) lo hi (go k)) 0 (length positions)

-- ---- frames

-- the first variables alone
pub cut_under : (envs : List (List ℤ)) (x : List ℤ) (n : ℕ) → All (λ (e : List ℤ). length e ≡ n) envs → map (take n) (under envs x) ≡ envs
cut_under [] x n h = refl
cut_under (e ∷ envs) x n h =
    ap (λ y. y ∷ map (take n) (under envs x)) (cut-back n e x (e ++ x) (sym (h 0 e (omega arith))) refl)
    ∙ ap (λ l. e ∷ l) (cut_under envs x n (λ k d lt. h (suc k) d (omega arith)))

pub cut_extended : (envs : List (List ℤ)) (zs : List ℤ) (n : ℕ) → All (λ (e : List ℤ). length e ≡ n) envs → map (take n) (extended envs zs) ≡ envs
cut_extended envs zs n h =
    map_map (take n) (λ k. get_or envs k [] ++ get_or zs k (pos 0) ∷ []) (range_with_len 0 (length envs))
    ∙ same_over (λ k. take n (get_or envs k [] ++ get_or zs k (pos 0) ∷ [])) (λ k. get_or envs k []) (length envs)
    (λ k lt. cut-back n (get_or envs k []) (get_or zs k (pos 0) ∷ []) (get_or envs k [] ++ get_or zs k (pos 0) ∷ []) (sym (h k [] lt)) refl)
    ∙ sym (by_places (λ e. e) envs []) ∙ map-id envs

pub length-extended : (envs : List (List ℤ)) (zs : List ℤ) → length (extended envs zs) ≡ length envs
length-extended envs zs = length-map-range_with_len (λ k. get_or envs k [] ++ get_or zs k (pos 0) ∷ []) 0 (length envs)

-- one outcome at each place
pub filled : (o : Outcome) (envs : List (List ℤ)) (n : ℕ) → n ≡ length envs → replicate n o ≡ map (λ e. o) envs
filled o envs n e = ap (λ n. replicate n o) e ∙ same_everywhere o envs
  where
    same_everywhere : (o : Outcome) (envs : List (List ℤ)) → replicate (length envs) o ≡ map (λ e. o) envs
    same_everywhere o [] = refl
    same_everywhere o (e ∷ envs) = ap (λ l. o ∷ l) (same_everywhere o envs)

-- where all positions lie in the interval there is no fault
pub all_settled : (positions out : List Outcome) (lo hi : ℤ) → length out ≡ length positions → ((k : ℕ) → k < length positions → (o : Outcome) → at_position (outcome_at positions k) lo hi (λ z. o) ≡ o) → out ≡ at_positions positions lo hi (λ k z. outcome_at out k)
all_settled positions out lo hi e h =
    sym (map-id out) ∙ by_places (λ (o : Outcome). o) out (Value (pos 0)) ∙ ap (λ n. map (outcome_at out) (range_with_len 0 n)) e
    ∙ same_over (outcome_at out) (λ k. at_position (outcome_at positions k) lo hi (λ z. outcome_at out k)) (length positions) (λ k lt. sym (h k lt (outcome_at out k)))
