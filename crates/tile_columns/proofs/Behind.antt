-- Fields behind binds.
use Rattle.std.proofs.Common.{◌≡◌, ℕ, zero, suc, ◌+◌, ◌<◌, ◌≤◌, List, [], ◌∷◌, ◌++◌, length, get_or, set, take, drop, map, refl, sym, ap, ◌∙◌, subst, arith, ℤ, pos, Option, true, false}
use Rattle.std.specs.Prelude.{◌≤ℤ◌, ◌<ℤ◌, int_lt, sum_by, replicate}
use Rattle.std.specs.List.{All}
use Rattle.std.proofs.lemmas.Int.{ints}
use Rattle.std.proofs.lemmas.List.{length-map, get_or-map, map_more}
use Rattle.std.proofs.lemmas.List.FromFn.{get_or-map-range_with_len}
use Rattle.std.proofs.lemmas.List.Sums.{sum_by-cons, sum_by_push}
use Rattle.arr_core.specs.declared.signature.Signature.{Signature}
use Rattle.wcps_mean.specs.declared.cell.Outcome.{Outcome}
use Rattle.wcps_mean.specs.declared.cell.Outcome.TheVariants.{Value}
use Rattle.plan_ir.specs.declared.body.Interval.{Interval}
use Rattle.plan_ir.specs.declared.plan.Bind.{Bind}
use Rattle.plan_ir.specs.declared.plan.Field.{Field}
use Rattle.plan_ir.specs.Bodies.{Tree, bind, body_view}
use Rattle.plan_ir.specs.Plans.{BindTree, FieldBody, bind_view, field_view}
use Rattle.plan_ir.specs.Placed.{IsPlaced, FieldsArePlaced}
use Rattle.plan_ir.specs.Run.{run}
use Rattle.tile_kernel.specs.Columns.{outcome_at}
use Rattle.tile_columns.specs.Frames.{extended}
use Rattle.tile_columns.specs.Binding.{coordinate_or_lo, with_coordinate}
use Rattle.tile_columns.specs.Evaluating.{AreWithin, HasPlace, fetches}
use Rattle.tile_columns.specs.Fields.{behind, columns_behind, bodies_behind, settled_by, FieldsHavePlace}
use Rattle.tile_columns.proofs.Bindings.{coordinate_within, settled_at, settled_nowhere, bound_all, length-at_positions, length-extended}
use Rattle.tile_columns.proofs.Placing.{within_more}
use Rattle.tile_columns.proofs.Fetching.{fetches_extended}

-- ---- lists of which the first are done

-- f is done to the first k
abbrev pub partly : {X : Type 0} → (X → X) → ℕ → List X → List X
partly f k xs = map f (take k xs) ++ drop k xs

pub partly_at : {X : Type 0} (f : X → X) (k : ℕ) (xs : List X) (d : X) → get_or (partly f k xs) k d ≡ get_or xs k d
partly_at f zero [] d = refl
partly_at f (suc k) [] d = refl
partly_at f zero (x ∷ xs) d = refl
partly_at f (suc k) (x ∷ xs) d = partly_at f k xs d

pub partly_next : {X : Type 0} (f : X → X) (k : ℕ) (xs : List X) (d : X) → k < length xs → set (partly f k xs) k (f (get_or xs k d)) ≡ partly f (k + 1) xs
partly_next f zero [] d lt = absurd (omega arith)
partly_next f (suc k) [] d lt = absurd (omega arith)
partly_next f zero (x ∷ xs) d lt = refl
partly_next f (suc k) (x ∷ xs) d lt =
    let e : suc k + 1 ≡ suc (k + 1) = omega arith in
    ap (λ l. f x ∷ l) (partly_next f k xs d (omega arith)) ∙ ap (λ j. partly f j (x ∷ xs)) (sym e)

pub length-partly : {X : Type 0} (f : X → X) (k : ℕ) (xs : List X) → length (partly f k xs) ≡ length xs
length-partly f zero [] = refl
length-partly f (suc k) [] = refl
length-partly f zero (x ∷ xs) = refl
length-partly f (suc k) (x ∷ xs) = ap suc (length-partly f k xs)

-- ---- columns that are settled

pub settled_places : (positions : List Outcome) (lo hi : ℤ) (columns : List (List Outcome)) (k : ℕ) (d : List Outcome) → k < length (map (settled_by positions lo hi) columns) → length (get_or (map (settled_by positions lo hi) columns) k d) ≡ length positions
settled_places positions lo hi [] zero d lt = absurd (omega (arith, lt))
settled_places positions lo hi [] (suc k) d lt = absurd (omega (arith, lt))
settled_places positions lo hi (c ∷ columns) zero d lt = length-at_positions positions lo hi (λ k z. outcome_at c k)
settled_places positions lo hi (c ∷ columns) (suc k) d lt = settled_places positions lo hi columns k d (omega arith)

pub blank_places : (positions : List Outcome) (lo hi : ℤ) (n : ℕ) (c : List Outcome) (k : ℕ) (d : List Outcome) → k < length (replicate n (settled_by positions lo hi c)) → length (get_or (replicate n (settled_by positions lo hi c)) k d) ≡ length positions
blank_places positions lo hi zero c zero d lt = absurd (omega (arith, lt))
blank_places positions lo hi zero c (suc k) d lt = absurd (omega (arith, lt))
blank_places positions lo hi (suc n) c zero d lt = length-at_positions positions lo hi (λ k z. outcome_at c k)
blank_places positions lo hi (suc n) c (suc k) d lt = blank_places positions lo hi n c k d (omega arith)

pub one_more_same : {X : Type 0} (n : ℕ) (x : X) → replicate (n + 1) x ≡ replicate n x ++ x ∷ []
one_more_same zero x = refl
one_more_same (suc n) x = let e : suc n + 1 ≡ suc (n + 1) = omega arith in ap (λ k. replicate k x) e ∙ ap (λ l. x ∷ l) (one_more_same n x)

-- a field behind one more bind
settled_field : (s : ℕ → ℕ → List ℤ → ℤ) (regs : List Outcome) (b : BindTree) (e : Tree) (positions : List Outcome) (envs : List (List ℤ)) → positions ≡ map (run s regs b.position) envs
    → settled_by positions b.lo b.hi (map (run s regs e) (extended envs (map (coordinate_or_lo b.lo b.hi) positions))) ≡ map (run s regs (bind b.position b.lo b.hi e)) envs
settled_field s regs b e positions envs h =
    let m : length positions ≡ length envs = ap length h ∙ length-map envs (run s regs b.position) in
    settled_at (run s regs e) positions (map (run s regs e) (extended envs (map (coordinate_or_lo b.lo b.hi) positions))) b.lo b.hi envs m refl
    ∙ bound_all (run s regs e) (run s regs b.position) positions b.lo b.hi envs h

pub settled_fields : (s : ℕ → ℕ → List ℤ → ℤ) (regs : List Outcome) (b : BindTree) (binds : List BindTree) (fields : List FieldBody) (positions : List Outcome) (envs : List (List ℤ)) → positions ≡ map (run s regs b.position) envs
    → map (settled_by positions b.lo b.hi) (columns_behind s regs binds fields (extended envs (map (coordinate_or_lo b.lo b.hi) positions))) ≡ columns_behind s regs (b ∷ binds) fields envs
settled_fields s regs b binds [] positions envs h = refl
settled_fields s regs b binds (f ∷ fields) positions envs h =
    let es = extended envs (map (coordinate_or_lo b.lo b.hi) positions) in
    ap (λ c. c ∷ map (settled_by positions b.lo b.hi) (columns_behind s regs binds fields es)) (settled_field s regs b (behind binds f.body) positions envs h)
    ∙ ap (λ l. map (run s regs (behind (b ∷ binds) f.body)) envs ∷ l) (settled_fields s regs b binds fields positions envs h)

-- behind an interval of no coordinate it does not matter what there is
pub settled_blank : (s : ℕ → ℕ → List ℤ → ℤ) (regs : List Outcome) (b : BindTree) (binds : List BindTree) (fields : List FieldBody) (positions : List Outcome) (envs : List (List ℤ)) (c : List Outcome) → positions ≡ map (run s regs b.position) envs → b.hi <ℤ b.lo
    → replicate (length fields) (settled_by positions b.lo b.hi c) ≡ columns_behind s regs (b ∷ binds) fields envs
settled_blank s regs b binds [] positions envs c h lt = refl
settled_blank s regs b binds (f ∷ fields) positions envs c h lt =
    let e = behind binds f.body in
    ap (λ x. x ∷ replicate (length fields) (settled_by positions b.lo b.hi c))
    (settled_nowhere positions c b.lo b.hi (with_coordinate (run s regs e) envs) lt ∙ bound_all (run s regs e) (run s regs b.position) positions b.lo b.hi envs h)
    ∙ ap (λ l. map (run s regs (behind (b ∷ binds) f.body)) envs ∷ l) (settled_blank s regs b binds fields positions envs c h lt)

-- ---- places

map_pushed_one : {X Y : Type 0} (f : X → Y) (xs : List X) (x : X) → map f (xs ++ x ∷ []) ≡ map f xs ++ f x ∷ []
map_pushed_one f [] x = refl
map_pushed_one f (y ∷ xs) x = ap (λ l. f y ∷ l) (map_pushed_one f xs x)

placed_at : (cs : ℕ → Option Signature) (n : ℕ) (scope : List Interval) (fields : List FieldBody) (k : ℕ) (d : FieldBody) → FieldsArePlaced cs n scope fields → k < length fields → IsPlaced cs n scope (get_or fields k d).body
placed_at cs n scope [] k d h lt = absurd (omega (arith, lt))
placed_at cs n scope (f ∷ fields) zero d h lt = h.0
placed_at cs n scope (f ∷ fields) (suc k) d h lt = placed_at cs n scope fields k d h.1 (omega arith)

pub field_at : (cs : ℕ → Option Signature) (n : ℕ) (fields : List Field) (envs : List (List ℤ)) (k : ℕ) (x : Field) → FieldsHavePlace cs n [] (map field_view fields) envs → k < length fields → x ≡ get_or fields k x → HasPlace cs n (body_view x.body) envs
field_at cs n fields envs k x h lt is =
    let m = length-map fields field_view in
    let e : get_or (map field_view fields) k (field_view x) ≡ field_view x = get_or-map field_view fields k x (field_view x) lt ∙ ap field_view (sym is) in
    record { scope = h.scope; placed = subst (λ (f : FieldBody). IsPlaced cs n h.scope f.body) e (placed_at cs n h.scope (map field_view fields) k (field_view x) h.placed (omega (arith, m, lt))); within = h.within }

-- numbers of coordinates of an interval that has any lie in it
extended_within : (b : Interval) (envs : List (List ℤ)) (positions : List Outcome) (scope : List Interval) → All (AreWithin scope) envs → b.lo ≤ℤ b.hi → length positions ≡ length envs → All (AreWithin (scope ++ b ∷ [])) (extended envs (map (coordinate_or_lo b.lo b.hi) positions))
extended_within b envs positions scope within le m =
    let zs = map (coordinate_or_lo b.lo b.hi) positions in
    let f : ℕ → List ℤ = λ k. get_or envs k [] ++ get_or zs k (pos 0) ∷ [] in
    let all = length-extended envs zs in
    λ k d lt.
    let l : k < length envs = omega (arith, all, lt) in
    let z : get_or zs k (pos 0) ≡ coordinate_or_lo b.lo b.hi (outcome_at positions k) = get_or-map (coordinate_or_lo b.lo b.hi) positions k (Value (pos 0)) (pos 0) (omega (arith, l, m)) in
    let w = coordinate_within b.lo b.hi (outcome_at positions k) le in
    let v : AreWithin (b ∷ []) (get_or zs k (pos 0) ∷ []) = subst (λ z. AreWithin (b ∷ []) (z ∷ [])) (sym z) (w.0, w.1, tt) in
    subst (AreWithin (scope ++ b ∷ [])) (sym (get_or-map-range_with_len f 0 (length envs) k k d l (omega arith)))
    (within_more scope (b ∷ []) (get_or envs k []) (get_or zs k (pos 0) ∷ []) (within k [] l) v)

-- a test of two numbers, as it is written for their places in memory
pub below_of : (x y a b : ℤ) → x ≡ a → y ≡ b → int_lt x y ≡ true → a <ℤ b
below_of x y a b p q h = let l : x <ℤ y = omega (arith, ints) in subst (λ z. a <ℤ z) q (subst (λ z. z <ℤ y) p l)

pub not_below_of : (x y a b : ℤ) → x ≡ a → y ≡ b → int_lt x y ≡ false → b ≤ℤ a
not_below_of x y a b p q h = let l : y ≤ℤ x = omega (arith, ints) in subst (λ z. z ≤ℤ a) q (subst (λ z. y ≤ℤ z) p l)

pub empty_binds : {X : Type 0} (xs : List X) → length xs < 1 → xs ≡ []
empty_binds [] h = refl
empty_binds (x ∷ xs) h = absurd (omega arith)

-- binds and fields under one more variable, the coordinates of the first bind's position
pub behind_extended : (cs : ℕ → Option Signature) (n : ℕ) (b : Interval) (position : Tree) (binds : List BindTree) (fields : List FieldBody) (envs : List (List ℤ)) (positions : List Outcome) → FieldsHavePlace cs n (record { position = position; lo = b.lo; hi = b.hi } ∷ binds) fields envs → b.lo ≤ℤ b.hi → length positions ≡ length envs
    → FieldsHavePlace cs n binds fields (extended envs (map (coordinate_or_lo b.lo b.hi) positions))
behind_extended cs n b position binds fields envs positions h le m =
    record { scope = h.scope ++ b ∷ []; placed = h.placed.1; within = extended_within b envs positions h.scope h.within le m }

-- ---- one more field

pub whole_list : {X : Type 0} (n : ℕ) (xs : List X) → length xs ≤ n → take n xs ≡ xs
whole_list zero [] h = refl
whole_list (suc n) [] h = refl
whole_list zero (x ∷ xs) h = absurd (omega arith)
whole_list (suc n) (x ∷ xs) h = ap (λ l. x ∷ l) (whole_list n xs (omega arith))

next_field : (fields : List Field) (k : ℕ) (x : Field) → k < length fields → x ≡ get_or fields k x → map field_view (take (k + 1) fields) ≡ map field_view (take k fields) ++ field_view x ∷ []
next_field fields k x lt is = map_more field_view fields k x lt ∙ ap (λ y. map field_view (take k fields) ++ field_view y ∷ []) (sym is)

pub column_more : (s : ℕ → ℕ → List ℤ → ℤ) (regs : List Outcome) (fields : List Field) (envs : List (List ℤ)) (k : ℕ) (x : Field) (o : List Outcome) (columns new : List (List Outcome)) → k < length fields → x ≡ get_or fields k x → o ≡ map (run s regs (body_view x.body)) envs
    → new ≡ columns ++ o ∷ [] → columns ≡ columns_behind s regs [] (map field_view (take k fields)) envs → new ≡ columns_behind s regs [] (map field_view (take (k + 1) fields)) envs
column_more s regs fields envs k x o columns new lt is e n h =
    let f : FieldBody → List Outcome = λ f. map (run s regs f.body) envs in
    n ∙ ap (λ l. l ++ o ∷ []) h ∙ ap (λ y. map f (map field_view (take k fields)) ++ y ∷ []) e
    ∙ sym (map_pushed_one f (map field_view (take k fields)) (field_view x))
    ∙ ap (map f) (sym (next_field fields k x lt is))

pub bodies_more : (g : Tree → ℕ) (fields : List Field) (k : ℕ) (x : Field) → k < length fields → x ≡ get_or fields k x → sum_by g (bodies_behind [] (map field_view (take (k + 1) fields))) ≡ sum_by g (bodies_behind [] (map field_view (take k fields))) + g (body_view x.body)
bodies_more g fields k x lt is =
    let f : FieldBody → Tree = λ f. f.body in
    ap (λ l. sum_by g (map f l)) (next_field fields k x lt is)
    ∙ ap (sum_by g) (map_pushed_one f (map field_view (take k fields)) (field_view x))
    ∙ sum_by_push g (map f (map field_view (take k fields))) (body_view x.body)

-- ---- how many tiles are fetched

pub sum_same : {X : Type 0} (f g : X → ℕ) (xs : List X) → ((x : X) → f x ≡ g x) → sum_by f xs ≡ sum_by g xs
sum_same f g [] h = refl
sum_same f g (x ∷ xs) h =
    let a = sum_by-cons f x xs in
    let b = sum_by-cons g x xs in
    let c = sum_same f g xs h in
    let d = h x in
    omega (arith, a, b, c, d)

pub fetched_behind : (cs : ℕ → Option Signature) (n : ℕ) (envs : List (List ℤ)) (zs : List ℤ) (es : List Tree) → All (λ (e : List ℤ). n ≤ length e) envs → sum_by (fetches cs n (extended envs zs)) es ≡ sum_by (fetches cs n envs) es
fetched_behind cs n envs zs es h = sum_same (fetches cs n (extended envs zs)) (fetches cs n envs) es (λ e. fetches_extended cs n envs zs e h)

-- the position of the first bind, and what is behind it
pub fetched_more : (f : Tree → ℕ) (binds : List Bind) (b : Bind) (rest : List Bind) (fields : List FieldBody) → binds ≡ b ∷ rest → sum_by f (bodies_behind (map bind_view binds) fields) ≡ f (body_view b.position) + sum_by f (bodies_behind (map bind_view rest) fields)
fetched_more f binds b rest fields e =
    ap (λ l. sum_by f (bodies_behind (map bind_view l) fields)) e ∙ sum_by-cons f (body_view b.position) (bodies_behind (map bind_view rest) fields)

pub fetched_first : (f : Tree → ℕ) (binds : List Bind) (b : Bind) (rest : List Bind) (fields : List FieldBody) → binds ≡ b ∷ rest → f (body_view b.position) ≤ sum_by f (bodies_behind (map bind_view binds) fields)
fetched_first f binds b rest fields e = let m = fetched_more f binds b rest fields e in omega (arith, m)
