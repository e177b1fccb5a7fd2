-- The variables of a frame.
use Rattle.std.proofs.Common.{◌≡◌, ℕ, ◌+◌, ◌*◌, ◌/◌, ◌%◌, ◌<◌, ◌≤◌, List, [], ◌∷◌, ◌++◌, length, get_or, take, map, refl, sym, ap, ◌∙◌, subst, arith, ℤ, pos, ◌+ℤ◌, append_assoc}
use Rattle.std.specs.List.{range_with_len, All}
use Rattle.std.proofs.lemmas.List.{length-map, map-append, take-map, get_or-map, length-replicate, get_or-replicate}
use Rattle.std.proofs.lemmas.List.FromFn.{get_or-map-range_with_len, length-map-range_with_len, fill_by_all}
use Rattle.std.proofs.lemmas.Nat.{div-mul-add, mod-mul-add}
use Rattle.std.specs.Prelude.{◌≤ℤ◌, replicate, Option, Some, None, IfSome}
use Rattle.std.proofs.lemmas.List.{take_more}
use Rattle.std.proofs.lemmas.List.Elements.{All-push}
use Rattle.wcps_mean.proofs.Stacks.{take-whole}
use Rattle.std.proofs.Math.Arith.{mod-mul}
use Rattle.std.proofs.Math.Nat.{mod-lt, mod-eq_of_lt}
use Rattle.arr_core.specs.declared.domain.Axis.{Axis}
use Rattle.arr_core.specs.Domains.{gap, size_of, points, count, point_at}
use Rattle.arr_core.proofs.Points.{count-pos, at_place, length-points}
use Rattle.plan_ir.specs.declared.body.Index.{Index}
use Rattle.plan_ir.specs.Run.{number_at, numbers_at}
use Rattle.tile_columns.specs.declared.frame.Variable.{Variable}
use Rattle.tile_columns.specs.declared.frame.Variable.TheVariants as variable
use Rattle.tile_columns.specs.Frames.{number_of, environment, environments, turn, turns, under, extended, HasPlaces, TellsAt}
use Rattle.tile_columns.proofs.Ranges.{map_map, same_over, by_places, at_beyond}

-- the coordinates at a place are those of a point
pub turns_at : (axes : List Axis) (k : ℕ) → turns axes k ≡ point_at axes (k % count axes)
turns_at [] k = refl
turns_at (a ∷ axes) k =
    let c = count axes in
    let m = size_of a in
    let some : 0 < count axes = count-pos axes in
    let more : 0 < size_of a = omega arith in
    let low : k % count axes < count axes = mod-lt k some in
    let e : k % (size_of a * count axes) ≡ (k / count axes % size_of a) * count axes + k % count axes = mod-mul k more some in
    let d : (k % (size_of a * count axes)) / count axes ≡ k / count axes % size_of a = ap (λ x. x / count axes) e ∙ div-mul-add (k / count axes % size_of a) (count axes) (k % count axes) low in
    let r : (k % (size_of a * count axes)) % count axes ≡ k % count axes = ap (λ x. x % count axes) e ∙ mod-mul-add (k / count axes % size_of a) (count axes) (k % count axes) low in
    ap (λ q. (a.lo +ℤ pos q) ∷ turns axes k) (sym d)
    ∙ ap (λ l. (a.lo +ℤ pos ((k % (size_of a * count axes)) / count axes)) ∷ l) (turns_at axes k ∙ ap (point_at axes) (sym r))

turns_point : (axes : List Axis) (k : ℕ) → k < count axes → turns axes k ≡ get_or (points axes) k []
turns_point axes k lt = turns_at axes k ∙ ap (point_at axes) (mod-eq_of_lt lt) ∙ sym (at_place axes k [] lt)

-- the variables of a box go over its points, behind numbers that stay
pub box_under : (axes : List Axis) (numbers : List ℤ) (n : ℕ) (variables : List Variable) → n ≡ count axes → ((k : ℕ) → environment variables k ≡ numbers ++ turns axes k) → environments n variables ≡ map (λ p. numbers ++ p) (points axes)
box_under axes numbers n variables e h =
    ap (λ m. environments m variables) e
    ∙ same_over (environment variables) (λ k. numbers ++ get_or (points axes) k []) (count axes) (λ k lt. h k ∙ ap (λ p. numbers ++ p) (turns_point axes k lt))
    ∙ sym (by_places (λ p. numbers ++ p) (points axes) [] ∙ ap (λ m. map (λ k. numbers ++ get_or (points axes) k []) (range_with_len 0 m)) (length-points axes))

-- one more axis
pub axes_more : (old one new : List Variable) (a : Axis) (axes : List Axis) (every : ℕ) (v : Variable) (k : ℕ) → one ≡ old ++ v ∷ [] → number_of k v ≡ turn a.lo a.hi (count axes) k → environment new k ≡ environment one k ++ turns axes k → environment new k ≡ environment old k ++ turns (a ∷ axes) k
axes_more old one new a axes every v k e h n =
    n ∙ ap (λ l. environment l k ++ turns axes k) e ∙ ap (λ l. l ++ turns axes k) (map-append (number_of k) old (v ∷ []))
    ∙ append_assoc (environment old k) (number_of k v ∷ []) (turns axes k)
    ∙ ap (λ z. environment old k ++ z ∷ turns axes k) h

pub one_variable : (old new : List Variable) (v : Variable) (k : ℕ) → new ≡ old ++ v ∷ [] → environment new k ≡ environment old k ++ number_of k v ∷ []
one_variable old new v k e = ap (λ l. environment l k) e ∙ map-append (number_of k) old (v ∷ [])

-- a number for all places
pub with_numbers : (n : ℕ) (old new : List Variable) (x : List ℤ) → ((k : ℕ) → environment new k ≡ environment old k ++ x) → environments n new ≡ under (environments n old) x
with_numbers n old new x h =
    same_over (environment new) (λ k. environment old k ++ x) n (λ k lt. h k)
    ∙ sym (map_map (λ e. e ++ x) (environment old) (range_with_len 0 n))

-- a number for each place
pub with_column : (n : ℕ) (old new : List Variable) (zs : List ℤ) → ((k : ℕ) → environment new k ≡ environment old k ++ get_or zs k (pos 0) ∷ []) → environments n new ≡ extended (environments n old) zs
with_column n old new zs h =
    let l = length-map-range_with_len (environment old) 0 n in
    same_over (environment new) (λ k. get_or (environments n old) k [] ++ get_or zs k (pos 0) ∷ []) n
    (λ k lt. h k ∙ ap (λ e. e ++ get_or zs k (pos 0) ∷ []) (sym (get_or-map-range_with_len (environment old) 0 n k k [] lt (omega arith))))
    ∙ ap (λ m. map (λ k. get_or (environments n old) k [] ++ get_or zs k (pos 0) ∷ []) (range_with_len 0 m)) (sym l)

pub first_variables : (n d : ℕ) (old : List Variable) → environments n (take d old) ≡ map (take d) (environments n old)
first_variables n d old =
    same_over (environment (take d old)) (λ k. take d (environment old k)) n (λ k lt. sym (take-map (number_of k) d old))
    ∙ sym (map_map (take d) (environment old) (range_with_len 0 n))

pub number_there : (n place k : ℕ) (variables : List Variable) (z : ℤ) → place < n → z ≡ get_or (environment variables place) k (pos 0) → z ≡ get_or (get_or (environments n variables) place []) k (pos 0)
number_there n place k variables z lt h = h ∙ ap (λ e. get_or e k (pos 0)) (sym (get_or-map-range_with_len (environment variables) 0 n place place [] lt (omega arith)))

pub how_deep : (n d : ℕ) (variables : List Variable) → d ≡ length variables → All (λ (e : List ℤ). length e ≡ d) (environments n variables)
how_deep n d variables h = λ k e lt.
    let l = length-map-range_with_len (environment variables) 0 n in
    ap length (get_or-map-range_with_len (environment variables) 0 n k k e (omega arith) (omega arith)) ∙ length-map variables (number_of k) ∙ sym h

tells_one : (n place : ℕ) (v : Variable) → place < n → HasPlaces n v → TellsAt place v
tells_one n place (variable.Const z) lt h = tt
tells_one n place (variable.Axis lo hi every) lt h = h
tells_one n place (variable.Column zs) lt h = omega arith

pub tells : (n place : ℕ) (variables : List Variable) → place < n → All (HasPlaces n) variables → All (TellsAt place) variables
tells n place variables lt h = λ k d l. tells_one n place (get_or variables k d) lt (h k d l)

pub numbers_more : (old now new : List Variable) (numbers : List ℤ) (i : ℕ) (z : ℤ) (place : ℕ) → new ≡ now ++ variable.Const z ∷ [] → z ≡ get_or numbers i z → i < length numbers → environment now place ≡ environment old place ++ take i numbers → environment new place ≡ environment old place ++ take (i + 1) numbers
numbers_more old now new numbers i z place e at lt h =
    one_variable now new (variable.Const z) place e
    ∙ ap (λ l. l ++ z ∷ []) h
    ∙ append_assoc (environment old place) (take i numbers) (z ∷ [])
    ∙ ap (λ l. environment old place ++ l) (ap (λ y. take i numbers ++ y ∷ []) at ∙ sym (take_more numbers i z lt))

pub numbers_whole : (old now : List Variable) (numbers : List ℤ) (i : ℕ) (place : ℕ) → length numbers ≤ i → environment now place ≡ environment old place ++ take i numbers → environment now place ≡ environment old place ++ numbers
numbers_whole old now numbers i place le h = h ∙ ap (λ l. environment old place ++ l) (take-whole i numbers le)

pub more_whole : (n : ℕ) (old new : List Variable) (v : Variable) → new ≡ old ++ v ∷ [] → HasPlaces n v → All (HasPlaces n) old → All (HasPlaces n) new
more_whole n old new v e h a = subst (All (HasPlaces n)) (sym e) (All-push (HasPlaces n) old v a h)

-- the variable of the first axis, then those of the others
pub axis_first : (old one new : List Variable) (whole : List Axis) (a : Axis) (axes : List Axis) (lo hi : ℤ) (every k : ℕ) → one ≡ old ++ variable.Axis lo hi every ∷ [] → lo ≡ a.lo → hi ≡ a.hi → every ≡ count axes → whole ≡ a ∷ axes → environment new k ≡ environment one k ++ turns axes k → environment new k ≡ environment old k ++ turns whole k
axis_first old one new whole a axes lo hi every k e l h n w s =
    axes_more old one new a axes every (variable.Axis lo hi every) k e
    (ap (λ z. turn z hi every k) l ∙ ap (λ z. turn a.lo z every k) h ∙ ap (λ m. turn a.lo a.hi m k) n) s
    ∙ ap (λ x. environment old k ++ turns x k) (sym w)

pub axis_told : (a : Axis) (lo hi : ℤ) (every : ℕ) → lo ≡ a.lo → hi ≡ a.hi → a.lo ≤ℤ a.hi → 0 < every → (lo ≤ℤ hi) × (0 < every)
axis_told a lo hi every l h o p = (subst (λ z. z ≤ℤ hi) (sym l) (subst (λ z. a.lo ≤ℤ z) (sym h) o), p)

pub none_whole : (n : ℕ) (none : List Variable) → none ≡ [] → All (HasPlaces n) none
none_whole n none e = subst (All (HasPlaces n)) (sym e) (λ k d lt. absurd (omega arith))

pub gap_of : (r : ℕ) (a b lo hi : ℤ) → r ≡ gap a b → a ≡ lo → b ≡ hi → r ≡ gap lo hi
gap_of r a b lo hi e p q = e ∙ ap (λ z. gap z b) p ∙ ap (gap lo) q

-- ---- what indexes stand for

-- a variable by its level
pub variable_there : (variables : List Variable) (k : ℕ) (v : Variable) (place : ℕ) → k < length variables → v ≡ get_or variables k v → get_or (environment variables place) k (pos 0) ≡ number_of place v
variable_there variables k v place lt e = get_or-map (number_of place) variables k v (pos 0) lt ∙ ap (number_of place) (sym e)

pub no_variable : (variables : List Variable) (k place : ℕ) → length variables ≤ k → get_or (environment variables place) k (pos 0) ≡ pos 0
no_variable variables k place le = at_beyond (environment variables place) k (pos 0) (omega (arith, le, length-map variables (number_of place)))

-- one number, as often as there are places
pub same_numbers : (n : ℕ) (z : ℤ) (f : ℕ → ℤ) → ((k : ℕ) → f k ≡ z) → replicate n z ≡ map f (range_with_len 0 n)
same_numbers n z f h = fill_by_all f (replicate n z) n z (length-replicate n z) (λ k lt. get_or-replicate n k z z lt ∙ sym (h k))

pub listed : (n : ℕ) (variables : List Variable) (i : Index) (numbers : List ℤ) → numbers ≡ map (λ place. number_at (environment variables place) i) (range_with_len 0 n) → numbers ≡ map (λ e. number_at e i) (environments n variables)
listed n variables i numbers h = h ∙ sym (map_map (λ e. number_at e i) (environment variables) (range_with_len 0 n))

pub constants : (n : ℕ) (variables : List Variable) (k : ℕ) (z : ℤ) → ((place : ℕ) → get_or (environment variables place) k (pos 0) ≡ z) → map (λ (e : List ℤ). get_or e k (pos 0)) (environments n variables) ≡ replicate (length (environments n variables)) z
constants n variables k z h =
    map_map (λ (e : List ℤ). get_or e k (pos 0)) (environment variables) (range_with_len 0 n)
    ∙ sym (same_numbers n z (λ place. get_or (environment variables place) k (pos 0)) h)
    ∙ ap (λ m. replicate m z) (sym (length-map-range_with_len (environment variables) 0 n))

-- the index of the first axis, then those of the others
pub turns_first : (variables : List Variable) (is further : List Index) (i : Index) (axes rest : List Axis) (a : Axis) (lo hi : ℤ) (every place : ℕ) → is ≡ i ∷ further → axes ≡ a ∷ rest → lo ≡ a.lo → hi ≡ a.hi → every ≡ count rest → number_at (environment variables place) i ≡ turn lo hi every place → numbers_at (environment variables place) further ≡ turns rest place → numbers_at (environment variables place) is ≡ turns axes place
turns_first variables is further i axes rest a lo hi every place e w l h n t r =
    ap (numbers_at (environment variables place)) e
    ∙ ap (λ z. z ∷ numbers_at (environment variables place) further) (t ∙ ap (λ z. turn z hi every place) l ∙ ap (λ z. turn a.lo z every place) h ∙ ap (λ m. turn a.lo a.hi m place) n)
    ∙ ap (λ zs. turn a.lo a.hi (count rest) place ∷ zs) r
    ∙ ap (λ x. turns x place) (sym w)

pub over_points : (axes : List Axis) (is : List Index) (n : ℕ) (variables : List Variable) → n ≡ count axes → ((k : ℕ) → numbers_at (environment variables k) is ≡ turns axes k) → map (λ e. numbers_at e is) (environments n variables) ≡ points axes
over_points axes is n variables e h =
    map_map (λ e. numbers_at e is) (environment variables) (range_with_len 0 n)
    ∙ ap (λ m. map (λ k. numbers_at (environment variables k) is) (range_with_len 0 m)) e
    ∙ same_over (λ k. numbers_at (environment variables k) is) (λ k. get_or (points axes) k []) (count axes) (λ k lt. h k ∙ turns_point axes k lt)
    ∙ sym (fill_by_all (λ k. get_or (points axes) k []) (points axes) (count axes) [] (length-points axes) (λ k lt. refl))

pub column_list : (n : ℕ) (v : Variable) (zs : List ℤ) → ((k : ℕ) → number_of k v ≡ get_or zs k (pos 0)) → length zs ≡ n → zs ≡ map (λ place. number_of place v) (range_with_len 0 n)
column_list n v zs h l = fill_by_all (λ k. number_of k v) zs n (pos 0) l (λ k lt. sym (h k))

-- what holds of each number holds of the one that there is
pub if_some : {X : Type 0} (o : Option X) (P Q : X → Type 0) → ((x : X) → P x → Q x) → IfSome o P → IfSome o Q
if_some None P Q f h = h
if_some (Some x) P Q f h = f x h
