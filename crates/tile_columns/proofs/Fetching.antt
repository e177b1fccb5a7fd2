-- How many tiles are fetched.
use Rattle.std.proofs.Common.{◌≡◌, ℕ, zero, suc, ◌+◌, ◌*◌, ◌<◌, ◌≤◌, List, [], ◌∷◌, ◌++◌, length, get_or, map, refl, sym, ap, ◌∙◌, arith, ℤ, pos, cond, Bool, true, false, Option, Result, Ok, Err}
use Rattle.std.specs.Prelude.{nat_eq, ◌&&◌, OnOk}
use Rattle.std.specs.List.{All, range_with_len, list_any, list_all}
use Rattle.std.proofs.Common.{length-append}
use Rattle.std.proofs.lemmas.Bool.{false≢true, ltb-true}
use Rattle.std.proofs.lemmas.List.{length-map}
use Rattle.std.proofs.lemmas.List.FromFn.{get_or-map-range_with_len}
use Rattle.arr_core.specs.declared.signature.Signature.{Signature}
use Rattle.arr_core.specs.Domains.{count}
use Rattle.arr_core.specs.Meeting.{tile_number}
use Rattle.plan_ir.specs.declared.body.Index.{Index}
use Rattle.plan_ir.specs.declared.body.Index.TheVariants.{Const, Var}
use Rattle.plan_ir.specs.Bodies.{Tree, lit, var, reg, op1, op2, read, table, bind, fold}
use Rattle.plan_ir.specs.Run.{number_at, numbers_at}
use Rattle.plan_ir.specs.Units.{added, distinct_after, distinct, index_below, domain_of, bound_times}
use Rattle.tile_columns.specs.Frames.{extended}
use Rattle.tile_columns.specs.Evaluating.{fetches}
use Rattle.tile_columns.proofs.Ranges.{map_map, same_over, by_places}
use Rattle.tile_columns.proofs.Bindings.{length-extended}

-- ---- different numbers

added_few : (seen : List ℕ) (n : ℕ) (b : Bool) → length (cond b seen (seen ++ n ∷ [])) ≤ length seen + 1
added_few seen n true = omega arith
added_few seen n false = let e = length-append seen (n ∷ []) in omega arith

distinct_after_few : (seen ns : List ℕ) → length (distinct_after seen ns) ≤ length seen + length ns
distinct_after_few seen [] = omega arith
distinct_after_few seen (n ∷ ns) =
    let a = added_few seen n (list_any (λ m. nat_eq m n) seen) in
    let b = distinct_after_few (added seen n) ns in
    omega arith

pub distinct_few : (ns : List ℕ) → length (distinct ns) ≤ length ns
distinct_few ns = let h = distinct_after_few [] ns in let z : length {A = ℕ} [] ≡ 0 = refl in omega (arith, h, z)

chosen_few : (b : Bool) (m n : ℕ) → m ≤ n → cond b m n ≤ n
chosen_few true m n le = le
chosen_few false m n le = omega arith

chosen_many : (b : Bool) (m n : ℕ) → m ≤ n → m ≤ cond b m n
chosen_many true m n le = omega arith
chosen_many false m n le = le

-- a read fetches the different tiles
pub read_few : (cs : ℕ → Option Signature) (n : ℕ) (envs : List (List ℤ)) (c f : ℕ) (is : List Index) → length (distinct (map (λ e. tile_number (domain_of (cs c)) (numbers_at e is)) envs)) ≤ fetches cs n envs (read c f is)
read_few cs n envs c f is =
    let ns = map (λ e. tile_number (domain_of (cs c)) (numbers_at e is)) envs in
    let m = length-map envs (λ e. tile_number (domain_of (cs c)) (numbers_at e is)) in
    let d = distinct_few ns in
    chosen_many (list_all (index_below n) is) (length (distinct ns)) (length envs) (omega arith)

-- at most one for each read and place, under folds for each point too
pub times_few : (cs : ℕ → Option Signature) (n : ℕ) (envs : List (List ℤ)) (e : Tree) → fetches cs n envs e ≤ bound_times (length envs) e
times_few cs n envs (lit z) = omega arith
times_few cs n envs (var k) = omega arith
times_few cs n envs (reg k) = omega arith
times_few cs n envs (op1 op e) = times_few cs n envs e
times_few cs n envs (op2 op l r) = let a = times_few cs n envs l in let b = times_few cs n envs r in omega arith
times_few cs n envs (read c f is) =
    let ns = map (λ e. tile_number (domain_of (cs c)) (numbers_at e is)) envs in
    let m = length-map envs (λ e. tile_number (domain_of (cs c)) (numbers_at e is)) in
    let d = distinct_few ns in
    chosen_few (list_all (index_below n) is) (length (distinct ns)) (length envs) (omega arith)
times_few cs n envs (table box items is) = omega arith
times_few cs n envs (bind i lo hi e) = let a = times_few cs n envs i in let b = times_few cs n envs e in omega arith
times_few cs n envs (fold op box c e) = omega arith

-- ---- more places

pub times_both : (a b : ℕ) (e : Tree) → bound_times (a + b) e ≡ bound_times a e + bound_times b e
times_both a b (lit z) = refl
times_both a b (var k) = refl
times_both a b (reg k) = refl
times_both a b (op1 op e) = times_both a b e
times_both a b (op2 op l r) = let x = times_both a b l in let y = times_both a b r in omega arith
times_both a b (read c f is) = refl
times_both a b (table box items is) = refl
times_both a b (bind i lo hi e) = let x = times_both a b i in let y = times_both a b e in omega arith
times_both a b (fold op box c e) =
    let m : (a + b) * count box ≡ a * count box + b * count box = grind arith in
    let x = ap (λ k. bound_times k c) m ∙ times_both (a * count box) (b * count box) c in
    let y = ap (λ k. bound_times k e) m ∙ times_both (a * count box) (b * count box) e in
    omega arith

-- one more point
pub times_more : (n k : ℕ) (e : Tree) → bound_times (n * (k + 1)) e ≡ bound_times (n * k) e + bound_times n e
times_more n k e = let m : n * (k + 1) ≡ n * k + n = grind arith in ap (λ j. bound_times j e) m ∙ times_both (n * k) n e

no_times : (e : Tree) → bound_times 0 e ≡ 0
no_times (lit z) = refl
no_times (var k) = refl
no_times (reg k) = refl
no_times (op1 op e) = no_times e
no_times (op2 op l r) = let x = no_times l in let y = no_times r in omega arith
no_times (read c f is) = refl
no_times (table box items is) = refl
no_times (bind i lo hi e) = let x = no_times i in let y = no_times e in omega arith
no_times (fold op box c e) =
    let m : 0 * count box ≡ 0 = grind arith in
    let x = ap (λ k. bound_times k c) m ∙ no_times c in
    let y = ap (λ k. bound_times k e) m ∙ no_times e in
    omega arith

pub times_none : (n : ℕ) (e : Tree) → bound_times (n * 0) e ≡ 0
times_none n e = let m : n * 0 ≡ 0 = grind arith in ap (λ j. bound_times j e) m ∙ no_times e

-- ---- one more variable

at_front : (e x : List ℤ) (k : ℕ) → k < length e → get_or (e ++ x) k (pos 0) ≡ get_or e k (pos 0)
at_front [] x k lt = absurd (omega arith)
at_front (z ∷ e) x zero lt = refl
at_front (z ∷ e) x (suc k) lt = at_front e x k (omega arith)

number_front : (e x : List ℤ) (n : ℕ) (i : Index) → n ≤ length e → index_below n i ≡ true → number_at (e ++ x) i ≡ number_at e i
number_front e x n (Const z) le h = refl
number_front e x n (Var k) le h = let lt = ltb-true k n h in at_front e x k (omega arith)

both_true : (a b : Bool) → (a && b) ≡ true → (a ≡ true) × (b ≡ true)
both_true true b h = (refl, h)
both_true false b h = absurd (false≢true h)

numbers_front : (e x : List ℤ) (n : ℕ) (is : List Index) → n ≤ length e → list_all (index_below n) is ≡ true → numbers_at (e ++ x) is ≡ numbers_at e is
numbers_front e x n [] le h = refl
numbers_front e x n (i ∷ is) le h =
    let p = both_true (index_below n i) (list_all (index_below n) is) h in
    ap (λ z. z ∷ numbers_at (e ++ x) is) (number_front e x n i le p.0) ∙ ap (λ l. number_at e i ∷ l) (numbers_front e x n is le p.1)

chosen_same : (b : Bool) (l m k j : ℕ) → (b ≡ true → l ≡ m) → k ≡ j → cond b l k ≡ cond b m j
chosen_same true l m k j h e = h refl
chosen_same false l m k j h e = e

-- the tiles that are read at the first variables
pub fetches_extended : (cs : ℕ → Option Signature) (n : ℕ) (envs : List (List ℤ)) (zs : List ℤ) (e : Tree) → All (λ (e : List ℤ). n ≤ length e) envs → fetches cs n (extended envs zs) e ≡ fetches cs n envs e
fetches_extended cs n envs zs (lit z) h = refl
fetches_extended cs n envs zs (var k) h = refl
fetches_extended cs n envs zs (reg k) h = refl
fetches_extended cs n envs zs (op1 op e) h = fetches_extended cs n envs zs e h
fetches_extended cs n envs zs (op2 op l r) h = let a = fetches_extended cs n envs zs l h in let b = fetches_extended cs n envs zs r h in omega arith
fetches_extended cs n envs zs (read c f is) h =
    let t : List ℤ → ℕ = λ e. tile_number (domain_of (cs c)) (numbers_at e is) in
    chosen_same (list_all (index_below n) is) (length (distinct (map t (extended envs zs)))) (length (distinct (map t envs))) (length (extended envs zs)) (length envs)
    (λ b. ap (λ l. length (distinct l))
    (map_map t (λ k. get_or envs k [] ++ get_or zs k (pos 0) ∷ []) (range_with_len 0 (length envs))
    ∙ same_over (λ k. t (get_or envs k [] ++ get_or zs k (pos 0) ∷ [])) (λ k. t (get_or envs k [])) (length envs)
    (λ k lt. ap (tile_number (domain_of (cs c))) (numbers_front (get_or envs k []) (get_or zs k (pos 0) ∷ []) n is (h k [] lt) b))
    ∙ sym (by_places t envs [])))
    (length-extended envs zs)
fetches_extended cs n envs zs (table box items is) h = refl
fetches_extended cs n envs zs (bind i lo hi e) h = let a = fetches_extended cs n envs zs i h in let b = fetches_extended cs n envs zs e h in omega arith
fetches_extended cs n envs zs (fold op box c e) h = let m = length-extended envs zs in ap (λ k. bound_times (k * count box) c + bound_times (k * count box) e) m

pub long_extended : (envs : List (List ℤ)) (zs : List ℤ) (n : ℕ) → All (λ (e : List ℤ). n ≤ length e) envs → All (λ (e : List ℤ). n ≤ length e) (extended envs zs)
long_extended envs zs n h =
    let f : ℕ → List ℤ = λ k. get_or envs k [] ++ get_or zs k (pos 0) ∷ [] in
    let m = length-extended envs zs in
    λ k d lt.
    let l : k < length envs = omega arith in
    let e = ap length (get_or-map-range_with_len f 0 (length envs) k k d l (omega arith)) in
    let a = length-append (get_or envs k []) (get_or zs k (pos 0) ∷ []) in
    let b = h k [] l in
    omega (arith, e, a, b)

pub on_ok : {A E P Q : Type 0} (r : Result A E) → (P → Q) → OnOk r P → OnOk r Q
on_ok (Ok x) f h = f h
on_ok (Err e) f h = h
