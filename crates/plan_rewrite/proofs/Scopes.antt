-- Variables inside their intervals, and indexes.
use Rattle.std.proofs.Common.{◌≡◌, ℕ, zero, suc, ◌+◌, ◌<◌, ◌≤◌, List, [], ◌∷◌, ◌++◌, length, map, take, get_or, refl, sym, ap, ◌∙◌, subst, arith, ℤ, pos, ◌≤ℤ◌, ◌+ℤ◌, length-append, append_assoc}
use Rattle.std.specs.Prelude.{Option, Some, None, slice_get, IsSomeAnd}
use Rattle.std.specs.List.{range_with_len, flat_map}
use Rattle.std.proofs.Math.Seq.{get_or-append_seam}
use Rattle.std.proofs.lemmas.Int.{ints}
use Rattle.std.proofs.lemmas.List.{map-append, get_or_append_left}
use Rattle.arr_core.specs.declared.domain.Axis.{Axis}
use Rattle.arr_core.specs.Domains.{points, coordinates, size_of}
use Rattle.plan_ir.specs.declared.body.Index.{Index}
use Rattle.plan_ir.specs.declared.body.Index.TheVariants.{Const, Var}
use Rattle.plan_ir.specs.declared.body.Interval.{Interval}
use Rattle.plan_ir.specs.Run.{number_at, numbers_at}
use Rattle.plan_ir.specs.Placed.{spans, LiesWithin, LiesIn, Indexes}
use Rattle.plan_rewrite.specs.Inlining.{levels}

-- each number lies in its variable's interval, where that has numbers
abbrev pub Lie : List Interval → List ℤ → Type 0
Lie [] [] = Unit {0}
Lie (i ∷ scope) (x ∷ vars) = (i.lo ≤ℤ i.hi → (i.lo ≤ℤ x) × (x ≤ℤ i.hi)) × Lie scope vars
Lie [] (x ∷ vars) = ⊥
Lie (i ∷ scope) [] = ⊥

pub lie-length : (scope : List Interval) (vars : List ℤ) → Lie scope vars → length vars ≡ length scope
lie-length [] [] h = refl
lie-length [] (x ∷ vars) h = absurd h
lie-length (i ∷ scope) [] h = absurd h
lie-length (i ∷ scope) (x ∷ vars) h = ap suc (lie-length scope vars h.1)

pub lie-append : (a b : List Interval) (xs ys : List ℤ) → Lie a xs → Lie b ys → Lie (a ++ b) (xs ++ ys)
lie-append [] b [] ys h k = k
lie-append [] b (x ∷ xs) ys h k = absurd h
lie-append (i ∷ a) b [] ys h k = absurd h
lie-append (i ∷ a) b (x ∷ xs) ys h k = (h.0, lie-append a b xs ys h.1 k)

pub lie-one : (scope : List Interval) (i : Interval) (vars : List ℤ) (z : ℤ) → Lie scope vars → i.lo ≤ℤ z → z ≤ℤ i.hi → Lie (scope ++ i ∷ []) (vars ++ z ∷ [])
lie-one scope i vars z h l u = lie-append scope (i ∷ []) vars (z ∷ []) h ((λ o. (l, u)), tt)

-- of each element of a list
abbrev pub Each : {X : Type 0} → (X → Type 0) → List X → Type 0
Each P [] = Unit {0}
Each P (x ∷ xs) = P x × Each P xs

each-append : {X : Type 0} (P : X → Type 0) (xs ys : List X) → Each P xs → Each P ys → Each P (xs ++ ys)
each-append P [] ys a b = b
each-append P (x ∷ xs) ys a b = (a.0, each-append P xs ys a.1 b)

each-map : {X Y : Type 0} (P : Y → Type 0) (Q : X → Type 0) (f : X → Y) (xs : List X) → ((x : X) → Q x → P (f x)) → Each Q xs → Each P (map f xs)
each-map P Q f [] h a = tt
each-map P Q f (x ∷ xs) h a = (h x a.0, each-map P Q f xs h a.1)

each-flat_map : {X Y : Type 0} (P : Y → Type 0) (Q : X → Type 0) (f : X → List Y) (xs : List X) → ((x : X) → Q x → Each P (f x)) → Each Q xs → Each P (flat_map f xs)
each-flat_map P Q f [] h a = tt
each-flat_map P Q f (x ∷ xs) h a = each-append P (f x) (flat_map f xs) (h x a.0) (each-flat_map P Q f xs h a.1)

below_range : (a n m : ℕ) → a + n ≤ m → Each (λ i. i < m) (range_with_len a n)
below_range a zero m le = tt
below_range a (suc n) m le = (omega arith, below_range (a + 1) n m (omega arith))

within : (a : Axis) (i : ℕ) → i < size_of a → (a.lo ≤ℤ a.hi) → (a.lo ≤ℤ (a.lo +ℤ pos i)) × ((a.lo +ℤ pos i) ≤ℤ a.hi)
within a i lt o = (omega (arith, ints), omega (arith, ints))

-- each point of a box lies in it
pub points-lie : (box : List Axis) → Each (Lie (spans box)) (points box)
points-lie [] = (tt, tt)
points-lie (a ∷ box) =
    each-flat_map (Lie (spans (a ∷ box))) (λ x. (a.lo ≤ℤ a.hi) → (a.lo ≤ℤ x) × (x ≤ℤ a.hi)) (λ x. map (λ p. x ∷ p) (points box)) (coordinates a)
    (λ x lies. each-map (Lie (spans (a ∷ box))) (Lie (spans box)) (λ p. x ∷ p) (points box) (λ p h. (lies, h)) (points-lie box))
    (each-map (λ x. (a.lo ≤ℤ a.hi) → (a.lo ≤ℤ x) × (x ≤ℤ a.hi)) (λ i. i < size_of a) (λ i. a.lo +ℤ pos i) (range_with_len 0 (size_of a)) (λ i lt. within a i lt) (below_range 0 (size_of a) (size_of a) (omega arith)))

-- the same lists at each element
pub flat-same : {X Y : Type 0} (P : X → Type 0) (f g : X → List Y) (xs : List X) → ((x : X) → P x → f x ≡ g x) → Each P xs → flat_map f xs ≡ flat_map g xs
flat-same P f g [] h a = refl
flat-same P f g (x ∷ xs) h a = ap (λ y. y ++ flat_map f xs) (h x a.0) ∙ ap (λ l. g x ++ l) (flat-same P f g xs h a.1)

-- an element of a list that was mapped
pub at-map : {X Y : Type 0} (f : X → Y) (xs : List X) (k : ℕ) (d : X) → get_or (map f xs) k (f d) ≡ f (get_or xs k d)
at-map f [] k d = refl
at-map f (x ∷ xs) zero d = refl
at-map f (x ∷ xs) (suc k) d = at-map f xs k d

pub some-more : {X : Type 0} (P : X → Type 0) (xs more : List X) (k : ℕ) → IsSomeAnd (slice_get xs k) P → IsSomeAnd (slice_get (xs ++ more) k) P
some-more P [] more k h = absurd h
some-more P (x ∷ xs) more zero h = h
some-more P (x ∷ xs) more (suc k) h = some-more P xs more k h

pub some-within : {X : Type 0} (P : X → Type 0) (xs : List X) (k : ℕ) → IsSomeAnd (slice_get xs k) P → k < length xs
some-within P [] k h = absurd h
some-within P (x ∷ xs) zero h = omega arith
some-within P (x ∷ xs) (suc k) h = let i = some-within P xs k h in omega (arith, i)

pub some-at : {X : Type 0} (P : X → Type 0) (xs : List X) (x : X) (more : List X) (n : ℕ) → length xs ≡ n → P x → IsSomeAnd (slice_get (xs ++ x ∷ more) n) P
some-at P [] x more zero e h = h
some-at P [] x more (suc n) e h = absurd (omega (arith, e))
some-at P (y ∷ xs) x more zero e h = absurd (omega (arith, e))
some-at P (y ∷ xs) x more (suc n) e h = some-at P xs x more n (omega (arith, e)) h

some-mono : {X : Type 0} (P Q : X → Type 0) (o : Option X) → ((x : X) → P x → Q x) → IsSomeAnd o P → IsSomeAnd o Q
some-mono P Q None h s = s
some-mono P Q (Some x) h s = h x s

within_trans : (a b c : Interval) → LiesWithin a b → LiesWithin b c → LiesWithin a c
within_trans a b c h k =
    let h0 = h.0 in let h1 = h.1 in let k0 = k.0 in let k1 = k.1 in
    (omega (arith, ints), omega (arith, ints))

within_refl : (a : Interval) → LiesWithin a a
within_refl a = (omega (arith, ints), omega (arith, ints))

pub lies-wider : (scope : List Interval) (i : Index) (b a : Interval) → LiesWithin b a → LiesIn b scope i → LiesIn a scope i
lies-wider scope (Const z) b a h l =
    let h0 = h.0 in let h1 = h.1 in let l0 = l.0 in let l1 = l.1 in
    (omega (arith, ints), omega (arith, ints))
lies-wider scope (Var k) b a h l = some-mono (λ c. LiesWithin c b) (λ c. LiesWithin c a) (slice_get scope k) (λ c w. within_trans c b a w h) l

pub lies-more : (scope more : List Interval) (a : Interval) (i : Index) → LiesIn a scope i → LiesIn a (scope ++ more) i
lies-more scope more a (Const z) l = l
lies-more scope more a (Var k) l = some-more (λ b. LiesWithin b a) scope more k l

pub indexes-more : (old scope more : List Interval) (is : List Index) → Indexes old scope is → Indexes old (scope ++ more) is
indexes-more [] scope more [] h = tt
indexes-more [] scope more (i ∷ is) h = h
indexes-more (a ∷ old) scope more [] h = h
indexes-more (a ∷ old) scope more (i ∷ is) h = (lies-more scope more a i h.0, indexes-more old scope more is h.1)

pub indexes-append : (a b scope : List Interval) (is js : List Index) → Indexes a scope is → Indexes b scope js → Indexes (a ++ b) scope (is ++ js)
indexes-append [] b scope [] js h k = k
indexes-append [] b scope (i ∷ is) js h k = absurd h
indexes-append (i ∷ a) b scope [] js h k = absurd h
indexes-append (i ∷ a) b scope (j ∷ is) js h k = (h.0, indexes-append a b scope is js h.1 k)

-- the variables that come last lie in their own intervals
pub levels-lie : (scope more : List Interval) (n : ℕ) → length scope ≡ n → Indexes more (scope ++ more) (levels n more)
levels-lie scope [] n e = tt
levels-lie scope (i ∷ more) n e =
    let longer : length (scope ++ i ∷ []) ≡ n + 1 = omega (arith, length-append scope (i ∷ []), e) in (
      some-at (λ b. LiesWithin b i) scope i more n e (within_refl i),
      subst (λ l. Indexes more l (levels (n + 1) more)) (append_assoc scope (i ∷ []) more) (levels-lie (scope ++ i ∷ []) more (n + 1) longer),
    )

-- more variables change no index that lies among those before
pub number-more : (scope : List Interval) (vars more : List ℤ) (a : Interval) (i : Index) → length vars ≡ length scope → LiesIn a scope i → number_at (vars ++ more) i ≡ number_at vars i
number-more scope vars more a (Const z) e l = refl
number-more scope vars more a (Var k) e l = get_or_append_left vars more (pos 0) k (let lt = some-within (λ b. LiesWithin b a) scope k l in omega (arith, lt, e))

pub numbers-more : (old scope : List Interval) (vars more : List ℤ) (is : List Index) → length vars ≡ length scope → Indexes old scope is → numbers_at (vars ++ more) is ≡ numbers_at vars is
numbers-more [] scope vars more [] e h = refl
numbers-more [] scope vars more (i ∷ is) e h = absurd h
numbers-more (a ∷ old) scope vars more [] e h = absurd h
numbers-more (a ∷ old) scope vars more (i ∷ is) e h =
    ap (λ z. z ∷ numbers_at (vars ++ more) is) (number-more scope vars more a i e h.0)
    ∙ ap (λ l. number_at vars i ∷ l) (numbers-more old scope vars more is e h.1)

-- the numbers of the variables that come last
pub numbers-levels : (vars xs : List ℤ) (more : List Interval) (n : ℕ) → length vars ≡ n → length xs ≡ length more → numbers_at (vars ++ xs) (levels n more) ≡ xs
numbers-levels vars [] [] n e l = refl
numbers-levels vars [] (i ∷ more) n e l = absurd (omega (arith, l))
numbers-levels vars (x ∷ xs) [] n e l = absurd (omega (arith, l))
numbers-levels vars (x ∷ xs) (i ∷ more) n e l =
    let here : get_or (vars ++ x ∷ xs) n (pos 0) ≡ x = ap (λ k. get_or (vars ++ x ∷ xs) k (pos 0)) (sym e) ∙ get_or-append_seam vars x xs (pos 0) in
    let longer : length (vars ++ x ∷ []) ≡ n + 1 = omega (arith, length-append vars (x ∷ []), e) in
    ap (λ y. y ∷ numbers_at (vars ++ x ∷ xs) (levels (n + 1) more)) here
    ∙ ap (λ l. x ∷ l) (ap (λ v. numbers_at v (levels (n + 1) more)) (sym (append_assoc vars (x ∷ []) xs)) ∙ numbers-levels (vars ++ x ∷ []) xs more (n + 1) longer (omega (arith, l)))

-- the numbers under further variables, one for each further index
pub numbers-with : (old scope : List Interval) (env : List Index) (vars xs : List ℤ) (more : List Interval) → Indexes old scope env → length vars ≡ length scope → length xs ≡ length more → numbers_at (vars ++ xs) (env ++ levels (length scope) more) ≡ numbers_at vars env ++ xs
numbers-with old scope env vars xs more h e f =
    map-append (number_at (vars ++ xs)) env (levels (length scope) more)
    ∙ ap (λ z. z ++ numbers_at (vars ++ xs) (levels (length scope) more)) (numbers-more old scope vars xs env e h)
    ∙ ap (λ z. numbers_at vars env ++ z) (numbers-levels vars xs more (length scope) e f)

pub numbers-under : (old scope : List Interval) (env : List Index) (vars xs : List ℤ) (more : List Interval) → Indexes old scope env → Lie scope vars → Lie more xs → numbers_at (vars ++ xs) (env ++ levels (length scope) more) ≡ numbers_at vars env ++ xs
numbers-under old scope env vars xs more h l m = numbers-with old scope env vars xs more h (lie-length scope vars l) (lie-length more xs m)

-- indexes under further variables
pub indexes-under : (old scope more : List Interval) (env : List Index) → Indexes old scope env → Indexes (old ++ more) (scope ++ more) (env ++ levels (length scope) more)
indexes-under old scope more env h =
    indexes-append old more (scope ++ more) env (levels (length scope) more) (indexes-more old scope more env h) (levels-lie scope more (length scope) refl)

-- one variable more
pub levels-more : (n : ℕ) (axes : List Axis) (k : ℕ) → k < length axes → levels n (spans (take (suc k) axes)) ≡ levels n (spans (take k axes)) ++ Var (n + k) ∷ []
levels-more n [] k lt = absurd (omega arith)
levels-more n (a ∷ axes) zero lt = let e : n ≡ n + 0 = omega arith in ap (λ m. Var m ∷ []) e
levels-more n (a ∷ axes) (suc k) lt =
    let e : (n + 1) + k ≡ n + suc k = omega arith in
    ap (λ l. Var n ∷ l) (levels-more (n + 1) axes k (omega (arith, lt)) ∙ ap (λ m. levels (n + 1) (spans (take k axes)) ++ Var m ∷ []) e)
