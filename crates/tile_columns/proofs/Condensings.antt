-- Accumulators at the places of a column, told of the points of a fold's box.
use Rattle.std.proofs.Common.{◌≡◌, ℕ, zero, suc, ◌+◌, ◌<◌, ◌≤◌, List, [], ◌∷◌, ◌++◌, length, get_or, take, drop, map, refl, sym, ap, ◌∙◌, subst, arith, ℤ, pos, cond, Bool, true, false, append_assoc}
use Rattle.std.specs.List.{All, range_with_len, flat_map}
use Rattle.std.proofs.lemmas.List.{get_or-map, append-nil, take_more, length-take-le}
use Rattle.std.proofs.lemmas.List.Elements.{All-map, All-append, All-nil}
use Rattle.std.proofs.lemmas.List.Sorted.{IsPermutation-refl}
use Rattle.std.proofs.lemmas.Grind.{common_steps}
use Rattle.std.proofs.lemmas.List.FromFn.{fill_by_all}
use Rattle.wcps_text.specs.declared.operator.Aggregate.{Aggregate}
use Rattle.wcps_mean.specs.declared.cell.Outcome.{Outcome}
use Rattle.wcps_mean.specs.declared.cell.Outcome.TheVariants.{Value, Fault}
use Rattle.arr_core.specs.Cells.{truth_of}
use Rattle.wcps_mean.specs.Condensers.{condensed, demanded}
use Rattle.tile_kernel.specs.declared.accumulator.Accumulator.{Accumulator}
use Rattle.tile_kernel.specs.Columns.{outcome_at}
use Rattle.tile_kernel.specs.Told.{Told, outcomes, demanded_of, demanded_from, AreRising, ComesTo}
use Rattle.tile_kernel.specs.Standing.{Stands, EachStands, EachTakesIn, AreOf}
use Rattle.tile_columns.specs.Frames.{under}
use Rattle.tile_columns.specs.Condensing.{told_of, under_vars}
use Rattle.tile_columns.proofs.Ranges.{same_over, by_places}

-- ---- what is told

outcomes_same : (p : ℕ) (os : List Outcome) → outcomes (map (λ (d : Outcome). (p, d)) os) ≡ os
outcomes_same p [] = refl
outcomes_same p (o ∷ os) = ap (λ l. o ∷ l) (outcomes_same p os)

outcomes_both : (a b : List Told) → outcomes (a ++ b) ≡ outcomes a ++ outcomes b
outcomes_both [] b = refl
outcomes_both (t ∷ a) b = ap (λ l. t.1 ∷ l) (outcomes_both a b)

-- the outcomes that are told are those that are demanded
pub outcomes_told : (c e : List ℤ → Outcome) (n : ℕ) (xs : List (List ℤ)) → outcomes (told_of c e n xs) ≡ flat_map (λ x. demanded (c x) (e x)) xs
outcomes_told c e n [] = refl
outcomes_told c e n (x ∷ xs) =
    outcomes_both (demanded_of n (c x) (e x)) (told_of c e (suc n) xs)
    ∙ ap (λ l. l ++ outcomes (told_of c e (suc n) xs)) (outcomes_same n (demanded (c x) (e x)))
    ∙ ap (λ l. demanded (c x) (e x) ++ l) (outcomes_told c e (suc n) xs)

-- one more point
pub told_more : (c e : List ℤ → Outcome) (n : ℕ) (xs : List (List ℤ)) (x : List ℤ) → told_of c e n (xs ++ x ∷ []) ≡ told_of c e n xs ++ demanded_of (n + length xs) (c x) (e x)
told_more c e n [] x = let z : n + 0 ≡ n = omega arith in append-nil (demanded_of n (c x) (e x)) ∙ ap (λ m. demanded_of m (c x) (e x)) (sym z)
told_more c e n (y ∷ xs) x =
    let z : suc n + length xs ≡ n + length (y ∷ xs) = omega arith in
    ap (λ l. demanded_of n (c y) (e y) ++ l) (told_more c e (suc n) xs x)
    ∙ sym (append_assoc (demanded_of n (c y) (e y)) (told_of c e (suc n) xs) (demanded_of (suc n + length xs) (c x) (e x)))
    ∙ ap (λ m. (demanded_of n (c y) (e y) ++ told_of c e (suc n) xs) ++ demanded_of m (c x) (e x)) z

all_at : (n : ℕ) (os : List Outcome) → All (λ (u : Told). n ≤ u.0) (map (λ (d : Outcome). (n, d)) os)
all_at n os = All-map (λ (u : Told). n ≤ u.0) (λ (d : Outcome). (n, d)) os (λ k d lt. omega arith)

all_from : (c e : List ℤ → Outcome) (n : ℕ) (xs : List (List ℤ)) → All (λ (u : Told). n ≤ u.0) (told_of c e n xs)
all_from c e n [] = All-nil (λ (u : Told). n ≤ u.0)
all_from c e n (x ∷ xs) =
    All-append (λ (u : Told). n ≤ u.0) (demanded_of n (c x) (e x)) (told_of c e (suc n) xs) (all_at n (demanded (c x) (e x)))
    (λ k d lt. let h = all_from c e (suc n) xs k d lt in omega (arith, h))

chosen_first : (n : ℕ) (b : Bool) (o : Outcome) (told : List Told) → All (λ (u : Told). suc n ≤ u.0) told → AreRising told → AreRising (map (λ (d : Outcome). (n, d)) (cond b (o ∷ []) []) ++ told)
chosen_first n true o told a r = (a, r)
chosen_first n false o told a r = r

rising_first : (n : ℕ) (c o : Outcome) (told : List Told) → All (λ (u : Told). suc n ≤ u.0) told → AreRising told → AreRising (demanded_of n c o ++ told)
rising_first n (Fault f) o told a r = (a, r)
rising_first n (Value z) o told a r = chosen_first n (truth_of z) o told a r

-- the points are told in the order of their places
pub rising_told : (c e : List ℤ → Outcome) (n : ℕ) (xs : List (List ℤ)) → AreRising (told_of c e n xs)
rising_told c e n [] = tt
rising_told c e n (x ∷ xs) = rising_first n (c x) (e x) (told_of c e (suc n) xs) (all_from c e (suc n) xs) (rising_told c e (suc n) xs)

-- ---- accumulators

pub takes_nothing : (folds : List Accumulator) → EachTakesIn folds folds (λ k. [])
takes_nothing folds = λ told s k d lt. subst (Stands (get_or folds k d)) (sym (append-nil (told k))) (s k d lt)

pub takes_same : (before after : List Accumulator) (more same : ℕ → List Told) → EachTakesIn before after more → ((k : ℕ) → k < length after → more k ≡ same k) → EachTakesIn before after same
takes_same before after more same h e = λ told s k d lt. subst (λ l. Stands (get_or after k d) (told k ++ l)) (e k lt) (h told s k d lt)

pub takes_then : (before mid after : List Accumulator) (more next : ℕ → List Told) → EachTakesIn before mid more → EachTakesIn mid after next → EachTakesIn before after (λ k. more k ++ next k)
takes_then before mid after more next h g = λ told s k d lt. subst (Stands (get_or after k d)) (append_assoc (told k) (more k) (next k)) (g (λ k. told k ++ more k) (h told s) k d lt)

column_at : (r : List ℤ → Outcome) (envs : List (List ℤ)) (column : List Outcome) (k : ℕ) → column ≡ map r envs → k < length envs → outcome_at column k ≡ r (get_or envs k [])
column_at r envs column k e lt = ap (λ c. outcome_at c k) e ∙ get_or-map r envs k [] (Value (pos 0)) lt

-- one point, without a condition
pub told_always : (r : List ℤ → Outcome) (envs : List (List ℤ)) (column : List Outcome) (place : ℕ) (before after : List Accumulator) → length after ≡ length envs → column ≡ map r envs
    → EachTakesIn before after (λ k. (place, outcome_at column k) ∷ []) → EachTakesIn before after (λ k. demanded_of place (Value (pos 1)) (r (get_or envs k [])))
told_always r envs column place before after n e h =
    takes_same before after (λ k. (place, outcome_at column k) ∷ []) (λ k. demanded_of place (Value (pos 1)) (r (get_or envs k []))) h
    (λ k lt. ap (λ o. (place, o) ∷ []) (column_at r envs column k e (omega arith)))

-- one point, under a condition
pub told_where : (c r : List ℤ → Outcome) (envs : List (List ℤ)) (condition column : List Outcome) (place : ℕ) (before after : List Accumulator) → length after ≡ length envs → condition ≡ map c envs → column ≡ map r envs
    → EachTakesIn before after (demanded_from place condition column) → EachTakesIn before after (λ k. demanded_of place (c (get_or envs k [])) (r (get_or envs k [])))
told_where c r envs condition column place before after n i e h =
    takes_same before after (demanded_from place condition column) (λ k. demanded_of place (c (get_or envs k [])) (r (get_or envs k []))) h
    (λ k lt. ap (λ o. demanded_of place o (outcome_at column k)) (column_at c envs condition k i (omega arith))
    ∙ ap (demanded_of place (c (get_or envs k []))) (column_at r envs column k e (omega arith)))

-- one point, whose coordinates are further variables
pub told_under : (c r : List ℤ → Outcome) (envs : List (List ℤ)) (x : List ℤ) (place : ℕ) (before after : List Accumulator) → length after ≡ length envs
    → EachTakesIn before after (λ k. demanded_of place (c (get_or (under envs x) k [])) (r (get_or (under envs x) k [])))
    → EachTakesIn before after (λ k. demanded_of place (under_vars c (get_or envs k []) x) (under_vars r (get_or envs k []) x))
told_under c r envs x place before after n h =
    takes_same before after (λ k. demanded_of place (c (get_or (under envs x) k [])) (r (get_or (under envs x) k []))) (λ k. demanded_of place (under_vars c (get_or envs k []) x) (under_vars r (get_or envs k []) x)) h
    (λ k lt. ap (λ e. demanded_of place (c e) (r e)) (get_or-map (λ e. e ++ x) envs k [] [] (omega arith)))

-- one more point of a box
pub point_more : (c r : ℕ → List ℤ → Outcome) (all : List (List ℤ)) (i : ℕ) (before mid after : List Accumulator) → i < length all
    → EachTakesIn before mid (λ k. told_of (c k) (r k) 0 (take i all)) → EachTakesIn mid after (λ k. demanded_of i (c k (get_or all i [])) (r k (get_or all i [])))
    → EachTakesIn before after (λ k. told_of (c k) (r k) 0 (take (i + 1) all))
point_more c r all i before mid after lt h g =
    let x = get_or all i [] in
    let n : 0 + length (take i all) ≡ i = omega (arith, length-take-le i all (omega arith)) in
    takes_same before after (λ k. told_of (c k) (r k) 0 (take i all) ++ demanded_of i (c k x) (r k x)) (λ k. told_of (c k) (r k) 0 (take (i + 1) all))
    (takes_then before mid after (λ k. told_of (c k) (r k) 0 (take i all)) (λ k. demanded_of i (c k x) (r k x)) h g)
    (λ k l. ap (λ m. told_of (c k) (r k) 0 (take i all) ++ demanded_of m (c k x) (r k x)) (sym n) ∙ sym (told_more (c k) (r k) 0 (take i all) x) ∙ ap (told_of (c k) (r k) 0) (sym (take_more all i [] lt)))

-- ---- outcomes

-- points that were told in their order
pub comes_in_order : (op : Aggregate) (told : List Told) (o : Outcome) → ComesTo op told o → AreRising told → o ≡ condensed op (outcomes told)
comes_in_order op told o h r = h told (record { same = IsPermutation-refl told; rising = r })

-- a fold at the places of a frame
pub condensed_all : (op : Aggregate) (c r : List ℤ → Outcome) (envs : List (List ℤ)) (all : List (List ℤ)) (n : ℕ) → n ≡ length envs
    → map (λ k. condensed op (outcomes (told_of (under_vars c (get_or envs k [])) (under_vars r (get_or envs k [])) 0 all))) (range_with_len 0 n) ≡ map (λ e. condensed op (flat_map (λ x. demanded (c (e ++ x)) (r (e ++ x))) all)) envs
condensed_all op c r envs all n e =
    same_over (λ k. condensed op (outcomes (told_of (under_vars c (get_or envs k [])) (under_vars r (get_or envs k [])) 0 all))) (λ k. condensed op (flat_map (λ x. demanded (c (get_or envs k [] ++ x)) (r (get_or envs k [] ++ x))) all)) n
    (λ k lt. ap (condensed op) (outcomes_told (under_vars c (get_or envs k [])) (under_vars r (get_or envs k [])) 0 all))
    ∙ ap (λ m. map (λ k. condensed op (flat_map (λ x. demanded (c (get_or envs k [] ++ x)) (r (get_or envs k [] ++ x))) all)) (range_with_len 0 m)) e
    ∙ sym (by_places (λ e. condensed op (flat_map (λ x. demanded (c (e ++ x)) (r (e ++ x))) all)) envs [])

-- a list that was lent whole
pub whole_back : {X : Type 0} (n : ℕ) (new old : List X) → n ≡ length old → length new ≡ length old → take n (new ++ drop (length new) old) ≡ new
whole_back n new old e same = grind (arith, common_steps)

-- ---- accumulators that are finished one after the other

abbrev pub AreFinished : List Accumulator → List Outcome → Type 0
AreFinished folds list = (k : ℕ) (d : Accumulator) (told : List Told) → k < length folds → Stands (get_or folds k d) told → ComesTo (get_or folds k d).running.op told (get_or list k (Value (pos 0)))

finished_at : (folds : List Accumulator) (a : Accumulator) (list : List Outcome) (o : Outcome) → length list ≡ length folds → ((told : List Told) → Stands a told → ComesTo a.running.op told o) → AreFinished folds list → AreFinished (folds ++ a ∷ []) (list ++ o ∷ [])
finished_at [] a [] o n h b zero d told lt s = h told s
finished_at [] a [] o n h b (suc k) d told lt s = absurd (omega arith)
finished_at [] a (p ∷ list) o n h b k d told lt s = absurd (omega arith)
finished_at (f ∷ folds) a [] o n h b k d told lt s = absurd (omega arith)
finished_at (f ∷ folds) a (p ∷ list) o n h b zero d told lt s = b zero d told (omega arith) s
finished_at (f ∷ folds) a (p ∷ list) o n h b (suc k) d told lt s = finished_at folds a list o (omega arith) h (λ k d told lt s. b (suc k) d told (omega arith) s) k d told (omega arith) s

pub finished_more : (folds : List Accumulator) (a : Accumulator) (list new : List Outcome) (o : Outcome) → length list ≡ length folds → new ≡ list ++ o ∷ [] → ((told : List Told) → Stands a told → ComesTo a.running.op told o) → AreFinished folds list → AreFinished (folds ++ a ∷ []) new
finished_more folds a list new o n e h b = subst (AreFinished (folds ++ a ∷ [])) (sym e) (finished_at folds a list o n h b)

finished_with : (d : Accumulator) (op : Aggregate) (folds : List Accumulator) (list : List Outcome) (told : ℕ → List Told) → length list ≡ length folds → AreOf op folds → EachStands folds told → ((k : ℕ) → k < length folds → AreRising (told k)) → AreFinished folds list
    → list ≡ map (λ k. condensed op (outcomes (told k))) (range_with_len 0 (length folds))
finished_with d op folds list told n a s r f =
    fill_by_all (λ k. condensed op (outcomes (told k))) list (length folds) (Value (pos 0)) n (λ k lt.
    comes_in_order (get_or folds k d).running.op (told k) (get_or list k (Value (pos 0))) (f k d (told k) lt (s k d lt)) (r k lt)
    ∙ ap (λ o. condensed o (outcomes (told k))) (a k d lt))

pub finished_all : (op : Aggregate) (folds : List Accumulator) (list : List Outcome) (told : ℕ → List Told) → length list ≡ length folds → AreOf op folds → EachStands folds told → ((k : ℕ) → k < length folds → AreRising (told k)) → AreFinished folds list
    → list ≡ map (λ k. condensed op (outcomes (told k))) (range_with_len 0 (length folds))
finished_all op [] [] told n a s r f = refl
finished_all op [] (o ∷ list) told n a s r f = absurd (omega arith)
finished_all op (d ∷ folds) list told n a s r f = finished_with d op (d ∷ folds) list told n a s r f

-- a fold whose accumulators were told of all points
pub all_told : (op : Aggregate) (c r : List ℤ → Outcome) (envs all : List (List ℤ)) (items lent new finished : List Accumulator) (list : List Outcome) → finished ≡ new → lent ≡ items → length new ≡ length envs → AreOf op items → EachStands items (λ k. [])
    → (AreOf op lent → AreOf op new) → EachTakesIn lent new (λ k. told_of (under_vars c (get_or envs k [])) (under_vars r (get_or envs k [])) 0 all)
    → ((op : Aggregate) (told : ℕ → List Told) → AreOf op finished → EachStands finished told → ((k : ℕ) → k < length finished → AreRising (told k)) → list ≡ map (λ k. condensed op (outcomes (told k))) (range_with_len 0 (length finished)))
    → list ≡ map (λ e. condensed op (flat_map (λ x. demanded (c (e ++ x)) (r (e ++ x))) all)) envs
all_told op c r envs all items lent new finished list e l n a s o h f =
    let told : ℕ → List Told = λ k. told_of (under_vars c (get_or envs k [])) (under_vars r (get_or envs k [])) 0 all in
    f op told (subst (AreOf op) (sym e) (o (subst (AreOf op) (sym l) a))) (subst (λ v. EachStands v told) (sym e) (h (λ k. []) (subst (λ v. EachStands v (λ k. [])) (sym l) s)))
    (λ k lt. rising_told (under_vars c (get_or envs k [])) (under_vars r (get_or envs k [])) 0 all)
    ∙ condensed_all op c r envs all (length finished) (ap length e ∙ n)
