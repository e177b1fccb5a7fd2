-- Accumulators of columns.
use Rattle.std.proofs.Common.{◌≡◌, ℕ, zero, suc, ◌+◌, ◌<◌, ◌≤◌, ◌≢◌, arith, List, [], ◌∷◌, ◌++◌, length, get_or, set, take, map, refl, sym, ap, ◌∙◌, subst, ℤ, pos, Option, Some, None, below_more, get_or-set_other, get_or-set_same}
use Rattle.std.specs.Prelude.{slice_get, IfSome, replicate, sum, Bool, true, false, cond}
use Rattle.std.specs.List.{All}
use Rattle.std.proofs.lemmas.List.{take_more, take_all, append-nil, append_assoc, map-append, length-map}
use Rattle.std.proofs.lemmas.List.Elements.{All-cons, All-nil}
use Rattle.wcps_mean.specs.declared.running.Running.{Running}
use Rattle.wcps_text.specs.declared.operator.Aggregate.{Aggregate}
use Rattle.wcps_mean.specs.declared.cell.Outcome.{Outcome}
use Rattle.wcps_mean.specs.declared.cell.Outcome.TheVariants.{Value, Fault}
use Rattle.arr_core.specs.Cells.{truth_of}
use Rattle.wcps_mean.specs.Condensers.{values, demanded}
use Rattle.wcps_mean.specs.Feeding.{Keeps}
use Rattle.tile_kernel.specs.declared.accumulator.Accumulator.{Accumulator}
use Rattle.tile_kernel.specs.Columns.{outcome_at}
use Rattle.tile_kernel.specs.Told.{Told, outcomes, told_at, demanded_of, demanded_at, IsValue, IsFirst}
use Rattle.tile_kernel.specs.Selected.{selected, taken_in, taken}
use Rattle.tile_kernel.specs.Standing.{Stands, IsCondensed, StandsAnywhere, IsCondensedWhere}
use Rattle.tile_kernel.specs.Repeated.{repeated}
use Rattle.tile_kernel.proofs.Repeats.{sum-more}
use Rattle.tile_kernel.proofs.Places.{outcome_there}

-- ---- cells at their places

pub length-told_at : (ps : List ℕ) (os : List Outcome) → length ps ≡ length os → length (told_at ps os) ≡ length os
length-told_at [] [] h = refl
length-told_at [] (o ∷ os) h = absurd (omega arith)
length-told_at (p ∷ ps) [] h = absurd (omega arith)
length-told_at (p ∷ ps) (o ∷ os) h = let e = length-told_at ps os (omega arith) in omega arith

get_or-told_at : (ps : List ℕ) (os : List Outcome) (k : ℕ) (p : ℕ) (o : Outcome) (d : Told) → length ps ≡ length os → k < length os → get_or (told_at ps os) k d ≡ (get_or ps k p, get_or os k o)
get_or-told_at ps [] k p o d h lt = absurd (omega arith)
get_or-told_at [] (q ∷ os) k p o d h lt = absurd (omega arith)
get_or-told_at (q ∷ ps) (r ∷ os) zero p o d h lt = refl
get_or-told_at (q ∷ ps) (r ∷ os) (suc k) p o d h lt = get_or-told_at ps os k p o d (omega arith) (omega arith)

pub told_next : (ps : List ℕ) (os : List Outcome) (k p : ℕ) (o : Outcome) (before after : List Told → Type 0) → length ps ≡ length os → k < length os → p ≡ get_or ps k 0 → slice_get os k ≡ Some o
    → ((told : List Told) → before told → after (told ++ (p, o) ∷ [])) → before (take k (told_at ps os)) → after (take (k + 1) (told_at ps os))
told_next ps os k p o before after h lt e f step s =
    let n = length-told_at ps os h in
    let there : outcome_at os k ≡ o = outcome_there os k o f in
    let here : get_or (told_at ps os) k (p, o) ≡ (p, o) = get_or-told_at ps os k 0 (Value (pos 0)) (p, o) h lt ∙ ap (λ q. (q, outcome_at os k)) (sym e) ∙ ap (λ x. (p, x)) there in
    subst after (sym (take_more (told_at ps os) k (p, o) (omega arith) ∙ ap (λ t. take k (told_at ps os) ++ t ∷ []) here)) (step (take k (told_at ps os)) s)

pub told_more : (ps : List ℕ) (os : List Outcome) (k p : ℕ) (o : Outcome) (a b : Accumulator) → length ps ≡ length os → k < length os → p ≡ get_or ps k 0 → slice_get os k ≡ Some o
    → ((told : List Told) → Stands a told → Stands b (told ++ (p, o) ∷ [])) → Stands a (take k (told_at ps os)) → Stands b (take (k + 1) (told_at ps os))
told_more ps os k p o a b = told_next ps os k p o (Stands a) (Stands b)

-- ---- under a condition

pub demanded_suc : (ps : List ℕ) (cs os : List Outcome) (k p : ℕ) (c o : Outcome) → length ps ≡ length os → length cs ≡ length os → k < length os → p ≡ get_or ps k 0 → slice_get cs k ≡ Some c → slice_get os k ≡ Some o
    → demanded_at (take (suc k) ps) (take (suc k) cs) (take (suc k) os) ≡ demanded_at (take k ps) (take k cs) (take k os) ++ demanded_of p c o
demanded_suc ps cs [] k p c o h g lt e f i = absurd (omega arith)
demanded_suc [] cs (y ∷ os) k p c o h g lt e f i = absurd (omega arith)
demanded_suc (q ∷ ps) [] (y ∷ os) k p c o h g lt e f i = absurd (omega arith)
demanded_suc (q ∷ ps) (x ∷ cs) (y ∷ os) zero p c o h g lt e f i =
    let a : x ≡ c = cc in
    let b : y ≡ o = cc in
    append-nil (demanded_of q x y) ∙ ap (λ r. demanded_of r x y) (sym e) ∙ ap (λ r. demanded_of p r y) a ∙ ap (demanded_of p c) b
demanded_suc (q ∷ ps) (x ∷ cs) (y ∷ os) (suc k) p c o h g lt e f i =
    ap (λ l. demanded_of q x y ++ l) (demanded_suc ps cs os k p c o (omega arith) (omega arith) (omega arith) e f i)
    ∙ sym (append_assoc (demanded_of q x y) (demanded_at (take k ps) (take k cs) (take k os)) (demanded_of p c o))

pub demanded_more : (ps : List ℕ) (cs os : List Outcome) (k p : ℕ) (c o : Outcome) (a b : Accumulator) → length ps ≡ length os → length cs ≡ length os → k < length os → p ≡ get_or ps k 0 → slice_get cs k ≡ Some c → slice_get os k ≡ Some o
    → ((told : List Told) → Stands a told → Stands b (told ++ demanded_of p c o)) → Stands a (demanded_at (take k ps) (take k cs) (take k os)) → Stands b (demanded_at (take (k + 1) ps) (take (k + 1) cs) (take (k + 1) os))
demanded_more ps cs os k p c o a b h g lt e f i step s =
    let n : suc k ≡ k + 1 = omega arith in
    subst (λ m. Stands b (demanded_at (take m ps) (take m cs) (take m os))) n
    (subst (Stands b) (sym (demanded_suc ps cs os k p c o h g lt e f i)) (step (demanded_at (take k ps) (take k cs) (take k os)) s))

whole : {X : Type 0} (n : ℕ) (xs : List X) → length xs ≤ n → take n xs ≡ xs
whole zero [] h = refl
whole zero (x ∷ xs) h = absurd (omega arith)
whole (suc n) [] h = refl
whole (suc n) (x ∷ xs) h = ap (λ l. x ∷ l) (whole n xs (omega arith))

pub told_all : (ps : List ℕ) (os : List Outcome) (k : ℕ) (stands : List Told → Type 0) → length ps ≡ length os → length os ≤ k → stands (take k (told_at ps os)) → stands (told_at ps os)
told_all ps os k stands h le s = let n = length-told_at ps os h in subst stands (whole k (told_at ps os) (omega arith)) s

pub demanded_whole : (ps : List ℕ) (cs os : List Outcome) (k : ℕ) (a : Accumulator) → length ps ≡ length os → length cs ≡ length os → length os ≤ k → Stands a (demanded_at (take k ps) (take k cs) (take k os)) → Stands a (demanded_at ps cs os)
demanded_whole ps cs os k a h g le s =
    subst (Stands a) (ap (λ l. demanded_at l (take k cs) (take k os)) (whole k ps (omega arith)) ∙ ap (λ l. demanded_at ps l (take k os)) (whole k cs (omega arith)) ∙ ap (demanded_at ps cs) (whole k os le)) s

-- ---- outcomes, each as often as it counts

outcomes-append : (a b : List Told) → outcomes (a ++ b) ≡ outcomes a ++ outcomes b
outcomes-append [] b = refl
outcomes-append (t ∷ a) b = ap (λ l. t.1 ∷ l) (outcomes-append a b)

outcomes-same : (p : ℕ) (os : List Outcome) → outcomes (map (λ (d : Outcome). (p, d)) os) ≡ os
outcomes-same p [] = refl
outcomes-same p (o ∷ os) = ap (λ l. o ∷ l) (outcomes-same p os)

pub outcomes-told_at : (ps : List ℕ) (os : List Outcome) → length ps ≡ length os → outcomes (told_at ps os) ≡ os
outcomes-told_at [] [] h = refl
outcomes-told_at [] (o ∷ os) h = absurd (omega arith)
outcomes-told_at (p ∷ ps) [] h = absurd (omega arith)
outcomes-told_at (p ∷ ps) (o ∷ os) h = ap (λ l. o ∷ l) (outcomes-told_at ps os (omega arith))

-- the outcomes that a condition keeps, wherever their places are
abbrev pub kept : List Outcome → List Outcome → List Outcome
kept [] os = []
kept (c ∷ cs) [] = []
kept (c ∷ cs) (o ∷ os) = demanded c o ++ kept cs os

pub outcomes-demanded_at : (ps : List ℕ) (cs os : List Outcome) → length ps ≡ length os → outcomes (demanded_at ps cs os) ≡ kept cs os
outcomes-demanded_at [] [] os h = refl
outcomes-demanded_at [] (c ∷ cs) [] h = refl
outcomes-demanded_at [] (c ∷ cs) (o ∷ os) h = absurd (omega arith)
outcomes-demanded_at (p ∷ ps) [] os h = refl
outcomes-demanded_at (p ∷ ps) (c ∷ cs) [] h = refl
outcomes-demanded_at (p ∷ ps) (c ∷ cs) (o ∷ os) h =
    outcomes-append (demanded_of p c o) (demanded_at ps cs os)
    ∙ ap (λ l. l ++ outcomes (demanded_at ps cs os)) (outcomes-same p (demanded c o))
    ∙ ap (λ l. demanded c o ++ l) (outcomes-demanded_at ps cs os (omega arith))

pub taken-once : (os : List Outcome) → taken (λ k. 1) os ≡ os
taken-once [] = refl
taken-once (o ∷ os) = ap (λ l. o ∷ l) (taken-once os)

pub taken-counted : (os : List Outcome) (ns : List ℕ) → length os ≡ length ns → taken (λ k. get_or ns k 0) os ≡ repeated os ns
taken-counted [] ns h = refl
taken-counted (o ∷ os) [] h = absurd (omega arith)
taken-counted (o ∷ os) (n ∷ ns) h = ap (λ l. replicate n o ++ l) (taken-counted os ns (omega arith))

pub taken-none : (t : ℕ → ℕ) (os : List Outcome) → ((k : ℕ) → t k ≡ 0) → taken t os ≡ []
taken-none t [] h = refl
taken-none t (o ∷ os) h = ap (λ n. replicate n o ++ taken (λ k. t (suc k)) os) (h 0) ∙ taken-none (λ k. t (suc k)) os (λ k. h (suc k))

pub taken-alike : (t u : ℕ → ℕ) (os : List Outcome) → ((k : ℕ) → t k ≡ u k) → taken t os ≡ taken u os
taken-alike t u [] h = refl
taken-alike t u (o ∷ os) h = ap (λ n. replicate n o ++ taken (λ k. t (suc k)) os) (h 0) ∙ ap (λ l. replicate (u 0) o ++ l) (taken-alike (λ k. t (suc k)) (λ k. u (suc k)) os (λ k. h (suc k)))

-- what a condition's value keeps of one outcome
chosen_once : (b : Bool) (o : Outcome) → cond b (o ∷ []) [] ≡ replicate (cond b 1 0) o
chosen_once true o = refl
chosen_once false o = refl

chosen_more : (b : Bool) (n : ℕ) (o : Outcome) (os : List Outcome) → cond b (o ∷ []) [] ++ (replicate (cond b n 0) o ++ os) ≡ replicate (cond b (suc n) 0) o ++ os
chosen_more true n o os = refl
chosen_more false n o os = refl

chosen_none : (b : Bool) (o : Outcome) (os : List Outcome) → os ≡ replicate (cond b 0 0) o ++ os
chosen_none true o os = refl
chosen_none false o os = refl

-- the same condition for each outcome of a run
kept-same : (n : ℕ) (z : ℤ) (o : Outcome) (cs os : List Outcome) → kept (replicate n (Value z) ++ cs) (replicate n o ++ os) ≡ replicate (cond (truth_of z) n 0) o ++ kept cs os
kept-same zero z o cs os = chosen_none (truth_of z) o (kept cs os)
kept-same (suc n) z o cs os = ap (λ l. cond (truth_of z) (o ∷ []) [] ++ l) (kept-same n z o cs os) ∙ chosen_more (truth_of z) n o (kept cs os)

pub kept-where : (cs os : List Outcome) (v : ℕ → ℤ) → length cs ≡ length os → ((k : ℕ) → k < length cs → outcome_at cs k ≡ Value (v k)) → kept cs os ≡ taken (λ k. cond (truth_of (v k)) 1 0) os
kept-where [] [] v h at = refl
kept-where [] (o ∷ os) v h at = absurd (omega arith)
kept-where (c ∷ cs) [] v h at = absurd (omega arith)
kept-where (c ∷ cs) (o ∷ os) v h at =
    ap (λ d. demanded d o ++ kept cs os) (at 0 (omega arith)) ∙ ap (λ l. l ++ kept cs os) (chosen_once (truth_of (v 0)) o)
    ∙ ap (λ l. replicate (cond (truth_of (v 0)) 1 0) o ++ l) (kept-where cs os (λ k. v (suc k)) (omega arith) (λ k lt. at (suc k) (omega arith)))

pub kept-counted : (cs os : List Outcome) (ns : List ℕ) (v : ℕ → ℤ) → length cs ≡ length ns → length os ≡ length ns → ((k : ℕ) → k < length cs → outcome_at cs k ≡ Value (v k))
    → kept (repeated cs ns) (repeated os ns) ≡ taken (λ k. cond (truth_of (v k)) (get_or ns k 0) 0) os
kept-counted [] [] ns v h g at = refl
kept-counted [] (o ∷ os) [] v h g at = absurd (omega arith)
kept-counted [] (o ∷ os) (n ∷ ns) v h g at = absurd (omega arith)
kept-counted (c ∷ cs) os [] v h g at = absurd (omega arith)
kept-counted (c ∷ cs) [] (n ∷ ns) v h g at = absurd (omega arith)
kept-counted (c ∷ cs) (o ∷ os) (n ∷ ns) v h g at =
    ap (λ d. kept (replicate n d ++ repeated cs ns) (replicate n o ++ repeated os ns)) (at 0 (omega arith))
    ∙ kept-same n (v 0) o (repeated cs ns) (repeated os ns)
    ∙ ap (λ l. replicate (cond (truth_of (v 0)) n 0) o ++ l) (kept-counted cs os ns (λ k. v (suc k)) (omega arith) (omega arith) (λ k lt. at (suc k) (omega arith)))

-- the values that are selected, from the first one on
selected-cons : (t : ℕ → ℕ) (v : ℕ → ℤ) (n : ℕ) → selected t v (suc n) ≡ replicate (t 0) (v 0) ++ selected (λ k. t (suc k)) (λ k. v (suc k)) n
selected-cons t v zero = sym (append-nil (replicate (t 0) (v 0)))
selected-cons t v (suc n) =
    ap (λ l. l ++ replicate (t (suc n)) (v (suc n))) (selected-cons t v n)
    ∙ append_assoc (replicate (t 0) (v 0)) (selected (λ k. t (suc k)) (λ k. v (suc k)) n) (replicate (t (suc n)) (v (suc n)))

value-copies : (n : ℕ) (z : ℤ) → map Value (replicate n z) ≡ replicate n (Value z)
value-copies zero z = refl
value-copies (suc n) z = ap (λ l. Value z ∷ l) (value-copies n z)

taken-values : (t : ℕ → ℕ) (v : ℕ → ℤ) (os : List Outcome) → ((k : ℕ) → k < length os → outcome_at os k ≡ Value (v k)) → taken t os ≡ map Value (selected t v (length os))
taken-values t v [] at = refl
taken-values t v (o ∷ os) at =
    ap (λ d. replicate (t 0) d ++ taken (λ k. t (suc k)) os) (at 0 (omega arith))
    ∙ ap (λ l. replicate (t 0) (Value (v 0)) ++ l) (taken-values (λ k. t (suc k)) (λ k. v (suc k)) os (λ k lt. at (suc k) (omega arith)))
    ∙ ap (λ l. l ++ map Value (selected (λ k. t (suc k)) (λ k. v (suc k)) (length os))) (sym (value-copies (t 0) (v 0)))
    ∙ sym (map-append Value (replicate (t 0) (v 0)) (selected (λ k. t (suc k)) (λ k. v (suc k)) (length os)))
    ∙ ap (map Value) (sym (selected-cons t v (length os)))

values-same : (zs : List ℤ) → values (map Value zs) ≡ zs
values-same [] = refl
values-same (z ∷ zs) = ap (λ l. z ∷ l) (values-same zs)

value_is : (o : Outcome) (z : ℤ) → o ≡ Value z → IsValue o
value_is o z e = subst IsValue (sym e) tt

all_values : (told : List Told) (zs : List ℤ) → outcomes told ≡ map Value zs → All (λ (t : Told). IsValue t.1) told
all_values [] zs e = All-nil (λ (t : Told). IsValue t.1)
all_values (t ∷ told) [] e = absurd (cc)
all_values (t ∷ told) (z ∷ zs) e =
    let here : t.1 ≡ Value z = cc in
    let rest : outcomes told ≡ map Value zs = cc in
    All-cons (λ (t : Told). IsValue t.1) t told (value_is t.1 z here) (all_values told zs rest)

length-outcomes : (told : List Told) → length (outcomes told) ≡ length told
length-outcomes [] = refl
length-outcomes (t ∷ told) = ap suc (length-outcomes told)

-- what is kept of the values stands for the outcomes, each as often as it counts
pub stands_taken : (r : Running) (t : ℕ → ℕ) (v : ℕ → ℤ) (n : ℕ) (heads : List Outcome) → n ≡ length heads → ((k : ℕ) → k < length heads → outcome_at heads k ≡ Value (v k))
    → r.count ≡ length (selected t v n) → r.fault ≡ None → Keeps r.op r (selected t v n) → IsCondensed t heads (record { running = r; place = 0 })
stands_taken r t v n heads e at m f k = λ told h.
    let zs = selected t v n in
    let all : outcomes told ≡ map Value zs = h ∙ taken-values t v heads at ∙ ap (λ n. map Value (selected t v n)) (sym e) in
    let l : length (outcomes told) ≡ length (map Value zs) = ap length all in
    let long = length-map zs Value in
    let same = length-outcomes told in
    let faultless = all_values told zs all in
    record {
      counted = omega arith;
      faulted = subst (λ f. IsFirst f 0 told) (sym f) faultless;
      kept = subst (Keeps r.op r) (sym (ap values all ∙ values-same zs)) k;
    }

pub told_none : (told : List Told) → outcomes told ≡ [] → told ≡ []
told_none [] e = refl
told_none (t ∷ told) e = absurd (cc)

-- ---- how often places count

pub at_most : (t u : ℕ → ℕ) (n : ℕ) → ((k : ℕ) → t k ≤ u k) → taken_in t n ≤ taken_in u n
at_most t u zero h = omega arith
at_most t u (suc n) h = let i = at_most t u n h in let j = h n in omega (arith, i, j)

pub once_each : (n : ℕ) → taken_in (λ k. 1) n ≡ n
once_each zero = refl
once_each (suc n) = let i = once_each n in omega (arith, i)

counted_before : (ns : List ℕ) (n : ℕ) → n ≤ length ns → taken_in (λ k. get_or ns k 0) n ≡ sum (take n ns)
counted_before ns zero le = refl
counted_before ns (suc n) le =
    let i = counted_before ns n (omega arith) in
    let e : n + 1 ≡ suc n = omega arith in
    let s = sum-more ns n (omega arith) in
    let m = ap (λ k. sum (take k ns)) e in
    omega (arith, i, s, m)

pub counted_all : (ns : List ℕ) (n : ℕ) → n ≡ length ns → taken_in (λ k. get_or ns k 0) n ≡ sum ns
counted_all ns n e = counted_before ns n (omega arith) ∙ ap sum (take_all n ns (omega arith))

pub chosen_at_most : (b : Bool) (n : ℕ) → cond b n 0 ≤ n
chosen_at_most true n = omega arith
chosen_at_most false n = omega arith

-- ---- what is condensed, at whatever places

pub each_anywhere : (r : Option Accumulator) (column : List Outcome) → IfSome r (IsCondensed (λ k. 1) column) → IfSome r (λ a. StandsAnywhere a column)
each_anywhere None column f = f
each_anywhere (Some a) column f = λ places h. f (told_at places column) (outcomes-told_at places column h ∙ sym (taken-once column))

pub runs_anywhere : (r : Option Accumulator) (heads : List Outcome) (ns : List ℕ) → length heads ≡ length ns → IfSome r (IsCondensed (λ k. get_or ns k 0) heads) → IfSome r (λ a. StandsAnywhere a (repeated heads ns))
runs_anywhere None heads ns l f = f
runs_anywhere (Some a) heads ns l f = λ places h. f (told_at places (repeated heads ns)) (outcomes-told_at places (repeated heads ns) h ∙ sym (taken-counted heads ns l))

pub each_where : (r : Option Accumulator) (op : Aggregate) (cs os : List Outcome) (v : ℕ → ℤ) → length cs ≡ length os → ((k : ℕ) → k < length cs → outcome_at cs k ≡ Value (v k))
    → IfSome r (IsCondensed (λ k. cond (truth_of (v k)) 1 0) os) → IfSome r (λ a. a.running.op ≡ op) → IfSome r (IsCondensedWhere op cs os)
each_where None op cs os v h at f o = f
each_where (Some a) op cs os v h at f o = λ places g. (o, f (demanded_at places cs os) (outcomes-demanded_at places cs os g ∙ kept-where cs os v h at))

pub runs_where : (r : Option Accumulator) (op : Aggregate) (cs os : List Outcome) (ns : List ℕ) (v : ℕ → ℤ) → length cs ≡ length ns → length os ≡ length ns → ((k : ℕ) → k < length cs → outcome_at cs k ≡ Value (v k))
    → IfSome r (IsCondensed (λ k. cond (truth_of (v k)) (get_or ns k 0) 0) os) → IfSome r (λ a. a.running.op ≡ op) → IfSome r (IsCondensedWhere op (repeated cs ns) (repeated os ns))
runs_where None op cs os ns v h l at f o = f
runs_where (Some a) op cs os ns v h l at f o = λ places g. (o, f (demanded_at places (repeated cs ns) (repeated os ns)) (outcomes-demanded_at places (repeated cs ns) (repeated os ns) g ∙ kept-counted cs os ns v h l at))

-- a condition that is true everywhere
all_demanded : (ps : List ℕ) (cs os : List Outcome) (x : ℤ) → length cs ≡ length os → ((k : ℕ) → k < length cs → outcome_at cs k ≡ Value x) → truth_of x ≡ true → demanded_at ps cs os ≡ told_at ps os
all_demanded [] cs os x h at t = refl
all_demanded (p ∷ ps) [] [] x h at t = refl
all_demanded (p ∷ ps) [] (o ∷ os) x h at t = absurd (omega arith)
all_demanded (p ∷ ps) (c ∷ cs) [] x h at t = absurd (omega arith)
all_demanded (p ∷ ps) (c ∷ cs) (o ∷ os) x h at t =
    ap (λ d. map (λ (e : Outcome). (p, e)) (demanded d o) ++ demanded_at ps cs os) (at 0 (omega arith))
    ∙ ap (λ b. map (λ (e : Outcome). (p, e)) (cond b (o ∷ []) []) ++ demanded_at ps cs os) t
    ∙ ap (λ l. (p, o) ∷ l) (all_demanded ps cs os x (omega arith) (λ k lt. at (suc k) (omega arith)) t)

pub each_where_true : (r : Option Accumulator) (op : Aggregate) (cs os : List Outcome) (x : ℤ) → length cs ≡ length os → ((k : ℕ) → k < length cs → outcome_at cs k ≡ Value x) → truth_of x ≡ true
    → IfSome r (λ a. StandsAnywhere a os) → IfSome r (λ a. a.running.op ≡ op) → IfSome r (IsCondensedWhere op cs os)
each_where_true None op cs os x h at t f o = f
each_where_true (Some a) op cs os x h at t f o = λ places g. (o, subst (Stands a) (sym (all_demanded places cs os x h at t)) (f places g))

pub runs_where_true : (r : Option Accumulator) (op : Aggregate) (cs os : List Outcome) (ns : List ℕ) (x : ℤ) → length cs ≡ length ns → length os ≡ length ns → ((k : ℕ) → k < length cs → outcome_at cs k ≡ Value x) → truth_of x ≡ true
    → IfSome r (IsCondensed (λ k. get_or ns k 0) os) → IfSome r (λ a. a.running.op ≡ op) → IfSome r (IsCondensedWhere op (repeated cs ns) (repeated os ns))
runs_where_true None op cs os ns x h l at t f o = f
runs_where_true (Some a) op cs os ns x h l at t f o = λ places g. (
  o,
  f (demanded_at places (repeated cs ns) (repeated os ns)) (outcomes-demanded_at places (repeated cs ns) (repeated os ns) g ∙ kept-counted cs os ns (λ k. x) h l at
      ∙ taken-alike (λ k. cond (truth_of x) (get_or ns k 0) 0) (λ k. get_or ns k 0) os (λ k. ap (λ b. cond b (get_or ns k 0) 0) t)),
)

-- a condition that is false everywhere
pub each_where_false : (a : Accumulator) (op : Aggregate) (cs os : List Outcome) (x : ℤ) → length cs ≡ length os → ((k : ℕ) → k < length cs → outcome_at cs k ≡ Value x) → truth_of x ≡ false
    → a.running.op ≡ op → Stands a [] → IsCondensedWhere op cs os a
each_where_false a op cs os x h at t o s = λ places g.
    let none : outcomes (demanded_at places cs os) ≡ [] = outcomes-demanded_at places cs os g ∙ kept-where cs os (λ k. x) h at ∙ taken-none (λ k. cond (truth_of x) 1 0) os (λ k. ap (λ b. cond b 1 0) t) in
    (o, subst (Stands a) (sym (told_none (demanded_at places cs os) none)) s)

pub runs_where_false : (a : Accumulator) (op : Aggregate) (cs os : List Outcome) (ns : List ℕ) (x : ℤ) → length cs ≡ length ns → length os ≡ length ns → ((k : ℕ) → k < length cs → outcome_at cs k ≡ Value x) → truth_of x ≡ false
    → a.running.op ≡ op → Stands a [] → IsCondensedWhere op (repeated cs ns) (repeated os ns) a
runs_where_false a op cs os ns x h l at t o s = λ places g.
    let told = demanded_at places (repeated cs ns) (repeated os ns) in
    let none : outcomes told ≡ [] = outcomes-demanded_at places (repeated cs ns) (repeated os ns) g ∙ kept-counted cs os ns (λ k. x) h l at
    ∙ taken-none (λ k. cond (truth_of x) (get_or ns k 0) 0) os (λ k. ap (λ b. cond b (get_or ns k 0) 0) t) in
    (o, subst (Stands a) (sym (told_none told none)) s)

few_chosen : (b : Bool) (p : ℕ) (o : Outcome) (told : List Told) (n : ℕ) → length told ≤ n → length {A = Told} (map (λ (d : Outcome). (p, d)) (cond b (o ∷ []) []) ++ told) ≤ suc n
few_chosen true p o told n h = omega arith
few_chosen false p o told n h = omega arith

pub few_demanded : (ps : List ℕ) (cs os : List Outcome) → length (demanded_at ps cs os) ≤ length os
few_demanded [] cs os = omega arith
few_demanded (p ∷ ps) [] os = omega arith
few_demanded (p ∷ ps) (c ∷ cs) [] = omega arith
few_demanded (p ∷ ps) (Value z ∷ cs) (o ∷ os) = few_chosen (truth_of z) p o (demanded_at ps cs os) (length os) (few_demanded ps cs os)
few_demanded (p ∷ ps) (Fault f ∷ cs) (o ∷ os) = let h = few_demanded ps cs os in omega arith

-- ---- an accumulator at each place

-- one more place of a column
pub each_more : {X : Type 0} (folds : List X) (P : ℕ → X → X → Type 0) (place : ℕ) (m : X) → place < length folds
    → ((k : ℕ) (d : X) → k < place → P k d (get_or folds k d)) → ((d : X) → P place d m) → (k : ℕ) (d : X) → k < place + 1 → P k d (get_or (set folds place m) k d)
each_more {X} folds P place m lt h here k d l =
    below_more (λ k. (d : X) → P k d (get_or (set folds place m) k d)) place
    (λ k l d. let ne : k ≢ place = omega arith in subst (P k d) (sym (get_or-set_other folds place k m d ne)) (h k d l))
    (λ d. subst (P place d) (sym (get_or-set_same folds place m d lt)) (here d))
    k l d
