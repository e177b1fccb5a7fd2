-- Cells that are told by their keys.
use Rattle.std.proofs.Common.{◌≡◌, ◌≢◌, ⊎_elim, ℕ, zero, suc, length-append, ◌+◌, ◌<◌, ◌≤◌, ℤ, ◌≤ℤ◌, ◌+ℤ◌, ◌-◌, int_le, pos, take_all, length-set, List, [], ◌∷◌, ◌++◌, length, get_or, set, take, refl, sym, ap, ◌∙◌, subst, arith, append_assoc, get_or-set_other, get_or-set_same, Some, None, Bool, true, false, cond}
use Rattle.std.specs.Prelude.{slice_get, replicate}
use Rattle.std.proofs.lemmas.List.{append-nil, get_or-map, length-map, get_or-replicate, length-replicate}
use Rattle.std.proofs.lemmas.Option.{slice_get-get_or}
use Rattle.std.proofs.lemmas.Bool.Decides.{eqb_tells, Decides-like, Decides-and}
use Rattle.std.specs.Bool.{Decides}
use Rattle.std.proofs.lemmas.Int.{ints}
use Rattle.wcps_text.specs.declared.operator.BinaryOperator.TheVariants.{Equal}
use Rattle.wcps_mean.specs.declared.cell.Outcome.{Outcome}
use Rattle.wcps_mean.specs.declared.cell.Outcome.TheVariants.{Value}
use Rattle.wcps_mean.specs.Cells.{operate2, number, int_eq}
use Rattle.tile_kernel.specs.declared.accumulator.Accumulator.{Accumulator}
use Rattle.tile_kernel.specs.Told.{Told, demanded_of, demanded_at}
use Rattle.tile_kernel.specs.Condensing.{EachStandsFor, EachIsTold, EachCountsMore}
use Rattle.tile_kernel.specs.Standing.{HaveAtMost}
use Rattle.tile_kernel.specs.Keyed.{having, number_at, told_by_key, told_by_keys, TakeCells, StandByKeys, IsPlaceOf, IsTable}
use Rattle.tile_kernel.proofs.Places.{outcome_there}
use Rattle.tile_kernel.proofs.Tellings.{demanded_suc, few_demanded}

-- what a cell adds for a number
told_if : (b : Bool) (p : ℕ) (o : Outcome) → demanded_of p (Value (number b)) o ≡ cond b ((p, o) ∷ []) []
told_if true p o = refl
told_if false p o = refl

Decides-int_le : (a b : ℤ) → Decides (int_le a b) (a ≤ℤ b)
Decides-int_le a b = (λ h. grind (arith, ints), λ h. grind (arith, ints))

equal-decides : (z n : ℤ) → Decides (int_eq z n) (z ≡ n)
equal-decides z n =
    Decides-like (int_eq z n) (λ (p : (z ≤ℤ n) × (n ≤ℤ z)). same z n p.0 p.1) (λ (e : z ≡ n). (le z n e, le n z (sym e)))
    (Decides-and _ _ (Decides-int_le z n) (Decides-int_le n z))
  where
    same : (z n : ℤ) → z ≤ℤ n → n ≤ℤ z → z ≡ n
    same z n h k = omega (arith, ints)

    le : (z n : ℤ) → z ≡ n → z ≤ℤ n
    le z n e = omega (arith, ints)

equal_told : (z n : ℤ) (p : ℕ) (o : Outcome) → n ≡ z → demanded_of p (operate2 Equal (Value z) (Value n)) o ≡ (p, o) ∷ []
equal_told z n p o e =
    told_if (int_eq z n) p o ∙ ap (λ (b : Bool). cond b ((p, o) ∷ []) []) ((equal-decides z n).1 (sym e))

unequal_told : (z n : ℤ) (p : ℕ) (o : Outcome) → n ≢ z → demanded_of p (operate2 Equal (Value z) (Value n)) o ≡ []
unequal_told z n p o ne =
    told_if (int_eq z n) p o ∙ ap (λ (b : Bool). cond b ((p, o) ∷ []) []) (untrue (int_eq z n) (λ t. ne (sym ((equal-decides z n).0 t))))
  where
    untrue : (b : Bool) → (b ≡ true → ⊥) → b ≡ false
    untrue true f = absurd (f refl)
    untrue false f = refl

-- one condenser has taken in a cell with its number
pub set_told : {C : Type 0} (stands : C → List Told → Type 0) (folds : List C) (numbers : List ℤ) (z : ℤ) (p : ℕ) (o : Outcome) (k : ℕ) (m : C) → k < length folds → length folds ≡ length numbers → IsPlaceOf z numbers (Some k)
    → ((d : C) (told : List Told) → stands (get_or folds k d) told → stands m (told ++ (p, o) ∷ [])) → EachIsTold stands folds (set folds k m) (told_by_key numbers p (Value z) o)
set_told {C} stands folds numbers z p o k m lt e place more told s j d l =
    ⊎_elim
    (λ (h : (_ × (j ≡ k))). same j d l h.1)
    (λ (h : (_ × (j ≢ k))). other j d l h.1)
    (eqb_tells j k)
  where
    same : (j : ℕ) (d : C) → j < length (set folds k m) → j ≡ k → stands (get_or (set folds k m) j d) (told j ++ told_by_key numbers p (Value z) o j)
    same j d l h =
        let here : number_at numbers j ≡ z = (place j (omega (arith, length-set {A = C}))).1 (ap Some (sym h)) in
        let taken = more d (told k) (s k d lt) in
        let at : get_or (set folds k m) j d ≡ m = ap (λ i. get_or (set folds k m) i d) h ∙ get_or-set_same folds k m d lt in
        subst (λ l. stands (get_or (set folds k m) j d) (told j ++ l)) (sym (equal_told z (number_at numbers j) p o here))
        (subst (λ a. stands a (told j ++ (p, o) ∷ [])) (sym at) (subst (λ i. stands m (told i ++ (p, o) ∷ [])) (sym h) taken))

    other : (j : ℕ) (d : C) → j < length (set folds k m) → j ≢ k → stands (get_or (set folds k m) j d) (told j ++ told_by_key numbers p (Value z) o j)
    other j d l h =
        let ne : number_at numbers j ≢ z = λ q. h (let w : Some k ≡ Some j = (place j (omega (arith, length-set {A = C}))).0 q in cc) in
        let at : get_or (set folds k m) j d ≡ get_or folds j d = get_or-set_other folds k j m d h in
        subst (λ l. stands (get_or (set folds k m) j d) (told j ++ l)) (sym (unequal_told z (number_at numbers j) p o ne))
        (subst (λ l. stands (get_or (set folds k m) j d) l) (sym (append-nil (told j))) (subst (λ a. stands a (told j)) (sym at) (s j d (omega (arith, length-set {A = C})))))

-- and counts at most one value more
pub set_counted : {C : Type 0} (counted : C → ℕ) (folds : List C) (k : ℕ) (m : C) → k < length folds → ((d : C) → counted m ≤ counted (get_or folds k d) + 1) → EachCountsMore counted 1 folds (set folds k m)
set_counted counted folds k m lt more j d l =
    ⊎_elim
    (λ (h : (_ × (j ≡ k))).
    let at : get_or (set folds k m) j d ≡ m = ap (λ i. get_or (set folds k m) i d) h.1 ∙ get_or-set_same folds k m d lt in
    let from : get_or folds j d ≡ get_or folds k d = ap (λ i. get_or folds i d) h.1 in
    let few = more d in
    omega (arith, ap counted at, ap counted from, few))
    (λ (h : (_ × (j ≢ k))).
    let at : get_or (set folds k m) j d ≡ get_or folds j d = get_or-set_other folds k j m d h.1 in
    omega (arith, ap counted at))
    (eqb_tells j k)

-- no condenser has a number that is none of theirs
pub none_told : {C : Type 0} (stands : C → List Told → Type 0) (folds : List C) (numbers : List ℤ) (z : ℤ) (p : ℕ) (o : Outcome) → length folds ≡ length numbers → IsPlaceOf z numbers None
    → EachIsTold stands folds folds (told_by_key numbers p (Value z) o)
none_told stands folds numbers z p o e place told s j d l =
    let ne : number_at numbers j ≢ z = λ q. (let w : None ≡ Some j = (place j (omega arith)).0 q in cc) in
    subst (stands (get_or folds j d)) (sym (ap (λ l. told j ++ l) (unequal_told z (number_at numbers j) p o ne) ∙ append-nil (told j))) (s j d l)

-- one more cell
pub keyed_more : {C : Type 0} (stands : C → List Told → Type 0) (before folds after : List C) (numbers : List ℤ) (ps : List ℕ) (keys os : List Outcome) (j p : ℕ) (key o : Outcome) → length ps ≡ length os → length keys ≡ length os → j < length os
    → p ≡ get_or ps j 0 → slice_get keys j ≡ Some key → slice_get os j ≡ Some o → length folds ≡ length before
    → EachIsTold stands before folds (λ k. demanded_at (take j ps) (take j (having keys (number_at numbers k))) (take j os))
    → EachIsTold stands folds after (told_by_key numbers p key o)
    → EachIsTold stands before after (λ k. demanded_at (take (j + 1) ps) (take (j + 1) (having keys (number_at numbers k))) (take (j + 1) os))
keyed_more stands before folds after numbers ps keys os j p key o h g lt e f i len first second told s k d l =
    let cs = having keys (number_at numbers k) in
    let c = operate2 Equal key (Value (number_at numbers k)) in
    let there : slice_get cs j ≡ Some c =
    slice_get-get_or cs j (Value (pos 0)) (omega (arith, length-map keys (λ (o : Outcome). operate2 Equal o (Value (number_at numbers k)))))
    ∙ ap Some (get_or-map (λ (o : Outcome). operate2 Equal o (Value (number_at numbers k))) keys j (Value (pos 0)) (Value (pos 0)) (omega arith) ∙ ap (λ o. operate2 Equal o (Value (number_at numbers k))) (outcome_there keys j key f)) in
    let long : length cs ≡ length os = length-map keys (λ (o : Outcome). operate2 Equal o (Value (number_at numbers k))) ∙ g in
    let split = demanded_suc ps cs os j p c o h long lt e there i in
    let n : suc j ≡ j + 1 = omega arith in
    let both = second (λ k. told k ++ demanded_at (take j ps) (take j (having keys (number_at numbers k))) (take j os)) (first told s) k d l in
    subst (λ l. stands (get_or after k d) (told k ++ l)) (sym split ∙ ap (λ m. demanded_at (take m ps) (take m cs) (take m os)) n)
    (subst (stands (get_or after k d)) (append_assoc (told k) (demanded_at (take j ps) (take j cs) (take j os)) (demanded_of p c o)) both)

-- in the end all cells
pub keyed_whole : {C : Type 0} (stands : C → List Told → Type 0) (before after : List C) (numbers : List ℤ) (ps : List ℕ) (keys os : List Outcome) (j : ℕ) → length ps ≡ length os → length keys ≡ length os → length os ≤ j
    → EachIsTold stands before after (λ k. demanded_at (take j ps) (take j (having keys (number_at numbers k))) (take j os))
    → TakeCells stands before after numbers ps keys os
keyed_whole stands before after numbers ps keys os j h g le f told s k d l =
    let cs = having keys (number_at numbers k) in
    let long : length cs ≡ length os = length-map keys (λ (o : Outcome). operate2 Equal o (Value (number_at numbers k))) ∙ g in
    let all : demanded_at (take j ps) (take j cs) (take j os) ≡ demanded_at ps cs os =
    ap (λ l. demanded_at l (take j cs) (take j os)) (take_all j ps (omega arith)) ∙ ap (λ l. demanded_at ps l (take j os)) (take_all j cs (omega arith)) ∙ ap (demanded_at ps cs) (take_all j os le) in
    subst (λ l. stands (get_or after k d) (told k ++ l)) all (f told s k d l)

-- condensers that stood for nothing stand for the cells
pub told_from_none : {C : Type 0} (stands : C → List Told → Type 0) (n : ℕ) (empty : C) (before after : List C) (numbers : List ℤ) (ps : List ℕ) (keys os : List Outcome) → before ≡ replicate n empty → stands empty []
    → TakeCells stands before after numbers ps keys os → EachStandsFor stands after (told_by_keys numbers ps keys os)
told_from_none stands n empty before after numbers ps keys os e none taken =
    taken (λ k. []) (λ k d l.
    let lt : k < n = omega (arith, l, ap length e, length-replicate n empty) in
    subst (λ c. stands c []) (sym (ap (λ cs. get_or cs k d) e ∙ get_or-replicate n k empty d lt)) none)

-- accumulators stand for no more cells than there are
pub few_by_keys : (numbers : List ℤ) (ps : List ℕ) (keys os : List Outcome) (folds : List Accumulator) → StandByKeys numbers ps keys os folds → HaveAtMost (length os) folds
few_by_keys numbers ps keys os folds h k d l =
    let n = (h k d l).counted in
    let few = few_demanded ps (having keys (number_at numbers k)) os in
    omega (arith, n, few)

-- ---- numbers by a table

pub none_above : (low z : ℤ) (table : List ℕ) (numbers : List ℤ) → IsTable low table numbers → ((i : ℕ) → i < length table → z ≡ low +ℤ pos i → ⊥) → IsPlaceOf z numbers None
none_above low z table numbers s f k l =
    let t = s.there k l in
    ((λ (e : number_at numbers k ≡ z). absurd (f t.0 t.1 (sym e ∙ t.2))), (λ w. cc))

same_slot : (low : ℤ) (i j : ℕ) → low +ℤ pos i ≡ low +ℤ pos j → i ≡ j
same_slot low i j e = omega (arith, ints, e)

pub none_there : (low z : ℤ) (table : List ℕ) (numbers : List ℤ) (i : ℕ) → IsTable low table numbers → z ≡ low +ℤ pos i → get_or table i 0 ≡ 0 → IsPlaceOf z numbers None
none_there low z table numbers i s at none k l =
    let t = s.there k l in (
      (λ (e : number_at numbers k ≡ z).
          let same = same_slot low t.0 i (sym t.2 ∙ e ∙ at) in
          let zero : get_or table t.0 0 ≡ 0 = ap (λ j. get_or table j 0) same ∙ none in
          absurd (omega (arith, zero, t.3))),
      (λ w. cc),
    )

pub some_there : (low z : ℤ) (table : List ℕ) (numbers : List ℤ) (i n : ℕ) → IsTable low table numbers → i < length table → z ≡ low +ℤ pos i → get_or table i 0 ≡ n → n ≢ 0 → IsPlaceOf z numbers (Some (n - 1))
some_there low z table numbers i n s lt at is some k l =
    let t = s.there k l in
    let b = s.back i lt (omega arith) in (
      (λ (e : number_at numbers k ≡ z).
          let same = same_slot low t.0 i (sym t.2 ∙ e ∙ at) in
          let here : get_or table t.0 0 ≡ n = ap (λ j. get_or table j 0) same ∙ is in
          ap Some (let p : n - 1 ≡ k = omega (arith, here, t.3) in p)),
      (λ (w : Some (n - 1) ≡ Some k).
          let p : n - 1 ≡ k = cc in
          ap (number_at numbers) (sym p ∙ ap (λ m. m - 1) (sym is)) ∙ b.1 ∙ sym at),
    )

-- ---- one more number

last_of : (xs : List ℤ) (x d : ℤ) → get_or (xs ++ x ∷ []) (length xs) d ≡ x
last_of [] x d = refl
last_of (y ∷ xs) x d = last_of xs x d

before_last : (xs : List ℤ) (x d : ℤ) (k : ℕ) → k < length xs → get_or (xs ++ x ∷ []) k d ≡ get_or xs k d
before_last [] x d k lt = absurd (omega (arith, lt))
before_last (y ∷ xs) x d zero lt = refl
before_last (y ∷ xs) x d (suc k) lt = before_last xs x d k (omega (arith, lt))

-- a number that was in none of the places, behind the others
pub table_more : (low z : ℤ) (table : List ℕ) (numbers : List ℤ) (i n : ℕ) → IsTable low table numbers → i < length table → z ≡ low +ℤ pos i → get_or table i 0 ≡ 0 → n ≡ length numbers + 1 → IsTable low (set table i n) (numbers ++ z ∷ [])
table_more low z table numbers i n s lt at none e = record { there = there; back = back }
  where
    long : length (numbers ++ z ∷ []) ≡ length numbers + 1
    long = length-append numbers (z ∷ [])

    earlier : (k : ℕ) → k < length numbers → (j : ℕ) × (j < length (set table i n)) × (number_at (numbers ++ z ∷ []) k ≡ low +ℤ pos j) × (get_or (set table i n) j 0 ≡ k + 1)
    earlier k l =
        let t = s.there k l in
        let ne : t.0 ≢ i = λ q. (let zero : get_or table t.0 0 ≡ 0 = ap (λ j. get_or table j 0) q ∙ none in absurd (omega (arith, zero, t.3))) in
        (t.0, omega (arith, t.1, length-set {A = ℕ}), before_last numbers z (pos 0) k l ∙ t.2, get_or-set_other table i t.0 n 0 ne ∙ t.3)

    there : (k : ℕ) → k < length (numbers ++ z ∷ []) → (j : ℕ) × (j < length (set table i n)) × (number_at (numbers ++ z ∷ []) k ≡ low +ℤ pos j) × (get_or (set table i n) j 0 ≡ k + 1)
    there k l =
        ⊎_elim
        (λ (h : (_ × (k ≡ length numbers))). (
          i,
          omega (arith, lt, length-set {A = ℕ}),
          ap (number_at (numbers ++ z ∷ [])) h.1 ∙ last_of numbers z (pos 0) ∙ at,
          get_or-set_same table i n 0 lt ∙ e ∙ ap (λ m. m + 1) (sym h.1),
        ))
        (λ (h : (_ × (k ≢ length numbers))). earlier k (omega (arith, l, h.1, long)))
        (eqb_tells k (length numbers))

    new_back : (j : ℕ) → j ≡ i → (get_or (set table i n) j 0 ≤ length (numbers ++ z ∷ [])) × (number_at (numbers ++ z ∷ []) (get_or (set table i n) j 0 - 1) ≡ low +ℤ pos j)
    new_back j h =
        let is : get_or (set table i n) j 0 ≡ n = ap (λ k. get_or (set table i n) k 0) h ∙ get_or-set_same table i n 0 lt in
        let place : get_or (set table i n) j 0 - 1 ≡ length numbers = omega (arith, is, e) in
        (omega (arith, is, e, long), ap (number_at (numbers ++ z ∷ [])) place ∙ last_of numbers z (pos 0) ∙ at ∙ ap (λ k. low +ℤ pos k) (sym h))

    old_back : (j : ℕ) → j ≢ i → j < length table → 0 < get_or (set table i n) j 0 → (get_or (set table i n) j 0 ≤ length (numbers ++ z ∷ [])) × (number_at (numbers ++ z ∷ []) (get_or (set table i n) j 0 - 1) ≡ low +ℤ pos j)
    old_back j ne l some =
        let is : get_or (set table i n) j 0 ≡ get_or table j 0 = get_or-set_other table i j n 0 ne in
        let b = s.back j l (omega (arith, is, some)) in
        let few : get_or table j 0 - 1 < length numbers = omega (arith, b.0, is, some) in
        (omega (arith, is, b.0, long), ap (λ m. number_at (numbers ++ z ∷ []) (m - 1)) is ∙ before_last numbers z (pos 0) (get_or table j 0 - 1) few ∙ b.1)

    back : (j : ℕ) → j < length (set table i n) → 0 < get_or (set table i n) j 0 → (get_or (set table i n) j 0 ≤ length (numbers ++ z ∷ [])) × (number_at (numbers ++ z ∷ []) (get_or (set table i n) j 0 - 1) ≡ low +ℤ pos j)
    back j l some =
        ⊎_elim
        (λ (h : (_ × (j ≡ i))). new_back j h.1)
        (λ (h : (_ × (j ≢ i))). old_back j h.1 (omega (arith, l, length-set {A = ℕ})) some)
        (eqb_tells j i)
