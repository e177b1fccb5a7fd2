-- Columns by their places.
use Rattle.std.proofs.Common.{◌≡◌, ℕ, zero, suc, ◌+◌, ◌<◌, ◌≤◌, ◌≢◌, arith, ℤ, pos, List, [], ◌∷◌, ◌++◌, length, get_or, set, take, map, refl, sym, ap, subst, ◌∙◌, below_more, get_or-set_other, get_or-set_same, Option, Some, None}
use Rattle.std.specs.Prelude.{replicate, slice_get}
use Rattle.std.proofs.lemmas.Option.{slice_get-get_or, slice_get_within}
use Rattle.std.proofs.lemmas.List.{same_lists, length-map, get_or-map, length-take-le, get_or-take, length-replicate, get_or-replicate}
use Rattle.wcps_text.specs.declared.operator.UnaryOperator.{UnaryOperator}
use Rattle.wcps_text.specs.declared.operator.BinaryOperator.{BinaryOperator}
use Rattle.wcps_mean.specs.declared.cell.PointFault.{PointFault}
use Rattle.wcps_mean.specs.declared.cell.Outcome.{Outcome}
use Rattle.wcps_mean.specs.declared.cell.Outcome.TheVariants.{Value}
use Rattle.wcps_mean.specs.Cells.{operate1, operate2}
use Rattle.tile_kernel.specs.declared.form.Form.{Form}
use Rattle.tile_kernel.specs.declared.form.Form.TheVariants.{Same, Values, Narrow, Mixed}
use Rattle.tile_kernel.specs.Columns.{outcome_of, outcomes_of, seen, HasNarrow, IsRoomy, outcome_at, operate_all}

-- one more result
pub written : (e : ℕ → Outcome) (out : List ℤ) (place : ℕ) (v : ℤ) → place < length out → ((k : ℕ) → k < place → e k ≡ Value (get_or out k (pos 0))) → e place ≡ Value v → (k : ℕ) → k < place + 1 → e k ≡ Value (get_or (set out place v) k (pos 0))
written e out place v lt before here k l =
    below_more (λ k. e k ≡ Value (get_or (set out place v) k (pos 0))) place
    (λ k l. let ne : k ≢ place = omega arith in before k l ∙ ap Value (sym (get_or-set_other out place k v (pos 0) ne)))
    (here ∙ ap Value (sym (get_or-set_same out place v (pos 0) lt)))
    k l

-- ---- a column's outcomes

pub length-outcomes : (zs : List ℤ) (fs : List (Option PointFault)) → length fs ≡ length zs → length (outcomes_of zs fs) ≡ length zs
length-outcomes [] fs h = refl
length-outcomes (z ∷ zs) [] h = absurd (omega arith)
length-outcomes (z ∷ zs) (f ∷ fs) h = let e = length-outcomes zs fs (omega arith) in omega arith

pub get_or-outcomes : (zs : List ℤ) (fs : List (Option PointFault)) (k : ℕ) (z : ℤ) (f : Option PointFault) (d : Outcome) → length fs ≡ length zs → k < length zs → get_or (outcomes_of zs fs) k d ≡ outcome_of (get_or zs k z) (get_or fs k f)
get_or-outcomes [] fs k z f d h lt = absurd (omega arith)
get_or-outcomes (y ∷ zs) [] k z f d h lt = absurd (omega arith)
get_or-outcomes (y ∷ zs) (g ∷ fs) zero z f d h lt = refl
get_or-outcomes (y ∷ zs) (g ∷ fs) (suc k) z f d h lt = get_or-outcomes zs fs k z f d (omega arith) (omega arith)

length-mixed : (n : ℕ) (zs : List ℤ) (fs : List (Option PointFault)) → n ≤ length zs → n ≤ length fs → length (outcomes_of (take n zs) (take n fs)) ≡ n
length-mixed n zs fs p q =
    let a = length-take-le n zs p in
    let b = length-take-le n fs q in
    length-outcomes (take n zs) (take n fs) (b ∙ sym a) ∙ a

length-front : (n : ℕ) (zs : List ℤ) → n ≤ length zs → length (map Value (take n zs)) ≡ n
length-front n zs p = length-map (take n zs) Value ∙ length-take-le n zs p

pub length-seen : (form : Form) (n : ℕ) (zs : List ℤ) (fs : List (Option PointFault)) (ws : List ℤ) → IsRoomy form n zs fs ws → length (seen form n zs fs ws) ≡ n
length-seen (Same o) n zs fs ws h = length-replicate n o
length-seen Values n zs fs ws h = length-front n zs h.values
length-seen Narrow n zs fs ws h = length-front n ws h.narrow
length-seen Mixed n zs fs ws h = length-mixed n zs fs h.values h.faults

pub at_same : (o : Outcome) (n k : ℕ) (zs : List ℤ) (fs : List (Option PointFault)) (ws : List ℤ) (d : Outcome) → k < n → get_or (seen (Same o) n zs fs ws) k d ≡ o
at_same o n k zs fs ws d lt = get_or-replicate n k o d lt

-- the values at the front of a list
pub at_front : (n k : ℕ) (zs : List ℤ) (z : ℤ) (d : Outcome) → k < n → n ≤ length zs → get_or (map Value (take n zs)) k d ≡ Value (get_or zs k z)
at_front n k zs z d lt h =
    let l = length-take-le n zs h in
    get_or-map Value (take n zs) k z d (omega arith) ∙ ap Value (get_or-take n zs k z lt)

pub at_mixed : (n k : ℕ) (zs : List ℤ) (fs : List (Option PointFault)) (z : ℤ) (f : Option PointFault) (d : Outcome) → k < n → n ≤ length zs → n ≤ length fs → get_or (outcomes_of (take n zs) (take n fs)) k d ≡ outcome_of (get_or zs k z) (get_or fs k f)
at_mixed n k zs fs z f d lt p q =
    let a = length-take-le n zs p in
    let b = length-take-le n fs q in
    get_or-outcomes (take n zs) (take n fs) k z f d (b ∙ sym a) (omega arith)
    ∙ ap (λ y. outcome_of y (get_or (take n fs) k f)) (get_or-take n zs k z lt) ∙ ap (outcome_of (get_or zs k z)) (get_or-take n fs k f lt)

-- ---- an operation on two columns

pub length-operate_all : (op : BinaryOperator) (ls rs : List Outcome) → length ls ≡ length rs → length (operate_all op ls rs) ≡ length ls
length-operate_all op [] rs h = refl
length-operate_all op (l ∷ ls) [] h = absurd (omega arith)
length-operate_all op (l ∷ ls) (r ∷ rs) h = let e = length-operate_all op ls rs (omega arith) in omega arith

pub get_or-operate_all : (op : BinaryOperator) (ls rs : List Outcome) (k : ℕ) (d e f : Outcome) → k < length ls → k < length rs → get_or (operate_all op ls rs) k d ≡ operate2 op (get_or ls k e) (get_or rs k f)
get_or-operate_all op [] rs k d e f p q = absurd (omega arith)
get_or-operate_all op (l ∷ ls) [] k d e f p q = absurd (omega arith)
get_or-operate_all op (l ∷ ls) (r ∷ rs) zero d e f p q = refl
get_or-operate_all op (l ∷ ls) (r ∷ rs) (suc k) d e f p q = get_or-operate_all op ls rs k d e f (omega arith) (omega arith)

-- the operation of two columns over the same points
pub operate_all-map : {X : Type 0} (op : BinaryOperator) (f g : X → Outcome) (xs : List X) → operate_all op (map f xs) (map g xs) ≡ map (λ x. operate2 op (f x) (g x)) xs
operate_all-map op f g [] = refl
operate_all-map op f g (x ∷ xs) = ap (λ l. operate2 op (f x) (g x) ∷ l) (operate_all-map op f g xs)

-- a column that has the operation's outcome at each place
pub operated : (op : BinaryOperator) (ls rs os : List Outcome) → length ls ≡ length rs → length os ≡ length ls → ((k : ℕ) (d : Outcome) → k < length ls → get_or os k d ≡ operate2 op (outcome_at ls k) (outcome_at rs k)) → os ≡ operate_all op ls rs
operated op ls rs os h n at =
    let m = length-operate_all op ls rs h in
    same_lists os (operate_all op ls rs) (omega arith) (λ k d lt. at k d (omega arith) ∙ sym (get_or-operate_all op ls rs k d (Value (pos 0)) (Value (pos 0)) (omega arith) (omega arith)))

pub operated_values : (op : BinaryOperator) (ls rs : List Outcome) (n : ℕ) (zs : List ℤ) → n ≤ length zs → length ls ≡ length rs → n ≡ length ls → ((k : ℕ) → k < length ls → operate2 op (outcome_at ls k) (outcome_at rs k) ≡ Value (get_or zs k (pos 0))) → map Value (take n zs) ≡ operate_all op ls rs
operated_values op ls rs n zs p h e at = operated op ls rs (map Value (take n zs)) h (length-front n zs p ∙ e) (λ k d lt. at_front n k zs (pos 0) d (omega arith) p ∙ sym (at k lt))

pub operated_mixed : (op : BinaryOperator) (ls rs : List Outcome) (n : ℕ) (zs : List ℤ) (fs : List (Option PointFault)) → n ≤ length zs → n ≤ length fs → length ls ≡ length rs → n ≡ length ls → ((k : ℕ) → k < length ls → outcome_of (get_or zs k (pos 0)) (get_or fs k None) ≡ operate2 op (outcome_at ls k) (outcome_at rs k)) → outcomes_of (take n zs) (take n fs) ≡ operate_all op ls rs
operated_mixed op ls rs n zs fs p q h e at = operated op ls rs (outcomes_of (take n zs) (take n fs)) h (length-mixed n zs fs p q ∙ e) (λ k d lt. at_mixed n k zs fs (pos 0) None d (omega arith) p q ∙ at k lt)

pub operated_same : (op : BinaryOperator) (l r o : Outcome) (n m : ℕ) → n ≡ m → o ≡ operate2 op l r → replicate n o ≡ operate_all op (replicate n l) (replicate m r)
operated_same op l r o n m e h =
    let a = length-replicate n l in
    let b = length-replicate m r in
    operated op (replicate n l) (replicate m r) (replicate n o) (omega arith) (length-replicate n o ∙ sym a)
    (λ k d lt. get_or-replicate n k o d (omega arith) ∙ h ∙ ap (λ x. operate2 op x r) (sym (get_or-replicate n k l (Value (pos 0)) (omega arith))) ∙ ap (operate2 op (get_or (replicate n l) k (Value (pos 0)))) (sym (get_or-replicate m k r (Value (pos 0)) (omega arith))))

-- ---- what an open column shows

pub places_are : (form : Form) (n : ℕ) (zs : List ℤ) (fs : List (Option PointFault)) (ws : List ℤ) (column : List Outcome) → seen form n zs fs ws ≡ column → IsRoomy form n zs fs ws → n ≡ length column
places_are form n zs fs ws column e room = sym (length-seen form n zs fs ws room) ∙ ap length e

pub value_there : (form : Form) (n : ℕ) (zs : List ℤ) (fs : List (Option PointFault)) (ws : List ℤ) (column : List Outcome) (cells : List ℤ) (k : ℕ) → form ≡ Values → seen form n zs fs ws ≡ column → IsRoomy form n zs fs ws → cells ≡ zs → k < length column → outcome_at column k ≡ Value (get_or cells k (pos 0))
value_there form n zs fs ws column cells k f e room same lt =
    let m = places_are form n zs fs ws column e room in
    ap (λ c. outcome_at c k) (sym e ∙ ap (λ g. seen g n zs fs ws) f) ∙ at_front n k zs (pos 0) (Value (pos 0)) (omega arith) room.values ∙ ap (λ l. Value (get_or l k (pos 0))) (sym same)

-- where the values are kept in 32 bits, there are as many of them as places
pub narrow_places : (form : Form) (n : ℕ) (zs : List ℤ) (fs : List (Option PointFault)) (ws : List ℤ) → form ≡ Narrow → IsRoomy form n zs fs ws → n ≤ length ws
narrow_places form n zs fs ws f room = subst (λ g. HasNarrow g n ws) f room.narrow

pub narrow_there : (form : Form) (n : ℕ) (zs : List ℤ) (fs : List (Option PointFault)) (ws : List ℤ) (column : List Outcome) (k : ℕ) → form ≡ Narrow → seen form n zs fs ws ≡ column → IsRoomy form n zs fs ws → k < length column → outcome_at column k ≡ Value (get_or ws k (pos 0))
narrow_there form n zs fs ws column k f e room lt =
    let m = places_are form n zs fs ws column e room in
    ap (λ c. outcome_at c k) (sym e ∙ ap (λ g. seen g n zs fs ws) f) ∙ at_front n k ws (pos 0) (Value (pos 0)) (omega arith) (narrow_places form n zs fs ws f room)

pub same_there : (form : Form) (n : ℕ) (zs : List ℤ) (fs : List (Option PointFault)) (ws : List ℤ) (column : List Outcome) (o : Outcome) (k : ℕ) → form ≡ Same o → seen form n zs fs ws ≡ column → IsRoomy form n zs fs ws → k < length column → outcome_at column k ≡ o
same_there form n zs fs ws column o k f e room lt =
    let m = places_are form n zs fs ws column e room in
    ap (λ c. outcome_at c k) (sym e ∙ ap (λ g. seen g n zs fs ws) f) ∙ at_same o n k zs fs ws (Value (pos 0)) (omega arith)

pub mixed_there : (form : Form) (n : ℕ) (zs : List ℤ) (fs : List (Option PointFault)) (ws : List ℤ) (column : List Outcome) (k : ℕ) (d : Option PointFault) (o : Outcome) → form ≡ Mixed → seen form n zs fs ws ≡ column → IsRoomy form n zs fs ws → k < length column → o ≡ outcome_of (get_or zs k (pos 0)) (get_or fs k d) → slice_get column k ≡ Some o
mixed_there form n zs fs ws column k d o g e room lt h =
    let m = places_are form n zs fs ws column e room in
    slice_get-get_or column k o lt ∙ ap Some (
    ap (λ c. get_or c k o) (sym e ∙ ap (λ g. seen g n zs fs ws) g) ∙ at_mixed n k zs fs (pos 0) d o (omega arith) room.values room.faults ∙ sym h)

pub outcome_there : (column : List Outcome) (k : ℕ) (o : Outcome) → slice_get column k ≡ Some o → outcome_at column k ≡ o
outcome_there column k o h =
    let lt = slice_get_within column k o h in
    let e = slice_get-get_or column k (Value (pos 0)) lt in cc

-- one more place with its fault
pub mixed_written : (e : ℕ → Outcome) (zs : List ℤ) (fs : List (Option PointFault)) (place : ℕ) (z : ℤ) (f : Option PointFault) → place < length zs → place < length fs
    → ((k : ℕ) → k < place → outcome_of (get_or zs k (pos 0)) (get_or fs k None) ≡ e k) → outcome_of z f ≡ e place
    → (k : ℕ) → k < place + 1 → outcome_of (get_or (set zs place z) k (pos 0)) (get_or (set fs place f) k None) ≡ e k
mixed_written e zs fs place z f p q before here k l =
    below_more (λ k. outcome_of (get_or (set zs place z) k (pos 0)) (get_or (set fs place f) k None) ≡ e k) place
    (λ k l. let ne : k ≢ place = omega arith in
    ap (λ y. outcome_of y (get_or (set fs place f) k None)) (get_or-set_other zs place k z (pos 0) ne) ∙ ap (outcome_of (get_or zs k (pos 0))) (get_or-set_other fs place k f None ne) ∙ before k l)
    (ap (λ y. outcome_of y (get_or (set fs place f) place None)) (get_or-set_same zs place z (pos 0) p) ∙ ap (outcome_of z) (get_or-set_same fs place f None q) ∙ here)
    k l

-- what a slice of a whole list wrote stands in the list
take_front : {X : Type 0} (xs ys : List X) → take (length xs) (xs ++ ys) ≡ xs
take_front [] ys = refl
take_front (x ∷ xs) ys = ap (λ l. x ∷ l) (take_front xs ys)

pub written_back : {X : Type 0} (n : ℕ) (xs ys : List X) → length xs ≡ n → take n (xs ++ ys) ≡ xs
written_back n xs ys e = ap (λ k. take k (xs ++ ys)) (sym e) ∙ take_front xs ys

-- one more cell copied
pub copied_more : (cells all : List ℤ) (place : ℕ) (v : ℤ) → place < length all → ((k : ℕ) → k < place → get_or all k (pos 0) ≡ get_or cells k (pos 0)) → v ≡ get_or cells place (pos 0) → (k : ℕ) → k < place + 1 → get_or (set all place v) k (pos 0) ≡ get_or cells k (pos 0)
copied_more cells all place v lt before here k l =
    below_more (λ k. get_or (set all place v) k (pos 0) ≡ get_or cells k (pos 0)) place
    (λ k l. let ne : k ≢ place = omega arith in get_or-set_other all place k v (pos 0) ne ∙ before k l)
    (get_or-set_same all place v (pos 0) lt ∙ here)
    k l

pub other_default : {X : Type 0} (xs : List X) (i : ℕ) (d e : X) → i < length xs → get_or xs i d ≡ get_or xs i e
other_default xs i d e lt = let p = slice_get-get_or xs i d lt in let q = slice_get-get_or xs i e lt in cc

pub copied_all : (cells all : List ℤ) → length cells ≤ length all → ((k : ℕ) → k < length cells → get_or all k (pos 0) ≡ get_or cells k (pos 0)) → take (length cells) all ≡ cells
copied_all cells all le at =
    let n = length-take-le (length cells) all le in
    same_lists (take (length cells) all) cells n (λ k d lt.
    let l : k < length cells = omega arith in
    get_or-take (length cells) all k d l ∙ other_default all k d (pos 0) (omega arith) ∙ at k l ∙ other_default cells k (pos 0) d l)

pub operated_scalars : (op : BinaryOperator) (f g : Form) (n m : ℕ) (zs ys : List ℤ) (fs gs : List (Option PointFault)) (ws us : List ℤ) (ls rs : List Outcome) (l r o : Outcome) → f ≡ Same l → g ≡ Same r → seen f n zs fs ws ≡ ls → seen g m ys gs us ≡ rs → IsRoomy f n zs fs ws → IsRoomy g m ys gs us → length ls ≡ length rs → o ≡ operate2 op l r → replicate n o ≡ operate_all op ls rs
operated_scalars op f g n m zs ys fs gs ws us ls rs l r o p q v w a b same e =
    let x : replicate n l ≡ ls = ap (λ h. seen h n zs fs ws) (sym p) ∙ v in
    let y : replicate m r ≡ rs = ap (λ h. seen h m ys gs us) (sym q) ∙ w in
    let i = places_are f n zs fs ws ls v a in
    let j = places_are g m ys gs us rs w b in
    operated_same op l r o n m (omega arith) e ∙ ap (λ z. operate_all op z (replicate m r)) x ∙ ap (operate_all op ls) y

-- ---- an operation on one column

operated_one : (op : UnaryOperator) (ls os : List Outcome) → length os ≡ length ls → ((k : ℕ) (d : Outcome) → k < length ls → get_or os k d ≡ operate1 op (outcome_at ls k)) → os ≡ map (operate1 op) ls
operated_one op ls os n at =
    let m = length-map ls (operate1 op) in
    same_lists os (map (operate1 op) ls) (omega arith) (λ k d lt. at k d (omega arith) ∙ sym (get_or-map (operate1 op) ls k (Value (pos 0)) d (omega arith)))

pub operated_one_values : (op : UnaryOperator) (ls : List Outcome) (n : ℕ) (zs : List ℤ) → n ≤ length zs → n ≡ length ls → ((k : ℕ) → k < length ls → operate1 op (outcome_at ls k) ≡ Value (get_or zs k (pos 0))) → map Value (take n zs) ≡ map (operate1 op) ls
operated_one_values op ls n zs p e at = operated_one op ls (map Value (take n zs)) (length-front n zs p ∙ e) (λ k d lt. at_front n k zs (pos 0) d (omega arith) p ∙ sym (at k lt))

pub operated_one_mixed : (op : UnaryOperator) (ls : List Outcome) (n : ℕ) (zs : List ℤ) (fs : List (Option PointFault)) → n ≤ length zs → n ≤ length fs → n ≡ length ls → ((k : ℕ) → k < length ls → outcome_of (get_or zs k (pos 0)) (get_or fs k None) ≡ operate1 op (outcome_at ls k)) → outcomes_of (take n zs) (take n fs) ≡ map (operate1 op) ls
operated_one_mixed op ls n zs fs p q e at = operated_one op ls (outcomes_of (take n zs) (take n fs)) (length-mixed n zs fs p q ∙ e) (λ k d lt. at_mixed n k zs fs (pos 0) None d (omega arith) p q ∙ at k lt)

pub operated_one_scalar : (op : UnaryOperator) (f : Form) (n : ℕ) (zs : List ℤ) (fs : List (Option PointFault)) (ws : List ℤ) (ls : List Outcome) (l o : Outcome) → f ≡ Same l → seen f n zs fs ws ≡ ls → IsRoomy f n zs fs ws → o ≡ operate1 op l → replicate n o ≡ map (operate1 op) ls
operated_one_scalar op f n zs fs ws ls l o p v room e =
    let x : replicate n l ≡ ls = ap (λ h. seen h n zs fs ws) (sym p) ∙ v in
    let i = length-replicate n l in
    operated_one op (replicate n l) (replicate n o) (length-replicate n o ∙ sym i) (λ k d lt. get_or-replicate n k o d (omega arith) ∙ e ∙ ap (operate1 op) (sym (get_or-replicate n k l (Value (pos 0)) (omega arith))))
    ∙ ap (map (operate1 op)) x

-- a column of outcomes
pub outcomes_written : (os : List Outcome) (zs : List ℤ) (fs : List (Option PointFault)) → length os ≤ length zs → length os ≤ length fs → ((k : ℕ) → k < length os → outcome_of (get_or zs k (pos 0)) (get_or fs k None) ≡ outcome_at os k) → outcomes_of (take (length os) zs) (take (length os) fs) ≡ os
outcomes_written os zs fs p q at =
    let n = length-mixed (length os) zs fs p q in
    same_lists (outcomes_of (take (length os) zs) (take (length os) fs)) os n (λ k d lt.
    let l : k < length os = omega arith in
    at_mixed (length os) k zs fs (pos 0) None d l p q ∙ at k l ∙ other_default os k (Value (pos 0)) d l)

-- a column of values
pub values_written : (os : List Outcome) (zs : List ℤ) → length os ≤ length zs → ((k : ℕ) → k < length os → outcome_at os k ≡ Value (get_or zs k (pos 0))) → map Value (take (length os) zs) ≡ os
values_written os zs p at =
    let n = length-front (length os) zs p in
    same_lists (map Value (take (length os) zs)) os n (λ k d lt.
    let l : k < length os = omega arith in
    at_front (length os) k zs (pos 0) d l p ∙ sym (at k l) ∙ other_default os k (Value (pos 0)) d l)
