-- One variable of a loop that makes the combination of a number.
use Rattle.std.proofs.Common.{◌≡◌, ℕ, zero, suc, ◌+◌, ◌*◌, ◌/◌, ◌%◌, ◌<◌, List, [], ◌∷◌, length, get_or, drop, map, min, refl, sym, ap, ◌∙◌, subst, arith, add-one, length-append}
use Rattle.std.specs.Prelude.{slice_index}
use Rattle.std.proofs.Math.Nat.{mul-div_cancel_left, mod-lt, suc-mul}
use Rattle.std.proofs.lemmas.Nat.{div_below, div-add-mod'}
use Rattle.std.proofs.lemmas.List.{get_or-append-add, length-map}
use Rattle.std.proofs.lemmas.List.Concat.{flat_map-cons}
use Rattle.std.proofs.lemmas.Grind.{elements}
use Rattle.std.specs.List.{flat_map}
use Rattle.std.proofs.Math.Seq.{drop-cons, drop-length}
use Rattle.wcps_types.specs.declared.bindings.Choice.{Choice}
use Rattle.wcps_types.specs.declared.bound.Bound.{Bound}
use Rattle.wcps_types.specs.Bindings.{ChoiceTree, choice_view, combinations, combination_count, combination_at, bound_to}
use Rattle.wcps_types.proofs.Caps.{min_times}

-- how many combinations the choices have
abbrev pub count_of : List Choice → ℕ
count_of choices = combination_count (map choice_view choices)

pub record Step (choices : List Choice) (i : ℕ) (x : Choice) (rest number : ℕ) : Type 0 where
  pub left : rest ≡ count_of (drop (i + 1) choices)
  pub within : number / rest < length x.coverages.items
  pub inside : number % rest < rest
  pub made : combination_at (map choice_view (drop i choices)) number
      ≡ bound_to x.variable (slice_index x.coverages.items (number / rest)) ∷ combination_at (map choice_view (drop (i + 1) choices)) (number % rest)

-- factors of a product that is above some number
pub left_positive : (a b n : ℕ) → n < a * b → 0 < a
left_positive zero b n h = omega (arith, h)
left_positive (suc a) b n h = omega arith

pub right_positive : (a b n : ℕ) → n < a * b → 0 < b
right_positive a zero n h = omega (arith, h)
right_positive a (suc b) n h = omega arith

step_cons : (choices : List Choice) (i : ℕ) (x : Choice) (more : List Choice) (old rest number : ℕ) → drop i choices ≡ x ∷ more → drop (i + 1) choices ≡ more → old ≡ count_of (x ∷ more) → number < old → rest ≡ old / length x.coverages.items → Step choices i x rest number
step_cons choices i x more old rest number e f r p s =
    let size : 0 < length x.coverages.items = left_positive (length x.coverages.items) (count_of more) number (subst (λ n. number < n) r p) in
    let q : 0 < count_of more = right_positive (length x.coverages.items) (count_of more) number (subst (λ n. number < n) r p) in
    let k : rest ≡ count_of more = s ∙ rw r (mul-div_cancel_left (count_of more) size) in
    record {
      left = k ∙ ap count_of (sym f);
      within = rw k (div_below number (count_of more) (length x.coverages.items) q (subst (λ n. number < n) r p));
      inside = rw k (mod-lt number q);
      made = rw (k, e, f) refl;
    }

-- the choices from one on
pub drop_next : (choices : List Choice) (i : ℕ) (x : Choice) → i < length choices → x ≡ get_or choices i x → drop i choices ≡ x ∷ drop (i + 1) choices
drop_next choices i x lt is =
    let f : drop (i + 1) choices ≡ drop (suc i) choices = rw add-one refl in
    drop-cons choices i x lt ∙ ap (λ b. get_or choices i x ∷ b) (sym f) ∙ ap (λ y. y ∷ drop (i + 1) choices) (sym is)

pub step : (choices : List Choice) (i : ℕ) (x : Choice) (old rest number : ℕ) → i < length choices → x ≡ get_or choices i x → old ≡ count_of (drop i choices) → number < old → rest ≡ old / length x.coverages.items → Step choices i x rest number
step choices i x old rest number lt is r p s =
    let e = drop_next choices i x lt is in
    step_cons choices i x (drop (i + 1) choices) old rest number e refl (r ∙ ap count_of e) p s

-- a product that stops at a cap, one factor further
pub product_step : (t c f r : ℕ) → min (min (c * min f t) t * r) t ≡ min (c * (f * r)) t
product_step t c f r =
    let swap : min (c * min f t) t * r ≡ r * min (c * min f t) t = omega arith in
    let both : r * (c * min f t) ≡ (r * c) * min f t = omega arith in
    let whole : (r * c) * f ≡ c * (f * r) = omega arith in
    ap (λ n. min n t) swap ∙ min_times t r (c * min f t) ∙ ap (λ n. min n t) both ∙ min_times t (r * c) f ∙ ap (λ n. min n t) whole

-- within pieces of one length, an element's place
at_piece : {X A : Type 0} (f : X → List A) (n : ℕ) (xs : List X) → ((x : X) → length (f x) ≡ n) → (i j : ℕ) (e : X) (d : A) → i < length xs → j < n → get_or (flat_map f xs) (i * n + j) d ≡ get_or (f (get_or xs i e)) j d
at_piece f n [] same i j e d hi hj = absurd (omega arith)
at_piece f n (x ∷ xs) same zero j e d hi hj = grind (arith, elements, same x)
at_piece f n (x ∷ xs) same (suc i) j e d hi hj =
    let rest : get_or (flat_map f xs) (i * n + j) d ≡ get_or (f (get_or xs i e)) j d = at_piece f n xs same i j e d (omega (arith, hi)) hj in
    let at : suc i * n + j ≡ length (f x) + (i * n + j) = omega (arith, suc-mul i n, same x) in
    rw (flat_map-cons, at, get_or-append-add) rest

length_pieces : {X A : Type 0} (f : X → List A) (n : ℕ) (xs : List X) → ((x : X) → length (f x) ≡ n) → length (flat_map f xs) ≡ length xs * n
length_pieces f n [] same = omega arith
length_pieces f n (x ∷ xs) same = grind (arith, length-append (f x) (flat_map f xs), same x, length_pieces f n xs same)

get_or-map_at : {X Y : Type 0} (f : X → Y) (xs : List X) (i : ℕ) (d : Y) (x : X) → i < length xs → get_or xs i x ≡ x → get_or (map f xs) i d ≡ f x
get_or-map_at f xs i d x h e = grind (arith, elements)

-- what one coverage gives: it goes before each combination of the others
abbrev with_place : ChoiceTree → List ChoiceTree → ℕ → List (List Bound)
with_place c choices place = map (λ (rest : List Bound). bound_to c.variable place ∷ rest) (combinations choices)

-- the computed count is the number of combinations
pub length-combinations : (choices : List ChoiceTree) → length (combinations choices) ≡ combination_count choices
length-combinations [] = refl
length-combinations (c ∷ choices) =
    length_pieces (with_place c choices) (combination_count choices) c.coverages (λ place. length-map (combinations choices) (λ (rest : List Bound). bound_to c.variable place ∷ rest) ∙ length-combinations choices)

-- the combination that is computed for a number stands there
at_number : (choices : List ChoiceTree) (n : ℕ) (d : List Bound) → n < combination_count choices → get_or (combinations choices) n d ≡ combination_at choices n
at_number [] n d h = let zero_is : n ≡ 0 = omega (arith, h) in rw zero_is refl
at_number (c ∷ choices) n d h =
    let size = combination_count choices in
    let some : 0 < size = right_positive (length c.coverages) size n h in
    let q : n / size < length c.coverages = div_below n size (length c.coverages) some h in
    let r : n % size < size = mod-lt n some in
    let piece = at_piece (with_place c choices) size c.coverages (λ place. length-map (combinations choices) (λ (rest : List Bound). bound_to c.variable place ∷ rest) ∙ length-combinations choices) (n / size) (n % size) 0 d q r in
    let split : n / size * size + n % size ≡ n = div-add-mod' n size in
    let place = slice_index c.coverages (n / size) in
    let inside : n % size < length (combinations choices) = rw (length-combinations choices) r in
    rw split at piece
    ∙ get_or-map_at (λ (rest : List Bound). bound_to c.variable place ∷ rest) (combinations choices) (n % size) d (combination_at choices (n % size)) inside (at_number choices (n % size) (combination_at choices (n % size)) r)

pub chosen_next : (choices : List ChoiceTree) (n : ℕ) → n < combination_count choices → drop n (combinations choices) ≡ combination_at choices n ∷ drop (n + 1) (combinations choices)
chosen_next choices n h =
    let f : drop (n + 1) (combinations choices) ≡ drop (suc n) (combinations choices) = rw add-one refl in
    let inside : n < length (combinations choices) = rw (length-combinations choices) h in
    drop-cons (combinations choices) n [] inside ∙ ap (λ b. b ∷ drop (suc n) (combinations choices)) (at_number choices n [] h) ∙ ap (λ rest. combination_at choices n ∷ rest) (sym f)

pub chosen_all : (choices : List ChoiceTree) → drop (combination_count choices) (combinations choices) ≡ []
chosen_all choices = subst (λ n. drop n (combinations choices) ≡ []) (length-combinations choices) (drop-length (combinations choices))
