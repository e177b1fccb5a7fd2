-- Where the first one that passes stands in two lists, one behind the other.
use Rattle.std.proofs.Common.{◌≡◌, ℕ, ◌+◌, Bool, true, false, cond, not, List, [], ◌∷◌, ◌++◌, length, Option, Some, None, is_some, refl, ap, sym, ◌∙◌, subst, arith, option_map, length-append}
use Rattle.std.specs.List.{position}
use Rattle.std.specs.Str.{bytes_eq}
use Rattle.std.proofs.lemmas.Bool.{false≢true}
use Rattle.std.proofs.lemmas.Slice.Eq.{bytes_eq-Decides}
use Rattle.wcps_types.specs.declared.bound.Bound.{Bound}
use Rattle.wcps_types.specs.Names.{bound_place, placed_behind}
use Rattle.std.proofs.lemmas.List.Folds.{prefix_len-append}
use Rattle.std.proofs.lemmas.List.Sums.{prefix_len-le-length}

-- one of the first list is there
pub position-first : {X : Type 0} (p : X → Bool) (xs ys : List X) (k : ℕ) → position p xs ≡ Some k → position p (xs ++ ys) ≡ Some k
position-first p xs ys k e = grind (arith, e, prefix_len-append (λ x. not (p x)) xs ys, length-append xs ys)

-- else one of the second list, behind all of the first
pub position-second : {X : Type 0} (p : X → Bool) (xs ys : List X) → position p xs ≡ None → position p (xs ++ ys) ≡ option_map (λ k. length xs + k) (position p ys)
position-second p xs ys e = grind (arith, e, prefix_len-append (λ x. not (p x)) xs ys, length-append xs ys, prefix_len-le-length (λ x. not (p x)) xs)

one-behind : {X : Type 0} (p : X → Bool) (xs : List X) (y : X) (o : Option ℕ) → position p xs ≡ o → position p (xs ++ y ∷ []) ≡ placed_behind o (p y) (length xs)
one-behind p xs y (Some k) e = position-first p xs (y ∷ []) k e
one-behind p xs y None e = grind (arith, position-second p xs (y ∷ []) e)

-- one more behind them
pub position-behind : {X : Type 0} (p : X → Bool) (xs : List X) (y : X) → position p (xs ++ y ∷ []) ≡ placed_behind (position p xs) (p y) (length xs)
position-behind p xs y = one-behind p xs y (position p xs) refl

same-name : (x y : List ℕ) → bytes_eq x y ≡ true → x ≡ y
same-name x y e = (bytes_eq-Decides x y).0 e

first-place : (o : Option ℕ) (b : Bool) (n : ℕ) → (b ≡ true → is_some o ≡ false) → cond b (Some n) o ≡ placed_behind o b n
first-place None b n h = refl
first-place (Some k) true n h = absurd (false≢true (sym (h refl)))
first-place (Some k) false n h = refl

-- a name that has no place gets the new one
pub new-place : (f : List ℕ → Option ℕ) (name : List ℕ) (n : ℕ) → is_some (f name) ≡ false → (x : List ℕ) → cond (bytes_eq name x) (Some n) (f x) ≡ placed_behind (f x) (bytes_eq name x) n
new-place f name n h x = first-place (f x) (bytes_eq name x) n (λ e. subst (λ y. is_some (f y) ≡ false) (same-name name x e) h)

-- the places of variables and one more
pub placed-more : (list new : List Bound) (b : Bound) (name : List ℕ) (n : ℕ) (old places : List ℕ → Option ℕ) → ((x : List ℕ) → old x ≡ bound_place x list)
    → ((x : List ℕ) → places x ≡ placed_behind (old x) (bytes_eq name x) n) → n ≡ length list → b.variable ≡ name → new ≡ list ++ b ∷ [] → (x : List ℕ) → places x ≡ bound_place x new
placed-more list new b name n old places was is many named more x =
    is x
    ∙ ap (λ o. placed_behind o (bytes_eq name x) n) (was x)
    ∙ ap (placed_behind (bound_place x list) (bytes_eq name x)) many
    ∙ ap (λ y. placed_behind (bound_place x list) (bytes_eq y x) (length list)) (sym named)
    ∙ sym (position-behind (λ (c : Bound). bytes_eq c.variable x) list b)
    ∙ ap (bound_place x) (sym more)
