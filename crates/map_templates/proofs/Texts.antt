-- Texts that are put together of equal parts.
use Rattle.std.proofs.Common.{◌≡◌, ℕ, zero, suc, ◌+◌, ◌-◌, ◌≤◌, List, [], ◌∷◌, length, get_or, take, drop, IfOk, Result, refl, ap, sym, ◌∙◌, subst, arith}
use Rattle.arr_core.specs.declared.domain.Axis.{Axis}
use Rattle.map_templates.specs.Texts.{listed_text, iterator_text, iterators_text, position_text, positions_text}

-- the text of a call's result, in other words
pub ok-same : {A E : Type 0} (r : Result A E) (f : A → List ℕ) (x y : List ℕ) → x ≡ y → IfOk r (λ t. f t ≡ x) → IfOk r (λ t. f t ≡ y)
ok-same r f x y e h = subst (λ (z : List ℕ). IfOk r (λ t. f t ≡ z)) e h

pub same2 : (f : List ℕ → List ℕ → List ℕ) {a b c d : List ℕ} → a ≡ b → c ≡ d → f a c ≡ f b d
same2 f {b = b} {c = c} e h = ap (λ (x : List ℕ). f x c) e ∙ ap (f b) h

pub same3 : (f : List ℕ → List ℕ → List ℕ → List ℕ) {a b c d x y : List ℕ} → a ≡ b → c ≡ d → x ≡ y → f a c x ≡ f b d y
same3 f {b = b} {c = c} {x = x} e h k = ap (λ (z : List ℕ). f z c x) e ∙ same2 (f b) h k

pub same4 : (f : List ℕ → List ℕ → List ℕ → List ℕ → List ℕ) {a b c d x y v w : List ℕ} → a ≡ b → c ≡ d → x ≡ y → v ≡ w → f a c x v ≡ f b d y w
same4 f {b = b} {c = c} {x = x} {v = v} e h k l = ap (λ (z : List ℕ). f z c x v) e ∙ same3 (f b) h k l

take-whole : {X : Type 0} (xs : List X) (n : ℕ) → n ≡ length xs → take n xs ≡ xs
take-whole [] zero e = refl
take-whole [] (suc n) e = absurd (omega arith)
take-whole (x ∷ xs) zero e = absurd (omega arith)
take-whole {X} (x ∷ xs) (suc n) e = ap (λ (ys : List X). x ∷ ys) (take-whole xs n (omega arith))

-- a list of two axes or more, by its first one and the others
by-first : (P : List Axis → Axis → List Axis → Type 0) → ((x y : Axis) (axes : List Axis) → P (x ∷ y ∷ axes) x (y ∷ axes)) → (axes : List Axis) (x : Axis) → 2 ≤ length axes → x ≡ get_or axes 0 x
    → P axes x (take (length axes - 1) (drop 1 axes))
by-first P f [] x some is = absurd (omega arith)
by-first P f (y ∷ []) x some is = absurd (omega arith)
by-first P f (y ∷ z ∷ axes) x some is =
    subst (λ (w : Axis). P (y ∷ z ∷ axes) w (take (length (y ∷ z ∷ axes) - 1) (z ∷ axes))) (sym is)
    (subst (λ (rest : List Axis). P (y ∷ z ∷ axes) y rest) (sym (take-whole (z ∷ axes) (length (y ∷ z ∷ axes) - 1) (omega arith))) (f y z axes))

pub more-iterators : (stem : List ℕ) (k : ℕ) (axes : List Axis) (x : Axis) → 2 ≤ length axes → x ≡ get_or axes 0 x
    → listed_text (iterator_text stem k x) (iterators_text stem (k + 1) (take (length axes - 1) (drop 1 axes))) ≡ iterators_text stem k axes
more-iterators stem k axes x two is =
    by-first (λ all first rest. listed_text (iterator_text stem k first) (iterators_text stem (k + 1) rest) ≡ iterators_text stem k all) (λ y z more. refl) axes x two is

pub more-positions : (stem : List ℕ) (k : ℕ) (axes : List Axis) (x : Axis) → 2 ≤ length axes → x ≡ get_or axes 0 x
    → listed_text (position_text stem k x) (positions_text stem (k + 1) (take (length axes - 1) (drop 1 axes))) ≡ positions_text stem k axes
more-positions stem k axes x two is =
    by-first (λ all first rest. listed_text (position_text stem k first) (positions_text stem (k + 1) rest) ≡ positions_text stem k all) (λ y z more. refl) axes x two is
