-- Lists of values whose codes can be told apart.
use Rattle.std.proofs.Common.{◌≡◌, ℕ, suc, ◌≤◌, List, [], ◌∷◌, ◌++◌, length, flat_map, refl, sym, ap, ap₂, ◌∙◌, append_assoc, append-nil, length-append, arith, All}
use Rattle.std.proofs.lemmas.List.{nil_from_length}
use Rattle.file_bytes.specs.Codes.{IsPrefixCode}

-- one list of values begins another, and the codes of the others follow
pub record Begins {X : Type 0} (code : X → List ℕ) (xs ys : List X) (a b : List ℕ) : Type 0 where
  pub others : List X
  pub parts : ys ≡ xs ++ others
  pub left_is : a ≡ flat_map code others ++ b

-- values that are written one after another can be told apart too
pub begins : {X : Type 0} (is_value : X → Type 0) (code : X → List ℕ) → IsPrefixCode is_value code → (xs ys : List X) (a b : List ℕ) → All is_value xs → All is_value ys → length xs ≤ length ys → flat_map code xs ++ a ≡ flat_map code ys ++ b → Begins code xs ys a b
begins v code p [] ys a b hx hy l e = record { others = ys; parts = refl; left_is = e }
begins v code p (x ∷ xs) [] a b hx hy l e = absurd (omega arith)
begins v code p (x ∷ xs) (y ∷ ys) a b hx hy l e =
    let one = p x y (flat_map code xs ++ a) (flat_map code ys ++ b) (hx 0 x (omega arith)) (hy 0 y (omega arith)) (sym (append_assoc (code x) (flat_map code xs) a) ∙ e ∙ append_assoc (code y) (flat_map code ys) b) in
    let rest = begins v code p xs ys a b (λ k d h. hx (suc k) d (omega arith)) (λ k d h. hy (suc k) d (omega arith)) (omega arith) one.1 in
    record { others = rest.others; parts = ap₂ (λ z zs. z ∷ zs) (sym one.0) rest.parts; left_is = rest.left_is }

-- and as many values are the same ones
pub same-lists : {X : Type 0} (is_value : X → Type 0) (code : X → List ℕ) → IsPrefixCode is_value code → (xs ys : List X) (a b : List ℕ) → All is_value xs → All is_value ys → length xs ≡ length ys → flat_map code xs ++ a ≡ flat_map code ys ++ b → (xs ≡ ys) × (a ≡ b)
same-lists v code p xs ys a b hx hy l e =
    let s = begins v code p xs ys a b hx hy (omega arith) e in
    let none = nil_from_length s.others (omega (arith, ap length s.parts, length-append xs s.others)) in
    (sym (s.parts ∙ ap (λ zs. xs ++ zs) none ∙ append-nil xs), s.left_is ∙ ap (λ zs. flat_map code zs ++ b) none)
