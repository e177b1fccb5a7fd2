-- What a check gives where it gives something.
use Rattle.std.proofs.Common.{◌≡◌, Bool, true, false, refl, cond}
use Rattle.std.specs.Prelude.{Ok, Err}
use Rattle.wcps_types.specs.Shapes.{Answer, then_of}

-- what the check gives, if anything, is such
abbrev pub Gives : {A : Type 0} → (A → Type 0) → Answer A → Type 0
Gives P (Err f) = Unit {0}
Gives P (Ok a) = P a

pub gives-then : {A B : Type 0} (P : A → Type 0) (Q : B → Type 0) (a : Answer A) (go : A → Answer B) → Gives P a → ((x : A) → P x → Gives Q (go x)) → Gives Q (then_of a go)
gives-then P Q (Err f) go h k = tt
gives-then P Q (Ok x) go h k = k x h

pub gives-cond : {A : Type 0} (P : A → Type 0) (b : Bool) (x y : Answer A) → (b ≡ true → Gives P x) → (b ≡ false → Gives P y) → Gives P (cond b x y)
gives-cond P true x y h k = h refl
gives-cond P false x y h k = k refl

-- whatever is given
pub gives-any : {A : Type 0} (a : Answer A) → Gives (λ _. Unit {0}) a
gives-any (Err f) = tt
gives-any (Ok x) = tt
