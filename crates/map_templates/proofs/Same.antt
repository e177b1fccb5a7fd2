-- The test whether two lists of axes are the same.
use Rattle.std.proofs.Common.{◌≡◌, ℕ, ℤ, List, [], ◌∷◌, Bool, Decides, ◌↔◌, IsTrue, refl, ap, sym, ◌∙◌}
use Rattle.std.proofs.lemmas.Bool.{false≢true}
use Rattle.std.proofs.lemmas.Bool.Decides.{Decides-and, Decides-like, Decides-int_eq, same_from_decides}
use Rattle.std.proofs.lemmas.Slice.Eq.{bytes_eq-Decides}
use Rattle.arr_core.specs.declared.domain.Axis.{Axis}
use Rattle.wcps_types.specs.Operators.{is_same_axis, are_same}
use Rattle.map_templates.proofs.Sets.{cons-nil}

axis-same : (a b : Axis) → a.name ≡ b.name → a.lo ≡ b.lo → a.hi ≡ b.hi → a ≡ b
axis-same a b e f g =
    let made : List ℕ → ℤ → ℤ → Axis = λ n lo hi. record { name = n; lo = lo; hi = hi } in
    ap (λ (n : List ℕ). made n a.lo a.hi) e ∙ ap (λ (lo : ℤ). made b.name lo a.hi) f ∙ ap (λ (hi : ℤ). made b.name b.lo hi) g

Decides-axis : (a b : Axis) → Decides (is_same_axis a b) (a ≡ b)
Decides-axis a b =
    Decides-like (is_same_axis a b) (λ (p : ((a.name ≡ b.name) × (a.lo ≡ b.lo)) × (a.hi ≡ b.hi)). axis-same a b p.0.0 p.0.1 p.1)
    (λ (e : a ≡ b). ((ap (λ (x : Axis). x.name) e, ap (λ (x : Axis). x.lo) e), ap (λ (x : Axis). x.hi) e))
    (Decides-and _ _ (Decides-and _ _ (bytes_eq-Decides a.name b.name) (Decides-int_eq a.lo b.lo)) (Decides-int_eq a.hi b.hi))

first-same : (a b : Axis) (as' bs : List Axis) → a ∷ as' ≡ b ∷ bs → a ≡ b
first-same a b as' bs e = cc

rest-same : (a b : Axis) (as' bs : List Axis) → a ∷ as' ≡ b ∷ bs → as' ≡ bs
rest-same a b as' bs e = cc

both-same : (a b : Axis) (as' bs : List Axis) → a ≡ b → as' ≡ bs → a ∷ as' ≡ b ∷ bs
both-same a b as' bs e f = cc

pub Decides-same : (as' bs : List Axis) → Decides (are_same as' bs) (as' ≡ bs)
Decides-same [] [] = (λ _. refl, λ _. refl)
Decides-same [] (b ∷ bs) = (λ e. absurd (false≢true e), λ e. absurd (cons-nil b bs (sym e)))
Decides-same (a ∷ as') [] = (λ e. absurd (false≢true e), λ e. absurd (cons-nil a as' e))
Decides-same (a ∷ as') (b ∷ bs) =
    Decides-like (are_same (a ∷ as') (b ∷ bs)) (λ (p : (a ≡ b) × (as' ≡ bs)). both-same a b as' bs p.0 p.1)
    (λ (e : a ∷ as' ≡ b ∷ bs). (first-same a b as' bs e, rest-same a b as' bs e)) (Decides-and _ _ (Decides-axis a b) (Decides-same as' bs))

-- two tests of the same
pub told-same : (r : Bool) (as' bs : List Axis) → IsTrue r ↔ (as' ≡ bs) → r ≡ are_same as' bs
told-same r as' bs h = same_from_decides r (are_same as' bs) (h.0, h.1) (Decides-same as' bs)
