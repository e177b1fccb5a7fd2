-- Results that lie in 64 bits.
use Rattle.std.proofs.Common.{◌≡◌, ◌≤◌, ◌^◌, unsigned_abs, arith, ℤ, pos, negsuc, ◌*ℤ◌, ap, sym, ◌∙◌, w64, to_z, FitsSigned, SFits, cond, Bool, false, subst, of_z}
use Rattle.std.specs.Int.{w32, int_wrapping_mul}
use Rattle.std.specs.Bool.{FalseIff}
use Rattle.wcps_mean.specs.declared.cell.Outcome.{Outcome}
use Rattle.std.proofs.lemmas.Int.{ints, fits_signed_mul, wrapping_mul_is, int_wrap_fits, to_z-of_z}
use Rattle.std.proofs.lemmas.Bool.{lt-ltb}
use Rattle.wcps_mean.specs.declared.cell.PointFault.TheVariants.{Overflow}
use Rattle.wcps_mean.specs.declared.cell.Outcome.TheVariants.{Value, Fault}
use Rattle.wcps_mean.specs.Cells.{ranged}

pub ranged_fits : (z : ℤ) → SFits w64 z → ranged z ≡ Value z
ranged_fits (pos n) f = ap (λ b. cond b (Value (pos n)) (Fault Overflow)) (lt-ltb n (2 ^ 63) (omega (arith, ints)))
ranged_fits (negsuc n) f = ap (λ b. cond b (Value (negsuc n)) (Fault Overflow)) (lt-ltb n (2 ^ 63) (omega (arith, ints)))

pub ranged_same : (z v : ℤ) → z ≡ v → SFits w64 v → ranged z ≡ Value v
ranged_same z v e f = ap ranged e ∙ ranged_fits v f

pub product_kept : (x y : ℤ) → SFits w64 x → SFits w64 y → FitsSigned w64 (x *ℤ y) → x *ℤ y ≡ int_wrapping_mul w64 x y
product_kept x y f g h = sym (wrapping_mul_is w64 x y f g ∙ int_wrap_fits w64 (x *ℤ y) h)

pub product_result : (x y v : ℤ) (b : Bool) → SFits w64 x → SFits w64 y → v ≡ int_wrapping_mul w64 x y → FalseIff b (SFits w64 (x *ℤ y)) → b ≡ false → SFits w64 v → ranged (x *ℤ y) ≡ Value v
product_result x y v b f g e h n fits = ranged_same (x *ℤ y) v (product_kept x y f g (subst (λ b. FalseIff b (SFits w64 (x *ℤ y))) n h) ∙ sym e) fits

-- a result at operands that were read
pub read_result : (exact : ℤ → ℤ → Outcome) (a b x y v : ℤ) → SFits w64 a → SFits w64 b → SFits w64 v → a ≡ x → b ≡ y → exact (to_z w64 (of_z w64 a)) (to_z w64 (of_z w64 b)) ≡ Value v → exact x y ≡ Value (to_z w64 (of_z w64 v))
read_result exact a b x y v f g h p q e =
    ap (λ x. exact x y) (sym p) ∙ ap (λ y. exact a y) (sym q)
    ∙ ap (λ x. exact x b) (sym (to_z-of_z w64 a f)) ∙ ap (λ y. exact (to_z w64 (of_z w64 a)) y) (sym (to_z-of_z w64 b g))
    ∙ e ∙ ap Value (sym (to_z-of_z w64 v h))

narrow_size : (x : ℤ) → FitsSigned w32 x → unsigned_abs x ≤ 2 ^ 31
narrow_size (pos n) h = omega (arith, ints, h)
narrow_size (negsuc n) h = omega (arith, ints, h)

-- the product of two values that fit 32 bits
pub narrow_product : (x y v : ℤ) → SFits w64 x → SFits w64 y → FitsSigned w32 x → FitsSigned w32 y → v ≡ int_wrapping_mul w64 x y → SFits w64 v → ranged (x *ℤ y) ≡ Value v
narrow_product x y v f g a b e fits =
    let wide : FitsSigned w64 (x *ℤ y) = fits_signed_mul w64 x y (2 ^ 31) (2 ^ 31) (narrow_size x a) (narrow_size y b) (omega arith) in
    ranged_same (x *ℤ y) v (product_kept x y f g wide ∙ sym e) fits

pub fits_wide : (z : ℤ) → SFits w32 z → SFits w64 z
fits_wide (pos n) f = record { sfits = omega (arith, ints, f.sfits) }
fits_wide (negsuc n) f = record { sfits = omega (arith, ints, f.sfits) }

-- a value of 32 bits that is widened
pub widened : (z : ℤ) → SFits w32 z → to_z w64 (of_z w64 (to_z w32 (of_z w32 z))) ≡ z
widened z f = ap (λ y. to_z w64 (of_z w64 y)) (to_z-of_z w32 z f) ∙ to_z-of_z w64 z (fits_wide z f)
