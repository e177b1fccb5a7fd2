-- Each of the three numbers has its own place.
use Rattle.std.proofs.Common.{◌≡◌, ◌∙◌, ℕ, zero, suc, ◌<◌, ℤ, ◌+ℤ◌, pos, [], ◌∷◌, refl, sym, ap, subst, arith, rules, Option, Some, None, SFits, w64, to_z-of_z}
use Rattle.std.specs.Prelude.{IfSome, IfNone}
use Rattle.std.proofs.lemmas.Int.{ints}
use Rattle.tile_kernel.specs.Keyed.{number_at, IsPlaceOf}
use Rattle.query_tests.proofs.keyed.ThreeNumbers.place_of.Goals as goal

at : (first : ℤ) (k : ℕ) → k < 3 → number_at (first ∷ (first +ℤ pos 1) ∷ (first +ℤ pos 2) ∷ []) k ≡ first +ℤ pos k
at first zero l = omega (arith, ints)
at first (suc zero) l = refl
at first (suc (suc zero)) l = refl
at first (suc (suc (suc k))) l = absurd (omega (arith, l))

same : (first : ℤ) (i k : ℕ) → first +ℤ pos i ≡ first +ℤ pos k → i ≡ k
same first i k e = omega (arith, ints, e)

three : (first z : ℤ) (r : Option ℕ) → IfSome r (λ i. (i < 3) × (z ≡ first +ℤ pos i)) → IfNone r ((i : ℕ) → i < 3 → z ≡ first +ℤ pos i → ⊥) → IsPlaceOf z (first ∷ (first +ℤ pos 1) ∷ (first +ℤ pos 2) ∷ []) r
three first z None within none k l = ((λ e. absurd (none k l (sym e ∙ at first k l))), (λ w. cc))
three first z (Some i) within none k l = (
  (λ e. ap Some (same first i k (sym within.1 ∙ sym e ∙ at first k l))),
  (λ (w : Some i ≡ Some k). let p : i ≡ k = cc in at first k l ∙ ap (λ j. first +ℤ pos j) (sym p) ∙ sym within.1),
)

pub returns-clause-place : goal.returns-clause-place
returns-clause-place c =
    let first = c.args.self.now.first in
    let fz : SFits w64 c.args.z = search rules in
    let ff : SFits w64 first = search rules in
    let Within : ℤ → ℤ → Type 0 = λ f z. IfSome c.above.result (λ i. (i < 3) × (z ≡ f +ℤ pos i)) in
    let Without : ℤ → ℤ → Type 0 = λ f z. IfNone c.above.result ((i : ℕ) → i < 3 → z ≡ f +ℤ pos i → ⊥) in
    three first c.args.z c.above.result
    (subst (λ f. Within f c.args.z) (to_z-of_z ff) (subst (Within _) (to_z-of_z fz) c.above.ensures.within))
    (subst (λ f. Without f c.args.z) (to_z-of_z ff) (subst (Without _) (to_z-of_z fz) c.above.ensures.none))
