-- A text with bytes behind its closing bracket spells no interval.
use Rattle.std.proofs.Common.{◌≡◌, ℕ, List, ◌∷◌, [], length, false, Err, refl, inl}
use Rattle.std.specs.Prelude.{◌==◌}
use Rattle.kvp_front.specs.declared.request.RequestError.TheVariants.{BadValue}
use Rattle.kvp_front.specs.Spelling.{at_end}
use Rattle.kvp_front.proofs.spelling.read_interval.Goals as goal

left_over : {X : Type 0} (x : X) (rest : List ℕ) → false ≡ (length rest == 0) → at_end x rest ≡ Err BadValue
left_over x [] e = absurd cc
left_over x (b ∷ bs) e = refl

pub returns-then-not-is_empty : goal.returns-then-not-is_empty
returns-then-not-is_empty c =
    let parts : List ℕ × List ℕ × List ℕ = (c.in_ok-axis.axis.now, c.in_ok-lo.lo.now, c.in_ok-hi.hi.now) in
    let over = left_over parts c.in_ok-hi.rest.now c.if-not-is_empty.ensures in
    inl (rw (c.in_ok-axis.ensures, c.in_ok-lo.ensures, c.in_ok-hi.ensures, over) refl)
