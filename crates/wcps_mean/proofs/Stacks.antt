-- Lists that grow at their end and are cut back.
use Rattle.std.proofs.Common.{◌≡◌, ℕ, ◌≤◌, List, ◌++◌, length, take, drop, arith}
use Rattle.std.proofs.lemmas.Grind.{common_steps}

-- what was put on is cut off again
pub cut-back : {X : Type 0} (n : ℕ) (xs ys now : List X) → n ≡ length xs → now ≡ xs ++ ys → take n now ≡ xs
cut-back n xs ys now e f = grind (arith, common_steps)

-- what was put on stands from the old top on
pub on-top : {X : Type 0} (n : ℕ) (xs ys now : List X) → n ≡ length xs → now ≡ xs ++ ys → drop n now ≡ ys
on-top n xs ys now e f = grind (arith, common_steps)

-- at least all
pub take-whole : {X : Type 0} (n : ℕ) (xs : List X) → length xs ≤ n → take n xs ≡ xs
take-whole n xs h = grind (arith, common_steps)
