-- How the words on calls follow one another.
use Rattle.std.proofs.Common.{◌≡◌, ℕ, ◌+◌, ◌<◌, ◌≤◌, arith, refl, ◌∙◌}
use Rattle.block_file.specs.State.{BlocksState}
use Rattle.block_file.specs.Words.{Moves}

-- uses alone have changed
pub unmoved : (given taken : ℕ → ℕ) (old new : BlocksState) → ((k : ℕ) → new.uses k + given k ≡ old.uses k + taken k) → new.content ≡ old.content → new.overreads ≡ old.overreads → new.size ≡ old.size → new.honest ≡ old.honest → Moves given taken old new
unmoved given taken old new uses content overreads size honest = record {
  uses = uses;
  kept = λ k h whole. rw content refl;
  header = λ whole. rw content refl;
  overreads = overreads;
  size = size;
  honest = honest;
}

-- one call after another
moves_through : (a b c d e f : ℕ → ℕ) (s1 s2 s3 : BlocksState) → ((k : ℕ) → s3.uses k + e k ≡ s1.uses k + f k) → ((k : ℕ) → e k < s1.uses k → (a k < s1.uses k) × (c k < s2.uses k))
    → Moves a b s1 s2 → Moves c d s2 s3 → Moves e f s1 s3
moves_through a b c d e f s1 s2 s3 uses less m n = record {
  uses = uses;
  kept = λ k h whole. let same = m.kept k (less k h).0 whole in n.kept k (less k h).1 (rw same whole) ∙ same;
  header = λ whole. let same = m.header whole in n.header (rw same whole) ∙ same;
  overreads = n.overreads ∙ m.overreads;
  size = n.size ∙ m.size;
  honest = n.honest ∙ m.honest;
}

pub moves_then : (a b c d : ℕ → ℕ) (s1 s2 s3 : BlocksState) → Moves a b s1 s2 → Moves c d s2 s3 → Moves (λ k. a k + c k) (λ k. b k + d k) s1 s3
moves_then a b c d s1 s2 s3 m n =
    moves_through a b c d (λ k. a k + c k) (λ k. b k + d k) s1 s2 s3 (λ k. omega (arith, m.uses k, n.uses k)) (λ k h. (omega arith, omega (arith, m.uses k))) m n

-- the same moves by other counts: what is given up and taken may grow alike, where no promise was made
pub moves_as : (a b c d : ℕ → ℕ) (old new : BlocksState) → ((k : ℕ) → c k + b k ≡ a k + d k) → ((k : ℕ) → c k < old.uses k → a k < old.uses k) → Moves a b old new → Moves c d old new
moves_as a b c d old new same less m = record {
  uses = λ k. omega (arith, m.uses k, same k);
  kept = λ k h whole. m.kept k (less k h) whole;
  header = m.header;
  overreads = m.overreads;
  size = m.size;
  honest = m.honest;
}

-- one call more that gives up and takes no others
pub moves_more : (counts some : ℕ → ℕ) (s1 s2 s3 : BlocksState) → ((k : ℕ) → some k ≤ counts k) → Moves counts counts s1 s2 → Moves some some s2 s3 → Moves counts counts s1 s3
moves_more counts some s1 s2 s3 fewer m n =
    moves_through counts counts some some counts counts s1 s2 s3 (λ k. omega (arith, m.uses k, n.uses k)) (λ k h. (h, omega (arith, m.uses k, fewer k))) m n
