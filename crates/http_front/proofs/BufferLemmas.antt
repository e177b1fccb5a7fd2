-- What a write into the room behind the held bytes leaves, and what a step forward leaves.
use Rattle.std.proofs.Common.{◌≡◌, ℕ, ◌+◌, ◌-◌, ◌≤◌, List, ◌++◌, length, take, drop, refl, ap, ◌∙◌, arith}
use Rattle.std.proofs.lemmas.List.{take_at, drop_at, take-append-le, length-take-le, length-drop}
use Rattle.std.proofs.lemmas.List.Edits.{take-paste}
use Rattle.std.specs.Prelude.{slice_range}
use Rattle.std.specs.List.{copy_within}
use borrow.Rule.Slice.PartMut.{put_mid, post_of}
use lib.Seq.{take-add}

-- the first n bytes of the room were written
pub filled_view : (f k n : ℕ) (a ys : List ℕ) → f ≤ length a → n ≤ length ys
    → take (f + n) (put_mid f k a ys) ≡ take f a ++ take n ys
filled_view f k n a ys within few =
    let len : length (take f a) ≡ f = length-take-le f a within in
    let after = ys ++ post_of f k a in
    take-add f n (take f a ++ after)
    ∙ (rw (take_at (take f a) after f len, drop_at (take f a) after f len, take-append-le n ys (post_of f k a) few) refl)

-- the bytes from count on were moved to the front
pub moved_view : (f count : ℕ) (a : List ℕ) → count ≤ f → f ≤ length a
    → take (f - count) (copy_within a count f 0) ≡ slice_range a count f
moved_view f count a few within =
    let room : f - count ≤ length (drop count a) = omega (arith, length-drop count a) in
    let zero : f - count ≡ 0 + (f - count) = omega arith in
    ap (λ j. take j (copy_within a count f 0)) zero ∙ take-paste a 0 (drop count a) (f - count) (omega arith) room

-- a range from the front
pub front_range : (xs : List ℕ) (j : ℕ) → slice_range xs 0 j ≡ take j xs
front_range xs j = let same : j - 0 ≡ j = omega arith in ap (λ k. take k xs) same
