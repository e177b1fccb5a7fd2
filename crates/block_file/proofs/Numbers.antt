-- Numbers at places of bytes.
use Rattle.std.proofs.Common.{◌≡◌, ℕ, zero, suc, ◌+◌, ◌-◌, ◌^◌, ◌<◌, ◌≤◌, List, ◌++◌, length, get_or, take, drop, replicate, arith, refl, ap, sym, ◌∙◌, add-zero, zero-add}
use Rattle.std.proofs.lemmas.Grind.{common_steps, elements}
use Rattle.std.proofs.lemmas.List.{get_or-replicate, get_or_past, length-replicate}
use borrow.Rule.Slice.PartMut.{put_mid, mid_of}
use Rattle.byteorder.specs.Endian.{little_from, little_bytes}
use Rattle.byteorder.specs.Numbers.{little_number-reads_back}
use Rattle.block_file.specs.Format.{number_at, Put}

-- a number is that of its bytes, wherever they stand
same_from : (i k n : ℕ) (xs ys : List ℕ) → ((j : ℕ) → j < n → get_or xs (i + j) 0 ≡ get_or ys (k + j) 0) → little_from i n xs ≡ little_from k n ys
same_from i k zero xs ys same = refl
same_from i k (suc n) xs ys same =
    let byte : get_or xs i 0 ≡ get_or ys k 0 = rw (add-zero i, add-zero k) at (same 0 (omega arith)) in
    let rest : little_from (suc i) n xs ≡ little_from (suc k) n ys = same_from (suc i) (suc k) n xs ys (λ j lt. let next : (m : ℕ) → suc m + j ≡ m + suc j = λ m. omega arith in rw (next i, next k) (same (suc j) (omega arith))) in
    rw (byte, rest) refl

pub same_number : (at n : ℕ) (xs ys : List ℕ) → ((j : ℕ) → at ≤ j → j < at + n → get_or xs j 0 ≡ get_or ys j 0) → number_at at n xs ≡ number_at at n ys
unfolding number_at
same_number at n xs ys same = same_from at at n xs ys (λ j lt. same (at + j) (omega arith) (omega arith))

-- a number reads the same in a part of the bytes
number-part : (at n : ℕ) (xs part : List ℕ) → ((j : ℕ) → j < n → get_or part j 0 ≡ get_or xs (at + j) 0) → little_from 0 n part ≡ number_at at n xs
unfolding number_at
number-part at n xs part same = same_from 0 at n part xs (λ j lt. rw zero-add (same j lt))

-- the number that was written to a part
pub number-put : (at k n x : ℕ) (xs ys rest : List ℕ) → at + k ≤ length xs → k ≡ n → length ys ≡ k → x < 256 ^ n → ys ≡ little_bytes n x ++ rest → Put at n x xs (put_mid at k xs ys)
number-put at k n x xs ys rest fits kn len small e = record {
  number = sym (number-part at n (put_mid at k xs ys) ys (λ j h. grind (arith, elements)))
      ∙ ap (little_from 0 n) e
      ∙ little_number-reads_back n x rest small;
  below = λ i h. grind (arith, elements);
  above = λ i h. grind (arith, elements);
  same_length = grind (arith, common_steps);
}

-- a byte of a part
pub byte-mid : (at k j : ℕ) (xs : List ℕ) → j < k → get_or (mid_of at k xs) j 0 ≡ get_or xs (at + j) 0
byte-mid at k j xs lt = grind (arith, elements)

pub length-mid : (at k : ℕ) (xs : List ℕ) → at + k ≤ length xs → length (mid_of at k xs) ≡ k
length-mid at k xs fits = grind (arith, common_steps)

-- a number reads the same in what is left from its place on
pub number_cut : (at n : ℕ) (xs : List ℕ) → at + n ≤ length xs → number_at at n xs ≡ little_from 0 n (take (length xs - at) (drop at xs))
number_cut at n xs le = sym (number-part at n xs (take (length xs - at) (drop at xs)) (λ j h. byte-mid at (length xs - at) j xs (omega arith)))

pub get_or-zeros : (n k : ℕ) → get_or {A = ℕ} (replicate n 0) k 0 ≡ 0
get_or-zeros n k = grind (arith, get_or-replicate, get_or_past, length-replicate)

-- a front, and zeros behind it
pub zeros_after : (front : List ℕ) (n m i : ℕ) → length front ≡ m → m ≤ i → get_or (front ++ drop m (replicate n 0)) i 0 ≡ 0
zeros_after front n m i len le = grind (arith, elements, get_or-zeros n (m + (i - m)), get_or_past)

-- a part of zeros
pub zeros_mid : (at k n i : ℕ) → get_or {A = ℕ} (mid_of at k (replicate n 0)) i 0 ≡ 0
zeros_mid at k n i = grind (arith, elements, get_or-zeros n (at + i), get_or_past)

-- a part that was put among zeros, and the zeros behind it
pub part_among_zeros : (n at k j : ℕ) (part : List ℕ) → at + k ≤ n → length part ≡ k → get_or (put_mid at k (replicate n 0) part) (at + j) 0 ≡ get_or part j 0
part_among_zeros n at k j part fits len = grind (arith, elements, get_or-zeros n (at + j), get_or_past)
