-- Parts that are read: bytes behind their length.
use Rattle.std.proofs.Common.{◌≡◌, ℕ, ◌<◌, ◌^◌, List, ◌++◌, length, sym, ap, ap₂, ◌∙◌, arith, append_assoc, length-append}
use Rattle.byteorder.specs.Endian.{little_bytes}
use Rattle.file_bytes.specs.Codes.{IsRead}
use Rattle.file_bytes.proofs.Numbers.{same-numbers}
use Rattle.catalogue.proofs.Sequences.{read-taken}
use Rattle.metadata.specs.Metadata.{part_bytes}
use Rattle.metadata.specs.Parts.{IsAny}

part-split : (x rest : List ℕ) → part_bytes x ++ rest ≡ little_bytes 8 (length x) ++ (x ++ rest)
part-split x rest = append_assoc (little_bytes 8 (length x)) x rest

-- what the number in front says of a part
same-length : (n : ℕ) (bytes left y rest : List ℕ) → n < 2 ^ 64 → length left < 2 ^ 64 → bytes ≡ little_bytes 8 n ++ left
    → bytes ≡ part_bytes y ++ rest → (n ≡ length y) × (left ≡ y ++ rest)
same-length n bytes left y rest small short e f =
    let whole : little_bytes 8 n ++ left ≡ little_bytes 8 (length y) ++ (y ++ rest) = sym e ∙ f ∙ part-split y rest in
    let longer = length-append y rest in
    let total = ap length whole in
    let front = length-append (little_bytes 8 n) left in
    let front-y = length-append (little_bytes 8 (length y)) (y ++ rest) in
    same-numbers 8 n (length y) left (y ++ rest) (omega arith) (omega arith) whole

pub part-read : {bytes left part new : List ℕ} (n : ℕ) → n < 2 ^ 64 → length left < 2 ^ 64 → bytes ≡ little_bytes 8 n ++ left
    → length part ≡ n → left ≡ part ++ new → IsRead IsAny part_bytes bytes part new
part-read {bytes} {left} {part} {new} n small short e l p = record {
  value = tt;
  front = e ∙ ap₂ (λ (k : ℕ) (xs : List ℕ). little_bytes 8 k ++ xs) (sym l) p ∙ sym (part-split part new);
  only = λ y rest v f.
      let s = same-length n bytes left y rest small short e f in
      (read-taken l p).only y rest (tt, sym s.0) s.1;
}
