-- The bytes of the rest are those from the place on, so the ones are all zero exactly where the others are.
use Rattle.std.proofs.Common.{◌≡◌, ◌-◌, ◌<◌, ◌+◌, ℕ, ◌∙◌, IsTrue, ◌↔◌, length, get_or, arith, rules, sym}
use Rattle.block_file.proofs.Numbers.{byte-mid, length-mid}
use borrow.Rule.Slice.PartMut.{mid_of}
use Rattle.block_file.proofs.header.all_zero.Goals as goal

pub returns : goal.returns
returns c =
    let at = c.args.at in
    let n : ℕ = length c.args.bytes.now - at in
    let len = length-mid at n c.args.bytes.now (omega arith) in
    let all : IsTrue c.all.result ↔ ((i : ℕ) → i < length (mid_of at n c.args.bytes.now) → get_or (mid_of at n c.args.bytes.now) i 0 ≡ 0) = search rules in (
      λ zero i a b. let there : at + (i - at) ≡ i = omega arith in rw (← there) (sym (byte-mid at n (i - at) c.args.bytes.now (omega arith)) ∙ all.0 zero (i - at) (omega arith)),
      λ zeros. all.1 (λ i lt. byte-mid at n i c.args.bytes.now (omega arith) ∙ zeros (at + i) (omega arith) (omega arith)),
    )
