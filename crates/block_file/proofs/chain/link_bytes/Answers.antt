-- The number in front leaves the part as it was copied, and the bytes behind the part are zero.
use Rattle.std.proofs.Common.{◌+◌, ◌-◌, List, ℕ, length, get_or, arith, ap, ◌∙◌}
use Rattle.block_file.proofs.Numbers.{part_among_zeros}
use Rattle.block_file.proofs.chain.link_bytes.Goals as goal

pub returns-clause-part : goal.returns-clause-part
returns-clause-part c = λ j.
    c.put_number.ensures.above (4 + j) (omega arith)
    ∙ part_among_zeros 4096 4 (4 + length c.args.part.now - 4) j c.copy_from_slice.new.self (omega arith) (omega (arith, ap length c.copy_from_slice.ensures.after))
    ∙ ap (λ (xs : List ℕ). get_or xs j 0) c.copy_from_slice.ensures.after
