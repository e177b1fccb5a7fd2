-- The four bytes are those of the number that they read as, the lowest first.
use Rattle.std.proofs.Common.{ℕ, sym, ap, ◌∙◌, arith}
use Rattle.byteorder.specs.Endian.{little_bytes}
use Rattle.file_bytes.proofs.Numbers.{bytes-number}
use Rattle.file_bytes.proofs.number_of.Goals as goal

-- the four bytes are those of the number that they read as
pub returns : goal.returns
returns c =
    sym (bytes-number 4 c.args.bytes.now c.requires (λ k. omega (arith, c.type_inv.bytes k))) ∙ ap (λ (n : ℕ). little_bytes 4 n) (sym c.read_u32.ensures)
