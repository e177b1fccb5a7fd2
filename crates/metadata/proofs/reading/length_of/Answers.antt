-- Eight bytes are those of the number that they read as.
use Rattle.std.proofs.Common.{ℕ, sym, ap, ◌∙◌, arith}
use Rattle.byteorder.specs.Endian.{little_bytes}
use Rattle.file_bytes.proofs.Numbers.{bytes-number}
use Rattle.metadata.proofs.reading.length_of.Goals as goal

pub returns : goal.returns
returns c =
    sym (bytes-number 8 c.args.bytes.now c.requires (λ k. omega (arith, c.type_inv.bytes k))) ∙ ap (λ (n : ℕ). little_bytes 8 n) (sym c.read_u64.ensures)
