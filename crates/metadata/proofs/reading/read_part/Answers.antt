-- A length and as many bytes are a part.
use Rattle.std.proofs.Common.{◌<◌, ◌^◌, ◌≡◌, ◌++◌, List, ℕ, ap, ◌∙◌, arith, rules}
use Rattle.byteorder.specs.Endian.{little_bytes}
use Rattle.metadata.proofs.Parts.{part-read}
use Rattle.metadata.proofs.reading.read_part.Goals as goal

pub returns : goal.returns
returns c =
    let n = c.length_of-length.result in
    let small : n < 2 ^ 64 = search rules in
    let room : c.len.result < 2 ^ 64 = search rules in
    let taken = c.in_ok-part.ensures.taken in
    let front : c.args.bytes.now ≡ little_bytes 8 n ++ c.take.new.self =
    c.in_ok-take.ensures.taken.1 ∙ ap (λ (xs : List ℕ). xs ++ c.take.new.self) c.length_of-length.ensures in
    part-read n small (omega (arith, c.len.ensures)) front taken.0 taken.1
