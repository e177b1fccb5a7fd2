-- The value that is read at a place is the one that stands there.
use Rattle.std.proofs.Common.{ℕ, ◌*◌, drop, ap, ◌∙◌, rules, SFits, w64, to_z-of_z}
use Rattle.std.proofs.lemmas.List.{take_rest}
use Rattle.byteorder.specs.Endian.{little_number}
use Rattle.run_tile.specs.Types.{width_of, value_of}
use Rattle.run_tile.specs.Raw.{raw_at}
use Rattle.run_tile.proofs.raw.value_at.Goals as goal

pub returns : goal.returns
unfolding raw_at
returns c =
    let bytes = c.args.bytes.now in
    let kind = c.args.kind in
    let fits : SFits w64 c.read_value.result = search rules in
    to_z-of_z fits ∙ c.read_value.ensures ∙ ap (λ l. value_of kind (little_number (width_of kind) l)) (take_rest bytes _) ∙ ap (λ (w : ℕ). value_of kind (little_number (width_of kind) (drop (c.args.place * w) bytes))) c.width-size.ensures
