-- One value more stands behind the others, and in the end all of them.
use Rattle.std.proofs.Common.{◌≡◌, ◌*◌, ◌++◌, ℕ, ℤ, pos, List, length, take, drop, get_or, ap, ◌∙◌, sym, subst, refl, arith, rules, SFits, w64, to_z-of_z, take_all, zero-mul, ◌-◌, append_assoc}
use Rattle.std.proofs.lemmas.Grind.{common_steps}
use Rattle.byteorder.specs.Endian.{little_bytes, low_bytes}
use Rattle.run_tile.specs.Types.{width_of}
use Rattle.run_tile.specs.Raw.{IsRawWritten}
use Rattle.run_tile.proofs.RawTiles.{put-more, written-none, raw-cells}
use Rattle.run_tile.proofs.raw.write_values.Goals as goal

pub loop-place-init : goal.loop-place-init
loop-place-init c = record {
  whole = c.requires.whole;
  written = subst (λ (n : ℕ). IsRawWritten c.args.kind c.args.cells.now (take n c.args.bytes.now) 0) (sym (zero-mul (width_of c.args.kind))) (written-none c.args.kind c.args.cells.now);
}

pub loop-place-preserved : goal.loop-place-preserved
loop-place-preserved c =
    let z = get_or c.args.cells.now c.loop-place.place (pos 0) in
    let fits : SFits w64 z = search rules in
    let fit = c.requires.of_type c.loop-place.place (pos 0) (omega arith) in
    let size = c.width-size.result in
    let old = c.loop-place.bytes in
    let from = c.loop-place.place * size in
    let rest = drop size (take (length old - from) (drop from old)) in
    let behind = drop (length old - from) (drop from old) in
    let put = c.write_int.ensures ∙ ap (λ (v : ℤ). little_bytes size (low_bytes w64 size v) ++ rest) (to_z-of_z fits) in
    let joined = ap (λ (l : List ℕ). l ++ behind) put ∙ append_assoc (little_bytes size (low_bytes w64 size z)) rest behind in
    let there = ap (λ (l : List ℕ). take from old ++ l) joined in
    record {
      whole = grind (arith, common_steps);
      written = put-more c.args.kind c.args.cells.now old _ (rest ++ behind) c.loop-place.place size z c.width-size.ensures c.loop-place.invariant.written fit refl there;
    }

pub returns-clause-read : goal.returns-clause-read
returns-clause-read c =
    let inv = c.loop-place.invariant in
    let kind = c.args.kind in
    let cells = c.args.cells.now in
    let done : c.loop-place.place ≡ length cells = omega arith in
    let all : take (c.loop-place.place * width_of kind) c.loop-place.bytes ≡ c.loop-place.bytes = take_all _ _ (omega (arith, inv.whole, ap (λ (n : ℕ). n * width_of kind) done)) in
    let w = subst (λ (l : List ℕ). IsRawWritten kind cells l c.loop-place.place) all inv.written in
    raw-cells kind c.loop-place.bytes cells inv.whole (λ k l. w.each k (omega arith))
