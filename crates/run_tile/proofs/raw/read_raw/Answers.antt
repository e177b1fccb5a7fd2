-- What was read is spelled exactly where it has the whole length, is of the type, and is shorter than its runs.
use Rattle.std.proofs.Common.{◌≡◌, ◌*◌, ◌/◌, ◌%◌, ℕ, length, map, ap, ◌∙◌, sym, refl, arith, true≢false, div-add-mod', mul-div_cancel}
use Rattle.std.proofs.Math.Nat.{mul-mod_left}
use Rattle.std.proofs.lemmas.List.{length-map}
use Rattle.run_tile.proofs.RawTiles.{some-width, spelled-raw, not-shorter, unfit}
use Rattle.run_tile.proofs.raw.read_raw.Goals as goal
use Rattle.run_tile.proofs.raw.read_raw.Goals.{then-bytes-size-ne0-via-then-bytes-size-ne0, then-bytes-size-ne0-via-else-bytes-size-ne0+then-bytes-size}

-- as many whole values as there is room for
whole-bytes : (bytes size cells : ℕ) → bytes % size ≡ 0 → bytes / size ≡ cells → bytes ≡ cells * size
whole-bytes bytes size cells rest count = omega (arith, rest, div-add-mod' bytes size, ap (λ (n : ℕ). n * size) count)

pub read_values-requires : goal.read_values-requires
read_values-requires g c = record {
  long = omega (arith, whole-bytes (length c.args.bytes.now) c.width-size.result (length c.args.cells.now) c.if-bytes-size-ne0.false c.if-bytes-size.false, ap (λ (w : ℕ). length c.args.cells.now * w) c.width-size.ensures);
  room = c.requires;
}

pub returns-then-bytes-size-ne0-clause-damaged : goal.returns-then-bytes-size-ne0-clause-damaged
returns-then-bytes-size-ne0-clause-damaged g c _ list len s =
    let size = c.width-size.result in
    let some = some-width c.args.kind in
    let whole : length c.args.bytes.now ≡ length list * size = s.whole ∙ ap (λ (w : ℕ). length list * w) (sym c.width-size.ensures) in
    elim c.then-bytes-size-ne0.branch [
      | then-bytes-size-ne0-via-then-bytes-size-ne0 w ↦ w.if-bytes-size-ne0.true (ap (λ (n : ℕ). n % size) whole ∙ mul-mod_left (length list) size)
      | then-bytes-size-ne0-via-else-bytes-size-ne0+then-bytes-size w ↦ w.if-bytes-size.true (ap (λ (n : ℕ). n / size) whole ∙ mul-div_cancel (length list) (omega (arith, some, c.width-size.ensures)) ∙ len)
    ]

pub returns-then-not-read_values-clause-damaged : goal.returns-then-not-read_values-clause-damaged
returns-then-not-read_values-clause-damaged g c _ list len s =
    let w = c.if-not-read_values.ensures.unfit refl in
    unfit c.args.kind c.args.bytes.now list w.0 s (omega (arith, w.1, len, c.read_values.ensures.places)) w.2

pub returns-clause-spelled : goal.returns-clause-spelled
returns-clause-spelled g c h =
    let list = c.read_values.new.cells in
    let cells = map g.N.Number.number list in
    let long : length cells ≡ length list = length-map list g.N.Number.number in
    let whole = whole-bytes (length c.args.bytes.now) c.width-size.result (length c.args.cells.now) c.if-bytes-size-ne0.false c.if-bytes-size.false ∙ ap (λ (n : ℕ). n * c.width-size.result) (sym c.read_values.ensures.places ∙ sym long) ∙ ap (λ (w : ℕ). length cells * w) c.width-size.ensures in
    spelled-raw c.args.kind c.args.bytes.now cells whole (λ k l. c.read_values.ensures.read k (omega (arith, l, long))) (λ k l. c.if-not-read_values.ensures.fit refl k (omega (arith, l, long))) (c.is_shorter.ensures.0 h)

pub returns-clause-damaged : goal.returns-clause-damaged
returns-clause-damaged g c h list _ s =
    not-shorter c.args.kind c.args.bytes.now list (λ short. true≢false (sym (c.is_shorter.ensures.1 short) ∙ h)) s
