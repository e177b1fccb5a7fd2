-- With the next values there are as many runs more as there are changes among them and the value before.
use Rattle.std.proofs.Common.{◌≡◌, ◌-◌, ◌+◌, ◌*◌, ◌/◌, ◌≤◌, ℕ, List, length, ap, sym, ◌∙◌, arith, div-add-mod', mul-le-mul_right}
use Rattle.arr_core.specs.declared.cell.FieldType.{FieldType}
use Rattle.run_tile.specs.Types.{width_of}
use Rattle.run_tile.specs.Raw.{raw_cells}
use Rattle.run_tile.proofs.RawTiles.{raw-length, some-run, last-run, no-runs}
use Rattle.run_tile.proofs.raw.count_runs.Goals as goal

-- how many values there are
values : (kind : FieldType) (bytes : List ℕ) (size : ℕ) → size ≡ width_of kind → length (raw_cells kind bytes) ≡ length bytes / size
values kind bytes size e = raw-length kind bytes ∙ ap (λ (w : ℕ). length bytes / w) (sym e)

pub loop-at-preserved : goal.loop-at-preserved
loop-at-preserved c =
    let inv = c.loop-at.invariant in
    record {
      counted = omega (arith, inv.counted, c.count_starts-runs.ensures.value);
      few = omega (arith, inv.few, c.count_starts-runs.ensures.few);
      begun = omega (arith, inv.begun);
      some = omega (arith, inv.some, c.min.ensures);
      within = omega (arith, c.min.ensures);
    }

pub count_starts-runs-requires : goal.count_starts-runs-requires
count_starts-runs-requires c =
    let size = c.width.result in
    let bytes = length c.args.bytes.now in
    let end = c.loop-at.at + c.min.result in
    let part : end * size ≤ (bytes / size) * size = mul-le-mul_right size (omega (arith, c.min.ensures)) in
    record {
      some = c.loop-at.invariant.some;
      order = omega arith;
      few = omega (arith, c.min.ensures, c.min-block.ensures);
      within = omega (arith, part, div-add-mod' bytes size, ap (λ (w : ℕ). end * w) c.width.ensures);
    }

pub returns-then-count-eq0-clause-exact : goal.returns-then-count-eq0-clause-exact
returns-then-count-eq0-clause-exact c _ =
    let kind = c.args.kind in
    let bytes = c.args.bytes.now in
    sym (no-runs (raw_cells kind bytes) (values kind bytes c.width.result c.width.ensures ∙ c.if-count-eq0.true))

pub returns-then-most-runs-clause-more : goal.returns-then-most-runs-clause-more
returns-then-most-runs-clause-more c =
    let kind = c.args.kind in
    let bytes = c.args.bytes.now in
    let inv = c.loop-at.invariant in
    let count = values kind bytes c.width.result c.width.ensures in
    let rest = some-run (raw_cells kind bytes) (c.loop-at.at - 1) (omega (arith, inv.within, inv.some, count, c.loop-at-test.true)) in
    λ more. omega (arith, more, rest, inv.counted)

pub returns-clause-exact : goal.returns-clause-exact
returns-clause-exact c =
    let kind = c.args.kind in
    let bytes = c.args.bytes.now in
    let inv = c.loop-at.invariant in
    let count = values kind bytes c.width.result c.width.ensures in
    let last = last-run (raw_cells kind bytes) (c.loop-at.at - 1) (omega (arith, inv.within, inv.some, count, c.loop-at-test.false)) in
    λ _. omega (arith, last, inv.counted)

pub returns-clause-more : goal.returns-clause-more
returns-clause-more c =
    let kind = c.args.kind in
    let bytes = c.args.bytes.now in
    let inv = c.loop-at.invariant in
    let count = values kind bytes c.width.result c.width.ensures in
    let last = last-run (raw_cells kind bytes) (c.loop-at.at - 1) (omega (arith, inv.within, inv.some, count, c.loop-at-test.false)) in
    λ more. omega (arith, last, more, inv.counted)
