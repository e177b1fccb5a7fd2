-- The bytes spell the cells in runs, each as long as it can be, or there are too many.
use Rattle.std.proofs.Common.{◌≡◌, ◌≢◌, ◌-◌, ◌<◌, ◌≤◌, ℕ, ℤ, pos, List, length, ◌++◌, get_or, refl, ap, ◌∙◌, arith, rules, SFits, w64, to_z-of_z, All}
use Rattle.arr_core.specs.declared.cell.FieldType.{FieldType}
use Rattle.arr_core.specs.Cells.{Fits}
use Rattle.run_tile.specs.Runs.{IsRun}
use Rattle.run_tile.specs.Bytes.{run_bytes}
use Rattle.run_tile.specs.declared.run.Run.{Run}
use Rattle.run_tile.proofs.Pushes.{IsWritten, written-none, written-more, written-all, written-within}
use Rattle.run_tile.proofs.encoding.encode_runs.Goals as goal

-- with the run of the cells up to where they change
one-run : (kind : FieldType) (cells : List ℤ) (old new : List ℕ) (at end : ℕ) → IsWritten kind cells old at → All (Fits kind) cells → length cells ≤ 4096 → at < end → end ≤ length cells
    → ((k : ℕ) → at ≤ k → k < end → get_or cells k (pos 0) ≡ get_or cells at (pos 0)) → (end < length cells → get_or cells end (pos 0) ≢ get_or cells at (pos 0))
    → new ≡ old ++ run_bytes kind (record { count = end - at; value = get_or cells at (pos 0) }) → IsWritten kind cells new end
one-run kind cells old new at end written fit few some within equal longest pushed =
    let run : Run = record { count = end - at; value = get_or cells at (pos 0) } in
    let sound : IsRun kind run = (omega arith, omega arith, fit at (pos 0) (omega arith)) in
    rw pushed (written-more kind cells old at end run written sound refl (omega arith) within equal longest)

pub loop-at-init : goal.loop-at-init
loop-at-init c = record { written = rw c.in_ok-bytes.ensures.items (written-none c.args.kind c.args.cells.now); short = rw c.in_ok-bytes.ensures.items (omega arith) }

pub loop-at-preserved : goal.loop-at-preserved
loop-at-preserved c =
    let at = c.loop-at.at in
    let end = c.run_end-end.result in
    let stops = c.run_end-end.ensures in
    let value = get_or c.args.cells.now at (pos 0) in
    let fits : SFits w64 value = search rules in
    let pushed = c.in_ok-push_run.ensures ∙ ap (λ (z : ℤ). c.loop-at.bytes.items ++ run_bytes c.args.kind (record { count = end - at; value = z })) (to_z-of_z fits) in
    record {
      written = one-run c.args.kind c.args.cells.now c.loop-at.bytes.items _ at end c.loop-at.invariant.written c.requires.of_type c.requires.few stops.some stops.within stops.equal stops.longest pushed;
      short = omega arith;
    }

pub returns-then-most-len : goal.returns-then-most-len
returns-then-most-len c =
    let at = c.loop-at.at in
    let end = c.run_end-end.result in
    let stops = c.run_end-end.ensures in
    let value = get_or c.args.cells.now at (pos 0) in
    let fits : SFits w64 value = search rules in
    let pushed = c.in_ok-push_run.ensures ∙ ap (λ (z : ℤ). c.loop-at.bytes.items ++ run_bytes c.args.kind (record { count = end - at; value = z })) (to_z-of_z fits) in
    let written = one-run c.args.kind c.args.cells.now c.loop-at.bytes.items _ at end c.loop-at.invariant.written c.requires.of_type c.requires.few stops.some stops.within stops.equal stops.longest pushed in
    let within = written-within c.args.kind c.args.cells.now _ end written in
    record { runs = omega (arith, within) }

pub returns : goal.returns
returns c =
    let written = written-all c.args.kind c.args.cells.now c.loop-at.bytes.items c.loop-at.at c.loop-at.invariant.written (omega (arith, c.loop-at-test.false)) in
    record { runs = record { spelled = written.0; size = written.1; short = c.loop-at.invariant.short } }
