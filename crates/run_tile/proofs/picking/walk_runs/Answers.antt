-- The run that was found has the cell at the rank.
use Rattle.std.proofs.Common.{◌≡◌, ◌≢◌, ◌<◌, ℕ, length, get_or, sym, ap, ◌∙◌, subst, arith, rules, below_more, SFits, w64, to_z-of_z}
use Rattle.std.proofs.lemmas.List.{get_or-set_other, get_or-set_same, get_or_default}
use Rattle.file_bytes.specs.declared.form.Form.TheVariants.{Runs}
use Rattle.run_tile.specs.Raw.{cells_in}
use Rattle.run_tile.specs.Picking.{IsStart}
use Rattle.run_tile.specs.declared.run.Run.{Run}
use Rattle.run_tile.specs.declared.picking.Start.{Start}
use Rattle.run_tile.proofs.Picks.{start-none, in-run, picked-all}
use Rattle.run_tile.proofs.picking.walk_runs.Goals as goal
use Rattle.run_tile.proofs.picking.walk_runs.Goals.{then-at-rank, else-at-rank}

pub loop-place-init : goal.loop-place-init
loop-place-init c = record { start = start-none c.args.kind c.args.bytes.now; there = λ k h. absurd (omega arith); written = λ k h. absurd (omega arith) }

pub find_run-at-requires-clause-start : goal.find_run-at-requires-clause-start
find_run-at-requires-clause-start c =
    let kind = c.args.kind in
    let bytes = c.args.bytes.now in
    elim c.if-at-rank.branch [
      | then-at-rank w ↦ subst (λ (s : Start). IsStart kind bytes s) (sym w.from-is) c.loop-place.invariant.start
      | else-at-rank w ↦ subst (λ (s : Start). IsStart kind bytes s) (sym w.from-is) (start-none kind bytes)
    ]

pub loop-place-preserved : goal.loop-place-preserved
loop-place-preserved c =
    let kind = c.args.kind in
    let bytes = c.args.bytes.now in
    let ranks = c.args.ranks.now in
    let all = cells_in Runs kind bytes in
    let place = c.loop-place.place in
    let cells = c.loop-place.cells in
    let inv = c.loop-place.invariant in
    let found = c.find_run-at.ensures in
    let some = rw c.width.ensures at c.if-at-runs.false in
    let inside = in-run kind bytes c.find_run-at.result (get_or ranks place 0) found.start some found.before (found.here some) in
    let fits : SFits w64 c.read_at.result.value = search rules in
    let value = to_z-of_z fits ∙ ap (λ (r : Run). r.value) c.read_at.ensures ∙ sym inside.1 in
    let within : place < length cells = omega (arith, c.requires) in
    record {
      start = found.start;
      there = below_more (λ (k : ℕ). get_or ranks k 0 < length all) place inv.there inside.0;
      written = below_more _ place
          (λ k h. (let ne : k ≢ place = omega arith in rw get_or-set_other (inv.written k h)))
          (rw get_or-set_same value);
    }

pub returns-clause-picked : goal.returns-clause-picked
returns-clause-picked c = λ _.
    let inv = c.loop-place.invariant in
    let size : length c.loop-place.cells ≡ length c.args.ranks.now = omega (arith, c.requires) in
    picked-all (cells_in Runs c.args.kind c.args.bytes.now) c.args.ranks.now c.loop-place.cells size (λ k h. inv.written k (omega arith))

pub returns-clause-within : goal.returns-clause-within
returns-clause-within c = λ _ k d h.
    let there = c.loop-place.invariant.there k (omega arith) in
    omega (arith, there, get_or_default c.args.ranks.now k 0 d h)
