-- One more unit is on the next box, and fetches no more tiles than that one bounds.
use Rattle.std.proofs.Common.{arith, rules, ◌<◌, subst, sym, ◌∙◌}
use Rattle.tile_columns.proofs.Calls.{reads_on}
use Rattle.tile_exec.specs.Standing.{StandsFor, left_of}
use Rattle.tile_exec.proofs.Runs.{boxes_more, fetched_more}
use Rattle.tile_exec.proofs.run.run_down.Goals as goal

pub loop-exec-preserved : goal.loop-exec-preserved
loop-exec-preserved g c =
    let was = c.args.exec.now in
    let is = c.loop-exec.exec in
    let new = c.step.new.self in
    let h = c.loop-exec.invariant in
    let s = c.in_ok-step.ensures in
    let n = c.in_ok-step.field-0.fetched in
    let some : 0 < left_of is = omega arith in
    record {
      run = record {
        plan = c.step.ensures.plan ∙ h.run.plan;
        fewer = omega (arith, s.left.0, h.run.fewer);
        boxes = boxes_more was is new n h.run.plan h.run.boxes h.run.fewer some s.left.0 s.place;
        stands = λ i st.
            subst (λ f. StandsFor f new) h.reads.cells
            (s.stands (h.reads.intact i) (subst (λ f. StandsFor f is) (sym h.reads.cells) (h.run.stands i st)));
      };
      asked = omega (arith, s.left.0, h.asked);
      rest = λ few. search rules;
      fetched = fetched_more was is new n (g.S.Tiles.state c.args.source.now).fetched (g.S.Tiles.state c.loop-exec.source).fetched (g.S.Tiles.state c.step.new.source).fetched h.run.plan h.run.boxes h.run.fewer some s.left.0 s.place s.fetched h.fetched;
      reads = reads_on h.reads c.step.ensures.reads.only;
      failures = search rules;
    }
