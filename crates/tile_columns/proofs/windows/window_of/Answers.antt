-- What was tested one by one.
use Rattle.std.proofs.Common.{◌∙◌, ◌*◌, refl, sym, ap, subst, arith, length}
use Rattle.plan_ir.specs.declared.body.Interval.{Interval}
use Rattle.tile_columns.specs.Reaching.{HasExtents}
use Rattle.tile_columns.specs.Windows.{GoesOver}
use Rattle.tile_columns.proofs.windows.window_of.Goals as goal

pub returns : goal.returns
returns c =
    let places = rw c.in-Some-2.is at c.in_ok-places.ensures in
    let r = c.in-Some-reach_of.ensures in
    let s = c.in-Some-reach_of-2.ensures in
    let near = c.is_near.ensures.pairs c.if-not-is_near.false in
    let pairs = ap (λ n. n * c.points.result) c.places.ensures.value ∙ ap (λ n. length c.args.frame.now * n) c.points.ensures.count in
    record {
      depth = c.depth.result;
      deep = c.depth.ensures;
      pattern = c.in-Some.ensures;
      op = refl;
      place = c.place_at.ensures;
      row_bounds = r.parts.2;
      column_bounds = s.parts.2;
      offsets =
          subst (λ (i : Interval). HasExtents (record { rows = i; columns = c.in-Some-reach_of-2.columns.offsets }) c.args.fold.now.domain) (sym r.parts.1)
          (subst (λ (i : Interval). HasExtents (record { rows = c.in-Some-extents_of.offsets.rows; columns = i }) c.args.fold.now.domain) (sym s.parts.1) c.in-Some-extents_of.ensures);
      places =
          subst (λ (i : Interval). GoesOver c.in-Some.pattern c.args.frame.now (record { rows = i; columns = c.in-Some-reach_of-2.columns.places })) (sym r.parts.0)
          (subst (λ (i : Interval). GoesOver c.in-Some.pattern c.args.frame.now (record { rows = c.in-Some-2.places.rows; columns = i })) (sym s.parts.0) places);
      ready = record { rows = r.reach; columns = s.reach; near = c.is_near.ensures.near c.if-not-is_near.false; there = c.can_read.ensures c.if-not-can_read.false };
      pairs = omega (arith, near, pairs);
    }
