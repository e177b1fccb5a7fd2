-- One more accumulator has been told of the points that have its key, and in the end all of them.
use Rattle.std.proofs.Common.{ℕ, List, length, refl, arith}
use Rattle.tile_kernel.specs.Columns.{outcome_at}
use Rattle.tile_kernel.specs.Told.{Told}
use Rattle.tile_columns.specs.Zones.{added_with}
use Rattle.tile_columns.proofs.ZoneFolds.{place_told, place_count, place_rest}
use Rattle.tile_columns.proofs.zone_folds.tell_places.Goals as goal

pub loop-place-init : goal.loop-place-init
loop-place-init c = record {
  told = λ k d lt. absurd (omega (arith, lt));
  counted = λ k d lt. absurd (omega (arith, lt));
  rest = λ k d le. refl;
  op = c.requires.op;
}

pub loop-place-preserved : goal.loop-place-preserved
loop-place-preserved c =
    let inv = c.loop-place.invariant in
    let told : ℕ → List Told = λ k. added_with c.args.pool.now.seen.now (outcome_at c.args.pool.now.keys.now.column k) in
    let n = length c.args.pool.now.seen.now.column.now in
    record {
      told = place_told c.args.folds.now c.loop-place.folds c.tell_place.new.folds c.loop-place.place n told c.tell_place.ensures inv.rest inv.told;
      counted = place_count c.args.folds.now c.loop-place.folds c.tell_place.new.folds c.loop-place.place n (told c.loop-place.place) c.tell_place.ensures inv.rest inv.counted;
      rest = place_rest c.args.folds.now c.loop-place.folds c.tell_place.new.folds c.loop-place.place n (told c.loop-place.place) c.tell_place.ensures inv.rest;
      op = c.tell_place.ensures.kinds c.args.pool.now.op inv.op;
    }
