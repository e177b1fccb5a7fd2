-- One more spot of the tile.
use Rattle.std.proofs.Common.{◌∙◌, ◌≡◌, arith, inl, inr}
use Rattle.std.proofs.lemmas.Bool.{cases_lt}
use Rattle.tile_columns.proofs.InOrder.{tile_of}
use Rattle.tile_columns.proofs.spots.end_of.Goals as goal

pub loop-place-init : goal.loop-place-init
loop-place-init c = λ k le lt. let e : k ≡ c.args.from = omega arith in rw e (tile_of c.args.spots.now c.args.from _ c.requires)

pub loop-place-preserved : goal.loop-place-preserved
loop-place-preserved c = λ k le lt.
    elim (cases_lt k c.loop-place.place) [
      | inl l ↦ c.loop-place.invariant k le l
      | inr l ↦ let e : k ≡ c.loop-place.place = omega arith in rw e (tile_of c.args.spots.now c.loop-place.place _ (omega arith) ∙ c.if-spots-place.false)
    ]
