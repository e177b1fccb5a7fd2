-- No number has a place.
use Rattle.std.proofs.Common.{sym, subst}
use Rattle.tile_kernel.specs.Keyed.{AreSlots}
use Rattle.tile_kernel.proofs.Rising.{no_slots}
use Rattle.tile_kernel.proofs.slots.Slots.new.Goals as goal

pub invariant_of-result : goal.invariant_of-result
invariant_of-result c =
    subst (AreSlots _ c.in_ok-vec.field-0.items) (sym c.new.ensures.items) (no_slots _ c.args.span c.in_ok-vec.field-0.items (c.in_ok-vec.ensures.items_if_clones_equal (λ y h. h)))
