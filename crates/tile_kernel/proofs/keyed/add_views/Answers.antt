-- Where each place has a value for its key, these are the keys.
use Rattle.std.proofs.Common.{refl, ◌≡◌, length, arith}
use Rattle.tile_kernel.proofs.Places.{places_are, value_there, narrow_places, narrow_there}
use Rattle.tile_kernel.proofs.keyed.add_views.Goals as goal

pub add_by_values-requires-clause-keys : goal.add_by_values-requires-clause-keys
add_by_values-requires-clause-keys g c =
    (c.requires.keys, λ k lt. value_there _ _ _ _ _ _ _ k c.in-Values.is c.keys.view_is c.keys.invariant refl (omega (arith, lt, c.requires.keys)))

pub add_by_values-requires-in-Narrow-clause-keys : goal.add_by_values-requires-in-Narrow-clause-keys
add_by_values-requires-in-Narrow-clause-keys g c =
    (c.requires.keys, λ k lt. narrow_there _ _ _ _ _ _ k c.in-Narrow.is c.keys.view_is c.keys.invariant (omega (arith, lt, c.requires.keys)))

pub add_by_values-requires-in-Narrow-clause-key_places : goal.add_by_values-requires-in-Narrow-clause-key_places
add_by_values-requires-in-Narrow-clause-key_places g c =
    let n : c.keys.inside.len ≡ length c.args.keys.now = places_are _ _ _ _ _ _ c.keys.view_is c.keys.invariant in
    let room = narrow_places _ _ _ _ _ c.in-Narrow.is c.keys.invariant in
    omega (arith, n, room, c.requires.keys)
