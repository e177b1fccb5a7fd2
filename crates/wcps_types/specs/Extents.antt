-- The domain of a value that is typed, wherever it stands.
use Rattle.std.specs.Prelude.{List}
use Rattle.arr_core.specs.declared.domain.Axis.{Axis}
use Rattle.wcps_types.specs.declared.extent.Held.{Held}
use Rattle.wcps_types.specs.declared.extent.Held.TheVariants.{Lent, Own}

abbrev pub held_axes : Held → List Axis
held_axes (Lent domain) = domain.now
held_axes (Own domain) = domain
