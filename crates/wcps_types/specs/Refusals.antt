-- The refusals of queries that have no type.
use Rattle.arr_core.specs.declared.refusal.Refusal.{Refusal}
use Rattle.arr_core.specs.declared.refusal.Refusal.TheVariants as refusals
use Rattle.wcps_types.specs.declared.refusal.TypeRefusal.{TypeRefusal}
use Rattle.wcps_types.specs.declared.refusal.TypeRefusal.TheVariants as types

-- the refusal that a reply gives
abbrev pub refusal_of : TypeRefusal → Refusal
refusal_of types.NoSuchCoverage = refusals.NoSuchCoverage
refusal_of types.BadSyntax = refusals.BadSyntax
refusal_of types.UnknownName = refusals.UnknownName
refusal_of types.NameTaken = refusals.NameTaken
refusal_of types.NoSuchField = refusals.NoSuchField
refusal_of types.NoSuchAxis = refusals.NoSuchAxis
refusal_of types.AxisTwice = refusals.AxisTwice
refusal_of types.DomainMismatch = refusals.DomainMismatch
refusal_of types.TrimOutside = refusals.TrimOutside
refusal_of types.NeedsScalar = refusals.NeedsScalar
refusal_of types.NeedsBoolean = refusals.NeedsBoolean
refusal_of types.NeedsInteger = refusals.NeedsInteger
refusal_of types.NeedsOneField = refusals.NeedsOneField
refusal_of types.ListLength = refusals.ListLength
refusal_of types.MustEncode = refusals.MustEncode
refusal_of types.BadInterval = refusals.BadInterval
refusal_of types.TooMuchWork = refusals.TooMuchWork
refusal_of types.ResultTooLarge = refusals.ResultTooLarge
refusal_of types.TooManyCombinations = refusals.TooManyCombinations
