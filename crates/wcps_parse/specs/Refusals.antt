-- The refusals of tokens that are no query.
use Rattle.arr_core.specs.declared.refusal.Refusal.{Refusal}
use Rattle.arr_core.specs.declared.refusal.Refusal.TheVariants as refusals
use Rattle.wcps_parse.specs.declared.error.ParseError.{ParseError}
use Rattle.wcps_parse.specs.declared.error.ParseError.TheVariants as errors

abbrev pub refusal_of : ParseError → Refusal
refusal_of errors.BadSyntax = refusals.BadSyntax
refusal_of errors.TooDeep = refusals.TooDeep
refusal_of errors.NoMemory = refusals.NoMemory
