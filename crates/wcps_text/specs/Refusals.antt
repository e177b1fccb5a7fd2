-- The refusals of texts that have no tokens.
use Rattle.arr_core.specs.declared.refusal.Refusal.{Refusal}
use Rattle.arr_core.specs.declared.refusal.Refusal.TheVariants as refusals
use Rattle.wcps_text.specs.declared.error.LexError.{LexError}
use Rattle.wcps_text.specs.declared.error.LexError.TheVariants as errors

abbrev pub refusal_of : LexError → Refusal
refusal_of errors.BadToken = refusals.BadToken
refusal_of errors.NumberTooLarge = refusals.NumberTooLarge
refusal_of errors.NoMemory = refusals.NoMemory
