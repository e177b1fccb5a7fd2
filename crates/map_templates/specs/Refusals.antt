-- The refusals of templates.
use Rattle.std.specs.Prelude.{◌≡◌, Result, Ok, Err}
use Rattle.arr_core.specs.declared.refusal.Refusal.{Refusal}
use Rattle.arr_core.specs.declared.refusal.Refusal.TheVariants as refusals
use Rattle.map_templates.specs.declared.refusal.ExpandRefusal.{ExpandRefusal}
use Rattle.map_templates.specs.declared.refusal.ExpandRefusal.TheVariants.{NoSuchTemplate, NoSuchCoverage, BadParameter}
use Rattle.map_templates.specs.declared.refusal.ExpandError.{ExpandError}
use Rattle.map_templates.specs.declared.refusal.ExpandError.TheVariants.{Refused, NoMemory}

-- the refusal that a reply gives
abbrev pub refusal_of : ExpandRefusal → Refusal
refusal_of NoSuchTemplate = refusals.NoSuchTemplate
refusal_of NoSuchCoverage = refusals.NoSuchCoverage
refusal_of BadParameter = refusals.BadParameter

-- what a check gives: the thing, or the first refusal
abbrev pub Answer : Type 0 → Type 0
Answer A = Result A ExpandRefusal

-- what a call gave is this answer, save where no memory was left
abbrev pub Says : {T A : Type 0} → (T → A) → Result T ExpandError → Answer A → Type 0
Says view (Ok t) a = a ≡ Ok (view t)
Says view (Err (Refused f)) a = a ≡ Err f
Says view (Err NoMemory) a = Unit {0}
