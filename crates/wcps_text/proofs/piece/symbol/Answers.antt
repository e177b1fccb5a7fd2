-- A symbol of two bytes comes before one of a single byte, and bytes that begin neither are refused.
use Rattle.std.proofs.Common.{sym, ◌∙◌, arith}
use Rattle.std.proofs.lemmas.Grind.{common_steps}
use Rattle.wcps_text.proofs.Fronts.{wide_front, narrow_front, other_refused}
use Rattle.wcps_text.proofs.piece.symbol.Goals as goal

pub returns-in-Some-clause-exact : goal.returns-in-Some-clause-exact
returns-in-Some-clause-exact c =
    wide_front c.args.bytes.now _ c.requires.some c.requires.other (sym c.wide.ensures ∙ c.in-Some.is)

pub returns-in-Some-single-clause-exact : goal.returns-in-Some-single-clause-exact
returns-in-Some-single-clause-exact c =
    narrow_front c.args.bytes.now _ c.requires.some c.requires.other (sym c.wide.ensures ∙ c.in_default.is) (sym c.single.ensures ∙ c.in-Some-single.is)

pub returns-in-None-clause-exact : goal.returns-in-None-clause-exact
returns-in-None-clause-exact c =
    other_refused c.args.bytes.now c.requires.some c.requires.other c.requires.begun (sym c.wide.ensures ∙ c.in_default.is) (sym c.single.ensures ∙ c.in-None.is)

pub returns-in-Some-clause-within : goal.returns-in-Some-clause-within
returns-in-Some-clause-within c = grind (arith, common_steps)

pub returns-in-Some-single-clause-first : goal.returns-in-Some-single-clause-first
returns-in-Some-single-clause-first c = grind (arith, common_steps)

pub returns-in-Some-single-clause-last : goal.returns-in-Some-single-clause-last
returns-in-Some-single-clause-last c = grind (arith, common_steps)
