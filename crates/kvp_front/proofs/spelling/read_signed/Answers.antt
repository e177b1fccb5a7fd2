-- A text spells the signed number that it is parsed as, or else none.
use Rattle.std.proofs.Common.{Ok, inl, ap, ◌∙◌, sym, subst}
use Rattle.std.proofs.lemmas.Int.{to_z-of_z}
use mir.Syntax.{w64}
use mir.Val.{SFits}
use Rattle.kvp_front.proofs.SpellingLemmas.{Signed, signed_parsed, fits_if_parsed}
use Rattle.kvp_front.proofs.spelling.read_signed.Goals as goal

pub returns-in-Ok : goal.returns-in-Ok
returns-in-Ok c =
    let text = c.args.text.now in
    let fits : SFits w64 c.in-Ok.number = fits_if_parsed text c.parse.result c.in-Ok.number c.in-Ok.is c.parse.ensures.value.0 in
    subst (Signed text) c.in-Ok.is (signed_parsed text c.parse.result c.parse.ensures.value.0) ∙ ap Ok (sym (to_z-of_z w64 c.in-Ok.number fits))

pub returns-in-Err : goal.returns-in-Err
returns-in-Err c =
    inl (subst (Signed c.args.text.now) c.in-Err.is (signed_parsed c.args.text.now c.parse.result c.parse.ensures.value.0))
