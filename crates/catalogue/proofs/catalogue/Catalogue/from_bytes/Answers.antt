-- The bytes are those of the catalogue that was read, and of no other.
use Rattle.std.proofs.Common.{[], length, ap, sym, subst, ◌∙◌, arith, append-nil}
use Rattle.catalogue.specs.Signatures.{HaveAxesOf}
use Rattle.catalogue.proofs.Sequences.{whole-only, handed_on}
use Rattle.catalogue.proofs.catalogue.Catalogue.from_bytes.Goals as goal

pub returns-in_err-catalogue-clause-damaged : goal.returns-in_err-catalogue-clause-damaged
returns-in_err-catalogue-clause-damaged c h other v _ e =
    c.in_err-catalogue.ensures.damaged (handed_on _ c.from_residual.ensures.1 h) other [] v (c.new-rest.ensures ∙ e ∙ sym (append-nil _))

pub returns-then-len-ne0-clause-damaged : goal.returns-then-len-ne0-clause-damaged
returns-then-len-ne0-clause-damaged c _ other v _ e =
    omega (arith, ap length (whole-only c.in_ok-catalogue.ensures.read other v (c.new-rest.ensures ∙ e)).1)

pub returns-then-not-has_axes_of-clause-damaged : goal.returns-then-not-has_axes_of-clause-damaged
returns-then-not-has_axes_of-clause-damaged c _ other v axes e =
    let same = (whole-only c.in_ok-catalogue.ensures.read other v (c.new-rest.ensures ∙ e)).0 in
    let yes = c.has_axes_of.ensures.1 (subst (HaveAxesOf c.args.version) same axes) in
    cc
