-- Signatures are a catalogue unless one has a name that is held.
use Rattle.std.proofs.Common.{sym, ◌∙◌, arith, true≢false}
use Rattle.std.proofs.lemmas.Grind.{common_steps}
use Rattle.catalogue.proofs.Whole.{next-valid, next-room, next-fresh}
use Rattle.catalogue.proofs.reading.catalogue_of.Goals as goal

pub returns-then-holds-clause-damaged : goal.returns-then-holds-clause-damaged
returns-then-holds-clause-damaged c _ =
    next-fresh _ _ _ (rw c.in-Some.ensures.steps.0 at c.loop-signature.invariant) (c.holds.ensures.0 c.if-holds.true)

pub push-requires : goal.push-requires
push-requires c =
    let front = rw c.in-Some.ensures.steps.0 at c.loop-signature.invariant in
    let v = next-valid _ _ _ front c.requires.each in
    record {
      fresh = λ there. true≢false (sym (c.holds.ensures.1 there) ∙ c.if-holds.false);
      axes = v.domain.some;
      fields = v.fields.sound;
      room = omega (arith, next-room _ _ _ front, c.requires.few);
    }

pub loop-signature-preserved : goal.loop-signature-preserved
loop-signature-preserved c = grind (arith, common_steps)

pub returns-clause-same : goal.returns-clause-same
returns-clause-same c = grind (arith, common_steps)
