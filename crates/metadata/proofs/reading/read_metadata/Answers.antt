-- The bytes are the metadata of what was read, and of nothing else that a file of the version has.
use Rattle.std.proofs.Common.{length, ap, sym, ◌∙◌, [], arith, append-nil}
use Rattle.catalogue.proofs.Sequences.{none-first, none-second, whole-only, whole-read, handed_on}
use Rattle.metadata.proofs.Counted.{counted-out}
use Rattle.metadata.proofs.Whole.{metadata-parts, of-version, read-whole}
use Rattle.metadata.proofs.reading.read_metadata.Goals as goal

pub returns-in_err-catalogue-clause-damaged : goal.returns-in_err-catalogue-clause-damaged
returns-in_err-catalogue-clause-damaged c h signatures indexes m o =
    none-first (metadata-parts c.args.version) (c.in_err-catalogue.ensures.damaged (handed_on _ c.from_residual.ensures.1 h)) (signatures, indexes) [] (of-version m o)
    (c.new-rest.ensures ∙ m.written ∙ sym (append-nil _))

pub returns-in_err-indexes-clause-damaged : goal.returns-in_err-indexes-clause-damaged
returns-in_err-indexes-clause-damaged c h signatures indexes m o =
    let none = c.in_err-indexes.ensures.damaged (handed_on _ c.from_residual-in_err-indexes.ensures.1 h) in
    none-second (metadata-parts c.args.version) c.in_ok-catalogue.ensures.read none (signatures, indexes) [] (of-version m o)
    (c.new-rest.ensures ∙ m.written ∙ sym (append-nil _))

pub returns-then-len-ne0-clause-damaged : goal.returns-then-len-ne0-clause-damaged
returns-then-len-ne0-clause-damaged c _ signatures indexes m o =
    let whole = read-whole c.args.version c.in_ok-catalogue.ensures.read c.in_ok-indexes.ensures.read in
    omega (arith, ap length (whole-only whole (signatures, indexes) (of-version m o) (c.new-rest.ensures ∙ m.written)).1)

pub returns-clause-read : goal.returns-clause-read
returns-clause-read c =
    let whole = read-whole c.args.version c.in_ok-catalogue.ensures.read c.in_ok-indexes.ensures.read in
    record {
      catalogue = whole.value.0.0;
      counted = (counted-out c.args.version _ _ whole.value.1).0;
      written = sym c.new-rest.ensures ∙ whole-read whole (omega arith);
    }

pub returns-clause-version : goal.returns-clause-version
returns-clause-version c =
    let whole = read-whole c.args.version c.in_ok-catalogue.ensures.read c.in_ok-indexes.ensures.read in
    record {
      axes = whole.value.0.1;
      forms = (counted-out c.args.version _ _ whole.value.1).1;
    }

pub returns-clause-only : goal.returns-clause-only
returns-clause-only c signatures indexes m o =
    let whole = read-whole c.args.version c.in_ok-catalogue.ensures.read c.in_ok-indexes.ensures.read in
    let one = (whole-only whole (signatures, indexes) (of-version m o) (c.new-rest.ensures ∙ m.written)).0 in
    (ap (λ p. p.0) one, ap (λ p. p.1) one)
