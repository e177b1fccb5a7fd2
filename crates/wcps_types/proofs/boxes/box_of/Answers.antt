-- Axes that make a domain give it, and others are refused.
use Rattle.std.proofs.Common.{◌≡◌, false, true}
use Rattle.wcps_types.specs.Boxes.{is_domain}
use Rattle.wcps_types.proofs.Domains.{Decides-domain}
use Rattle.wcps_types.proofs.Parts.{no_test}
use Rattle.wcps_types.proofs.boxes.box_of.Goals as goal

pub returns-in-Ok : goal.returns-in-Ok
returns-in-Ok c =
    let test : is_domain c.args.axes.items ≡ true = (Decides-domain c.args.axes.items).1 (c.in-Ok.ensures.ok) in
    let same : c.in-Ok.domain ≡ c.args.axes.items = c.in-Ok.ensures.value in
    rw (test, same)

pub returns-in-Err : goal.returns-in-Err
returns-in-Err c =
    let test : is_domain c.args.axes.items ≡ false = no_test (is_domain c.args.axes.items) (λ h. c.in-Err.ensures.bad_domain ((Decides-domain c.args.axes.items).0 h)) in
    rw test
