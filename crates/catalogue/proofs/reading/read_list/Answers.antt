-- The parts are read one by one, and where one is damaged the list is not there.
use Rattle.std.proofs.Common.{arith}
use Rattle.std.proofs.lemmas.List.Elements.{All-push}
use Rattle.catalogue.proofs.Sequences.{handed_on}
use Rattle.catalogue.proofs.Lists.{read-more, read-stops, read-all, goes-on, ends}
use Rattle.catalogue.proofs.reading.read_list.Goals as goal

pub loop-preserved : goal.loop-preserved
loop-preserved g c =
    let on = goes-on g.T.Readable.is_value (λ zs v. v) c.loop.list.items (omega (arith, c.loop.invariant.0.counted)) in
    let r = c.in_ok-part.ensures.read in
    let pushed = c.in_ok-push.ensures.items in
    (read-more c.loop.invariant.0 on r pushed, rw pushed (All-push g.T.Readable.is_value _ _ c.loop.invariant.1 r.value))

pub returns-in_err-part-clause-damaged : goal.returns-in_err-part-clause-damaged
returns-in_err-part-clause-damaged g c h =
    let none = c.in_err-part.ensures.damaged (handed_on _ c.from_residual.ensures.1 h) in
    let on = goes-on g.T.Readable.is_value (λ zs v. v) c.loop.list.items (omega (arith, c.loop.invariant.0.counted)) in
    read-stops c.loop.invariant.0 on none

pub returns-clause-read : goal.returns-clause-read
returns-clause-read g c =
    let all = ends g.T.Readable.is_value (λ zs v. v) c.loop.list.items (omega (arith, c.loop.invariant.0.counted)) in
    read-all c.loop.invariant.0 all (c.loop.invariant.1, omega (arith, c.loop.invariant.0.counted))
