-- Indexes are read one by one, and where one is damaged the list is not there.
use Rattle.std.proofs.Common.{arith}
use Rattle.std.proofs.lemmas.List.Elements.{All-nil, All-push}
use Rattle.catalogue.proofs.Sequences.{handed_on}
use Rattle.catalogue.proofs.Lists.{read-none, read-more, read-stops, read-all, goes-on, ends}
use Rattle.metadata.specs.Metadata.{indexes_bytes}
use Rattle.metadata.specs.Parts.{IsIndexIn}
use Rattle.metadata.proofs.reading.read_fields.Goals as goal

pub loop-init : goal.loop-init
loop-init c = (read-none c.new-indexes.ensures.items, rw c.new-indexes.ensures.items (All-nil (IsIndexIn c.args.version)))

pub loop-preserved : goal.loop-preserved
loop-preserved c =
    let on = goes-on (IsIndexIn c.args.version) (λ zs v. v) c.loop.indexes.items (omega (arith, c.loop.invariant.0.counted)) in
    let r = c.in_ok-index.ensures.read in
    let pushed = c.in_ok-push.ensures.items in
    (read-more c.loop.invariant.0 on r pushed, rw pushed (All-push (IsIndexIn c.args.version) _ _ c.loop.invariant.1 r.value))

pub returns-in_err-index-clause-damaged : goal.returns-in_err-index-clause-damaged
unfolding indexes_bytes
returns-in_err-index-clause-damaged c h =
    let none = c.in_err-index.ensures.damaged (handed_on _ c.from_residual.ensures.1 h) in
    read-stops c.loop.invariant.0 (goes-on (IsIndexIn c.args.version) (λ zs v. v) c.loop.indexes.items (omega (arith, c.loop.invariant.0.counted))) none

pub returns-clause-read : goal.returns-clause-read
unfolding indexes_bytes
returns-clause-read c =
    let count = c.loop.invariant.0.counted in
    read-all c.loop.invariant.0 (ends (IsIndexIn c.args.version) (λ zs v. v) c.loop.indexes.items (omega arith)) (c.loop.invariant.1, omega arith)
