use Rattle.std.proofs.Common.{◌≡◌, take}
use Rattle.plan_rewrite.proofs.lowering.query.copies.Given as goal

abbrev pub invariant-loop-signature : goal.invariant-loop-signature
invariant-loop-signature l = l.list.items ≡ take l.signature-index l.all
