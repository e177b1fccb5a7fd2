-- Without its first bytes the buffer holds what stands behind them.
use Rattle.std.proofs.Common.{◌≤◌, ◌+◌, ◌-◌, length, drop, ap, ◌∙◌, arith}
use Rattle.std.proofs.lemmas.List.{length-take}
use Rattle.http_front.proofs.HeadLemmas.{range_after}
use Rattle.http_front.proofs.buffer.Buffer.discard.Goals as goal

pub returns : goal.returns
returns c =
    let b = c.self.inside in
    let few : b.start + c.args.count ≤ b.end =
    omega (arith, c.requires, c.self.invariant.0, c.self.invariant.1, ap length c.self.view_is, length-take (b.end - b.start) (drop b.start b.bytes)) in
    range_after b.bytes b.start b.end c.args.count few ∙ ap (drop c.args.count) c.self.view_is
