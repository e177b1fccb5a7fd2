-- One more write sends its bytes behind those that went out before, and no failure is told.
use Rattle.std.proofs.Common.{◌∙◌, arith}
use Rattle.stream_face.proofs.SentLemmas.{sent_more, some_is_no_fault}
use Rattle.stream_face.proofs.sending.send_all.Goals as goal

pub sending-preserved : goal.sending-preserved
sending-preserved g c = (
  omega (arith, c.in-Ok.ensures.bound),
  sent_more _ _ _ _ c.sending.sent c.in-Ok.count c.sending.invariant.1 c.in-Ok.ensures.bytes,
  c.in-Ok.ensures.told ∙ some_is_no_fault _ _ _ c.in-Ok.count-test.1 ∙ c.sending.invariant.2,
)
