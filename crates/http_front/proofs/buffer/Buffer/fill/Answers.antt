-- The bytes that came stand behind those that were held.
use Rattle.std.proofs.Common.{◌<◌, ◌≤◌, ◌+◌, ◌-◌, ◌++◌, length, take, drop, ap, ◌∙◌, arith}
use Rattle.std.proofs.lemmas.List.{length-take}
use borrow.Rule.Slice.PartMut.{put_mid}
use Rattle.http_front.proofs.BufferLemmas.{filled_view, front_range, moved_view}
use Rattle.http_front.proofs.buffer.Buffer.fill.Goals as goal

pub returns-in-Ok-clause-bytes : goal.returns-in-Ok-clause-bytes
returns-in-Ok-clause-bytes g c =
    let b = c.self.inside in
    let f = b.end - b.start in
    let moved = c.copy_within.new.self in
    let came = take c.in-Ok.count c.read_some.new.buf in
    let some : 0 < length came = omega (arith, c.in-Ok.ensures.bound, c.in-Ok.count-test) in
    let ordered : b.start ≤ b.end = omega (arith, c.self.invariant.0) in
    let inside : b.end ≤ length b.bytes = omega (arith, c.self.invariant.1, c.self.told) in
    let fits : f ≤ length moved = omega (arith, inside, c.copy_within.ensures.len) in
    let few : c.in-Ok.count ≤ length c.read_some.new.buf = omega (arith, c.in-Ok.ensures.bound) in (
      came,
      some,
      c.in-Ok.ensures.bytes.0,
      front_range (put_mid f (f + c.min-room.result - f) moved c.read_some.new.buf) (f + c.in-Ok.count) ∙ filled_view f _ c.in-Ok.count moved c.read_some.new.buf fits few
          ∙ ap (λ l. l ++ came) (ap (take f) c.copy_within.ensures.after ∙ moved_view b.end b.start b.bytes ordered inside ∙ c.self.view_is),
      omega (arith, c.in-Ok.ensures.bound, c.read_some.auto.buf, c.min-room.ensures, length-take (f + c.min-room.result - f) (drop f moved), length-take c.in-Ok.count c.read_some.new.buf),
    )
