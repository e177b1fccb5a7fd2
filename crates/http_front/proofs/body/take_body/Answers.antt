-- Each piece that is taken goes over to the body, and as much less of its length is left.
use Rattle.std.proofs.Common.{◌≡◌, ◌+◌, ◌-◌, ◌≤◌, [], ◌++◌, length, take, IfSome, refl, sym, ap, ◌∙◌, subst, arith, append-nil}
use Rattle.std.proofs.KnownBytes.{Consumes-nil, Consumes-trans}
use Rattle.std.proofs.lemmas.List.{length-append, length-take-le}
use Rattle.http_front.specs.Bytes.{Extends}
use Rattle.http_front.proofs.BodyLemmas.{extended_kept, body_more}
use Rattle.http_front.proofs.body.take_body.Goals as goal
use Rattle.http_front.proofs.body.take_body.Goals.{then-keep, else-keep}

pub pieces-init : goal.pieces-init
pieces-init g c =
    let none : IfSome c.if-keep.kept (λ v. v.items ≡ []) =
    elim c.if-keep.branch [ then-keep w ↦ rw w.kept-is w.new.ensures.items | else-keep w ↦ rw w.kept-is tt ] in
    ([], Consumes-nil _, [], append-nil _, omega arith, none, refl, omega arith)

pub pieces-preserved : goal.pieces-preserved
pieces-preserved g c =
    let i = c.pieces.invariant in
    let m = c.in-More.ensures.bytes in
    let now = c.refill.new.buffer in
    let count = c.min-count.result in
    let few : count ≤ length now = omega (arith, c.min-count.ensures, c.len.ensures) in
    let size : length (i.2 ++ take count now) + (c.pieces.left - count) ≡ c.args.len =
    omega (arith, i.4, length-append i.2 (take count now), length-take-le count now few, c.min-count.ensures) in (
      i.0 ++ m.0,
      Consumes-trans _ _ _ i.0 m.0 i.1 m.1,
      i.2 ++ take count now,
      body_more _ i.0 m.0 i.2 c.pieces.buffer now count i.3 m.2 ∙ ap (λ l. (i.2 ++ take count now) ++ l) (sym c.discard.ensures),
      size,
      extended_kept c.pieces.kept c.extended-kept.result i.2 (take count now) i.5
          (subst (λ l. Extends c.pieces.kept c.extended-kept.result (take count l)) c.held.ensures.value c.extended-kept.ensures),
      c.in-More.ensures.told ∙ i.6,
      omega (arith, i.7, m.4, length-append i.0 m.0, ap length m.2, length-append c.pieces.buffer m.0, c.min-count.ensures, c.len.ensures),
    )
