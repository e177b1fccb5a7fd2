-- The parts that are added one after the other are the opening of the reply.
use Rattle.std.proofs.Common.{◌≡◌, [], refl, sym, subst, ◌∙◌, true}
use Rattle.std.proofs.KnownBytes.{Appends-nil}
use Rattle.http_front.specs.Sending.{IsUnderWay}
use Rattle.http_front.specs.Replies.{close_line}
use Rattle.http_front.proofs.ReplyLemmas.{opening_parts}
use Rattle.http_front.proofs.reply.add_opening.Goals as goal
use Rattle.http_front.proofs.reply.add_opening.Goals.{then-last, else-last}

pub returns : goal.returns
returns g c =
    let close : c.if-last.close.now ≡ close_line c.args.last =
    elim c.if-last.branch [ then-last w ↦ rw (w.close-is, w.if-last.true) | else-last w ↦ rw (w.close-is, w.if-last.false) ] in
    let start = g.K.Sink.view c.args.sink.now in
    let empty : IsUnderWay start start true [] c.args.letter.now = ([], Appends-nil start.contents, sym c.requires.begins, refl) in
    let s2 = c.add-ok-2.ensures start _ (c.add-ok.ensures start [] empty) in
    let s5 = c.add-ok-5.ensures start _ (c.add-ok-4.ensures start _ (c.add-ok-3.ensures start _ s2)) in
    let s8 = c.add-ok-8.ensures start _ (c.add-ok-7.ensures start _ (c.add-ok-6.ensures start _ s5)) in
    let s10 = c.add-ok-10.ensures start _ (c.add-ok-9.ensures start _ s8) in
    subst (λ t. IsUnderWay start (g.K.Sink.view c.add.new.sink) c.add.result t c.add.new.self)
    (opening_parts c.as_bytes.result.now c.as_bytes-2.result.now c.as_bytes-3.result.now c.args.kind.now c.as_bytes-4.result.now c.if-last.close.now c.args.status c.args.length c.args.last
    (c.as_bytes.ensures.value ∙ c.format-status_text.ensures.text) (c.as_bytes-2.ensures.value ∙ c.phrase_of-phrase.ensures) c.as_bytes-3.ensures.value
    (c.as_bytes-4.ensures.value ∙ c.format-length_text.ensures.text) close)
    (c.add.ensures start _ s10)
