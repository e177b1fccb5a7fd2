-- A refusal is an opening, which tells the length of the body, and the body, unless that is left out.
use Rattle.std.proofs.Common.{◌+◌, ◌++◌, List, ℕ, length, subst, ◌∙◌, sym, append-nil}
use Rattle.std.specs.Prelude.{codes}
use Rattle.arr_core.specs.Refusals.{refusal_status}
use Rattle.http_front.specs.Sending.{IsUnderWay}
use Rattle.http_front.specs.Replies.{opening, refusal_body, body_shown}
use Rattle.http_front.proofs.ReplyLemmas.{refusal_length, refusal_parts}
use Rattle.http_front.proofs.reply.add_refusal.Goals as goal

pub returns-then-bare : goal.returns-then-bare
returns-then-bare g c =
    let number = c.format-number.result.now in
    let name = c.refusal_name-name.result.now in
    let size = refusal_length number name c.args.code c.format-number.ensures.text c.refusal_name-name.ensures in
    let front = opening (refusal_status c.args.code) (codes "text/plain") (length (refusal_body c.args.code)) c.args.last in
    let Goes : List ℕ → Type 0 =
    λ t. IsUnderWay (g.K.Sink.view c.args.sink.now) (g.K.Sink.view c.add_opening-ok.new.sink) c.add_opening-ok.result t c.add_opening-ok.new.letter in
    let opened : Goes front =
    subst (λ n. Goes (opening (refusal_status c.args.code) (codes "text/plain") n c.args.last)) size
    (subst (λ s. Goes (opening s (codes "text/plain") (8 + length number + 1 + length name + 1) c.args.last)) c.refusal_status.ensures.status c.add_opening-ok.ensures) in
    subst (λ b. Goes (front ++ body_shown b (refusal_body c.args.code))) (sym c.if-bare.true) (subst Goes (sym (append-nil front)) opened)

pub returns : goal.returns
returns g c =
    let start = g.K.Sink.view c.args.sink.now in
    let number = c.format-number.result.now in
    let name = c.refusal_name-name.result.now in
    let size = refusal_length number name c.args.code c.format-number.ensures.text c.refusal_name-name.ensures in
    let front = opening (refusal_status c.args.code) (codes "text/plain") (length (refusal_body c.args.code)) c.args.last in
    let Opens : List ℕ → Type 0 =
    λ t. IsUnderWay start (g.K.Sink.view c.add_opening-ok.new.sink) c.add_opening-ok.result t c.add_opening-ok.new.letter in
    let opened : Opens front =
    subst (λ n. Opens (opening (refusal_status c.args.code) (codes "text/plain") n c.args.last)) size
    (subst (λ s. Opens (opening s (codes "text/plain") (8 + length number + 1 + length name + 1) c.args.last)) c.refusal_status.ensures.status c.add_opening-ok.ensures) in
    let s3 = c.add-ok-3.ensures start _ (c.add-ok-2.ensures start _ (c.add-ok.ensures start front opened)) in
    let s5 = c.add.ensures start _ (c.add-ok-4.ensures start _ s3) in
    let Goes : List ℕ → Type 0 =
    λ t. IsUnderWay start (g.K.Sink.view c.add.new.sink) c.add.result t c.add.new.self in
    subst (λ b. Goes (front ++ body_shown b (refusal_body c.args.code))) (sym c.if-bare.false)
    (subst Goes
    (refusal_parts front c.as_bytes.result.now c.as_bytes-2.result.now c.args.code (c.as_bytes.ensures.value ∙ c.format-number.ensures.text) (c.as_bytes-2.ensures.value ∙ c.refusal_name-name.ensures))
    s5)
