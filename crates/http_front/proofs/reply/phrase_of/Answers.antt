-- The phrase of a status is its reason, or nothing where it has none.
use Rattle.std.proofs.Common.{[], ap, ◌∙◌}
use Rattle.std.specs.Prelude.{unwrap_or}
use Rattle.http.specs.StatusCode.{reason_phrase}
use Rattle.http_front.specs.Replies.{phrase_of}
use Rattle.http_front.proofs.ReplyLemmas.{unwrap_now}
use Rattle.http_front.proofs.reply.phrase_of.Goals as goal

pub returns-in-Ok : goal.returns-in-Ok
unfolding phrase_of
returns-in-Ok c =
    ap (λ s. s.now) c.unwrap_or.ensures ∙ unwrap_now c.canonical_reason.result _
    ∙ ap (λ o. unwrap_or o []) (c.canonical_reason.ensures.value ∙ ap reason_phrase c.in-Ok.ensures.1)
