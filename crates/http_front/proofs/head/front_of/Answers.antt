-- No head stands at the front where none stood there before and no line has ended since.
use Rattle.std.proofs.Common.{◌≡◌, false, take, drop, sym, ap, ◌∙◌, subst}
use Rattle.std.proofs.lemmas.List.{take-append-drop, take_rest}
use Rattle.httparse.specs.Grammar.{HasNoRequest}
use Rattle.http_front.specs.Bytes.{has_line_end}
use Rattle.http_front.proofs.StreamLemmas.{no_head_without_end}
use Rattle.http_front.proofs.head.front_of.Goals as goal

pub returns-else-has_line_end : goal.returns-else-has_line_end
returns-else-has_line_end c =
    let bytes = c.args.bytes.now in
    let seen = c.args.seen in
    let quiet : has_line_end (drop seen bytes) ≡ false =
    ap has_line_end (sym (take_rest bytes seen)) ∙ sym c.has_line_end.ensures ∙ c.if-has_line_end.false in
    subst HasNoRequest (take-append-drop seen bytes) (no_head_without_end (take seen bytes) (drop seen bytes) c.requires.none quiet)
