use Rattle.std.proofs.Common.{◌≡◌, ◌++◌, true, List, drop}
use Rattle.std.specs.String.{string_bytes}
use Rattle.wcps_text.specs.Token.{Tok}
use Rattle.wcps_print.specs.Printing.{text_of, items_tokens}
use Rattle.wcps_print.proofs.expression.put_items.Given as goal

abbrev pub invariant-loop-item : goal.invariant-loop-item
invariant-loop-item l =
    (rest : List Tok) → string_bytes l.out ++ text_of (items_tokens l.is_first (drop l.item-index l.items) rest) ≡ string_bytes l.initial.out ++ text_of (items_tokens true l.items rest)
