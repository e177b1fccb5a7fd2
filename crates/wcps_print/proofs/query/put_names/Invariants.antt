use Rattle.std.proofs.Common.{◌≡◌, ◌++◌, true, List, drop}
use Rattle.std.specs.String.{string_bytes}
use Rattle.wcps_text.specs.Token.{Tok}
use Rattle.wcps_print.specs.Printing.{text_of, names_tokens}
use Rattle.wcps_print.proofs.query.put_names.Given as goal

abbrev pub invariant-loop-name : goal.invariant-loop-name
invariant-loop-name l =
    (rest : List Tok) → string_bytes l.out ++ text_of (names_tokens l.is_first (drop l.name-index l.names) rest) ≡ string_bytes l.initial.out ++ text_of (names_tokens true l.names rest)
