use Rattle.std.proofs.Common.{◌≡◌, ◌++◌, true, List, drop}
use Rattle.std.specs.String.{string_bytes}
use Rattle.wcps_text.specs.Token.{Tok}
use Rattle.wcps_text.specs.Tree.{bindings_of}
use Rattle.wcps_print.specs.Printing.{text_of, bindings_tokens}
use Rattle.wcps_print.proofs.query.put_bindings.Given as goal

abbrev pub invariant-loop-binding : goal.invariant-loop-binding
invariant-loop-binding l =
    (rest : List Tok) → string_bytes l.out ++ text_of (bindings_tokens l.is_first (bindings_of (drop l.binding-index l.bindings)) rest) ≡ string_bytes l.initial.out ++ text_of (bindings_tokens true (bindings_of l.bindings) rest)
