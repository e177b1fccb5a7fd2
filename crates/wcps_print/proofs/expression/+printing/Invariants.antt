use Rattle.std.proofs.Common.{◌+◌, ◌*◌, max, ◌≡◌, ◌++◌, true, List, drop}
use Rattle.std.specs.String.{string_bytes}
use Rattle.wcps_text.specs.Token.{Tok}
use Rattle.wcps_text.specs.Tree.{parts_of, subs_of, iters_of}
use Rattle.wcps_text.specs.declared.tree.Expr.TheShapes.{weighed-Expr-Condense-2}
use Rattle.wcps_text.proofs.tree.Expr.TheLaws.{the_size}
use Rattle.wcps_print.specs.Printing.{text_of, parts_tokens, subs_tokens, iters_tokens}
use Rattle.wcps_print.proofs.expression.+printing.Given as goal

abbrev pub invariant-put_iters-loop-iterator : goal.invariant-put_iters-loop-iterator
invariant-put_iters-loop-iterator l =
    (rest : List Tok) → string_bytes l.out ++ text_of (iters_tokens l.is_first (iters_of (drop l.iterator-index l.iterators)) rest) ≡ string_bytes l.initial.out ++ text_of (iters_tokens true (iters_of l.iterators) rest)

abbrev pub invariant-put_record-loop-part : goal.invariant-put_record-loop-part
invariant-put_record-loop-part l =
    (rest : List Tok) → string_bytes l.out ++ text_of (parts_tokens l.is_first (parts_of (drop l.part-index l.parts)) rest) ≡ string_bytes l.initial.out ++ text_of (parts_tokens true (parts_of l.parts) rest)

abbrev pub invariant-put_subs-loop-sub : goal.invariant-put_subs-loop-sub
invariant-put_subs-loop-sub l =
    (rest : List Tok) → string_bytes l.out ++ text_of (subs_tokens l.is_first (subs_of (drop l.sub-index l.subs)) rest) ≡ string_bytes l.initial.out ++ text_of (subs_tokens true (subs_of l.subs) rest)

-- a tree's height comes first, then which function hands the same tree to which
abbrev pub decreases-put_expr : goal.decreases-put_expr
decreases-put_expr l = 4 * goal.size-put_expr l + 0

abbrev pub decreases-put_grouped : goal.decreases-put_grouped
decreases-put_grouped l = 4 * goal.size-put_grouped l + 1

abbrev pub decreases-put_unary : goal.decreases-put_unary
decreases-put_unary l = 4 * goal.size-put_unary l + 2

abbrev pub decreases-put_field : goal.decreases-put_field
decreases-put_field l = 4 * goal.size-put_field l + 2

abbrev pub decreases-put_place : goal.decreases-put_place
decreases-put_place l = 4 * goal.size-put_place l + 0

abbrev pub decreases-put_interval : goal.decreases-put_interval
decreases-put_interval l = 4 * goal.size-put_interval l + 0

abbrev pub decreases-put_record : goal.decreases-put_record
decreases-put_record l = 4 * goal.size-put_record l + 1

abbrev pub decreases-put_subs : goal.decreases-put_subs
decreases-put_subs l = 4 * goal.size-put_subs l + 1

abbrev pub decreases-put_iters : goal.decreases-put_iters
decreases-put_iters l = 4 * goal.size-put_iters l + 1

abbrev pub decreases-put_head : goal.decreases-put_head
decreases-put_head l = 4 * goal.size-put_head l + 2

abbrev pub decreases-put_value_list : goal.decreases-put_value_list
decreases-put_value_list l = 4 * goal.size-put_value_list l + 3

abbrev pub decreases-put_condition : goal.decreases-put_condition
decreases-put_condition l = 4 * goal.size-put_condition l + 2

abbrev pub decreases-put_operation : goal.decreases-put_operation
decreases-put_operation l = 4 * max (goal.size-put_operation l) (the_size l.right.now) + 2

abbrev pub decreases-put_condenser : goal.decreases-put_condenser
decreases-put_condenser l = 4 * max (goal.size-put_condenser l) (max ((weighed-Expr-Condense-2).weight _ the_size l.condition.now) (the_size l.body.now)) + 3
