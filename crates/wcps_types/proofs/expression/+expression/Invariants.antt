use Rattle.std.proofs.Common.{◌+◌, ◌*◌, max, ◌≡◌, drop}
use Rattle.wcps_text.specs.Tree.{parts_of, subs_of, iters_of}
use Rattle.wcps_text.specs.declared.tree.Expr.TheShapes.{weighed-Expr-Condense-2}
use Rattle.wcps_text.proofs.tree.Expr.TheLaws.{the_size}
use Rattle.wcps_types.specs.Brackets.{bracket_view, opened}
use Rattle.wcps_types.specs.Records.{pieces_view, no_pieces}
use Rattle.wcps_types.specs.Boxes.{iterators_view, no_iterators}
use Rattle.wcps_types.specs.Typing.{typ_parts, typ_subs, typ_iters}
use Rattle.wcps_types.specs.Contexts.{under}
use Rattle.wcps_types.proofs.expression.+expression.Given as goal

abbrev pub invariant-record-loop-part : goal.invariant-record-loop-part
invariant-record-loop-part l =
    under typ_parts l.context (pieces_view l.pieces) (parts_of (drop l.part-index l.parts)) ≡ under typ_parts l.context no_pieces (parts_of l.parts)

abbrev pub invariant-subscripts-loop-sub : goal.invariant-subscripts-loop-sub
invariant-subscripts-loop-sub l =
    under typ_subs l.context (bracket_view l.bracket) (subs_of (drop l.sub-index l.subs)) ≡ under typ_subs l.context (opened l.fn.domain) (subs_of l.subs)

abbrev pub invariant-iterator_list-loop-iter : goal.invariant-iterator_list-loop-iter
invariant-iterator_list-loop-iter l =
    under typ_iters l.context (iterators_view l.iterators) (iters_of (drop l.iter-index l.list)) ≡ under typ_iters l.context no_iterators (iters_of l.list)

-- a tree's height comes first, then which function hands the same tree to which
abbrev pub decreases-expression : goal.decreases-expression
decreases-expression l = 4 * goal.size-expression l + 0

abbrev pub decreases-interval_bounds : goal.decreases-interval_bounds
decreases-interval_bounds l = 4 * goal.size-interval_bounds l + 0

abbrev pub decreases-subscript : goal.decreases-subscript
decreases-subscript l = 4 * goal.size-subscript l + 0

abbrev pub decreases-operation : goal.decreases-operation
decreases-operation l = 4 * goal.size-operation l + 1

abbrev pub decreases-operation_on_two : goal.decreases-operation_on_two
decreases-operation_on_two l = 4 * goal.size-operation_on_two l + 1

abbrev pub decreases-reduced : goal.decreases-reduced
decreases-reduced l = 4 * goal.size-reduced l + 1

abbrev pub decreases-field_of : goal.decreases-field_of
decreases-field_of l = 4 * goal.size-field_of l + 1

abbrev pub decreases-record : goal.decreases-record
decreases-record l = 4 * goal.size-record l + 1

abbrev pub decreases-subscripts : goal.decreases-subscripts
decreases-subscripts l = 4 * goal.size-subscripts l + 1

abbrev pub decreases-iterator_list : goal.decreases-iterator_list
decreases-iterator_list l = 4 * goal.size-iterator_list l + 1

abbrev pub decreases-body_over : goal.decreases-body_over
decreases-body_over l = 4 * goal.size-body_over l + 1

abbrev pub decreases-condition_node : goal.decreases-condition_node
decreases-condition_node l = 4 * goal.size-condition_node l + 1

abbrev pub decreases-condition_over : goal.decreases-condition_over
decreases-condition_over l = 4 * goal.size-condition_over l + 2

abbrev pub decreases-bracketed : goal.decreases-bracketed
decreases-bracketed l = 4 * goal.size-bracketed l + 2

abbrev pub decreases-listed : goal.decreases-listed
decreases-listed l = 4 * goal.size-listed l + 2

abbrev pub decreases-array_over : goal.decreases-array_over
decreases-array_over l = 4 * max (goal.size-array_over l) (the_size l.body.now) + 2

abbrev pub decreases-condensed_over : goal.decreases-condensed_over
decreases-condensed_over l = 4 * max (goal.size-condensed_over l) (max ((weighed-Expr-Condense-2).weight _ the_size l.condition.now) (the_size l.body.now)) + 3
