-- Forms with lists have the shape or the first refusal of what their parts are seen as; a bracket's axes are told one
-- at a time.
use Rattle.std.proofs.Common.{◌≡◌, ◌+◌, drop, ap, ◌∙◌, sym, subst, map, not, is_some, IfSome, Ok, Err, false, rules, arith}
use Rattle.std.proofs.lemmas.Grind.{common_steps}
use Rattle.wcps_text.specs.declared.tree.Expr.{Expr}
use Rattle.wcps_text.specs.Tree as tree
use Rattle.wcps_text.specs.Tree.{Tree, view, view_place, sub, parts_of, subs_of, iters_of, condition_of}
use Rattle.wcps_text.proofs.Views.{view-Record, view-Brackets, view-ValueList, view-Coverage, view-Condense}
use Rattle.wcps_types.specs.Shapes.{Answer, Says, then_of, shape_view, field_of_view}
use Rattle.wcps_types.specs.Brackets.{BracketTree, bracket_view, opened}
use Rattle.wcps_types.specs.declared.pieces.NextPiece.{NextPiece}
use Rattle.wcps_types.specs.Records.{piece_view, pieces_view, before_next, no_pieces, is_part, with_part}
use Rattle.wcps_types.specs.Typing.{typ_parts, typ_subs, closed_on}
use Rattle.wcps_types.specs.Contexts.{under}
use Rattle.wcps_types.proofs.Parts.{drop_here, not_taken}
use Rattle.wcps_types.proofs.expression.+expression.Goals as goal

pub expression-returns-in-Record : goal.expression-returns-in-Record
expression-returns-in-Record t c =
    let shown : view c.args.e.now ≡ tree.parts (parts_of c.in-Record.parts.items) = ap (λ (x : Expr). view x) c.in-Record.is ∙ view-Record c.in-Record.parts in
    rw shown (search rules)

pub expression-returns-in-ValueList : goal.expression-returns-in-ValueList
expression-returns-in-ValueList t c =
    let shown : view c.args.e.now ≡ tree.value_list (iters_of c.in-ValueList.iterators.items) c.in-ValueList.items.items = ap (λ (x : Expr). view x) c.in-ValueList.is ∙ view-ValueList c.in-ValueList.iterators c.in-ValueList.items in
    rw shown (search rules)

pub expression-returns-in_ok-a-in-Brackets : goal.expression-returns-in_ok-a-in-Brackets
expression-returns-in_ok-a-in-Brackets t c =
    let shown : view c.args.e.now ≡ tree.brackets (view c.in-Brackets.a.value) (subs_of c.in-Brackets.subs.items) = ap (λ (x : Expr). view x) c.in-Brackets.is ∙ view-Brackets c.in-Brackets.a c.in-Brackets.subs in
    rw shown (search rules)

pub expression-returns-in-Coverage : goal.expression-returns-in-Coverage
expression-returns-in-Coverage t c =
    let shown : view c.args.e.now ≡ tree.coverage (iters_of c.in-Coverage.iterators.items) (view c.in-Coverage.body.value) = ap (λ (x : Expr). view x) c.in-Coverage.is ∙ view-Coverage c.in-Coverage.iterators c.in-Coverage.body in
    rw shown (search rules)

pub expression-returns-in-Condense : goal.expression-returns-in-Condense
expression-returns-in-Condense t c =
    let shown : view c.args.e.now ≡ tree.condense c.in-Condense.op (iters_of c.in-Condense.iterators.items) (condition_of c.in-Condense.condition) (view c.in-Condense.body.value) = ap (λ (x : Expr). view x) c.in-Condense.is ∙ view-Condense c.in-Condense.op c.in-Condense.iterators c.in-Condense.condition c.in-Condense.body in
    rw shown (search rules)

pub subscripts-returns-in_err-bracket : goal.subscripts-returns-in_err-bracket
subscripts-returns-in_err-bracket t c =
    let next = drop_here c.args.subs.now c.loop-sub.sub-index c.sub-item.result c.loop-sub-test.true c.sub-item.is in
    let inv : under typ_subs c.args.context.now (bracket_view c.loop-sub.bracket) (subs_of (drop c.loop-sub.sub-index c.args.subs.now))
    ≡ under typ_subs c.args.context.now (opened c.args.domain) (subs_of c.args.subs.now) = c.loop-sub.invariant in
    rw (← inv, next) (search rules)

pub subscripts-loop-sub-preserved : goal.subscripts-loop-sub-preserved
subscripts-loop-sub-preserved t c =
    let next = drop_here c.args.subs.now c.loop-sub.sub-index c.sub-item.result c.loop-sub-test.true c.sub-item.is in
    let rest = subs_of (drop (c.loop-sub.sub-index + 1) c.args.subs.now) in
    let step : under typ_subs c.args.context.now (bracket_view c.loop-sub.bracket) (sub c.sub-item.result.axis (view_place c.sub-item.result.place) rest)
    ≡ under typ_subs c.args.context.now (bracket_view c.in_ok-bracket.bracket) rest =
    ap (λ (a : Answer BracketTree). then_of a (λ (b : BracketTree). under typ_subs c.args.context.now b rest)) c.in_ok-bracket.ensures in
    sym step ∙ ap (λ subs. under typ_subs c.args.context.now (bracket_view c.loop-sub.bracket) (subs_of subs)) (sym next) ∙ c.loop-sub.invariant

pub bracketed-returns : goal.bracketed-returns
bracketed-returns t c =
    ap (λ (a : Answer BracketTree). then_of a (closed_on (shape_view c.args.value))) c.in_ok-bracket.ensures ∙ ap Ok (sym c.in_ok-closed_bracket.ensures)

pub record-returns-in_err-pieces : goal.record-returns-in_err-pieces
record-returns-in_err-pieces t c =
    let known : (c.in-Some.next.name ≡ c.part-item.result.name) × (before_next c.in-Some.next ≡ pieces_view c.loop-part.pieces) =
    subst (λ o. IfSome o (λ (n : NextPiece). (n.name ≡ c.part-item.result.name) × (before_next n ≡ pieces_view c.loop-part.pieces))) c.in-Some.is c.in_ok-next.ensures.named in
    let value = field_of_view c.in_ok-only_field.field-0 in
    let said : Says pieces_view (Err c.in_err-pieces.field-0.0) (with_part c.part-item.result.name value (pieces_view c.loop-part.pieces)) =
    subst (λ p. Says pieces_view (Err c.in_err-pieces.field-0.0) (with_part c.part-item.result.name value p)) known.1
    (subst (λ x. Says pieces_view (Err c.in_err-pieces.field-0.0) (with_part x value (before_next c.in-Some.next))) known.0 c.in_err-pieces.ensures) in
    let fresh : is_part c.part-item.result.name (map piece_view c.loop-part.pieces.list.items) ≡ false =
    not_taken _ (subst (λ o. is_some o ≡ not (is_part c.part-item.result.name (map piece_view c.loop-part.pieces.list.items))) c.in-Some.is c.in_ok-next.ensures.new) in
    let next = drop_here c.args.parts.now c.loop-part.part-index c.part-item.result c.loop-part-test.true c.part-item.is in
    let inv : under typ_parts c.args.context.now (pieces_view c.loop-part.pieces) (parts_of (drop c.loop-part.part-index c.args.parts.now))
    ≡ under typ_parts c.args.context.now no_pieces (parts_of c.args.parts.now) = c.loop-part.invariant in
    rw (← inv, next, fresh) (search rules)

pub iterator_list-returns-then-is_taken : goal.iterator_list-returns-then-is_taken
iterator_list-returns-then-is_taken t c = grind (arith, common_steps)

pub iterator_list-returns-then-is_some : goal.iterator_list-returns-then-is_some
iterator_list-returns-then-is_some t c = grind (arith, common_steps)

pub iterator_list-returns-in_err-bounds : goal.iterator_list-returns-in_err-bounds
iterator_list-returns-in_err-bounds t c = grind (arith, common_steps)

pub iterator_list-returns-in_err-iterators : goal.iterator_list-returns-in_err-iterators
iterator_list-returns-in_err-iterators t c = grind (arith, common_steps)

pub iterator_list-loop-iter-preserved : goal.iterator_list-loop-iter-preserved
iterator_list-loop-iter-preserved t c = grind (arith, common_steps)

pub iterator_list-returns : goal.iterator_list-returns
iterator_list-returns t c = grind (arith, common_steps)

pub record-returns-in_default : goal.record-returns-in_default
record-returns-in_default t c = grind (arith, common_steps)

pub record-returns-in_err-value : goal.record-returns-in_err-value
record-returns-in_err-value t c = grind (arith, common_steps)

pub record-returns-in_err-only_field : goal.record-returns-in_err-only_field
record-returns-in_err-only_field t c = grind (arith, common_steps)

pub record-returns : goal.record-returns
record-returns t c = grind (arith, common_steps)

pub subscripts-returns : goal.subscripts-returns
subscripts-returns t c = grind (arith, common_steps)
