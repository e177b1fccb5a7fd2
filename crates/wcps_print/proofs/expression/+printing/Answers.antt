-- An expression of each form, and each list in it, adds just its own tokens to the text.
use Rattle.std.proofs.Common.{◌∙◌, rules, arith, w64, SFits}
use Rattle.std.proofs.lemmas.Grind.{common_steps}
use Rattle.std.proofs.lemmas.Int.{to_z-of_z}
use Rattle.wcps_text.specs.Tree.{view, parts_of, iters_of, condition_of}
use Rattle.wcps_print.proofs.Puts.{last_puts, same_text}
use Rattle.wcps_print.proofs.Views.{number_of, truth_of, variable_of, binary_of, between_of, bit_of, reduce_of, record_of, value_list_of, field_of, field_tokens, brackets_of, coverage_of, condense_of, condense_tokens, unary_of, record_tokens, value_list_tokens, some_condition, no_condition, bounds_of, domain_of, position_of, trim_of, parts_end, parts_step, subs_end, subs_step, iters_end, iters_step}
use Rattle.wcps_print.proofs.expression.+printing.Goals as goal

pub put_condition-returns-in_ok-put_word-in-Some : goal.put_condition-returns-in_ok-put_word-in-Some
put_condition-returns-in_ok-put_word-in-Some t c = last_puts c.put_grouped.result _ _ _ _ _ c.put_grouped.ensures (λ rest. c.in_ok-put_word-in-Some.ensures _ ∙ (same_text _ (some_condition c.args.condition.now _ c.in-Some.test c.in-Some.is c.deref.ensures rest)))

pub put_condition-returns-in-None : goal.put_condition-returns-in-None
put_condition-returns-in-None t c = λ rest. same_text _ (no_condition c.args.condition.now c.in-None.is rest)

pub put_expr-returns-in-Number : goal.put_expr-returns-in-Number
put_expr-returns-in-Number t c = last_puts c.put_number.result _ _ _ _ _ c.put_number.ensures (λ rest. same_text _ (number_of c.args.expr.now c.in-Number.literal c.in-Number.is rest))

pub put_expr-returns-in-Truth : goal.put_expr-returns-in-Truth
put_expr-returns-in-Truth t c = last_puts c.put_truth.result _ _ _ _ _ c.put_truth.ensures (λ rest. same_text _ (truth_of c.args.expr.now c.in-Truth.truth c.in-Truth.is rest))

pub put_expr-returns-in-Variable : goal.put_expr-returns-in-Variable
put_expr-returns-in-Variable t c = last_puts c.put_name.result _ _ _ _ _ c.put_name.ensures (λ rest. same_text _ (variable_of c.args.expr.now c.in-Variable.name c.in-Variable.is rest))

pub put_expr-returns-in-Record : goal.put_expr-returns-in-Record
put_expr-returns-in-Record t c = last_puts c.put_record.result _ _ _ _ _ c.put_record.ensures (λ rest. same_text _ (record_of c.args.expr.now _ c.in-Record.parts c.in-Record.is c.deref-in-Record.ensures.value rest))

pub put_expr-returns-in-ValueList : goal.put_expr-returns-in-ValueList
put_expr-returns-in-ValueList t c = last_puts c.put_value_list.result _ _ _ _ _ c.put_value_list.ensures (λ rest. same_text _ (value_list_of c.args.expr.now _ _ c.in-ValueList.iterators c.in-ValueList.items c.in-ValueList.is c.deref-in-ValueList.ensures.value c.deref-in-ValueList-2.ensures.value rest))

pub put_expr-returns-in-Binary : goal.put_expr-returns-in-Binary
put_expr-returns-in-Binary t c = last_puts c.put_operation.result _ _ _ _ _ c.put_operation.ensures (λ rest. same_text _ (binary_of c.args.expr.now _ _ c.in-Binary.op c.in-Binary.left c.in-Binary.right c.in-Binary.is c.deref-in-Binary.ensures c.deref-in-Binary-2.ensures rest))

pub put_operation-returns-then-eq : goal.put_operation-returns-then-eq
put_operation-returns-then-eq t c = last_puts c.put_symbol-then-eq-2.result _ _ _ _ _ c.put_symbol-then-eq-2.ensures (λ rest. c.in_ok-put_expr-2.ensures _ ∙ (c.in_ok-put_symbol-2.ensures _ ∙ (c.in_ok-put_expr.ensures _ ∙ (c.in_ok-put_symbol.ensures _ ∙ (c.in_ok-put_word.ensures _ ∙ (same_text _ (bit_of (view c.args.left.now) (view c.args.right.now) c.args.op c.if-eq.ensures rest)))))))

pub put_operation-returns : goal.put_operation-returns
put_operation-returns t c = last_puts c.put_grouped-2.result _ _ _ _ _ c.put_grouped-2.ensures (λ rest. c.in_ok-put_binary.ensures _ ∙ (c.in_ok-put_grouped.ensures _ ∙ (same_text _ (between_of (view c.args.left.now) (view c.args.right.now) c.args.op c.if-eq.ensures rest))))

pub put_expr-returns-in-Condense : goal.put_expr-returns-in-Condense
put_expr-returns-in-Condense t c = last_puts c.put_condenser.result _ _ _ _ _ c.put_condenser.ensures (λ rest. same_text _ (condense_of c.args.expr.now _ c.in-Condense.op c.in-Condense.body c.in-Condense.condition _ c.in-Condense.iterators c.in-Condense.is c.deref-in-Condense-2.ensures c.deref-in-Condense.ensures.value rest))

pub put_condenser-returns : goal.put_condenser-returns
put_condenser-returns t c = last_puts c.put_grouped.result _ _ _ _ _ c.put_grouped.ensures (λ rest. c.in_ok-put_word-3.ensures _ ∙ (c.in_ok-put_condition.ensures _ ∙ (c.in_ok-put_iters.ensures _ ∙ (c.in_ok-put_word-2.ensures _ ∙ (c.in_ok-put_condense.ensures _ ∙ (c.in_ok-put_word.ensures _ ∙ (same_text _ (condense_tokens c.args.op (iters_of c.args.iterators.now) (condition_of c.args.condition.now) (view c.args.body.now) rest))))))))

pub put_expr-returns-in_ok-put_grouped-in-Brackets : goal.put_expr-returns-in_ok-put_grouped-in-Brackets
put_expr-returns-in_ok-put_grouped-in-Brackets t c = last_puts c.put_subs.result _ _ _ _ _ c.put_subs.ensures (λ rest. c.in_ok-put_grouped-in-Brackets.ensures _ ∙ (same_text _ (brackets_of c.args.expr.now _ c.in-Brackets.value _ c.in-Brackets.subs c.in-Brackets.is c.deref-in-Brackets.ensures c.deref-in-Brackets-2.ensures.value rest)))

pub put_expr-returns-in_ok-put_reduce-in-Reduce : goal.put_expr-returns-in_ok-put_reduce-in-Reduce
put_expr-returns-in_ok-put_reduce-in-Reduce t c = last_puts c.put_grouped.result _ _ _ _ _ c.put_grouped.ensures (λ rest. c.in_ok-put_reduce-in-Reduce.ensures _ ∙ (same_text _ (reduce_of c.args.expr.now _ c.in-Reduce.op c.in-Reduce.value c.in-Reduce.is c.deref-in-Reduce.ensures rest)))

pub put_expr-returns-in-Field : goal.put_expr-returns-in-Field
put_expr-returns-in-Field t c = last_puts c.put_field.result _ _ _ _ _ c.put_field.ensures (λ rest. same_text _ (field_of c.args.expr.now _ c.in-Field.value c.in-Field.name c.in-Field.is c.deref-in-Field.ensures rest))

pub put_field-returns : goal.put_field-returns
put_field-returns t c = last_puts c.put_name.result _ _ _ _ _ c.put_name.ensures (λ rest. c.in_ok-put_symbol.ensures _ ∙ (c.in_ok-put_grouped.ensures _ ∙ (same_text _ (field_tokens (view c.args.value.now) c.args.name.now rest))))

pub put_expr-returns-in_ok-put_word-in-Coverage : goal.put_expr-returns-in_ok-put_word-in-Coverage
put_expr-returns-in_ok-put_word-in-Coverage t c = last_puts c.put_grouped-in-Coverage.result _ _ _ _ _ c.put_grouped-in-Coverage.ensures (λ rest. c.in_ok-put_word-in-Coverage.ensures _ ∙ (c.in_ok-put_head-in-Coverage.ensures _ ∙ (same_text _ (coverage_of c.args.expr.now _ c.in-Coverage.body _ c.in-Coverage.iterators c.in-Coverage.is c.deref-in-Coverage-2.ensures c.deref-in-Coverage.ensures.value rest))))

pub put_interval-returns-in_ok-put_name-in-Domain : goal.put_interval-returns-in_ok-put_name-in-Domain
put_interval-returns-in_ok-put_name-in-Domain t c = last_puts c.put_symbol-in-Domain-3.result _ _ _ _ _ c.put_symbol-in-Domain-3.ensures (λ rest. c.in_ok-put_name-in-Domain.ensures _ ∙ (c.in_ok-put_symbol-in-Domain-2.ensures _ ∙ (c.in_ok-put_expr-in-Domain.ensures _ ∙ (c.in_ok-put_symbol-in-Domain.ensures _ ∙ (c.in_ok-put_word-in-Domain.ensures _ ∙ (same_text _ (domain_of c.args.interval.now _ c.in-Domain.value c.in-Domain.axis c.in-Domain.is c.deref.ensures rest)))))))

pub put_interval-returns-in_ok-put_symbol-in-Bounds : goal.put_interval-returns-in_ok-put_symbol-in-Bounds
put_interval-returns-in_ok-put_symbol-in-Bounds t c =
    let low : SFits w64 c.in-Bounds.low = first_of (search rules, grind (arith, common_steps)) in
    let high : SFits w64 c.in-Bounds.high = first_of (search rules, grind (arith, common_steps)) in
    last_puts c.put_int-in-Bounds.result _ _ _ _ _ c.put_int-in-Bounds.ensures (λ rest. c.in_ok-put_symbol-in-Bounds.ensures _ ∙ (c.in_ok-put_int-in-Bounds.ensures _ ∙ (same_text _ (bounds_of c.args.interval.now _ _ c.in-Bounds.low c.in-Bounds.high c.in-Bounds.is (to_z-of_z w64 c.in-Bounds.low low) (to_z-of_z w64 c.in-Bounds.high high) rest))))

pub put_place-returns-in-At : goal.put_place-returns-in-At
put_place-returns-in-At t c = last_puts c.put_expr.result _ _ _ _ _ c.put_expr.ensures (λ rest. same_text _ (position_of c.args.place.now _ c.in-At.position c.in-At.is c.deref.ensures rest))

pub put_place-returns-in-Trim : goal.put_place-returns-in-Trim
put_place-returns-in-Trim t c = last_puts c.put_interval.result _ _ _ _ _ c.put_interval.ensures (λ rest. same_text _ (trim_of c.args.place.now c.in-Trim.interval c.in-Trim.is rest))

pub put_unary-returns : goal.put_unary-returns
put_unary-returns t c = last_puts c.put_grouped.result _ _ _ _ _ c.put_grouped.ensures (λ rest. c.in_ok-put_unary_op.ensures _ ∙ (same_text _ (unary_of c.args.op (view c.args.operand.now) rest)))

pub put_value_list-returns : goal.put_value_list-returns
put_value_list-returns t c = last_puts c.put_symbol-2.result _ _ _ _ _ c.put_symbol-2.ensures (λ rest. c.in_ok-put_items.ensures _ ∙ (c.in_ok-put_symbol.ensures _ ∙ (c.in_ok-put_word-2.ensures _ ∙ (c.in_ok-put_word.ensures _ ∙ (c.in_ok-put_head.ensures _ ∙ (same_text _ (value_list_tokens (iters_of c.args.iterators.now) c.args.items.now rest)))))))

pub put_record-returns : goal.put_record-returns
put_record-returns t c =
    last_puts c.put_symbol-2.result _ _ _ _ _ c.put_symbol-2.ensures (λ rest.
    same_text _ (parts_end c.loop-part.is_first c.args.parts.now c.loop-part.part-index c.loop-part-test.false _) ∙ (c.loop-part.invariant _ ∙ (c.in_ok-put_symbol.ensures _ ∙ same_text _ (record_tokens (parts_of c.args.parts.now) rest))))

pub put_record-loop-part-preserved : goal.put_record-loop-part-preserved
put_record-loop-part-preserved t c = λ rest.
    c.in_ok-put_expr.ensures _ ∙ (c.in_ok-put_symbol-2.ensures _ ∙ (c.in_ok-put_name.ensures _ ∙ (c.in_ok-put_separator.ensures _ ∙ (same_text _ (parts_step c.loop-part.is_first c.args.parts.now c.loop-part.part-index c.part-item.result c.loop-part-test.true c.part-item.is rest) ∙ c.loop-part.invariant rest))))

pub put_subs-returns : goal.put_subs-returns
put_subs-returns t c =
    last_puts c.put_symbol-2.result _ _ _ _ _ c.put_symbol-2.ensures (λ rest.
    same_text _ (subs_end c.loop-sub.is_first c.args.subs.now c.loop-sub.sub-index c.loop-sub-test.false _) ∙ (c.loop-sub.invariant _ ∙ c.in_ok-put_symbol.ensures _))

pub put_subs-loop-sub-preserved : goal.put_subs-loop-sub-preserved
put_subs-loop-sub-preserved t c = λ rest.
    c.in_ok-put_symbol-3.ensures _ ∙ (c.in_ok-put_place.ensures _ ∙ (c.in_ok-put_symbol-2.ensures _ ∙ (c.in_ok-put_name.ensures _ ∙ (c.in_ok-put_separator.ensures _ ∙ (same_text _ (subs_step c.loop-sub.is_first c.args.subs.now c.loop-sub.sub-index c.sub-item.result c.loop-sub-test.true c.sub-item.is rest) ∙ c.loop-sub.invariant rest)))))

pub put_iters-returns : goal.put_iters-returns
put_iters-returns t c = λ rest. same_text _ (iters_end c.loop-iterator.is_first c.args.iterators.now c.loop-iterator.iterator-index c.loop-iterator-test.false rest) ∙ c.loop-iterator.invariant rest

pub put_iters-loop-iterator-preserved : goal.put_iters-loop-iterator-preserved
put_iters-loop-iterator-preserved t c = λ rest.
    c.in_ok-put_symbol-2.ensures _ ∙ (c.in_ok-put_interval.ensures _ ∙ (c.in_ok-put_symbol.ensures _ ∙ (c.in_ok-put_name-2.ensures _ ∙ (c.in_ok-put_name.ensures _ ∙ (c.in_ok-put_separator.ensures _ ∙ (same_text _ (iters_step c.loop-iterator.is_first c.args.iterators.now c.loop-iterator.iterator-index c.iterator-item.result c.loop-iterator-test.true c.iterator-item.is rest) ∙ c.loop-iterator.invariant rest))))))
