-- What is read as an expression or as a part of one is what the tokens come to, and what is refused comes to nothing.
use Rattle.std.proofs.Common.{ℕ, ◌-◌, [], ◌∷◌, ◌++◌, Some, None, refl, sym, ap, rules, subst, arith}
use Rattle.std.proofs.lemmas.Result.{err_from_is_err_and}
use Rattle.wcps_text.specs.declared.token.Symbol.TheVariants as signs
use Rattle.wcps_text.specs.declared.operator.UnaryOperator.TheVariants as unaries
use Rattle.wcps_text.specs.declared.operator.BinaryOperator.TheVariants as binaries
use Rattle.wcps_text.specs.Tree as tree
use Rattle.wcps_text.specs.Tree.{Tree, view_interval}
use Rattle.wcps_text.specs.Token.{toks}
use Rattle.wcps_parse.specs.Comes.{Comes}
use Rattle.wcps_parse.specs.Prefixes.{wrapped}
use Rattle.wcps_parse.specs.Front.{begin_of, with_number, with_truth, with_variable, with_paren, with_brace, with_abs, with_bit, with_reduce, with_coverage, with_condense}
use Rattle.wcps_parse.specs.Reading.{parts_from, subs_from, iters_from, level, enclosed, in_parens, bit, part_at, parts, fields, domain, place, interval, sub_at, subs, iter_at, iters, coverage, condition, condense, begun}
use Rattle.wcps_parse.proofs.Coming.{comes_now, comes_then, fails_then, reads_then}
use Rattle.wcps_parse.proofs.Turns.{more_end, more_next, separated_first, climb_end, climb_next, level_first, behind_end, behind_next, post_first, prim_by, prim_none, postfix_field, postfix_no_field, postfix_subs, operand_under}
use Rattle.wcps_parse.proofs.expression.+expression.Goals as goal

pub enclosed-returns-in_err-value-clause-exact : goal.enclosed-returns-in_err-value-clause-exact
unfolding enclosed
enclosed-returns-in_err-value-clause-exact t c =
    let p = err_from_is_err_and c.from_residual.result c.from_residual.ensures.1 in
    rw (p.1, p.2) (fails_then c.in_err-value.field-0.0 c.in_err-value.ensures.exact (λ none. comes_then _ none (comes_now _)))

pub enclosed-returns-in_default-clause-exact : goal.enclosed-returns-in_default-clause-exact
unfolding enclosed
enclosed-returns-in_default-clause-exact t c = comes_then _ c.in_ok-value.ensures.exact.comes (rw c.in_default.ensures.value (comes_now _))

pub enclosed-returns-clause-exact : goal.enclosed-returns-clause-exact
unfolding enclosed
enclosed-returns-clause-exact t c = record {
  whole = c.in_ok-value.ensures.exact.whole;
  fit = c.in_ok-value.ensures.exact.fit;
  comes = comes_then _ c.in_ok-value.ensures.exact.comes (rw c.in-Some.ensures.value (comes_now _));
}

pub in_parens-returns-in_default-clause-exact : goal.in_parens-returns-in_default-clause-exact
unfolding in_parens
in_parens-returns-in_default-clause-exact t c = rw c.in_default.ensures.value (comes_now _)

pub in_parens-returns-clause-exact : goal.in_parens-returns-clause-exact
unfolding in_parens
in_parens-returns-clause-exact t c = reads_then _ c.enclosed.result c.enclosed.ensures.exact (λ o h. rw c.in-Some.ensures.value h)

pub bit-returns-in_default-clause-exact : goal.bit-returns-in_default-clause-exact
unfolding bit
bit-returns-in_default-clause-exact t c = rw c.in_default.ensures.value (comes_now _)

pub bit-returns-in_err-value-clause-exact : goal.bit-returns-in_err-value-clause-exact
unfolding bit
bit-returns-in_err-value-clause-exact t c =
    let p = err_from_is_err_and c.from_residual.result c.from_residual.ensures.1 in
    rw (p.1, p.2) (fails_then c.in_err-value.field-0.0 c.in_err-value.ensures.exact (λ none. rw c.in-Some.ensures.value (comes_then _ none (comes_now _))))

pub bit-returns-in_default-sign_at-clause-exact : goal.bit-returns-in_default-sign_at-clause-exact
unfolding bit
bit-returns-in_default-sign_at-clause-exact t c = rw c.in-Some.ensures.value (comes_then _ c.in_ok-value.ensures.exact.comes (rw c.in_default-sign_at.ensures.value (comes_now _)))

pub bit-returns-in_err-place-clause-exact : goal.bit-returns-in_err-place-clause-exact
unfolding bit
bit-returns-in_err-place-clause-exact t c =
    let p = err_from_is_err_and c.from_residual-in_err-place.result c.from_residual-in_err-place.ensures.1 in
    rw (p.1, p.2) (fails_then c.in_err-place.field-0.0 c.in_err-place.ensures.exact (λ none. rw c.in-Some.ensures.value (comes_then _ c.in_ok-value.ensures.exact.comes (rw c.in-Some-sign_at.ensures.value (comes_then _ none (comes_now _))))))

pub bit-returns-clause-exact : goal.bit-returns-clause-exact
unfolding bit
bit-returns-clause-exact t c = record {
  whole = tree.binary binaries.Bit c.in_ok-value.ensures.exact.whole c.in_ok-place.ensures.exact.whole;
  fit = c.in_ok-whole.ensures c.in_ok-value.ensures.exact.whole c.in_ok-place.ensures.exact.whole c.in_ok-value.ensures.exact.fit c.in_ok-place.ensures.exact.fit;
  comes = rw c.in-Some.ensures.value (comes_then _ c.in_ok-value.ensures.exact.comes (rw c.in-Some-sign_at.ensures.value (comes_then _ c.in_ok-place.ensures.exact.comes (comes_now _))));
}

pub record-returns-in_err-list-clause-exact : goal.record-returns-in_err-list-clause-exact
unfolding fields
record-returns-in_err-list-clause-exact t c =
    let p = err_from_is_err_and c.from_residual.result c.from_residual.ensures.1 in
    rw (p.1, p.2) (fails_then c.in_err-list.field-0.0 c.in_err-list.ensures.exact (λ none. comes_then _ none (comes_now _)))

pub record-returns-in_default-clause-exact : goal.record-returns-in_default-clause-exact
unfolding fields
record-returns-in_default-clause-exact t c = comes_then _ c.in_ok-list.ensures.exact.comes (rw c.in_default.ensures.value (comes_now _))

pub record-returns-clause-exact : goal.record-returns-clause-exact
unfolding fields
record-returns-clause-exact t c = record {
  whole = tree.parts (parts_from c.in_ok-list.ensures.exact.whole);
  fit = c.in_ok-record.ensures c.in_ok-list.ensures.exact.whole c.in_ok-list.ensures.exact.fit;
  comes = comes_then _ c.in_ok-list.ensures.exact.comes (rw c.in-Some.ensures.value (comes_now _));
}

pub part_at-returns-in_default-clause-exact : goal.part_at-returns-in_default-clause-exact
unfolding part_at
part_at-returns-in_default-clause-exact t c = rw c.in_default.ensures.value (comes_now _)

pub part_at-returns-in_default-sign_at-clause-exact : goal.part_at-returns-in_default-sign_at-clause-exact
unfolding part_at
part_at-returns-in_default-sign_at-clause-exact t c = rw (c.in-Some.ensures.value, c.in_default-sign_at.ensures.value) (comes_now _)

pub part_at-returns-in_err-value-clause-exact : goal.part_at-returns-in_err-value-clause-exact
unfolding part_at
part_at-returns-in_err-value-clause-exact t c =
    let p = err_from_is_err_and c.from_residual.result c.from_residual.ensures.1 in
    rw (p.1, p.2) (fails_then c.in_err-value.field-0.0 c.in_err-value.ensures.exact (λ none. rw (c.in-Some.ensures.value, c.in-Some-sign_at.ensures.value) (comes_then _ none (comes_now _))))

pub part_at-returns-clause-exact : goal.part_at-returns-clause-exact
unfolding part_at
part_at-returns-clause-exact t c = record {
  whole = (c.in-Some.name.now, c.in_ok-value.ensures.exact.whole);
  fit = c.in_ok-part.ensures c.in_ok-value.ensures.exact.whole c.in_ok-value.ensures.exact.fit;
  comes = rw (c.in-Some.ensures.value, c.in-Some-sign_at.ensures.value) (comes_then _ c.in_ok-value.ensures.exact.comes (comes_now _));
}

pub sub_at-returns-in_default-clause-exact : goal.sub_at-returns-in_default-clause-exact
unfolding sub_at
sub_at-returns-in_default-clause-exact t c = rw c.in_default.ensures.value (comes_now _)

pub sub_at-returns-in_default-sign_at-clause-exact : goal.sub_at-returns-in_default-sign_at-clause-exact
unfolding sub_at
sub_at-returns-in_default-sign_at-clause-exact t c = rw (c.in-Some.ensures.value, c.in_default-sign_at.ensures.value) (comes_now _)

pub sub_at-returns-in_err-place-clause-exact : goal.sub_at-returns-in_err-place-clause-exact
unfolding sub_at
sub_at-returns-in_err-place-clause-exact t c =
    let p = err_from_is_err_and c.from_residual.result c.from_residual.ensures.1 in
    rw (p.1, p.2) (fails_then c.in_err-place.field-0.0 c.in_err-place.ensures.exact (λ none. rw (c.in-Some.ensures.value, c.in-Some-sign_at.ensures.value) (comes_then _ none (comes_now _))))

pub sub_at-returns-in_default-sign_at-2-clause-exact : goal.sub_at-returns-in_default-sign_at-2-clause-exact
unfolding sub_at
sub_at-returns-in_default-sign_at-2-clause-exact t c = rw (c.in-Some.ensures.value, c.in-Some-sign_at.ensures.value) (comes_then _ c.in_ok-place.ensures.exact.comes (rw c.in_default-sign_at-2.ensures.value (comes_now _)))

pub sub_at-returns-clause-exact : goal.sub_at-returns-clause-exact
unfolding sub_at
sub_at-returns-clause-exact t c = record {
  whole = (c.in-Some.axis.now, c.in_ok-place.ensures.exact.whole);
  fit = c.in_ok-sub.ensures c.in_ok-place.ensures.exact.whole c.in_ok-place.ensures.exact.fit;
  comes = rw (c.in-Some.ensures.value, c.in-Some-sign_at.ensures.value) (comes_then _ c.in_ok-place.ensures.exact.comes (rw c.in-Some-sign_at-2.ensures.value (comes_now _)));
}

pub domain-returns-in_default-clause-exact : goal.domain-returns-in_default-clause-exact
unfolding domain
domain-returns-in_default-clause-exact t c = rw c.in_default.ensures.value (comes_now _)

pub domain-returns-in_err-value-clause-exact : goal.domain-returns-in_err-value-clause-exact
unfolding domain
domain-returns-in_err-value-clause-exact t c =
    let p = err_from_is_err_and c.from_residual.result c.from_residual.ensures.1 in
    rw (p.1, p.2) (fails_then c.in_err-value.field-0.0 c.in_err-value.ensures.exact (λ none. rw c.in-Some.ensures.value (comes_then _ none (comes_now _))))

pub domain-returns-in_default-sign_at-clause-exact : goal.domain-returns-in_default-sign_at-clause-exact
unfolding domain
domain-returns-in_default-sign_at-clause-exact t c = rw c.in-Some.ensures.value (comes_then _ c.in_ok-value.ensures.exact.comes (rw c.in_default-sign_at.ensures.value (comes_now _)))

pub domain-returns-in_default-name_at-clause-exact : goal.domain-returns-in_default-name_at-clause-exact
unfolding domain
domain-returns-in_default-name_at-clause-exact t c = rw c.in-Some.ensures.value (comes_then _ c.in_ok-value.ensures.exact.comes (rw (c.in-Some-sign_at.ensures.value, c.in_default-name_at.ensures.value) (comes_now _)))

pub domain-returns-in_default-sign_at-2-clause-exact : goal.domain-returns-in_default-sign_at-2-clause-exact
unfolding domain
domain-returns-in_default-sign_at-2-clause-exact t c = rw c.in-Some.ensures.value (comes_then _ c.in_ok-value.ensures.exact.comes (rw (c.in-Some-sign_at.ensures.value, c.in-Some-name_at.ensures.value, c.in_default-sign_at-2.ensures.value) (comes_now _)))

pub domain-returns-clause-exact : goal.domain-returns-clause-exact
unfolding domain
domain-returns-clause-exact t c = record {
  whole = tree.domain c.in_ok-value.ensures.exact.whole c.in-Some-name_at.axis.now;
  fit = c.in_ok-domain.ensures c.in_ok-value.ensures.exact.whole c.in_ok-value.ensures.exact.fit;
  comes = rw c.in-Some.ensures.value (comes_then _ c.in_ok-value.ensures.exact.comes (rw (c.in-Some-sign_at.ensures.value, c.in-Some-name_at.ensures.value, c.in-Some-sign_at-2.ensures.value) (comes_now _)));
}

pub iter_at-returns-in_default-clause-exact : goal.iter_at-returns-in_default-clause-exact
unfolding iter_at
iter_at-returns-in_default-clause-exact t c = rw c.in_default.ensures.value (comes_now _)

pub iter_at-returns-in_default-name_at-clause-exact : goal.iter_at-returns-in_default-name_at-clause-exact
unfolding iter_at
iter_at-returns-in_default-name_at-clause-exact t c = rw (c.in-Some.ensures.value, c.in_default-name_at.ensures.value) (comes_now _)

pub iter_at-returns-in_default-sign_at-clause-exact : goal.iter_at-returns-in_default-sign_at-clause-exact
unfolding iter_at
iter_at-returns-in_default-sign_at-clause-exact t c = rw (c.in-Some.ensures.value, c.in-Some-name_at.ensures.value, c.in_default-sign_at.ensures.value) (comes_now _)

pub iter_at-returns-in_err-interval-clause-exact : goal.iter_at-returns-in_err-interval-clause-exact
unfolding iter_at
iter_at-returns-in_err-interval-clause-exact t c =
    let p = err_from_is_err_and c.from_residual.result c.from_residual.ensures.1 in
    rw (p.1, p.2) (fails_then c.in_err-interval.field-0.0 c.in_err-interval.ensures.exact (λ none. rw (c.in-Some.ensures.value, c.in-Some-name_at.ensures.value, c.in-Some-sign_at.ensures.value) (comes_then _ none (comes_now _))))

pub iter_at-returns-in_default-sign_at-2-clause-exact : goal.iter_at-returns-in_default-sign_at-2-clause-exact
unfolding iter_at
iter_at-returns-in_default-sign_at-2-clause-exact t c = rw (c.in-Some.ensures.value, c.in-Some-name_at.ensures.value, c.in-Some-sign_at.ensures.value) (comes_then _ c.in_ok-interval.ensures.exact.comes (rw c.in_default-sign_at-2.ensures.value (comes_now _)))

pub iter_at-returns-clause-exact : goal.iter_at-returns-clause-exact
unfolding iter_at
iter_at-returns-clause-exact t c = record {
  whole = (c.in-Some.variable.now, c.in-Some-name_at.axis.now, c.in_ok-interval.ensures.exact.whole);
  fit = c.in_ok-iter.ensures c.in_ok-interval.ensures.exact.whole c.in_ok-interval.ensures.exact.fit;
  comes = rw (c.in-Some.ensures.value, c.in-Some-name_at.ensures.value, c.in-Some-sign_at.ensures.value) (comes_then _ c.in_ok-interval.ensures.exact.comes (rw c.in-Some-sign_at-2.ensures.value (comes_now _)));
}

pub condense-returns-in_default-clause-exact : goal.condense-returns-in_default-clause-exact
unfolding condense
condense-returns-in_default-clause-exact t c = rw c.in_default.ensures.value (comes_now _)

pub condense-returns-in_default-word_at-clause-exact : goal.condense-returns-in_default-word_at-clause-exact
unfolding condense
condense-returns-in_default-word_at-clause-exact t c = rw (c.in-Some.ensures.value, c.in_default-word_at.ensures.value) (comes_now _)

pub condense-returns-in_err-iterators-clause-exact : goal.condense-returns-in_err-iterators-clause-exact
unfolding condense
condense-returns-in_err-iterators-clause-exact t c =
    let p = err_from_is_err_and c.from_residual.result c.from_residual.ensures.1 in
    rw (p.1, p.2) (fails_then c.in_err-iterators.field-0.0 c.in_err-iterators.ensures.exact (λ none. rw (c.in-Some.ensures.value, c.in-Some-word_at.ensures.value) (comes_then _ none (comes_now _))))

pub condense-returns-in_err-test-clause-exact : goal.condense-returns-in_err-test-clause-exact
unfolding condense
condense-returns-in_err-test-clause-exact t c =
    let p = err_from_is_err_and c.from_residual-in_err-test.result c.from_residual-in_err-test.ensures.1 in
    rw (p.1, p.2) (fails_then c.in_err-test.field-0.0 c.in_err-test.ensures.exact (λ none. rw (c.in-Some.ensures.value, c.in-Some-word_at.ensures.value) (comes_then _ c.in_ok-iterators.ensures.exact.comes (comes_then _ none (comes_now _)))))

pub condense-returns-in_default-word_at-2-clause-exact : goal.condense-returns-in_default-word_at-2-clause-exact
unfolding condense
condense-returns-in_default-word_at-2-clause-exact t c = rw (c.in-Some.ensures.value, c.in-Some-word_at.ensures.value) (comes_then _ c.in_ok-iterators.ensures.exact.comes (comes_then _ c.in_ok-test.ensures.exact.comes (rw c.in_default-word_at-2.ensures.value (comes_now _))))

pub condense-returns-in_err-body-clause-exact : goal.condense-returns-in_err-body-clause-exact
unfolding condense
condense-returns-in_err-body-clause-exact t c =
    let p = err_from_is_err_and c.from_residual-in_err-body.result c.from_residual-in_err-body.ensures.1 in
    rw (p.1, p.2) (fails_then c.in_err-body.field-0.0 c.in_err-body.ensures.exact (λ none. rw (c.in-Some.ensures.value, c.in-Some-word_at.ensures.value) (comes_then _ c.in_ok-iterators.ensures.exact.comes (comes_then _ c.in_ok-test.ensures.exact.comes (rw c.in-Some-word_at-2.ensures.value (comes_then _ none (comes_now _)))))))

pub condense-returns-clause-exact : goal.condense-returns-clause-exact
unfolding condense
condense-returns-clause-exact t c = record {
  whole = tree.condense c.in-Some.op (iters_from c.in_ok-iterators.ensures.exact.whole) c.in_ok-test.ensures.exact.whole c.in_ok-body.ensures.exact.whole;
  fit = c.in_ok-condense.ensures c.in_ok-iterators.ensures.exact.whole c.in_ok-iterators.ensures.exact.fit c.in_ok-test.ensures.exact.whole c.in_ok-body.ensures.exact.whole c.in_ok-test.ensures.exact.fit c.in_ok-body.ensures.exact.fit;
  comes = rw (c.in-Some.ensures.value, c.in-Some-word_at.ensures.value) (comes_then _ c.in_ok-iterators.ensures.exact.comes (comes_then _ c.in_ok-test.ensures.exact.comes (rw c.in-Some-word_at-2.ensures.value (comes_then _ c.in_ok-body.ensures.exact.comes (comes_now _)))));
}

pub coverage-returns-in_default-clause-exact : goal.coverage-returns-in_default-clause-exact
unfolding coverage
coverage-returns-in_default-clause-exact t c = rw c.in_default.ensures.value (comes_now _)

pub coverage-returns-in_default-word_at-clause-exact : goal.coverage-returns-in_default-word_at-clause-exact
unfolding coverage
coverage-returns-in_default-word_at-clause-exact t c = rw (c.in-Some.ensures.value, c.in_default-word_at.ensures.value) (comes_now _)

pub coverage-returns-in_err-iterators-clause-exact : goal.coverage-returns-in_err-iterators-clause-exact
unfolding coverage
coverage-returns-in_err-iterators-clause-exact t c =
    let p = err_from_is_err_and c.from_residual.result c.from_residual.ensures.1 in
    rw (p.1, p.2) (fails_then c.in_err-iterators.field-0.0 c.in_err-iterators.ensures.exact (λ none. rw (c.in-Some.ensures.value, c.in-Some-word_at.ensures.value) (comes_then _ none (comes_now _))))

pub coverage-returns-in_err-body-clause-exact : goal.coverage-returns-in_err-body-clause-exact
unfolding coverage
coverage-returns-in_err-body-clause-exact t c =
    let p = err_from_is_err_and c.from_residual-in_err-body.result c.from_residual-in_err-body.ensures.1 in
    rw (p.1, p.2) (fails_then c.in_err-body.field-0.0 c.in_err-body.ensures.exact (λ none. rw (c.in-Some.ensures.value, c.in-Some-word_at.ensures.value) (comes_then _ c.in_ok-iterators.ensures.exact.comes (rw c.in-Some-word_at-2.ensures.value (comes_then _ none (comes_now _))))))

pub coverage-returns-in-Some-word_at-2-clause-exact : goal.coverage-returns-in-Some-word_at-2-clause-exact
unfolding coverage
coverage-returns-in-Some-word_at-2-clause-exact t c = record {
  whole = tree.coverage (iters_from c.in_ok-iterators.ensures.exact.whole) c.in_ok-body.ensures.exact.whole;
  fit = c.in_ok-coverage.ensures c.in_ok-iterators.ensures.exact.whole c.in_ok-body.ensures.exact.whole c.in_ok-iterators.ensures.exact.fit c.in_ok-body.ensures.exact.fit;
  comes = rw (c.in-Some.ensures.value, c.in-Some-word_at.ensures.value) (comes_then _ c.in_ok-iterators.ensures.exact.comes (rw c.in-Some-word_at-2.ensures.value (comes_then _ c.in_ok-body.ensures.exact.comes (comes_now _))));
}

pub coverage-returns-in_err-items-clause-exact : goal.coverage-returns-in_err-items-clause-exact
unfolding coverage
coverage-returns-in_err-items-clause-exact t c =
    let p = err_from_is_err_and c.from_residual-in_err-items.result c.from_residual-in_err-items.ensures.1 in
    rw (p.1, p.2) (fails_then c.in_err-items.field-0.0 c.in_err-items.ensures.exact (λ none. rw (c.in-Some.ensures.value, c.in-Some-word_at.ensures.value) (comes_then _ c.in_ok-iterators.ensures.exact.comes (rw c.in_default-word_at-2.ensures.value (comes_then _ none (comes_now _))))))

pub coverage-returns-clause-exact : goal.coverage-returns-clause-exact
unfolding coverage
coverage-returns-clause-exact t c = record {
  whole = tree.value_list (iters_from c.in_ok-iterators.ensures.exact.whole) c.in_ok-items.items.items;
  fit = c.in_ok-value_list.ensures c.in_ok-iterators.ensures.exact.whole c.in_ok-iterators.ensures.exact.fit;
  comes = rw (c.in-Some.ensures.value, c.in-Some-word_at.ensures.value) (comes_then _ c.in_ok-iterators.ensures.exact.comes (rw c.in_default-word_at-2.ensures.value (comes_then _ c.in_ok-items.ensures.exact (comes_now _))));
}

pub condition-returns-in_default-clause-exact : goal.condition-returns-in_default-clause-exact
unfolding condition
condition-returns-in_default-clause-exact t c = record { whole = tree.always; fit = (refl, refl, omega arith); comes = rw c.in_default.ensures.value (comes_now _) }

pub condition-returns-in_err-test-clause-exact : goal.condition-returns-in_err-test-clause-exact
unfolding condition
condition-returns-in_err-test-clause-exact t c =
    let p = err_from_is_err_and c.from_residual.result c.from_residual.ensures.1 in
    rw (p.1, p.2) (fails_then c.in_err-test.field-0.0 c.in_err-test.ensures.exact (λ none. rw c.in-Some.ensures.value (comes_then _ none (comes_now _))))

pub condition-returns-clause-exact : goal.condition-returns-clause-exact
unfolding condition
condition-returns-clause-exact t c = record {
  whole = tree.only c.in_ok-test.ensures.exact.whole;
  fit = c.condition.ensures c.in_ok-test.ensures.exact.whole c.in_ok-test.ensures.exact.fit;
  comes = rw c.in-Some.ensures.value (comes_then _ c.in_ok-test.ensures.exact.comes (comes_now _));
}

pub place-returns-in-Some-clause-exact : goal.place-returns-in-Some-clause-exact
unfolding place
place-returns-in-Some-clause-exact t c = record { whole = tree.trim (view_interval c.in-Some.bounds); fit = (refl, sym c.in-Some.ensures.flat, omega arith); comes = rw c.in-Some.ensures.value (comes_now _) }

pub place-returns-in_err-interval-clause-exact : goal.place-returns-in_err-interval-clause-exact
unfolding place
place-returns-in_err-interval-clause-exact t c =
    let p = err_from_is_err_and c.from_residual.result c.from_residual.ensures.1 in
    rw (p.1, p.2) (fails_then c.in_err-interval.field-0.0 c.in_err-interval.ensures.exact (λ none. rw (c.in_default.ensures.value, c.in-Some-word_at.ensures.value) (comes_then _ none (comes_now _))))

pub place-returns-in-Some-word_at-clause-exact : goal.place-returns-in-Some-word_at-clause-exact
unfolding place
place-returns-in-Some-word_at-clause-exact t c = record {
  whole = tree.trim c.in_ok-interval.ensures.exact.whole;
  fit = c.trim.ensures c.in_ok-interval.ensures.exact.whole c.in_ok-interval.ensures.exact.fit;
  comes = rw (c.in_default.ensures.value, c.in-Some-word_at.ensures.value) (comes_then _ c.in_ok-interval.ensures.exact.comes (comes_now _));
}

pub place-returns-in_err-position-clause-exact : goal.place-returns-in_err-position-clause-exact
unfolding place
place-returns-in_err-position-clause-exact t c =
    let p = err_from_is_err_and c.from_residual-in_err-position.result c.from_residual-in_err-position.ensures.1 in
    rw (p.1, p.2) (fails_then c.in_err-position.field-0.0 c.in_err-position.ensures.exact (λ none. rw (c.in_default.ensures.value, c.in_default-word_at.ensures.value) (comes_then _ none (comes_now _))))

pub place-returns-clause-exact : goal.place-returns-clause-exact
unfolding place
place-returns-clause-exact t c = record {
  whole = tree.at c.in_ok-position.ensures.exact.whole;
  fit = c.at.ensures c.in_ok-position.ensures.exact.whole c.in_ok-position.ensures.exact.fit;
  comes = rw (c.in_default.ensures.value, c.in_default-word_at.ensures.value) (comes_then _ c.in_ok-position.ensures.exact.comes (comes_now _));
}

pub interval-returns-in-Some-clause-exact : goal.interval-returns-in-Some-clause-exact
unfolding interval
interval-returns-in-Some-clause-exact t c = record { whole = view_interval c.in-Some.bounds; fit = (refl, sym c.in-Some.ensures.flat, omega arith); comes = rw c.in-Some.ensures.value (comes_now _) }

pub interval-returns-in_default-word_at-clause-exact : goal.interval-returns-in_default-word_at-clause-exact
unfolding interval
interval-returns-in_default-word_at-clause-exact t c = rw (c.in_default.ensures.value, c.in_default-word_at.ensures.value) (comes_now _)

pub interval-returns-clause-exact : goal.interval-returns-clause-exact
unfolding interval
interval-returns-clause-exact t c = reads_then _ c.domain.result c.domain.ensures.exact (λ o h. rw (c.in_default.ensures.value, c.in-Some-word_at.ensures.value) h)

pub parts-returns-in_err-first-clause-exact : goal.parts-returns-in_err-first-clause-exact
unfolding parts
parts-returns-in_err-first-clause-exact t c =
    let p = err_from_is_err_and c.from_residual.result c.from_residual.ensures.1 in
    rw (p.1, p.2) (fails_then c.in_err-first.field-0.0 c.in_err-first.ensures.exact (λ none. separated_first signs.Semicolon (λ n. part_at (level n)) _ None None none (comes_now _)))

pub parts-loop-next-init : goal.parts-loop-next-init
unfolding parts
parts-loop-next-init t c =
    let first = c.in_ok-first.ensures.exact in
    record {
      going = record { tree = first.whole ∷ []; fit = c.in_ok-list.ensures [] first.whole (rw c.new.ensures.items refl, refl, omega arith) first.fit; whole = λ o h. separated_first signs.Semicolon (λ n. part_at (level n)) _ _ o first.comes h };
      shorter = search rules;
    }

pub parts-returns-in_err-one-clause-exact : goal.parts-returns-in_err-one-clause-exact
parts-returns-in_err-one-clause-exact t c =
    let p = err_from_is_err_and c.from_residual-in_err-one.result c.from_residual-in_err-one.ensures.1 in
    rw (p.1, p.2) (fails_then c.in_err-one.field-0.0 c.in_err-one.ensures.exact (λ none. c.loop-next.invariant.going.whole None (more_next signs.Semicolon (λ n. part_at (level n)) _ _ _ None None c.in-Some.ensures.value none (comes_now _))))

pub parts-loop-next-preserved : goal.parts-loop-next-preserved
parts-loop-next-preserved t c =
    let going = c.loop-next.invariant.going in
    let one = c.in_ok-one.ensures.exact in
    record {
      going = record { tree = going.tree ++ one.whole ∷ []; fit = c.in_ok-list-2.ensures going.tree one.whole going.fit one.fit; whole = λ o h. going.whole o (more_next signs.Semicolon (λ n. part_at (level n)) _ _ _ _ o c.in-Some.ensures.value one.comes h) };
      shorter = search rules;
    }

pub parts-returns-clause-exact : goal.parts-returns-clause-exact
parts-returns-clause-exact t c =
    let going = c.loop-next.invariant.going in
    record { whole = going.tree; fit = going.fit; comes = going.whole _ (more_end signs.Semicolon (λ n. part_at (level n)) _ _ c.in_default.ensures.value) }

pub subs-returns-in_err-first-clause-exact : goal.subs-returns-in_err-first-clause-exact
unfolding subs
subs-returns-in_err-first-clause-exact t c =
    let p = err_from_is_err_and c.from_residual.result c.from_residual.ensures.1 in
    rw (p.1, p.2) (fails_then c.in_err-first.field-0.0 c.in_err-first.ensures.exact (λ none. separated_first signs.Comma (λ n. sub_at (level n)) _ None None none (comes_now _)))

pub subs-loop-next-init : goal.subs-loop-next-init
unfolding subs
subs-loop-next-init t c =
    let first = c.in_ok-first.ensures.exact in
    record {
      going = record { tree = first.whole ∷ []; fit = c.in_ok-list.ensures [] first.whole (rw c.new.ensures.items refl, refl, omega arith) first.fit; whole = λ o h. separated_first signs.Comma (λ n. sub_at (level n)) _ _ o first.comes h };
      shorter = search rules;
    }

pub subs-returns-in_err-one-clause-exact : goal.subs-returns-in_err-one-clause-exact
subs-returns-in_err-one-clause-exact t c =
    let p = err_from_is_err_and c.from_residual-in_err-one.result c.from_residual-in_err-one.ensures.1 in
    rw (p.1, p.2) (fails_then c.in_err-one.field-0.0 c.in_err-one.ensures.exact (λ none. c.loop-next.invariant.going.whole None (more_next signs.Comma (λ n. sub_at (level n)) _ _ _ None None c.in-Some.ensures.value none (comes_now _))))

pub subs-loop-next-preserved : goal.subs-loop-next-preserved
subs-loop-next-preserved t c =
    let going = c.loop-next.invariant.going in
    let one = c.in_ok-one.ensures.exact in
    record {
      going = record { tree = going.tree ++ one.whole ∷ []; fit = c.in_ok-list-2.ensures going.tree one.whole going.fit one.fit; whole = λ o h. going.whole o (more_next signs.Comma (λ n. sub_at (level n)) _ _ _ _ o c.in-Some.ensures.value one.comes h) };
      shorter = search rules;
    }

pub subs-returns-clause-exact : goal.subs-returns-clause-exact
subs-returns-clause-exact t c =
    let going = c.loop-next.invariant.going in
    record { whole = going.tree; fit = going.fit; comes = going.whole _ (more_end signs.Comma (λ n. sub_at (level n)) _ _ c.in_default.ensures.value) }

pub iters-returns-in_err-first-clause-exact : goal.iters-returns-in_err-first-clause-exact
unfolding iters
iters-returns-in_err-first-clause-exact t c =
    let p = err_from_is_err_and c.from_residual.result c.from_residual.ensures.1 in
    rw (p.1, p.2) (fails_then c.in_err-first.field-0.0 c.in_err-first.ensures.exact (λ none. separated_first signs.Comma (λ n. iter_at (level n)) _ None None none (comes_now _)))

pub iters-loop-next-init : goal.iters-loop-next-init
unfolding iters
iters-loop-next-init t c =
    let first = c.in_ok-first.ensures.exact in
    record {
      going = record { tree = first.whole ∷ []; fit = c.in_ok-list.ensures [] first.whole (rw c.new.ensures.items refl, refl, omega arith) first.fit; whole = λ o h. separated_first signs.Comma (λ n. iter_at (level n)) _ _ o first.comes h };
      shorter = search rules;
    }

pub iters-returns-in_err-one-clause-exact : goal.iters-returns-in_err-one-clause-exact
iters-returns-in_err-one-clause-exact t c =
    let p = err_from_is_err_and c.from_residual-in_err-one.result c.from_residual-in_err-one.ensures.1 in
    rw (p.1, p.2) (fails_then c.in_err-one.field-0.0 c.in_err-one.ensures.exact (λ none. c.loop-next.invariant.going.whole None (more_next signs.Comma (λ n. iter_at (level n)) _ _ _ None None c.in-Some.ensures.value none (comes_now _))))

pub iters-loop-next-preserved : goal.iters-loop-next-preserved
iters-loop-next-preserved t c =
    let going = c.loop-next.invariant.going in
    let one = c.in_ok-one.ensures.exact in
    record {
      going = record { tree = going.tree ++ one.whole ∷ []; fit = c.in_ok-list-2.ensures going.tree one.whole going.fit one.fit; whole = λ o h. going.whole o (more_next signs.Comma (λ n. iter_at (level n)) _ _ _ _ o c.in-Some.ensures.value one.comes h) };
      shorter = search rules;
    }

pub iters-returns-clause-exact : goal.iters-returns-clause-exact
iters-returns-clause-exact t c =
    let going = c.loop-next.invariant.going in
    record { whole = going.tree; fit = going.fit; comes = going.whole _ (more_end signs.Comma (λ n. iter_at (level n)) _ _ c.in_default.ensures.value) }

pub level-returns-in_err-left-clause-exact : goal.level-returns-in_err-left-clause-exact
level-returns-in_err-left-clause-exact t c =
    let p = err_from_is_err_and c.from_residual.result c.from_residual.ensures.1 in
    rw (p.1, p.2) (fails_then c.in_err-left.field-0.0 c.in_err-left.ensures.exact (λ none. level_first _ _ None None none (comes_now _)))

pub level-loop-op-init : goal.level-loop-op-init
level-loop-op-init t c =
    let left = c.in_ok-left.ensures.exact in
    record { going = record { tree = left.whole; fit = left.fit; whole = λ o h. level_first _ _ _ o left.comes h }; shorter = search rules }

pub level-returns-in_err-right-clause-exact : goal.level-returns-in_err-right-clause-exact
level-returns-in_err-right-clause-exact t c =
    let p = err_from_is_err_and c.from_residual-in_err-right.result c.from_residual-in_err-right.ensures.1 in
    rw (p.1, p.2) (fails_then c.in_err-right.field-0.0 c.in_err-right.ensures.exact (λ none. c.loop-op.invariant.going.whole None (climb_next _ _ _ _ _ None None c.in-Some.ensures.value (subst (λ (k : ℕ). Comes (λ n m. level n (k - 1) (toks c.in-Some.after.now)) None) c.rank_of.ensures none) (comes_now _))))

pub level-loop-op-preserved : goal.level-loop-op-preserved
level-loop-op-preserved t c =
    let going = c.loop-op.invariant.going in
    let right = c.in_ok-right.ensures.exact in
    record {
      going = record {
        tree = tree.binary c.in-Some.op going.tree right.whole;
        fit = c.in_ok-left-2.ensures going.tree right.whole going.fit right.fit;
        whole = λ o h. going.whole o (climb_next _ _ _ _ _ _ o c.in-Some.ensures.value (subst (λ (k : ℕ). Comes (λ n m. level n (k - 1) (toks c.in-Some.after.now)) (Some (right.whole, toks c.in_ok-right.after.now))) c.rank_of.ensures right.comes) h);
      };
      shorter = search rules;
    }

pub level-returns-clause-exact : goal.level-returns-clause-exact
level-returns-clause-exact t c =
    let going = c.loop-op.invariant.going in
    record { whole = going.tree; fit = going.fit; comes = going.whole _ (climb_end _ _ _ c.in_default.ensures.value) }

pub operand-returns-in_err-inner-clause-exact : goal.operand-returns-in_err-inner-clause-exact
operand-returns-in_err-inner-clause-exact t c =
    let p = err_from_is_err_and c.from_residual-in_err-inner.result c.from_residual-in_err-inner.ensures.1 in
    rw (p.1, p.2) (fails_then c.in_err-inner.field-0.0 c.in_err-inner.ensures.exact (λ none. operand_under None c.in_ok-ops.ensures.exact none))

pub operand-returns-clause-exact : goal.operand-returns-clause-exact
operand-returns-clause-exact t c =
    let inner = c.in_ok-inner.ensures.exact in
    record { whole = wrapped c.in_ok-ops.ops.items inner.whole; fit = c.in_ok-prefixed.ensures inner.whole inner.fit; comes = operand_under _ c.in_ok-ops.ensures.exact inner.comes }

pub post-returns-in_err-whole-clause-exact : goal.post-returns-in_err-whole-clause-exact
post-returns-in_err-whole-clause-exact t c =
    let p = err_from_is_err_and c.from_residual.result c.from_residual.ensures.1 in
    rw (p.1, p.2) (fails_then c.in_err-whole.field-0.0 c.in_err-whole.ensures.exact (λ none. post_first _ None None none (comes_now _)))

pub post-loop-kind-init : goal.post-loop-kind-init
post-loop-kind-init t c =
    let whole = c.in_ok-whole.ensures.exact in
    record { going = record { tree = whole.whole; fit = whole.fit; whole = λ o h. post_first _ _ o whole.comes h }; shorter = search rules }

pub post-returns-in_err-next-clause-exact : goal.post-returns-in_err-next-clause-exact
post-returns-in_err-next-clause-exact t c =
    let going = c.loop-kind.invariant.going in
    let p = err_from_is_err_and c.from_residual-in_err-next.result c.from_residual-in_err-next.ensures.1 in
    rw (p.1, p.2) (fails_then c.in_err-next.field-0.0 (c.in_err-next.ensures.exact going.tree going.fit) (λ none. going.whole None (behind_next _ _ _ _ None None c.in-Some.ensures.value none (comes_now _))))

pub post-loop-kind-preserved : goal.post-loop-kind-preserved
post-loop-kind-preserved t c =
    let going = c.loop-kind.invariant.going in
    let next = c.in_ok-next.ensures.exact going.tree going.fit in
    record { going = record { tree = next.whole; fit = next.fit; whole = λ o h. going.whole o (behind_next _ _ _ _ _ o c.in-Some.ensures.value next.comes h) }; shorter = search rules }

pub post-returns-clause-exact : goal.post-returns-clause-exact
post-returns-clause-exact t c =
    let going = c.loop-kind.invariant.going in
    record { whole = going.tree; fit = going.fit; comes = going.whole _ (behind_end _ _ c.in_default.ensures.value) }

pub postfix-returns-in_default-clause-exact : goal.postfix-returns-in_default-clause-exact
postfix-returns-in_default-clause-exact t c = λ e fit. postfix_no_field _ e _ c.in-Field.is c.in_default.ensures.value

pub postfix-returns-in_err-list-in-Brackets-clause-exact : goal.postfix-returns-in_err-list-in-Brackets-clause-exact
postfix-returns-in_err-list-in-Brackets-clause-exact t c =
    let p = err_from_is_err_and c.from_residual-in_err-list-in-Brackets.result c.from_residual-in_err-list-in-Brackets.ensures.1 in
    λ e fit. rw (p.1, p.2) (fails_then c.in_err-list-in-Brackets.field-0.0 c.in_err-list-in-Brackets.ensures.exact (λ none. postfix_subs _ e _ None None c.in-Brackets.is none refl))

pub postfix-returns-in_default-sign_at-clause-exact : goal.postfix-returns-in_default-sign_at-clause-exact
postfix-returns-in_default-sign_at-clause-exact t c = λ e fit. postfix_subs _ e _ _ None c.in-Brackets.is c.in_ok-list-in-Brackets.ensures.exact.comes (rw c.in_default-sign_at.ensures.value refl)

pub postfix-returns-in_ok-field-in-Field-clause-exact : goal.postfix-returns-in_ok-field-in-Field-clause-exact
postfix-returns-in_ok-field-in-Field-clause-exact t c = λ e fit. record { whole = tree.field e c.in-Some.name.now; fit = c.in_ok-field-in-Field.ensures e fit; comes = postfix_field _ e _ _ _ c.in-Field.is c.in-Some.ensures.value }

pub postfix-returns-in_ok-brackets-in-Brackets-clause-exact : goal.postfix-returns-in_ok-brackets-in-Brackets-clause-exact
postfix-returns-in_ok-brackets-in-Brackets-clause-exact t c =
    let list = c.in_ok-list-in-Brackets.ensures.exact in
    λ e fit. record { whole = tree.brackets e (subs_from list.whole); fit = c.in_ok-brackets-in-Brackets.ensures e list.whole fit list.fit; comes = postfix_subs _ e _ _ _ c.in-Brackets.is list.comes (rw c.in-Some-sign_at.ensures.value refl) }

pub prim-returns-in_default-clause-exact : goal.prim-returns-in_default-clause-exact
prim-returns-in_default-clause-exact t c = prim_none _ c.in_default.ensures.value

pub prim-returns-in_ok-leaf-in-Number-clause-exact : goal.prim-returns-in_ok-leaf-in-Number-clause-exact
unfolding begun
prim-returns-in_ok-leaf-in-Number-clause-exact t c = record { whole = tree.number c.in-Number.literal.value; fit = c.in_ok-leaf-in-Number.ensures (tree.number c.in-Number.literal.value) refl refl; comes = prim_by _ _ _ (with_number c.in-Number.literal.value) _ c.in-Some.ensures.value (ap begin_of c.in-Number.is) (comes_now _) }

pub prim-returns-in_ok-leaf-in-Truth-clause-exact : goal.prim-returns-in_ok-leaf-in-Truth-clause-exact
unfolding begun
prim-returns-in_ok-leaf-in-Truth-clause-exact t c = record { whole = tree.truth c.in-Truth.truth; fit = c.in_ok-leaf-in-Truth.ensures (tree.truth c.in-Truth.truth) refl refl; comes = prim_by _ _ _ (with_truth c.in-Truth.truth) _ c.in-Some.ensures.value (ap begin_of c.in-Truth.is) (comes_now _) }

pub prim-returns-in_ok-leaf-in-Variable-clause-exact : goal.prim-returns-in_ok-leaf-in-Variable-clause-exact
unfolding begun
prim-returns-in_ok-leaf-in-Variable-clause-exact t c = record { whole = tree.variable c.in-Variable.name.now; fit = c.in_ok-leaf-in-Variable.ensures (tree.variable c.in-Variable.name.now) (ap tree.variable c.in_ok-name-in-Variable.ensures) refl; comes = prim_by _ _ _ (with_variable c.in-Variable.name.now) _ c.in-Some.ensures.value (ap begin_of c.in-Variable.is) (comes_now _) }

pub prim-returns-in-Paren-clause-exact : goal.prim-returns-in-Paren-clause-exact
unfolding begun
prim-returns-in-Paren-clause-exact t c = reads_then _ c.enclosed.result c.enclosed.ensures.exact (λ o h. prim_by _ _ _ with_paren o c.in-Some.ensures.value (ap begin_of c.in-Paren.is) h)

pub prim-returns-in-Brace-clause-exact : goal.prim-returns-in-Brace-clause-exact
unfolding begun
prim-returns-in-Brace-clause-exact t c = reads_then _ c.record.result c.record.ensures.exact (λ o h. prim_by _ _ _ with_brace o c.in-Some.ensures.value (ap begin_of c.in-Brace.is) h)

pub prim-returns-in-Bit-clause-exact : goal.prim-returns-in-Bit-clause-exact
unfolding begun
prim-returns-in-Bit-clause-exact t c = reads_then _ c.bit.result c.bit.ensures.exact (λ o h. prim_by _ _ _ with_bit o c.in-Some.ensures.value (ap begin_of c.in-Bit.is) h)

pub prim-returns-in-Coverage-clause-exact : goal.prim-returns-in-Coverage-clause-exact
unfolding begun
prim-returns-in-Coverage-clause-exact t c = reads_then _ c.coverage.result c.coverage.ensures.exact (λ o h. prim_by _ _ _ with_coverage o c.in-Some.ensures.value (ap begin_of c.in-Coverage.is) h)

pub prim-returns-in-Condense-clause-exact : goal.prim-returns-in-Condense-clause-exact
unfolding begun
prim-returns-in-Condense-clause-exact t c = reads_then _ c.condense.result c.condense.ensures.exact (λ o h. prim_by _ _ _ with_condense o c.in-Some.ensures.value (ap begin_of c.in-Condense.is) h)

pub prim-returns-in-Abs-clause-exact : goal.prim-returns-in-Abs-clause-exact
prim-returns-in-Abs-clause-exact t c = reads_then _ c.absolute.result c.absolute.ensures.exact (λ o h. prim_by _ _ _ with_abs o c.in-Some.ensures.value (ap begin_of c.in-Abs.is) h)

pub absolute-returns-in_err-value-clause-exact : goal.absolute-returns-in_err-value-clause-exact
unfolding begun
absolute-returns-in_err-value-clause-exact t c =
    let p = err_from_is_err_and c.from_residual.result c.from_residual.ensures.1 in
    rw (p.1, p.2) (fails_then c.in_err-value.field-0.0 c.in_err-value.ensures.exact (λ none. comes_then _ none (comes_now _)))

pub absolute-returns-clause-exact : goal.absolute-returns-clause-exact
unfolding begun
absolute-returns-clause-exact t c =
    let value = c.in_ok-value.ensures.exact in
    record { whole = tree.unary unaries.Absolute value.whole; fit = c.in_ok-unary.ensures value.whole value.fit; comes = comes_then _ value.comes (comes_now _) }

pub prim-returns-in-Reduce-clause-exact : goal.prim-returns-in-Reduce-clause-exact
prim-returns-in-Reduce-clause-exact t c = reads_then _ c.reduced.result c.reduced.ensures.exact (λ o h. prim_by _ _ _ (with_reduce c.in-Reduce.op) o c.in-Some.ensures.value (ap begin_of c.in-Reduce.is) h)

pub reduced-returns-in_err-value-clause-exact : goal.reduced-returns-in_err-value-clause-exact
unfolding begun
reduced-returns-in_err-value-clause-exact t c =
    let p = err_from_is_err_and c.from_residual.result c.from_residual.ensures.1 in
    rw (p.1, p.2) (fails_then c.in_err-value.field-0.0 c.in_err-value.ensures.exact (λ none. comes_then _ none (comes_now _)))

pub reduced-returns-clause-exact : goal.reduced-returns-clause-exact
unfolding begun
reduced-returns-clause-exact t c =
    let value = c.in_ok-value.ensures.exact in
    record { whole = tree.reduce c.args.op value.whole; fit = c.in_ok-reduce.ensures value.whole value.fit; comes = comes_then _ value.comes (comes_now _) }
