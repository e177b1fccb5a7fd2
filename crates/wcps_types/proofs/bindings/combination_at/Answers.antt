-- Each variable stands for the one of its coverages that the number of the combination chooses.
use Rattle.std.proofs.Common.{◌≡◌, ◌+◌, ◌/◌, ◌%◌, ◌∷◌, ◌++◌, length, drop, map, [], arith, ap, sym, ◌∙◌, append_assoc, rules}
use Rattle.std.specs.Prelude.{slice_index}
use Rattle.std.proofs.lemmas.List.{get_or_read}
use Rattle.std.proofs.lemmas.Grind.{common_steps}
use Rattle.wcps_types.specs.Bindings.{choice_view, combination_at, bound_to}
use Rattle.wcps_types.proofs.Choices.{step}
use Rattle.wcps_types.proofs.bindings.combination_at.Goals as goal

pub index-coverage-requires : goal.index-coverage-requires
index-coverage-requires c =
    let x = c.choice-item.result in
    let len : c.len.result ≡ length x.coverages.items = omega (arith, x.coverages.ok, c.len.ensures) in
    let inv = c.loop-choice.invariant in
    let s = step c.args.choices.now c.loop-choice.choice-index x c.loop-choice.rest (c.loop-choice.rest / c.len.result) c.loop-choice.number c.loop-choice-test.true c.choice-item.is inv.counted inv.inside (ap (λ n. c.loop-choice.rest / n) len) in
    omega (arith, s.within, x.coverages.ok)

pub loop-choice-preserved : goal.loop-choice-preserved
loop-choice-preserved c =
    let x = c.choice-item.result in
    let len : c.len.result ≡ length x.coverages.items = omega (arith, x.coverages.ok, c.len.ensures) in
    let inv = c.loop-choice.invariant in
    let rest = c.loop-choice.rest / c.len.result in
    let s = step c.args.choices.now c.loop-choice.choice-index x c.loop-choice.rest rest c.loop-choice.number c.loop-choice-test.true c.choice-item.is inv.counted inv.inside (ap (λ n. c.loop-choice.rest / n) len) in
    let place : c.index-coverage.result.now ≡ slice_index x.coverages.items (c.loop-choice.number / rest) = get_or_read x.coverages.items _ _ s.within c.index-coverage.ensures 0 in
    let more = combination_at (map choice_view (drop (c.loop-choice.choice-index + 1) c.args.choices.now)) (c.loop-choice.number % rest) in
    let name : c.in_ok-variable.variable ≡ x.variable = search rules in
    let put : c.push.new.self.items ≡ c.loop-choice.bound.items ++ bound_to c.in_ok-variable.variable c.index-coverage.result.now ∷ [] = search rules in
    let pushed : c.push.new.self.items ≡ c.loop-choice.bound.items ++ bound_to x.variable (slice_index x.coverages.items (c.loop-choice.number / rest)) ∷ [] = put ∙ ap (λ n. c.loop-choice.bound.items ++ bound_to n c.index-coverage.result.now ∷ []) name ∙ ap (λ k. c.loop-choice.bound.items ++ bound_to x.variable k ∷ []) place in
    let here = bound_to x.variable (slice_index x.coverages.items (c.loop-choice.number / rest)) in
    let assoc : (c.loop-choice.bound.items ++ here ∷ []) ++ more ≡ c.loop-choice.bound.items ++ here ∷ more = simp append_assoc in
    record {
      counted = s.left;
      inside = s.inside;
      chosen = ap (λ items. items ++ more) pushed ∙ assoc ∙ ap (λ rest. c.loop-choice.bound.items ++ rest) (sym s.made) ∙ inv.chosen;
    }

pub nonzero_div-rest : goal.nonzero_div-rest
nonzero_div-rest c = grind (arith, common_steps)

pub nonzero_div-number : goal.nonzero_div-number
nonzero_div-number c = grind (arith, common_steps)

pub returns : goal.returns
returns c = grind (arith, common_steps)
