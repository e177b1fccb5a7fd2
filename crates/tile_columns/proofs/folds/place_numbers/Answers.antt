-- One more number, and all of them.
use Rattle.std.proofs.Common.{◌≡◌, ℕ, ◌+◌, ◌<◌, ◌∙◌, ◌++◌, ◌∷◌, [], List, ap, sym, arith, length, take, get_or, ℤ, pos, SFits, w32, rules}
use Rattle.std.proofs.lemmas.Int.{to_z-of_z}
use Rattle.std.proofs.lemmas.List.{take_more}
use Rattle.wcps_mean.proofs.Stacks.{take-whole}
use Rattle.tile_columns.proofs.folds.place_numbers.Goals as goal

number_pushed : (all : List ℤ) (k : ℕ) (o z : ℤ) (old new : List ℤ) → k < length all → new ≡ old ++ o ∷ [] → o ≡ z → z ≡ get_or all k (pos 0) → old ≡ take k all → new ≡ take (k + 1) all
number_pushed all k o z old new lt n e v h = n ∙ ap (λ l. l ++ o ∷ []) h ∙ ap (λ y. take k all ++ y ∷ []) (e ∙ v) ∙ sym (take_more all k (pos 0) lt)

pub loop-k-preserved : goal.loop-k-preserved
loop-k-preserved c =
    let all = get_or c.args.frame.now c.args.place [] in
    let deep = c.depth-k-end.ensures c.args.place [] c.requires in
    let fits : SFits w32 c.number.result = search rules in
    number_pushed all c.loop-k.k _ c.number.result c.loop-k.numbers.items c.push.new.self.items (omega (arith, deep, c.loop-k-test.true)) c.in_ok-push.ensures.items (to_z-of_z w32 c.number.result fits) c.number.ensures c.loop-k.invariant

pub returns : goal.returns
returns c =
    let all = get_or c.args.frame.now c.args.place [] in
    let deep = c.depth-k-end.ensures c.args.place [] c.requires in
    c.loop-k.invariant ∙ take-whole c.loop-k.k all (omega (arith, deep, c.loop-k-test.false))
