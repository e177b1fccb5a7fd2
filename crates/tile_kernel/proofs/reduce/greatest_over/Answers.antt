-- With one more place the best is the greatest of the values that count, or the lowest number if none does.
use Rattle.std.proofs.Common.{◌≡◌, ◌+◌, ◌∙◌, ap, sym, subst, rules, SFits, w64, to_z, of_z, cond, nat_lt, negsuc}
use Rattle.std.proofs.lemmas.Int.{to_z-of_z}
use Rattle.wcps_mean.specs.Condensers.{larger}
use Rattle.tile_kernel.specs.Selected.{selected}
use Rattle.tile_kernel.proofs.Reductions.{IsTop, top_next}
use Rattle.tile_kernel.proofs.reduce.greatest_over.Goals as goal

pub loop-place-preserved : goal.loop-place-preserved
loop-place-preserved g c =
    let n = g.C.Choice.times c.args.choice.now in
    let v = g.V.Operand.value c.args.values.now in
    let k = c.loop-place.place in
    let t = to_z w64 c.loop-place.best-bits in
    let fits : SFits w64 c.larger_if-best.result = search rules in
    let cell : SFits w64 c.value.result = search rules in
    let there : SFits w64 (v k) = subst (SFits w64) c.value.ensures cell in
    let best : to_z w64 (of_z w64 c.larger_if-best.result) ≡ cond (nat_lt 0 (n k)) (larger t (v k)) t =
    to_z-of_z w64 c.larger_if-best.result fits ∙ c.larger_if-best.ensures ∙ ap (λ m. cond (nat_lt 0 m) (larger t (to_z w64 (of_z w64 c.value.result))) t) c.times.ensures
    ∙ ap (λ x. cond (nat_lt 0 (n k)) (larger t x) t) (to_z-of_z w64 c.value.result cell ∙ c.value.ensures) in
    subst (IsTop (negsuc 9223372036854775807) (selected n v (k + 1))) (sym best) (top_next n v k t there c.loop-place.invariant)
