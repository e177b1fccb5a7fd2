-- Each number has its place in the table, and no number has one that it does not have.
use Rattle.std.proofs.Common.{◌≡◌, ◌∙◌, ◌+◌, ◌<◌, ◌+ℤ◌, ℕ, ℤ, pos, length, length-set, set, take, take_all, sym, ap, subst, arith, SFits, rules, w64, to_z-of_z}
use Rattle.std.proofs.lemmas.Int.{ints}
use Rattle.std.proofs.lemmas.Grind.{common_steps}
use Rattle.tile_kernel.specs.Keyed.{number_at, IsTable}
use Rattle.tile_kernel.proofs.Rising.{table_next}
use Rattle.tile_kernel.proofs.slots.table_of.Goals as goal

pub loop-k-preserved : goal.loop-k-preserved
loop-k-preserved c =
    let k = c.loop-k.k in
    let i = c.steps-i.result in
    let table = c.loop-k.table.items in
    let numbers = c.args.numbers.now in
    let fz : SFits w64 (number_at numbers k) = search rules in
    let low = to_z-of_z c.ranges.low in
    let at : number_at numbers k ≡ c.args.low +ℤ pos i = sym (to_z-of_z fz) ∙ c.steps-i.ensures ∙ ap (λ (x : ℤ). x +ℤ pos i) low in
    let near = c.requires.near k c.loop-k-test.true in
    let long = c.loop-k.invariant.0 in
    let within : i < length table = omega (arith, ints, at, near.0, near.1, long) in
    let before = subst (λ (x : ℤ). IsTable x table (take k numbers)) low c.loop-k.invariant.1 in (
      omega (arith, length-set {A = ℕ}, long),
      subst (λ (x : ℤ). IsTable x (set table i (k + 1)) (take (k + 1) numbers)) (sym low) (table_next c.args.low table numbers k i c.requires.rising c.loop-k-test.true before within at),
    )

pub returns : goal.returns
returns c =
    subst (IsTable c.args.low c.loop-k.table.items) (take_all c.loop-k.k c.args.numbers.now (omega arith))
    (subst (λ (x : ℤ). IsTable x c.loop-k.table.items (take c.loop-k.k c.args.numbers.now)) (to_z-of_z c.ranges.low) c.loop-k.invariant.1)

pub loop-k-init : goal.loop-k-init
loop-k-init c = grind (arith, common_steps)
