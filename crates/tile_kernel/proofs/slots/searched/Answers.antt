-- A number among rising ones has one place; what a search misses has none.
use Rattle.std.proofs.Common.{◌≡◌, ◌∙◌, ℤ, pos, sym, ap, subst, Err, Equal, int_cmp, to_z-of_z}
use Rattle.std.specs.List.Sorted.{IsBinarySearchResult}
use Rattle.std.proofs.lemmas.Cmp.{int_ranked}
use Rattle.tile_kernel.specs.Keyed.{number_at}
use Rattle.tile_kernel.proofs.Rising.{found, missed}
use Rattle.tile_kernel.proofs.slots.searched.Goals as goal

pub returns-in-Ok-clause-place : goal.returns-in-Ok-clause-place
returns-in-Ok-clause-place c =
    let here = number_at c.args.numbers.now c.in-Ok.k in
    let same : Equal ≡ int_cmp here c.args.z = sym (c.in-Ok.ensures.ok (pos 0)) ∙ ap (int_cmp here) (to_z-of_z c.ranges.z) in
    found c.args.numbers.now c.args.z c.in-Ok.k c.requires c.in-Ok.ensures.bound (int_ranked here c.args.z Equal same)

pub returns-in-Err-clause-place : goal.returns-in-Err-clause-place
returns-in-Err-clause-place c =
    missed c.args.numbers.now c.args.z c.in-Err.field-0 c.requires
    (subst (λ (z : ℤ). IsBinarySearchResult (λ y. int_cmp y z) c.args.numbers.now (Err c.in-Err.field-0)) (to_z-of_z c.ranges.z) c.in-Err.ensures.position)
