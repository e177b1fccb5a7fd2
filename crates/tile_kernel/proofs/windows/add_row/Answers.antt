-- One more summary of the row stands behind those before, and in the end all of its spans.
use Rattle.std.proofs.Common.{◌≡◌, ◌+◌, ◌*◌, ◌<◌, arith, subst, length}
use Rattle.std.proofs.lemmas.List.{get_or_default}
use Rattle.tile_kernel.specs.Windows.{cells_across, KeepsAcross}
use Rattle.tile_kernel.proofs.Spans.{next_kept}
use Rattle.tile_kernel.proofs.windows.add_row.Goals as goal

pub loop-place-init : goal.loop-place-init
loop-place-init g c =
    let none : c.args.row * length c.args.across.now ≡ c.args.row * length c.args.across.now + 0 = omega arith in
    subst (λ n. KeepsAcross g.S.Summary.keeps g.S.Summary.counted c.args.grid.now c.args.across.now n c.args.kept.now) none c.requires.before

pub loop-place-preserved : goal.loop-place-preserved
loop-place-preserved g c =
    let place = c.loop-place.place in
    let within : place < length c.args.across.now = omega arith in
    let room : c.args.row * length c.args.across.now + place < length c.loop-place.kept = omega arith in
    next_kept g.S.Summary.keeps g.S.Summary.counted c.args.grid.now c.args.across.now c.args.row place c.loop-place.kept c.summary_across.result within room
    (λ e. subst (λ a. g.S.Summary.keeps c.summary_across.result (cells_across c.args.grid.now a c.args.row)) (get_or_default c.args.across.now place _ e within) c.summary_across.ensures.kept)
    c.summary_across.ensures.few c.loop-place.invariant

pub returns : goal.returns
returns g c =
    let end : c.args.row * length c.args.across.now + c.loop-place.place ≡ (c.args.row + 1) * length c.args.across.now = omega arith in
    subst (λ n. KeepsAcross g.S.Summary.keeps g.S.Summary.counted c.args.grid.now c.args.across.now n c.loop-place.kept) end c.loop-place.invariant
