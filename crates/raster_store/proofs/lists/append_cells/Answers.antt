-- One run more was written, and in the end all of them.
use Rattle.std.proofs.Common.{◌≡◌, ◌++◌, ◌+◌, ◌<◌, ◌∙◌, ℤ, pos, List, length, replicate, get_or, min, sym, ap, arith, rules, append-nil, SFits, w64, to_z, of_z, to_z-of_z, take, ◌-◌}
use Rattle.std.proofs.lemmas.Grind.{common_steps}
use Rattle.std.proofs.lemmas.List.{get_or_read}
use Rattle.arr_core.specs.Runs.{cells_of}
use Rattle.raster_store.proofs.Spreads.{written-more, spread-end, grown}
use Rattle.raster_store.proofs.lists.append_cells.Goals as goal

pub loop-place-preserved : goal.loop-place-preserved
loop-place-preserved c =
    let values = c.args.runs.now.values.items in
    let counts = c.args.runs.now.counts.items in
    let place = c.loop-place.place in
    let cells = c.loop-place.cells.items in
    let value = get_or values place (pos 0) in
    let count = get_or counts place 0 in
    let in_values : place < length values = search rules in
    let in_counts : place < length counts = search rules in
    let fits : SFits w64 c.index-in-loop-place.result.now = search rules in
    let there : c.index-in-loop-place.result.now ≡ value = get_or_read values _ _ in_values c.index-in-loop-place.ensures (pos 0) in
    let counted : c.index.result.now ≡ count = get_or_read counts _ _ in_counts c.index.ensures 0 in
    let sized : c.len-in-loop-place.result ≡ length cells = search rules in
    let end = c.len-in-loop-place.result + c.index.result.now in
    let is : c.resize.new.self.items ≡ take end cells ++ replicate (end - length cells) (to_z w64 (of_z w64 c.index-in-loop-place.result.now)) = first_of (search rules, grind (arith, common_steps)) in
    let more : c.resize.new.self.items ≡ cells ++ replicate count value = grown cells c.resize.new.self.items end count (to_z w64 (of_z w64 c.index-in-loop-place.result.now)) value is (omega (arith, sized, counted)) (to_z-of_z fits ∙ there) in
    written-more (c.args.cells.now.items ++ cells_of c.args.runs.now) c.resize.new.self.items cells values counts place in_values in_counts c.loop-place.invariant more

pub returns : goal.returns
returns c =
    let values = c.args.runs.now.values.items in
    let counts = c.args.runs.now.counts.items in
    let cells = c.loop-place.cells.items in
    let all : c.loop-place.place ≡ min (length values) (length counts) = search rules in
    sym (append-nil cells) ∙ ap (λ (l : List ℤ). cells ++ l) (sym (spread-end values counts c.loop-place.place all)) ∙ c.loop-place.invariant
