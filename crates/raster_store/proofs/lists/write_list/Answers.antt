-- The first values and all counts were written.
use Rattle.std.proofs.Common.{◌≡◌, ◌<◌, ◌∙◌, sym, ap, length, take, rules}
use Rattle.raster_store.proofs.Spreads.{kept-front, runs-same, wide-cells}
use Rattle.raster_store.proofs.lists.write_list.Goals as goal

pub returns-clause-cells : goal.returns-clause-cells
returns-clause-cells c = λ _.
    let counts = c.args.from.now.counts.items in
    let some : 0 < length counts = search rules in
    let used : c.len-used.result ≡ length counts = search rules in
    let same : c.extend_from_slice.new.self.items ≡ counts = search rules in
    let front : take c.len-used.result c.copy_front.new.to ≡ take c.len-used.result c.args.from.now.values.items = c.copy_front.ensures ∙ ap (take c.len-used.result) c.deref-3.ensures.value in
    runs-same c.len-used.result _ c.args.from.now.values.items counts c.extend_from_slice.new.self.items (kept-front c.len-used.result _ c.copy_front.new.to c.args.runs.now.values.items c.args.from.now.values.items front (search rules)) same used some ∙ sym (wide-cells c.args.from.now c.if-from.false)
