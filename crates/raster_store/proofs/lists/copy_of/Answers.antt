-- The values that have counts were copied, and the counts.
use Rattle.std.proofs.Common.{◌≡◌, ◌<◌, ◌∙◌, length, take, min, sym, ap, ap₂, rules}
use Rattle.arr_core.specs.Runs.{runs_of, cells_of}
use Rattle.raster_store.proofs.Spreads.{runs-take, wide-cells}
use Rattle.raster_store.proofs.lists.copy_of.Goals as goal

pub returns : goal.returns
returns c =
    let values = c.args.runs.now.values.items in
    let counts = c.args.runs.now.counts.items in
    let used = c.min-used.result in
    let some : 0 < length counts = search rules in
    let all : used ≡ min (length values) (length counts) = search rules in
    let front : c.extend_from_slice.new.self.items ≡ take used values = search rules in
    let same : c.extend_from_slice-2.new.self.items ≡ counts = search rules in
    ap cells_of c.of.ensures ∙ ap₂ runs_of front same ∙ runs-take used values counts some all ∙ sym (wide-cells c.args.runs.now c.if-runs.false)
