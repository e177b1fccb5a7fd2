-- One outcome at all places stands as often as the counts say.
use Rattle.std.proofs.Common.{◌≡◌, ◌∙◌, sym, ap, length}
use Rattle.std.specs.Prelude.{replicate, sum}
use Rattle.std.proofs.lemmas.List.{length-replicate}
use Rattle.tile_kernel.specs.declared.form.Form.{Form}
use Rattle.tile_kernel.specs.Columns.{seen}
use Rattle.tile_kernel.proofs.Places.{places_are}
use Rattle.tile_kernel.proofs.Repeats.{repeated-same}
use Rattle.tile_kernel.proofs.paired.same_over.Goals as goal

pub returns-in-Same : goal.returns-in-Same
returns-in-Same c =
    let ns = c.args.runs.now.counts.now in
    let n = c.view.inside.len in
    let o = c.in-Same.o in
    let places : n ≡ sum ns = places_are _ _ _ _ _ _ c.view.view_is c.view.invariant ∙ c.requires ∙ sym c.args.runs.now.total in
    record {
      even = length-replicate (length ns) o;
      same = sym c.view.view_is ∙ ap (λ (f : Form). seen f n c.view.inside.values.now c.view.inside.faults.now c.view.inside.narrow.now) c.in-Same.is ∙ ap (λ k. replicate k o) places
          ∙ sym (repeated-same o ns);
    }
