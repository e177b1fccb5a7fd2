-- The values become those of the runs, in lists that have all the room that a column can use.
use Rattle.std.proofs.Common.{◌≡◌, ◌∙◌, ℕ, List, length, take, take_all, sym, ap, subst, arith, rules}
use Rattle.tile_kernel.specs.declared.form.Form.{Form}
use Rattle.tile_kernel.specs.Columns.{HasNarrow}
use Rattle.std.specs.Prelude.{sum}
use Rattle.tile_kernel.proofs.Repeats.{length-column}
use Rattle.tile_kernel.proofs.column.Column.repeat.Goals as goal

pub invariant_of-self-in-Values : goal.invariant_of-self-in-Values
invariant_of-self-in-Values c =
    let kept = c.self.invariant in
    let counts = c.args.counts.now in
    let same : c.copy_counts.new.all.items ≡ counts = search rules in
    let places = length-column c.self.inside.runs c.self.inside.form c.self.inside.len c.self.inside.values c.self.inside.faults c.self.inside.narrow.items c.self.inside.counts.items kept in
    let few : length counts ≡ c.self.inside.len = c.requires.even ∙ sym (ap length c.self.view_is) ∙ places in
    let values = c.grow.ensures in
    let faults = c.grow-in-Values.ensures in
    record {
      roomy = record { few = c.requires.few; values = omega (arith, values.long, c.requires.few); faults = omega (arith, faults.long, c.requires.few); narrow = subst (λ (f : Form). HasNarrow f c.args.len c.self.inside.narrow.items) (sym c.in-Values.is) tt };
      covered = (
        omega (arith, few, kept.roomy.few),
        omega (arith, ap length same),
        ap (λ (ns : List ℕ). sum (take (length counts) ns)) same ∙ ap sum (take_all (length counts) counts (omega arith)) ∙ c.requires.total,
      );
      whole = (omega (arith, values.long, kept.few_values), omega (arith, faults.long));
      few_values = omega (arith, values.long, kept.few_values);
      value_room = omega (arith, values.room, kept.value_room);
      fault_room = omega (arith, faults.room, kept.fault_room);
    }
