-- Each outcome counts once.
use Rattle.std.proofs.Common.{◌∙◌, ap, sym, subst, arith, length}
use Rattle.tile_kernel.specs.declared.form.Form.{Form}
use Rattle.tile_kernel.specs.Columns.{seen}
use Rattle.tile_kernel.specs.Standing.{StandsAnywhere}
use Rattle.tile_kernel.proofs.Tellings.{each_anywhere, once_each}
use Rattle.tile_kernel.proofs.folds.condense_each.Goals as goal

pub condense_view-requires : goal.condense_view-requires
condense_view-requires c = record { places = omega (arith, c.len.ensures.places); few = omega (arith, once_each (length c.args.view.now), c.len.ensures) }

pub returns-clause-stands : goal.returns-clause-stands
returns-clause-stands c = each_anywhere c.condense_view.result c.args.view.now c.condense_view.ensures.stands

pub returns-in-Narrow-clause-stands : goal.returns-in-Narrow-clause-stands
returns-in-Narrow-clause-stands c =
    let view = c.view.inside in
    subst (StandsAnywhere c.condense_values_narrow.result) (ap (λ (f : Form). seen f view.len view.values.now view.faults.now view.narrow.now) (sym c.in-Narrow.is) ∙ c.view.view_is) c.condense_values_narrow.ensures.stands
