-- The work of a combination is what the maker of its tree tells.
use Rattle.std.proofs.Common.{rules, ◌≡◌, ap, sym, ◌∙◌}
use Rattle.std.specs.Prelude.{slice_get, Some, None}
use Rattle.std.proofs.lemmas.Option.{slice_get_read, slice_get_past}
use Rattle.wcps_types.proofs.SharedEfforts.{work_told, told_work}
use Rattle.wcps_types.proofs.effort.combination_work.Goals as goal

pub returns-in-None : goal.returns-in-None
returns-in-None c trees counted =
    let x = c.args.combination.now in
    let none : slice_get c.args.makers.now x.tree ≡ None = search (rules, slice_get_past) in
    sym (ap work_told none) ∙ told_work trees c.args.makers.now x.coverages.items x.tree counted

pub returns-in-Some : goal.returns-in-Some
returns-in-Some c trees counted =
    let x = c.args.combination.now in
    let got : slice_get c.args.makers.now x.tree ≡ Some c.in-Some.maker.now = search (rules, slice_get_read) in
    sym (ap work_told got) ∙ told_work trees c.args.makers.now x.coverages.items x.tree counted
