-- One number everywhere, or a number for each place.
use Rattle.std.proofs.Common.{◌≡◌, ◌∙◌, ap, subst, arith, rules, length}
use Rattle.std.proofs.lemmas.Grind.{common_steps}
use Rattle.tile_kernel.proofs.Places.{written_back}
use Rattle.tile_columns.specs.Frames.{number_of, HasPlaces}
use Rattle.tile_columns.proofs.Turns.{same_numbers, column_list}
use Rattle.tile_columns.proofs.frame.Variable.list.Goals as goal

pub returns-in_ok-fill_list-in-Const : goal.returns-in_ok-fill_list-in-Const
returns-in_ok-fill_list-in-Const c =
    c.in_ok-fill_list-in-Const.ensures ∙ same_numbers c.args.places _ (λ place. number_of place c.args.self.now) (λ k. ap (number_of k) c.in-Const.is ∙ search rules)

pub returns-in_ok-fill_list-in-Column : goal.returns-in_ok-fill_list-in-Column
returns-in_ok-fill_list-in-Column c =
    let zs = c.in-Column.zs.items in
    let numbers = c.fill_list-in-Column.new.numbers in
    let many : length zs ≡ c.args.places = subst (HasPlaces c.args.places) c.in-Column.is c.requires in
    let same : c.widen.new.cells ≡ zs = c.widen.ensures ∙ c.deref.ensures.value in
    let filled : length numbers.items ≡ c.args.places = grind (arith, common_steps, c.in_ok-fill_list-in-Column.ensures) in
    written_back numbers.len c.widen.new.cells _ (omega (arith, ap length same, many, filled, numbers.ok.0))
    ∙ same ∙ column_list c.args.places c.args.self.now zs (λ k. ap (number_of k) c.in-Column.is) many

pub widen-requires : goal.widen-requires
widen-requires c = grind (arith, common_steps)

pub returns-in_ok-fill_list-in-Axis : goal.returns-in_ok-fill_list-in-Axis
returns-in_ok-fill_list-in-Axis c = grind (arith, common_steps)
