-- A number, a variable's numbers, or zeros.
use Rattle.std.proofs.Common.{◌∙◌, ap, sym, rules}
use Rattle.plan_ir.specs.Run.{number_at}
use Rattle.tile_columns.specs.Frames.{number_of, environment}
use Rattle.tile_columns.proofs.Ranges.{same_over}
use Rattle.tile_columns.proofs.Turns.{same_numbers, variable_there, no_variable}
use Rattle.tile_columns.proofs.frame.list_index.Goals as goal

pub returns-in_ok-fill_list-in-Const : goal.returns-in_ok-fill_list-in-Const
returns-in_ok-fill_list-in-Const c =
    c.in_ok-fill_list-in-Const.ensures ∙ same_numbers c.args.places _ (λ place. number_at (environment c.args.variables.now place) c.args.index) (λ k. ap (number_at (environment c.args.variables.now k)) c.in-Const.is ∙ search rules)

pub returns-in_ok-list-in-Some : goal.returns-in_ok-list-in-Some
returns-in_ok-list-in-Some c =
    c.in_ok-list-in-Some.ensures
    ∙ same_over (λ place. number_of place c.in-Some.variable.now) (λ place. number_at (environment c.args.variables.now place) c.args.index) c.args.places
    (λ k lt. sym (ap (number_at (environment c.args.variables.now k)) c.in-Var.is ∙ variable_there c.args.variables.now c.in-Var.k c.in-Some.variable.now k c.in-Some.ensures.lookup.3.0 c.in-Some.ensures.lookup.1))

pub returns-in_ok-fill_list-in-None : goal.returns-in_ok-fill_list-in-None
returns-in_ok-fill_list-in-None c =
    c.in_ok-fill_list-in-None.ensures
    ∙ same_numbers c.args.places _ (λ place. number_at (environment c.args.variables.now place) c.args.index) (λ k. ap (number_at (environment c.args.variables.now k)) c.in-Var.is ∙ no_variable c.args.variables.now c.in-Var.k k c.in-None.ensures.lookup.3)
