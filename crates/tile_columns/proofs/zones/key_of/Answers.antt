-- A body that is a fold has the fold's key.
use Rattle.std.proofs.Common.{◌∙◌, sym, ap, subst}
use Rattle.std.specs.Prelude.{IfSome}
use Rattle.plan_ir.specs.Bodies.{body_view, fold_view}
use Rattle.plan_ir.proofs.Folds.{folded}
use Rattle.tile_columns.specs.Keys.{IsFoundKey}
use Rattle.tile_columns.proofs.zones.key_of.Goals as goal

pub returns-in-Fold : goal.returns-in-Fold
returns-in-Fold c =
    subst (λ t. IfSome c.key_in.result (IsFoundKey c.args.depth t))
    (ap fold_view c.deref.ensures ∙ sym (folded c.in-Fold.fold) ∙ ap body_view (sym c.in-Fold.is))
    c.key_in.ensures
