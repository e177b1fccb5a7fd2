-- Folds behind a pointer.
use Rattle.std.proofs.Common.{◌≡◌, refl}
use Rattle.std.specs.Prelude.{Box, Option, Some, None}
use Rattle.std.specs.Global.{Global}
use Rattle.plan_ir.specs.declared.body.Body.{Body}
use Rattle.plan_ir.specs.declared.body.Body.TheVariants as bodies
use Rattle.plan_ir.specs.declared.body.Fold.{Fold}
use Rattle.plan_ir.specs.Bodies.{body_view, condition_view, fold_view, fold}

folded_at : (b : Box Fold Global) (c : Option Body) → body_view (bodies.Fold (record b { value = record b.value { condition = c } })) ≡ fold b.value.op b.value.domain (condition_view c) (body_view b.value.body)
folded_at b None = refl
folded_at b (Some c) = refl

-- the view of a body that is a fold
pub folded : (b : Box Fold Global) → body_view (bodies.Fold b) ≡ fold_view b.value
folded b = folded_at b b.value.condition
