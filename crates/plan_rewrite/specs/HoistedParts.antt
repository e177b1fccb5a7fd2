-- What hoisting makes of the parts of a plan, as the code has them, with passes before them.
use Rattle.std.specs.Prelude.{ℕ, ◌+◌, List, [], ◌∷◌, ◌++◌, map, length, Option, Vec}
use Rattle.std.specs.Global.{Global}
use Rattle.std.specs.Vec.Iter.{into_iter_items}
use Rattle.std.specs.declared.vec.IntoIter.{IntoIter}
use Rattle.plan_ir.specs.declared.body.Body.{Body}
use Rattle.plan_ir.specs.declared.body.Fold.{Fold}
use Rattle.plan_ir.specs.declared.plan.Bind.{Bind}
use Rattle.plan_ir.specs.declared.plan.Field.{Field}
use Rattle.plan_ir.specs.declared.plan.Item.{Item}
use Rattle.plan_ir.specs.Bodies.{body_view, condition_view}
use Rattle.plan_ir.specs.Plans.{PassTree, pass_view, bind_view, field_view}
use Rattle.plan_rewrite.specs.declared.hoisting.folds.Around.{Around}
use Rattle.plan_rewrite.specs.Views.{passes_in, pass_of, condition_in, GainsBinds, GainsFields}
use Rattle.plan_rewrite.specs.Hoisting.{Hoist, hoisting}
use Rattle.plan_rewrite.specs.HoistedPlans.{Places, HoistedCondition, HoistedFields, HoistedItem, with_pass, with_passes, hoisted_condition, hoisted_fields, hoisted_item}

abbrev pub body_hoisted : Around → Vec Fold Global → Body → Hoist
body_hoisted at passes e = hoisting at.regs.now at.depth (passes_in passes) (body_view e)

-- a fold whose condition and body have been hoisted
abbrev pub inner_pass : Around → Vec Fold Global → Fold → PassTree
inner_pass at passes f =
    pass_of f.op f.domain (hoisting at.regs.now (at.depth + length f.domain) (passes_in passes)
    (condition_view f.condition)).body
    (hoisting at.regs.now (at.depth + length f.domain)
    (hoisting at.regs.now (at.depth + length f.domain) (passes_in passes) (condition_view f.condition)).passes
    (body_view f.body)).body

-- all passes then
abbrev pub inner_passes : Around → Vec Fold Global → Fold → List PassTree
inner_passes at passes f =
    (hoisting at.regs.now (at.depth + length f.domain)
    (hoisting at.regs.now (at.depth + length f.domain) (passes_in passes) (condition_view f.condition)).passes
    (body_view f.body)).passes

-- the places of old passes among all passes so far
abbrev pub places : List ℕ → Vec Fold Global → Places
places regs passes = record { regs = regs; passes = passes_in passes }

-- all passes, of which the last is to come
abbrev pub with_last : Vec Fold Global → Fold → List PassTree
with_last passes p = passes_in passes ++ pass_view p ∷ []

abbrev pub pass_hoisted : Vec ℕ Global → Vec Fold Global → Fold → Places
pass_hoisted regs passes p = with_pass (places regs.items passes) (pass_view p)

abbrev pub passes_hoisted : Vec ℕ Global → Vec Fold Global → IntoIter Fold Global → Places
passes_hoisted regs passes old = with_passes (places regs.items passes) (map pass_view (into_iter_items old))

abbrev pub condition_hoisted : List ℕ → Vec Fold Global → Option Body → HoistedCondition
condition_hoisted regs passes c = hoisted_condition (places regs passes) (condition_in c)

abbrev pub fields_hoisted : Around → Vec Fold Global → IntoIter Field Global → HoistedFields
fields_hoisted at passes fields =
    hoisted_fields at.regs.now at.depth (passes_in passes) (map field_view (into_iter_items fields))

-- the binds that are left, and the fields behind them
abbrev pub rest_hoisted : Around → Vec Fold Global → IntoIter Bind Global → IntoIter Field Global → HoistedItem
rest_hoisted at passes binds fields =
    hoisted_item at.regs.now at.depth (passes_in passes) (map bind_view (into_iter_items binds))
    (map field_view (into_iter_items fields))

-- an item gets these binds behind what it had
abbrev pub HasBinds : Item → Item → HoistedItem → Type 0
HasBinds old new h = GainsBinds old.binds new.binds h.binds

-- and these fields
abbrev pub HasFields : Item → Item → HoistedItem → Type 0
HasFields old new h = GainsFields old.fields new.fields h.fields

abbrev pub item_hoisted : List ℕ → Vec Fold Global → Item → HoistedItem
item_hoisted regs passes i = hoisted_item regs (length i.domain) (passes_in passes) (map bind_view i.binds.items)
    (map field_view i.fields.items)
