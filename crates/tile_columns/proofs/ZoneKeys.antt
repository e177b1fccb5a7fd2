-- A fold of zones depends on its key alone.
use Rattle.std.proofs.Common.{◌≡◌, ℕ, ◌+◌, ◌*◌, ◌≤◌, List, ◌++◌, sym, ap, ◌∙◌, subst, arith, T, Bool, true, false}
use Rattle.arr_core.specs.declared.domain.Axis.{Axis}
use Rattle.arr_core.specs.Domains.{count, points}
use Rattle.wcps_text.specs.declared.operator.Aggregate.{Aggregate}
use Rattle.wcps_mean.specs.Condensers.{condensed, demanded}
use Rattle.plan_ir.specs.declared.body.Fold.{Fold}
use Rattle.plan_ir.specs.Bodies.{Tree, body_view, condition_view, fold_view, fold}
use Rattle.plan_ir.specs.Run.{run}
use Rattle.plan_ir.specs.Placed.{spans, IsPlaced}
use Rattle.plan_ir.specs.Units.{bound_times}
use Rattle.plan_ir.specs.Variables.{is_below}
use Rattle.plan_ir.proofs.FirstVariables.{flat-same, below-placed}
use Rattle.tile_columns.specs.declared.shapes.Shape.TheVariants.{Alone, First, Second}
use Rattle.tile_columns.specs.declared.zones.Role.{Role}
use Rattle.tile_columns.specs.declared.zones.Role.TheVariants.{Condition, Within}
use Rattle.tile_columns.specs.declared.zones.Zones.{Zones}
use Rattle.tile_columns.specs.Keys.{IsKeyOf}
use Rattle.tile_columns.specs.Shapes.{HasOperands}
use Rattle.tile_columns.specs.Zones.{compared, equality, equation_in, other_in, condition_of, value_of, key_of, own_of, other_of, IsOfRole, IsZoned, HasZones, HasEquation}
use Rattle.tile_columns.proofs.ZoneFolds.{is_t, zone_parts, equation_placed, key_placed, sides_bound, zoned_bound}

-- ---- the operands that a fold of zones has

equality_operands : (first : Bool) (own key : Tree) → HasOperands (equality first own key)
equality_operands true own key = tt
equality_operands false own key = tt

role_body : (role : Role) (condition body own key : Tree) (first : Bool) (depth : ℕ) → IsZoned depth role condition body own key first → IsOfRole role body
role_body Condition condition body own key first depth z = tt
role_body (Within Alone) condition body own key first depth z = tt
role_body (Within (First op)) condition body own key first depth z = subst HasOperands (sym z.body_is) tt
role_body (Within (Second op)) condition body own key first depth z = subst HasOperands (sym z.body_is) tt

pub zoned_equation : (f : Fold) (z : Zones) (depth : ℕ) → HasZones depth (condition_view f.condition) (body_view f.body) z → HasEquation f z
zoned_equation f z depth h = record {
  sides = subst HasOperands (sym h.sides.is) (equality_operands z.key_first _ _);
  body = role_body z.role (condition_view f.condition) (body_view f.body) _ _ z.key_first depth h;
}

-- ---- how many tiles are fetched

-- both bodies beside the key ask for no more than the fold at one place
pub bodies_bound : (f : Fold) (z : Zones) (depth : ℕ) → HasZones depth (condition_view f.condition) (body_view f.body) z → bound_times (count f.domain) (own_of f z) + bound_times (count f.domain) (other_of f z) ≤ bound_times 1 (fold_view f)
bodies_bound f z depth h =
    let n = count f.domain in
    let c = sides_bound n (equation_in z.role (condition_view f.condition) (body_view f.body)) (own_of f z) (key_of f z) z.key_first h.sides.is in
    let w = zoned_bound n z.role (condition_view f.condition) (body_view f.body) (own_of f z) (key_of f z) z.key_first depth h in
    let one : 1 * n ≡ n = omega arith in
    let a = ap (λ m. bound_times m (condition_view f.condition)) one in
    let b = ap (λ m. bound_times m (body_view f.body)) one in
    omega (arith, c, w, a, b)

-- ---- the key

pub zones_key : (op : Aggregate) (box : List Axis) (role : Role) (condition body own key : Tree) (first : Bool) (depth : ℕ) → IsZoned depth role condition body own key first → IsKeyOf depth (fold op box condition body) key (count box)
zones_key op box role condition body own key first depth z = record {
  alone = λ s regs one other e f same.
      ap (condensed op) (flat-same _ _ (points box) (λ x.
      let a = zone_parts s regs role condition body own key first depth one one x z e e in
      let b = zone_parts s regs role condition body own key first depth one other x z e f in
      let c : run s regs condition (one ++ x) ≡ run s regs condition (other ++ x) = sym a.0 ∙ ap (λ k. condition_of role (compared first k (run s regs own (one ++ x)))) same ∙ b.0 in
      let d : run s regs body (one ++ x) ≡ run s regs body (other ++ x) = sym a.1 ∙ ap (λ k. value_of role (compared first k (run s regs own (one ++ x))) (run s regs (other_in role body) (one ++ x))) same ∙ b.1 in
      ap (λ o. demanded o (run s regs body (one ++ x))) c ∙ ap (demanded (run s regs condition (other ++ x))) d));
  placed = λ cs n scope l p.
      let more = scope ++ spans box in
      below-placed key cs n scope (spans box) (subst (λ m. T (is_below m key)) (sym l) (is_t z.sides.key_below))
      (key_placed cs n more own key first (subst (λ t. IsPlaced cs n more t) z.sides.is (equation_placed cs n more role condition body own key first depth z p.0 p.1)));
  dearer = λ n.
      let c = sides_bound (n * count box) (equation_in role condition body) own key first z.sides.is in
      let w = zoned_bound (n * count box) role condition body own key first depth z in
      omega (arith, c, w);
}
