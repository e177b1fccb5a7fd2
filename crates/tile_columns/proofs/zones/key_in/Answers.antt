-- The key is the key's side of the equation.
use Rattle.std.proofs.Common.{refl, sym, subst}
use Rattle.arr_core.specs.Domains.{count}
use Rattle.plan_ir.specs.Bodies.{body_view, condition_view, fold_view}
use Rattle.tile_columns.specs.Keys.{IsKeyOf}
use Rattle.tile_columns.proofs.ZoneKeys.{zoned_equation, zones_key}
use Rattle.tile_columns.proofs.zones.key_in.Goals as goal

pub side_of-requires : goal.side_of-requires
side_of-requires c = zoned_equation c.args.fold.now c.in_ok-zones.zones c.args.depth c.in_ok-zones.ensures

pub returns : goal.returns
returns c =
    let f = c.args.fold.now in
    let z = c.in_ok-zones.zones in
    record {
      key =
          subst (λ n. IsKeyOf c.args.depth (fold_view f) (body_view c.side_of.result.now) n) (sym c.points.ensures.count)
          (subst (λ t. IsKeyOf c.args.depth (fold_view f) t (count f.domain)) (sym c.side_of.ensures.side)
          (zones_key f.op f.domain z.role (condition_view f.condition) (body_view f.body) _ _ z.key_first c.args.depth c.in_ok-zones.ensures));
      is = c.side_of.ensures.side;
      fold = refl;
      zoned = c.in_ok-zones.ensures;
    }
