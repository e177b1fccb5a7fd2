-- With all its tasks listed, none done and room for what they give, a plan is before its first unit.
use Rattle.std.proofs.Common.{[], arith, refl, ap, ◌∙◌}
use Rattle.tile_exec.specs.declared.task.Status.TheVariants.{Giving}
use Rattle.tile_exec.proofs.Beginning.{begun_is}
use Rattle.tile_exec.proofs.begin.begun.Goals as goal

pub returns : goal.returns
returns c =
    let list = c.in_ok-list.list in
    let r = c.in_ok-registers.ensures in
    let i = c.in_ok-items.ensures in
    begun_is c.args.plan list _ c.requires c.in_ok-list.ensures record {
      plan_is = refl;
      tasks = refl;
      at = refl;
      tile = refl;
      left = c.max.ensures;
      progress = ap (λ v. record { registers = v; items = c.in_ok-items.items.items; status = Giving }) r.items ∙ ap (λ v. record { registers = []; items = v; status = Giving }) i.items;
      registers = omega (arith, c.len-room.ensures, list.tasks.ok.0, r.capacity);
      items = omega (arith, c.len-room.ensures, list.tasks.ok.0, i.capacity);
    }
