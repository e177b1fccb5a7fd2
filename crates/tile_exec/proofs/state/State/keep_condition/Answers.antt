-- A condition at hand has a unit left, and once it is tested that unit is done.
use Rattle.std.proofs.Common.{arith, ◌-◌}
use Rattle.tile_exec.proofs.Keeping.{condition_at, condition_next, some_left, tasks_small}
use Rattle.tile_exec.proofs.state.State.keep_condition.Goals as goal

pub overflow_sub-self : goal.overflow_sub-self
overflow_sub-self c =
    let e = c.args.self.now in
    let x = condition_at e c.requires.fits.0 c.args.o c.requires.fits.1 in
    let h = some_left e x.task x.tasks x.hand c.requires.sound in
    omega (arith, h)

pub overflow_add-self : goal.overflow_add-self
overflow_add-self c =
    let e = c.args.self.now in
    let x = condition_at e c.requires.fits.0 c.args.o c.requires.fits.1 in
    let h = tasks_small e x.task x.tasks x.hand c.requires.sound in
    omega (arith, h, e.tasks.ok.0)

pub returns : goal.returns
returns c =
    let e = c.args.self.now in
    let x = condition_at e c.requires.fits.0 c.args.o c.requires.fits.1 in
    let h = some_left e x.task x.tasks x.hand c.requires.sound in
    condition_next e c.args.o c.tested-self.result (e.left - 1) c.requires.sound x (omega (arith, h)) c.tested-self.ensures
