-- A skipped tile moves on within its item or, as the last one, past it; with no task left only a unit is done.
use Rattle.std.proofs.Common.{arith, ◌-◌, subst}
use Rattle.tile_exec.specs.declared.found.Found.TheVariants as found
use Rattle.tile_exec.specs.Standing.{tasks_left}
use Rattle.tile_exec.specs.Units.{Fits}
use Rattle.tile_exec.proofs.Keeping.{skipped_at, skipped_next, skipped_further, idle, none_left, tile_small}
use Rattle.tile_exec.proofs.state.State.keep_skipped.Goals as goal

pub returns-then-len-self : goal.returns-then-len-self
returns-then-len-self c =
    let e = c.args.self.now in
    idle e (e.left - 1) c.requires.sound (omega (arith, c.requires.left)) (none_left e c.requires.sound (omega (arith, c.if-len-self.true, c.len.ensures, e.tasks.ok.0)))

pub overflow_add-self : goal.overflow_add-self
overflow_add-self c = omega (arith, c.if-len-self.false, c.len.ensures, c.args.self.now.tasks.ok.0)

pub returns-then-last : goal.returns-then-last
returns-then-last c =
    let e = c.args.self.now in
    let x = skipped_at e c.args.last c.requires.sound (omega (arith, c.if-len-self.false, c.len.ensures, e.tasks.ok.0)) c.requires.fits in
    let y = skipped_at e _ c.requires.sound (omega (arith, c.if-len-self.false, c.len.ensures, e.tasks.ok.0)) (subst (λ b. Fits e (tasks_left e) b found.Skipped) c.if-last.true c.requires.fits) in
    skipped_next e c.after_skipped-self.result (e.left - 1) c.requires.sound y (omega (arith, c.requires.left)) (c.after_skipped-self.ensures x.not_given)

pub overflow_add-self-2 : goal.overflow_add-self-2
overflow_add-self-2 c =
    let e = c.args.self.now in
    let x = skipped_at e c.args.last c.requires.sound (omega (arith, c.if-len-self.false, c.len.ensures, e.tasks.ok.0)) c.requires.fits in
    let h = tile_small e x.task x.tasks x.hand c.requires.sound in
    omega (arith, h)

pub returns : goal.returns
returns c =
    let e = c.args.self.now in
    let y = skipped_at e _ c.requires.sound (omega (arith, c.if-len-self.false, c.len.ensures, e.tasks.ok.0)) (subst (λ b. Fits e (tasks_left e) b found.Skipped) c.if-last.false c.requires.fits) in
    skipped_further e (e.left - 1) c.requires.sound y (omega (arith, c.requires.left))
