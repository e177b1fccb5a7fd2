-- The pass takes in one more tile of its own kind, and after the last one its outcome goes to its register.
use Rattle.std.proofs.Common.{arith, sym, ◌∙◌, ◌-◌, subst, length}
use Rattle.tile_kernel.specs.declared.accumulator.Accumulator.{Accumulator}
use Rattle.tile_kernel.specs.Told.{ComesTo}
use Rattle.tile_kernel.specs.Standing.{Stands}
use Rattle.tile_exec.specs.declared.found.Found.TheVariants as found
use Rattle.tile_columns.specs.TileOrder.{points_to}
use Rattle.tile_exec.specs.Standing.{tasks_left}
use Rattle.tile_exec.specs.Units.{Fits}
use Rattle.tile_exec.proofs.Keeping.{pass_at, pass_under, pass_few, pass_further, pass_next, some_left, tile_small, tasks_small}
use Rattle.tile_exec.proofs.state.State.keep_pass.Goals as goal

pub merge-requires-clause-op : goal.merge-requires-clause-op
merge-requires-clause-op c =
    let e = c.args.self.now in
    let x = pass_at e c.args.last c.args.found c.requires.fits in
    let u = pass_under e c.args.last c.args.found x c.requires.sound in
    c.begin.ensures.op (λ k. (u.1 k).0 ∙ sym x.op)

pub merge-requires-clause-room : goal.merge-requires-clause-room
merge-requires-clause-room c =
    let e = c.args.self.now in
    let x = pass_at e c.args.last c.args.found c.requires.fits in
    let u = pass_under e c.args.last c.args.found x c.requires.sound in
    (pass_few e c.args.last c.args.found x c.begin.new.accumulator.running.count c.requires.sound (c.begin.ensures.count (length (points_to x.pass_tree.domain e.tile)) (λ k. (u.1 k).1))).0

pub overflow_sub-self : goal.overflow_sub-self
overflow_sub-self c = let h = some_left c.args.self.now (pass_at c.args.self.now c.args.last c.args.found c.requires.fits).task (pass_at c.args.self.now c.args.last c.args.found c.requires.fits).tasks (pass_at c.args.self.now c.args.last c.args.found c.requires.fits).hand c.requires.sound in omega (arith, h)

pub overflow_add-self : goal.overflow_add-self
overflow_add-self c =
    let e = c.args.self.now in
    let x = pass_at e c.args.last c.args.found c.requires.fits in
    let h = tasks_small e x.task x.tasks x.hand c.requires.sound in
    omega (arith, h, e.tasks.ok.0)

pub returns-then-last : goal.returns-then-last
returns-then-last c =
    let e = c.args.self.now in
    let x = pass_at e c.args.last c.args.found c.requires.fits in
    let h = some_left e x.task x.tasks x.hand c.requires.sound in
    let m = c.merge.new.self in
    let w = c.replace-whole.ensures.value in
    pass_next e c.args.found m c.replace-whole.new.dest c.put_register.new.registers c.finish.result (e.left - 1) c.requires.sound (subst (λ b. Fits e (tasks_left e) b (found.Pass c.args.found)) c.if-last.true c.requires.fits) (omega (arith, h)) (c.merge.ensures.op ∙ c.begin.ensures.op (λ k. ((pass_under e c.args.last c.args.found x c.requires.sound).1 k).0 ∙ sym x.op))
    (λ told more z k st. c.merge.ensures.stands more st (told e.tile) (c.begin.ensures.stands told z k))
    (λ told st. subst (λ (a : Accumulator). ComesTo a.running.op told c.finish.result) w (c.finish.ensures told (subst (λ a. Stands a told) (sym w) st)))
    c.put_register.ensures.items
    c.put_register.ensures.capacity

pub overflow_add-self-2 : goal.overflow_add-self-2
overflow_add-self-2 c =
    let e = c.args.self.now in
    let x = pass_at e c.args.last c.args.found c.requires.fits in
    let h = tile_small e x.task x.tasks x.hand c.requires.sound in
    omega (arith, h)

pub returns : goal.returns
returns c =
    let e = c.args.self.now in
    let x = pass_at e c.args.last c.args.found c.requires.fits in
    let h = some_left e x.task x.tasks x.hand c.requires.sound in
    pass_further e c.args.found c.merge.new.self (e.left - 1) c.requires.sound (subst (λ b. Fits e (tasks_left e) b (found.Pass c.args.found)) c.if-last.false c.requires.fits) (omega (arith, h)) (c.merge.ensures.op ∙ c.begin.ensures.op (λ k. ((pass_under e c.args.last c.args.found x c.requires.sound).1 k).0 ∙ sym x.op))
    (λ n k. let m = c.merge.ensures.count in let w = c.begin.ensures.count n k in omega (arith, m, w))
    (λ told more z k st. c.merge.ensures.stands more st (told e.tile) (c.begin.ensures.stands told z k))
