-- The task at hand, if any, has its steps and its registers, and the unit finds what its tile gives.
use Rattle.std.proofs.Common.{arith, sym, ap, ◌∙◌, ◌+◌, ◌≤◌, subst, length, refl, take, drop, true}
use Rattle.std.specs.Prelude.{slice_get, sum_by, option_copied, IsSomeAnd}
use Rattle.std.proofs.lemmas.Option.{slice_get_read}
use Rattle.plan_ir.specs.Plans.{signature_of}
use Rattle.plan_ir.specs.Planned.{cells_of}
use Rattle.plan_ir.specs.Units.{bound_of}
use Rattle.tile_exec.specs.declared.found.Found.TheVariants as found
use Rattle.tile_exec.specs.Tasks.{PartTree, area_of, bodies_of, IsPartPlaced}
use Rattle.arr_core.specs.Tiles.{tile_box}
use Rattle.tile_exec.specs.Progress.{read_by}
use Rattle.tile_exec.specs.Standing.{IsPartOf, IsStepsOf, StandsFor, plan_of, tasks_left, boxes_left}
use Rattle.tile_exec.specs.Units.{Fits, FitsUnit, KnowsPartOf, TellsTask, TellsPart, first_bound}
use Rattle.tile_exec.proofs.Finding.{found_task, some_within, read_length, none_past, ok_map, on_ok, next_bound}
use Rattle.tile_exec.proofs.Keeping.{placed_at, none_left}
use Rattle.tile_exec.proofs.KeepingItems.{knows_part}
use Rattle.tile_exec.proofs.Moves.{at_hand, stands_at}
use Rattle.tile_exec.proofs.state.State.unit.Goals as goal

pub index-combination-requires : goal.index-combination-requires
index-combination-requires g c =
    let e = c.args.self.now in
    let at = ap (λ l. slice_get l e.at) (sym c.deref.ensures.value) ∙ sym c.in-Some.ensures in
    let x = found_task e.plan e.at e.tasks.items c.in-Some.task.now (tasks_left e) c.requires.sound.tasks at in
    let h = some_within (IsStepsOf e.plan c.in-Some.task.now x.tree) e.plan.combinations.items c.in-Some.task.now.combination x.is.steps in
    omega (arith, h, e.plan.combinations.ok.0)

pub index-steps-requires : goal.index-steps-requires
index-steps-requires g c =
    let e = c.args.self.now in
    let t = c.in-Some.task.now in
    let at = ap (λ l. slice_get l e.at) (sym c.deref.ensures.value) ∙ sym c.in-Some.ensures in
    let x = found_task e.plan e.at e.tasks.items t (tasks_left e) c.requires.sound.tasks at in
    let lt = some_within (IsStepsOf e.plan t x.tree) e.plan.combinations.items t.combination x.is.steps in
    let k = c.index-combination.result.now in
    let read = slice_get_read e.plan.combinations.items (length e.plan.combinations.items) t.combination k refl lt c.index-combination.ensures in
    let steps : IsStepsOf e.plan t x.tree k = subst (λ o. IsSomeAnd o (IsStepsOf e.plan t x.tree)) read x.is.steps in
    let h = some_within (λ s. IsPartOf s t.count t.part x.tree.part) e.plan.steps.items k.steps steps.1 in
    omega (arith, h, e.plan.steps.ok.0)

pub unit_of-requires-clause-part : goal.unit_of-requires-clause-part
unit_of-requires-clause-part g c =
    let e = c.args.self.now in
    let t = c.in-Some.task.now in
    let at = ap (λ l. slice_get l e.at) (sym c.deref.ensures.value) ∙ sym c.in-Some.ensures in
    let x = found_task e.plan e.at e.tasks.items t (tasks_left e) c.requires.sound.tasks at in
    let lt = some_within (IsStepsOf e.plan t x.tree) e.plan.combinations.items t.combination x.is.steps in
    let k = c.index-combination.result.now in
    let read = slice_get_read e.plan.combinations.items (length e.plan.combinations.items) t.combination k refl lt c.index-combination.ensures in
    let steps : IsStepsOf e.plan t x.tree k = subst (λ o. IsSomeAnd o (IsStepsOf e.plan t x.tree)) read x.is.steps in
    let lt2 = some_within (λ s. IsPartOf s t.count t.part x.tree.part) e.plan.steps.items k.steps steps.1 in
    let read2 = slice_get_read e.plan.steps.items (length e.plan.steps.items) k.steps c.index-steps.result.now refl lt2 c.index-steps.ensures in
    let is : IsPartOf c.index-steps.result.now t.count t.part x.tree.part = subst (λ o. IsSomeAnd o (λ s. IsPartOf s t.count t.part x.tree.part)) read2 steps.1 in
    let placed = placed_at e x.tree x.rest x.hand c.requires.sound in
    let p0 = placed.0 in
    let regs = c.registers_from.result.now in
    let n = ap length c.registers_from.ensures ∙ read_length t.first t.count c.deref-in-Some-3.result.now (omega (arith, p0, x.is.first, x.is.count, ap length c.deref-in-Some-3.ensures.value)) in (
      x.tree.part,
      is,
      subst (λ s. IsPartPlaced (signature_of s c.deref-in-Some-2.result.now) (length regs) x.tree.part) (sym c.requires.coverages)
          (subst (λ v. IsPartPlaced (signature_of (plan_of e).coverages v) (length regs) x.tree.part) (sym (c.deref-in-Some-2.ensures.value ∙ steps.0))
          (subst (λ m. IsPartPlaced (signature_of (plan_of e).coverages x.tree.coverages) m x.tree.part) (sym (n ∙ x.is.count)) placed.1)),
      (at_hand e x.tree x.rest x.hand c.requires.sound).0,
    )

pub returns-in-Some-clause-fits : goal.returns-in-Some-clause-fits
returns-in-Some-clause-fits g c =
    let e = c.args.self.now in
    let t = c.in-Some.task.now in
    let at = ap (λ l. slice_get l e.at) (sym c.deref.ensures.value) ∙ sym c.in-Some.ensures in
    let x = found_task e.plan e.at e.tasks.items t (tasks_left e) c.requires.sound.tasks at in
    let lt = some_within (IsStepsOf e.plan t x.tree) e.plan.combinations.items t.combination x.is.steps in
    let k = c.index-combination.result.now in
    let read = slice_get_read e.plan.combinations.items (length e.plan.combinations.items) t.combination k refl lt c.index-combination.ensures in
    let steps : IsStepsOf e.plan t x.tree k = subst (λ o. IsSomeAnd o (IsStepsOf e.plan t x.tree)) read x.is.steps in
    let lt2 = some_within (λ s. IsPartOf s t.count t.part x.tree.part) e.plan.steps.items k.steps steps.1 in
    let read2 = slice_get_read e.plan.steps.items (length e.plan.steps.items) k.steps c.index-steps.result.now refl lt2 c.index-steps.ensures in
    let is : IsPartOf c.index-steps.result.now t.count t.part x.tree.part = subst (λ o. IsSomeAnd o (λ s. IsPartOf s t.count t.part x.tree.part)) read2 steps.1 in
    let coverages = c.deref-in-Some-2.ensures.value ∙ steps.0 in
    let p = x.tree.part in
    ok_map c.unit_of.result (λ u. (p : PartTree) → IsPartOf c.index-steps.result.now t.count t.part p → FitsUnit e.tile e.status p u.last u.found) (λ u. Fits e (tasks_left e) u.last u.found)
    (λ u f. subst (λ ts. Fits e ts u.last u.found) (sym x.hand) (f p is)) c.unit_of.ensures.fits

pub returns-in-Some-clause-tells : goal.returns-in-Some-clause-tells
returns-in-Some-clause-tells g c =
    let e = c.args.self.now in
    let t = c.in-Some.task.now in
    let at = ap (λ l. slice_get l e.at) (sym c.deref.ensures.value) ∙ sym c.in-Some.ensures in
    let x = found_task e.plan e.at e.tasks.items t (tasks_left e) c.requires.sound.tasks at in
    let lt = some_within (IsStepsOf e.plan t x.tree) e.plan.combinations.items t.combination x.is.steps in
    let k = c.index-combination.result.now in
    let read = slice_get_read e.plan.combinations.items (length e.plan.combinations.items) t.combination k refl lt c.index-combination.ensures in
    let steps : IsStepsOf e.plan t x.tree k = subst (λ o. IsSomeAnd o (IsStepsOf e.plan t x.tree)) read x.is.steps in
    let lt2 = some_within (λ s. IsPartOf s t.count t.part x.tree.part) e.plan.steps.items k.steps steps.1 in
    let read2 = slice_get_read e.plan.steps.items (length e.plan.steps.items) k.steps c.index-steps.result.now refl lt2 c.index-steps.ensures in
    let is : IsPartOf c.index-steps.result.now t.count t.part x.tree.part = subst (λ o. IsSomeAnd o (λ s. IsPartOf s t.count t.part x.tree.part)) read2 steps.1 in
    let coverages = c.deref-in-Some-2.ensures.value ∙ steps.0 in
    let p = x.tree.part in
    let s = (g.S.Tiles.state c.args.source.now).cells in
    let registers = c.registers_from.ensures ∙ ap (λ r. take t.count (drop t.first r)) c.deref-in-Some-3.ensures.value ∙ ap (λ k. take k (drop t.first e.registers.items)) x.is.count ∙ ap (λ k. take x.tree.count (drop k e.registers.items)) x.is.first in
    let known = option_copied c.known_before.result in
    ok_map c.unit_of.result
    (λ u. (p : PartTree) → IsPartOf c.index-steps.result.now t.count t.part p → KnowsPartOf (cells_of s c.deref-in-Some-2.result.now) c.registers_from.result.now (g.S.Tiles.state c.args.source.now).intact e.status p known
    → (g.S.Tiles.state c.args.source.now).intact → TellsPart (cells_of s c.deref-in-Some-2.result.now) c.registers_from.result.now e.tile p u.found)
    (λ u. (g.S.Tiles.state c.args.source.now).intact → StandsFor s e → TellsTask s e (tasks_left e) u.found)
    (λ u f i st.
    let at = stands_at s e x.tree x.rest x.hand st in
    let knows = knows_part (cells_of s x.tree.coverages) (read_by x.tree e.registers.items) (g.S.Tiles.state c.args.source.now).intact e p known c.known_before.ensures.first c.known_before.ensures.later at in
    let here = subst (λ r. KnowsPartOf (cells_of s c.deref-in-Some-2.result.now) r (g.S.Tiles.state c.args.source.now).intact e.status p known) (sym registers)
    (subst (λ v. KnowsPartOf (cells_of s v) (read_by x.tree e.registers.items) (g.S.Tiles.state c.args.source.now).intact e.status p known) (sym coverages) knows) in
    subst (λ ts. TellsTask s e ts u.found) (sym x.hand)
    (subst (λ r. TellsPart (cells_of s x.tree.coverages) r e.tile p u.found) registers (subst (λ v. TellsPart (cells_of s v) c.registers_from.result.now e.tile p u.found) coverages (f p is here i)))) c.unit_of.ensures.tells

pub returns-in-Some-clause-fetched : goal.returns-in-Some-clause-fetched
returns-in-Some-clause-fetched g c =
    let e = c.args.self.now in
    let t = c.in-Some.task.now in
    let at = ap (λ l. slice_get l e.at) (sym c.deref.ensures.value) ∙ sym c.in-Some.ensures in
    let x = found_task e.plan e.at e.tasks.items t (tasks_left e) c.requires.sound.tasks at in
    let lt = some_within (IsStepsOf e.plan t x.tree) e.plan.combinations.items t.combination x.is.steps in
    let k = c.index-combination.result.now in
    let read = slice_get_read e.plan.combinations.items (length e.plan.combinations.items) t.combination k refl lt c.index-combination.ensures in
    let steps : IsStepsOf e.plan t x.tree k = subst (λ o. IsSomeAnd o (IsStepsOf e.plan t x.tree)) read x.is.steps in
    let lt2 = some_within (λ s. IsPartOf s t.count t.part x.tree.part) e.plan.steps.items k.steps steps.1 in
    let read2 = slice_get_read e.plan.steps.items (length e.plan.steps.items) k.steps c.index-steps.result.now refl lt2 c.index-steps.ensures in
    let is : IsPartOf c.index-steps.result.now t.count t.part x.tree.part = subst (λ o. IsSomeAnd o (λ s. IsPartOf s t.count t.part x.tree.part)) read2 steps.1 in
    let coverages = c.deref-in-Some-2.ensures.value ∙ steps.0 in
    let p = x.tree.part in
    let new = (g.S.Tiles.state c.unit_of.new.source).fetched in
    let old = (g.S.Tiles.state c.args.source.now).fetched in
    let bound = next_bound e x.tree x.rest x.hand (at_hand e x.tree x.rest x.hand c.requires.sound).0 in
    on_ok c.unit_of.result (new ≤ old + sum_by (bound_of (signature_of (g.S.Tiles.state c.args.source.now).coverages c.deref-in-Some-2.result.now) (tile_box (area_of p) e.tile)) (bodies_of p)) (new ≤ old + first_bound (plan_of e) (boxes_left e))
    (λ f. subst (λ n. new ≤ old + n) (sym bound)
    (subst (λ v. new ≤ old + sum_by (bound_of (signature_of (plan_of e).coverages v) (tile_box (area_of p) e.tile)) (bodies_of p)) coverages
    (subst (λ a. new ≤ old + sum_by (bound_of (signature_of a c.deref-in-Some-2.result.now) (tile_box (area_of p) e.tile)) (bodies_of p)) c.requires.coverages f))) (c.unit_of.ensures.fetched p is)

pub registers_from-requires : goal.registers_from-requires
registers_from-requires g c =
    let e = c.args.self.now in
    let t = c.in-Some.task.now in
    let at = ap (λ l. slice_get l e.at) (sym c.deref.ensures.value) ∙ sym c.in-Some.ensures in
    let x = found_task e.plan e.at e.tasks.items t (tasks_left e) c.requires.sound.tasks at in
    let placed = placed_at e x.tree x.rest x.hand c.requires.sound in
    let p0 = placed.0 in
    omega (arith, p0, x.is.first, x.is.count, ap length c.deref-in-Some-3.ensures.value)

pub returns-in-None-clause-fits : goal.returns-in-None-clause-fits
returns-in-None-clause-fits g c =
    let e = c.args.self.now in
    let past = none_past e.tasks.items e.at (ap (λ l. slice_get l e.at) (sym c.deref.ensures.value) ∙ sym c.in-None.ensures) in
    subst (λ ts. Fits e ts true found.Skipped) (sym (none_left e c.requires.sound past)) tt
