-- The run that was listed is the one that stands there.
use Rattle.std.proofs.Common.{◌≡◌, ◌≢◌, ◌-◌, ℕ, ℤ, pos, ◌+◌, ◌<◌, ◌≤◌, length, get_or, Some, refl, sym, ap, ◌∙◌, arith, rules, subst, SFits, w64, to_z-of_z, suc, IsTrue, Bool, ◌↔◌, List}
use Rattle.std.proofs.lemmas.List.{get_or-set_other, get_or-set_same}
use Rattle.arr_core.specs.declared.cell.FieldType.{FieldType}
use Rattle.run_tile.specs.Runs.{IsRun, run_at}
use Rattle.run_tile.specs.Reading.{last_of}
use Rattle.run_tile.specs.declared.run.Run.{Run}
use Rattle.run_tile.specs.Listing.{IsPart}
use Rattle.run_tile.proofs.Lists.{part-none, part-more, told-both}
use Rattle.run_tile.proofs.listing.read_part.Goals as goal

-- a run that has not the value of the one before it is no repetition
next : (kind : FieldType) (bytes : List ℕ) (n : ℕ) (run : Run) (last : ℤ) {test : Bool} → 1 ≤ n → run ≡ run_at kind bytes n → last ≡ (run_at kind bytes (n - 1)).value → (IsTrue test ↔ (IsRun kind run × (run.value ≢ last)))
    → (IsTrue test ↔ (IsRun kind (run_at kind bytes n) × (last_of kind bytes n ≡ Some (run_at kind bytes n).value → ⊥)))
next kind bytes n run last some read before told =
    let here : last_of kind bytes n ≡ Some last = ap (last_of kind bytes) {y = suc (n - 1)} (omega arith) ∙ ap (λ (z : ℤ). Some z) (sym before) in
    let value = ap (λ (r : Run). r.value) read in (
      λ t. (subst (IsRun kind) read (told.0 t).0, λ same. (told.0 t).1 (value ∙ cc)),
      λ both. told.1 (subst (IsRun kind) (sym read) both.0, λ same. both.1 (here ∙ ap (λ (z : ℤ). Some z) (sym same ∙ value))),
    )

pub loop-place-init : goal.loop-place-init
loop-place-init c =
    let z = get_or c.args.values.now (c.args.from - 1) (pos 0) in
    let fits : SFits w64 z = search rules in
    record {
      part = part-none c.args.kind c.args.bytes.now _ _ c.args.from c.requires.listed;
      few = omega arith;
      last_is = to_z-of_z fits ∙ c.requires.listed.values_are (c.args.from - 1) (omega arith);
    }

pub loop-place-preserved : goal.loop-place-preserved
loop-place-preserved c =
    let kind = c.args.kind in
    let bytes = c.args.bytes.now in
    let place = c.loop-place.place in
    let inv = c.loop-place.invariant in
    let run = c.read_at-run.result in
    let read = c.read_at-run.ensures in
    let fits : SFits w64 run.value = search rules in
    let value = to_z-of_z fits ∙ ap (λ (r : Run). r.value) read in
    let count = ap (λ (r : Run). r.count) read in
    let within : place < length c.loop-place.values = omega arith in
    let listed : place < length c.loop-place.counts = omega arith in
    record {
      part = part-more kind bytes c.args.from place _ _ _ _ c.loop-place.part _ inv.part (omega arith)
          (told-both kind bytes place c.loop-place.part.sound c.is_next.result (next kind bytes place run _ (omega arith) read inv.last_is c.is_next.ensures))
          (record {
            values_before = λ k h. (let ne : k ≢ place = omega arith in rw get_or-set_other refl);
            value = rw get_or-set_same value;
            counts_before = λ k h. (let ne : k ≢ place = omega arith in rw get_or-set_other refl);
            count = rw get_or-set_same (c.from-count.ensures ∙ count);
          }) (ap (λ (n : ℕ). c.loop-place.part.cells + n) (c.from-count.ensures ∙ count));
      few = omega (arith, inv.few, c.from-count.ensures);
      last_is = value ∙ ap (λ (k : ℕ). (run_at kind bytes k).value) {x = place} (omega arith);
    }

pub overflow_add-part : goal.overflow_add-part
overflow_add-part c = omega (arith, c.loop-place.invariant.few, c.from-count.ensures)

pub returns-clause-part : goal.returns-clause-part
returns-clause-part c =
    let all : c.loop-place.place ≡ c.args.end = omega arith in
    subst (λ (n : ℕ). IsPart c.args.kind c.args.bytes.now c.loop-place.values c.loop-place.counts c.args.from n c.loop-place.part) all c.loop-place.invariant.part

pub returns-clause-few : goal.returns-clause-few
returns-clause-few c = omega (arith, c.loop-place.invariant.few)
