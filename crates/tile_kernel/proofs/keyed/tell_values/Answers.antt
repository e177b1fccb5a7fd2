-- One more value has been told, and in the end all of them.
use Rattle.std.proofs.Common.{◌≡◌, ◌∙◌, ◌<◌, ℤ, length, get_or, refl, sym, ap, subst, arith, rules, pos, Some, SFits, w64, to_z, of_z}
use Rattle.std.specs.Prelude.{slice_get}
use Rattle.std.proofs.lemmas.Int.{to_z-of_z}
use Rattle.std.proofs.lemmas.Option.{slice_get-get_or}
use Rattle.wcps_mean.specs.declared.cell.Outcome.TheVariants.{Value}
use Rattle.tile_kernel.specs.Condensing.{EachIsTold}
use Rattle.tile_kernel.specs.Keyed.{told_by_key}
use Rattle.tile_kernel.proofs.Keys.{keyed_more, keyed_whole}
use Rattle.tile_kernel.proofs.keyed.tell_values.Goals as goal

pub tell_number-requires-clause-room : goal.tell_number-requires-clause-room
tell_number-requires-clause-room g c = λ k d l.
    let within : k < length c.args.folds.now = omega (arith, l, c.loop-j.invariant.length) in
    let more = c.loop-j.invariant.room k d within in
    let few = c.requires.room k d within in
    omega (arith, more, few)

pub loop-j-preserved : goal.loop-j-preserved
loop-j-preserved g c =
    let inv = c.loop-j.invariant in
    let stands = g.C.Condenser.stands in
    let numbers = g.N.Numbers.numbers c.args.numbers.now in
    let places = c.args.places.now in
    let j = c.loop-j.j in
    let key = g.K.Operand.value c.args.keys j in
    let x = g.V.Operand.value c.args.cells j in
    let fits : SFits w64 c.value-in-loop-j.result = search rules in
    let small : SFits w64 c.value.result = search rules in
    let in_range : j < length c.args.places.now = omega arith in
    let one : EachIsTold g.C.Condenser.stands c.loop-j.folds c.tell_number.new.folds (told_by_key numbers (get_or places j 0) (Value key) (Value x)) =
    subst (λ (z : ℤ). EachIsTold g.C.Condenser.stands c.loop-j.folds c.tell_number.new.folds (told_by_key numbers (get_or places j 0) (Value z) (Value x))) (to_z-of_z w64 c.value-in-loop-j.result fits ∙ c.value-in-loop-j.ensures)
    (subst (λ (z : ℤ). EachIsTold g.C.Condenser.stands c.loop-j.folds c.tell_number.new.folds (told_by_key numbers (get_or places j 0) (Value (to_z w64 (of_z w64 c.value-in-loop-j.result))) (Value z))) (to_z-of_z w64 c.value.result small ∙ c.value.ensures) c.tell_number.ensures.stands) in
    record {
      stands = λ own column a b.
          let own_there : slice_get own j ≡ Some (Value key) = slice_get-get_or own j (Value (pos 0)) (omega (arith, a.0, in_range)) ∙ ap Some (a.1 j in_range) in
          let there : slice_get column j ≡ Some (Value x) = slice_get-get_or column j (Value (pos 0)) (omega (arith, b.0, in_range)) ∙ ap Some (b.1 j in_range) in
          keyed_more stands c.args.folds.now c.loop-j.folds c.tell_number.new.folds numbers places own column j (get_or places j 0) (Value key) (Value x)
          (sym b.0) (a.0 ∙ sym b.0) (omega (arith, b.0, in_range)) refl own_there there inv.length (inv.stands own column a b) one;
      room = λ k d l.
          let more = c.tell_number.ensures.room k d (omega (arith, l, inv.length)) in
          let before = inv.room k d l in
          omega (arith, more, before);
      length = c.tell_number.ensures.length ∙ inv.length;
    }

pub returns-clause-stands : goal.returns-clause-stands
returns-clause-stands g c = λ own column a b.
    keyed_whole g.C.Condenser.stands c.args.folds.now c.loop-j.folds (g.N.Numbers.numbers c.args.numbers.now) c.args.places.now own column c.loop-j.j (sym b.0) (a.0 ∙ sym b.0) (let e = b.0 in omega arith)
    (c.loop-j.invariant.stands own column a b)

pub returns-clause-room : goal.returns-clause-room
returns-clause-room g c = λ k d l. let r = c.loop-j.invariant.room k d l in omega (arith, r)
