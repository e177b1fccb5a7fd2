-- The cell stands in the block that was read, at its place there.
use Rattle.std.proofs.Common.{◌∙◌, ◌*◌, ◌/◌, rules, refl, SFits, w64, to_z-of_z, arith}
use Rattle.std.proofs.lemmas.Grind.{common_steps}
use Rattle.block_file.proofs.Times.{one_times}
use Rattle.tile_store.proofs.Picks.{entry_used, lacks_past, raw_read, stands}
use Rattle.tile_store.proofs.Takes.{reads_more, refuses_as}
use Rattle.tile_store.proofs.picking.read_raw_cell.Goals as goal

pub returns-then-entry-size-clause-why : goal.returns-then-entry-size-clause-why
returns-then-entry-size-clause-why g c = record {
  for_damage = λ is. lacks_past c.args.kind _ c.args.entry.now c.args.rank c.width-size.result c.width-size.ensures c.requires.entry c.if-entry-size.true;
  for_room = λ is. (cc);
}

pub turn_to-requires-clause-used : goal.turn_to-requires-clause-used
turn_to-requires-clause-used g c =
    let here = stands c.args.kind _ c.args.entry.now c.args.rank c.width-size.result c.width-size.ensures c.requires.entry c.if-entry-size.false in
    rw c.as_slice-numbers.ensures (entry_used _ c.args.entry.now (c.args.rank * c.width-size.result / 4096) c.requires.entry here.within)

pub returns-in_err-turn_to-clause-why : goal.returns-in_err-turn_to-clause-why
returns-in_err-turn_to-clause-why g c = refuses_as (λ x is. search rules) c.in_err-turn_to.ensures.why (λ no. absurd no) (λ none. none)

pub returns-in_err-turn_to-clause-frame : goal.returns-in_err-turn_to-clause-frame
returns-in_err-turn_to-clause-frame g c =
    let here = stands c.args.kind _ c.args.entry.now c.args.rank c.width-size.result c.width-size.ensures c.requires.entry c.if-entry-size.false in
    reads_more _ _ _ _ (one_times c.args.entry.now.blocks (c.args.rank * c.width-size.result / 4096) here.within) (rw c.as_slice-numbers.ensures at c.in_err-turn_to.ensures.frame)

pub returns-in_err-turn_to-clause-told : goal.returns-in_err-turn_to-clause-told
returns-in_err-turn_to-clause-told g c =
    let before = c.in_err-turn_to.ensures.told in
    record { told = λ is. before.told (search rules); quiet = λ none. before.quiet (λ is. none (search rules)) }

pub returns-clause-cell : goal.returns-clause-cell
returns-clause-cell g c = λ honest.
    let fits : SFits w64 c.raw_cell.result = search rules in
    let done = c.in_ok-turn_to.ensures in
    to_z-of_z fits ∙ c.raw_cell.ensures
    ∙ raw_read c.args.kind _ c.args.entry.now c.args.rank c.width-size.result _ c.as_slice-numbers.result.now _ c.turn_to.new.last c.width-size.ensures c.requires.entry honest c.if-entry-size.false c.as_slice-numbers.ensures refl done.here done.last

pub returns-clause-frame : goal.returns-clause-frame
returns-clause-frame g c =
    let here = stands c.args.kind _ c.args.entry.now c.args.rank c.width-size.result c.width-size.ensures c.requires.entry c.if-entry-size.false in
    reads_more _ _ _ _ (one_times c.args.entry.now.blocks (c.args.rank * c.width-size.result / 4096) here.within) (rw c.as_slice-numbers.ensures at c.in_ok-turn_to.ensures.frame)

pub returns-then-entry-size-clause-frame : goal.returns-then-entry-size-clause-frame
returns-then-entry-size-clause-frame g c = grind (arith, common_steps)

pub returns-then-entry-size-clause-told : goal.returns-then-entry-size-clause-told
returns-then-entry-size-clause-told g c = grind (arith, common_steps)

pub overflow_mul-from : goal.overflow_mul-from
overflow_mul-from g c = grind (arith, common_steps)

pub returns-in_err-turn_to-clause-cell : goal.returns-in_err-turn_to-clause-cell
returns-in_err-turn_to-clause-cell g c = grind (arith, common_steps)

pub returns-in_err-turn_to-clause-last : goal.returns-in_err-turn_to-clause-last
returns-in_err-turn_to-clause-last g c = grind (arith, common_steps)

pub returns-clause-last : goal.returns-clause-last
returns-clause-last g c = grind (arith, common_steps)

pub returns-clause-why : goal.returns-clause-why
returns-clause-why g c = grind (arith, common_steps)

pub returns-clause-told : goal.returns-clause-told
returns-clause-told g c = grind (arith, common_steps)
