-- A refused write gives back what it took; one that is done has exchanged the tiles that the box meets.
use Rattle.std.proofs.Common.{rules, arith, refl}
use Rattle.std.proofs.lemmas.Grind.{common_steps}
use Rattle.tile_store.proofs.Exchanged.{can_exchange, moves_exchanged, sound_exchanged, patched_exchanged, room_lacks, room_left}
use Rattle.tile_store.proofs.Growth.{grows_still}
use Rattle.tile_store.proofs.Takes.{covers_taken, gave_back, once_given, refuses_as}
use Rattle.tile_store.proofs.field.write_area.Goals as goal

pub returns-in_err-ready-clause-why : goal.returns-in_err-ready-clause-why
returns-in_err-ready-clause-why g c = refuses_as (λ x is. search rules) (c.in_err-ready.ensures.why c.args.rest) (λ damaged. damaged) (λ lacking. lacking)

pub give_back-requires : goal.give_back-requires
give_back-requires g c = rw c.deref.ensures.value (covers_taken _ _ _ c.in_ok-ready.ensures.ready.takes)

pub returns-then-not-has_room-clause-kept : goal.returns-then-not-has_room-clause-kept
returns-then-not-has_room-clause-kept g c = gave_back _ _ _ _ c.in_ok-ready.ensures.ready.takes (rw c.deref.ensures.value at c.give_back.ensures)

pub returns-then-not-has_room-clause-why : goal.returns-then-not-has_room-clause-why
returns-then-not-has_room-clause-why g c = record {
  for_damage = λ is. absurd (cc);
  for_room = λ is. room_lacks c.args.rest c.in_ok-ready.ensures.ready (rw c.free.ensures at (c.if-not-has_room.ensures.short refl));
}

pub exchange-requires : goal.exchange-requires
exchange-requires g c = can_exchange c.requires.sound c.in_ok-ready.ensures.ready

pub returns-in_err-exchange-clause-kept : goal.returns-in_err-exchange-clause-kept
returns-in_err-exchange-clause-kept g c = (let back = gave_back _ _ _ _ c.in_ok-ready.ensures.ready.takes c.in_err-exchange.ensures.back in search rules)

pub returns-clause-done : goal.returns-clause-done
returns-clause-done g c = patched_exchanged c.requires.sound c.in_ok-ready.ensures.ready c.in_ok-exchange.ensures.done

pub returns-clause-sound : goal.returns-clause-sound
returns-clause-sound g c = sound_exchanged c.requires.sound c.in_ok-ready.ensures.ready c.in_ok-exchange.ensures.done

pub returns-clause-frame : goal.returns-clause-frame
returns-clause-frame g c = record {
  moves = moves_exchanged c.in_ok-ready.ensures.ready c.in_ok-exchange.ensures.done;
  once = once_given _ _ _ _ _ c.in_ok-ready.ensures.ready.takes c.in_ok-exchange.ensures.done.given_back;
}

pub returns-clause-room : goal.returns-clause-room
returns-clause-room g c =
    let fits = rw c.free.ensures at (c.if-not-has_room.ensures.fits (first_of (search rules, grind (arith, common_steps)))) in
    room_left c.args.rest c.in_ok-ready.ensures.ready c.in_ok-exchange.ensures.done fits

pub returns-then-not-has_room-clause-grows : goal.returns-then-not-has_room-clause-grows
returns-then-not-has_room-clause-grows g c = grows_still c.args.patch.now c.args.field.now (g.B.Blocks.state c.args.blocks.now) (g.B.Blocks.state c.prepare.new.blocks) (g.B.Blocks.state c.give_back.new.self) c.in_ok-ready.ensures.grows c.give_back.ensures.content

pub returns-in_err-exchange-clause-grows : goal.returns-in_err-exchange-clause-grows
returns-in_err-exchange-clause-grows g c = grows_still c.args.patch.now c.args.field.now (g.B.Blocks.state c.args.blocks.now) (g.B.Blocks.state c.prepare.new.blocks) (g.B.Blocks.state c.exchange.new.blocks) c.in_ok-ready.ensures.grows c.in_err-exchange.ensures.back.content

pub returns-clause-grows : goal.returns-clause-grows
returns-clause-grows g c = grows_still c.args.patch.now c.args.field.now (g.B.Blocks.state c.args.blocks.now) (g.B.Blocks.state c.prepare.new.blocks) (g.B.Blocks.state c.exchange.new.blocks) c.in_ok-ready.ensures.grows c.in_ok-exchange.ensures.done.given_back.content
