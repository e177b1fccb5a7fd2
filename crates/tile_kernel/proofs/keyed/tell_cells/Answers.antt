-- One more cell has been told, and in the end all of them.
use Rattle.std.proofs.Common.{◌<◌, ◌∙◌, length, refl, arith}
use Rattle.tile_kernel.proofs.Keys.{keyed_more, keyed_whole}
use Rattle.tile_kernel.proofs.keyed.tell_cells.Goals as goal

pub tell_keyed-requires-clause-room : goal.tell_keyed-requires-clause-room
tell_keyed-requires-clause-room g c = λ k d l.
    let within : k < length c.args.folds.now = omega (arith, l, c.loop-j.invariant.length) in
    let more = c.loop-j.invariant.room k d within in
    let few = c.requires.room k d within in
    omega (arith, more, few)

pub loop-j-preserved : goal.loop-j-preserved
loop-j-preserved g c =
    let inv = c.loop-j.invariant in
    record {
      stands = keyed_more g.C.Condenser.stands c.args.folds.now c.loop-j.folds c.tell_keyed.new.folds (g.N.Numbers.numbers c.args.numbers.now) c.args.places.now c.args.keys.now c.args.column.now c.loop-j.j _ c.at.result c.at-in-loop-j.result
          c.requires.places c.requires.keys (omega arith) refl c.at.ensures c.at-in-loop-j.ensures inv.length inv.stands c.tell_keyed.ensures.stands;
      room = λ k d l.
          let one = c.tell_keyed.ensures.room k d (omega (arith, l, inv.length)) in
          let before = inv.room k d l in
          omega (arith, one, before);
      length = c.tell_keyed.ensures.length ∙ inv.length;
    }

pub returns-clause-stands : goal.returns-clause-stands
returns-clause-stands g c =
    keyed_whole g.C.Condenser.stands c.args.folds.now c.loop-j.folds (g.N.Numbers.numbers c.args.numbers.now) c.args.places.now c.args.keys.now c.args.column.now c.loop-j.j c.requires.places c.requires.keys (omega arith) c.loop-j.invariant.stands

pub returns-clause-room : goal.returns-clause-room
returns-clause-room g c = λ k d l. let r = c.loop-j.invariant.room k d l in omega (arith, r)
