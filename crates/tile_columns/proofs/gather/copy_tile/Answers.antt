-- One more place has its cell, if its tile is this one.
use Rattle.std.proofs.Common.{◌≡◌, ◌≢◌, ◌<◌, ◌∙◌, arith, below_more, get_or, pos, length, set, get_or-set_same, get_or-set_other, rules, SFits, w64, to_z, of_z}
use Rattle.std.proofs.lemmas.Int.{to_z-of_z}
use Rattle.std.proofs.lemmas.Grind.{common_steps}
use Rattle.tile_columns.proofs.gather.copy_tile.Goals as goal

pub loop-place-preserved : goal.loop-place-preserved
loop-place-preserved c =
    let inv = c.loop-place.invariant in
    let lt : c.loop-place.place < length c.loop-place.all = omega (arith, c.requires.cells, c.args.cells.now.ok.0) in
    let fits : SFits w64 c.copied.result = search rules in
    let before : SFits w64 (get_or c.loop-place.all c.loop-place.place (pos 0)) = search rules in
    record {
      copied = below_more (λ j. get_or c.args.numbers.now j 0 ≡ c.args.number → get_or (set c.loop-place.all c.loop-place.place (to_z w64 (of_z w64 c.copied.result))) j (pos 0) ≡ get_or c.args.tile.now (get_or c.args.ranks.now j 0) (pos 0)) c.loop-place.place
          (λ j l q. let ne : j ≢ c.loop-place.place = omega arith in get_or-set_other c.loop-place.all c.loop-place.place j (to_z w64 (of_z w64 c.copied.result)) (pos 0) ne ∙ inv.copied j l q)
          (λ q. get_or-set_same c.loop-place.all c.loop-place.place (to_z w64 (of_z w64 c.copied.result)) (pos 0) lt ∙ to_z-of_z w64 c.copied.result fits ∙ c.copied.ensures.copied q);
      kept = below_more (λ j. get_or c.args.numbers.now j 0 ≢ c.args.number → get_or (set c.loop-place.all c.loop-place.place (to_z w64 (of_z w64 c.copied.result))) j (pos 0) ≡ get_or c.args.cells.now.items j (pos 0)) c.loop-place.place
          (λ j l q. let ne : j ≢ c.loop-place.place = omega arith in get_or-set_other c.loop-place.all c.loop-place.place j (to_z w64 (of_z w64 c.copied.result)) (pos 0) ne ∙ inv.kept j l q)
          (λ q. get_or-set_same c.loop-place.all c.loop-place.place (to_z w64 (of_z w64 c.copied.result)) (pos 0) lt ∙ to_z-of_z w64 c.copied.result fits ∙ c.copied.ensures.kept q ∙ to_z-of_z w64 (get_or c.loop-place.all c.loop-place.place (pos 0)) before ∙ inv.rest c.loop-place.place (omega arith));
      rest = λ j l. let ne : j ≢ c.loop-place.place = omega arith in get_or-set_other c.loop-place.all c.loop-place.place j (to_z w64 (of_z w64 c.copied.result)) (pos 0) ne ∙ inv.rest j (omega arith);
    }

pub returns : goal.returns
returns c = grind (arith, common_steps)
