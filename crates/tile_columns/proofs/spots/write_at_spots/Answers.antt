-- The list is what the slice became.
use Rattle.std.proofs.Common.{◌≡◌, ◌∙◌, ◌++◌, ap, arith, pos, get_or, length, take, drop}
use Rattle.std.proofs.lemmas.List.{take_at}
use Rattle.tile_columns.proofs.spots.write_at_spots.Goals as goal

pub returns : goal.returns
returns c =
    let inv = c.loop-k.invariant in
    let n : length c.loop-k.all ≡ c.args.cells.now.len = omega (arith, c.args.cells.now.ok.0) in
    let back : take c.args.cells.now.len (c.loop-k.all ++ drop (length c.loop-k.all) c.args.cells.now.items) ≡ c.loop-k.all = take_at c.loop-k.all _ c.args.cells.now.len n in
    record {
      places = ap length back ∙ omega (arith, n, c.args.cells.now.ok.0);
      written = λ want e k d lt. ap (λ l. get_or l (get_or c.args.spots.now k d).place (pos 0)) back ∙ inv.written want e k d (omega arith);
      kept = λ want e place h. ap (λ l. get_or l place (pos 0)) back ∙ inv.kept want e place h;
    }
