-- The value is the one that stands there.
use Rattle.std.proofs.Common.{◌∙◌, sym, rules, SFits, w64, to_z-of_z}
use Rattle.run_tile.proofs.Picks.{raw-at}
use Rattle.run_tile.proofs.picking.raw_cell.Goals as goal

pub returns : goal.returns
returns c =
    let fits : SFits w64 c.value_at.result = search rules in
    to_z-of_z fits ∙ c.value_at.ensures ∙ sym (raw-at c.args.kind c.args.bytes.now c.args.rank c.requires)
