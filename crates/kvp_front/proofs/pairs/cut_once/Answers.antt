-- The bytes are cut at the first mark, or are all one part.
use Rattle.std.proofs.Common.{◌+◌}
use Rattle.std.proofs.lemmas.List.{take_rest}
use Rattle.kvp_front.proofs.PairLemmas.{cut_at_first, no_cut}
use Rattle.kvp_front.proofs.pairs.cut_once.Goals as goal

pub returns-in-Some : goal.returns-in-Some
returns-in-Some c =
    let bytes = c.args.bytes.now in
    let place = c.in-Some.place in
    let first = c.in-Some.ensures in
    rw (take_rest bytes (place + 1)) (cut_at_first c.args.mark bytes place first.0.high first.0.before first.1)

pub returns-in-None : goal.returns-in-None
returns-in-None c = no_cut c.args.mark c.args.bytes.now c.in-None.ensures
