-- There are no more commas than bytes.
use Rattle.std.proofs.Common.{arith, length-drop, length-take}
use Rattle.std.proofs.lemmas.List.{take_rest}
use Rattle.kvp_front.proofs.cells.commas_in.Goals as goal

pub bytes-preserved : goal.bytes-preserved
bytes-preserved c =
    let rest = c.bytes.rest.now in
    rw (take_rest rest 128) (omega (arith, length-drop 128 rest, length-take 128 rest))
