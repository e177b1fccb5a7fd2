-- A byte and as many bytes as it says are a name.
use Rattle.std.proofs.Common.{arith}
use Rattle.catalogue.proofs.Sequences.{read_named}
use Rattle.catalogue.proofs.reading.read_name.Goals as goal

pub returns-clause-read : goal.returns-clause-read
returns-clause-read c =
    let taken = c.in-Some-take.ensures.taken in
    rw c.in_ok-name.ensures.same (read_named c.in-Some.ensures (omega arith) taken.1 c.in_ok-name.ensures.named)
