-- Want of memory says nothing of room, of which there is none exactly where too few blocks are free.
use Rattle.std.proofs.Common.{arith}
use Rattle.std.proofs.lemmas.Result.{err_from_is_err_and}
use Rattle.block_file.proofs.block_file.BlockFileBlocks.take.Goals as goal

pub returns-in_err-taken-clause-room : goal.returns-in_err-taken-clause-room
returns-in_err-taken-clause-room g c =
    let p = err_from_is_err_and c.from_residual.result c.from_residual.ensures.1 in
    rw (← c.self.view_is, p.1, p.2) (λ e. cc, λ lt. absurd (omega (arith, c.free.ensures.free)))

pub returns-in_err-reserve-clause-room : goal.returns-in_err-reserve-clause-room
returns-in_err-reserve-clause-room g c =
    let p = err_from_is_err_and c.from_residual-in_err-reserve.result c.from_residual-in_err-reserve.ensures.1 in
    rw (← c.self.view_is, p.1, p.2) (λ e. cc, λ lt. absurd (omega (arith, c.free.ensures.free)))

pub returns-clause-room : goal.returns-clause-room
returns-clause-room g c = rw (← c.self.view_is) (λ e. cc, λ lt. absurd (omega (arith, c.free.ensures.free)))
