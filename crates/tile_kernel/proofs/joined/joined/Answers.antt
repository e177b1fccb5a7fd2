-- What was joined is what the condenser keeps of the values of both, one list behind the other.
use Rattle.std.proofs.Common.{refl, arith}
use Rattle.std.proofs.lemmas.Int.{ints}
use Rattle.tile_kernel.proofs.Merges.{keeps_joined}
use Rattle.tile_kernel.proofs.joined.joined.Goals as goal

pub returns-clause-kept : goal.returns-clause-kept
returns-clause-kept c = λ zs ws h g.
    keeps_joined c.args.a.now.op c.args.a.now c.args.b.now _ zs ws refl
    (record { sum = omega (arith, ints); trues = refl; product = c.with.ensures; best = c.best_of.ensures; all = c.both.ensures; some = c.either.ensures }) h g
