-- The first place of a number is that of the job with it, and without such a place there is no such job.
use Rattle.job_desk.proofs.Places.{found}
use Rattle.job_desk.proofs.job.place_of.Goals as goal

pub returns : goal.returns
returns c = found c.args.number c.args.jobs.now c.position_of.result c.position_of.ensures
