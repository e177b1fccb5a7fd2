-- Where one tells no fault, or one at a higher place, what the other tells is the first fault of all points.
use Rattle.std.proofs.Common.{sym, subst, ◌++◌, arith}
use Rattle.tile_kernel.specs.Told.{IsFirst}
use Rattle.tile_kernel.proofs.Faults.{left_alone, right_alone, right_first}
use Rattle.tile_kernel.proofs.first_fault.FirstFault.least.Goals as goal

pub returns-in-None : goal.returns-in-None
returns-in-None c = λ told more h g. left_alone c.args.self.fault c.args.self.place told more h (subst (λ f. IsFirst f c.args.other.place more) c.in-None.is g)

pub returns-in-None-fault : goal.returns-in-None-fault
returns-in-None-fault c = λ told more h g. right_alone c.args.other.fault c.args.other.place told more (subst (λ f. IsFirst f c.args.self.place told) c.in-None-fault.is h) g

pub returns-in-Some-fault : goal.returns-in-Some-fault
returns-in-Some-fault c = λ told more h g.
    subst (λ f. IsFirst f c.args.other.place (told ++ more)) (sym c.in-Some.is)
    (right_first c.in-Some-fault.field-0 c.in-Some.field-0 c.args.self.place c.args.other.place told more (omega arith)
    (subst (λ f. IsFirst f c.args.self.place told) c.in-Some-fault.is h) (subst (λ f. IsFirst f c.args.other.place more) c.in-Some.is g))
