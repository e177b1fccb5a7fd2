-- A fault is kept where none was there before it, else the earlier one stays.
use Rattle.std.proofs.Common.{refl, sym, ap, Some}
use Rattle.wcps_mean.proofs.Feeds.{fed_fault, else_fault, else_kept}
use Rattle.wcps_mean.proofs.running.Running.add.Goals as goal

pub returns-in-None-clause-fed : goal.returns-in-None-clause-fed
returns-in-None-clause-fed c = λ outs h. fed_fault c.args.self.now _ outs c.args.o c.in-Fault.f c.in-Fault.is (record { op = refl; sum = refl; product = refl; best = refl; all = refl; some = refl; trues = refl }) refl (ap (λ o. else_fault o (Some c.in-Fault.f)) (sym c.in-None.is)) h

pub returns-in_default-clause-fed : goal.returns-in_default-clause-fed
returns-in_default-clause-fed c = λ outs h. fed_fault c.args.self.now _ outs c.args.o c.in-Fault.f c.in-Fault.is (record { op = refl; sum = refl; product = refl; best = refl; all = refl; some = refl; trues = refl }) refl (else_kept _ _ c.in_default.not-None) h
