-- What the second close leaves, it leaves of what the first one left, without its jobs.
use Rattle.std.proofs.Common.{◌∙◌, ap, subst, inl, inr}
use Rattle.block_file.specs.declared.fault.CloseFault.{CloseFault}
use Rattle.coverage_server.specs.Disk.{disk_view}
use Rattle.coverage_server.specs.Sessions.{IsClosedTo, IsNotClosed}
use Rattle.coverage_server.specs.Views.{SessionView}
use Rattle.coverage_server.proofs.ClosedLemmas.{closed_again}
use Rattle.coverage_server.proofs.LettingLemmas.{err_both}
use Rattle.coverage_server.proofs.FaultLemmas.{ok_weaker}
use Rattle.coverage_server.proofs.server.Server.close_with_retry.Goals as goal

pub returns-in-NoMemory-clause-left : goal.returns-in-NoMemory-clause-left
returns-in-NoMemory-clause-left g c =
    let mid = c.in-Err.refused.server in
    let gone = c.let_go.ensures in
    err_both c.close-in-NoMemory.result _ _ _
    (λ refused x y. inr (record {
      mid = mid;
      first = subst (λ (f : CloseFault). IsNotClosed f c.args.self.coverages mid.coverages) c.in-NoMemory.is c.in-Err.ensures.refused;
      desk = c.in-Err.ensures.desk;
      second = subst (λ (v : SessionView). IsNotClosed refused.fault v.coverages refused.server.coverages) gone x;
      jobs = y ∙ ap (λ (v : SessionView). v.desk) gone;
    }))
    c.close-in-NoMemory.ensures.refused c.close-in-NoMemory.ensures.desk

pub returns-in-DiskFault-clause-left : goal.returns-in-DiskFault-clause-left
returns-in-DiskFault-clause-left g c = inl (c.in-DiskFault.is, c.in-Err.ensures.refused, c.in-Err.ensures.desk)

pub returns-in-NoMemory-clause-closed : goal.returns-in-NoMemory-clause-closed
returns-in-NoMemory-clause-closed g c =
    ok_weaker c.close-in-NoMemory.result _ _
    (λ disk closed. closed_again c.in-Err.refused.fault c.args.self.coverages c.in-Err.refused.server.coverages
    (disk_view g.D.Disk disk) c.in-NoMemory.is c.in-Err.ensures.refused
    (subst (λ (v : SessionView). IsClosedTo v.coverages (disk_view g.D.Disk disk))
    c.let_go.ensures closed))
    c.close-in-NoMemory.ensures.closed
