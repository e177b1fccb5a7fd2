-- All sessions of a list are as one, and a disk without a byte holds no coverage.
use Rattle.std.proofs.Common.{[], refl, inl}
use Rattle.coverage_server.proofs.SessionLemmas.{composed}
use Rattle.coverage_server.proofs.laws.sessions_compose.Goals as goal

pub returns : goal.returns
returns c = record { all = composed; begin = record { indexes = []; lists = inl (refl, refl, refl); intact = tt } }
