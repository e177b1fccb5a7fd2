-- Connections that are served one after the other, at most so many.
use Rattle.std.proofs.Common.{◌≡◌, ℕ, ◌+◌, ◌≤◌, [], ◌∷◌, ◌++◌, length, length-append, refl, sym, subst, arith}
use Rattle.std.specs.Prelude.{IsTrue}
use Rattle.coverage_server.specs.Leaving.{Continues}
use Rattle.coverage_server.specs.Serves.{Ends, IsServed, TellsEnd}
use Rattle.coverage_server.specs.Views.{SessionView}
use Rattle.coverage_server.specs.declared.server.ConnectionEnd.{ConnectionEnd}
use Rattle.coverage_server.proofs.SessionLemmas.{all-append}
use Rattle.rasterd.specs.Sessions.{ServesUpTo}

-- none
pub serves-none : (most : ℕ) (server : SessionView) → ServesUpTo most server server
serves-none most server = ([], omega arith, λ sure p places. (p, places, refl))

-- one
pub serves-one : (e : Ends) (end : ConnectionEnd) (old new : SessionView) → IsServed e end old new → TellsEnd e end → ServesUpTo 1 old new
serves-one e end old new served told = (
  e ∷ [],
  omega arith,
  λ sure p places.
      let after = served sure p places in
      (after.0, after.1, (after.0, end, told, after.2, refl)),
)

-- some, and then others
pub serves-more : (first second both : ℕ) (old mid new : SessionView) → ServesUpTo first old mid → Continues old.coverages mid.coverages → ServesUpTo second mid new
    → first + second ≡ both → ServesUpTo both old new
serves-more first second both old mid new x keeps y sum =
    let long : length (x.0 ++ y.0) ≡ length x.0 + length y.0 = length-append x.0 y.0 in
    let few : length x.0 ≤ first = x.1 in
    let few_more : length y.0 ≤ second = y.1 in (
      x.0 ++ y.0,
      omega (arith, long, few, few_more, sum),
      λ sure p places.
          let before = x.2 sure p places in
          let after = y.2 (subst IsTrue (sym keeps.honest) sure) before.0 before.1 in
          (after.0, after.1, all-append x.0 y.0 p before.0 after.0 before.2 after.2),
    )
