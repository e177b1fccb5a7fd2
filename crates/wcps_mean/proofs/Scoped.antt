-- Calls that leave what they found, and outcomes in a scope that is as it was.
use Rattle.std.proofs.Common.{◌≡◌, ℕ, ℤ, List, drop, insert, ap, ◌∙◌}
use Rattle.wcps_types.specs.Typed.{Typed}
use Rattle.wcps_types.specs.Renamed.{renamed}
use Rattle.wcps_mean.specs.declared.cells.Cells.{Ghosts}
use Rattle.wcps_mean.specs.declared.scope.Scope.{Scope}
use Rattle.wcps_mean.specs.Meaning.{val}
use Rattle.wcps_mean.specs.Reading.{CellsOf, Leaves}
use Rattle.wcps_mean.specs.Scopes.{IsSame, outcome_in, outcome_with, point_in}

-- of a call and a later one
pub leaves-on : {S : Type 0} (g : Ghosts S) (a b c : S) → Leaves g a b → Leaves g b c → Leaves g a c
leaves-on g a b c x y = record { cells = y.cells ∙ x.cells; kept = y.kept ∙ x.kept; intact = λ h. y.intact (x.intact h) }

pub same-on : (a b c : Scope) → IsSame a b → IsSame b c → IsSame a c
same-on a b c x y = record { coverages = y.coverages ∙ x.coverages; iterators = y.iterators ∙ x.iterators; points = y.points ∙ x.points; base = y.base ∙ x.base }

-- the same outcome at the same place
pub reached : (a : Scope) (s t : CellsOf) (cs : List ℕ) (l m p x : List ℤ) (e : Typed) → t ≡ s → cs ≡ a.coverages.now → l ≡ m → p ≡ x
    → val t (renamed cs e) l p ≡ val s (renamed a.coverages.now e) m x
reached a s t cs l m p x e same over at here =
    ap (λ r. val r (renamed cs e) l p) same
    ∙ ap (λ r. val s (renamed r e) l p) over
    ∙ ap (λ r. val s (renamed a.coverages.now e) r p) at
    ∙ ap (λ r. val s (renamed a.coverages.now e) m r) here

same-point : (a b : Scope) → IsSame a b → point_in b ≡ point_in a
same-point a b x = ap (λ n. drop n b.points.items) x.base ∙ ap (drop a.base) x.points

pub outcome-same : (a b : Scope) (s t : CellsOf) (e : Typed) → IsSame a b → t ≡ s → outcome_in b e t ≡ outcome_in a e s
outcome-same a b s t e x same = reached a s t b.coverages.now b.iterators.items a.iterators.items (point_in b) (point_in a) e same x.coverages x.iterators (same-point a b x)

pub with-same : (a b : Scope) (s t : CellsOf) (e : Typed) (axis : ℕ) (y z : ℤ) → IsSame a b → t ≡ s → y ≡ z → outcome_with b e axis y t ≡ outcome_with a e axis z s
with-same a b s t e axis y z x same is =
    reached a s t b.coverages.now b.iterators.items a.iterators.items (insert (point_in b) axis y) (insert (point_in a) axis z) e same x.coverages x.iterators
    (ap (λ p. insert p axis y) (same-point a b x) ∙ ap (insert (point_in a) axis) is)
