-- Positions that were tested.
use Rattle.std.proofs.Common.{◌≡◌, ℤ, sym, ap, ◌∙◌}
use Rattle.wcps_mean.specs.declared.cell.PointFault.{PointFault}
use Rattle.wcps_mean.specs.declared.cell.Outcome.{Outcome}
use Rattle.wcps_mean.specs.declared.cell.Outcome.TheVariants.{Fault}
use Rattle.wcps_mean.specs.Cells.{at_position}

-- the test of a position as the code made it is that of the definition
same-position : (o x : Outcome) (lo hi lo' hi' : ℤ) (go : ℤ → Outcome) → x ≡ o → lo' ≡ lo → hi' ≡ hi → at_position x lo' hi' go ≡ at_position o lo hi go
same-position o x lo hi lo' hi' go e f h = ap (λ y. at_position y lo' hi' go) e ∙ ap (λ l. at_position o l hi' go) f ∙ ap (λ l. at_position o lo l go) h

pub position-fault : (o x : Outcome) (lo hi lo' hi' : ℤ) (go : ℤ → Outcome) (f : PointFault) → x ≡ o → lo' ≡ lo → hi' ≡ hi → ((go : ℤ → Outcome) → at_position x lo' hi' go ≡ Fault f) → Fault f ≡ at_position o lo hi go
position-fault o x lo hi lo' hi' go f e l h t = sym (t go) ∙ same-position o x lo hi lo' hi' go e l h

pub position-value : (o x : Outcome) (lo hi lo' hi' : ℤ) (go : ℤ → Outcome) (z : ℤ) → x ≡ o → lo' ≡ lo → hi' ≡ hi → ((go : ℤ → Outcome) → at_position x lo' hi' go ≡ go z) → go z ≡ at_position o lo hi go
position-value o x lo hi lo' hi' go z e l h t = sym (t go) ∙ same-position o x lo hi lo' hi' go e l h
