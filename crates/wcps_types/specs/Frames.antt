-- Scopes as lists of names.
use Rattle.std.specs.Prelude.{ℕ, List, [], ◌++◌}
use Rattle.wcps_types.specs.declared.frames.Frames.{Frames}
use Rattle.wcps_types.specs.declared.frames.Frames.TheVariants as frames

-- all names, outermost first
abbrev pub names_in : Frames → List (List ℕ)
names_in frames.Outermost = []
names_in (frames.Within' p outer names) = names_in outer ++ names.now
