-- What bodies of one combination mean over a source of tiles.
use Rattle.std.specs.Prelude.{◌≡◌, ℕ, ◌≤◌, ℤ, List, map, length, Option, Result, OnOk}
use Rattle.std.specs.List.{All}
use Rattle.arr_core.specs.declared.signature.Signature.{Signature}
use Rattle.wcps_mean.specs.declared.cell.Outcome.{Outcome}
use Rattle.plan_ir.specs.Bodies.{Tree}
use Rattle.plan_ir.specs.Run.{run}
use Rattle.plan_ir.specs.Plans.{signature_of}
use Rattle.plan_ir.specs.Planned.{cells_of}
use Rattle.tile_columns.specs.declared.ground.Ground.{Ground}
use Rattle.tile_columns.specs.Evaluating.{HasPlace, fetches}
use Rattle.tile_columns.specs.declared.source.Tiles.{Ghosts}
use Rattle.tile_columns.specs.Sources.{SourceState, FetchesAtMost}

-- a ground is of a source: it has the signatures of its coverages
abbrev pub IsGroundOf : {K : Type 0} → SourceState K → Ground → Type 0
IsGroundOf s g = g.signatures.now ≡ s.coverages

-- the signatures of the coverages that a combination chooses, by their places there
abbrev pub chosen : {K : Type 0} → SourceState K → Ground → ℕ → Option Signature
chosen s g = signature_of s.coverages g.coverages.now

-- what a body gives under variables
abbrev pub meaning : {K : Type 0} → SourceState K → Ground → Tree → List ℤ → Outcome
meaning s g body = run (cells_of s.cells g.coverages.now) g.registers.now body

-- a body has its place under the variables of a frame
abbrev pub HasPlaceOver : {K : Type 0} → SourceState K → Ground → Tree → List (List ℤ) → Type 0
HasPlaceOver s g body envs = HasPlace (chosen s g) (length g.registers.now) body envs

-- a column has what a body gives at the places of a frame
abbrev pub IsColumnOf : {K : Type 0} → SourceState K → Ground → Tree → List (List ℤ) → List Outcome → Type 0
IsColumnOf s g body envs column = s.intact → column ≡ map (meaning s g body) envs

-- a call that was done fetched no more tiles than a body asks for at the places of a frame, as `fetches` counts them
abbrev pub Fetches : {S A E : Type 0} → Result A E → Ground → Tree → List (List ℤ) → Ghosts S → S → S → Type 0
Fetches result g body envs t old new =
    OnOk result ((n : ℕ) → All (λ (e : List ℤ). n ≤ length e) envs
    → FetchesAtMost (fetches (chosen (t.state old) g) n envs body) (t.state old) (t.state new))
