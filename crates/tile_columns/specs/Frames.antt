-- Frames: the numbers of all variables at each place of a column.
use Rattle.std.specs.Prelude.{◌≡◌, ℕ, ◌+◌, ◌/◌, ◌%◌, ◌<◌, ◌≤◌, ℤ, pos, ◌+ℤ◌, ◌≤ℤ◌, List, [], ◌∷◌, ◌++◌, map, length, slice_index_or}
use Rattle.std.specs.List.{All, range_with_len}
use Rattle.arr_core.specs.Limits.{max_tile}
use Rattle.arr_core.specs.declared.domain.Axis.{Axis}
use Rattle.arr_core.specs.Domains.{gap, count}
use Rattle.tile_columns.specs.declared.frame.Variable.{Variable}
use Rattle.tile_columns.specs.declared.numbers.Turn.{Turn}
use Rattle.tile_columns.specs.declared.frame.Variable.TheVariants as variable

-- the coordinate of an axis at a place: each coordinate comes so many times, one after the other, and after the last
-- one the first one comes again
abbrev pub turn : ℤ → ℤ → ℕ → ℕ → ℤ
turn lo hi every place = lo +ℤ pos ((place / every) % (gap lo hi + 1))

-- where an axis stands at a place: how far above its first coordinate, and how often this coordinate has come
abbrev pub IsTurnAt : ℕ → ℕ → ℕ → Turn → Type 0
IsTurnAt every last place t = (t.step ≡ (place / every) % (last + 1)) × (t.times ≡ place % every)

-- the number of a variable at a place
abbrev pub number_of : ℕ → Variable → ℤ
number_of place (variable.Const z) = z
number_of place (variable.Axis lo hi every) = turn lo hi every place
number_of place (variable.Column zs) = slice_index_or zs.items place (pos 0)

-- the numbers of all variables at a place
abbrev pub environment : List Variable → ℕ → List ℤ
environment variables place = map (number_of place) variables

-- place by place
abbrev pub environments : ℕ → List Variable → List (List ℤ)
environments places variables = map (environment variables) (range_with_len 0 places)

-- variables with further numbers at each place, behind those that were there
abbrev pub Adds : (ℕ → List ℤ) → List Variable → List Variable → Type 0
Adds more old new = (place : ℕ) → environment new place ≡ environment old place ++ more place

-- the number at a place, alone
abbrev pub number_there : List ℤ → ℕ → List ℤ
number_there zs place = slice_index_or zs place (pos 0) ∷ []

-- a list made from a function of the place
abbrev pub by_place : {X : Type 0} → ℕ → (ℕ → X) → List X
by_place places f = map f (range_with_len 0 places)

-- a variable has a number at each place
abbrev pub HasPlaces : ℕ → Variable → Type 0
HasPlaces places (variable.Const z) = Unit {0}
HasPlaces places (variable.Axis lo hi every) = (lo ≤ℤ hi) × (0 < every)
HasPlaces places (variable.Column zs) = length zs.items ≡ places

-- if each variable has a number at each place before a call, that is so after it
abbrev pub StayWhole : ℕ → List Variable → List Variable → Type 0
StayWhole places old new = All (HasPlaces places) old → All (HasPlaces places) new

pub record IsFrame (places : ℕ) (variables : List Variable) : Type 0 where
  pub few : places ≤ max_tile
  pub whole : All (HasPlaces places) variables

-- with further variables, which have the same numbers at each place
abbrev pub under : List (List ℤ) → List ℤ → List (List ℤ)
under envs numbers = map (λ e. e ++ numbers) envs

-- with one more variable, which has a number for each place
abbrev pub extended : List (List ℤ) → List ℤ → List (List ℤ)
extended envs zs = map (λ k. slice_index_or envs k [] ++ slice_index_or zs k (pos 0) ∷ [])
    (range_with_len 0 (length envs))

-- the coordinates of all axes at a place, the last one fastest
abbrev pub turns : List Axis → ℕ → List ℤ
turns [] place = []
turns (a ∷ axes) place = turn a.lo a.hi (count axes) place ∷ turns axes place

-- a variable has a number at this place
abbrev pub TellsAt : ℕ → Variable → Type 0
TellsAt place (variable.Const z) = Unit {0}
TellsAt place (variable.Axis lo hi every) = (lo ≤ℤ hi) × (0 < every)
TellsAt place (variable.Column zs) = place < length zs.items
