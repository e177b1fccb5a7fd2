-- Folds at the places of a frame, over a source of tiles.
use Rattle.std.specs.Prelude.{◌≡◌, ℕ, ◌+◌, ◌*◌, ◌++◌, ℤ, List, [], map, length, slice_index_or, Result}
use Rattle.std.specs.List.{flat_map}
use Rattle.arr_core.specs.Domains.{points, count}
use Rattle.wcps_mean.specs.declared.cell.Outcome.{Outcome}
use Rattle.plan_ir.specs.Bodies.{body_view, condition_view, fold_view}
use Rattle.plan_ir.specs.Units.{bound_times}
use Rattle.tile_kernel.specs.declared.accumulator.Accumulator.{Accumulator}
use Rattle.tile_kernel.specs.Told.{Told, demanded_of, demanded_at}
use Rattle.tile_kernel.specs.Standing.{Stands, AreOf, HaveAtMost, EachTakesIn}
use Rattle.tile_columns.specs.declared.part.Part.{Part}
use Rattle.plan_ir.specs.declared.body.Fold.{Fold}
use Rattle.tile_columns.specs.declared.ground.Ground.{Ground}
use Rattle.tile_columns.specs.declared.bodies.Point.{Point}
use Rattle.tile_columns.specs.declared.bodies.Around.{Around}
use Rattle.tile_columns.specs.declared.bodies.Zoning.{Zoning}
use Rattle.tile_columns.specs.declared.bodies.Zoned.{Zoned}
use Rattle.tile_columns.specs.Condensing.{told_of, under_vars, told_ranked}
use Rattle.tile_columns.specs.declared.source.Tiles.{Ghosts}
use Rattle.tile_columns.specs.Sources.{SourceState, FetchesAtMost}
use Rattle.tile_columns.specs.Meaning.{IsGroundOf, meaning, HasPlaceOver, IsColumnOf, Fetches}
use Rattle.tile_columns.specs.Zones.{key_of, own_of, other_of}

-- a fold has its place over a source under the variables of a frame
pub record FoldHasPlace {K : Type 0} (s : SourceState K) (g : Ground) (f : Fold) (envs : List (List ℤ)) : Type 0 where
  pub signatures : IsGroundOf s g
  pub place : HasPlaceOver s g (fold_view f) envs

-- its condition and its body have theirs, where the last variables are a point of its box
pub record BodiesHavePlace {K : Type 0} (s : SourceState K) (g : Ground) (f : Fold) (envs : List (List ℤ)) : Type 0
  where
    pub signatures : IsGroundOf s g
    pub condition : HasPlaceOver s g (condition_view f.condition) envs
    pub body : HasPlaceOver s g (body_view f.body) envs

-- what its condition and its body give
abbrev pub condition_at : {K : Type 0} → SourceState K → Ground → Fold → List ℤ → Outcome
condition_at s g f = meaning s g (condition_view f.condition)

abbrev pub body_at : {K : Type 0} → SourceState K → Ground → Fold → List ℤ → Outcome
body_at s g f = meaning s g (body_view f.body)

-- what a point adds, the n-th of the box, whose coordinates are the last variables
abbrev pub added : {K : Type 0} → SourceState K → Ground → Fold → ℕ → List ℤ → List Told
added s g f n vars = demanded_of n (condition_at s g f vars) (body_at s g f vars)

-- what points add under the variables of a place, each at its place in the box
abbrev pub added_by : {K : Type 0} → SourceState K → Ground → Fold → List (List ℤ) → List ℤ → List Told
added_by s g f xs vars = flat_map (told_ranked f.domain (condition_at s g f) (body_at s g f) vars) xs

-- what the points of the box add there, one after the other
abbrev pub listed : {K : Type 0} → SourceState K → Ground → Fold → List (List ℤ) → List ℤ → List Told
listed s g f xs vars = told_of (under_vars (condition_at s g f) vars) (under_vars (body_at s g f) vars) 0 xs

-- accumulators, one for each place of a frame, take in what all points of a fold's box add there
abbrev pub TakeInFold : {K : Type 0} → SourceState K → Ground → Fold → List (List ℤ) → List Accumulator
    → List Accumulator → Type 0
TakeInFold s g f envs old new =
    s.intact → EachTakesIn old new (λ k. listed s g f (points f.domain) (slice_index_or envs k []))

-- the same of the points of a part
abbrev pub TakeInBox : {K : Type 0} → SourceState K → Around → Fold → Part → List Accumulator → List Accumulator
    → Type 0
TakeInBox s a f p old new = s.intact
    → EachTakesIn old new (λ k. added_by s a.ground.now f (points p.area) (slice_index_or a.frame.now k []))

-- of the n-th point
abbrev pub TakeInPoint : {K : Type 0} → SourceState K → Point → Fold → List (List ℤ) → List Accumulator
    → List Accumulator → Type 0
TakeInPoint s p f envs old new =
    s.intact → EachTakesIn old new
    (λ k. added s p.ground.now f p.place (slice_index_or envs k [] ++ slice_index_or (points f.domain) p.place []))

-- and of the n-th point, whose coordinates the frame has already
abbrev pub TakeInLast : {K : Type 0} → SourceState K → Point → Fold → List (List ℤ) → List Accumulator
    → List Accumulator → Type 0
TakeInLast s p f envs old new =
    s.intact → EachTakesIn old new (λ k. added s p.ground.now f p.place (slice_index_or envs k []))

-- an accumulator stands for what the places of such a frame add, as points of the box with these ranks
abbrev pub StandsFor : {K : Type 0} → SourceState K → Ground → Fold → List ℕ → List (List ℤ) → Accumulator → Type 0
StandsFor s g f ranks envs a =
    s.intact → Stands a (demanded_at ranks (map (condition_at s g f) envs) (map (body_at s g f) envs))

-- accumulators are a fold's: one for each place of a frame, of its kind, each told of n points at most
pub record AreOfFold (f : Fold) (envs : List (List ℤ)) (n : ℕ) (folds : List Accumulator) : Type 0 where
  pub many : length folds ≡ length envs
  pub kinds : AreOf f.op folds
  pub room : HaveAtMost n folds

-- they are so after a part, each told of as many points more as it has
abbrev pub GrowBy : Fold → Part → List (List ℤ) → List Accumulator → List Accumulator → Type 0
GrowBy f p envs old new = (n : ℕ) → AreOfFold f envs n old → AreOfFold f envs (n + length (points p.area)) new

-- at most so many tiles are fetched as a fold's condition and body ask for at so many points
abbrev pub FetchesPoints : {S : Type 0} → Fold → ℕ → Ghosts S → S → S → Type 0
FetchesPoints f n t old new =
    FetchesAtMost (bound_times n (condition_view f.condition) + bound_times n (body_view f.body)) (t.state old)
    (t.state new)

-- at a point of each place of a frame; at all points of a part at each place; at all points of the box
abbrev pub FetchesPoint : {S : Type 0} → Fold → List (List ℤ) → Ghosts S → S → S → Type 0
FetchesPoint f envs t old new = FetchesPoints f (length envs) t old new

abbrev pub FetchesPart : {S : Type 0} → Fold → Part → Around → Ghosts S → S → S → Type 0
FetchesPart f p a t old new = FetchesPoints f (length a.frame.now * count p.area) t old new

abbrev pub FetchesFold : {S : Type 0} → Fold → List (List ℤ) → Ghosts S → S → S → Type 0
FetchesFold f envs t old new = FetchesPoints f (length envs * count f.domain) t old new

-- a column has what the other body of a fold of zones gives at the places of a frame, and no more tiles are fetched
-- than that asks for there
abbrev pub IsColumnOfOther : {K : Type 0} → SourceState K → Zoning → Fold → List (List ℤ) → List Outcome → Type 0
IsColumnOfOther s z f envs column = IsColumnOf s z.ground.now (other_of f z.zones) envs column

abbrev pub FetchesOther : {S A E : Type 0} → Result A E → Zoning → Fold → List (List ℤ) → Ghosts S → S → S → Type 0
FetchesOther result z f envs t old new = Fetches result z.ground.now (other_of f z.zones) envs t old new

-- keys are those of the places of a frame
abbrev pub AreKeysOf : {K : Type 0} → SourceState K → Zoned → Fold → Type 0
AreKeysOf s z f = IsColumnOf s z.zoning.ground.now (key_of f z.zoning.zones) z.frame.now z.keys.now.column

-- accumulators take in what all points of the box of a fold of zones add, where the keys are those of the places
abbrev pub TakeInZones : {K : Type 0} → SourceState K → Zoned → Fold → List Accumulator → List Accumulator → Type 0
TakeInZones s z f old new = AreKeysOf s z f → TakeInFold s z.zoning.ground.now f z.frame.now old new

abbrev pub TakeInZone : {K : Type 0} → SourceState K → Zoned → Fold → Part → List Accumulator → List Accumulator
    → Type 0
TakeInZone s z f p old new =
    AreKeysOf s z f → s.intact → EachTakesIn old new
    (λ k. added_by s z.zoning.ground.now f (points p.area) (slice_index_or z.frame.now k []))

-- at most so many tiles are fetched as the key of a fold of zones asks for at the places of a frame, and its other two
-- bodies at the points of the box
abbrev pub FetchesByZones : {S : Type 0} → Zoning → Fold → List (List ℤ) → Ghosts S → S → S → Type 0
FetchesByZones z f envs t old new =
    FetchesAtMost (bound_times (length envs)
    (key_of f z.zones) + (bound_times (count f.domain) (own_of f z.zones) + bound_times (count f.domain)
    (other_of f z.zones))) (t.state old) (t.state new)

-- at most so many tiles are fetched as the bodies of a fold of zones ask for at so many points of its box
abbrev pub FetchesOwn : {S : Type 0} → Zoned → Fold → ℕ → Ghosts S → S → S → Type 0
FetchesOwn z f n t old new = FetchesAtMost
    (bound_times n (own_of f z.zoning.zones) + bound_times n (other_of f z.zoning.zones)) (t.state old) (t.state new)

abbrev pub FetchesZones : {S : Type 0} → Zoned → Fold → Ghosts S → S → S → Type 0
FetchesZones z f t old new = FetchesOwn z f (count f.domain) t old new

abbrev pub FetchesZonePart : {S : Type 0} → Zoned → Fold → Part → Ghosts S → S → S → Type 0
FetchesZonePart z f p t old new = FetchesOwn z f (count p.area) t old new
