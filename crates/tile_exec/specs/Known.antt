-- What is known of an item whose body has a key.
use Rattle.std.specs.Prelude.{◌≡◌, ℕ, ◌+◌, ◌-◌, ◌*◌, ◌<◌, ◌≤◌, ◌⊎◌, ℤ, List, [], ◌∷◌, length, slice_get, Option, Some, None, IfSome}
use Rattle.std.specs.List.{All, Contains}
use Rattle.arr_core.specs.Limits.{max_tile}
use Rattle.arr_core.specs.declared.domain.Axis.{Axis}
use Rattle.arr_core.specs.Domains.{points, count, IsInside, IsBoxOf}
use Rattle.wcps_mean.specs.declared.cell.Outcome.{Outcome}
use Rattle.wcps_mean.specs.declared.cell.Outcome.TheVariants.{Value}
use Rattle.plan_ir.specs.declared.body.Body.{Body}
use Rattle.plan_ir.specs.declared.plan.Field.{Field}
use Rattle.plan_ir.specs.declared.plan.Item.{Item}
use Rattle.plan_ir.specs.Bodies.{Tree, body_view}
use Rattle.plan_ir.specs.Placed.{IsPlaced, spans}
use Rattle.plan_ir.specs.Planned.{cells_of}
use Rattle.plan_ir.specs.Plans.{FieldBody, ItemTree, item_view}
use Rattle.plan_ir.specs.Run.{run}
use Rattle.plan_ir.specs.Units.{bound_times}
use Rattle.tile_kernel.specs.Columns.{outcome_at}
use Rattle.tile_columns.specs.declared.ground.Ground.{Ground}
use Rattle.tile_columns.specs.declared.zones.Key.{Key}
use Rattle.tile_columns.specs.declared.source.Tiles.{Ghosts}
use Rattle.tile_columns.specs.Sources.{SourceState, FetchesAtMost}
use Rattle.tile_columns.specs.Meaning.{chosen, meaning, HasPlaceOver, IsColumnOf}
use Rattle.tile_columns.specs.Keys.{key_in, fold_of, IsFoundKey}
use Rattle.tile_exec.specs.declared.known.KnownOutcome.{KnownOutcome}
use Rattle.tile_exec.specs.declared.known.Known.{Known}
use Rattle.tile_exec.specs.declared.samples.Sample.{Sample}
use Rattle.wcps_mean.specs.Reading.{CellsOf}

-- where the key has the number, the body has the outcome beside it
abbrev pub IsKnownAt : CellsOf → List Outcome → ℕ → Tree → Tree → KnownOutcome → Type 0
IsKnownAt s regs depth key body k =
    (q : List ℤ) → length q ≡ depth → run s regs key q ≡ Value k.number → run s regs body q ≡ k.outcome

-- what is known of a body under so many variables, by the key that is found where it was
abbrev pub IsKnownOf : CellsOf → List Outcome → ℕ → Tree → Known → Type 0
IsKnownOf s regs depth body k = All (IsKnownAt s regs depth (key_in k.zones body) body) k.outcomes.items

-- what is known of an item, if anything is
abbrev pub IsKnown : CellsOf → List Outcome → ItemTree → Option Known → Type 0
IsKnown s regs i None = Unit {0}
IsKnown s regs i (Some k) = All (λ (f : FieldBody). IsKnownOf s regs (length i.domain) f.body k) i.fields

-- the same over a source, and of a body
abbrev pub Knows : {K : Type 0} → SourceState K → Ground → Item → Option Known → Type 0
Knows s g i known = s.intact → IsKnown (cells_of s.cells g.coverages.now) g.registers.now (item_view i) known

abbrev pub KnowsBody : {K : Type 0} → SourceState K → Ground → ℕ → Tree → Option Known → Type 0
KnowsBody s g depth body known =
    s.intact → IfSome known (IsKnownOf (cells_of s.cells g.coverages.now) g.registers.now depth body)

-- and of a fold of zones with a key, over a box
abbrev pub KnowsFold : {K : Type 0} → SourceState K → Ground → List Axis → Key → Option Known → Type 0
KnowsFold s g area k known = KnowsBody s g (length area) (fold_of k) known

-- an outcome stands beside a key in what is known
pub record IsKnownPair (known : List KnownOutcome) (k o : Outcome) : Type 0 where
  pub pair : KnownOutcome
  pub there : Contains known pair
  pub key : k ≡ Value pair.number
  pub outcome : pair.outcome ≡ o

-- each outcome stands beside its key
pub record AreKnownPairs (known : List KnownOutcome) (keys outcomes : List Outcome) : Type 0 where
  pub many : length outcomes ≡ length keys
  pub each : (k : ℕ) → k < length keys → IsKnownPair known (outcome_at keys k) (outcome_at outcomes k)

-- the point of a sample
abbrev pub point_of : Sample → List ℤ
point_of x = x.point.items

-- a number of a key, at a point of a box
pub record IsSampleOf {K : Type 0} (s : SourceState K) (g : Ground) (area : List Axis) (key : Tree) (x : Sample) : Type
    0 where
  pub inside : IsInside area (point_of x)
  pub number : s.intact → meaning s g key (point_of x) ≡ Value x.number

-- samples of a key
abbrev pub AreSamples : {K : Type 0} → SourceState K → Ground → List Axis → Body → List Sample → Type 0
AreSamples s g area key samples = All (IsSampleOf s g area (body_view key)) samples

-- at most so many tiles are fetched as so many evaluations of a body ask for
abbrev pub FetchesTimes : {S : Type 0} → ℕ → Body → Ghosts S → S → S → Type 0
FetchesTimes n b t old new = FetchesAtMost (bound_times n (body_view b)) (t.state old) (t.state new)

-- what samples of a fold's key tell is known of the fold
abbrev pub IsKnownBy : {K : Type 0} → SourceState K → Ground → List Axis → Key → List Sample → Known → Type 0
IsKnownBy s g area k samples known =
    AreSamples s g area k.body.now samples → KnowsFold s g area k (Some known)

-- a sample with the point at a place of a box, where the key has its number
pub record IsPointOf (part : List Axis) (place : ℕ) (k : Outcome) (x : Sample) : Type 0 where
  pub key : k ≡ Value x.number
  pub there : slice_get (points part) place ≡ Some (point_of x)
  pub inside : IsInside part (point_of x)

-- each sample afterwards was there, or is of that place
abbrev pub AddsPoint : List Axis → ℕ → Outcome → List Sample → List Sample → Type 0
AddsPoint part place key old new = All (λ (x : Sample). Contains old x ⊎ IsPointOf part place key x) new

-- a sample of one of the places of a box, whose keys are these
pub record IsPointIn (part : List Axis) (keys : List Outcome) (x : Sample) : Type 0 where
  pub place : ℕ
  pub below : place < length keys
  pub is : IsPointOf part place (outcome_at keys place) x

abbrev pub AddsPoints : List Axis → List Outcome → List Sample → List Sample → Type 0
AddsPoints part keys old new = All (λ (x : Sample). Contains old x ⊎ IsPointIn part keys x) new

-- the number of a sample beside the outcome at its place
pub record IsPairOf (samples : List Sample) (outcomes : List Outcome) (k : KnownOutcome) : Type 0 where
  pub place : ℕ
  pub below : place < length samples
  pub sample : Sample
  pub there : slice_get samples place ≡ Some sample
  pub number : k.number ≡ sample.number
  pub outcome : k.outcome ≡ outcome_at outcomes place

pub record ArePairs (samples : List Sample) (outcomes : List Outcome) (pairs : List KnownOutcome) : Type 0 where
  pub many : length pairs ≡ length samples
  pub each : All (IsPairOf samples outcomes) pairs

-- a box is part of another one, and small enough for a column
abbrev pub IsTilePart : List Axis → List Axis → Type 0
IsTilePart area part = IsBoxOf area part × (count part ≤ max_tile)

-- a key has its place over a box
abbrev pub IsKeyPlaced : {K : Type 0} → SourceState K → Ground → List Axis → Body → Type 0
IsKeyPlaced s g area key = IsPlaced (chosen s g) (length g.registers.now) (spans area) (body_view key)

-- a fold of zones with its key has its place over a box
pub record IsKeyedOver {K : Type 0} (s : SourceState K) (g : Ground) (area : List Axis) (k : Key) : Type 0 where
  pub found : IsFoundKey (length area) (fold_of k) k
  pub placed : IsPlaced (chosen s g) (length g.registers.now) (spans area) (fold_of k)

-- the same of a part of a box
pub record IsKeyedAt {K : Type 0} (s : SourceState K) (g : Ground) (part : List Axis) (k : Key) : Type 0 where
  pub some : 0 < count part
  pub found : IsFoundKey (length part) (fold_of k) k
  pub body : HasPlaceOver s g (fold_of k) (points part)
  pub key : HasPlaceOver s g (body_view k.body.now) (points part)

-- at most so many tiles are fetched as so many evaluations of a key, and of its fold, ask for
abbrev pub FetchesBy : {S : Type 0} → Key → ℕ → ℕ → Ghosts S → S → S → Type 0
FetchesBy k keys folds t old new =
    FetchesAtMost (bound_times keys (body_view k.body.now) + bound_times folds (fold_of k)) (t.state old) (t.state new)

-- how often a key is evaluated besides at the points of an item: at samples of a tile, and twice at the points of a
-- tile
abbrev pub more_keys : ℕ
more_keys = 3 * max_tile

-- all that is done with a key at the first tile of a box costs no more than the body at the points of the tile
pub record Pays (times : ℕ) (area part : List Axis) : Type 0 where
  pub some : 2 ≤ count part
  pub cheap : count area + more_keys ≤ (count part - 2) * times

-- the key of an item of one field without binds
pub record IsKeyOfItem (i : Item) (part : List Axis) (k : Key) : Type 0 where
  pub binds : i.binds.items ≡ []
  pub field : Field
  pub fields : i.fields.items ≡ field ∷ []
  pub found : IsFoundKey (length i.domain) (body_view field.body) k
  pub pays : Pays k.times i.domain part

-- a column has what a fold of zones gives at the points of a part, if what is known is so
abbrev pub IsColumnBy : {K : Type 0} → SourceState K → Ground → List Axis → Key → Option Known → List Outcome → Type 0
IsColumnBy s g part k known column =
    KnowsBody s g (length part) (fold_of k) known → IsColumnOf s g (fold_of k) (points part) column

-- if there is a column, it is so
abbrev pub IfColumnBy : {K : Type 0} → SourceState K → Ground → List Axis → Key → Option Known → Option (List Outcome)
    → Type 0
IfColumnBy s g part k known column = IfSome column (IsColumnBy s g part k known)
