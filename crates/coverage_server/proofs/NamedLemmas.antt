-- A tile that is in the way of a request is one of a coverage that is not known to be intact.
use Rattle.std.proofs.Common.{◌≡◌, ◌⊎◌, ℕ, ◌<◌, ◌≤◌, List, length, get_or, Option, None, Some, Ok, refl, sym, ap, ◌∙◌, subst, inl, inr, Contains}
use Rattle.std.specs.Prelude.{All, slice_get, IsSomeAnd}
use Rattle.std.proofs.lemmas.List.Elements.{All-contains, All-weaker}
use Rattle.std.proofs.lemmas.Option.{slice_get_cases}
use Rattle.arr_core.specs.declared.domain.Axis.{Axis}
use Rattle.arr_core.specs.declared.signature.Signature.{Signature}
use Rattle.arr_core.specs.Domains.{IsBoxOf}
use Rattle.arr_core.specs.Names.{AreDistinct}
use Rattle.arr_core.specs.Stores.{Coverage, Store, found}
use Rattle.arr_core.specs.Tiles.{tile_boxes, tile_box, TileMeets}
use Rattle.arr_core.specs.Fields.{field_place}
use Rattle.catalogue.specs.Signatures.{names_of}
use Rattle.kvp_front.specs.Requests.{Asks, insert_coverage, update_coverage, delete_coverage, list_coverages, describe_coverage, process_coverages, submit_query, step_job, fetch_job, cancel_job, expand_template, process_template}
use Rattle.raster_store.specs.declared.reading.TileAt.{TileAt}
use Rattle.raster_store.specs.Fetches.{HasTile, IsSpelledOf}
use Rattle.raster_store.specs.Snapshots.{held_for}
use Rattle.raster_store.specs.Views.{SnapshotView}
use Rattle.coverage_server.specs.Asking.{TextTyped}
use Rattle.coverage_server.specs.Damage.{IsIntactNamed, AreIntactHeld, IsSpelledNamed, IsSpelledPlace, SpoilsText, SpoilsWrite, SpoilsHeld, Spoils}
use Rattle.coverage_server.specs.Machine.{axes_of}
use Rattle.coverage_server.specs.Runs.{Placed, NamesDamaged, MayBeDamaged, names_for}
use Rattle.coverage_server.specs.Templates.{expansion}
use Rattle.coverage_server.specs.Views.{ServerView, signatures_of}
use Rattle.coverage_server.proofs.DamageLemmas.{named_spelled}
use Rattle.coverage_server.proofs.IntactLemmas.{held_named}
use Rattle.coverage_server.proofs.TileLemmas.{some_out}

text_named : (text : List ℕ) (v : ServerView) (p : Placed) → p.state.store ≡ v.store
    → AreDistinct (names_of (signatures_of v.store)) → All (IsIntactNamed v) p.intact → SpoilsText text v
    → NamesDamaged text p
text_named text v p same apart whole x = (
  x.0,
  subst (λ (s : Store). TextTyped s text (Ok x.0)) (sym same) x.1,
  λ all.
      x.2
      (All-weaker (λ (s : Signature). Contains p.intact s.name) (λ (s : Signature). IsSpelledNamed s.name v)
      (λ s here. named_spelled v apart s.name (All-contains (IsIntactNamed v) p.intact s.name whole here)) x.0.coverages
      all),
)

write_named : (name : List ℕ) (field : ℕ) (box : List Axis) (v : ServerView) → IsIntactNamed v name
    → SpoilsWrite name field box v → ⊥
write_named name field box v whole x =
    some_out (found name v.store)
    {P = λ (c : Coverage). (tile : ℕ) × TileMeets c.domain tile box × (IsBoxOf box (tile_box c.domain tile) → ⊥)
    × (IsSpelledOf name field tile v.content v.store v.indexes → ⊥)}
    (λ c u. u.3 (whole field u.0)) x

-- what is held for a job is damaged only where a coverage is held that is not known to be intact
named_at : (names : List (List ℕ)) (store : Store) (place : ℕ) (at : TileAt) → All (λ (c : Coverage). Contains names c.name) store
    → at.coverage ≡ place → HasTile at store → IsSomeAnd (slice_get store place) (λ (c : Coverage). Contains names c.name)
named_at names store place at all is has = by_place (slice_get_cases store place).1
  where
    there : HasTile at store → slice_get store place ≡ None → ⊥
    there h none =
        let gone : slice_get store at.coverage ≡ None = ap (λ (n : ℕ). slice_get store n) is ∙ none in
        subst (λ (o : Option Coverage). IsSomeAnd o (λ (c : Coverage). (at.field < length c.fields) × (at.tile < length (tile_boxes c.domain)))) gone h

    by_place : ((c : Coverage) × (place < length store) × (slice_get store place ≡ Some c) × (get_or store place c ≡ c)) ⊎ ((length store ≤ place) × (slice_get store place ≡ None))
        → IsSomeAnd (slice_get store place) (λ (c : Coverage). Contains names c.name)
    by_place (inl x) =
        subst (λ (o : Option Coverage). IsSomeAnd o (λ (c : Coverage). Contains names c.name)) (sym x.2)
        (subst (λ (c : Coverage). Contains names c.name) x.3 (all place x.0 x.1))
    by_place (inr x) = absurd (there has x.1)

held_damaged : (number : ℕ) (v : ServerView) (p : Placed) → AreIntactHeld v.content v.held p.held → SpoilsHeld number v
    → IsSomeAnd (held_for number v.held)
    (λ (y : SnapshotView). All (λ (c : Coverage). Contains (names_for number p.held) c.name) y.coverages → ⊥)
held_damaged number v p held x = by_held (held_for number v.held) refl x
  where
    by_held : (o : Option SnapshotView) → held_for number v.held ≡ o
        → IsSomeAnd o (λ y. ((place : ℕ) → IsSpelledPlace v.content y.coverages y.indexes place) → ⊥)
        → IsSomeAnd o (λ (y : SnapshotView). All (λ (c : Coverage). Contains (names_for number p.held) c.name) y.coverages → ⊥)
    by_held None e h = absurd h
    by_held (Some y) e h =
        λ all.
        h (λ place at is has.
        held_named v.content number v.held p.held y held e place (named_at (names_for number p.held) y.coverages place at all is has) at is has)

-- a tile that is in the way of a request is one of a coverage that is not known to be intact
pub spoils_named : (a : Asks) (v : ServerView) (p : Placed) → p.state.store ≡ v.store
    → AreDistinct (names_of (signatures_of v.store)) → All (IsIntactNamed v) p.intact → Spoils a v p.state
    → AreIntactHeld v.content v.held p.held → p.layout.held ≡ v.held → MayBeDamaged a p
spoils_named (insert_coverage name intervals fields) v p same apart whole x held laid = x
spoils_named (update_coverage name field intervals cells) v p same apart whole x held laid =
    λ here.
    let own = All-contains (IsIntactNamed v) p.intact name whole here in
    some_out (found name v.store) {P = λ (c : Coverage). IsSomeAnd (field_place field c.fields)
    (λ k. SpoilsWrite name k (axes_of intervals) v)}
    (λ c y. some_out (field_place field c.fields) {P = λ k. SpoilsWrite name k (axes_of intervals) v}
    (λ k z. write_named name k (axes_of intervals) v own z) y) x
spoils_named (delete_coverage name) v p same apart whole x held laid = x
spoils_named list_coverages v p same apart whole x held laid = x
spoils_named (describe_coverage name) v p same apart whole x held laid = x
spoils_named (process_coverages query) v p same apart whole x held laid = text_named query v p same apart whole x
spoils_named (submit_query query) v p same apart whole x held laid = x
spoils_named (step_job number units) v p same apart whole x held laid =
    subst (λ (l : List SnapshotView). IsSomeAnd (held_for number l) (λ (y : SnapshotView). All (λ (c : Coverage). Contains (names_for number p.held) c.name) y.coverages → ⊥)) (sym laid)
    (held_damaged number v p held x.1)
spoils_named (fetch_job number) v p same apart whole x held laid = x
spoils_named (cancel_job number) v p same apart whole x held laid = x
spoils_named (expand_template template) v p same apart whole x held laid = x
spoils_named (process_template template) v p same apart whole x held laid = (
  x.0,
  subst (λ (s : Store). expansion template s ≡ Ok x.0) (sym same) x.1,
  text_named x.0 v p same apart whole x.2,
)
