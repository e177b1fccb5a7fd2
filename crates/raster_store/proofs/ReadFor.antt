-- What a number reads: the coverages that are held for it, and where nothing is, those of the store.
use Rattle.std.proofs.Common.{◌≡◌, ℕ, zero, suc, ◌<◌, nat_eq, Bool, true, false, cond, List, [], ◌∷◌, length, get_or, refl, sym, ap, inl, inr, Option, Some, None}
use Rattle.std.specs.Prelude.{◌⊎◌, IsSomeAnd, option_map}
use Rattle.std.specs.Option.{option_or}
use Rattle.block_file.specs.State.{BlocksState}
use Rattle.raster_store.specs.declared.held.Held.{Held}
use Rattle.raster_store.specs.declared.reading.TileAt.{TileAt}
use Rattle.raster_store.specs.declared.snapshot.Snapshot.{Snapshot}
use Rattle.raster_store.specs.Views.{RasterView, SnapshotView}
use Rattle.raster_store.specs.Decoded.{Kept}
use Rattle.raster_store.specs.Fetches.{HasTile}
use Rattle.raster_store.specs.Holding.{coverages_of, indexes_of, snapshots_of, coverages_for, IsHeld, IsHeldAt, NoneHeld, IsStore}
use Rattle.raster_store.specs.Snapshots.{as_held, held_for, held_view, OnHeldFor}
use Rattle.raster_store.proofs.Snapshots.{at_job, held_within, reads_present, the_held, unheld}
use Rattle.raster_store.proofs.Versions.{Alone, Serves, alone, serves_own, serves_job}

pub for_held : (job : ℕ) (own : List Held) (xs : List Snapshot) (place : ℕ) (x : Snapshot) → IsHeldAt job xs place → x ≡ get_or xs place x → coverages_for job own xs ≡ x.coverages.items
for_held job own [] place x is was = absurd is
for_held job own (y ∷ xs) zero x is was = rw is (ap (λ (z : Snapshot). z.coverages.items) (sym was))
for_held job own (y ∷ xs) (suc place) x is was = rw is.0 (for_held job own xs place x is.1 was)

pub for_none : (job : ℕ) (own : List Held) (xs : List Snapshot) → NoneHeld job xs → coverages_for job own xs ≡ own
for_none job own [] none = refl
for_none job own (x ∷ xs) none = rw none.0 (for_none job own xs none.1)

-- something is held for a number, at its place, or nothing is
is_held_or_none : (job : ℕ) (xs : List Snapshot) → ((place : ℕ) × IsHeldAt job xs place) ⊎ NoneHeld job xs
is_held_or_none job [] = inr tt
is_held_or_none job (x ∷ xs) = by_first (nat_eq x.job job) refl (is_held_or_none job xs)
  where
    by_first : (b : Bool) → nat_eq x.job job ≡ b → ((place : ℕ) × IsHeldAt job xs place) ⊎ NoneHeld job xs → ((place : ℕ) × IsHeldAt job (x ∷ xs) place) ⊎ NoneHeld job (x ∷ xs)
    by_first true is rest = inl (0, is)
    by_first false is (inl at) = inl (suc at.0, (is, at.1))
    by_first false is (inr none) = inr (is, none)

-- a store as callers see it
abbrev pub seen : {B : Type 0} → (B → BlocksState) → B → ℕ → List Held → List Snapshot → RasterView B
seen state b fetched own xs = record {
  coverages = coverages_of (state b).content own;
  indexes = indexes_of own;
  snapshots = snapshots_of (state b).content xs;
  fetched = fetched;
  blocks = b;
}

-- there is what a number reads where something is held for it, or where it is 0
view_there : {B : Type 0} (o : Option SnapshotView) (v : RasterView B) (job : ℕ) → (o ≡ None → job ≡ 0) → IsSomeAnd (option_or (option_map (as_held v) o) (cond (nat_eq job 0) (Some v) None)) (λ u. Unit {0})
view_there (Some x) v job known = tt
view_there None v job known = rw (known refl) tt

-- What a number reads is a store by itself, of which what is kept is true.
pub record Reads {B : Type 0} (state : B → BlocksState) (b : B) (fetched next : ℕ) (kept : Kept) (own : List Held) (xs : List Snapshot) (job : ℕ) (held : List Held) : Type 0 where
  pub is_held : IsHeld (state b) held
  pub found : held_view job (seen state b fetched own xs) ≡ Some (record (seen state b fetched own xs) { coverages = coverages_of (state b).content held; indexes = indexes_of held })
  pub serves : (i : ℕ) (h : Held) → i < length held → h ≡ get_or held i h → Serves (state b) next kept own xs h

-- A tile of what a number reads is one of a coverage by itself.
pub record ReadsTile {B : Type 0} (state : B → BlocksState) (b : B) (fetched next : ℕ) (kept : Kept) (own : List Held) (xs : List Snapshot) (job : ℕ) (held : List Held) (at : TileAt) (h : Held) : Type 0 where
  pub found : held_view job (seen state b fetched own xs) ≡ Some (record (seen state b fetched own xs) { coverages = coverages_of (state b).content held; indexes = indexes_of held })
  pub alone : Alone (state b) held at h
  pub serves : Serves (state b) next kept own xs h

module _ {B : Type 0} (state : B → BlocksState) (b : B) (fetched next : ℕ) (kept : Kept) (own : List Held) (xs : List Snapshot) (job : ℕ) (held : List Held)
    (is : IsStore (state b) own xs next kept) (told : held ≡ coverages_for job own xs) where
  pub reads_for : (P : RasterView B → Type 0) → OnHeldFor job (seen state b fetched own xs) P → Reads state b fetched next kept own xs job held
  reads_for P some = rw told (elim (is_held_or_none job xs) [
    | inl at ↦
        let x = the_held job xs at.0 at.1 in
        let j = at_job _ (state b) xs job at.0 x.0 is.snapshots at.1 x.1 in
        rw (for_held job own xs at.0 x.0 at.1 x.1) (record {
          is_held = j.held;
          found = rw j.found refl;
          serves = λ i h within was. serves_job (state b) next kept own xs at.0 x.0 i h is.decoded (held_within job xs at.0 at.1) x.1 within was;
        })
    | inr none ↦
        let nothing = (unheld (state b).content job xs none).0 in
        rw (for_none job own xs none) (record {
          is_held = is.is_held;
          found = rw nothing (reads_present _ _ P (rw nothing at some));
          serves = λ i h within was. serves_own (state b) next kept own xs i h is.decoded within was;
        })
  ])

  pub reads_tile : (at : TileAt) (h : Held) → OnHeldFor job (seen state b fetched own xs) (λ v. HasTile at v.coverages) → h ≡ get_or held at.coverage h → ReadsTile state b fetched next kept own xs job held at h
  reads_tile at h has was =
      let r = reads_for (λ v. HasTile at v.coverages) has in
      let a = alone (state b) held at h r.is_held (rw r.found at has) was in
      record { found = r.found; alone = a; serves = r.serves at.coverage h a.within was }

  -- something is held for the number, or it is 0
  pub reads_known : (held_for job (snapshots_of (state b).content xs) ≡ None → job ≡ 0) → Reads state b fetched next kept own xs job held
  reads_known known = reads_for (λ v. Unit {0}) (view_there (held_for job (snapshots_of (state b).content xs)) (seen state b fetched own xs) job known)
