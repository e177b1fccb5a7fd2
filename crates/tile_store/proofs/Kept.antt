-- A field's numbers stay what they are where its listed blocks do, and are 0 where no tile is listed.
use Rattle.std.proofs.Common.{◌≡◌, ℕ, ◌<◌, IsTrue, List, [], ◌∷◌, length, take, map, arith, refl, sym, ap, subst, Option, Some, None, ℤ, pos, flat_map}
use Rattle.std.proofs.lemmas.List.Concat.{flat_map-cons}
use Rattle.arr_core.specs.declared.cell.FieldType.{FieldType}
use Rattle.arr_core.specs.declared.domain.Axis.{Axis}
use Rattle.arr_core.specs.Domains.{points, count}
use Rattle.arr_core.specs.Meeting.{tile_number}
use Rattle.arr_core.specs.Tiles.{tile_box}
use Rattle.tile_index.specs.declared.entry.Entry.{Entry}
use Rattle.tile_index.specs.Index.{found_at}
use Rattle.block_file.specs.State.{BlocksState, block, block_at, times, none}
use Rattle.block_file.specs.Words.{Moves}
use Rattle.block_file.proofs.Times.{one_same, times-cons}
use Rattle.tile_store.specs.Listing.{listed, IsSound}
use Rattle.tile_store.specs.Stored.{entry_data, IsPadded, cells_read, SpellsMany, tile_cells, number_at, field_values, IsTileSpelled, IsSpelled, KeepsListed}
use Rattle.tile_store.proofs.Listed.{listed_found}

-- bytes of blocks that hold the same
pub joined_same : (f g : ℕ → List ℕ) (ks : List ℕ) → ((k : ℕ) → 0 < times ks k → f k ≡ g k) → flat_map f ks ≡ flat_map g ks
joined_same f g [] h = refl
joined_same f g (b ∷ ks) h =
    let here : f b ≡ g b = h b (omega (arith, times-cons b ks b, one_same b)) in
    let rest : flat_map f ks ≡ flat_map g ks = joined_same f g ks (λ k some. h k (omega (arith, some, times-cons b ks k))) in
    rw (flat_map-cons, here, rest) refl

-- the bytes of a tile whose blocks hold the same
pub data_same : (old new : List ℕ) (e : Entry) → ((k : ℕ) → 0 < times e.blocks k → block_at new k ≡ block_at old k) → entry_data new e ≡ entry_data old e
unfolding entry_data
data_same old new e h = ap (take e.length) (joined_same (block_at new) (block_at old) e.blocks h)

-- and what follows them
pub padded_same : (old new : List ℕ) (e : Entry) → ((k : ℕ) → 0 < times e.blocks k → block_at new k ≡ block_at old k) → IsPadded old e → IsPadded new e
unfolding IsPadded
padded_same old new e h zeros = rw (joined_same (block_at new) (block_at old) e.blocks h) zeros

-- the bytes of a listed tile
pub data_kept : (index : List (ℕ × Entry)) (old new : List ℕ) (tile : ℕ) (e : Entry) → KeepsListed index old new → found_at tile index ≡ Some e → entry_data new e ≡ entry_data old e
data_kept index old new tile e kept found =
    data_same old new e (λ k some. kept k (omega (arith, some, rw found at (listed_found tile index k))))

pub padded_kept : (index : List (ℕ × Entry)) (old new : List ℕ) (tile : ℕ) (e : Entry) → KeepsListed index old new → found_at tile index ≡ Some e → IsPadded old e → IsPadded new e
padded_kept index old new tile e kept found =
    padded_same old new e (λ k some. kept k (omega (arith, some, rw found at (listed_found tile index k))))

-- the cells of a tile, listed or not
pub cells_kept : (kind : FieldType) (index : List (ℕ × Entry)) (old new : List ℕ) (tile : ℕ) (o : Option Entry) → KeepsListed index old new → found_at tile index ≡ o → tile_cells kind new o ≡ tile_cells kind old o
cells_kept kind index old new tile None kept found = refl
cells_kept kind index old new tile (Some e) kept found = ap (cells_read e.form kind) (data_kept index old new tile e kept found)

-- the number at a point
pub number_kept : (kind : FieldType) (domain : List Axis) (index : List (ℕ × Entry)) (old new : List ℕ) → KeepsListed index old new → (p : List ℤ) → number_at kind domain index new p ≡ number_at kind domain index old p
unfolding number_at
number_kept kind domain index old new kept p =
    rw (cells_kept kind index old new (tile_number domain p) (found_at (tile_number domain p) index) kept refl) refl

pub map_same : {X Y : Type 0} (f g : X → Y) (xs : List X) → ((x : X) → f x ≡ g x) → map f xs ≡ map g xs
map_same f g [] h = refl
map_same f g (x ∷ xs) h = rw (h x, map_same f g xs h) refl

-- Where the listed blocks hold what they held, the field has its numbers.
pub values_kept : (kind : FieldType) (domain : List Axis) (index : List (ℕ × Entry)) (old new : List ℕ) → KeepsListed index old new → field_values kind domain index new ≡ field_values kind domain index old
unfolding field_values
values_kept kind domain index old new kept = map_same (number_at kind domain index new) (number_at kind domain index old) (points domain) (number_kept kind domain index old new kept)

-- Where the listed blocks hold what they held, they spell what they spelled.
pub tile_kept : (kind : FieldType) (domain : List Axis) (index : List (ℕ × Entry)) (old new : List ℕ) (tile : ℕ) → KeepsListed index old new → IsTileSpelled kind domain index old tile → IsTileSpelled kind domain index new tile
tile_kept kind domain index old new tile kept spelled e found =
    subst (λ (bytes : List ℕ). SpellsMany e.form kind bytes (count (tile_box domain tile))) (sym (data_kept index old new tile e kept found)) (spelled e found)

pub spelled_kept : (kind : FieldType) (domain : List Axis) (index : List (ℕ × Entry)) (old new : List ℕ) → KeepsListed index old new → IsSpelled kind domain index old → IsSpelled kind domain index new
unfolding IsSpelled
spelled_kept kind domain index old new kept spelled tile = tile_kept kind domain index old new tile kept (spelled tile)

-- A field without tiles is 0 everywhere.
pub values_of_none : (kind : FieldType) (domain : List Axis) (content : List ℕ) → field_values kind domain [] content ≡ map (λ (p : List ℤ). pos 0) (points domain)
unfolding field_values number_at
values_of_none kind domain content = map_same (number_at kind domain [] content) (λ (p : List ℤ). pos 0) (points domain) (λ p. refl)

-- A field without tiles has none that are spelled wrongly.
pub spelled_of_none : (kind : FieldType) (domain : List Axis) (content : List ℕ) → IsSpelled kind domain [] content
unfolding IsSpelled
spelled_of_none kind domain content tile e found = absurd (cc)

-- The listed blocks of a sound field hold what they held, while nothing in use has changed.
pub keeps_listed : (domain : List Axis) (index : List (ℕ × Entry)) (given taken : ℕ → ℕ) (old new : BlocksState) → IsSound domain old index → IsTrue old.honest → ((k : ℕ) → 0 < listed index k → given k < old.uses k) → Moves given taken old new → KeepsListed index old.content new.content
keeps_listed domain index given taken old new sound honest beyond m k some = m.kept k (beyond k some) (sound.whole honest k some)

-- A refused write leaves a field sound, with its numbers and tiles as they were.
pub sound_kept : (domain : List Axis) (index : List (ℕ × Entry)) (old new : BlocksState) → IsSound domain old index → Moves none none old new → IsSound domain new index
sound_kept domain index old new sound m = record {
  below = sound.below;
  counted = λ k. omega (arith, sound.counted k, m.uses k);
  whole = λ honest k some.
      let was : length (block old k) ≡ 4096 = sound.whole (rw m.honest at honest) k some in
      rw (m.kept k (omega (arith, some, sound.counted k)) was) was;
}
