-- Sums over the indexes of a store: how often they list a block, and how many bytes they take.
use Rattle.std.proofs.Common.{◌≡◌, ℕ, zero, suc, ◌+◌, ◌<◌, List, [], ◌∷◌, ◌++◌, length, get_or, set, take, drop, refl, ap, arith}
use Rattle.std.specs.Prelude.{sum_by, replicate}
use Rattle.std.specs.List.{remove}
use Rattle.std.proofs.lemmas.List.Sums.{sum_by-cons, sum_by_push, sum_by-set, sum_by_more, sum_by-remove, sum_by-take-drop}
use Rattle.tile_index.specs.Bytes.{index_bytes}
use Rattle.tile_store.specs.Listing.{listed}
use Rattle.raster_store.specs.declared.held.Held.{Held}
use Rattle.raster_store.specs.Views.{Index, listed_fields, listed_all, fields_size, metadata_size}
use Rattle.raster_store.specs.Holding.{indexes_of, index_at}

-- a sum over the coverages, by their indexes
pub sums : (F : List Index → ℕ) (held : List Held) → sum_by F (indexes_of held) ≡ sum_by (λ (h : Held). F h.fields.items) held
sums F [] = refl
sums F (h ∷ held) = omega (arith, sum_by-cons F h.fields.items (indexes_of held), sum_by-cons (λ (h : Held). F h.fields.items) h held, sums F held)

-- a sum without one of the coverages, and with another in its place
pub sum_parts : (F : List Index → ℕ) (held : List Held) (i : ℕ) (h h' : Held) → i < length held → h ≡ get_or held i h
    → (sum_by F (indexes_of (remove held i)) + F h.fields.items ≡ sum_by F (indexes_of held))
    × (sum_by F (indexes_of (set held i h')) + F h.fields.items ≡ sum_by F (indexes_of held) + F h'.fields.items)
sum_parts F held i h h' within was =
    let G : Held → ℕ = λ (x : Held). F x.fields.items in
    let here : F h.fields.items ≡ F (get_or held i h).fields.items = ap G was in (
      omega (arith, here, sums F held, sums F (remove held i), sum_by-remove G held i h within),
      omega (arith, here, sums F held, sums F (set held i h'), sum_by-set G held i h' h within),
    )

-- how many bytes the metadata has: those of the index of a field, and the rest in four parts
around : {X : Type 0} (F : X → ℕ) (xs : List X) (j : ℕ) (d : X) → j < length xs → sum_by F (take j xs) + (sum_by F (drop (j + 1) xs) + F (get_or xs j d)) ≡ sum_by F xs
around F xs j d h = omega (arith, sum_by_more F xs j d h, sum_by-take-drop F xs (j + 1))

pub size_around : (catalogue : ℕ) (held : List Held) (i j : ℕ) (h : Held) → i < length held → h ≡ get_or held i h → j < length h.fields.items
    → (sum_by fields_size (indexes_of (take i held)) + sum_by fields_size (indexes_of (drop (i + 1) held))) + (fields_size (take j h.fields.items) + fields_size (drop (j + 1) h.fields.items)) + (16 + catalogue) + length (index_bytes (index_at h j))
    ≡ metadata_size catalogue (indexes_of held)
unfolding fields_size metadata_size
size_around catalogue held i j h within was field =
    let G : Held → ℕ = λ (x : Held). fields_size x.fields.items in
    let one = around (λ (x : Index). 8 + length (index_bytes x)) h.fields.items j [] field in
    omega (arith, one, around G held i h within, ap G was, sums fields_size (take i held), sums fields_size (drop (i + 1) held), sums fields_size held)

-- how often the fields of a coverage list a block
pub listed_none : (k : ℕ) → listed [] k ≡ 0
unfolding listed
listed_none k = refl

pub listed_fields-cons : (k : ℕ) (i : Index) (fields : List Index) → listed_fields (i ∷ fields) k ≡ listed i k + listed_fields fields k
unfolding listed_fields
listed_fields-cons k i fields = sum_by-cons (λ (j : Index). listed j k) i fields

pub listed_fields-none : (k n : ℕ) → listed_fields (replicate n []) k ≡ 0
unfolding listed_fields
listed_fields-none k zero = refl
listed_fields-none k (suc n) = omega (arith, listed_fields-cons k [] (replicate n []), listed_fields-none k n, listed_none k)

-- one of the fields: the others, and all with another index for it
pub field_parts : (k : ℕ) (fields : List Index) (j : ℕ) (new : Index) → j < length fields → (listed_fields (remove fields j) k + listed (get_or fields j []) k ≡ listed_fields fields k)
    × (listed_fields (set fields j new) k + listed (get_or fields j []) k ≡ listed_fields fields k + listed new k)
unfolding listed_fields
field_parts k fields j new h = (sum_by-remove (λ (i : Index). listed i k) fields j [] h, sum_by-set (λ (i : Index). listed i k) fields j new [] h)

-- how often a store lists a block
pub listed_all-nil : (k : ℕ) → listed_all [] k ≡ 0
unfolding listed_all
listed_all-nil k = refl

pub listed_all-cons : (k : ℕ) (new : List Index) (indexes : List (List Index)) → listed_all (new ∷ indexes) k ≡ listed_fields new k + listed_all indexes k
unfolding listed_all
listed_all-cons k new indexes = sum_by-cons (λ (f : List Index). listed_fields f k) new indexes

pub listed_all-push : (k : ℕ) (indexes : List (List Index)) (new : List Index) → listed_all (indexes ++ new ∷ []) k ≡ listed_all indexes k + listed_fields new k
unfolding listed_all
listed_all-push k indexes new = sum_by_push (λ (f : List Index). listed_fields f k) indexes new

-- one of the coverages: the others, and all with another in its place
pub all_parts : (k : ℕ) (held : List Held) (i : ℕ) (h h' : Held) → i < length held → h ≡ get_or held i h
    → (listed_all (indexes_of (remove held i)) k + listed_fields h.fields.items k ≡ listed_all (indexes_of held) k)
    × (listed_all (indexes_of (set held i h')) k + listed_fields h.fields.items k ≡ listed_all (indexes_of held) k + listed_fields h'.fields.items k)
unfolding listed_all
all_parts k held i h h' within was = sum_parts (λ (f : List Index). listed_fields f k) held i h h' within was
