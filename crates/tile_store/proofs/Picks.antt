-- Cells at ranks are those that the tile has there.
use Rattle.std.proofs.Common.{◌≡◌, ℕ, zero, suc, ◌+◌, ◌-◌, ◌*◌, ◌/◌, ◌%◌, ◌<◌, ◌≤◌, IsTrue, List, [], ◌∷◌, length, get_or, map, replicate, flat_map, All, Option, Some, None, ℤ, pos, Result, Ok, Err, OnOk, arith, refl, sym, ap, ◌∙◌, length-append, set, ◌≢◌, below_more}
use Rattle.std.proofs.lemmas.List.{length-take-le, length-replicate, get_or-take, get_or_append_left, get_or-append_right, get_or-set_other, get_or-set_same}
use Rattle.std.proofs.lemmas.List.Concat.{flat_map-cons}
use Rattle.arr_core.specs.declared.cell.FieldType.{FieldType}
use Rattle.arr_core.specs.declared.cell.FieldType.TheVariants as kind
use Rattle.arr_core.specs.declared.domain.Axis.{Axis}
use Rattle.arr_core.specs.Domains.{points, count, point_at, AreOrdered, IsDomain, IsInside}
use Rattle.arr_core.specs.Tiles.{tile_boxes, grid, edge_of, tile_box}
use Rattle.arr_core.proofs.Boxes.{IsDomain-box, tile-small}
use Rattle.arr_core.proofs.Grids.{ordered-grid, edge-some, length-tile_boxes, get_or-tile_boxes}
use Rattle.arr_core.proofs.Points.{at_place, point-inside, rank-point}
use Rattle.file_bytes.specs.declared.form.Form.{Form}
use Rattle.file_bytes.specs.declared.form.Form.TheVariants.{Raw}
use Rattle.run_tile.specs.Picking.{picked}
use Rattle.run_tile.specs.Raw.{raw_cells, raw_count}
use Rattle.run_tile.specs.Types.{width_of}
use Rattle.run_tile.proofs.Picks.{raw-at, raw-same, length-raw}
use Rattle.block_file.specs.State.{BlocksState, block, block_at}
use Rattle.block_file.specs.Words.{OnlyReads}
use Rattle.block_file.proofs.Times.{times_at}
use Rattle.tile_index.specs.declared.entry.Entry.{Entry}
use Rattle.tile_index.specs.Index.{IsIndex, found_at}
use Rattle.file_bytes.specs.declared.error.ReadError.{ReadError}
use Rattle.file_bytes.specs.declared.error.ReadError.TheVariants as reading
use Rattle.tile_store.specs.declared.fault.Fault.{Fault}
use Rattle.tile_store.specs.Faults.{Refuses, of_read}
use Rattle.tile_store.specs.declared.field.FieldTiles.{FieldTiles}
use Rattle.tile_store.specs.Listing.{IsSound}
use Rattle.tile_store.specs.Picking.{IsEntryIn, cells_as, IsLast, ArePicks, LackPicks}
use Rattle.tile_store.specs.Reading.{number_in, ArePicked}
use Rattle.tile_store.specs.Stored.{entry_data, cells_read, tile_cells}
use Rattle.tile_store.proofs.Cells.{number_in_tile}
use Rattle.tile_store.proofs.Listed.{found_covered, found_times}
use Rattle.tile_store.proofs.Sizes.{found_entry}

-- ---- the bytes of a block among those of a tile

length-blocks : (f : ℕ → List ℕ) (ks : List ℕ) → ((i : ℕ) → i < length ks → length (f (get_or ks i 0)) ≡ 4096) → length (flat_map f ks) ≡ 4096 * length ks
length-blocks f [] whole = refl
length-blocks f (k ∷ ks) whole =
    let rest = length-blocks f ks (λ i h. whole (suc i) (omega (arith, h))) in
    rw flat_map-cons (omega (arith, length-append (f k) (flat_map f ks), whole 0 (omega arith), rest))

-- a byte of the block at a place
byte_at : (f : ℕ → List ℕ) (ks : List ℕ) (j i : ℕ) → ((m : ℕ) → m < length ks → length (f (get_or ks m 0)) ≡ 4096) → j < length ks → i < 4096 → get_or (flat_map f ks) (4096 * j + i) 0 ≡ get_or (f (get_or ks j 0)) i 0
byte_at f [] j i whole h l = absurd (omega (arith, h))
byte_at f (k ∷ ks) zero i whole h l =
    let here : length (f k) ≡ 4096 = whole 0 (omega arith) in
    let place : 4096 * 0 + i ≡ i = omega arith in
    rw (flat_map-cons, place) (get_or_append_left (f k) (flat_map f ks) 0 i (omega (arith, here, l)))
byte_at f (k ∷ ks) (suc j) i whole h l =
    let here : length (f k) ≡ 4096 = whole 0 (omega arith) in
    let behind : 4096 * suc j + i - 4096 ≡ 4096 * j + i = omega arith in
    rw flat_map-cons
    (get_or-append_right (f k) (flat_map f ks) 4096 (4096 * suc j + i) 0 here (omega arith) ∙ ap (λ (n : ℕ). get_or (flat_map f ks) n 0) behind
    ∙ byte_at f ks j i (λ m lt. whole (suc m) (omega (arith, lt))) (omega (arith, h)) l)

-- each block of an entry is whole, in use, and there for each of its bytes
entry_whole : (s : BlocksState) (e : Entry) → IsEntryIn s e → IsTrue s.honest → (i : ℕ) → i < length e.blocks → length (block s (get_or e.blocks i 0)) ≡ 4096
entry_whole s e is honest i h = is.whole honest (get_or e.blocks i 0) (times_at e.blocks i h)

pub entry_used : (s : BlocksState) (e : Entry) (j : ℕ) → IsEntryIn s e → j < length e.blocks → 0 < s.uses (get_or e.blocks j 0)
entry_used s e j is h = omega (arith, times_at e.blocks j h, is.used (get_or e.blocks j 0))

length-stored : (s : BlocksState) (e : Entry) → IsEntryIn s e → IsTrue s.honest → length (entry_data s.content e) ≡ e.length
unfolding entry_data
length-stored s e is honest =
    let whole = length-blocks (block s) e.blocks (entry_whole s e is honest) in
    length-take-le e.length (flat_map (block s) e.blocks) (omega (arith, whole, is.is_entry.filled))

stored_byte : (s : BlocksState) (e : Entry) (j i : ℕ) → IsEntryIn s e → IsTrue s.honest → j < length e.blocks → i < 4096 → 4096 * j + i < e.length → get_or (entry_data s.content e) (4096 * j + i) 0 ≡ get_or (block s (get_or e.blocks j 0)) i 0
unfolding entry_data
stored_byte s e j i is honest h l inside =
    get_or-take e.length (flat_map (block s) e.blocks) (4096 * j + i) 0 inside ∙ byte_at (block s) e.blocks j i (entry_whole s e is honest) h l

-- ---- a value of a tile of cells one after the other

-- where the bytes of a cell stand: in one block, at a whole number of cells from its first byte
pub record Stands (size rank total blocks : ℕ) : Type 0 where
  pub within : rank * size / 4096 < blocks
  pub inside : rank * size % 4096 + size ≤ 4096
  pub there : rank * size + size ≤ total
  pub counted : rank * size % 4096 / size < 4096 / size
  pub place : rank * size % 4096 / size * size ≡ rank * size % 4096

stands_of : (k : FieldType) (rank total blocks : ℕ) → rank < total / width_of k → total ≤ 4096 * blocks → Stands (width_of k) rank total blocks
stands_of kind.Bool rank total blocks h most = record { within = omega arith; inside = omega arith; there = omega arith; counted = omega arith; place = omega arith }
stands_of kind.U8 rank total blocks h most = record { within = omega arith; inside = omega arith; there = omega arith; counted = omega arith; place = omega arith }
stands_of kind.I16 rank total blocks h most = record { within = omega arith; inside = omega arith; there = omega arith; counted = omega arith; place = omega arith }
stands_of kind.I32 rank total blocks h most = record { within = omega arith; inside = omega arith; there = omega arith; counted = omega arith; place = omega arith }
stands_of kind.I64 rank total blocks h most = record { within = omega arith; inside = omega arith; there = omega arith; counted = omega arith; place = omega arith }

pub stands : (k : FieldType) (s : BlocksState) (e : Entry) (rank size : ℕ) → size ≡ width_of k → IsEntryIn s e → rank < e.length / size → Stands size rank e.length (length e.blocks)
stands k s e rank size es is h =
    rw es (stands_of k rank e.length (length e.blocks) (rw es at h) (omega (arith, is.is_entry.filled)))

-- the value in the block is the one in the bytes of the tile
raw_in_block : (k : FieldType) (s : BlocksState) (e : Entry) (rank : ℕ) (bytes : List ℕ) → IsEntryIn s e → IsTrue s.honest → rank < e.length / width_of k → bytes ≡ block s (get_or e.blocks (rank * width_of k / 4096) 0)
    → get_or (raw_cells k bytes) (rank * width_of k % 4096 / width_of k) (pos 0) ≡ get_or (cells_as Raw k s e) rank (pos 0)
unfolding cells_read
raw_in_block k s e rank bytes is honest h at =
    let here = stands k s e rank (width_of k) refl is h in
    let stored = entry_data s.content e in
    let place = rank * width_of k % 4096 / width_of k in
    let long : length stored ≡ e.length = length-stored s e is honest in
    let block_long : length bytes ≡ 4096 = ap length at ∙ entry_whole s e is honest (rank * width_of k / 4096) here.within in
    let count_block : place < raw_count k bytes = rw block_long here.counted in
    let count_stored : rank < raw_count k stored = rw long h in
    let same = raw-same k bytes stored place rank (omega (arith, here.place, here.inside, block_long)) (omega (arith, here.there, long)) (λ b lt.
    let split : 4096 * (rank * width_of k / 4096) + (rank * width_of k % 4096 + b) ≡ rank * width_of k + b = omega arith in
    let in_block : rank * width_of k % 4096 + b < 4096 = omega (arith, lt, here.inside) in
    let in_bytes : 4096 * (rank * width_of k / 4096) + (rank * width_of k % 4096 + b) < e.length = omega (arith, lt, here.there, split) in
    ap (λ (n : ℕ). get_or bytes (n + b) 0) here.place ∙ ap (λ (l : List ℕ). get_or l (rank * width_of k % 4096 + b) 0) at
    ∙ sym (stored_byte s e (rank * width_of k / 4096) (rank * width_of k % 4096 + b) is honest here.within in_block in_bytes) ∙ ap (λ (n : ℕ). get_or stored n 0) split) in
    raw-at k bytes place count_block ∙ same ∙ sym (raw-at k stored rank count_stored)

pub raw_read : (k : FieldType) (s : BlocksState) (e : Entry) (rank size number : ℕ) (numbers bytes : List ℕ) (last : Option ℕ) → size ≡ width_of k → IsEntryIn s e → IsTrue s.honest → rank < e.length / size → numbers ≡ e.blocks → number ≡ get_or numbers (rank * size / 4096) 0
    → last ≡ Some number → IsLast s last bytes → get_or (raw_cells k bytes) (rank * size % 4096 / size) (pos 0) ≡ get_or (cells_as Raw k s e) rank (pos 0)
raw_read k s e rank size number numbers bytes last es is honest h same at some is_last =
    let block_is : bytes ≡ block s (get_or e.blocks (rank * width_of k / 4096) 0) =
    is_last honest number some ∙ ap (block s) (at ∙ ap (λ (l : List ℕ). get_or l (rank * size / 4096) 0) same ∙ ap (λ (w : ℕ). get_or e.blocks (rank * w / 4096) 0) es) in
    rw es (raw_in_block k s e rank bytes is honest (rw es at h) block_is)

-- a rank behind the bytes has no cell
pub lacks_past : (k : FieldType) (s : BlocksState) (e : Entry) (rank size : ℕ) → size ≡ width_of k → IsEntryIn s e → e.length / size ≤ rank → LackPicks Raw k s e (rank ∷ [])
unfolding cells_read
lacks_past k s e rank size es is past honest all =
    let long = length-stored s e is honest in
    let count : length (raw_cells k (entry_data s.content e)) ≡ e.length / width_of k = length-raw k (entry_data s.content e) ∙ ap (λ (n : ℕ). n / width_of k) long in
    let below : rank < length (raw_cells k (entry_data s.content e)) = all 0 0 (omega arith) in
    let most : e.length / width_of k ≤ rank = rw es at past in
    omega (arith, below, count, most)

-- ---- reads change neither

pub last_moved : {asked : ℕ → ℕ} (s s' : BlocksState) (last : Option ℕ) (bytes : List ℕ) → OnlyReads asked s s' → IsLast s last bytes → IsLast s' last bytes
last_moved s s' last bytes reads is honest k some = is (rw reads.honest at honest) k some ∙ ap (λ (c : List ℕ). block_at c k) (sym reads.content)

pub entry_moved : {asked : ℕ → ℕ} (s s' : BlocksState) (e : Entry) → OnlyReads asked s s' → IsEntryIn s e → IsEntryIn s' e
entry_moved s s' e reads is = record {
  is_entry = is.is_entry;
  used = λ k. rw reads.uses (is.used k);
  whole = λ honest k some. rw reads.content (is.whole (rw reads.honest at honest) k some);
}

pub cells_moved : {asked : ℕ → ℕ} (form : Form) (k : FieldType) (s s' : BlocksState) (e : Entry) → OnlyReads asked s s' → cells_as form k s' e ≡ cells_as form k s e
cells_moved form k s s' e reads = ap (λ (c : List ℕ). cells_read form k (entry_data c e)) reads.content

-- ---- the numbers of a field

-- the blocks of an entry that a sound field lists
pub entry_in : (f : FieldTiles) (s : BlocksState) (tile : ℕ) (e : Entry) → IsIndex f.index.now → IsSound f.domain.now s f.index.now → Some e ≡ found_at tile f.index.now → IsEntryIn s e
entry_in f s tile e index sound some = record {
  is_entry = found_entry f.index.now tile e index (sym some);
  used = found_covered f.index.now s tile (Some e) some sound.counted;
  whole = λ honest k listed. sound.whole honest k (omega (arith, listed, found_times f.index.now tile (Some e) some k));
}

pub tile_ordered : (domain : List Axis) (n : ℕ) → IsDomain domain → n < length (tile_boxes domain) → AreOrdered (tile_box domain n)
tile_ordered domain n d h =
    let e = edge_of (length domain) in
    let below : n < count (grid e domain) = omega (arith, h, length-tile_boxes domain) in
    let at = point_at (grid e domain) n in
    let inside : IsInside (grid e domain) at = point-inside (grid e domain) n below (ordered-grid e domain) in
    rw (get_or-tile_boxes domain n [] below) (IsDomain-box e domain at (edge-some (length domain)) d inside).ordered

-- a tile has few points
pub tile_few : (domain : List Axis) (n : ℕ) → IsDomain domain → n < length (tile_boxes domain) → count (tile_box domain n) ≤ 4096
tile_few domain n d h =
    let e = edge_of (length domain) in
    let below : n < count (grid e domain) = omega (arith, h, length-tile_boxes domain) in
    let at = point_at (grid e domain) n in
    let inside : IsInside (grid e domain) at = point-inside (grid e domain) n below (ordered-grid e domain) in
    rw (get_or-tile_boxes domain n [] below) (tile-small domain at (edge-some (length domain)) d inside)

-- the number at a rank is the tile's cell there
number_ranked : (f : FieldTiles) (s : BlocksState) (tile r : ℕ) → IsDomain f.domain.now → tile < length (tile_boxes f.domain.now) → r < count (tile_box f.domain.now tile)
    → get_or (tile_cells f.kind s.content (found_at tile f.index.now)) r (pos 0) ≡ number_in f s (get_or (points (tile_box f.domain.now tile)) r [])
number_ranked f s tile r domain below within =
    let box = tile_box f.domain.now tile in
    let p = point_at box r in
    let inside : IsInside box p = point-inside box r within (tile_ordered f.domain.now tile domain below) in
    let cells = tile_cells f.kind s.content (found_at tile f.index.now) in
    ap (λ (n : ℕ). get_or cells n (pos 0)) (sym (rank-point box r within)) ∙ sym (number_in_tile f.kind f.domain.now f.index.now s.content tile p below inside) ∙ ap (number_in f s) (sym (at_place box r [] within))

map_each : {X Y : Type 0} (f g : X → Y) (xs : List X) → ((k : ℕ) (d : X) → k < length xs → f (get_or xs k d) ≡ g (get_or xs k d)) → map f xs ≡ map g xs
map_each f g [] h = refl
map_each f g (x ∷ xs) h = rw (h 0 x (omega arith), map_each f g xs (λ k d l. h (suc k) d (omega (arith, l)))) refl

pub picks_are : (f : FieldTiles) (s : BlocksState) (tile : ℕ) (ranks : List ℕ) → IsDomain f.domain.now → tile < length (tile_boxes f.domain.now) → All (λ r. r < count (tile_box f.domain.now tile)) ranks
    → picked (tile_cells f.kind s.content (found_at tile f.index.now)) ranks ≡ map (λ (r : ℕ). number_in f s (get_or (points (tile_box f.domain.now tile)) r [])) ranks
picks_are f s tile ranks domain below all =
    map_each (λ (r : ℕ). get_or (tile_cells f.kind s.content (found_at tile f.index.now)) r (pos 0)) (λ (r : ℕ). number_in f s (get_or (points (tile_box f.domain.now tile)) r [])) ranks
    (λ k d l. number_ranked f s tile (get_or ranks k d) domain below (all k d l))

-- of a tile that is listed
pub picked_some : (f : FieldTiles) (s : BlocksState) (tile : ℕ) (ranks : List ℕ) (e : Entry) (cells : List ℤ) → IsDomain f.domain.now → tile < length (tile_boxes f.domain.now) → All (λ r. r < count (tile_box f.domain.now tile)) ranks → Some e ≡ found_at tile f.index.now
    → length cells ≡ length ranks → ArePicks e.form f.kind s e ranks cells → ArePicked f tile ranks s cells
picked_some f s tile ranks e cells domain below all some size picks = record {
  counted = size;
  numbers = λ honest.
      picks honest ∙ ap (λ (o : Option Entry). picked (tile_cells f.kind s.content o) ranks) some ∙ picks_are f s tile ranks domain below all;
}

-- and of one that is not
pub picked_none : (f : FieldTiles) (s : BlocksState) (tile : ℕ) (ranks : List ℕ) (cells : List ℤ) → IsDomain f.domain.now → tile < length (tile_boxes f.domain.now) → All (λ r. r < count (tile_box f.domain.now tile)) ranks → None ≡ found_at tile f.index.now
    → cells ≡ replicate (length ranks) (pos 0) → ArePicked f tile ranks s cells
picked_none f s tile ranks cells domain below all none zeros = record {
  counted = ap length zeros ∙ length-replicate (length ranks) (pos 0);
  numbers = λ honest.
      zeros ∙ none_picked ranks ∙ ap (λ (o : Option Entry). picked (tile_cells f.kind s.content o) ranks) none ∙ picks_are f s tile ranks domain below all;
}
  where
    none_picked : (rs : List ℕ) → replicate (length rs) (pos 0) ≡ picked [] rs
    none_picked [] = refl
    none_picked (r ∷ rs) = ap (λ (l : List ℤ). pos 0 ∷ l) (none_picked rs)

-- ---- one cell after the other, and both forms

-- one more cell was read
pub picks_more : {asked : ℕ → ℕ} (form : Form) (k : FieldType) (s s' : BlocksState) (e : Entry) (ranks : List ℕ) (place : ℕ) (cells : List ℤ) (z : ℤ) → OnlyReads asked s s' → place < length cells → IsTrue s.honest
    → ((i : ℕ) → i < place → get_or cells i (pos 0) ≡ get_or (cells_as form k s e) (get_or ranks i 0) (pos 0)) → (IsTrue s'.honest → z ≡ get_or (cells_as form k s' e) (get_or ranks place 0) (pos 0))
    → (i : ℕ) → i < place + 1 → get_or (set cells place z) i (pos 0) ≡ get_or (cells_as form k s e) (get_or ranks i 0) (pos 0)
picks_more form k s s' e ranks place cells z reads within honest was here =
    let value = here (rw reads.honest honest) ∙ ap (λ (l : List ℤ). get_or l (get_or ranks place 0) (pos 0)) (cells_moved form k s s' e reads) in
    below_more (λ (i : ℕ). get_or (set cells place z) i (pos 0) ≡ get_or (cells_as form k s e) (get_or ranks i 0) (pos 0)) place
    (λ i h. (let ne : i ≢ place = omega arith in rw get_or-set_other (was i h)))
    (rw get_or-set_same value)

-- a refusal to read is handed on
pub refuses_read : {T D : Type 0} (result : Result T Fault) (e : ReadError) → result ≡ Err (of_read e) → (e ≡ reading.Damaged → D) → Refuses result D ⊥
refuses_read result reading.NoMemory same why = record { for_damage = λ is. absurd (let no = sym same ∙ is in cc); for_room = λ is. (let no = sym same ∙ is in cc) }
refuses_read result reading.Damaged same why = record { for_damage = λ is. why refl; for_room = λ is. (let no = sym same ∙ is in cc) }

pub ok_both : {T E : Type 0} (r : Result T E) (P Q R : Type 0) → (P → Q → R) → OnOk r P → OnOk r Q → OnOk r R
ok_both (Ok x) P Q R f p q = f p q
ok_both (Err e) P Q R f p q = tt
