-- The cells of tiles: read, written, and as numbers at points.
use Rattle.std.proofs.Common.{◌≡◌, ℕ, ◌<◌, List, [], ◌∷◌, length, get_or, map, arith, refl, sym, ◌∙◌, ap, Option, Some, None, IsTrue, inl, inr, ℤ, pos, ◌≤ℤ◌, if◌then◌else◌, false}
use Rattle.std.proofs.lemmas.Int.{ints}
use Rattle.std.proofs.lemmas.List.Elements.{Contains-get_or}
use Rattle.std.proofs.lemmas.List.{ext_get_or, get_or-map, length-map}
use Rattle.arr_core.specs.declared.cell.FieldType.{FieldType}
use Rattle.arr_core.specs.declared.domain.Axis.{Axis}
use Rattle.arr_core.specs.Domains.{points, count, rank_of, point_at, AreOrdered, IsInside, IsBoxOf, is_inside}
use Rattle.arr_core.specs.Tiles.{tile_boxes, tile_box, TileMeets}
use Rattle.arr_core.proofs.Grids.{in-no-other}
use Rattle.file_bytes.specs.declared.form.Form.{Form}
use Rattle.file_bytes.specs.declared.form.Form.TheVariants.{Runs, Raw}
use Rattle.run_tile.specs.Raw.{Spells, form_of}
use Rattle.tile_index.specs.declared.entry.Entry.{Entry}
use Rattle.tile_index.specs.Index.{found_at}
use Rattle.block_file.specs.State.{BlocksState, block_at}
use Rattle.tile_store.specs.Listing.{entry_times}
use Rattle.tile_store.specs.Stored.{entry_data, IsPadded, cells_read, tile_cells, number_at, IsTileSpelled, KeepsListed}
use Rattle.tile_store.specs.declared.field.FieldTiles.{FieldTiles}
use Rattle.tile_store.specs.Reading.{IsTileRead, number_in}
use Rattle.tile_store.specs.Room.{tile_blocks, cells_after, AreMeeting}
use Rattle.tile_store.specs.Written.{EntrySpells, HasCells, IsWritten, IsRead}
use Rattle.arr_core.proofs.Points.{length-points, rank-point, point-inside, at_rank, rank_of-lt-count}
use Rattle.arr_core.specs.Meeting.{tile_number}
use Rattle.tile_store.specs.Overlays.{Overlaid}
use Rattle.tile_store.proofs.Fitting.{fits_spelled}
use Rattle.tile_store.proofs.Rows.{inside_cases}
use Rattle.tile_store.proofs.Kept.{data_same, padded_same, map_same, number_kept}

-- a spelling is read as what it spells
spelled_cells : (form : Form) (kind : FieldType) (bytes : List ℕ) (cells : List ℤ) → Spells form kind bytes cells → cells_read form kind bytes ≡ cells
unfolding cells_read
spelled_cells Runs kind bytes cells s = sym s.cells_are
spelled_cells Raw kind bytes cells s = sym s.cells_are

-- a tile whose bytes spell cells has them, and is spelled
spelled_some : (kind : FieldType) (content : List ℕ) (e : Entry) (bytes : List ℕ) (cells : List ℤ) → bytes ≡ entry_data content e → Spells e.form kind bytes cells → HasCells kind content (Some e) cells × EntrySpells kind content (Some e) (length cells)
spelled_some kind content e bytes cells is s =
    let there : cells_read e.form kind (entry_data content e) ≡ cells = rw (← is) (spelled_cells e.form kind bytes cells s) in
    (λ i. rw there refl, λ e' some. (let other : e ≡ e' = cc in rw (← other, there, ← is) (s, refl)))

pub written_some : (kind : FieldType) (content : List ℕ) (e : Entry) (bytes : List ℕ) (cells : List ℤ) → bytes ≡ entry_data content e → Spells e.form kind bytes cells → e.form ≡ form_of kind cells → length e.blocks ≡ tile_blocks kind cells → IsPadded content e → IsWritten kind content (Some e) cells
written_some kind content e bytes cells is s form size padded = record {
  has = (spelled_some kind content e bytes cells is s).0;
  spelled = (spelled_some kind content e bytes cells is s).1;
  form = λ e' some. (let other : e ≡ e' = cc in rw (← other) form);
  size = size;
  padded = λ e' some. (let other : e ≡ e' = cc in rw (← other) padded);
}

pub read_some : (kind : FieldType) (n : ℕ) (s : BlocksState) (entry : Option Entry) (e : Entry) (bytes : List ℕ) (cells : List ℤ) → entry ≡ Some e → (IsTrue s.honest → bytes ≡ entry_data s.content e) → Spells e.form kind bytes cells → length cells ≡ n → IsRead kind n s entry cells
read_some kind n s entry e bytes cells some is spells size = rw (some, ← size) (record {
  counted = refl;
  fit = fits_spelled e.form kind bytes cells spells;
  has = λ honest. (spelled_some kind s.content e bytes cells (is honest) spells).0;
  spelled = λ honest. (spelled_some kind s.content e bytes cells (is honest) spells).1;
})

-- it stays so while its blocks hold what they hold
pub written_kept : (kind : FieldType) (old new : List ℕ) (entry : Option Entry) (cells : List ℤ) → IsWritten kind old entry cells → ((k : ℕ) → 0 < entry_times entry k → block_at new k ≡ block_at old k) → IsWritten kind new entry cells
written_kept kind old new None cells w same = record { has = w.has; spelled = λ e none. absurd (cc); form = w.form; size = w.size; padded = λ e none. absurd (cc) }
written_kept kind old new (Some e) cells w same =
    let is : entry_data new e ≡ entry_data old e = data_same old new e same in
    record {
      has = λ i. rw is (w.has i);
      spelled = λ e' some. (let other : e ≡ e' = cc in rw (← other, is) (w.spelled e refl));
      form = w.form;
      size = w.size;
      padded = λ e' some. (let other : e ≡ e' = cc in rw (← other) (padded_same old new e same (w.padded e refl)));
    }

-- the cell of a point in a function's list
pub cell_listed : (box : List Axis) (f : List ℤ → ℤ) (p : List ℤ) → IsInside box p → get_or (map f (points box)) (rank_of box p) (pos 0) ≡ f p
cell_listed box f p inside =
    get_or-map f (points box) (rank_of box p) p (pos 0) (omega (arith, length-points box, rank_of-lt-count box p inside)) ∙ ap f (at_rank box p p inside)

-- cells that are a function's at each point of a box are its list
pub cells_listed : (box : List Axis) (f : List ℤ → ℤ) (cells : List ℤ) → length cells ≡ count box → AreOrdered box → ((p : List ℤ) → IsInside box p → get_or cells (rank_of box p) (pos 0) ≡ f p) → cells ≡ map f (points box)
cells_listed box f cells size ordered each =
    ext_get_or (pos 0) cells (map f (points box)) (size ∙ sym (length-map (points box) f ∙ length-points box)) (λ i h.
    let below : i < count box = omega (arith, h, size) in
    let inside : IsInside box (point_at box i) = point-inside box i below ordered in
    rw (rank-point box i below) at (each (point_at box i) inside ∙ sym (cell_listed box f (point_at box i) inside)))

-- the number at a point is what its tile says there
pub number_in_tile : (kind : FieldType) (domain : List Axis) (index : List (ℕ × Entry)) (content : List ℕ) (tile : ℕ) (p : List ℤ) → tile < length (tile_boxes domain) → IsInside (tile_box domain tile) p
    → number_at kind domain index content p ≡ get_or (tile_cells kind content (found_at tile index)) (rank_of (tile_box domain tile) p) (pos 0)
unfolding number_at
number_in_tile kind domain index content tile p below inside =
    let own : tile ≡ tile_number domain p = in-no-other domain p tile (below, inside) in
    ap (λ (t : ℕ). get_or (tile_cells kind content (found_at t index)) (rank_of (tile_box domain t) p) (pos 0)) (sym own)

-- a tile is spelled exactly where its entry spells as many cells as its box has points
pub tile_spells : (kind : FieldType) (domain : List Axis) (index : List (ℕ × Entry)) (content : List ℕ) (tile : ℕ) (part : List Axis) (entry : Option Entry) (n : ℕ) → tile_box domain tile ≡ part → entry ≡ found_at tile index → n ≡ count part → IsTileSpelled kind domain index content tile → EntrySpells kind content entry n
tile_spells kind domain index content tile part entry n is found size spelled = rw (found, size, ← is) spelled

-- the cells of a tile were read by its entry
pub tile_read : (f : FieldTiles) (tile : ℕ) (s : BlocksState) (part : List Axis) (entry : Option Entry) (n : ℕ) (cells : List ℤ) → tile < length (tile_boxes f.domain.now) → tile_box f.domain.now tile ≡ part → entry ≡ found_at tile f.index.now → n ≡ count part → AreOrdered part
    → IsRead f.kind n s entry cells → IsTileRead f tile s cells
tile_read f tile s part entry n cells below is found size ordered read =
    let box = tile_box f.domain.now tile in
    let counted : length cells ≡ count box = read.counted ∙ size ∙ ap count (sym is) in
    record {
      counted = counted ∙ sym (length-points box);
      fit = read.fit;
      numbers = λ honest. cells_listed box (number_in f s) cells counted (rw is ordered) (λ p inside.
          sym (number_in_tile f.kind f.domain.now f.index.now s.content tile p below inside ∙ rw found at (read.has honest (rank_of box p))));
      spelled = λ honest. rw (found, size, ← is) at (read.spelled honest);
    }

inside_lo : (x y z : ℤ) → x ≤ℤ y → y ≤ℤ z → x ≤ℤ z
inside_lo x y z h k = omega (arith, ints)

-- a point of a box of a domain is one of the domain
pub inside_box : (domain box : List Axis) (p : List ℤ) → IsBoxOf domain box → IsInside box p → IsInside domain p
inside_box [] [] [] b h = tt
inside_box [] [] (x ∷ p) b h = absurd h
inside_box [] (c ∷ box) p b h = absurd b
inside_box (a ∷ domain) [] p b h = absurd b
inside_box (a ∷ domain) (c ∷ box) [] b h = absurd h
inside_box (a ∷ domain) (c ∷ box) (x ∷ p) b h = (inside_lo a.lo c.lo x b.0.1 h.0, inside_lo x c.hi a.hi h.1 b.0.2, inside_box domain box p b.1 h.2)

-- the cells after a write are the same while the listed blocks hold what they hold
pub after_kept : (kind : FieldType) (domain : List Axis) (index : List (ℕ × Entry)) (old new : List ℕ) (area : List Axis) (numbers : List ℤ) (tile : ℕ) → KeepsListed index old new → cells_after kind domain index new area numbers tile ≡ cells_after kind domain index old area numbers tile
after_kept kind domain index old new area numbers tile kept =
    map_same _ _ (points (tile_box domain tile)) (λ (p : List ℤ). ap (λ (z : ℤ). if is_inside area p then get_or numbers (rank_of area p) (pos 0) else z) (number_kept kind domain index old new kept p))

-- a point inside is not outside
pub not_outside : (area : List Axis) (p : List ℤ) → IsInside area p → is_inside area p ≡ false → ⊥
not_outside area p inside out = elim (inside_cases area p) [ inl t ↦ (cc) | inr o ↦ o.1 inside ]

-- the cells of a tile after a box was written over those before
pub updated_listed : (kind : FieldType) (domain : List Axis) (index : List (ℕ × Entry)) (content : List ℕ) (area : List Axis) (numbers : List ℤ) (number : List ℤ → ℤ) (tile : ℕ) (before after : List ℤ) → AreOrdered (tile_box domain tile) → length after ≡ count (tile_box domain tile)
    → ((p : List ℤ) → IsInside (tile_box domain tile) p → is_inside area p ≡ false → get_or before (rank_of (tile_box domain tile) p) (pos 0) ≡ number_at kind domain index content p)
    → ((p : List ℤ) → IsInside area p → number p ≡ get_or numbers (rank_of area p) (pos 0))
    → Overlaid (tile_box domain tile) area number before after → after ≡ cells_after kind domain index content area numbers tile
updated_listed kind domain index content area numbers number tile before after ordered size old same overlaid =
    cells_listed (tile_box domain tile) (λ p. if is_inside area p then get_or numbers (rank_of area p) (pos 0) else number_at kind domain index content p) after size ordered (λ p inside. elim (inside_cases area p) [
      | inl t ↦ overlaid p inside ∙ rw t.0 (same p t.1)
      | inr out ↦ overlaid p inside ∙ rw out.0 (old p inside out.0)
    ])

-- the tiles of a list meet the box
pub meets_at : (domain area : List Axis) (tiles : List ℕ) (i : ℕ) → AreMeeting domain area tiles → i < length tiles → TileMeets domain (get_or tiles i 0) area
meets_at domain area tiles i meeting h = (meeting.exact (get_or tiles i 0)).0 (Contains-get_or tiles i 0 h)
