-- Which requests are refused for want of room: an insertion or an update, where fewer blocks are free than those of its
-- new tiles and those that the metadata of the state after it takes. A block is free that no index lists, and nothing
-- that is held for jobs.
use Rattle.std.specs.Prelude.{ℕ, ◌<◌, ℤ, List, [], ◌∷◌, ◌++◌, map, length, replicate, IsSomeAnd}
use Rattle.arr_core.specs.declared.domain.Axis.{Axis}
use Rattle.arr_core.specs.declared.cell.FieldType.{FieldType}
use Rattle.arr_core.specs.declared.signature.Signature.{Signature}
use Rattle.arr_core.specs.Cells.{stored}
use Rattle.arr_core.specs.Domains.{count, points}
use Rattle.arr_core.specs.Stores.{Coverage, Store, found, value_at}
use Rattle.arr_core.specs.Tiles.{tile_box}
use Rattle.arr_core.specs.Fields.{field_place}
use Rattle.catalogue.specs.Bytes.{catalogue_bytes}
use Rattle.tile_store.specs.Room.{patched_at, tile_blocks}
use Rattle.raster_store.specs.Views.{reserve}
use Rattle.raster_store.specs.Calls.{LacksBlocks, indexes_with}
use Rattle.kvp_front.specs.Contents.{Cells, fill, values}
use Rattle.kvp_front.specs.Requests.{Asks, insert_coverage, update_coverage, delete_coverage, list_coverages, describe_coverage, process_coverages, submit_query, step_job, fetch_job, cancel_job, expand_template, process_template}
use Rattle.coverage_server.specs.Machine.{axes_of}
use Rattle.coverage_server.specs.Layouts.{Layout}
use Rattle.coverage_server.specs.Views.{signatures_of, free_in}
use Rattle.kvp_front.specs.declared.request.Interval.{Interval}

-- how many blocks are free
abbrev pub free_of : Layout → ℕ
free_of l = free_in l.indexes l.held

-- the metadata with a new coverage, which has no tiles, takes more blocks than are free
abbrev pub LacksRoomToInsert : Signature → Store → Layout → Type 0
LacksRoomToInsert s store l =
    free_of l < reserve (length (catalogue_bytes (signatures_of store ++ s ∷ []))) (indexes_with s l.indexes)

-- the stored numbers of a box's cells
abbrev pub numbers_of : List Axis → Cells → List ℤ
numbers_of box (fill cell) = replicate (count box) (stored cell)
numbers_of box (values cells) = map stored cells

-- how many blocks a tile of a field takes after numbers are put into a box
abbrev pub blocks_put : Coverage → ℕ → FieldType → List Axis → List ℤ → ℕ → ℕ
blocks_put c field kind box numbers tile =
    tile_blocks kind (map (patched_at box numbers (value_at c field)) (points (tile_box c.domain tile)))

-- the new tiles of a box and the metadata take more blocks than are free
abbrev pub LacksRoomToWrite : List ℕ → ℕ → List Axis → Cells → Store → Layout → Type 0
LacksRoomToWrite name field box cells store l =
    LacksBlocks (λ c f i. blocks_put c field f.kind box (numbers_of box cells)) name field box
    (length (catalogue_bytes (signatures_of store))) (free_of l) store l.indexes

-- the same of the field with a name
abbrev pub LacksRoomToUpdate : List ℕ → List ℕ → List Interval → Cells → Store → Layout → Type 0
LacksRoomToUpdate name field intervals cells store l =
    IsSomeAnd (found name store)
    (λ c. IsSomeAnd (field_place field c.fields) (λ k. LacksRoomToWrite name k (axes_of intervals) cells store l))

abbrev pub LacksRoom : Asks → Store → Layout → Type 0
LacksRoom (insert_coverage name intervals fields) store l =
    LacksRoomToInsert (record { name = name; domain = axes_of intervals; fields = fields }) store l
LacksRoom (update_coverage name field intervals cells) store l = LacksRoomToUpdate name field intervals cells store l
LacksRoom (delete_coverage name) store l = ⊥
LacksRoom list_coverages store l = ⊥
LacksRoom (describe_coverage name) store l = ⊥
LacksRoom (process_coverages query) store l = ⊥
LacksRoom (submit_query query) store l = ⊥
LacksRoom (step_job number units) store l = ⊥
LacksRoom (fetch_job number) store l = ⊥
LacksRoom (cancel_job number) store l = ⊥
LacksRoom (expand_template template) store l = ⊥
LacksRoom (process_template template) store l = ⊥
