-- How far requests and a close grow the file.
use Rattle.std.specs.Prelude.{◌≡◌, ◌⊎◌, ℕ, ◌+◌, ◌-◌, ◌*◌, ◌≤◌, max, List, length, Result, Ok, Err, IsSomeAnd, IsTrue}
use Rattle.arr_core.specs.declared.domain.Axis.{Axis}
use Rattle.arr_core.specs.Fields.{field_place}
use Rattle.arr_core.specs.Stores.{found}
use Rattle.block_file.specs.Format.{chain_blocks}
use Rattle.block_file.specs.Growth.{EndsWithin}
use Rattle.block_file.specs.Limits.{max_blocks}
use Rattle.file_bytes.specs.Limits.{block_bytes, blocks_filled}
use Rattle.raster_store.specs.Calls.{NeedBlocks}
use Rattle.http_front.specs.declared.connection.Next.{Next}
use Rattle.http_front.specs.declared.connection.Next.TheVariants.{Message, Ended, ReadFault}
use Rattle.http_front.specs.declared.connection.Next.TheVariants as next
use Rattle.kvp_front.specs.Contents.{Cells, content_view}
use Rattle.kvp_front.specs.Requests.{Asks, insert_coverage, update_coverage, delete_coverage, list_coverages, describe_coverage, process_coverages, submit_query, step_job, fetch_job, cancel_job, expand_template, process_template, spelled}
use Rattle.kvp_front.specs.declared.request.Interval.{Interval}
use Rattle.kvp_front.specs.declared.request.RequestError.{RequestError}
use Rattle.kvp_front.specs.declared.request.Update.{Update}
use Rattle.coverage_server.specs.Closing.{metadata_held}
use Rattle.coverage_server.specs.Machine.{axes_of}
use Rattle.coverage_server.specs.Room.{blocks_put, numbers_of}
use Rattle.coverage_server.specs.Views.{ServerView, free_blocks}

-- nothing was written
abbrev pub WritesNothing : ServerView → ServerView → Type 0
WritesNothing old new = new.content ≡ old.content

-- However a write into a box of a field ended, the file of an honest disk is no longer than it was, or than one that
-- has the header, the blocks that were in use and those of the new tiles, and no free block before the last of them.
abbrev pub GrowsToWrite : List ℕ → ℕ → List Axis → Cells → ServerView → ServerView → Type 0
GrowsToWrite name field box cells old new =
    IsTrue old.honest
    → (n : ℕ) → NeedBlocks (λ c f i. blocks_put c field f.kind box (numbers_of box cells)) name field box old.store
    old.indexes n
    → EndsWithin ((max_blocks - free_blocks old) + n) old.content new.content

-- the same of an update of the field with a name; one that is refused before has written nothing
abbrev pub GrowsToUpdate : List ℕ → List ℕ → List Interval → Cells → ServerView → ServerView → Type 0
GrowsToUpdate name field intervals cells old new =
    WritesNothing old new
    ⊎ IsSomeAnd (found name old.store)
    (λ c. IsSomeAnd (field_place field c.fields) (λ k. GrowsToWrite name k (axes_of intervals) cells old new))

-- so it is with an update that was read
abbrev pub GrowsChange : Update → ServerView → ServerView → Type 0
GrowsChange u old new = GrowsToUpdate u.coverage u.field u.intervals.items (content_view u.content) old new

-- However a close ended, the file of an honest disk has no blocks begun but those that it had, or those that the
-- header, the blocks in use and the metadata take, with no free block before the last of them.
abbrev pub GrowsToClose : ServerView → List ℕ → Type 0
GrowsToClose old content =
    IsTrue old.honest
    → length content
    ≤ block_bytes * max (blocks_filled (length old.content))
    ((max_blocks - free_blocks old) + chain_blocks (length (metadata_held old)))

-- of the requests an update alone writes to the file
abbrev pub Grows : Asks → ServerView → ServerView → Type 0
Grows (insert_coverage name intervals fields) old new = WritesNothing old new
Grows (update_coverage name field intervals cells) old new = GrowsToUpdate name field intervals cells old new
Grows (delete_coverage name) old new = WritesNothing old new
Grows list_coverages old new = WritesNothing old new
Grows (describe_coverage name) old new = WritesNothing old new
Grows (process_coverages query) old new = WritesNothing old new
Grows (submit_query query) old new = WritesNothing old new
Grows (step_job number units) old new = WritesNothing old new
Grows (fetch_job number) old new = WritesNothing old new
Grows (cancel_job number) old new = WritesNothing old new
Grows (expand_template template) old new = WritesNothing old new
Grows (process_template template) old new = WritesNothing old new

-- a message that asks something grows the file as that may, and one that is refused before writes nothing
abbrev pub GrowsRead : Result Asks RequestError → ServerView → ServerView → Type 0
GrowsRead (Ok asked) old new = Grows asked old new
GrowsRead (Err error) old new = WritesNothing old new

-- so it is with what a connection shows next
abbrev pub GrowsNext : Next → ServerView → ServerView → Type 0
GrowsNext (Message pairs) old new = GrowsRead (spelled pairs.items) old new
GrowsNext (next.Refused code) old new = WritesNothing old new
GrowsNext Ended old new = WritesNothing old new
GrowsNext ReadFault old new = WritesNothing old new
