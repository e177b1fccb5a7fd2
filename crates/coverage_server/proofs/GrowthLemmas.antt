-- How far a write grows the file, by what the store has.
use Rattle.std.proofs.Common.{◌≡◌, ℕ, ◌+◌, ◌∙◌, ap, IsTrue, length, List, [], ◌∷◌, Some, Result, Ok, Err, map, refl, sym, subst, arith, inl, inr}
use Rattle.std.specs.Prelude.{slice_get, All, IsSomeAnd}
use Rattle.std.specs.Str.{bytes_eq}
use Rattle.std.proofs.lemmas.Bool.{cases_Bool}
use Rattle.std.proofs.lemmas.List.Elements.{All-head, All-tail}
use Rattle.arr_core.specs.declared.domain.Axis.{Axis}
use Rattle.arr_core.specs.declared.field.Field.{Field}
use Rattle.arr_core.specs.declared.signature.Signature.{Signature}
use Rattle.arr_core.specs.Domains.{IsDomain}
use Rattle.arr_core.specs.Fields.{field_place}
use Rattle.arr_core.specs.Stores.{Coverage, Store, found}
use Rattle.block_file.specs.Format.{HeaderTorn, chain_blocks}
use Rattle.block_file.specs.Growth.{EndsWithin, occupied}
use Rattle.block_file.specs.Uses.{uses_of}
use Rattle.block_file.specs.View.{BlockFileView, state_of}
use Rattle.block_file.proofs.Free.{free_le}
use Rattle.catalogue.specs.Signatures.{IsCatalogue, IsSignature}
use Rattle.metadata.specs.Metadata.{metadata_bytes}
use Rattle.raster_store.specs.Views.{Index, RasterView, listed_all}
use Rattle.raster_store.specs.Calls.{signature_of, index_of, AreListed}
use Rattle.raster_store.specs.Words.{GrowsToWrite as GrowsBelow}
use Rattle.kvp_front.specs.Contents.{Cells}
use Rattle.kvp_front.specs.Requests.{Asks, insert_coverage, update_coverage, delete_coverage, list_coverages, describe_coverage, process_coverages, submit_query, step_job, fetch_job, cancel_job, expand_template, process_template}
use Rattle.kvp_front.specs.declared.request.Interval.{Interval}
use Rattle.kvp_front.specs.declared.request.RequestError.{RequestError}
use Rattle.coverage_server.specs.Closing.{metadata_held}
use Rattle.coverage_server.specs.Growing.{Grows, GrowsRead, GrowsToClose, GrowsToWrite, GrowsToUpdate}
use Rattle.coverage_server.specs.Machine.{axes_of}
use Rattle.coverage_server.specs.Room.{numbers_of}
use Rattle.coverage_server.specs.Views.{ServerView, IsUnchanged, signatures_of, uses_in, without_held}
use Rattle.coverage_server.proofs.FreeLemmas.{IsReady, shown, ready_free}
use Rattle.coverage_server.proofs.HeldLemmas.{lists_none}
use Rattle.coverage_server.proofs.RemovalLemmas.{no_fewer_free}
use Rattle.coverage_server.proofs.RoomLemmas.{listed_as, new_alike}
use Rattle.coverage_server.proofs.WriteLemmas.{some_there}

-- the domain of a coverage that a catalogue tells
domain_found : (name : List ℕ) (store : Store) (c : Coverage) → All IsSignature (map signature_of store) → found name store ≡ Some c → IsDomain c.domain
domain_found name [] c all at = absurd cc
domain_found name (x ∷ store) c all at = elim (cases_Bool (bytes_eq x.name name)) [
  | inl this ↦
      let same : x ≡ c = (let e : Some x ≡ Some c = rw this at at in cc) in
      subst (λ (y : Coverage). IsDomain y.domain) same (All-head IsSignature (signature_of x) (map signature_of store) all).domain.domain
  | inr other ↦ domain_found name store c (All-tail IsSignature (signature_of x) (map signature_of store) all) (rw other at at)
]

-- by the blocks below and by the store the file grows alike
pub grows_shown : (name : List ℕ) (field : ℕ) (area : List Axis) (given : Cells) (catalogue : List Signature) (cells new : RasterView BlockFileView) → IsReady catalogue cells → IsCatalogue catalogue
    → AreListed (state_of cells.blocks) cells.coverages cells.indexes → GrowsBelow state_of name field area (numbers_of area given) cells new
    → GrowsToWrite name field area given (shown cells) (shown new)
grows_shown name field area given catalogue cells new ready is listed grows sure n needs =
    let signatures : All IsSignature (map signature_of cells.coverages) = rw ready.signatures at is.each in
    let below = some_there (found name cells.coverages) _ _
    (λ c at x. some_there (slice_get c.fields field) _ _
    (λ (f : Field) has y. some_there (index_of name field cells.coverages cells.indexes) _ _
    (λ i of z.
    let own = listed_as cells.blocks.content name field cells.coverages cells.indexes c i listed.values at of in
    let alike = new_alike cells.blocks.content c field f i area (numbers_of area given) z.0 own has (domain_found name cells.coverages c signatures at) z.1 in
    (z.0, z.1, z.2 ∙ sym alike))
    y) x) needs in
    omega (arith, grows sure n below, ready_free catalogue cells ready)

-- the field with a name
pub grows_update : (v w : ServerView) (name field : List ℕ) (intervals : List Interval) (cells : Cells) (c : Coverage) → found name v.store ≡ Some c → (k : ℕ) → field_place field c.fields ≡ Some k
    → GrowsToWrite name k (axes_of intervals) cells v w → GrowsToUpdate name field intervals cells v w
grows_update v w name field intervals cells c at k place x =
    inr (subst (λ o. IsSomeAnd o (λ (d : Coverage). IsSomeAnd (field_place field d.fields) (λ j. GrowsToWrite name j (axes_of intervals) cells v w))) (sym at)
    (subst (λ o. IsSomeAnd o (λ j. GrowsToWrite name j (axes_of intervals) cells v w)) (sym place) x))

-- where nothing was written
nothing_asked : (asked : Asks) (v : ServerView) → Grows asked v v
nothing_asked (insert_coverage name intervals fields) v = refl
nothing_asked (update_coverage name field intervals cells) v = inl refl
nothing_asked (delete_coverage name) v = refl
nothing_asked list_coverages v = refl
nothing_asked (describe_coverage name) v = refl
nothing_asked (process_coverages query) v = refl
nothing_asked (submit_query query) v = refl
nothing_asked (step_job number units) v = refl
nothing_asked (fetch_job number) v = refl
nothing_asked (cancel_job number) v = refl
nothing_asked (expand_template template) v = refl
nothing_asked (process_template template) v = refl

pub nothing_read : (asked : Result Asks RequestError) (v : ServerView) → GrowsRead asked v v
nothing_read (Ok asked) v = nothing_asked asked v
nothing_read (Err error) v = refl

-- a chain was written for a close, and no byte else
pub chain_grows : (catalogue : List Signature) (cells : RasterView BlockFileView) (content metadata : List ℕ) → IsReady catalogue cells → metadata ≡ metadata_held (shown cells)
    → EndsWithin (occupied (state_of cells.blocks) + chain_blocks (length metadata)) cells.blocks.content content → GrowsToClose (shown cells) content
chain_grows catalogue cells content metadata ready is grows sure =
    omega (arith, ap (λ (l : List ℕ). length l) is, grows, ready_free catalogue cells ready)

-- and then the header
pub close_grows : (catalogue : List Signature) (cells : RasterView BlockFileView) (mid content metadata : List ℕ) → IsReady catalogue cells → metadata ≡ metadata_held (shown cells)
    → EndsWithin (occupied (state_of cells.blocks) + chain_blocks (length metadata)) cells.blocks.content mid → (IsTrue cells.blocks.honest → HeaderTorn mid content) → GrowsToClose (shown cells) content
close_grows catalogue cells mid content metadata ready is grows torn sure =
    omega (arith, ap (λ (l : List ℕ). length l) is, grows, (torn sure).no_longer, ready_free catalogue cells ready, free_le 1048575 (uses_of cells.blocks.marks))

-- a close that was refused, and then another with the jobs let go
pub grows_again : (old mid : ServerView) (content : List ℕ) → IsUnchanged old mid → mid.honest ≡ old.honest → GrowsToClose old mid.content → GrowsToClose (without_held mid) content → GrowsToClose old content
grows_again old mid content same honest first second sure =
    let metadata : metadata_held mid ≡ metadata_held old =
    ap (λ (s : Store). metadata_bytes (signatures_of s) mid.indexes) (same.store sure)
    ∙ ap (λ (l : List (List Index)). metadata_bytes (signatures_of old.store) l) same.indexes in
    let free = no_fewer_free 1048575 (uses_in old.indexes old.held) (uses_in mid.indexes [])
    (λ k. let listed = ap (λ (l : List (List Index)). listed_all l k) same.indexes in let none = lists_none k in omega (arith, listed, none)) in
    omega (arith, first sure, second (subst IsTrue (sym honest) sure), ap (λ (l : List ℕ). length l) metadata, free)
