-- Each coverage adds its indexes, and the store has as many lists of them as coverages.
use Rattle.std.proofs.Common.{◌++◌, ◌≤◌, List, length, sym, ap, ◌∙◌, arith, append-nil, take_all}
use Rattle.std.specs.List.{flat_map}
use Rattle.catalogue.specs.Bytes.{catalogue_bytes}
use Rattle.metadata.specs.Metadata.{part_bytes, indexes_bytes, metadata_bytes}
use Rattle.raster_store.specs.Views.{Index}
use Rattle.coverage_server.specs.Views.{signatures_of}
use Rattle.coverage_server.proofs.ClosingLemmas.{one_further, as_many}
use Rattle.coverage_server.proofs.closing.metadata_of.Goals as goal

pub loop-place-init : goal.loop-place-init
loop-place-init g c = c.in_ok-bytes.ensures ∙ sym (append-nil _)

pub loop-place-preserved : goal.loop-place-preserved
loop-place-preserved g c =
    let v = c.args.coverages.now in
    one_further indexes_bytes (part_bytes (catalogue_bytes (signatures_of v.store))) c.loop-place.bytes.items c.push_indexes.new.bytes.items v.indexes c.loop-place.place c.indexes.result.now c.indexes.ensures
    c.loop-place.invariant c.in_ok-push_indexes.ensures

pub returns : goal.returns
unfolding metadata_bytes
returns g c =
    let v = c.args.coverages.now in
    let all : length v.indexes ≤ c.loop-place.place = omega (arith, as_many v.store v.indexes c.len-place-end.ensures.whole) in
    c.loop-place.invariant
    ∙ ap (λ (l : List (List Index)). part_bytes (catalogue_bytes (signatures_of v.store)) ++ flat_map indexes_bytes l) (take_all c.loop-place.place v.indexes all)
