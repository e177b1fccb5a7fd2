-- Each coverage is attached as the next of the catalogue, under a name that none has yet, until all are.
use Rattle.std.proofs.Common.{◌∙◌, ◌+◌, [], ◌∷◌, ◌++◌, List, Vec, ap, sym, subst, refl, arith, Err, append_assoc}
use Rattle.std.specs.declared.alloc.Global.{Global}
use Rattle.std.proofs.lemmas.Grind.{common_steps}
use Rattle.tile_index.specs.declared.index.TileIndex.{TileIndex}
use Rattle.raster_store.specs.Views.{Index}
use Rattle.metadata.specs.Metadata.{indexes_of}
use Rattle.coverage_server.proofs.OpeningLemmas.{placed, IsAttached, items_split, place_within, next_fresh, next_fields, next_tiles, next_attached, all_attached, items_push, attach_departs, none_left}
use Rattle.coverage_server.proofs.opening.attach_all.Goals as goal

pub loop-fields-init : goal.loop-fields-init
loop-fields-init g c = (record { values = c.requires.coverages; listed = c.requires.indexes; count = refl; tiles = tt }, refl, sym c.into_iter-fields-iterator.ensures.into_iter_gives.0, c.requires.unheld, refl)

pub at-requires : goal.at-requires
at-requires g c =
    let split = items_split _ _ _ _ _ c.loop-fields.invariant.2 (c.in-Some.ensures.steps.0) in
    place_within _ _ _ _ _ _ _ _ _ c.loop-fields.invariant.0 c.requires.counted split

pub attach-requires-clause-name : goal.attach-requires-clause-name
attach-requires-clause-name g c =
    let split = items_split _ _ _ _ _ c.loop-fields.invariant.2 (c.in-Some.ensures.steps.0) in
    let within = place_within _ _ _ _ _ _ _ _ _ c.loop-fields.invariant.0 c.requires.counted split in
    next_fresh _ _ _ _ _ _ _ c.loop-fields.invariant.0 within (placed c.args.catalogue.now c.loop-fields.place c.at.result.now c.at.ensures) c.len-catalogue.ensures.catalogue

pub attach-requires-clause-fields : goal.attach-requires-clause-fields
attach-requires-clause-fields g c =
    let split = items_split _ _ _ _ _ c.loop-fields.invariant.2 (c.in-Some.ensures.steps.0) in
    next_fields _ _ _ _ _ _ _ _ _ _ c.loop-fields.invariant.0 c.requires.counted split (placed c.args.catalogue.now c.loop-fields.place c.at.result.now c.at.ensures)

pub attach-requires-clause-unheld : goal.attach-requires-clause-unheld
attach-requires-clause-unheld g c = c.loop-fields.invariant.3

pub attach-requires-clause-blocks : goal.attach-requires-clause-blocks
attach-requires-clause-blocks g c =
    let split = items_split _ _ _ _ _ c.loop-fields.invariant.2 (c.in-Some.ensures.steps.0) in
    rw (c.loop-fields.invariant.1, c.loop-fields.invariant.0.listed) (c.requires.blocks _ _ _ split)

pub loop-fields-preserved : goal.loop-fields-preserved
loop-fields-preserved g c =
    let split = items_split _ _ _ _ _ c.loop-fields.invariant.2 (c.in-Some.ensures.steps.0) in
    let within = place_within _ _ _ _ _ _ _ _ _ c.loop-fields.invariant.0 c.requires.counted split in
    let content = ap (λ b. (g.B.Blocks.state b).content) c.loop-fields.invariant.1 in
    let attached = next_attached _ _ _ c.in-Some.fields.items _ _ _ _ _ c.at.result.now c.loop-fields.invariant.0 within (placed c.args.catalogue.now c.loop-fields.place c.at.result.now c.at.ensures)
    (rw content at c.in_default.ensures.attached.coverages) c.in_default.ensures.attached.indexes c.in_default.ensures.attached.below in (
      subst (λ (l : List (List Index)). IsAttached (g.B.Blocks.state c.args.cells.now.blocks).content c.args.catalogue.now l c.attach.new.self.coverages c.attach.new.self.indexes (c.loop-fields.place + 1))
          (sym (items_push c.loop-fields.yielded c.in-Some.fields)) attached,
      c.attach.ensures.blocks ∙ c.loop-fields.invariant.1,
      c.loop-fields.invariant.2 ∙ ap (λ (r : List (Vec TileIndex Global)). c.loop-fields.yielded ++ r) (c.in-Some.ensures.steps.0) ∙ sym (append_assoc c.loop-fields.yielded (c.in-Some.fields ∷ []) c.next.new.self.rest.items),
      c.attach.ensures.snapshots ∙ c.loop-fields.invariant.3,
      c.in_default.ensures.attached.fetched ∙ c.loop-fields.invariant.4,
    )

pub returns-in-Err-clause-refused : goal.returns-in-Err-clause-refused
returns-in-Err-clause-refused g c =
    let split = items_split _ _ _ _ _ c.loop-fields.invariant.2 (c.in-Some.ensures.steps.0) in
    attach_departs _ c.in-Err.fault c.attach_fault.result (λ e tiles. c.in-Err.ensures.why.for_damage (ap Err e)
    (next_tiles _ _ _ _ _ _ _ _ _ _ c.loop-fields.invariant.0 c.requires.counted split (placed c.args.catalogue.now c.loop-fields.place c.at.result.now c.at.ensures) tiles)) c.attach_fault.ensures

pub returns-clause-listed : goal.returns-clause-listed
returns-clause-listed g c =
    let all = all_attached _ _ _ _ _ _ _ _ c.loop-fields.invariant.0 c.requires.counted (ap indexes_of c.loop-fields.invariant.2) (none_left _ (omega (arith, c.in-None.ensures.steps.0, c.loop-fields.fields-iterator.rest.ok))) in
    record { coverages = all.0; indexes = all.1; tiles = all.2 }

pub overflow_add-place : goal.overflow_add-place
overflow_add-place g c = grind (arith, common_steps)
