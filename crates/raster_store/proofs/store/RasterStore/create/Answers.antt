-- A coverage that is 0 everywhere lists nothing, and leaves room for the metadata.
use Rattle.std.proofs.Common.{List, [], ◌∷◌, ◌++◌, length, refl, ap, ◌∙◌, ◌<◌, ◌≤◌, ◌^◌, arith, rules}
use Rattle.std.proofs.lemmas.List.{map_push}
use Rattle.block_file.specs.Format.{chain_blocks}
use Rattle.arr_core.specs.Stores.{Coverage}
use Rattle.raster_store.specs.declared.held.Held.{Held}
use Rattle.raster_store.specs.Holding.{coverages_of, coverage_of}
use Rattle.raster_store.proofs.Contents.{intact-push, intact_new, values_new}
use Rattle.raster_store.specs.Views.{Index, listed_fields}
use Rattle.raster_store.proofs.Totals.{listed_fields-none}
use Rattle.raster_store.proofs.Stored.{store_push}
use Rattle.raster_store.proofs.Writes.{may_empty}
use Rattle.raster_store.proofs.store.RasterStore.create.Goals as goal

pub invariant_of-self-2 : goal.invariant_of-self-2
invariant_of-self-2 g c =
    let is = c.in_ok-held.ensures in
    let count = length c.args.signature.now.fields in
    rw c.in_ok-push.ensures.items (store_push _ c.self.inside.coverages.items c.self.inside.snapshots.items c.in_ok-held.held _ _ _ c.self.invariant.is_held is.whole
    (rw is.signature (rw (← c.self.view_is) at c.requires.name)) (rw is.fields (may_empty _ _ count c.self.invariant.is_held)) (rw is.version c.renewed-renewed.ensures) c.self.invariant.decoded c.self.invariant.snapshots
    (λ k. omega (arith, c.self.invariant.snapshots.counted k, ap (λ (i : List Index). listed_fields i k) is.fields, listed_fields-none k count)))

pub returns-clause-created : goal.returns-clause-created
returns-clause-created g c =
    let held = c.self.inside.coverages.items in
    let content = (g.B.Blocks.state c.self.inside.blocks).content in
    let new = c.in_ok-held.held in
    let sig = c.args.signature.now in
    let is = c.in_ok-held.ensures in
    let size = rw c.deref.ensures.value at c.created_size-size.ensures in
    let small : c.free.result < 2 ^ 32 = omega arith in
    let fits : chain_blocks c.created_size-size.result ≤ c.free.result = search rules in
    rw (← c.self.view_is, c.in_ok-push.ensures.items) (record {
      coverages = map_push (coverage_of content) held new ∙ ap (λ (x : Coverage). coverages_of content held ++ x ∷ []) (rw (is.signature, is.fields, values_new content sig.domain sig.fields) refl);
      indexes = map_push (λ (h : Held). h.fields.items) held new ∙ rw is.fields refl;
      room = rw (← c.free.ensures, map_push (λ (h : Held). h.fields.items) held new) (omega (arith, size, small, fits));
      intact = λ intact. intact-push content held new intact (rw is.fields (intact_new content new.signature.domain new.signature.fields (length sig.fields)));
    })
