-- The indexes of each coverage are read in turn, and where one is damaged no list of them is there.
use Rattle.std.proofs.Common.{[], ◌∷◌, ap, ◌∙◌, arith, take_all}
use Rattle.std.proofs.lemmas.List.{map-append, take_more}
use Rattle.std.proofs.lemmas.Option.{slice_get_within, get_or_from_slice_get}
use Rattle.catalogue.proofs.Lists.{read-none, read-more, read-stops, read-all}
use Rattle.catalogue.proofs.Sequences.{handed_on}
use Rattle.metadata.specs.Metadata.{indexes_of}
use Rattle.metadata.proofs.Counted.{counted-push, counted-on, counted-ends}
use Rattle.metadata.proofs.reading.read_indexes.Goals as goal

pub loop-place-init : goal.loop-place-init
loop-place-init c =
    let none = ap indexes_of c.new-indexes.ensures.items in
    (read-none none, rw none tt)

pub loop-place-preserved : goal.loop-place-preserved
loop-place-preserved c =
    let old = c.loop-place.invariant in
    let s = c.at.result.now in
    let within = slice_get_within c.args.catalogue.now c.loop-place.place s c.at.ensures in
    let here = get_or_from_slice_get c.args.catalogue.now c.loop-place.place s s c.at.ensures in
    let xs = indexes_of c.loop-place.indexes.items in
    let pushed = ap indexes_of c.in_ok-push.ensures.items ∙ map-append _ c.loop-place.indexes.items (c.in_ok-fields.fields ∷ []) in
    let r = rw c.len-count.ensures at c.in_ok-fields.ensures.read in
    let on = counted-on c.args.version c.args.catalogue.now xs s (omega (arith, old.0.counted, within)) (rw old.0.counted here) in
    let longer = take_more c.args.catalogue.now c.loop-place.place s within in
    (read-more old.0 on r pushed, rw (pushed, longer, here) (counted-push c.args.version _ xs s _ old.1 r.value))

pub returns-in_err-fields-clause-damaged : goal.returns-in_err-fields-clause-damaged
returns-in_err-fields-clause-damaged c h =
    let old = c.loop-place.invariant.0 in
    let s = c.at.result.now in
    let within = slice_get_within c.args.catalogue.now c.loop-place.place s c.at.ensures in
    let here = get_or_from_slice_get c.args.catalogue.now c.loop-place.place s s c.at.ensures in
    let xs = indexes_of c.loop-place.indexes.items in
    let none = rw c.len-count.ensures at (c.in_err-fields.ensures.damaged (handed_on _ c.from_residual.ensures.1 h)) in
    read-stops old (counted-on c.args.version c.args.catalogue.now xs s (omega (arith, old.counted, within)) (rw old.counted here)) none

pub returns-clause-read : goal.returns-clause-read
returns-clause-read c =
    let old = c.loop-place.invariant in
    let catalogue = c.args.catalogue.now in
    let xs = indexes_of c.loop-place.indexes.items in
    let all = take_all c.loop-place.place catalogue (omega arith) in
    read-all old.0 (counted-ends c.args.version catalogue xs (omega (arith, old.0.counted))) (rw all at old.1)
