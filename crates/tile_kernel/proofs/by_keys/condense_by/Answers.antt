-- Those of no cell are told of the cells with their numbers, and become accumulators.
use Rattle.std.proofs.Common.{◌≡◌, ◌∙◌, ◌<◌, List, length, get_or, sym, ap, subst, arith}
use Rattle.std.specs.Prelude.{replicate}
use Rattle.std.proofs.lemmas.List.{get_or-replicate, length-replicate}
use Rattle.std.proofs.lemmas.Result.{IfOk-weaker}
use Rattle.tile_kernel.specs.declared.tallied.Tallied.{Tallied}
use Rattle.tile_kernel.specs.Told.{Told}
use Rattle.tile_kernel.specs.Keyed.{told_by_keys, StandByKeys}
use Rattle.tile_kernel.specs.Standing.{HaveAtMost}
use Rattle.tile_kernel.specs.Condensing.{IsKeptOf, EachStandsFor, StandForSame}
use Rattle.tile_kernel.proofs.Places.{written_back}
use Rattle.tile_kernel.proofs.Keys.{told_from_none, few_by_keys}
use Rattle.tile_kernel.proofs.by_keys.condense_by.Goals as goal

pub add_keyed-requires-clause-room : goal.add_keyed-requires-clause-room
add_keyed-requires-clause-room g c = λ k d l.
    let all : c.as_mut_slice.result.now ≡ replicate c.len.result c.empty.result = c.as_mut_slice.ensures.value ∙ c.in_ok-tallied.ensures.items_if_clones_equal (λ y h. h) in
    let within : k < c.len.result = omega (arith, l, ap length all, length-replicate c.len.result c.empty.result) in
    let at : get_or c.as_mut_slice.result.now k d ≡ c.empty.result = ap (λ t. get_or t k d) all ∙ get_or-replicate c.len.result k c.empty.result d within in
    let none = ap (λ (t : Tallied g.row.S.Denot g.S.Summary). t.count) at ∙ c.empty.ensures.counted in
    omega (arith, none, c.len-few.ensures.few)

pub returns-clause-stands : goal.returns-clause-stands
returns-clause-stands g c =
    let stands = λ (t : Tallied g.row.S.Denot g.S.Summary) (told : List Told). (t.count ≡ length told) × IsKeptOf g.S.Summary.keeps t.condensed.summary t.condensed.first.fault t.condensed.first.place told in
    let numbers = g.N.Numbers.numbers c.args.numbers.now in
    let places = c.args.places.now in
    let keys = c.args.keys.now in
    let column = c.args.column.now in
    let all : c.as_mut_slice.result.now ≡ replicate c.len.result c.empty.result = c.as_mut_slice.ensures.value ∙ c.in_ok-tallied.ensures.items_if_clones_equal (λ y h. h) in
    let back : c.as_slice.result.now ≡ c.add_keyed.new.folds = c.as_slice.ensures.value ∙ written_back c.in_ok-tallied.tallied.len c.add_keyed.new.folds _ (omega (arith, c.in_ok-tallied.tallied.ok.0)) in
    let each = told_from_none stands c.len.result c.empty.result c.as_mut_slice.result.now c.add_keyed.new.folds numbers places keys column all c.empty.ensures.stands c.add_keyed.ensures.stands in
    IfOk-weaker c.accumulators.result (λ v. StandForSame stands c.as_slice.result.now v.items) (λ v. StandByKeys numbers places keys column v.items)
    (λ v h. h (told_by_keys numbers places keys column) (subst (λ l. EachStandsFor stands l (told_by_keys numbers places keys column)) (sym back) each)) c.accumulators.ensures.stands

pub returns-clause-count : goal.returns-clause-count
returns-clause-count g c =
    let numbers = g.N.Numbers.numbers c.args.numbers.now in
    IfOk-weaker c.accumulators.result (λ v. StandByKeys numbers c.args.places.now c.args.keys.now c.args.column.now v.items) (λ v. HaveAtMost (length c.args.column.now) v.items)
    (λ v h. few_by_keys numbers c.args.places.now c.args.keys.now c.args.column.now v.items h) (returns-clause-stands g c)
