-- Each piece between the marks is a pair, unless it is empty.
use Rattle.std.proofs.Common.{◌≡◌, ◌∙◌, ◌++◌, ◌∷◌, [], ◌<◌, length, map, ap, arith, string_bytes}
use Rattle.std.proofs.lemmas.Bool.Decides.{nat_tests}
use Rattle.std.proofs.lemmas.List.{map-append}
use Rattle.kvp_front.specs.Values.{pair_view, pairs_of}
use Rattle.kvp_front.proofs.PairLemmas.{pair_read, pair_skipped, all_read}
use Rattle.kvp_front.proofs.pairs.pairs_of.Goals as goal

pub pairs-preserved-in-Continue-branch-2 : goal.pairs-preserved-in-Continue-branch-2
pairs-preserved-in-Continue-branch-2 c =
    let whole = pairs_of c.args.bytes.now in
    let rest = c.pairs.rest.now in
    let (pair, after) = c.cut_once.result in
    let (name, value) = c.cut_once-then-not-is_empty.result in
    let list = c.pairs.list.items in
    let some : 0 < length pair.now = grind (arith, nat_tests) in
    let read = pair_read whole (map pair_view list) rest pair.now after.now name.now value.now (string_bytes c.in_ok-name.name) c.cut_once.ensures some c.cut_once-then-not-is_empty.ensures c.in_ok-name.ensures c.pairs.invariant in
    ap (λ l. map pair_view l ++ pairs_of after.now) c.in_ok-push.ensures.items ∙ ap (λ l. l ++ pairs_of after.now) (map-append pair_view list (_ ∷ [])) ∙ read

pub pairs-preserved : goal.pairs-preserved
pairs-preserved c =
    let (pair, after) = c.cut_once.result in
    let none : length pair.now ≡ 0 = grind (arith, nat_tests) in
    pair_skipped (pairs_of c.args.bytes.now) (map pair_view c.pairs.list.items) c.pairs.rest.now pair.now after.now c.cut_once.ensures none c.pairs.invariant

pub returns : goal.returns
returns c =
    let none : length c.pairs.rest.now ≡ 0 = grind (arith, nat_tests) in
    all_read (pairs_of c.args.bytes.now) (map pair_view c.pairs.list.items) c.pairs.rest.now none c.pairs.invariant
