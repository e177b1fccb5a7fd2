-- One change more gives a listed tile an entry.
use Rattle.std.proofs.Common.{◌≡◌, ℕ, true, is_some, subst, refl, arith, rules, Option, IsSome}
use Rattle.std.proofs.lemmas.List.{take_all}
use Rattle.std.proofs.lemmas.List.Elements.{All-more}
use Rattle.tile_index.specs.declared.entry.Entry.{Entry}
use Rattle.tile_index.specs.Index.{found_at, AreExchanges}
use Rattle.tile_index.proofs.Exchanging.{listed-at}
use Rattle.tile_index.proofs.changes.are_exchanges.Goals as goal

pub loop-tile-preserved : goal.loop-tile-preserved
loop-tile-preserved c =
    let x = c.loop-tile-item.result in
    let entry : IsSome x.1 = search rules in
    let placed : is_some c.place_of.result ≡ true = search rules in
    let listed = listed-at x.0 c.args.entries.now c.place_of.result c.requires placed c.place_of.ensures.place in
    All-more (λ (y : ℕ × Option Entry). IsSome y.1 × IsSome (found_at y.0 c.args.entries.now)) c.args.changes.now c.loop-tile.tile-index x c.loop-tile-test.true c.loop-tile.invariant (rw (← c.loop-tile-item.is) (entry, listed))

pub returns : goal.returns
returns c =
    let all = take_all c.loop-tile.tile-index c.args.changes.now (omega (arith, c.loop-tile-test.false)) in
    (λ _. subst (λ xs. AreExchanges xs c.args.entries.now) all c.loop-tile.invariant, λ _. refl)
