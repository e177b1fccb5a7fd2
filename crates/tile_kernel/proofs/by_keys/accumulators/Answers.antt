-- One more accumulator stands behind the others, and in the end one for each condenser.
use Rattle.std.proofs.Common.{◌≡◌, ◌∙◌, ◌<◌, ◌+◌, ℕ, length, get_or, List, [], ◌∷◌, ◌++◌, sym, ap, subst, arith}
use Rattle.std.proofs.lemmas.List.{length_push}
use Rattle.std.proofs.lemmas.List.Elements.{All-push}
use Rattle.tile_kernel.specs.declared.accumulator.Accumulator.{Accumulator}
use Rattle.tile_kernel.specs.declared.tallied.Tallied.{Tallied}
use Rattle.tile_kernel.specs.Condensing.{IsKeptOf}
use Rattle.tile_kernel.specs.Standing.{Stands, AreOf}
use Rattle.tile_kernel.specs.Told.{Told}
use Rattle.tile_kernel.proofs.Places.{other_default}
use Rattle.tile_kernel.proofs.Condensing.{each_pushed, by_some_item}
use Rattle.tile_kernel.proofs.by_keys.accumulators.Goals as goal

pub loop-k-preserved : goal.loop-k-preserved
loop-k-preserved g c =
    let inv = c.loop-k.invariant in
    let j = c.loop-k.k in
    let tallied = c.args.tallied.now in
    let more = c.accumulator.result in
    let items : c.push.new.self.items ≡ c.loop-k.folds.items ++ c.accumulator.result ∷ [] = c.in_ok-push.ensures.items in
    let within : c.loop-k.k < length c.args.tallied.now = omega arith in
    let have = λ (t : Tallied g.row.S.Denot g.S.Summary) (told : List Told). (t.count ≡ length told) × IsKeptOf g.S.Summary.keeps t.condensed.summary t.condensed.first.fault t.condensed.first.place told in
    let one : (t : Tallied g.row.S.Denot g.S.Summary) (told : List Told) → have (get_or tallied j t) told → Stands more told =
    λ t told h. c.accumulator.ensures.stands told (subst (λ t. have t told) (other_default tallied j t c.index-tallied-k.result within ∙ sym c.index-tallied-k.is) h) in
    record {
      stands = subst (λ (l : List Accumulator). (k : ℕ) (a : Accumulator) → k < j + 1 → (t : Tallied g.row.S.Denot g.S.Summary) (told : List Told) → have (get_or tallied k t) told → Stands (get_or l k a) told) (sym items)
          (each_pushed c.loop-k.folds.items more j (λ k a. (t : Tallied g.row.S.Denot g.S.Summary) (told : List Told) → have (get_or tallied k t) told → Stands a told) inv.length inv.stands one);
      op = subst (AreOf g.S.Summary.op) (sym items) (All-push (λ (a : Accumulator). a.running.op ≡ g.S.Summary.op) c.loop-k.folds.items more inv.op c.accumulator.ensures.op);
      length = ap length items ∙ length_push c.loop-k.folds.items more ∙ ap (λ n. n + 1) inv.length;
    }

pub returns-clause-stands : goal.returns-clause-stands
returns-clause-stands g c = λ told each k a l.
    let inv = c.loop-k.invariant in
    let within : k < length c.args.tallied.now = omega arith in
    by_some_item c.args.tallied.now k within (λ t. inv.stands k a (omega arith) t (told k) (each k t within))
