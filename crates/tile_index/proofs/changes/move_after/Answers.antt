-- The entries are parted at the tile, and every other tile has the entry that it had.
use Rattle.std.proofs.Common.{◌≡◌, ◌^◌, suc, [], ◌∷◌, ◌++◌, reverse, sym, ap, ◌∙◌, arith, rules, append_assoc}
use Rattle.std.proofs.lemmas.Grind.{common_steps}
use Rattle.std.proofs.lemmas.List.{reverse-append, nil_from_length}
use Rattle.tile_index.specs.Index.{found_at}
use Rattle.tile_index.proofs.Between.{between-last, between-wider, between-append}
use Rattle.tile_index.proofs.Found.{found-other}
use Rattle.tile_index.proofs.changes.move_after.Goals as goal

pub returns-then-pair-tile-clause-parted : goal.returns-then-pair-tile-clause-parted
returns-then-pair-tile-clause-parted c =
    let old = c.loop-pair.invariant in
    let x = c.in-Some.pair in
    let front = c.pop.new.self.items in
    let last = between-last 0 old.apart.bound front x (rw c.in-Some.ensures.items at old.apart.low) in
    let pushed : c.push.new.self.items ≡ front ++ x ∷ [] = grind (arith, common_steps, c.push.ensures.items, c.unwrap.ensures) in
    record {
      before = rw pushed (between-append 0 x.0 c.args.tile front (x ∷ []) last.0 (omega arith, omega arith));
      after = between-wider (suc c.args.tile) old.apart.bound (2 ^ 32) (2 ^ 32) _ old.apart.above (omega arith) old.apart.high;
      same = λ t n. rw (pushed, ← c.in-Some.ensures.items) (old.same t n);
    }

pub loop-pair-preserved-then-pair-tile-2 : goal.loop-pair-preserved-then-pair-tile-2
loop-pair-preserved-then-pair-tile-2 c =
    let old = c.loop-pair.invariant in
    let x = c.in-Some.pair in
    let front = c.pop.new.self.items in
    let last = between-last 0 old.apart.bound front x (rw c.in-Some.ensures.items at old.apart.low) in
    let pushed : c.push-then-pair-tile-2.new.self.items ≡ c.loop-pair.moved.items ++ x ∷ [] = grind (arith, common_steps, c.push-then-pair-tile-2.ensures.items, c.unwrap-then-pair-tile-2.ensures) in
    let back : reverse c.push-then-pair-tile-2.new.self.items ≡ x ∷ reverse c.loop-pair.moved.items = ap reverse pushed ∙ reverse-append c.loop-pair.moved.items (x ∷ []) in
    let high = between-wider (suc x.0) old.apart.bound (2 ^ 32) (2 ^ 32) _ last.1 (omega arith) old.apart.high in
    record {
      apart = record { bound = x.0; above = omega (arith, c.if-pair-tile.false, c.if-pair-tile-2.true); low = last.0; high = rw back (omega arith, high) };
      same = λ t n. rw (back, ← append_assoc front (x ∷ []) (reverse c.loop-pair.moved.items), ← c.in-Some.ensures.items) (old.same t n);
      room = search rules;
    }

pub loop-pair-preserved : goal.loop-pair-preserved
loop-pair-preserved c =
    let old = c.loop-pair.invariant in
    let x = c.in-Some.pair in
    let front = c.pop.new.self.items in
    let back = reverse c.loop-pair.moved.items in
    let last = between-last 0 old.apart.bound front x (rw c.in-Some.ensures.items at old.apart.low) in
    let same : x.0 ≡ c.args.tile = c.if-pair-tile-2.false in
    let whole : c.loop-pair.entries.items ++ back ≡ front ++ x ∷ back = ap (λ es. es ++ back) c.in-Some.ensures.items ∙ append_assoc front (x ∷ []) back in
    record {
      apart = record { bound = old.apart.bound; above = old.apart.above; low = between-wider 0 0 x.0 old.apart.bound front (omega arith) (omega arith) last.0; high = old.apart.high };
      same = λ t n. sym (ap (found_at t) whole ∙ found-other t x front back (λ q. n (q ∙ same))) ∙ old.same t n;
      room = search rules;
    }

pub returns-clause-parted : goal.returns-clause-parted
returns-clause-parted c =
    let old = c.loop-pair.invariant in
    let none = nil_from_length c.pop.new.self.items (omega (arith, c.in_default.ensures.cases, c.pop.new.self.ok)) in
    let empty : c.loop-pair.entries.items ≡ [] = c.in_default.ensures.items ∙ ap (λ es. es ++ []) none in
    record {
      before = rw none (omega arith);
      after = between-wider (suc c.args.tile) old.apart.bound (2 ^ 32) (2 ^ 32) _ old.apart.above (omega arith) old.apart.high;
      same = λ t n. rw none (rw empty at (old.same t n));
    }
