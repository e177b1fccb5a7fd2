-- The entries that are read have rising tiles, and damaged bytes begin with no so many entries.
use Rattle.std.proofs.Common.{◌≡◌, ◌++◌, ◌+◌, ℕ, [], ◌∷◌, length, sym, ap, ◌∙◌, length-append, refl, arith}
use Rattle.std.proofs.lemmas.List.{get_or_push}
use Rattle.std.proofs.lemmas.List.Elements.{All-push}
use Rattle.tile_index.specs.declared.entry.Entry.{Entry}
use Rattle.tile_index.specs.Index.{IsPair}
use Rattle.tile_index.proofs.Between.{between-append, rising-between}
use Rattle.tile_index.proofs.Codes.{next-pair, entry-code, one-more}
use Rattle.tile_index.proofs.reading.read_entries.Goals as goal

pub returns-in_default-clause-damaged : goal.returns-in_default-clause-damaged
returns-in_default-clause-damaged c _ pairs rest p e =
    let old = c.loop.invariant in
    let n = next-pair c.loop.entries.items pairs c.loop.bytes rest old.each p.1 (omega (arith, old.counted, p.0, c.loop-test.true)) (sym old.read ∙ e) in
    c.in_default.ensures.damaged n.next n.after n.pair n.left_is

pub returns-then-tile-after-clause-damaged : goal.returns-then-tile-after-clause-damaged
returns-then-tile-after-clause-damaged c _ pairs rest p e =
    let old = c.loop.invariant in
    let n = next-pair c.loop.entries.items pairs c.loop.bytes rest old.each p.1 (omega (arith, old.counted, p.0, c.loop-test.true)) (sym old.read ∙ e) in
    let read = c.in-Some.ensures.read in
    let same = entry-code (c.in-Some.tile, c.in-Some.entry) n.next c.read_entry.new.bytes n.after read.0 n.pair (sym read.1 ∙ n.left_is) in
    omega (arith, old.least n.next.0 n.later, ap (λ (x : ℕ × Entry). x.0) same.0, c.if-tile-after.true)

pub loop-preserved : goal.loop-preserved
loop-preserved c =
    let old = c.loop.invariant in
    let read = c.in-Some.ensures.read in
    let xs = c.loop.entries.items in
    let x : ℕ × Entry = (c.in-Some.tile, c.in-Some.entry) in
    let pushed : c.push.new.self.items ≡ xs ++ x ∷ [] = c.in_ok-push.ensures.items in
    rw pushed (record {
      read = one-more xs x c.args.bytes.now c.loop.bytes c.read_entry.new.bytes old.read read.1;
      counted = omega (arith, length-append xs (x ∷ []), old.counted);
      each = All-push IsPair xs x old.each read.0;
      between = between-append 0 c.loop.after (x.0 + 1) xs (x ∷ []) old.between (c.if-tile-after.false, omega arith);
      least = λ n a. let last = a (length xs) x (omega (arith, length-append xs (x ∷ []))) in omega (arith, ap (λ (y : ℕ × Entry). y.0) (get_or_push xs x x (length xs) refl));
    })

pub returns-clause-index : goal.returns-clause-index
returns-clause-index c =
    record { rising = rising-between 0 c.loop.after c.loop.entries.items c.loop.invariant.between; each = c.loop.invariant.each }
