-- The step of a merge.
use Rattle.std.proofs.Common.{◌≡◌, ◌≢◌, ℕ, suc, ◌^◌, List, [], ◌∷◌, ◌++◌, sym, ap, ◌∙◌, arith, Option, Some, None, append-nil, refl, ⊎_elim}
use Rattle.std.proofs.lemmas.Bool.{cases_eq}
use Rattle.tile_index.specs.Index.{found_at, changed_at, IsRising, IsIndex, AreChanges}
use Rattle.tile_index.specs.Moves.{IsBetween, AreApart, ArePartedAt}
use Rattle.tile_index.specs.declared.entry.Entry.{Entry}
use Rattle.tile_index.proofs.Between.{between-from, rising-between, between-wider, between-append, between-last}
use Rattle.tile_index.proofs.Found.{found-other, found-here, found-none}

-- some changes and entries are left, and the others are done: what the tiles have in the end stays the same
pub record IsMerging (cs : List (ℕ × Option Entry)) (es : List (ℕ × Entry)) (changes : List (ℕ × Option Entry)) (entries done : List (ℕ × Entry)) : Type 0 where
  pub bound : ℕ
  pub changes_low : IsBetween 0 changes bound
  pub low : IsBetween 0 entries bound
  pub high : IsBetween bound done (2 ^ 32)
  pub gives : (t : ℕ) → changed_at t changes (entries ++ done) ≡ changed_at t cs es

pub merging-start : (changes : List (ℕ × Option Entry)) (entries : List (ℕ × Entry)) → IsIndex entries → AreChanges changes entries → IsMerging changes entries changes entries []
merging-start changes entries i c = record {
  bound = 2 ^ 32;
  changes_low = between-from 0 (2 ^ 32) changes (omega arith) (λ k d l. omega arith) c.small c.rising;
  low = between-from 0 (2 ^ 32) entries (omega arith) (λ k d l. omega arith) (λ k d l. (i.pairs.each k d l).0) i.pairs.rising;
  high = omega arith;
  gives = λ t. ap (changed_at t changes) (append-nil entries);
}

pub merging-apart : (cs : List (ℕ × Option Entry)) (es : List (ℕ × Entry)) (all changes : List (ℕ × Option Entry)) (x : ℕ × Option Entry) (entries done : List (ℕ × Entry)) → all ≡ changes ++ x ∷ [] → IsMerging cs es all entries done → AreApart x.0 entries done
merging-apart cs es all changes x entries done e m =
    record { bound = m.bound; above = (between-last 0 m.bound changes x (rw e at m.changes_low)).1; low = m.low; high = m.high }

-- a pair in front, if a change gives one
abbrev pub given : Option Entry → ℕ → List (ℕ × Entry) → List (ℕ × Entry)
given None tile xs = xs
given (Some e) tile xs = (tile, e) ∷ xs

given-high : (c : Option Entry) (tile : ℕ) (xs : List (ℕ × Entry)) → IsBetween (suc tile) xs (2 ^ 32) → IsBetween tile (given c tile xs) (2 ^ 32)
given-high None tile xs b = between-wider tile (suc tile) (2 ^ 32) (2 ^ 32) xs (omega arith) (omega arith) b
given-high (Some e) tile xs b = (omega arith, b)

given-here : (c : Option Entry) (tile : ℕ) (kept later : List (ℕ × Entry)) → IsBetween 0 kept tile → IsBetween (suc tile) later (2 ^ 32) → found_at tile (kept ++ given c tile later) ≡ c
given-here None tile kept later low high = found-none tile 0 (suc tile) (2 ^ 32) kept later low (omega arith) high
given-here (Some e) tile kept later low high = found-here tile 0 e kept later low

given-other : (c : Option Entry) (t tile : ℕ) (kept later : List (ℕ × Entry)) → t ≢ tile → found_at t (kept ++ given c tile later) ≡ found_at t (kept ++ later)
given-other None t tile kept later n = refl
given-other (Some e) t tile kept later n = found-other t (tile, e) kept later n

pub merging-step : (cs : List (ℕ × Option Entry)) (es : List (ℕ × Entry)) (all changes : List (ℕ × Option Entry)) (tile : ℕ) (c : Option Entry) (entries done kept later : List (ℕ × Entry)) → all ≡ changes ++ (tile, c) ∷ [] → IsMerging cs es all entries done → ArePartedAt tile (entries ++ done) kept later → IsMerging cs es changes kept (given c tile later)
merging-step cs es all changes tile c entries done kept later popped m p =
    let low = (between-last 0 m.bound changes (tile, c) (rw popped at m.changes_low)).0 in
    let nothing : found_at tile changes ≡ None = ap (found_at tile) (sym (append-nil changes)) ∙ found-none tile 0 (suc tile) (suc tile) changes [] low (omega arith) (omega arith) in
    let here : found_at tile all ≡ Some c = ap (found_at tile) popped ∙ found-here tile 0 c changes [] low in
    record {
      bound = tile;
      changes_low = low;
      low = p.before;
      high = given-high c tile later p.after;
      gives = λ t. ⊎_elim
          (λ (e : t ≡ tile). rw (e, nothing, given-here c tile kept later p.before p.after) (rw here at (m.gives tile)))
          (λ (n : t ≢ tile).
          let other : found_at t all ≡ found_at t changes = ap (found_at t) popped ∙ found-other t (tile, c) changes [] n ∙ ap (found_at t) (append-nil changes) in
          rw (given-other c t tile kept later n, p.same t n, ← other) (m.gives t))
          (cases_eq t tile);
    }

pub merging-rises : (cs : List (ℕ × Option Entry)) (es : List (ℕ × Entry)) (changes : List (ℕ × Option Entry)) (entries done : List (ℕ × Entry)) → IsMerging cs es changes entries done → IsRising (entries ++ done)
merging-rises cs es changes entries done m =
    rising-between 0 (2 ^ 32) (entries ++ done) (between-append 0 m.bound (2 ^ 32) entries done m.low m.high)
