-- Runs that were listed to the end are those that the bytes spell, where they have as many cells as are wanted.
use Rattle.std.proofs.Common.{◌≡◌, ℕ, length, sym, ap, ◌∙◌, arith, subst, rules}
use Rattle.std.proofs.lemmas.Bool.Decides.{Decides-eqb}
use Rattle.run_tile.specs.Listing.{AreListed}
use Rattle.run_tile.specs.Runs.{run_count, first_runs, cells_of}
use Rattle.run_tile.proofs.Spelling.{cells_of-none, not-longer}
use Rattle.run_tile.proofs.Lists.{listed-none, listed-all, count-all}
use Rattle.run_tile.proofs.listing.read_each.Goals as goal
use Rattle.run_tile.proofs.listing.read_each.Goals.{then-not-part-via-then-not-part, then-not-part-via-else-not-part+then-values-cells}

pub returns-then-counts-eq0-clause-spelled : goal.returns-then-counts-eq0-clause-spelled
returns-then-counts-eq0-clause-spelled c same =
    let kind = c.args.kind in
    let bytes = c.args.bytes.now in
    let values = c.args.values.now in
    let counts = c.args.counts.now in
    let none : 0 ≡ run_count kind bytes = omega arith in
    let empty : length values ≡ 0 = (Decides-eqb _ _).0 same in
    let cells = ap (λ (n : ℕ). length (cells_of (first_runs kind bytes n))) (sym none) ∙ ap length (cells_of-none kind bytes) in
    (listed-all kind bytes values counts (subst (λ (n : ℕ). AreListed kind bytes values counts n) none (listed-none kind bytes values counts)) c.requires.whole c.requires.runs c.requires.room (cells ∙ sym empty)).0

pub returns-then-counts-eq0-clause-damaged : goal.returns-then-counts-eq0-clause-damaged
returns-then-counts-eq0-clause-damaged c other list len spelled =
    let kind = c.args.kind in
    let bytes = c.args.bytes.now in
    let none : run_count kind bytes ≡ 0 = omega arith in
    let cells = ap (λ (n : ℕ). length (cells_of (first_runs kind bytes n))) none ∙ ap length (cells_of-none kind bytes) in
    let empty = (Decides-eqb (length c.args.values.now) 0).1 (omega (arith, len, count-all kind bytes list spelled, cells)) in
    cc

pub parts-init : goal.parts-init
parts-init c =
    let part = c.read_first-part.ensures.part in
    record {
      sound = part.sound;
      unsound = part.unsound;
      cells_are = omega (arith, part.cells_are, ap length (cells_of-none c.args.kind c.args.bytes.now));
      some = omega arith;
      within = omega arith;
    }

pub returns-then-not-part-clause-damaged : goal.returns-then-not-part-clause-damaged
returns-then-not-part-clause-damaged c _ list len spelled =
    let inv = c.parts.invariant in
    elim c.then-not-part.branch [
      | then-not-part-via-then-not-part w ↦ inv.unsound (search rules) list spelled
      | then-not-part-via-else-not-part+then-values-cells w ↦ omega (arith, not-longer c.args.kind c.args.bytes.now list c.parts.at spelled (omega arith), inv.cells_are)
    ]

pub returns-then-part-clause-spelled : goal.returns-then-part-clause-spelled
returns-then-part-clause-spelled c same =
    let kind = c.args.kind in
    let bytes = c.args.bytes.now in
    let inv = c.parts.invariant in
    let all : c.parts.at ≡ run_count kind bytes = omega (arith, inv.within) in
    let cells : c.parts.cells ≡ length c.parts.values = (Decides-eqb _ _).0 same in
    (listed-all kind bytes c.parts.values c.parts.counts (subst (λ (n : ℕ). AreListed kind bytes c.parts.values c.parts.counts n) all (inv.sound c.if-part.true)) c.requires.whole (omega arith) (omega arith)
    (ap (λ (n : ℕ). length (cells_of (first_runs kind bytes n))) (sym all) ∙ sym inv.cells_are ∙ cells)).0

pub returns-then-part-clause-counted : goal.returns-then-part-clause-counted
returns-then-part-clause-counted c same =
    let kind = c.args.kind in
    let bytes = c.args.bytes.now in
    let inv = c.parts.invariant in
    let all : c.parts.at ≡ run_count kind bytes = omega (arith, inv.within) in
    let cells : c.parts.cells ≡ length c.parts.values = (Decides-eqb _ _).0 same in
    let told = (listed-all kind bytes c.parts.values c.parts.counts (subst (λ (n : ℕ). AreListed kind bytes c.parts.values c.parts.counts n) all (inv.sound c.if-part.true)) c.requires.whole (omega arith) (omega arith)
    (ap (λ (n : ℕ). length (cells_of (first_runs kind bytes n))) (sym all) ∙ sym inv.cells_are ∙ cells)).1 in
    told ∙ omega arith
