-- After the last tile that is listed all have been read.
use Rattle.std.proofs.Common.{◌∙◌, ◌+◌, take, ap, sym, subst, arith, length, get_or, [], ℕ, ℤ, List}
use Rattle.std.proofs.lemmas.Result.{err_from_is_err_and}
use Rattle.std.proofs.lemmas.List.{length-map, take_all}
use Rattle.wcps_mean.proofs.Told.{tells-from}
use Rattle.plan_ir.specs.Run.{numbers_at}
use Rattle.arr_core.specs.Meeting.{tile_number}
use Rattle.plan_ir.specs.Units.{distinct}
use Rattle.tile_columns.specs.declared.scratch.Scratch.{Scratch}
use Rattle.tile_columns.specs.Readings.{cell_read}
use Rattle.tile_columns.proofs.Calls.{reads_on}
use Rattle.tile_columns.proofs.Gathers.{Gathered, all_gathered}
use Rattle.tile_columns.proofs.gather.gather_listed.Goals as goal

pub returns-in_err-fetch_listed-clause-reads : goal.returns-in_err-fetch_listed-clause-reads
returns-in_err-fetch_listed-clause-reads g c =
    let inv = c.loop-k.invariant in
    let p = err_from_is_err_and c.from_residual.result c.from_residual.ensures.1 in
    record {
      only = reads_on inv.reads c.fetch_listed.ensures.reads.only;
      tells = rw (p.1, p.2) (tells-from _ _ _ _ (subst g.S.Tiles.spelled (sym inv.reads.kept)) inv.failures c.in_err-fetch_listed.ensures.reads.tells);
    }

pub loop-k-preserved : goal.loop-k-preserved
loop-k-preserved g c =
    let inv = c.loop-k.invariant in
    let next = c.in_ok-fetch_listed.ensures in
    let gathered : ℕ → (ℕ → ℕ → List ℤ → ℤ) → Scratch → Type 0 = λ n cells s.
    Gathered (take n s.seen.items) s.numbers.items (λ j. cells c.args.reading.now.coverage c.args.reading.now.field (numbers_at (get_or c.args.frame.now j []) c.args.reading.now.indexes.now)) s.cells.items in
    record {
      located = next.located;
      listed = next.listed ∙ inv.listed;
      value = λ i.
          subst (λ cells. gathered (c.loop-k.k + 1) cells c.fetch_listed.new.scratch) inv.reads.cells
          (next.value (inv.reads.intact i) (subst (λ cells. gathered c.loop-k.k cells c.loop-k.scratch) (sym inv.reads.cells) (inv.value i)));
      fetched = omega (arith, next.fetched, inv.fetched);
      reads = reads_on inv.reads c.fetch_listed.ensures.reads.only;
      failures = next.reads.tells ∙ inv.failures;
    }

pub returns-clause-value : goal.returns-clause-value
returns-clause-value g c = λ i.
    let inv = c.loop-k.invariant in
    let n = length-map c.args.frame.now (λ e. tile_number c.args.reading.now.domain.now (numbers_at e c.args.reading.now.indexes.now)) in
    all_gathered (take c.loop-k.k c.loop-k.scratch.seen.items) c.loop-k.scratch.numbers.items c.args.frame.now [] (cell_read (g.S.Tiles.state c.args.source.now) c.args.reading.now) c.loop-k.scratch.cells.items
    (take_all c.loop-k.k c.loop-k.scratch.seen.items (omega (arith, ap length inv.listed, ap length c.requires.listed)) ∙ inv.listed ∙ ap distinct (sym inv.located.tiles))
    (ap length inv.located.tiles ∙ n) inv.located.cells (inv.value i)
