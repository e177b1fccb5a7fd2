-- The first run has none before it.
use Rattle.std.proofs.Common.{true, ap, sym, ◌∙◌, ◌<◌, length, arith, rules, subst, SFits, w64, to_z-of_z}
use Rattle.std.proofs.lemmas.List.{get_or-set_same}
use Rattle.run_tile.specs.Runs.{IsRun}
use Rattle.run_tile.specs.declared.run.Run.{Run}
use Rattle.run_tile.proofs.Lists.{listed-none, part-none, part-more, told-both}
use Rattle.run_tile.proofs.listing.read_first.Goals as goal

pub returns-clause-part : goal.returns-clause-part
returns-clause-part c =
    let kind = c.args.kind in
    let bytes = c.args.bytes.now in
    let read = c.read_at-run.ensures in
    let fits : SFits w64 c.read_at-run.result.value = search rules in
    let some : 0 < length c.args.counts.now = omega arith in
    let room : 0 < length c.args.values.now = omega arith in
    part-more kind bytes 0 0 _ _ _ _ (record { sound = true; cells = 0 }) _ (part-none kind bytes c.args.values.now c.args.counts.now 0 (listed-none kind bytes _ _)) (omega arith)
    (told-both kind bytes 0 true c.is_run.result (λ t. (subst (IsRun kind) read (c.is_run.ensures.0 t), λ same. cc), λ both. c.is_run.ensures.1 (subst (IsRun kind) (sym read) both.0)))
    (record {
      values_before = λ k h. absurd (omega arith);
      value = rw get_or-set_same (to_z-of_z fits ∙ ap (λ (r : Run). r.value) read);
      counts_before = λ k h. absurd (omega arith);
      count = rw get_or-set_same (c.from-count.ensures ∙ ap (λ (r : Run). r.count) read);
    }) (omega (arith, c.from-count.ensures, ap (λ (r : Run). r.count) read))
