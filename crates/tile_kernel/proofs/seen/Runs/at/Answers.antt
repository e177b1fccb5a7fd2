-- A place lies in a run, whose value is its outcome.
use Rattle.std.proofs.Common.{◌≡◌, ◌∙◌, ◌≤◌, sym, ap, arith, length, take, map, get_or, pos, SFits, w64, rules, Some}
use Rattle.std.proofs.lemmas.Int.{to_z-of_z}
use Rattle.std.proofs.lemmas.Option.{slice_get-get_or}
use Rattle.std.proofs.lemmas.List.{get_or-map, get_or-take, length-take-le}
use Rattle.wcps_mean.specs.declared.cell.Outcome.TheVariants.{Value}
use Rattle.tile_kernel.specs.Repeated.{runs_shown}
use Rattle.tile_kernel.proofs.Repeats.{length-runs_shown, length-heads, stands_there}
use Rattle.tile_kernel.proofs.seen.Runs.at.Goals as goal

pub run_at-requires : goal.run_at-requires
run_at-requires c =
    let runs = c.args.self.now in
    let e = length-runs_shown runs.values.now runs.counts.now (omega arith) in
    omega (arith, e, c.requires)

pub returns : goal.returns
returns c =
    let runs = c.args.self.now in
    let zs = runs.values.now in
    let ns = runs.counts.now in
    let run = c.run_at.result in
    let z = get_or zs run (pos 0) in
    let fits : SFits w64 z = search rules in
    let few : length ns ≤ length zs = omega arith in
    let long = length-heads zs (length ns) few in
    let taken : length (take (length ns) zs) ≡ length ns = length-take-le (length ns) zs few in
    slice_get-get_or (runs_shown runs) c.args.place (Value z) c.requires
    ∙ ap Some (stands_there (map Value (take (length ns) zs)) ns c.args.place run (Value z) (Value z) long c.run_at.ensures
    ∙ get_or-map Value (take (length ns) zs) run (pos 0) (Value z) (omega (arith, taken, c.run_at.ensures.within))
    ∙ ap Value (get_or-take (length ns) zs run (pos 0) c.run_at.ensures.within ∙ sym (to_z-of_z w64 z fits)))
