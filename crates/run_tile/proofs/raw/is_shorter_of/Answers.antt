-- The runs were counted far enough to tell whether they take more.
use Rattle.std.proofs.Common.{◌≡◌, ◌*◌, ◌+◌, ◌<◌, ℕ, length, ap, sym, subst, arith}
use Rattle.std.proofs.lemmas.Bool.Decides.{Decides-ltb}
use Rattle.run_tile.specs.Runs.{runs_in}
use Rattle.run_tile.specs.Raw.{raw_cells, runs_size}
use Rattle.run_tile.proofs.RawTiles.{counted-short}
use Rattle.run_tile.proofs.raw.is_shorter_of.Goals as goal

pub returns : goal.returns
returns c =
    let cells = raw_cells c.args.kind c.args.bytes.now in
    let size = length c.args.bytes.now in
    let all = runs_in cells in
    let told = counted-short size (2 + c.width.result) c.count_runs.result all (omega arith) c.count_runs.ensures.exact c.count_runs.ensures.more in
    let same : all * (2 + c.width.result) ≡ runs_size c.args.kind cells = ap (λ (w : ℕ). all * (2 + w)) c.width.ensures in
    ((λ h. subst (λ (n : ℕ). size < n) same (told.0 ((Decides-ltb _ _).0 h))), λ h. (Decides-ltb _ _).1 (told.1 (subst (λ (n : ℕ). size < n) (sym same) h)))
