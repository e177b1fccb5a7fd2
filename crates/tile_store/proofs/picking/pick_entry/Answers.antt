-- The runs that were walked are the tile's.
use Rattle.std.proofs.Common.{◌≡◌, ◌∙◌, List, ℤ, Err, ap, sym, subst, arith}
use Rattle.std.proofs.lemmas.Result.{err_from_is_err_and}
use Rattle.std.proofs.lemmas.Grind.{common_steps}
use Rattle.file_bytes.specs.declared.form.Form.{Form}
use Rattle.file_bytes.specs.declared.form.Form.TheVariants.{Runs}
use Rattle.run_tile.specs.Raw.{cells_in}
use Rattle.run_tile.specs.Picking.{picked, AreRanks}
use Rattle.file_bytes.specs.declared.error.ReadError.{ReadError}
use Rattle.tile_store.specs.declared.fault.Fault.{Fault}
use Rattle.tile_store.specs.Picking.{cells_as}
use Rattle.tile_store.specs.Stored.{entry_data, cells_read}
use Rattle.tile_store.proofs.Picks.{refuses_read}
use Rattle.tile_store.proofs.picking.pick_entry.Goals as goal

pub returns-in_err-pick_runs-in-Runs-clause-why : goal.returns-in_err-pick_runs-in-Runs-clause-why
unfolding cells_read
returns-in_err-pick_runs-in-Runs-clause-why g c =
    let s = g.B.Blocks.state c.args.blocks.now in
    let e = c.args.entry.now in
    let p = err_from_is_err_and c.from_residual-in_err-pick_runs-in-Runs.result c.from_residual-in_err-pick_runs-in-Runs.ensures.1 in
    let fault = c.in_err-pick_runs-in-Runs.field-0.0 in
    refuses_read _ fault (p.1 ∙ ap (λ (x : Fault). Err x) p.2) (λ is honest all.
    let there : c.deref.result.now ≡ entry_data s.content e = c.deref.ensures.value ∙ c.in_ok-read_bytes-in-Runs.ensures.value honest in
    let same : cells_as e.form c.args.kind s e ≡ cells_in Runs c.args.kind c.deref.result.now = ap (λ (f : Form). cells_in f c.args.kind (entry_data s.content e)) c.in-Runs.is ∙ ap (cells_in Runs c.args.kind) (sym there) in
    c.in_err-pick_runs-in-Runs.ensures.damaged (ap (λ (x : ReadError). Err x) is) (subst (λ (l : List ℤ). AreRanks l c.args.ranks.now) same all))

pub returns-in_ok-pick_runs-in-Runs-clause-picked : goal.returns-in_ok-pick_runs-in-Runs-clause-picked
unfolding cells_read
returns-in_ok-pick_runs-in-Runs-clause-picked g c = λ honest.
    let s = g.B.Blocks.state c.args.blocks.now in
    let e = c.args.entry.now in
    let there : c.deref.result.now ≡ entry_data s.content e = c.deref.ensures.value ∙ c.in_ok-read_bytes-in-Runs.ensures.value honest in
    let same : cells_as e.form c.args.kind s e ≡ cells_in Runs c.args.kind c.deref.result.now = ap (λ (f : Form). cells_in f c.args.kind (entry_data s.content e)) c.in-Runs.is ∙ ap (cells_in Runs c.args.kind) (sym there) in
    c.in_ok-pick_runs-in-Runs.ensures.picked ∙ ap (λ (l : List ℤ). picked l c.args.ranks.now) (sym same)

pub returns-in_ok-resize-in-Raw-clause-picked : goal.returns-in_ok-resize-in-Raw-clause-picked
returns-in_ok-resize-in-Raw-clause-picked g c = grind (arith, common_steps)

pub returns-in_ok-resize-in-Raw-clause-counted : goal.returns-in_ok-resize-in-Raw-clause-counted
returns-in_ok-resize-in-Raw-clause-counted g c = grind (arith, common_steps)
