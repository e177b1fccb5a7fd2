-- One value more was read.
use Rattle.std.proofs.Common.{◌≡◌, ◌≢◌, ℕ, ◌<◌, pos, map, length, get_or, ◌∙◌, sym, subst, arith, rules, below_more, ⊎_elim, SFits, w64, to_z-of_z, true≢false}
use Rattle.std.proofs.Math.ListN.{set, length-set}
use Rattle.std.proofs.lemmas.List.{length-map, map-set, get_or-set_other, get_or-set_same}
use Rattle.arr_core.specs.Cells.{Fits}
use Rattle.run_tile.specs.Raw.{raw_at}
use Rattle.run_tile.proofs.RawTiles.{both-true, one-false}
use Rattle.run_tile.proofs.raw.read_each.Goals as goal

pub loop-place-preserved : goal.loop-place-preserved
loop-place-preserved g c =
    let number = g.N.Number.number in
    let kind = c.args.kind in
    let bytes = c.args.bytes.now in
    let place = c.loop-place.place in
    let cells = c.loop-place.cells in
    let inv = c.loop-place.invariant in
    let bound : SFits w64 c.value_at-value.result = search rules in
    let whole = to_z-of_z bound ∙ c.value_at-value.ensures in
    let long : length (map number cells) ≡ length cells = length-map cells number in
    let within : place < length (map number cells) = omega arith in
    record {
      read = rw (map-set number cells place c.of.result)
          (below_more (λ (k : ℕ). get_or (set (map number cells) place (number c.of.result)) k (pos 0) ≡ raw_at kind bytes k) place (λ k h. (let ne : k ≢ place = omega arith in rw get_or-set_other (inv.read k h))) (rw get_or-set_same (c.of.ensures ∙ whole)));
      fit = λ t. let both = both-true c.loop-place.fit c.fits-fit.result t in below_more (λ (k : ℕ). Fits kind (raw_at kind bytes k)) place (inv.fit both.0) (subst (Fits kind) whole (c.fits-fit.ensures.0 both.1));
      unfit = λ f. ⊎_elim
          (λ e. let w = inv.unfit e in (w.0, omega (arith, w.1, length-set cells place c.of.result), w.2))
          (λ e. (place, omega (arith, length-set cells place c.of.result), λ h. true≢false (sym (c.fits-fit.ensures.1 (subst (Fits kind) (sym whole) h)) ∙ e)))
          (one-false c.loop-place.fit c.fits-fit.result f);
    }
