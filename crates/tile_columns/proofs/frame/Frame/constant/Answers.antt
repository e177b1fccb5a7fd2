-- One number at every place.
use Rattle.std.proofs.Common.{◌≡◌, ◌∙◌, ℕ, ap, sym, subst, map, length, get_or, pos, ℤ, List}
use Rattle.std.specs.Prelude.{replicate}
use Rattle.tile_columns.specs.Frames.{environment}
use Rattle.tile_columns.proofs.Turns.{constants, if_some}
use Rattle.tile_columns.proofs.frame.Frame.constant.Goals as goal

pub returns : goal.returns
returns c =
    if_some c.constant_at.result (λ z. (place : ℕ) → get_or (environment c.deref.result.now place) c.args.k (pos 0) ≡ z)
    (λ z. map (λ (e : List ℤ). get_or e c.args.k (pos 0)) c.args.self.now ≡ replicate (length c.args.self.now) z)
    (λ z h. subst (λ v. map (λ (e : List ℤ). get_or e c.args.k (pos 0)) v ≡ replicate (length v) z) c.self.view_is
    (constants c.self.inside.places c.self.inside.variables.items c.args.k z (λ place. ap (λ v. get_or (environment v place) c.args.k (pos 0)) (sym c.deref.ensures.value) ∙ h place)))
    c.constant_at.ensures
