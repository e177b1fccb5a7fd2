-- Without variables each place has no number.
use Rattle.std.proofs.Common.{◌≡◌, ◌∙◌, ℕ, List, [], ◌∷◌, ap, refl, length, map}
use Rattle.std.specs.Prelude.{replicate}
use Rattle.std.specs.List.{range_with_len}
use Rattle.std.proofs.lemmas.List.FromFn.{length-range_with_len}
use Rattle.tile_columns.specs.Frames.{environment, environments}
use Rattle.tile_columns.proofs.Turns.{none_whole}
use Rattle.tile_columns.proofs.frame.Frame.of_places.Goals as goal

none_at : (ks : List ℕ) → map (environment []) ks ≡ replicate (length ks) []
none_at [] = refl
none_at (k ∷ ks) = ap (λ l. [] ∷ l) (none_at ks)

pub invariant_of-result : goal.invariant_of-result
invariant_of-result c = record { few = c.requires; whole = none_whole c.args.places _ c.new-variables.ensures.items }

pub returns : goal.returns
returns c =
    ap (environments c.args.places) c.new-variables.ensures.items
    ∙ none_at (range_with_len 0 c.args.places)
    ∙ ap (λ n. replicate n []) (length-range_with_len 0 c.args.places)
