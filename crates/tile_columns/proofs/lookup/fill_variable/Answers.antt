-- The numbers of a variable, as values.
use Rattle.std.proofs.Common.{◌≡◌, ◌∙◌, ap, sym, map, length, get_or, pos, ℕ, ℤ, List, rules}
use Rattle.std.specs.Prelude.{replicate}
use Rattle.wcps_mean.specs.declared.cell.Outcome.TheVariants.{Value}
use Rattle.tile_columns.proofs.Ranges.{map_map, map_same}
use Rattle.tile_columns.proofs.lookup.fill_variable.Goals as goal

same_values : (envs : List (List ℤ)) (k n : ℕ) (z y : ℤ) → n ≡ length envs → map (λ (e : List ℤ). get_or e k (pos 0)) envs ≡ replicate (length envs) z → y ≡ z → replicate n (Value y) ≡ map (λ (e : List ℤ). Value (get_or e k (pos 0))) envs
same_values envs k n z y e h q =
    ap (λ m. replicate m (Value y)) e ∙ ap (λ x. replicate (length envs) (Value x)) q ∙ sym (map_same Value (length envs) z) ∙ ap (map Value) (sym h) ∙ map_map Value (λ (e : List ℤ). get_or e k (pos 0)) envs

pub returns-in-Some : goal.returns-in-Some
returns-in-Some c = c.fill.ensures ∙ same_values c.args.frame.now c.args.k c.places-places.result _ _ c.places-places.ensures.value c.in-Some.ensures (search rules)

pub returns : goal.returns
returns c = c.write.ensures ∙ ap (map Value) (c.deref.ensures.value ∙ c.in_ok-list.ensures) ∙ map_map Value (λ (e : List ℤ). get_or e c.args.k (pos 0)) c.args.frame.now
