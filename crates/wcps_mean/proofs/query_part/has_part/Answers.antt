-- Whether a tree has a part, it has over all coverages.
use Rattle.std.proofs.Common.{rules, ◌≡◌, ◌∙◌, ap, sym}
use Rattle.std.specs.Prelude.{option_map, is_some}
use Rattle.wcps_types.specs.Typed.{tree_view}
use Rattle.wcps_types.specs.Renamed.{over}
use Rattle.wcps_mean.specs.Parts.{part_of}
use Rattle.wcps_mean.specs.Spots.{part_at}
use Rattle.wcps_mean.proofs.PartsOver.{is_some-map, there-over}
use Rattle.wcps_mean.proofs.query_part.has_part.Goals as goal

pub returns-in-Some : goal.returns-in-Some
returns-in-Some c places =
    let t = tree_view c.in-Some.tree in
    let here : c.is_some.result ≡ is_some c.spot_of.result = search rules in
    here ∙ sym (is_some-map part_at c.spot_of.result) ∙ ap is_some c.spot_of.ensures ∙ sym (there-over places c.args.part t)
    ∙ ap (λ o. is_some (part_of c.args.part (over places (option_map tree_view o)))) (sym c.in-Some.is)
