-- Under no number.
use Rattle.std.proofs.Common.{◌≡◌, subst}
use Rattle.std.specs.Prelude.{IfOk}
use Rattle.std.proofs.lemmas.List.{map-id}
use Rattle.arr_core.specs.Domains.{points}
use Rattle.tile_columns.proofs.frame.Frame.of_box.Goals as goal

pub returns : goal.returns
returns c = subst (λ l. IfOk c.of_box_under.result (λ f. f ≡ l)) (map-id (points c.args.area.now)) c.of_box_under.ensures
