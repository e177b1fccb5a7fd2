-- A name that has no place gets the new one, and the other names have what they had.
use Rattle.std.proofs.Common.{◌≡◌, ◌∙◌, ℕ, List, Some, false, ap, cond, is_some, string_bytes, rules}
use Rattle.std.proofs.lemmas.Map.Text.{btree_map_updates_text}
use Rattle.std.specs.BTreeMap.{get_by_text}
use Rattle.std.specs.Str.{bytes_eq}
use Rattle.wcps_types.proofs.Places.{new-place}
use Rattle.wcps_types.proofs.bound.with_place.Goals as goal

pub returns : goal.returns
returns c =
    let own = c.in_ok-from_str.field-0 in
    let before = get_by_text c.args.places in
    let same : string_bytes own ≡ c.args.name.now = search rules in
    let none : is_some (before c.args.name.now) ≡ false = search rules in
    λ x. btree_map_updates_text (string_bytes own) c.args.places c.insert.new.self (Some c.args.place) c.in_ok-insert.ensures.updates x
    ∙ ap (λ (name : List ℕ). cond (bytes_eq name x) (Some c.args.place) (before x)) same
    ∙ new-place before c.args.name.now c.args.place none x
