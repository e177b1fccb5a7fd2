-- A name is new where no part has it, and then the set has it beside the names of the parts.
use Rattle.std.proofs.Common.{◌≡◌, ◌∙◌, ℕ, List, Bool, true, false, cond, not, ap, sym, rules, string_bytes}
use Rattle.std.proofs.lemmas.Map.Text.{btree_set_updates_text}
use Rattle.std.specs.Str.{bytes_eq}
use Rattle.std.specs.BTreeSet.{contains_text}
use Rattle.wcps_types.proofs.Parts.{has_name}
use Rattle.wcps_types.proofs.records.with_name.Goals as goal

pub returns-then-not-is_new-clause-new : goal.returns-then-not-is_new-clause-new
returns-then-not-is_new-clause-new c =
    let same : string_bytes c.in_ok-from_str.field-0 ≡ c.args.name.now = search rules in
    let added : c.in_ok-is_new.is_new ≡ not (contains_text c.args.pieces.names (string_bytes c.in_ok-from_str.field-0)) = c.in_ok-is_new.ensures.added in
    let old : c.in_ok-is_new.is_new ≡ false = search rules in
    sym old ∙ added ∙ ap (λ (n : List ℕ). not (contains_text c.args.pieces.names n)) same ∙ ap not (has_name c.args.pieces c.args.name.now)

pub invariant_of-result : goal.invariant_of-result
invariant_of-result c =
    let own = c.in_ok-from_str.field-0 in
    let names = c.args.pieces.names in
    let same : string_bytes own ≡ c.args.name.now = search rules in
    let named : c.in_ok-name.name ≡ c.args.name.now = search rules in
    record {
      named = λ x. btree_set_updates_text (string_bytes own) names c.insert.new.self true c.in_ok-is_new.ensures.updates x
          ∙ ap (λ (n : List ℕ). cond (bytes_eq n x) true (contains_text names x)) (same ∙ sym named) ∙ ap (λ (b : Bool). cond (bytes_eq c.in_ok-name.name x) true b) (c.args.pieces.named x);
    }

pub returns-clause-new : goal.returns-clause-new
returns-clause-new c =
    let same : string_bytes c.in_ok-from_str.field-0 ≡ c.args.name.now = search rules in
    let added : c.in_ok-is_new.is_new ≡ not (contains_text c.args.pieces.names (string_bytes c.in_ok-from_str.field-0)) = c.in_ok-is_new.ensures.added in
    let new : c.in_ok-is_new.is_new ≡ true = search rules in
    sym new ∙ added ∙ ap (λ (n : List ℕ). not (contains_text c.args.pieces.names n)) same ∙ ap not (has_name c.args.pieces c.args.name.now)
