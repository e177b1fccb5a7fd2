-- The text of each operation that is asked is a query.
use Rattle.std.proofs.Common.{◌≡◌, ℕ, ◌≤◌, List, [], true, All, Option, Some, None, Ok, sym, subst, ◌∙◌, append-nil}
use Rattle.arr_core.specs.declared.signature.Signature.{Signature}
use Rattle.wcps_text.specs.Token.{Tok}
use Rattle.wcps_text.specs.Tree.{QueryTree}
use Rattle.wcps_text.specs.Grammar.{IsSpelled}
use Rattle.wcps_text.specs.Limits.{query_height}
use Rattle.wcps_parse.specs.Outcome.{IsWithinLimits}
use Rattle.map_templates.specs.declared.params.Params.{Params}
use Rattle.map_templates.specs.declared.template.Template.{Template}
use Rattle.map_templates.specs.declared.template.Template.TheVariants.{Local, Focal, Zonal}
use Rattle.map_templates.specs.Expansion.{Operation, local_on, focal_on, zonal_on, operation_of, text_of}
use Rattle.map_templates.specs.Queries.{IsCoverage, IsText}
use Rattle.map_templates.proofs.Marks.{toks_of, spaced, Proper, Puts, clear, cut}
use Rattle.map_templates.proofs.Written.{Marks, AreAxes, local_query_puts, local_spaced, local_proper, focal_query_puts, focal_spaced, focal_proper, zonal_query_puts, zonal_spaced, zonal_proper}
use Rattle.map_templates.proofs.Spelled.{local_tree, focal_tree, zonal_tree, local_query_spelled, focal_query_spelled, zonal_query_spelled}
use Rattle.map_templates.proofs.Limits.{local_within, focal_within, zonal_within, local_low, focal_low, zonal_low}
use Rattle.map_templates.proofs.Found.{local_asked, focal_asked, zonal_asked, layer_named, found_named, axes_known, no_answer}
use Rattle.map_templates.proofs.Marks as marks

-- a text of marks that are spaced and proper
text_read : (text : List ℕ) (M : Marks) (q : QueryTree) → Puts text M → spaced (M []) ≡ true → Proper (M []) → IsWithinLimits (toks_of (M [])) → IsSpelled (toks_of (M [])) q → query_height q ≤ 64 → IsText text q
text_read text M q puts dense proper within spelled low =
    let pieces = cut (M []) 0 (clear (M []) dense proper) in
    let same : marks.text_of (M []) ≡ text = sym (puts.puts []) ∙ append-nil text in
    subst (λ (bytes : List ℕ). IsText bytes q) same (record {
      pieces = pieces.pieces;
      lexed = pieces.lexed;
      within = subst IsWithinLimits (sym pieces.same) within;
      spelled = subst (λ (ts : List Tok). IsSpelled ts q) (sym pieces.same) spelled;
      low = low;
    })

-- the query of each operation
abbrev pub query_of : Operation → QueryTree
query_of (local_on op first f second g axes) = local_tree op first second
query_of (focal_on op layer f x y radius) = focal_tree op layer x y radius
query_of (zonal_on op layer f zones g axes) = zonal_tree op layer zones axes

pub asked_read : (t : Option Template) (params : Params) (signatures : List Signature) (o : Operation) → All IsCoverage signatures → operation_of t params signatures ≡ Ok o → IsText (text_of o) (query_of o)
asked_read None params signatures o all e = no_answer e
asked_read (Some (Local op)) params signatures o all e =
    let h = local_asked op params signatures o e in
    let m = layer_named signatures h.first h.one h.f h.first_found all in
    let n = layer_named signatures h.second h.other h.g h.second_found all in
    subst (λ (o : Operation). IsText (text_of o) (query_of o)) (sym h.is)
    (text_read (text_of (local_on op h.first h.f h.second h.g h.one.domain)) _ (local_tree op h.first h.second) (local_query_puts op h.first h.second) (local_spaced op h.first h.second)
    (local_proper op h.first h.second m n) (local_within op h.first h.second) (local_query_spelled op h.first h.second) (local_low op h.first h.second))
asked_read (Some (Focal op)) params signatures o all e =
    let h = focal_asked op params signatures o e in
    let m = layer_named signatures h.layer h.one h.f h.layer_found all in
    let s = (found_named signatures h.layer h.one h.f h.layer_found all).1 in
    let axes = subst AreAxes h.domain (axes_known h.one.domain s.axes s.domain.ordered) in
    subst (λ (o : Operation). IsText (text_of o) (query_of o)) (sym h.is)
    (text_read (text_of (focal_on op h.layer h.f h.x h.y h.radius)) _ (focal_tree op h.layer h.x h.y h.radius) (focal_query_puts op h.layer h.x h.y h.radius) (focal_spaced op h.layer h.x h.y h.radius)
    (focal_proper op h.layer h.x h.y h.radius h.small m axes.0 axes.1.0) (focal_within op h.layer h.x h.y h.radius) (focal_query_spelled op h.layer h.x h.y h.radius) (focal_low op h.layer h.x h.y h.radius))
asked_read (Some (Zonal op)) params signatures o all e =
    let h = zonal_asked op params signatures o e in
    let m = layer_named signatures h.layer h.one h.f h.layer_found all in
    let n = layer_named signatures h.zones h.other h.g h.zones_found all in
    let s = (found_named signatures h.layer h.one h.f h.layer_found all).1 in
    let axes = axes_known h.one.domain s.axes s.domain.ordered in
    subst (λ (o : Operation). IsText (text_of o) (query_of o)) (sym h.is)
    (text_read (text_of (zonal_on op h.layer h.f h.zones h.g h.one.domain)) _ (zonal_tree op h.layer h.zones h.one.domain) (zonal_query_puts op h.layer h.zones h.one.domain) (zonal_spaced op h.layer h.zones h.one.domain)
    (zonal_proper op h.layer h.zones h.one.domain s.domain.few_axes m n axes) (zonal_within op h.layer h.zones h.one.domain s.domain.few_axes)
    (zonal_query_spelled op h.layer h.zones h.one.domain s.some) (zonal_low op h.layer h.zones h.one.domain))
