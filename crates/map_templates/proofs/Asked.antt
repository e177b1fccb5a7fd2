-- The text of each operation that is asked is a query that gives its array.
use Rattle.std.proofs.Common.{◌≡◌, List, All, Option, Some, None, Ok, sym, subst}
use Rattle.arr_core.specs.declared.signature.Signature.{Signature}
use Rattle.map_templates.specs.declared.params.Params.{Params}
use Rattle.map_templates.specs.declared.template.Template.{Template}
use Rattle.map_templates.specs.declared.template.Template.TheVariants.{Local, Focal, Zonal}
use Rattle.map_templates.specs.Expansion.{Operation, operation_of, text_of}
use Rattle.map_templates.specs.Queries.{IsCoverage, IsAnswered, IsQueryOf}
use Rattle.map_templates.proofs.Found.{local_asked, focal_asked, zonal_asked, no_answer}
use Rattle.map_templates.proofs.Read.{query_of, asked_read}
use Rattle.map_templates.proofs.LocalTyped.{local_answered}
use Rattle.map_templates.proofs.FocalTyped.{focal_answered}
use Rattle.map_templates.proofs.ZonalAnswered.{zonal_answered}

asked_answered : (t : Option Template) (params : Params) (signatures : List Signature) (o : Operation) → All IsCoverage signatures → operation_of t params signatures ≡ Ok o → IsAnswered signatures o (query_of o)
asked_answered None params signatures o all e = no_answer e
asked_answered (Some (Local op)) params signatures o all e =
    let h = local_asked op params signatures o e in
    subst (λ (o : Operation). IsAnswered signatures o (query_of o)) (sym h.is) (local_answered op signatures h.first h.second h.one h.other h.f h.g h.first_found h.second_found all)
asked_answered (Some (Focal op)) params signatures o all e =
    let h = focal_asked op params signatures o e in
    subst (λ (o : Operation). IsAnswered signatures o (query_of o)) (sym h.is) (focal_answered op signatures h.layer h.one h.f h.x h.y h.radius h.layer_found h.domain h.small all)
asked_answered (Some (Zonal op)) params signatures o all e =
    let h = zonal_asked op params signatures o e in
    subst (λ (o : Operation). IsAnswered signatures o (query_of o)) (sym h.is) (zonal_answered op signatures h.layer h.zones h.one h.other h.f h.g h.layer_found h.zones_found h.same all)

pub asked_query : (t : Option Template) (params : Params) (signatures : List Signature) (o : Operation) → All IsCoverage signatures → operation_of t params signatures ≡ Ok o → IsQueryOf signatures o (text_of o)
asked_query t params signatures o all e = record { query = query_of o; reads = asked_read t params signatures o all e; answered = asked_answered t params signatures o all e }
