-- The text is a query of the operation that is asked for, and the tree of any operation gives Tomlin's array.
use Rattle.std.proofs.Common.{◌≡◌, Option, string_bytes, Ok, subst}
use Rattle.map_templates.specs.declared.template.Template.{Template}
use Rattle.map_templates.specs.Expansion.{Operation, asked, operation_of, as_text}
use Rattle.map_templates.specs.Refusals.{Says}
use Rattle.map_templates.specs.Templates.{template_named}
use Rattle.map_templates.specs.Queries.{IsQueryOf}
use Rattle.map_templates.proofs.Laws.{all-tomlins}
use Rattle.map_templates.proofs.Found.{told}
use Rattle.map_templates.proofs.Asked.{asked_query}
use Rattle.map_templates.proofs.expansion.expand.Goals as goal

pub returns-clause-means : goal.returns-clause-means
returns-clause-means c = all-tomlins c.expand_template.result (λ (o : Operation). asked c.args.template.now c.args.params.now c.args.signatures.now ≡ Ok o)

pub returns-clause-queries : goal.returns-clause-queries
returns-clause-queries c all =
    told (λ t. string_bytes t) c.expand_template.result (asked c.args.template.now c.args.params.now c.args.signatures.now) (IsQueryOf c.args.signatures.now)
    (subst (λ (t : Option Template). Says (λ t. string_bytes t) c.expand_template.result (as_text (operation_of t c.args.params.now c.args.signatures.now))) c.template_named.ensures c.expand_template.ensures)
    (λ o e. asked_query (template_named c.args.template.now) c.args.params.now c.args.signatures.now o all e)
