-- That ProcessTemplate is answered by Tomlin's operation on the coverages of the store.
use Rattle.std.specs.Prelude.{◌≡◌, ◌<◌, ◌⊎◌, length, Ok, Err}
use Rattle.arr_core.specs.declared.refusal.Refusal.TheVariants.{BadValue}
use Rattle.arr_core.specs.Refusals.{number_of}
use Rattle.arr_core.specs.Stores.{Store, found}
use Rattle.catalogue.specs.Signatures.{IsCatalogue}
use Rattle.wcps_text.specs.Tree.{QueryTree}
use Rattle.wcps_types.specs.declared.refusal.TypeRefusal.{TypeRefusal}
use Rattle.wcps_types.specs.Refusals.{refusal_of as type_refusal}
use Rattle.wcps_types.specs.Queries.{typ_query}
use Rattle.http_front.specs.declared.reply.Reply.{Reply}
use Rattle.http_front.specs.declared.reply.Reply.TheVariants.{Refused}
use Rattle.kvp_front.specs.Spelling.{max_query}
use Rattle.kvp_front.specs.Templates.{Template}
use Rattle.map_templates.specs.Expansion.{Operation, asked, text_of}
use Rattle.map_templates.specs.Meaning.{Cells, AreIntegers, array_of}
use Rattle.map_templates.specs.Queries.{IsText}
use Rattle.coverage_server.specs.Asking.{number_in, items_answer}
use Rattle.coverage_server.specs.Machine.{AnswersTemplate, Tells}
use Rattle.coverage_server.specs.Templates.{params_of}
use Rattle.coverage_server.specs.Views.{signatures_of}

-- the numbers of a store: by a coverage's name, a field's place in it, and a point
abbrev pub layers_of : Store → Cells
layers_of store name field point = number_in (found name store) field point

-- the query of the operation's text is refused by its types and limits
pub record IsRefusedQuery (store : Store) (o : Operation) (reply : Reply) : Type 0 where
  pub query : QueryTree
  pub refusal : TypeRefusal
  pub reads : IsText (text_of o) query
  pub refused : typ_query (signatures_of store) query ≡ Err refusal
  pub is : reply ≡ Refused (number_of (type_refusal refusal))

-- The reply is the array that the operation gives on the layers of the store, as comma-separated values, or Overflow.
-- Only where the query of its text is not accepted it is the refusal of that, or BadValue where the text is too long
-- for a query.
abbrev pub RepliesArray : Store → Operation → Reply → Type 0
RepliesArray store o reply =
    Tells (items_answer (array_of (layers_of store) o)) reply ⊎ IsRefusedQuery store o reply
    ⊎ ((max_query < length (text_of o)) × (reply ≡ Refused (number_of BadValue)))

-- where a template asks for an operation, over coverages whose numbers have 64 bits, its answer is that of the
-- operation
abbrev pub TemplatesAreTomlins : Type 0
TemplatesAreTomlins =
    (store : Store) (template : Template) (o : Operation) (reply : Reply) (new : Store)
    → IsCatalogue (signatures_of store) → AreIntegers (layers_of store)
    → asked template.name (params_of template) (signatures_of store) ≡ Ok o → AnswersTemplate template store reply new
    → RepliesArray store o reply
