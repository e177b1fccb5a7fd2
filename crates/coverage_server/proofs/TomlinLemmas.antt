-- The answer to a template's query is that of its operation.
use Rattle.std.proofs.Common.{◌≡◌, ℕ, ◌<◌, ℤ, ◌≤ℤ◌, pos, negsuc, List, length, Option, None, Some, Result, Ok, Err, refl, sym, ap, ◌∙◌, subst, arith, inl, inr, All, FitsSigned, w32}
use Rattle.std.specs.Prelude.{option_and_then, slice_get}
use Rattle.std.proofs.lemmas.Int.{ints}
use mathlib.Core.Path.{fun_ext}
use Rattle.arr_core.specs.declared.refusal.Refusal.{Refusal}
use Rattle.arr_core.specs.declared.refusal.Refusal.TheVariants.{BadValue}
use Rattle.arr_core.specs.Refusals.{number_of}
use Rattle.arr_core.specs.declared.domain.Axis.{Axis}
use Rattle.arr_core.specs.declared.signature.Signature.{Signature}
use Rattle.arr_core.specs.Stores.{Store, found}
use Rattle.catalogue.specs.Signatures.{IsCatalogue, IsSignature, IsAxis as IsListedAxis}
use Rattle.wcps_text.specs.Token.{Tok}
use Rattle.wcps_text.specs.Lexing.{Lexed, tokens_of}
use Rattle.wcps_text.specs.Grammar.{IsSpelled}
use Rattle.wcps_text.specs.Tree.{QueryTree}
use Rattle.wcps_parse.specs.Outcome.{IsWithinLimits}
use Rattle.wcps_parse.proofs.Queries.{one_spelled}
use Rattle.wcps_parse.proofs.Texts.{lexed-once, not-both}
use Rattle.wcps_types.specs.declared.refusal.TypeRefusal.{TypeRefusal}
use Rattle.wcps_types.specs.Typed.{TypedTree}
use Rattle.wcps_types.specs.Queries.{typ_query}
use Rattle.wcps_mean.specs.declared.cell.PointFault.{PointFault}
use Rattle.wcps_mean.specs.declared.item.Item.{Item}
use Rattle.wcps_mean.specs.Answer.{answer}
use Rattle.http_front.specs.declared.reply.Reply.{Reply}
use Rattle.http_front.specs.declared.reply.Reply.TheVariants.{Text, Csv, Refused}
use Rattle.map_templates.specs.Expansion.{Operation, as_text, text_of}
use Rattle.map_templates.specs.Meaning.{AreIntegers, listed as listed_cells, cells_of as layer_cells}
use Rattle.map_templates.specs.Queries.{IsAxis, IsCoverage, IsQueryOf}
use Rattle.map_templates.specs.Refusals.{Answer}
use Rattle.map_templates.specs.Templates.{template_named}
use Rattle.map_templates.proofs.Asked.{asked_query}
use Rattle.coverage_server.specs.Asking.{QueryAnswer, TypedAnswer, cells_of, number_in, items_answer, typed_answer, tree_typed, TokensTyped, too_deep, no_query, query, TextTyped, too_long, no_tokens, lexed, evaluated}
use Rattle.coverage_server.specs.Machine.{Answers, AnswersText, Tells}
use Rattle.coverage_server.specs.Templates.{params_of}
use Rattle.coverage_server.specs.Tomlin.{layers_of, RepliesArray, TemplatesAreTomlins}
use Rattle.coverage_server.specs.Views.{signatures_of}
use Rattle.coverage_server.proofs.AskingLemmas.{tree_within}

-- ---- a catalogue's signatures are those of coverages

low_bound : (z : ℤ) → FitsSigned w32 z → negsuc 2147483647 ≤ℤ z
low_bound z f = omega (arith, ints, f.sfits)

high_bound : (z : ℤ) → FitsSigned w32 z → z ≤ℤ pos 2147483647
high_bound z f = omega (arith, ints, f.sfits)

axis_alike : (a : Axis) → IsListedAxis a → IsAxis a
axis_alike a x = record { named = x.named; small = (low_bound a.lo x.low, high_bound a.hi x.high) }

coverage_alike : (s : Signature) → IsSignature s → IsCoverage s
coverage_alike s x = record {
  named = x.named;
  domain = x.domain.domain;
  some = x.domain.some;
  axes = λ k a lt. axis_alike _ (x.domain.each k a lt);
  fields = x.fields.each;
}

are_coverages : (signatures : List Signature) → IsCatalogue signatures → All IsCoverage signatures
are_coverages signatures x = λ k s lt. coverage_alike _ (x.each k s lt)

-- ---- the cells of a query are those of the layers

cell_alike : (store : Store) (o : Option Signature) (field : ℕ) (point : List ℤ)
    → number_in (option_and_then (λ (c : Signature). found c.name store) o) field point ≡ layer_cells (layers_of store) o field point
cell_alike store None field point = refl
cell_alike store (Some c) field point = refl

layers_alike : (store : Store) (coverages : List Signature) → cells_of store coverages ≡ listed_cells (layers_of store) coverages
layers_alike store coverages = fun_ext (λ n. fun_ext (λ field. fun_ext (λ point. cell_alike store (slice_get coverages n) field point)))

told_refused : (refusal : Refusal) (reply : Reply) → Tells (Err refusal) reply → reply ≡ Refused (number_of refusal)
told_refused refusal (Refused code) x = ap Refused x
told_refused refusal (Csv text) x = absurd x
told_refused refusal (Text text) x = absurd x

module _ (store : Store) (o : Operation) (q : IsQueryOf (signatures_of store) o (text_of o)) (integers : AreIntegers (layers_of store)) (reply : Reply) where
  by_types : (r : Result TypedTree TypeRefusal) → typ_query (signatures_of store) q.query ≡ r → Tells (evaluated store (typed_answer r)) reply → RepliesArray store o reply
  by_types (Ok t) e told =
      inl (subst (λ (a : Result (List Item) PointFault). Tells (items_answer a) reply) (ap (λ (cells : ℕ → ℕ → List ℤ → ℤ). answer cells t) (layers_alike store t.coverages) ∙ q.answered t (layers_of store) e integers) told)
  by_types (Err refusal) e told =
      inr (inl (record { query = q.query; refusal = refusal; reads = q.reads; refused = e; is = told_refused _ reply told }))

  by_tree : (t : QueryTree) → t ≡ q.query → Tells (evaluated store (tree_typed store t)) reply → RepliesArray store o reply
  by_tree t is told =
      by_types (typ_query (signatures_of store) q.query) refl
      (subst (λ (a : TypedAnswer). Tells (evaluated store a) reply) (ap (tree_typed store) is ∙ tree_within store q.query q.reads.low) told)

  by_tokens : (ts : List Tok) (r : TypedAnswer) → tokens_of q.reads.pieces ≡ ts → TokensTyped store ts r → Tells (evaluated store r) reply → RepliesArray store o reply
  by_tokens ts r same (too_deep deep) told = absurd (deep (subst IsWithinLimits same q.reads.within))
  by_tokens ts r same (no_query within none) told = absurd (none q.query (subst (λ (l : List Tok). IsSpelled l q.query) same q.reads.spelled))
  by_tokens ts r same (query t within spelled) told =
      by_tree t (one_spelled ts t q.query spelled (subst (λ (l : List Tok). IsSpelled l q.query) same q.reads.spelled)) told

  pub by_text : (text : List ℕ) (r : TypedAnswer) → text_of o ≡ text → TextTyped store text r → Tells (evaluated store r) reply → RepliesArray store o reply
  by_text text r same (too_long long) told = inr (inr (subst (λ (l : List ℕ). 65536 < length l) (sym same) long, told_refused BadValue reply told))
  by_text text r same (no_tokens e short refused) told =
      absurd (not-both 0 text q.reads.pieces e (subst (λ (l : List ℕ). Lexed 0 l q.reads.pieces) same q.reads.lexed) refused)
  by_text text r same (lexed pieces short cut x) told =
      by_tokens (tokens_of pieces) r (ap tokens_of (lexed-once 0 text q.reads.pieces pieces (subst (λ (l : List ℕ). Lexed 0 l q.reads.pieces) same q.reads.lexed) cut)) x told

pub tomlins : TemplatesAreTomlins
tomlins store template o reply new catalogue integers e x =
    let q = asked_query (template_named template.name) (params_of template) (signatures_of store) o (are_coverages (signatures_of store) catalogue) e in
    let answers : Answers (text_of o) store reply new = subst (λ (a : Answer Operation). AnswersText (as_text a) store reply new) e x in
    by_text store o q integers reply (text_of o) answers.1.0 refl answers.1.1 (subst (λ (a : QueryAnswer). Tells a reply) answers.1.2 answers.2)
