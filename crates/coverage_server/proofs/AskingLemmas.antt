-- The answer of a query, from what the steps give.
use Rattle.std.proofs.Common.{◌≡◌, ◌≢◌, ℕ, ◌<◌, ◌≤◌, Bool, true, false, List, [], ◌∷◌, length, map, Result, Ok, Err, refl, sym, ap, ◌∙◌, subst, arith, inl, inr, nat_lt}
use Rattle.std.specs.Prelude.{IsTrue, ◌⊎◌, String, string_bytes, nat_le}
use Rattle.std.specs.declared.alloc.Global.{Global}
use borrow.Author.Tests.{ltb-true, ltb-false, le-leb, lt-leb}
use Rattle.arr_core.specs.declared.refusal.Refusal.{Refusal}
use Rattle.arr_core.specs.declared.refusal.Refusal.TheVariants.{TooDeep}
use Rattle.arr_core.specs.Stores.{Store}
use Rattle.wcps_text.specs.declared.token.Token.{Token}
use Rattle.wcps_text.specs.declared.tree.Query.{Query}
use Rattle.wcps_text.specs.Token.{Tok, tok}
use Rattle.wcps_text.specs.Lexing.{Lexed, piece, tokens_of}
use Rattle.wcps_text.specs.Limits.{deepest, forms, query_height}
use Rattle.wcps_text.specs.Grammar.{IsSpelled}
use Rattle.wcps_text.specs.Tree.{QueryTree, query_view}
use Rattle.wcps_parse.specs.Outcome.{IsWithinLimits, IsTooDeep}
use Rattle.wcps_parse.specs.Refusals.{refusal_of as syntax_refusal}
use Rattle.wcps_parse.specs.declared.error.ParseError.{ParseError}
use Rattle.wcps_parse.specs.declared.error.ParseError.TheVariants as parsing
use Rattle.wcps_types.specs.Queries.{typ_query}
use Rattle.wcps_types.specs.declared.typed_query.TypedQuery.{TypedQuery}
use Rattle.wcps_types.specs.TypedQueries.{query_view as typed_view}
use Rattle.raster_store.specs.Calls.{signature_of}
use Rattle.coverage_server.specs.Damage.{SpoilsText}
use Rattle.coverage_server.specs.Views.{ServerView}
use Rattle.coverage_server.proofs.TypedLemmas.{typed-held, typed-some}
use Rattle.coverage_server.specs.Asking.{TypedAnswer, typed_answer, tree_typed, TokensTyped, too_deep, no_query, query, TextTyped, no_tokens, lexed, evaluated, TextAnswer}
use Rattle.coverage_server.specs.Stages.{GivesTokens, GivesQuery, GivesTyped, GivesText, GivesValues, FailsReading}
use Rattle.coverage_server.specs.Answered.{Answered}
use Rattle.coverage_server.specs.Machine.{Answers}
use Rattle.coverage_server.specs.declared.error.AnswerError.{AnswerError}
use Rattle.coverage_server.specs.declared.error.AnswerError.TheVariants.{Named, NoMemory, DiskFault, NoRoom, Damaged}
use Rattle.http_front.specs.declared.reply.Reply.TheVariants.{Csv}

-- tokens are taken out of their pieces
tokens_shown : (ts : List Token) → tokens_of (map piece ts) ≡ map tok ts
tokens_shown [] = refl
tokens_shown (t ∷ ts) = ap (λ (l : List Tok). tok t ∷ l) (tokens_shown ts)

-- a query that is not too high
pub tree_within : (store : Store) (q : QueryTree) → query_height q ≤ 64 → tree_typed store q ≡ typed_answer (typ_query (map signature_of store) q)
tree_within store q low = let t : nat_le (query_height q) 64 ≡ true = le-leb (query_height q) 64 low in rw t refl

tree_too_high : (store : Store) (q : QueryTree) → 64 < query_height q → tree_typed store q ≡ Err TooDeep
tree_too_high store q high = let t : nat_le (query_height q) 64 ≡ false = lt-leb (query_height q) 64 high in rw t refl

-- ---- typed texts

pub text_tokens : (store : Store) (text : List ℕ) (e : AnswerError) → length text ≤ 65536 → GivesTokens text (Err e) → GivesText store text (Err e)
text_tokens store text (Named refusal) short x = subst (λ (r : Refusal). TextTyped store text (Err r)) (sym x.2) (no_tokens x.0 short x.1)
text_tokens store text NoMemory short x = tt
text_tokens store text DiskFault short x = absurd x
text_tokens store text NoRoom short x = absurd x
text_tokens store text Damaged short x = absurd x

-- the tokens of a text, and what they are typed as
by_tokens : (store : Store) (text : List ℕ) (ts : List Token) (r : TypedAnswer) → length text ≤ 65536 → Lexed 0 text (map piece ts)
    → TokensTyped store (map tok ts) r → TextTyped store text r
by_tokens store text ts r short cut x = lexed (map piece ts) short cut (subst (λ (l : List Tok). TokensTyped store l r) (sym (tokens_shown ts)) x)

pub text_query : (store : Store) (text : List ℕ) (ts : List Token) (e : AnswerError) → length text ≤ 65536 → Lexed 0 text (map piece ts)
    → GivesQuery (map tok ts) (Err e) → GivesText store text (Err e)
text_query store text ts (Named refusal) short cut x = by_tokens store text ts (Err refusal) short cut (x store)
text_query store text ts NoMemory short cut x = tt
text_query store text ts DiskFault short cut x = absurd x
text_query store text ts NoRoom short cut x = absurd x
text_query store text ts Damaged short cut x = absurd x

-- the query that the tokens spell
by_query : (store : Store) (text : List ℕ) (ts : List Token) (q : Query) (r : TypedAnswer) → length text ≤ 65536 → Lexed 0 text (map piece ts)
    → GivesQuery (map tok ts) (Ok q) → typed_answer (typ_query (map signature_of store) (query_view q)) ≡ r → TextTyped store text r
by_query store text ts q r short cut x is =
    by_tokens store text ts r short cut
    (subst (λ (b : TypedAnswer). TokensTyped store (map tok ts) b) (tree_within store (query_view q) x.2 ∙ is) (query (query_view q) x.0 x.1))

pub text_types : (store : Store) (text : List ℕ) (ts : List Token) (q : Query) (r : Result TypedQuery AnswerError) → length text ≤ 65536 → Lexed 0 text (map piece ts)
    → GivesQuery (map tok ts) (Ok q) → GivesTyped (typ_query (map signature_of store) (query_view q)) r → GivesText store text r
text_types store text ts q (Ok typed) short cut x g = record {
  typed = by_query store text ts q (Ok (typed_view typed)) short cut x (ap typed_answer g);
  held = typed-held store (query_view q) (typed_view typed) g;
  some = typed-some store (query_view q) (typed_view typed) g;
}
text_types store text ts q (Err (Named refusal)) short cut x g = by_query store text ts q (Err refusal) short cut x (ap typed_answer g.1 ∙ ap Err (sym g.2))
text_types store text ts q (Err NoMemory) short cut x g = tt
text_types store text ts q (Err DiskFault) short cut x g = absurd g
text_types store text ts q (Err NoRoom) short cut x g = absurd g
text_types store text ts q (Err Damaged) short cut x g = absurd g

-- ---- answers

-- a refusal of a whole text
refused : (v w : ServerView) (text : List ℕ) (refusal : Refusal) → w.store ≡ v.store → (IsTrue v.honest → TextAnswer v.store text (Err refusal))
    → Answered (Answers text) ⊥ (SpoilsText text v) v w (Err (Named refusal))
refused v w text refusal still x = λ sound. (Err refusal, x sound, refl, still)

pub refused_text : (v : ServerView) (text : List ℕ) (e : AnswerError) → GivesText v.store text (Err e) → Answered (Answers text) ⊥ (SpoilsText text v) v v (Err e)
refused_text v text (Named refusal) x = refused v v text refusal refl (λ sound. (Err refusal, x, refl))
refused_text v text NoMemory x = tt
refused_text v text DiskFault x = absurd x
refused_text v text NoRoom x = absurd x
refused_text v text Damaged x = absurd x

module _ (v w : ServerView) (still : w.store ≡ v.store) (text : List ℕ) (q : TypedQuery) (typed : TextTyped v.store text (Ok (typed_view q))) where
  pub refused_values : (e : AnswerError) → (IsTrue v.honest → GivesValues (evaluated v.store (Ok (typed_view q))) (Err e)) → FailsReading q.coverages.items v w e → Answered (Answers text) ⊥ (SpoilsText text v) v w (Err e)
  refused_values (Named refusal) is fails = refused v w text refusal still (λ sound. (Ok (typed_view q), typed, sym (is sound)))
  refused_values NoMemory is fails = tt
  refused_values DiskFault is fails = fails
  refused_values NoRoom is fails = absurd fails
  refused_values Damaged is fails = λ sure. (typed_view q, typed, fails sure)

  pub answered_values : (values : String Global) → (IsTrue v.honest → evaluated v.store (Ok (typed_view q)) ≡ Ok (string_bytes values)) → Answered (Answers text) ⊥ (SpoilsText text v) v w (Ok (Csv values))
  answered_values values is = λ sound. (Ok (string_bytes values), (Ok (typed_view q), typed, sym (is sound)), refl, still)

-- a query that is too high is refused
too_high : (store : Store) (ts : List Tok) (q : QueryTree) → IsSpelled ts q → 64 < query_height q → TokensTyped store ts (Err TooDeep)
too_high store ts q spelled high = by_depth (nat_lt 512 (deepest 0 ts)) (nat_lt 256 (forms ts)) refl refl
  where
    within : nat_lt 512 (deepest 0 ts) ≡ false → nat_lt 256 (forms ts) ≡ false → IsWithinLimits ts
    within a b = record { brackets = ltb-false 512 (deepest 0 ts) a; words = ltb-false 256 (forms ts) b }

    deep : (512 < deepest 0 ts) ⊎ (256 < forms ts) → ¬ (IsWithinLimits ts)
    deep (inl x) w = absurd (omega (arith, x, w.brackets))
    deep (inr x) w = absurd (omega (arith, x, w.words))

    by_depth : (a b : Bool) → nat_lt 512 (deepest 0 ts) ≡ a → nat_lt 256 (forms ts) ≡ b → TokensTyped store ts (Err TooDeep)
    by_depth true b x y = too_deep (deep (inl (ltb-true 512 (deepest 0 ts) x)))
    by_depth false true x y = too_deep (deep (inr (ltb-true 256 (forms ts) y)))
    by_depth false false x y = subst (TokensTyped store ts) (tree_too_high store q high) (query q (within x y) spelled)

-- tokens that are too deep, or whose query is too high
pub refused_depth : (store : Store) (ts : List Tok) → IsTooDeep ts → TokensTyped store ts (Err TooDeep)
refused_depth store ts (inl x) = too_deep (λ within. absurd (omega (arith, x, within.brackets)))
refused_depth store ts (inr (inl x)) = too_deep (λ within. absurd (omega (arith, x, within.words)))
refused_depth store ts (inr (inr x)) = too_high store ts x.tree x.spelled x.high

-- tokens that the parser refuses, but for want of memory
pub refused_tokens : (store : Store) (ts : List Tok) (e : ParseError) → e ≢ parsing.NoMemory
    → (e ≡ parsing.BadSyntax → IsWithinLimits ts) → (e ≡ parsing.BadSyntax → (q : QueryTree) → IsSpelled ts q → ⊥)
    → (e ≡ parsing.TooDeep → IsTooDeep ts) → TokensTyped store ts (Err (syntax_refusal e))
refused_tokens store ts parsing.BadSyntax other within none deep = no_query (within refl) (none refl)
refused_tokens store ts parsing.TooDeep other within none deep = refused_depth store ts (deep refl)
refused_tokens store ts parsing.NoMemory other within none deep = absurd (other refl)
