-- The answer to a text is one.
use Rattle.std.proofs.Common.{◌≡◌, ℕ, List, Err, refl, sym, ap, ◌∙◌, arith}
use Rattle.arr_core.specs.Stores.{Store}
use Rattle.wcps_text.specs.declared.error.LexError.{LexError}
use Rattle.wcps_text.specs.Refusals.{refusal_of as token_refusal}
use Rattle.wcps_text.specs.Token.{Tok}
use Rattle.wcps_text.specs.Lexing.{tokens_of}
use Rattle.wcps_parse.proofs.Queries.{one_spelled}
use Rattle.wcps_parse.proofs.Texts.{lexed-once, refused-once, not-both}
use Rattle.coverage_server.specs.Asking.{QueryAnswer, TypedAnswer, tree_typed, TokensTyped, too_deep, no_query, query, TextTyped, too_long, no_tokens, lexed, evaluated, TextAnswer}

tokens_once : (store : Store) (ts us : List Tok) (r s : TypedAnswer) → ts ≡ us → TokensTyped store ts r → TokensTyped store us s → r ≡ s
tokens_once store ts us r s same (too_deep deep) (too_deep more) = refl
tokens_once store ts us r s same (too_deep deep) (no_query within none) = absurd (deep (rw same within))
tokens_once store ts us r s same (too_deep deep) (query q within spelled) = absurd (deep (rw same within))
tokens_once store ts us r s same (no_query within none) (too_deep deep) = absurd (deep (rw (sym same) within))
tokens_once store ts us r s same (no_query within none) (no_query also nothing) = refl
tokens_once store ts us r s same (no_query within none) (query q also spelled) = absurd (none q (rw same spelled))
tokens_once store ts us r s same (query q within spelled) (too_deep deep) = absurd (deep (rw (sym same) within))
tokens_once store ts us r s same (query q within spelled) (no_query also none) = absurd (none q (rw (sym same) spelled))
tokens_once store ts us r s same (query q within spelled) (query p also said) = ap (tree_typed store) (one_spelled ts q p spelled (rw same said))

typed_once : (store : Store) (text : List ℕ) (r s : TypedAnswer) → TextTyped store text r → TextTyped store text s → r ≡ s
typed_once store text r s (too_long long) (too_long more) = refl
typed_once store text r s (too_long long) (no_tokens e short refused) = absurd (omega arith)
typed_once store text r s (too_long long) (lexed pieces short split typed) = absurd (omega arith)
typed_once store text r s (no_tokens e short refused) (too_long long) = absurd (omega arith)
typed_once store text r s (no_tokens e short refused) (no_tokens f also told) = ap (λ (x : LexError). Err (token_refusal x)) (refused-once text e f refused told)
typed_once store text r s (no_tokens e short refused) (lexed pieces also split typed) = absurd (not-both 0 text pieces e split refused)
typed_once store text r s (lexed pieces short split typed) (too_long long) = absurd (omega arith)
typed_once store text r s (lexed pieces short split typed) (no_tokens e also refused) = absurd (not-both 0 text pieces e split refused)
typed_once store text r s (lexed pieces short split typed) (lexed others also cut told) =
    tokens_once store (tokens_of pieces) (tokens_of others) r s (ap tokens_of (lexed-once 0 text pieces others split cut)) typed told

pub one_answer : (store : Store) (text : List ℕ) (a b : QueryAnswer) → TextAnswer store text a → TextAnswer store text b → a ≡ b
one_answer store text a b x y = x.2 ∙ ap (evaluated store) (typed_once store text x.0 y.0 x.1 y.1) ∙ sym y.2
