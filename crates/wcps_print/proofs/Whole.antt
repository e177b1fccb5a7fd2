-- What a printed text is.
use Rattle.std.proofs.Common.{◌≡◌, ◌≤◌, ◌++◌, ℕ, List, [], sym, ◌∙◌, subst, ap, arith}
use Rattle.wcps_text.specs.Token.{Tok}
use Rattle.wcps_text.specs.Tree.{QueryTree}
use Rattle.wcps_text.specs.Limits.{max_depth, max_forms, deepest, forms}
use Rattle.wcps_text.specs.Grammar.{IsSpelled}
use Rattle.wcps_print.specs.Printing.{text_of, query_tokens}
use Rattle.wcps_print.specs.Printed.{IsTextOf, IsTextWithin}
use Rattle.wcps_print.proofs.Proper.{proper_lexed}
use Rattle.wcps_print.proofs.Again.{again_query}
use Rattle.wcps_print.proofs.Cuts.{cut}
use Rattle.wcps_print.proofs.Forms.{same-forms}
use Rattle.wcps_print.proofs.Depths.{query-within}

-- the printed tokens are cut out of their text, and spell the query
tokens_again : (q : QueryTree) (text : List ℕ) → IsTextOf text q → IsTextOf (text_of (query_tokens q)) q
tokens_again q text h =
    let again = again_query h.spelled (proper_lexed h.lexed) in
    let pieces = cut (query_tokens q) 0 again.written in
    record { pieces = pieces.pieces; lexed = pieces.lexed; spelled = subst (λ (ts : List Tok). IsSpelled ts q) (sym pieces.same) again.spelled }

within_again : (q : QueryTree) (text : List ℕ) → IsTextWithin text q → IsTextWithin (text_of (query_tokens q)) q
within_again q text h =
    let again = again_query h.spelled (proper_lexed h.lexed) in
    let pieces = cut (query_tokens q) 0 again.written in
    let few : forms (query_tokens q) ≤ max_forms = omega (arith, same-forms again.spelled h.spelled, h.words) in
    record {
      pieces = pieces.pieces;
      lexed = pieces.lexed;
      spelled = subst (λ (ts : List Tok). IsSpelled ts q) (sym pieces.same) again.spelled;
      brackets = subst (λ (ts : List Tok). deepest 0 ts ≤ max_depth) (sym pieces.same) (query-within max_depth q (omega (arith, h.low)));
      words = subst (λ (ts : List Tok). forms ts ≤ max_forms) (sym pieces.same) few;
      low = h.low;
    }

pub printed : (q : QueryTree) (before after text : List ℕ) → before ≡ [] → after ≡ before ++ text_of (query_tokens q) → IsTextOf text q → IsTextOf after q
printed q before after text none whole h =
    let same : after ≡ text_of (query_tokens q) = whole ∙ ap (λ (bs : List ℕ). bs ++ text_of (query_tokens q)) none in
    subst (λ (bs : List ℕ). IsTextOf bs q) (sym same) (tokens_again q text h)

pub printed_within : (q : QueryTree) (before after text : List ℕ) → before ≡ [] → after ≡ before ++ text_of (query_tokens q) → IsTextWithin text q → IsTextWithin after q
printed_within q before after text none whole h =
    let same : after ≡ text_of (query_tokens q) = whole ∙ ap (λ (bs : List ℕ). bs ++ text_of (query_tokens q)) none in
    subst (λ (bs : List ℕ). IsTextWithin bs q) (sym same) (within_again q text h)
