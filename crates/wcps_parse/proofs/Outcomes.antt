-- What the reading of all tokens says of the query.
use Rattle.std.proofs.Common.{◌≡◌, ℕ, inr, List, Option, sym, subst}
use Rattle.wcps_text.specs.declared.tree.Query.{Query}
use Rattle.wcps_text.specs.Token.{Tok}
use Rattle.wcps_text.specs.Tree.{QueryTree, query_view}
use Rattle.wcps_text.specs.Grammar.{IsSpelled}
use Rattle.wcps_parse.specs.declared.error.ParseError.{ParseError}
use Rattle.wcps_parse.specs.declared.error.ParseError.TheVariants.{BadSyntax, TooDeep, NoMemory}
use Rattle.wcps_parse.specs.declared.grown.Grown.{Grown}
use Rattle.wcps_parse.specs.declared.grown.Grown.TheVariants.{Fits, High}
use Rattle.wcps_parse.specs.Reading.{level, query}
use Rattle.wcps_parse.specs.Fit.{Fails, KeptWhole}
use Rattle.wcps_parse.specs.Kinds.{FitQuery}
use Rattle.wcps_parse.specs.Outcome.{IsTooDeep}
use Rattle.wcps_parse.proofs.Queries.{comes_spelled, none_spelled, one_spelled}

-- what the whole reading of the tokens comes to
abbrev pub all : List Tok → ℕ → ℕ → Option QueryTree
all ts n m = query n m (level n) ts

-- what is kept of the query
abbrev Read : List Tok → Grown Query → Type 0
Read ts g = KeptWhole FitQuery g (all ts)

pub fits_spelled : (ts : List Tok) (g : Grown Query) (q : Query) (h : ℕ) → KeptWhole FitQuery g (all ts) → g ≡ Fits q h → IsSpelled ts (query_view q)
fits_spelled ts g q h r e =
    let k : KeptWhole FitQuery (Fits q h) (all ts) = subst (Read ts) e r in
    subst (λ (p : QueryTree). IsSpelled ts p) (sym k.fit.0) (comes_spelled ts k.whole k.comes)

pub fits_only : (ts : List Tok) (g : Grown Query) (q : Query) (h : ℕ) → KeptWhole FitQuery g (all ts) → g ≡ Fits q h → (p : QueryTree) → IsSpelled ts p → p ≡ query_view q
fits_only ts g q h k e p s = one_spelled ts p (query_view q) s (fits_spelled ts g q h k e)

pub high_deep : (ts : List Tok) (g : Grown Query) → KeptWhole FitQuery g (all ts) → g ≡ High → IsTooDeep ts
high_deep ts g r e =
    let k : KeptWhole FitQuery High (all ts) = subst (Read ts) e r in
    inr (inr (record { tree = k.whole; spelled = comes_spelled ts k.whole k.comes; high = k.fit }))

pub bad_none : (ts : List Tok) (e : ParseError) → Fails e (all ts) → e ≡ BadSyntax → (p : QueryTree) → IsSpelled ts p → ⊥
bad_none ts BadSyntax c same p s = none_spelled ts p c s
bad_none ts TooDeep c same p s = c
bad_none ts NoMemory c same p s = absurd cc
