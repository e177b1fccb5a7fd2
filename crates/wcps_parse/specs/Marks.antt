-- The tokens that the limits count.
use Rattle.wcps_text.specs.declared.token.Symbol.TheVariants as signs
use Rattle.arr_core.specs.declared.keyword.Keyword.TheVariants as words
use Rattle.wcps_text.specs.declared.token.Kind.{Kind}
use Rattle.wcps_text.specs.declared.token.Kind.TheVariants as kinds

-- an opening bracket of any kind
abbrev pub Opens : Kind → Type 0
Opens (kinds.Symbol signs.LeftParen) = Unit {0}
Opens (kinds.Symbol signs.LeftBracket) = Unit {0}
Opens (kinds.Symbol signs.LeftBrace) = Unit {0}
Opens _ = ⊥

-- a closing bracket of any kind
abbrev pub Closes : Kind → Type 0
Closes (kinds.Symbol signs.RightParen) = Unit {0}
Closes (kinds.Symbol signs.RightBracket) = Unit {0}
Closes (kinds.Symbol signs.RightBrace) = Unit {0}
Closes _ = ⊥

-- the word `condense` or `coverage`
abbrev pub BeginsForm : Kind → Type 0
BeginsForm (kinds.Keyword words.Condense) = Unit {0}
BeginsForm (kinds.Keyword words.Coverage) = Unit {0}
BeginsForm _ = ⊥
