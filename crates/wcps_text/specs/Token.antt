-- A token without where it stands: a number, a name, a name with `$`, a string, a word of the language, or a symbol.
use Rattle.std.specs.Prelude.{ℕ, List, map}
use Rattle.wcps_text.specs.declared.token.Symbol.{Symbol}
use Rattle.arr_core.specs.declared.keyword.Keyword.{Keyword}
use Rattle.wcps_text.specs.declared.token.Kind.{Kind}
use Rattle.wcps_text.specs.declared.token.Kind.TheVariants as kinds
use Rattle.wcps_text.specs.declared.token.Token.{Token}

pub data Tok : Type 0 where
  number : ℕ → Tok
  name : List ℕ → Tok
  dollar : List ℕ → Tok
  quoted : List ℕ → Tok
  word : Keyword → Tok
  sign : Symbol → Tok

abbrev pub tok_at : Kind → List ℕ → Tok
tok_at (kinds.Number n) text = number n.value
tok_at kinds.Name text = name text
tok_at kinds.Variable text = dollar text
tok_at kinds.Text text = quoted text
tok_at (kinds.Keyword w) text = word w
tok_at (kinds.Symbol s) text = sign s

abbrev pub tok : Token → Tok
tok t = tok_at t.kind t.text.now

abbrev pub toks : List Token → List Tok
toks = map tok
