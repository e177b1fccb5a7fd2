-- Whether tokens are left.
use Rattle.std.proofs.Common.{◌≡◌, ◌<◌, List, [], ◌∷◌, length, Some, None, refl, arith}
use Rattle.wcps_text.specs.declared.token.Token.{Token}
use Rattle.wcps_text.specs.Token.{toks}
use Rattle.wcps_parse.specs.Reading.{at_end}

pub no_end : {A : Type 0} (a : A) (rest : List Token) → 0 < length rest → at_end a (toks rest) ≡ None
no_end a [] lt = absurd (omega arith)
no_end a (t ∷ ts) lt = refl

pub has_end : {A : Type 0} (a : A) (rest : List Token) → length rest ≡ 0 → at_end a (toks rest) ≡ Some a
has_end a [] e = refl
has_end a (t ∷ ts) e = absurd (omega arith)
