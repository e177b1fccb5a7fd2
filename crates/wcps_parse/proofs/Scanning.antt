-- What the scan for the limits rests on.
use Rattle.std.proofs.Common.{◌≡◌, ℕ, suc, ◌+◌, ◌<◌, ◌≤◌, List, [], ◌∷◌, refl, arith, drop, get_or, length, drop-cons}
use Rattle.wcps_text.specs.declared.token.Kind.{Kind}
use Rattle.wcps_text.specs.declared.token.Kind.TheVariants as kinds
use Rattle.wcps_text.specs.declared.token.Symbol.TheVariants as signs
use Rattle.wcps_text.specs.declared.token.Token.{Token}
use Rattle.wcps_text.specs.Token.{Tok, tok, tok_at, toks}
use Rattle.wcps_text.specs.Limits.{max_depth, deepest, depth_behind}
use Rattle.wcps_parse.specs.Marks.{Opens}

pub deepest_least : (ts : List Tok) (d : ℕ) → d ≤ deepest d ts
deepest_least [] d = omega arith
deepest_least (t ∷ ts) d = omega arith

opened : (k : Kind) (text : List ℕ) (d : ℕ) → Opens k → depth_behind d (tok_at k text) ≡ d + 1
opened (kinds.Symbol signs.LeftParen) text d o = refl
opened (kinds.Symbol signs.LeftBracket) text d o = refl
opened (kinds.Symbol signs.LeftBrace) text d o = refl
opened _ text d o = absurd o

pub overflows : (ts : List Token) (i : ℕ) (t : Token) → t ≡ get_or ts i t → i < length ts → Opens t.kind → max_depth < deepest max_depth (toks (drop i ts))
overflows ts i t e lt o =
    let least = deepest_least (toks (drop (suc i) ts)) (depth_behind max_depth (tok t)) in
    rw (drop-cons ts i t lt, ← e) (omega (arith, least, opened t.kind t.text.now max_depth o))
