-- What code keeps of a thing that was read, and what its result says of reading.
use Rattle.std.specs.Prelude.{◌≡◌, ℕ, ◌<◌, ◌≤◌, max, List, [], ◌∷◌, Option, Some, None, Result, Ok, Err}
use Rattle.std.specs.Borrow.{Bor}
use Rattle.wcps_text.specs.declared.token.Token.{Token}
use Rattle.wcps_text.specs.Token.{Tok, toks}
use Rattle.wcps_text.specs.Limits.{max_height}
use Rattle.wcps_parse.specs.declared.error.ParseError.{ParseError}
use Rattle.wcps_parse.specs.declared.error.ParseError.TheVariants.{BadSyntax, TooDeep, NoMemory}
use Rattle.wcps_parse.specs.declared.grown.Grown.{Grown}
use Rattle.wcps_parse.specs.declared.grown.Grown.TheVariants as grown
use Rattle.wcps_parse.specs.Comes.{Comes}
use Rattle.wcps_parse.specs.Front.{Reading}

-- the thing itself and its height, if that is no more than it may be, and else only that it is more
abbrev pub Fit : {T M : Type 0} → (T → M) → (M → ℕ) → Grown T → M → Type 0
Fit view height (grown.Fits x h) m = (view x ≡ m) × (h ≡ height m) × (h ≤ max_height)
Fit view height grown.High m = max_height < height m

-- the height of the highest
abbrev pub highest : {M : Type 0} → (M → ℕ) → List M → ℕ
highest height [] = 0
highest height (x ∷ xs) = max (height x) (highest height xs)

-- memory ran out, or reading comes to nothing
abbrev pub Fails : {Y : Type 0} → ParseError → (ℕ → ℕ → Option Y) → Type 0
Fails BadSyntax f = Comes f None
Fails TooDeep f = ⊥
Fails NoMemory f = Unit {0}

-- what reading comes to is what was returned
abbrev pub Gives : {X Y : Type 0} → (X → Y) → Result X ParseError → (ℕ → ℕ → Option Y) → Type 0
Gives view (Ok x) f = Comes f (Some (view x))
Gives view (Err e) f = Fails e f

-- what reading comes to, of which g is kept: `Fits` says when that is kept of a thing
pub record Kept {T M : Type 0} (Fits : Grown T → M → Type 0) (g : Grown T) (rest : List Tok)
    (f : ℕ → ℕ → Reading M) : Type 0 where
  pub whole : M
  pub fit : Fits g whole
  pub comes : Comes f (Some (whole, rest))

-- the same of a result that has what is kept and the tokens behind it
abbrev pub Reads : {T M : Type 0} → (Grown T → M → Type 0) → Result (Grown T × Bor (List Token)) ParseError
    → (ℕ → ℕ → Reading M) → Type 0
Reads Fits (Ok x) f = Kept Fits x.0 (toks x.1.now) f
Reads Fits (Err e) f = Fails e f

-- the same of what is read from all tokens
pub record KeptWhole {T M : Type 0} (Fits : Grown T → M → Type 0) (g : Grown T) (f : ℕ → ℕ → Option M) : Type 0 where
  pub whole : M
  pub fit : Fits g whole
  pub comes : Comes f (Some whole)

abbrev pub ReadsAll : {T M : Type 0} → (Grown T → M → Type 0) → Result (Grown T) ParseError → (ℕ → ℕ → Option M)
    → Type 0
ReadsAll Fits (Ok g) f = KeptWhole Fits g f
ReadsAll Fits (Err e) f = Fails e f
