-- Codes: each value is written as a list of bytes, and values stand one after another with nothing between them.
use Rattle.std.specs.Prelude.{◌≡◌, ℕ, ℤ, List, ◌++◌, length, FitsSigned}
use Rattle.std.specs.Int.{w32, cast_unsigned}
use Rattle.byteorder.specs.Endian.{little_bytes}

-- a signed number of 32 bits in two's complement, the lowest byte first
abbrev pub signed_bytes : ℤ → List ℕ
signed_bytes z = little_bytes 4 (cast_unsigned w32 z)

-- the first `count` of some bytes, and those that are left
abbrev pub Splits : ℕ → List ℕ → List ℕ → List ℕ → Type 0
Splits count bytes front left = (length front ≡ count) × (bytes ≡ front ++ left)

-- where the values that may be written have codes that can be told apart with whatever follows them
abbrev pub IsPrefixCode : {X : Type 0} → (X → Type 0) → (X → List ℕ) → Type 0
IsPrefixCode {X = X} is_value code =
    (x y : X) (a b : List ℕ) → is_value x → is_value y → code x ++ a ≡ code y ++ b → (x ≡ y) × (a ≡ b)

-- A value was read from the front of some bytes: they begin with its code, the others are left, and
-- they begin with the code of no other value.
pub record IsRead {X : Type 0} (is_value : X → Type 0) (code : X → List ℕ)
    (bytes : List ℕ) (x : X) (left : List ℕ) : Type 0 where
  pub value : is_value x
  pub front : bytes ≡ code x ++ left
  pub only : (y : X) (rest : List ℕ) → is_value y → bytes ≡ code y ++ rest → (y ≡ x) × (rest ≡ left)

-- a signed number of 32 bits was read from the front of some bytes
abbrev pub ReadsSigned : List ℕ → ℤ → List ℕ → Type 0
ReadsSigned bytes number left = IsRead (FitsSigned w32) signed_bytes bytes number left

-- the bytes begin with the code of no value
abbrev pub NoneIsRead : {X : Type 0} → (X → Type 0) → (X → List ℕ) → List ℕ → Type 0
NoneIsRead {X = X} is_value code bytes =
    (y : X) (rest : List ℕ) → is_value y → bytes ≡ code y ++ rest → ⊥
