-- What is known of the bytes of a name.
use Rattle.std.proofs.Common.{◌≡◌, ℕ, zero, suc, ◌<◌, ◌≤◌, List, [], ◌∷◌, length, slice_index, arith, true}
use Rattle.std.specs.List.{list_all}
use Rattle.std.specs.Str.{IsUtf8}
use Rattle.std.proofs.lemmas.Str.{IsUtf8-from_ascii}
use Rattle.std.proofs.lemmas.Bool.Decides.{nat_tests}
use Rattle.arr_core.specs.Names.{IsName, is_name, goes_on_name}

-- a name has at most 64 bytes
pub name_short : (text : List ℕ) → IsName text → length text ≤ 64
unfolding is_name
name_short text h = grind (arith, nat_tests)

ascii_bytes : (text : List ℕ) → list_all goes_on_name text ≡ true → (i : ℕ) → slice_index text i < 128
ascii_bytes [] h i = omega arith
ascii_bytes (b ∷ rest) h zero = grind (arith, nat_tests)
ascii_bytes (b ∷ rest) h (suc i) = ascii_bytes rest (grind arith) i

name_ascii : (text : List ℕ) → IsName text → (i : ℕ) → slice_index text i < 128
unfolding is_name
name_ascii [] h i = omega arith
name_ascii (b ∷ rest) h i = ascii_bytes (b ∷ rest) (grind arith) i

-- the bytes of a name are ASCII, and so a text
pub name_utf8 : (text : List ℕ) → IsName text → IsUtf8 text
name_utf8 text h = IsUtf8-from_ascii text (name_ascii text h)
