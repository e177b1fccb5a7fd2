-- What stands at the front of a value's bytes.
use Rattle.std.specs.Prelude.{◌≡◌, ◌≢◌, ℕ, ◌<◌, ◌≤◌, List, ◌++◌, length, take, All, Ok}
use Rattle.std.specs.Str.Parse.{AllDigits, digits_value}
use Rattle.arr_core.specs.declared.cell.Cell.{Cell}
use Rattle.form_urlencoded.specs.Form.{IsPlain}
use Rattle.kvp_front.specs.Spelling.{cell_in}

-- so many bytes at the front are digits, and this is the number that they write
abbrev pub WritesNumber : List ℕ → ℕ → ℕ → Type 0
WritesNumber bytes number count =
    (count ≤ length bytes) × AllDigits 10 (take count bytes) × (digits_value 10 (take count bytes) ≡ number)

-- a byte that is itself in an encoded value, and that may stand in an item of a list: ASCII, and none of `+`, `%` and
-- `,`
abbrev pub IsItemByte : ℕ → Type 0
IsItemByte b = IsPlain b × (b < 128) × (b ≢ 44)

-- the bytes begin with the text of a cell, as it is, and go on with others
abbrev pub BeginsWith : List ℕ → Cell → List ℕ → Type 0
BeginsWith bytes cell after = (text : List ℕ) × (bytes ≡ text ++ after) × (cell_in text ≡ Ok cell) × All IsItemByte text
