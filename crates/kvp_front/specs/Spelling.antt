-- How names, numbers, intervals, fields and cells are spelled in the values of a request.
use Rattle.std.specs.Prelude.{◌≡◌, ℕ, ◌+◌, ◌^◌, ◌==◌, ◌&&◌, Bool, true, false, nat_lt, nat_le, ℤ, pos, neg_ℤ, List, [], ◌∷◌, length, Result, Ok, Err, ok_or, Vec, if◌then◌else◌, bytes_eq, codes}
use Rattle.std.specs.declared.alloc.Global.{Global}
use Rattle.std.specs.Borrow.{Bor}
use Rattle.std.specs.List.{position_or_len, before_first, after_first, slice_split}
use Rattle.std.specs.Str.{all_ascii_digits}
use Rattle.std.specs.Str.Parse.{digits_value}
use Rattle.arr_core.specs.Cells.{type_named}
use Rattle.arr_core.specs.Names.{is_name}
use Rattle.arr_core.specs.declared.cell.Cell.{Cell}
use Rattle.arr_core.specs.declared.cell.Cell.TheVariants.{Int, Bool as Truth}
use Rattle.arr_core.specs.declared.cell.FieldType.{FieldType}
use Rattle.arr_core.specs.declared.field.Field.{Field}
use Rattle.kvp_front.specs.Values.{and_then}
use Rattle.kvp_front.specs.declared.request.Interval.{Interval}
use Rattle.kvp_front.specs.declared.request.RequestError.{RequestError}
use Rattle.kvp_front.specs.declared.request.RequestError.TheVariants.{BadValue}

-- a value as itself
abbrev pub same : {X : Type 0} → X → X
same x = x

-- a vector as the list of its items
abbrev pub items_of : {X : Type 0} → Vec X Global → List X
items_of v = v.items

-- the number that digits write, where they are digits alone and it is below the limit
abbrev pub digits_in : ℕ → List ℕ → Result ℕ RequestError
digits_in limit ds =
    if nat_lt 0 (length ds) && all_ascii_digits ds && nat_lt (digits_value 10 ds) limit then Ok (digits_value 10 ds)
    else Err BadValue

-- a signed number: an optional `+` or `-` and digits, within 64 bits
abbrev pub signed_in : List ℕ → Result ℤ RequestError
signed_in [] = Err BadValue
signed_in (c ∷ cs) =
    if c == 45 then and_then (λ n. Ok (neg_ℤ (pos n))) (digits_in (2 ^ 63 + 1) cs)
    else (if c == 43 then and_then (λ n. Ok (pos n)) (digits_in (2 ^ 63) cs) else and_then (λ n. Ok (pos n))
    (digits_in (2 ^ 63) (c ∷ cs)))

-- a name of a coverage, a field or an axis
abbrev pub name_in : List ℕ → Result (List ℕ) RequestError
name_in text = if is_name text then Ok text else Err BadValue

-- a cell: `true`, `false` or a signed number
abbrev pub cell_in : List ℕ → Result Cell RequestError
cell_in text =
    if bytes_eq text (codes "true") then Ok (Truth true)
    else (if bytes_eq text (codes "false") then Ok (Truth false) else and_then (λ n. Ok (Int n)) (signed_in text))

-- the type of a field
abbrev pub kind_in : List ℕ → Result FieldType RequestError
kind_in text = ok_or (type_named text) BadValue

-- the byte is this one
abbrev pub is_byte : ℕ → ℕ → Bool
is_byte mark b = b == mark

-- the two parts of a text round the first place of a byte
abbrev pub cut_at : ℕ → List ℕ → Result (List ℕ × List ℕ) RequestError
cut_at mark text =
    if nat_lt (position_or_len (is_byte mark) text) (length text)
    then Ok (before_first (is_byte mark) text, after_first (is_byte mark) text) else Err BadValue

-- the parts that were given are these
abbrev pub CutsAt : ℕ → List ℕ → Result (Bor (List ℕ) × Bor (List ℕ)) RequestError → Type 0
CutsAt mark text (Ok (front, back)) = cut_at mark text ≡ Ok (front.now, back.now)
CutsAt mark text (Err e) = (cut_at mark text ≡ Err e) × (e ≡ BadValue)

-- nothing is left over
abbrev pub at_end : {X : Type 0} → X → List ℕ → Result X RequestError
at_end x [] = Ok x
at_end x (c ∷ cs) = Err BadValue

-- the name of an axis and the texts of its bounds, of `x(lo:hi)`
abbrev pub interval_parts : List ℕ → Result (List ℕ × List ℕ × List ℕ) RequestError
interval_parts text =
    and_then (λ (axis, bounds). and_then
    (λ (lo, rest). and_then (λ (hi, over). at_end (axis, lo, hi) over) (cut_at 41 rest)) (cut_at 58 bounds))
    (cut_at 40 text)

-- an axis and its bounds
abbrev pub interval_in : List ℕ → Result Interval RequestError
interval_in text =
    and_then (λ (axis, lo, hi). and_then
    (λ name. and_then (λ low. and_then (λ high. Ok (record { axis = name; lo = low; hi = high })) (signed_in hi))
    (signed_in lo)) (name_in axis))
    (interval_parts text)

-- a field and its type, of `v:i16`
abbrev pub field_in : List ℕ → Result Field RequestError
field_in text =
    and_then (λ (name, kind). and_then (λ n. and_then (λ k. Ok (record { name = n; kind = k })) (kind_in kind))
    (name_in name)) (cut_at 58 text)

-- the pieces between the commas
abbrev pub pieces_of : List ℕ → List (List ℕ)
pieces_of text = slice_split (is_byte 44) text

-- each of the pieces, read
abbrev pub each_in : {X : Type 0} → (List ℕ → Result X RequestError) → List (List ℕ) → Result (List X) RequestError
each_in read [] = Ok []
each_in read (piece ∷ pieces) = and_then (λ x. and_then (λ xs. Ok (x ∷ xs)) (each_in read pieces)) (read piece)

-- what is spelled between the commas of a list
abbrev pub list_in : {X : Type 0} → (List ℕ → Result X RequestError) → List ℕ → Result (List X) RequestError
list_in read text = each_in read (pieces_of text)

-- the most bytes of the text of a query
abbrev pub max_query : ℕ
max_query = 65536

-- the text of a query
abbrev pub query_in : List ℕ → Result (List ℕ) RequestError
query_in text = if nat_le (length text) max_query then Ok text else Err BadValue
