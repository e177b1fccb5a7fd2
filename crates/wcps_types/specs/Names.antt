-- Looking names up in lists: the place of the first one of that name.
use Rattle.std.specs.Prelude.{◌≡◌, ℕ, List, Option, Some, None, Bool, false, cond, position}
use Rattle.std.specs.Str.{bytes_eq}
use Rattle.arr_core.specs.declared.signature.Signature.{Signature}
use Rattle.wcps_types.specs.declared.bound.Bound.{Bound}

-- the place of the coverage of that name
abbrev pub coverage_place : List ℕ → List Signature → Option ℕ
coverage_place name coverages = position (λ (s : Signature). bytes_eq s.name name) coverages

-- the place of the variable of that name
abbrev pub bound_place : List ℕ → List Bound → Option ℕ
bound_place name bound = position (λ (b : Bound). bytes_eq b.variable name) bound

-- the place of a name among others and one more behind them, at place n, which has it or has not
abbrev pub placed_behind : Option ℕ → Bool → ℕ → Option ℕ
placed_behind (Some k) is_last n = Some k
placed_behind None is_last n = cond is_last (Some n) None

-- places by names, and those with one name more, at place n, where it had none
abbrev pub AddsPlace : (List ℕ → Option ℕ) → (List ℕ → Option ℕ) → List ℕ → ℕ → Type 0
AddsPlace old new name n = (x : List ℕ) → new x ≡ placed_behind (old x) (bytes_eq name x) n

-- the place of a name among others
abbrev pub name_place : List ℕ → List (List ℕ) → Option ℕ
name_place name names = position (λ (n : List ℕ). bytes_eq n name) names

-- an optional name is that one
abbrev pub is_name_of : List ℕ → Option (List ℕ) → Bool
is_name_of name None = false
is_name_of name (Some own) = bytes_eq own name
