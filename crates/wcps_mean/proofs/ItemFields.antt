-- The fields of an item, one by one.
use Rattle.std.proofs.Common.{◌≡◌, ℕ, zero, suc, ◌+◌, ◌<◌, ◌≤◌, ◌∙◌, Bool, List, [], ◌∷◌, length, map, get_or, refl, ap, arith}
use Rattle.std.specs.Prelude.{slice_get, Some, None, option_map}
use Rattle.wcps_types.specs.declared.typed.Node.{Node}
use Rattle.wcps_types.specs.Typed.{field_tree, FieldTree, fields_view}
use Rattle.wcps_types.specs.Renamed.{renamed, renamed_field}

field_from : (e : Node) (j : ℕ) (bs : List Bool) (k n : ℕ) → k < length bs → n ≡ j + k → option_map (λ (t : FieldTree). t.tree) (slice_get (fields_view e j bs) k) ≡ Some (field_tree e n)
field_from e j [] k n lt is = absurd (omega arith)
field_from e j (b ∷ bs) zero n lt is =
    let here : j ≡ n = omega (arith, is) in
    ap (λ m. Some (field_tree e m)) here
field_from e j (b ∷ bs) (suc k) n lt is = field_from e (suc j) bs k n (omega (arith, lt)) (omega (arith, is))

none_from : (e : Node) (j : ℕ) (bs : List Bool) (k : ℕ) → length bs ≤ k → option_map (λ (t : FieldTree). t.tree) (slice_get (fields_view e j bs) k) ≡ None
none_from e j [] k le = refl
none_from e j (b ∷ bs) zero le = absurd (omega arith)
none_from e j (b ∷ bs) (suc k) le = none_from e (suc j) bs k (omega (arith, le))

-- the tree of a field that is there
pub item_field : (e : Node) (bs : List Bool) (f : ℕ) → f < length bs → option_map (λ (t : FieldTree). t.tree) (slice_get (fields_view e 0 bs) f) ≡ Some (field_tree e f)
item_field e bs f lt = field_from e 0 bs f f lt (omega arith)

-- and of one that is not
pub no_item_field : (e : Node) (bs : List Bool) (f : ℕ) → length bs ≤ f → option_map (λ (t : FieldTree). t.tree) (slice_get (fields_view e 0 bs) f) ≡ None
no_item_field e bs f le = none_from e 0 bs f le

-- the fields over coverages from that of place j on
abbrev fields_from : List ℕ → Node → ℕ → List Bool → List FieldTree
fields_from cs e j bs = map (renamed_field cs) (fields_view e j bs)

cut_from : (cs : List ℕ) (e : Node) (j : ℕ) (bs : List Bool) (k n : ℕ) (b d : Bool) (x : FieldTree) → k < length bs → b ≡ get_or bs k d → n ≡ j + k → record { boolean = b; tree = renamed cs (field_tree e n) } ≡ get_or (fields_from cs e j bs) k x
cut_from cs e j [] k n b d x lt is at = absurd (omega arith)
cut_from cs e j (y ∷ bs) zero n b d x lt is at =
    let here : n ≡ j = omega (arith, at) in
    ap (λ m. record { boolean = b; tree = renamed cs (field_tree e m) }) here ∙ ap (λ z. record { boolean = z; tree = renamed cs (field_tree e j) }) is
cut_from cs e j (y ∷ bs) (suc k) n b d x lt is at = cut_from cs e (suc j) bs k n b d x (omega (arith, lt)) is (omega (arith, at))

-- the field at a place, with whether it is Boolean
pub field_at : (cs : List ℕ) (e : Node) (bs : List Bool) (k : ℕ) (b d : Bool) (x : FieldTree) → k < length bs → b ≡ get_or bs k d → record { boolean = b; tree = renamed cs (field_tree e k) } ≡ get_or (map (renamed_field cs) (fields_view e 0 bs)) k x
field_at cs e bs k b d x lt is = cut_from cs e 0 bs k k b d x lt is (omega arith)
