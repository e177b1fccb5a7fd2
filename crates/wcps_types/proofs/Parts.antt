-- Tests that fail, tests of some element of a list that is mapped, names of parts, and the rest of a list.
use Rattle.std.proofs.Common.{◌≡◌, ℕ, ◌+◌, ◌<◌, suc, Bool, true, false, not, ◌||◌, List, [], ◌∷◌, length, get_or, drop, map, refl, ap, sym, ◌∙◌, add-one}
use Rattle.std.proofs.Math.Seq.{drop-cons}
use Rattle.std.specs.List.{list_any}
use Rattle.std.specs.Str.{bytes_eq}
use Rattle.std.specs.BTreeSet.{contains_text}
use Rattle.wcps_types.specs.declared.pieces.Pieces.{Pieces}
use Rattle.wcps_types.specs.Records.{PieceTree, piece_view, is_part}

-- a test that is not true is false
pub no_test : (b : Bool) → (b ≡ true → ⊥) → b ≡ false
no_test true h = absurd (h refl)
no_test false h = refl

pub list_any_map : {A B : Type 0} (p : B → Bool) (f : A → B) (xs : List A) → list_any p (map f xs) ≡ list_any (λ x. p (f x)) xs
list_any_map p f [] = refl
list_any_map p f (x ∷ xs) = ap (λ b. p (f x) || b) (list_any_map p f xs)

-- the names of the parts are in their set, and no others
pub has_name : (pieces : Pieces) (name : List ℕ) → contains_text pieces.names name ≡ is_part name (map piece_view pieces.list.items)
has_name pieces name = pieces.named name ∙ sym (list_any_map (λ (p : PieceTree). bytes_eq p.name name) piece_view pieces.list.items)

-- the rest of a list from one item on
pub drop_here : {A : Type 0} (xs : List A) (i : ℕ) (x : A) → i < length xs → x ≡ get_or xs i x → drop i xs ≡ x ∷ drop (i + 1) xs
drop_here xs i x lt is =
    let f : drop (i + 1) xs ≡ drop (suc i) xs = rw add-one refl in
    drop-cons xs i x lt ∙ ap (λ b. get_or xs i x ∷ b) (sym f) ∙ ap (λ y. y ∷ drop (i + 1) xs) (sym is)

-- a test whose contrary is true is false
pub not_taken : (b : Bool) → true ≡ not b → b ≡ false
not_taken false h = refl
not_taken true h = h
