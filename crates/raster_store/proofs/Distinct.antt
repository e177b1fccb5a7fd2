-- Names of which each stands at its first place alone, where one more comes.
use Rattle.std.proofs.Common.{◌≡◌, ℕ, Bool, true, false, cond, not, List, [], ◌∷◌, ◌++◌, refl, sym, ap, ◌∙◌, inl, inr}
use Rattle.std.specs.List.{filter, list_any}
use Rattle.std.specs.Str.{bytes_eq}
use Rattle.std.proofs.lemmas.Bool.{cases_Bool, false_from_ne_true}
use Rattle.std.proofs.lemmas.List.{append-nil}
use Rattle.std.proofs.lemmas.List.Elements.{filter-append}
use Rattle.std.proofs.lemmas.Map.Views.{any-filter_same}
use Rattle.std.proofs.lemmas.Slice.Eq.{bytes_eq-Decides}
use Rattle.raster_store.specs.Snapshots.{distinct}

-- whether a text is a name, and whether it is another
abbrev pub is_text : List ℕ → List ℕ → Bool
is_text n m = bytes_eq m n

abbrev other : List ℕ → List ℕ → Bool
other n m = not (bytes_eq m n)

abbrev added : Bool → List (List ℕ) → List ℕ → List (List ℕ)
added there names n = cond there names (names ++ n ∷ [])

pub distinct-nil : distinct [] ≡ []
unfolding distinct
distinct-nil = refl

-- a name that is left out again
left_out : (there : Bool) (names : List (List ℕ)) (x n : List ℕ) → other x n ≡ false
    → filter (other x) (added there names n) ≡ filter (other x) names
left_out true names x n same = refl
left_out false names x n same =
    filter-append (other x) names (n ∷ []) ∙ ap (λ (b : Bool). filter (other x) names ++ cond b (n ∷ []) []) same
    ∙ append-nil (filter (other x) names)

-- another name stays
stays : (there : Bool) (names : List (List ℕ)) (x n : List ℕ) → other x n ≡ true
    → filter (other x) (added there names n) ≡ added there (filter (other x) names) n
stays true names x n differs = refl
stays false names x n differs =
    filter-append (other x) names (n ∷ [])
    ∙ ap (λ (b : Bool). filter (other x) names ++ cond b (n ∷ []) []) differs

onto_added : (there : Bool) (names : List (List ℕ)) (x n : List ℕ) → x ∷ added there names n ≡ added there (x ∷ names) n
onto_added true names x n = refl
onto_added false names x n = refl

-- one name more stands behind the others, unless it is among them
pub distinct_push : (names : List (List ℕ)) (n : List ℕ)
    → distinct (names ++ n ∷ []) ≡ added (list_any (is_text n) (distinct names)) (distinct names) n
unfolding distinct
distinct_push [] n = refl
distinct_push (x ∷ names) n =
    let rest = ap (λ (l : List (List ℕ)). x ∷ filter (other x) l) (distinct_push names n) in
    let there : Bool = list_any (is_text n) (distinct names) in
    elim (cases_Bool (bytes_eq x n)) [
      | inl same ↦
          let is : x ≡ n = (bytes_eq-Decides x n).0 same in
          let again : other x n ≡ false = ap not ((bytes_eq-Decides n x).1 (sym is)) in
          rest ∙ ap (λ (l : List (List ℕ)). x ∷ l) (left_out there (distinct names) x n again) ∙ rw same refl
      | inr differs ↦
          let apart : bytes_eq n x ≡ false = false_from_ne_true (bytes_eq n x) (λ e.
          let same = (bytes_eq-Decides x n).1 (sym ((bytes_eq-Decides n x).0 e)) in absurd cc) in
          let new : other x n ≡ true = ap not apart in
          let passes = any-filter_same (is_text n) (other x) true
          (λ k e. (let is : k ≡ n = (bytes_eq-Decides k n).0 e in rw is new)) (distinct names) in
          rest ∙ ap (λ (l : List (List ℕ)). x ∷ l) (stays there (distinct names) x n new)
          ∙ onto_added there (filter (other x) (distinct names)) x n ∙ rw (differs, passes) refl
    ]
