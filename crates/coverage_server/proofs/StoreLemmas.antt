-- A catalogue, and the store whose signatures it has.
use Rattle.std.proofs.Common.{◌≡◌, ◌≢◌, ℕ, Bool, true, false, List, [], ◌∷◌, ◌++◌, None, Some, refl, sym, ap, ◌∙◌, subst, not, Contains, inl, inr}
use Rattle.std.specs.Prelude.{option_map}
use Rattle.std.specs.Str.{bytes_eq}
use Rattle.std.proofs.lemmas.List.{map-append}
use Rattle.std.proofs.lemmas.List.Elements.{filter-append}
use Rattle.std.proofs.lemmas.Slice.Eq.{bytes_eq-Decides}
use Rattle.arr_core.specs.declared.signature.Signature.{Signature}
use Rattle.arr_core.specs.Stores.{Store, found, inserted}
use Rattle.catalogue.specs.Signatures.{names_of, without, listed}
use Rattle.catalogue.proofs.Held.{nothing_in_nil, contains_here, contains_later, contains_cases}
use Rattle.raster_store.specs.Calls.{signature_of}
use Rattle.coverage_server.specs.Views.{signatures_of}

-- the signature with a name is that of the coverage with it
pub listed_alike : (name : List ℕ) (store : Store) → listed name (signatures_of store) ≡ option_map signature_of (found name store)
listed_alike name [] = refl
listed_alike name (c ∷ store) = by_test (bytes_eq c.name name) refl (listed_alike name store)
  where
    by_test : (b : Bool) → bytes_eq c.name name ≡ b → listed name (signatures_of store) ≡ option_map signature_of (found name store)
        → listed name (signatures_of (c ∷ store)) ≡ option_map signature_of (found name (c ∷ store))
    by_test true t later = rw t refl
    by_test false t later = rw t later

same_name : (a b : List ℕ) → bytes_eq a b ≡ true → a ≡ b
same_name a b e = (bytes_eq-Decides a b).0 e

other_name : (a b : List ℕ) → a ≢ b → bytes_eq a b ≡ false
other_name a b n = by_test (bytes_eq a b) refl
  where
    by_test : (t : Bool) → bytes_eq a b ≡ t → bytes_eq a b ≡ false
    by_test true e = absurd (n (same_name a b e))
    by_test false e = e

-- a name that is not listed is not found
pub fresh_found : (name : List ℕ) (store : Store) → (Contains (names_of (signatures_of store)) name → ⊥) → found name store ≡ None
fresh_found name [] n = refl
fresh_found name (c ∷ store) n =
    let differs : bytes_eq c.name name ≡ false = other_name c.name name (λ e. n (subst (λ x. Contains (c.name ∷ names_of (signatures_of store)) x) e (contains_here c.name (names_of (signatures_of store))))) in
    rw differs (fresh_found name store (λ k. n (contains_later c.name (names_of (signatures_of store)) name k)))

-- a name that is not found is not listed
pub unfound_fresh : (name : List ℕ) (store : Store) → found name store ≡ None → Contains (names_of (signatures_of store)) name → ⊥
unfound_fresh name [] e k = nothing_in_nil name k
unfound_fresh name (c ∷ store) e k = by_test (bytes_eq c.name name) refl (λ e k. unfound_fresh name store e k)
  where
    by_test : (b : Bool) → bytes_eq c.name name ≡ b → (found name store ≡ None → Contains (names_of (signatures_of store)) name → ⊥) → ⊥
    by_test true t later = let is : found name (c ∷ store) ≡ Some c = rw t refl in absurd cc
    by_test false t later =
        let is : found name (c ∷ store) ≡ found name store = rw t refl in
        elim (contains_cases c.name (names_of (signatures_of store)) name k) [
          | inl same ↦ (let is : bytes_eq c.name name ≡ true = (bytes_eq-Decides c.name name).1 same in absurd cc)
          | inr more ↦ later (sym is ∙ e) more
        ]

-- the signatures with a new coverage
pub signatures_inserted : (s : Signature) (store : Store) → signatures_of (inserted s.name s.domain s.fields store) ≡ signatures_of store ++ s ∷ []
signatures_inserted s store = map-append signature_of store _

pub keeps_all : (name : List ℕ) (held : List Signature) → (Contains (names_of held) name → ⊥) → without name held ≡ held
keeps_all name [] n = refl
keeps_all name (s ∷ held) n =
    let differs : bytes_eq s.name name ≡ false = other_name s.name name (λ e. n (subst (λ x. Contains (s.name ∷ names_of held) x) e (contains_here s.name (names_of held)))) in
    rw differs (ap (λ (l : List Signature). s ∷ l) (keeps_all name held (λ k. n (contains_later s.name (names_of held) name k))))

-- a signature that has come is taken out again
pub without_last : (s : Signature) (held : List Signature) → (Contains (names_of held) s.name → ⊥) → without s.name (held ++ s ∷ []) ≡ held
without_last s held n =
    let is : bytes_eq s.name s.name ≡ true = (bytes_eq-Decides s.name s.name).1 refl in
    let none : without s.name (s ∷ []) ≡ [] = rw is refl in
    filter-append (λ (t : Signature). not (bytes_eq t.name s.name)) held (s ∷ []) ∙ ap (λ (l : List Signature). without s.name held ++ l) none
    ∙ ap (λ (l : List Signature). l ++ []) (keeps_all s.name held n) ∙ append_nil held
  where
    append_nil : (l : List Signature) → l ++ [] ≡ l
    append_nil [] = refl
    append_nil (x ∷ l) = ap (λ (m : List Signature). x ∷ m) (append_nil l)

-- the signature has the name of the one that is listed last
pub listed_last : (s : Signature) (held : List Signature) → Contains (names_of (held ++ s ∷ [])) s.name
listed_last s [] = contains_here s.name []
listed_last s (t ∷ held) = contains_later t.name (names_of (held ++ s ∷ [])) s.name (listed_last s held)
