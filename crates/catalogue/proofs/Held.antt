-- The signatures of a catalogue, as they are held.
use Rattle.std.proofs.Common.{◌≡◌, ℕ, suc, ◌+◌, ◌-◌, ◌<◌, ◌≤◌, List, [], ◌∷◌, ◌++◌, length, Bool, true, filter, Option, Some, None, is_some, refl, sym, ap, ◌∙◌, arith, All, Contains, length-append, inl, inr, ◌⊎◌, Decides}
use Rattle.std.specs.Prelude.{String, string_bytes}
use Rattle.std.specs.declared.alloc.Global.{Global}
use Rattle.std.specs.Str.{bytes_eq}
use Rattle.std.specs.List.{list_any}
use Rattle.std.specs.Map.{lookup, remove_entry}
use Rattle.std.specs.Cmp.Lexicographic.{nat_list_eq_equiv}
use Rattle.std.proofs.lemmas.Bool.{false_from_ne_true, cond_both}
use Rattle.std.proofs.lemmas.List.{map-append, map-id, get_or-map, length-map}
use Rattle.std.proofs.lemmas.List.Concat.{length-flat_map}
use Rattle.std.proofs.lemmas.List.Sums.{length-filter, count_by-le-length}
use Rattle.std.proofs.lemmas.List.Elements.{All-push, All-nil, All-head, All-tail, All-filter, All-map, All-contains, Contains-get_or, Contains-push_cases}
use Rattle.std.proofs.lemmas.Map.Entries.{sum_by-remove_entry}
use Rattle.std.proofs.lemmas.Map.Views.{IfSome-lookup_from_All, All-map-remove_entry}
use Rattle.std.proofs.lemmas.Slice.Eq.{bytes_eq-Decides}
use Rattle.arr_core.specs.declared.signature.Signature.{Signature}
use Rattle.arr_core.specs.Names.{AreDistinct}
use Rattle.arr_core.proofs.Names.{Contains-cons_cases, any-Contains}
use Rattle.catalogue.specs.Signatures.{names_of, listed, without, IsSignature, IsCatalogue, MayInsert}
use Rattle.catalogue.specs.Bytes.{signature_bytes, catalogue_bytes}
use Rattle.catalogue.specs.Held.{Entry, signatures_of, IsHeld}
use Rattle.catalogue.proofs.ByteCounts.{catalogue_length, catalogue_longer, signature_short, codes_short}

-- elements of lists
pub nothing_in_nil : {X : Type 0} (x : X) → Contains [] x → ⊥
nothing_in_nil x c = omega (arith, c.1)

pub contains_here : {X : Type 0} (x : X) (xs : List X) → Contains (x ∷ xs) x
contains_here x xs = (0, omega arith, refl)

pub contains_later : {X : Type 0} (y : X) (xs : List X) (x : X) → Contains xs x → Contains (y ∷ xs) x
contains_later y xs x c = (suc c.0, omega (arith, c.1), c.2)

pub contains_cases : {X : Type 0} (y : X) (xs : List X) (x : X) → Contains (y ∷ xs) x → (y ≡ x) ⊎ Contains xs x
contains_cases y xs x c = Contains-cons_cases y x xs c

-- entries under their own names
abbrev pub IsNamed : Entry → Type 0
IsNamed e = string_bytes e.0 ≡ e.1.name

-- the test of a look-up by name
abbrev pub has_name : List ℕ → String Global → Bool
has_name name key = bytes_eq name (string_bytes key)

same_test : (name : List ℕ) (e : Entry) (entries : List Entry) → All IsNamed (e ∷ entries) → has_name name e.0 ≡ bytes_eq e.1.name name
same_test name e entries h = ap (bytes_eq name) (All-head IsNamed e entries h) ∙ nat_list_eq_equiv.symm name e.1.name

-- a look-up finds the signature with the name
looked_up : (name : List ℕ) (entries : List Entry) → All IsNamed entries → lookup (has_name name) entries ≡ listed name (signatures_of entries)
looked_up name [] h = refl
looked_up name (e ∷ entries) h = rw (same_test name e entries h, looked_up name entries (All-tail IsNamed e entries h)) refl

-- one that is found is held
some_found : (name : List ℕ) (signatures : List Signature) → is_some (listed name signatures) ≡ list_any (λ (s : Signature). bytes_eq s.name name) signatures
some_found name [] = refl
some_found name (s ∷ signatures) =
    let ih = some_found name signatures in
    grind arith

-- one signature more
distinct_push : (names : List (List ℕ)) (name : List ℕ) → AreDistinct names → (Contains names name → ⊥) → AreDistinct (names ++ name ∷ [])
distinct_push [] name d n = ((λ c. nothing_in_nil name c), tt)
distinct_push (x ∷ names) name d n = (
  (λ c. elim (Contains-push_cases names name x c) [
    | inl before ↦ d.0 before
    | inr same ↦ n (0, omega arith, sym same)
  ]),
  distinct_push names name d.1 (λ c. n (contains_later x names name c)),
)

pub catalogue-push : (signatures : List Signature) (s : Signature) → IsCatalogue signatures → (¬ Contains (names_of signatures) s.name) → IsSignature s → length signatures < 1024 → IsCatalogue (signatures ++ s ∷ [])
catalogue-push signatures s c fresh v room = record {
  few = omega (arith, length-append signatures (s ∷ []));
  each = All-push IsSignature signatures s c.each v;
  distinct = rw (map-append (λ (t : Signature). t.name) signatures (s ∷ [])) (distinct_push (names_of signatures) s.name c.distinct fresh);
}

pub catalogue-none : IsCatalogue []
catalogue-none = record { few = omega arith; each = All-nil IsSignature; distinct = tt }

pub held-none : (entries : List Entry) → entries ≡ [] → IsHeld entries 4
held-none entries e =
    rw e (record { named = All-nil IsNamed; catalogue = catalogue-none; counted = sym (catalogue_length []) })

-- one signature less
without_absent : (name : List ℕ) (signatures : List Signature) → (Contains (names_of signatures) name → ⊥) → without name signatures ≡ signatures
without_absent name [] n = refl
without_absent name (s ∷ signatures) n =
    let t = false_from_ne_true (bytes_eq s.name name) (λ e. n (0, omega arith, (bytes_eq-Decides s.name name).0 e)) in
    rw t (ap (λ l. s ∷ l) (without_absent name signatures (λ c. n (contains_later s.name (names_of signatures) name c))))

removed_without : (name : List ℕ) (entries : List Entry) → All IsNamed entries → AreDistinct (names_of (signatures_of entries)) → signatures_of (remove_entry (has_name name) entries) ≡ without name (signatures_of entries)
removed_without name [] h d = refl
removed_without name (e ∷ entries) h d =
    let held = signatures_of entries in
    let ih = removed_without name entries (All-tail IsNamed e entries h) d.1 in
    let absent : bytes_eq e.1.name name ≡ true → without name held ≡ held =
    λ t. without_absent name held (λ c. d.0 (rw ((bytes_eq-Decides e.1.name name).0 t) c)) in
    rw (same_test name e entries h) (grind arith)

-- the name of each signature is among their names
names_held : (signatures : List Signature) → All (λ (s : Signature). Contains (names_of signatures) s.name) signatures
names_held signatures k d h =
    rw (get_or-map (λ (s : Signature). s.name) signatures k d d.name h) at (Contains-get_or (names_of signatures) k d.name (rw length-map h))

module _ (p : Signature → Bool) where
  contains_filter : (name : List ℕ) (signatures : List Signature) → Contains (names_of (filter p signatures)) name → Contains (names_of signatures) name
  contains_filter name signatures c =
      let held = Contains (names_of signatures) in
      let kept = All-filter p (λ (s : Signature). held s.name) signatures (names_held signatures) in
      All-contains held _ name (All-map held (λ (s : Signature). s.name) (filter p signatures) kept) c

  distinct_filter : (signatures : List Signature) → AreDistinct (names_of signatures) → AreDistinct (names_of (filter p signatures))
  distinct_filter [] d = d
  distinct_filter (s ∷ signatures) d =
      let ih = distinct_filter signatures d.1 in
      cond_both (p s) (s ∷ filter p signatures) (filter p signatures) (λ l. AreDistinct (names_of l))
      (λ t. ((λ c. d.0 (contains_filter s.name signatures c)), ih)) (λ t. ih)

  catalogue-filter : (signatures : List Signature) → IsCatalogue signatures → IsCatalogue (filter p signatures)
  catalogue-filter signatures c = record {
    few = (let few = c.few in omega (arith, length-filter p signatures, count_by-le-length p signatures));
    each = All-filter p IsSignature signatures c.each;
    distinct = distinct_filter signatures c.distinct;
  }

each_removed : (test : String Global → Bool) (entries : List Entry) → All IsNamed entries → All IsNamed (remove_entry test entries)
each_removed test entries h =
    rw map-id at (All-map-remove_entry test (λ e. e) IsNamed entries (All-map IsNamed (λ e. e) entries h))

-- what is held in a map
module _ {entries : List Entry} {bytes : ℕ} {held : List Signature} (h : IsHeld entries bytes) (view : signatures_of entries ≡ held) where
  -- a catalogue is written in few bytes
  pub held_small : bytes ≤ 1598468
  held_small =
      let few = h.catalogue.few in
      let short = codes_short signature_bytes 1561 IsSignature signature_short (signatures_of entries) h.catalogue.each in
      omega (arith, h.counted, catalogue_length (signatures_of entries), length-flat_map signature_bytes (signatures_of entries))

  pub longer : (s : Signature) → length (catalogue_bytes (held ++ s ∷ [])) ≡ bytes + length (signature_bytes s)
  longer s = rw (← view) (omega (arith, h.counted, catalogue_longer (signatures_of entries) s))

  module _ {new : List Entry} (key : String Global) (s : Signature) (put : new ≡ entries ++ (key, s) ∷ []) where
    pub view-push : signatures_of new ≡ held ++ s ∷ []
    view-push = rw (put, ← view) (map-append (λ (d : Entry). d.1) entries ((key, s) ∷ []))

    pub held-push : {more : ℕ} → string_bytes key ≡ s.name → IsSignature s → MayInsert held s → more ≡ length (signature_bytes s) → IsHeld new (bytes + more)
    held-push named v m l = record {
      named = rw put (All-push IsNamed entries (key, s) h.named named);
      catalogue = rw (view-push, ← view) (catalogue-push _ s h.catalogue (rw view m.fresh) v (rw view m.room));
      counted = rw view-push (omega (arith, l, longer s));
    }

  module _ {text name : List ℕ} (is : text ≡ name) where
    pub look-up : lookup (has_name text) entries ≡ listed name held
    look-up = rw (is, ← view) (looked_up name entries h.named)

    pub holds : Decides (is_some (lookup (has_name text) entries)) (Contains (names_of held) name)
    holds = rw (look-up, some_found name held) (any-Contains (λ (s : Signature). s.name) name held)

    pub absent : (¬ Contains (names_of held) name) → lookup (has_name text) entries ≡ None
    absent none = by (lookup (has_name text) entries) refl
      where
        by : (o : Option Signature) → lookup (has_name text) entries ≡ o → o ≡ None
        by None e = refl
        by (Some s) e = absurd (none (holds.0 (ap is_some e)))

    module _ {s : Signature} (at : Some s ≡ lookup (has_name text) entries) where
      pub sound : IsSignature s
      sound = rw (← at) at (IfSome-lookup_from_All IsSignature (has_name text) entries h.catalogue.each)

      pub view-removed : {new : List Entry} → new ≡ remove_entry (has_name text) entries → signatures_of new ≡ without name held
      view-removed e = rw (e, is, ← view) (removed_without name entries h.named h.catalogue.distinct)

      pub length-removed : bytes ≡ length (signature_bytes s) + length (catalogue_bytes (without name held))
      length-removed =
          let size = λ (s : Signature). length (signature_bytes s) in
          let less = rw (← at, view-removed refl) at (sum_by-remove_entry size (has_name text) entries) in
          omega (
            arith,
            less,
            h.counted,
            catalogue_length (signatures_of entries),
            catalogue_length (without name held),
            length-flat_map signature_bytes (signatures_of entries),
            length-flat_map signature_bytes (without name held),
          )

      pub held-removed : {new : List Entry} → new ≡ remove_entry (has_name text) entries → IsHeld new (bytes - length (signature_bytes s))
      held-removed {new} e = record {
        named = rw e (each_removed (has_name text) entries h.named);
        catalogue = rw (view-removed e, ← view) (catalogue-filter _ _ h.catalogue);
        counted = rw (view-removed e) (omega (arith, length-removed));
      }
