-- Coverages that were copied by their names are those of the store.
use Rattle.std.proofs.Common.{◌≡◌, ℕ, zero, suc, ◌+◌, ◌<◌, ◌≤◌, ◌⊎◌, true, false, List, [], ◌∷◌, ◌++◌, length, get_or, take, refl, sym, ap, ◌∙◌, arith, inl, inr, All, Some, None, Option, position, subst}
use Rattle.std.specs.Prelude.{slice_get, option_map, map}
use Rattle.std.specs.List.{list_any}
use Rattle.std.proofs.lemmas.List.{take_more, map_push}
use Rattle.std.proofs.lemmas.List.Elements.{All-head, All-tail, All-push}
use Rattle.std.proofs.lemmas.Option.{slice_get-map, slice_get_read}
use Rattle.std.proofs.lemmas.Slice.Eq.{bytes_eq-Decides}
use Rattle.block_file.specs.State.{BlocksState, none}
use Rattle.block_file.specs.Words.{Recounts}
use Rattle.arr_core.specs.declared.signature.Signature.{Signature}
use Rattle.arr_core.specs.Stores.{Coverage, found}
use Rattle.raster_store.specs.declared.held.Held.{Held}
use Rattle.raster_store.specs.Views.{Index, AreIntact, FieldsIntact, listed_fields, listed_all}
use Rattle.raster_store.specs.Holding.{coverages_of, coverage_of, indexes_of, has_name, IsWhole, IsHeld, NoneNamed, IsNamedAt}
use Rattle.raster_store.specs.Fields.{IsNamed}
use Rattle.raster_store.specs.Copying.{names_of, IsCopyOf, AreCopiesOf, AddsCopy}
use Rattle.raster_store.specs.Snapshots.{AreCopied, distinct}
use Rattle.raster_store.proofs.Contents.{apart_none, apart_push, named_within, named_position, none_position, found_named, intact-at}
use Rattle.raster_store.proofs.Totals.{listed_all-nil, listed_all-cons, all_parts}
use Rattle.raster_store.proofs.Readings.{known, known_named}
use Rattle.raster_store.proofs.Distinct.{is_text, distinct-nil, distinct_push}

-- the coverage at the place of a name has it
named_has : (name : List ℕ) (held : List Held) (place : ℕ) (d : Held) → IsNamedAt name held place → has_name name (get_or held place d) ≡ true
named_has name [] place d at = absurd at
named_has name (g ∷ held) zero d at = at.0
named_has name (g ∷ held) (suc place) d at = named_has name held place d at.1

name_is : (name : List ℕ) (held : List Held) (g : Held) → IsNamed name held g → g.signature.name ≡ name
name_is name held g is =
    let has : has_name name g ≡ true = ap (has_name name) is.2 ∙ named_has name held is.0 g is.1 in
    (bytes_eq-Decides g.signature.name name).0 has

-- no coverage of a longer list has a name, so none of the first has it, nor the last
none_left : (name : List ℕ) (xs ys : List Held) → NoneNamed name (xs ++ ys) → NoneNamed name xs
none_left name [] ys none = tt
none_left name (x ∷ xs) ys none = (none.0, none_left name xs ys none.1)

none_last : (name : List ℕ) (xs : List Held) (h : Held) → NoneNamed name (xs ++ h ∷ []) → has_name name h ≡ false
none_last name [] h none = none.0
none_last name (x ∷ xs) h none = none_last name xs h none.1

none_named : (name : List ℕ) (held : List Held) (place : ℕ) → IsNamedAt name held place → NoneNamed name held → ⊥
none_named name [] place at none = absurd at
none_named name (g ∷ held) zero at none = let a = at.0 in let b = none.0 in absurd cc
none_named name (g ∷ held) (suc place) at none = none_named name held place at.1 none.1

-- whether a name is among those of coverages
named_among : (name : List ℕ) (held : List Held) (place : ℕ) → IsNamedAt name held place → list_any (is_text name) (names_of held) ≡ true
named_among name [] place at = absurd at
named_among name (g ∷ held) zero at = rw at.0 refl
named_among name (g ∷ held) (suc place) at = rw (at.0, named_among name held place at.1) refl

none_among : (name : List ℕ) (held : List Held) → NoneNamed name held → list_any (is_text name) (names_of held) ≡ false
none_among name [] none = refl
none_among name (g ∷ held) none = rw (none.0, none_among name held none.1) refl

once_there : (names : List (List ℕ)) (name : List ℕ) (copies : List Held) (place : ℕ) → IsNamedAt name copies place → names_of copies ≡ distinct names → names_of copies ≡ distinct (names ++ name ∷ [])
once_there names name copies place at once =
    let there : list_any (is_text name) (distinct names) ≡ true = rw (← once) (named_among name copies place at) in
    once ∙ sym (distinct_push names name ∙ rw there refl)

once_more : (names : List (List ℕ)) (copies : List Held) (h : Held) → NoneNamed h.signature.name copies → names_of copies ≡ distinct names → names_of (copies ++ h ∷ []) ≡ distinct (names ++ h.signature.name ∷ [])
once_more names copies h none once =
    let name : List ℕ = h.signature.name in
    let new : list_any (is_text name) (distinct names) ≡ false = rw (← once) (none_among name copies none) in
    map_push (λ (g : Held). g.signature.name) copies h ∙ ap (λ (l : List (List ℕ)). l ++ name ∷ []) once
    ∙ sym (distinct_push names name ∙ rw new refl)

-- ---- one name after the other

pub copied_none : (held : List Held) → AreCopiesOf held [] []
copied_none held = record { named = λ k d l. absurd (omega arith); from = λ k d l. absurd (omega arith); apart = apart_none; once = sym distinct-nil }

pub copied_there : (held copies : List Held) (name : List ℕ) (place : ℕ) → IsNamedAt name copies place → AddsCopy held name copies copies
copied_there held copies name place at names p = record {
  named = All-push (λ (n : List ℕ). NoneNamed n copies → ⊥) names name p.named (none_named name copies place at);
  from = p.from;
  apart = p.apart;
  once = once_there names name copies place at p.once;
}

pub copied_more : (held copies : List Held) (name : List ℕ) (g h : Held) → NoneNamed name copies → IsNamed name held g → h.version ≡ g.version → h.signature ≡ g.signature → h.fields.items ≡ g.fields.items → AddsCopy held name copies (copies ++ h ∷ [])
copied_more held copies name g h none is version signature fields names p =
    let here : h.signature.name ≡ name = ap (λ (s : Signature). s.name) signature ∙ name_is name held g is in
    record {
      named = All-push (λ (n : List ℕ). NoneNamed n (copies ++ h ∷ []) → ⊥) names name
          (λ k d l more. p.named k d l (none_left (get_or names k d) copies (h ∷ []) more))
          (λ more. let other = none_last name copies h more in let same = (bytes_eq-Decides h.signature.name name).1 here in absurd cc);
      from = All-push (IsCopyOf held) copies h p.from (record { from = g; named = rw here is; version = version; signature = signature; fields = fields });
      apart = apart_push copies h p.apart (rw here none);
      once = subst (λ (n : List ℕ). names_of (copies ++ h ∷ []) ≡ distinct (names ++ n ∷ [])) here (once_more names copies h (rw here none) p.once);
    }

pub copied_step : (held : List Held) (names : List (List ℕ)) (i : ℕ) (name : List ℕ) (old new : List Held) → i < length names → name ≡ get_or names i name → AreCopiesOf held (take i names) old → AddsCopy held name old new → AreCopiesOf held (take (i + 1) names) new
copied_step held names i name old new lt is p adds = rw (take_more names i name lt, ← is) (adds (take i names) p)

-- ---- what they are

-- coverages have the names that they are held by
names_in : (content : List ℕ) (held : List Held) → map (λ (c : Coverage). c.name) (coverages_of content held) ≡ names_of held
names_in content [] = refl
names_in content (g ∷ held) = ap (λ (l : List (List ℕ)). g.signature.name ∷ l) (names_in content held)

-- what is told alike is alike
whole_as : (h g : Held) → h.signature ≡ g.signature → h.fields.items ≡ g.fields.items → IsWhole g → IsWhole h
whole_as h g signature fields whole = rw (signature, fields) whole

coverage_as : (content : List ℕ) (h g : Held) → h.signature ≡ g.signature → h.fields.items ≡ g.fields.items → coverage_of content h ≡ coverage_of content g
coverage_as content h g signature fields = rw (signature, fields) refl

intact_as : (content : List ℕ) (h g : Held) → h.signature ≡ g.signature → h.fields.items ≡ g.fields.items → FieldsIntact content g.signature.domain g.signature.fields g.fields.items → FieldsIntact content h.signature.domain h.signature.fields h.fields.items
intact_as content h g signature fields intact = rw (signature, fields) intact

within_of : (held : List Held) (h : Held) (p : IsCopyOf held h) → p.named.0 < length held
within_of held h p = named_within h.signature.name held p.named.0 p.named.1

none_or_some : (n : ℕ) → (n ≡ 0) ⊎ (0 < n)
none_or_some zero = inl refl
none_or_some (suc n) = inr (omega arith)

element : (xs : List Held) (i : ℕ) → i < length xs → (h : Held) × (h ≡ get_or xs i h) × (slice_get xs i ≡ Some h)
element [] i lt = absurd (omega arith)
element (x ∷ xs) zero lt = (x, refl, refl)
element (x ∷ xs) (suc i) lt = element xs i (omega (arith, lt))

module _ (s : BlocksState) (held : List Held) (is : IsHeld s held) where
  whole_of : (h : Held) → IsCopyOf held h → IsWhole h
  whole_of h p = whole_as h p.from p.signature p.fields (subst IsWhole (sym p.named.2) (is.each p.named.0 p.from (within_of held h p)))

  used_of : (h : Held) (k : ℕ) → IsCopyOf held h → listed_fields h.fields.items k ≤ listed_all (indexes_of held) k
  used_of h k p = omega (arith, (all_parts k held p.named.0 p.from p.from (within_of held h p) p.named.2).0, ap (λ (i : List Index). listed_fields i k) p.fields)

  pub copied_used : (copies : List Held) (k : ℕ) → All (IsCopyOf held) copies → 0 < listed_all (indexes_of copies) k → 0 < listed_all (indexes_of held) k
  copied_used [] k all some = absurd (omega (arith, some, listed_all-nil k))
  copied_used (h ∷ copies) k all some = elim (none_or_some (listed_fields h.fields.items k)) [
    | inl none ↦ copied_used copies k (All-tail (IsCopyOf held) h copies all) (omega (arith, some, none, listed_all-cons k h.fields.items (indexes_of copies)))
    | inr more ↦ omega (arith, more, used_of h k (All-head (IsCopyOf held) h copies all))
  ]

  pub are_copied : (copies : List Held) → All (IsCopyOf held) copies → AreCopied (coverages_of s.content held) (indexes_of held) (coverages_of s.content copies) (indexes_of copies)
  are_copied [] all = tt
  are_copied (h ∷ copies) all =
      let p = All-head (IsCopyOf held) h copies all in
      let within = within_of held h p in
      let k = known s held p.named.0 p.from is within p.named.2 in
      let index : slice_get (indexes_of held) p.named.0 ≡ Some h.fields.items =
      slice_get-map (λ (x : Held). x.fields.items) held p.named.0 ∙ ap (option_map (λ (x : Held). x.fields.items)) (slice_get_read held (length held) p.named.0 p.from refl within p.named.2) ∙ ap Some (sym p.fields) in
      ((p.named.0, k.at ∙ ap Some (sym (coverage_as s.content h p.from p.signature p.fields)), index), are_copied copies (All-tail (IsCopyOf held) h copies all))

  pub copied_intact : (copies : List Held) → All (IsCopyOf held) copies → AreIntact s.content (coverages_of s.content held) (indexes_of held) → AreIntact s.content (coverages_of s.content copies) (indexes_of copies)
  copied_intact [] all intact = tt
  copied_intact (h ∷ copies) all intact =
      let p = All-head (IsCopyOf held) h copies all in
      let here = intact-at s.content held p.named.0 p.from (within_of held h p) p.named.2 intact in
      (intact_as s.content h p.from p.signature p.fields here, copied_intact copies (All-tail (IsCopyOf held) h copies all) intact)

  -- the store that they are by themselves, where they are counted
  pub copied_held : (s' : BlocksState) (names : List (List ℕ)) (copies : List Held) → AreCopiesOf held names copies → Recounts none (listed_all (indexes_of copies)) s s' → IsHeld s' copies
  copied_held s' names copies p counts = record {
    each = λ k d l. whole_of (get_or copies k d) (p.from k d l);
    apart = p.apart;
    counted = λ k. omega (arith, counts.uses k);
    whole = λ sure k some. rw counts.content (is.whole (rw counts.honest at sure) k (copied_used copies k p.from some));
  }

  -- the coverage at the place of a name is that of the store
  named_at : (names : List (List ℕ)) (copies : List Held) (n : List ℕ) (place : ℕ) → AreCopiesOf held names copies → IsNamedAt n copies place → found n (coverages_of s.content copies) ≡ found n (coverages_of s.content held)
  named_at names copies n place p at =
      let within = named_within n copies place at in
      let there = element copies place within in
      let h : Held = there.0 in
      let picked : IsCopyOf held h = subst (IsCopyOf held) (sym there.1) (p.from place h within) in
      let name : h.signature.name ≡ n = name_is n copies h (place, at, there.1) in
      let here : found n (coverages_of s.content copies) ≡ Some (coverage_of s.content h) =
      (found_named s.content n 0 copies place at).0 ∙ slice_get-map (coverage_of s.content) copies place ∙ ap (option_map (coverage_of s.content)) there.2 in
      let first = (known_named s held h.signature.name picked.from is picked.named).at in
      let second : found n (coverages_of s.content held) ≡ Some (coverage_of s.content picked.from) = subst (λ (m : List ℕ). found m (coverages_of s.content held) ≡ Some (coverage_of s.content picked.from)) name first in
      here ∙ ap Some (coverage_as s.content h picked.from picked.signature picked.fields) ∙ sym second

  by_place : (names : List (List ℕ)) (copies : List Held) (n : List ℕ) (o : Option ℕ) → AreCopiesOf held names copies → position (has_name n) copies ≡ o → (NoneNamed n copies → ⊥) → found n (coverages_of s.content copies) ≡ found n (coverages_of s.content held)
  by_place names copies n None p e some = absurd (some (none_position n copies e))
  by_place names copies n (Some place) p e some = named_at names copies n place p (named_position n copies place p.apart e)

  pub copied_named : (names : List (List ℕ)) (copies : List Held) → AreCopiesOf held names copies → All (λ (n : List ℕ). found n (coverages_of s.content copies) ≡ found n (coverages_of s.content held)) names
  copied_named names copies p k d l = by_place names copies (get_or names k d) (position (has_name (get_or names k d)) copies) p refl (p.named k d l)

  pub copied_once : (names : List (List ℕ)) (copies : List Held) → AreCopiesOf held names copies → map (λ (c : Coverage). c.name) (coverages_of s.content copies) ≡ distinct names
  copied_once names copies p = names_in s.content copies ∙ p.once
