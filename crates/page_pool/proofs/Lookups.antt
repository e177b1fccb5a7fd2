-- Look-ups among the pages of a cache.
use Rattle.std.proofs.Common.{◌≡◌, ◌≢◌, ℕ, ◌-◌, true, false, List, [], ◌∷◌, Option, Some, None, IsSome, nat_eq, take, zero, suc, cond, refl, sym, ◌∙◌, ap, ◌⊎◌, inl, inr, Result, Ok, Err, OnOk, OnErr}
use Rattle.std.specs.Cmp.{nat_eq_equiv}
use Rattle.std.specs.List.{IsDistinct}
use Rattle.std.specs.Option.{option_map_or}
use Rattle.std.specs.Map.{keys_of, lookup, lookup_entry, remove_entry, set_value}
use Rattle.std.proofs.lemmas.Bool.{eqb-true, ne_eqb}
use Rattle.std.proofs.lemmas.Map.{lookup-remove_entry, lookup-set_value}
use Rattle.lru.specs.LruCache.{LruCache, lru_cache, promoted, put_entries}
use Rattle.page_pool.specs.Pages.{page_of, SamePages, NoneAdded, Forgets, Renews}

same_test : (k x y : ℕ) → nat_eq k x ≡ true → nat_eq k y ≡ nat_eq x y
same_test k x y t = ap (λ n. nat_eq n y) (eqb-true k x t)

itself : (k : ℕ) → nat_eq k k ≡ true
itself k = nat_eq_equiv.refl k

apart : (j k : ℕ) → j ≢ k → nat_eq k j ≡ false
apart j k ne = ne_eqb k j (λ e. ne (sym e))

-- an entry that is looked up by its key stands in the list by that key
found_key : (k : ℕ) (es : List (ℕ × List ℕ)) (e : ℕ × List ℕ) → lookup_entry (nat_eq k) es ≡ Some e → (nat_eq k e.0 ≡ true) × (lookup (nat_eq k) es ≡ Some e.1)
found_key k [] e h = cc
found_key k (f ∷ es) e h = (elim (nat_eq k f.0) as (λ y. nat_eq k f.0 ≡ y → (nat_eq k e.0 ≡ true) × (lookup (nat_eq k) (f ∷ es) ≡ Some e.1)) [
  | true ↦ λ t. let h' = rw t at h in let same : f ≡ e = cc in (rw (← same) t, rw t (ap (λ g. Some g.1) same))
  | false ↦ λ t. let on = found_key k es e (rw t at h) in (on.0, rw t on.1)
]) refl

-- without the first entry of k, another key finds what it found
others_found : (k j : ℕ) (es : List (ℕ × List ℕ)) → nat_eq j k ≡ false → lookup (nat_eq j) (remove_entry (nat_eq k) es) ≡ lookup (nat_eq j) es
others_found k j [] ne = refl
others_found k j (f ∷ es) ne = (elim (nat_eq k f.0) as (λ y. nat_eq k f.0 ≡ y → lookup (nat_eq j) (remove_entry (nat_eq k) (f ∷ es)) ≡ lookup (nat_eq j) (f ∷ es)) [
  | true ↦ λ t. let other : nat_eq j f.0 ≡ false = rw (eqb-true k f.0 t) at ne in rw (t, other) refl
  | false ↦ λ t. rw t (ap (λ o. cond (nat_eq j f.0) (Some f.1) o) (others_found k j es ne))
]) refl

head_found : (k j : ℕ) (es : List (ℕ × List ℕ)) (e : ℕ × List ℕ) → lookup_entry (nat_eq k) es ≡ Some e → lookup (nat_eq j) (e ∷ remove_entry (nat_eq k) es) ≡ lookup (nat_eq j) es
head_found k j es e h =
    let here = found_key k es e h in
    let same : k ≡ e.0 = eqb-true k e.0 here.0 in
    (elim (nat_eq j e.0) as (λ y. nat_eq j e.0 ≡ y → lookup (nat_eq j) (e ∷ remove_entry (nat_eq k) es) ≡ lookup (nat_eq j) es) [
      | true ↦ λ t. let key : j ≡ k = eqb-true j e.0 t ∙ sym same in rw t (sym (rw key here.1))
      | false ↦ λ t. rw t (others_found k j es (rw same t))
    ]) refl

promoted_by : (k j : ℕ) (es : List (ℕ × List ℕ)) (o : Option (ℕ × List ℕ)) → lookup_entry (nat_eq k) es ≡ o → lookup (nat_eq j) (option_map_or (λ e. e ∷ remove_entry (nat_eq k) es) o es) ≡ lookup (nat_eq j) es
promoted_by k j es None h = refl
promoted_by k j es (Some e) h = head_found k j es e h

-- with a page at the front all are found as before
pub same_promoted : (k : ℕ) (es : List (ℕ × List ℕ)) → SamePages es (promoted (nat_eq k) es)
same_promoted k es j = promoted_by k j es (lookup_entry (nat_eq k) es) refl

-- the first pages have none that was not there
pub none_added : (n : ℕ) (es : List (ℕ × List ℕ)) → NoneAdded es (take n es)
none_added zero es j page h = cc
none_added (suc n) [] j page h = h
none_added (suc n) (f ∷ es) j page h = (elim (nat_eq j f.0) as (λ y. nat_eq j f.0 ≡ y → lookup (nat_eq j) (f ∷ es) ≡ Some page) [
  | true ↦ λ t. let h' = rw t at h in rw t h'
  | false ↦ λ t. rw t (none_added n es j page (rw t at h))
]) refl

put_by : (c : LruCache ℕ (List ℕ)) (k j : ℕ) (v page : List ℕ) (o : Option (ℕ × List ℕ)) → lookup_entry (nat_eq k) c.entries ≡ o
    → lookup (nat_eq j) (option_map_or (λ e. (e.0, v) ∷ remove_entry (nat_eq k) c.entries) o ((k, v) ∷ take (c.cap - 1) c.entries)) ≡ Some page
    → ((j ≡ k) × (page ≡ v)) ⊎ ((nat_eq j k ≡ false) × (lookup (nat_eq j) c.entries ≡ Some page))
put_by c k j v page None h found = (elim (nat_eq j k) as (λ y. nat_eq j k ≡ y → ((j ≡ k) × (page ≡ v)) ⊎ ((nat_eq j k ≡ false) × (lookup (nat_eq j) c.entries ≡ Some page))) [
  | true ↦ λ t. let f = rw t at found in let same : page ≡ v = cc in inl (eqb-true j k t, same)
  | false ↦ λ t. inr (t, none_added (c.cap - 1) c.entries j page (rw t at found))
]) refl
put_by c k j v page (Some e) h found =
    let same : k ≡ e.0 = eqb-true k e.0 (found_key k c.entries e h).0 in
    (elim (nat_eq j e.0) as (λ y. nat_eq j e.0 ≡ y → ((j ≡ k) × (page ≡ v)) ⊎ ((nat_eq j k ≡ false) × (lookup (nat_eq j) c.entries ≡ Some page))) [
      | true ↦ λ t. let f = rw t at found in let is : page ≡ v = cc in inl (eqb-true j e.0 t ∙ sym same, is)
      | false ↦ λ t. let ne : nat_eq j k ≡ false = rw same t in inr (ne, sym (others_found k j c.entries ne) ∙ (rw t at found))
    ]) refl

-- a page that was put
pub renews_put : (c : LruCache ℕ (List ℕ)) (k : ℕ) (v : List ℕ) → Renews k v c.entries (put_entries nat_eq c k v)
renews_put c k v = record {
  here = λ page found. elim (put_by c k k v page (lookup_entry (nat_eq k) c.entries) refl found) [ inl put ↦ put.1 | inr was ↦ let no = rw (itself k) at was.0 in cc ];
  others = λ j page ne found. elim (put_by c k j v page (lookup_entry (nat_eq k) c.entries) refl found) [ inl put ↦ absurd (ne put.0) | inr was ↦ was.1 ];
}

-- no page of block k, and nothing has changed
pub renews_none : (k : ℕ) (v : List ℕ) (es : List (ℕ × List ℕ)) → page_of es k ≡ None → Renews k v es es
renews_none k v es none = record {
  here = λ page found. let no = rw none at found in cc;
  others = λ j page ne found. found;
}

-- a page that was put, or for which there was no memory
pub renews_offered : {T E : Type 0} (result : Result T E) (old new : LruCache ℕ (List ℕ)) (k : ℕ) (v : List ℕ) → OnOk result (new ≡ lru_cache (put_entries nat_eq old k v) old.cap) → OnErr result (new ≡ old)
    → page_of old.entries k ≡ None → Renews k v old.entries new.entries
renews_offered (Ok put) old new k v done refused none = rw done (renews_put old k v)
renews_offered (Err left) old new k v done refused none = rw refused (renews_none k v old.entries none)

-- a page that was written to
pub renews_set : (k : ℕ) (v : List ℕ) (es : List (ℕ × List ℕ)) → IsSome (page_of es k) → Renews k v es (set_value (nat_eq k) es v)
renews_set k v es some = record {
  here = λ page found. let put = rw (itself k) at (sym (lookup-set_value nat_eq_equiv (nat_eq k) (same_test k) k v es some) ∙ found) in cc;
  others = λ j page ne found. rw (apart j k ne) at (sym (lookup-set_value nat_eq_equiv (nat_eq k) (same_test k) j v es some) ∙ found);
}

-- a page that was taken out
pub forgets_removed : (k : ℕ) (es : List (ℕ × List ℕ)) → IsDistinct nat_eq (keys_of es) → Forgets k es (remove_entry (nat_eq k) es)
forgets_removed k es distinct = record {
  gone = rw (itself k) at (lookup-remove_entry nat_eq_equiv (nat_eq k) (same_test k) k es distinct);
  others = λ j ne. rw (apart j k ne) at (lookup-remove_entry nat_eq_equiv (nat_eq k) (same_test k) j es distinct);
}
