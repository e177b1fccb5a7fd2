-- The step of an exchange.
use Rattle.std.proofs.Common.{◌≡◌, ◌≢◌, ℕ, suc, zero, ◌<◌, List, [], ◌∷◌, ◌++◌, length, get_or, set, sym, ap, ap₂, ◌∙◌, arith, Bool, true, false, cond, Option, Some, None, IsSome, IfSome, is_some, unwrap_or, refl, append-nil, ◌==◌, ⊎_elim}
use Rattle.std.proofs.lemmas.Bool.{cases_eq}
use Rattle.std.proofs.lemmas.Bool.Decides.{nat_tests}
use Rattle.std.proofs.lemmas.List.Elements.{All-pop}
use Rattle.std.proofs.lemmas.List.Recursion.{found_set_other}
use Rattle.file_bytes.specs.declared.form.Form.TheVariants.{Runs}
use Rattle.tile_index.specs.Index.{found_at, changed_at, IsRising, IsPlaceOf, AreExchanges}
use Rattle.tile_index.specs.declared.entry.Entry.{Entry}
use Rattle.tile_index.proofs.Found.{found-other, found_of_place}

-- some changes are left: what the tiles have in the end stays the same
pub record IsExchanging (cs : List (ℕ × Option Entry)) (es : List (ℕ × Entry)) (changes : List (ℕ × Option Entry)) (entries : List (ℕ × Entry)) : Type 0 where
  pub left : AreExchanges changes entries
  pub rising : IsRising entries
  pub gives : (t : ℕ) → changed_at t changes entries ≡ changed_at t cs es

-- a tile whose pair has a place is listed
pub listed-at : (t : ℕ) (es : List (ℕ × Entry)) (o : Option ℕ) → IsRising es → is_some o ≡ true → IfSome o (λ p. IsPlaceOf t es p) → IsSome (found_at t es)
listed-at t es None r s p = absurd (cc)
listed-at t es (Some i) r s p =
    let none : ℕ × Entry = (0, record { form = Runs; length = 0; blocks = [] }) in
    ap is_some (sym (ap (λ u. found_at u es) (p.1 none)) ∙ found_of_place es i none r p.0)

-- the tile has what was written at the place of its pair
pub found-written : (t : ℕ) (xs : List (ℕ × Entry)) (i : ℕ) (y d : ℕ × Entry) → IsRising xs → i < length xs → (get_or xs i d).0 ≡ t → y.0 ≡ t → found_at t (set xs i y) ≡ Some y.1
found-written t [] i y d r l e f = absurd (omega arith)
found-written t (x ∷ xs) zero y d r l e f = let same : (t == y.0) ≡ true = grind (arith, nat_tests) in rw same refl
found-written t (x ∷ xs) (suc i) y d r l e f =
    let below : x.0 < (get_or xs i d).0 = r 0 (suc i) d (omega arith) (omega arith) in
    let other : (t == x.0) ≡ false = grind (arith, nat_tests) in
    rw other (found-written t xs i y d (λ j k g h m. r (suc j) (suc k) g (omega arith) (omega arith)) (omega arith) e f)

-- and the others have what they had
pub found-unwritten : (t s : ℕ) (xs : List (ℕ × Entry)) (i : ℕ) (y d : ℕ × Entry) → (get_or xs i d).0 ≡ s → y.0 ≡ s → t ≢ s → found_at t (set xs i y) ≡ found_at t xs
found-unwritten t s xs i y d e f n =
    let was : (t == (get_or xs i d).0) ≡ false = grind (arith, nat_tests) in
    let is : (t == y.0) ≡ false = grind (arith, nat_tests) in
    found_set_other (found_at t) (λ x. t == x.0) (λ x. Some x.1) None refl (λ _ _. refl) xs i y d was is

-- the last change may be made at once, whether or not the others list its tile too
changed-here : (t : ℕ) (changes : List (ℕ × Option Entry)) (e : Entry) (old new : Option Entry) → new ≡ Some e → unwrap_or (found_at t changes) new ≡ unwrap_or (found_at t (changes ++ (t, Some e) ∷ [])) old
changed-here t [] e old new h = let same : (t == t) ≡ true = grind (arith, nat_tests) in rw same h
changed-here t (x ∷ xs) e old new h = at (t == x.0) (changed-here t xs e old new h)
  where
    at : (b : Bool) → unwrap_or (found_at t xs) new ≡ unwrap_or (found_at t (xs ++ (t, Some e) ∷ [])) old → unwrap_or (cond b (Some x.1) (found_at t xs)) new ≡ unwrap_or (cond b (Some x.1) (found_at t (xs ++ (t, Some e) ∷ []))) old
    at true rest = refl
    at false rest = rest

changed-other : (t tile : ℕ) (changes : List (ℕ × Option Entry)) (e : Entry) (old new : Option Entry) → t ≢ tile → new ≡ old → unwrap_or (found_at t changes) new ≡ unwrap_or (found_at t (changes ++ (tile, Some e) ∷ [])) old
changed-other t tile changes e old new n h =
    let other = found-other t (tile, Some e) changes [] n ∙ ap (found_at t) (append-nil changes) in
    ap₂ (λ (o : Option (Option Entry)) (p : Option Entry). unwrap_or o p) (sym other) h

-- the last of the changes gives an entry
pub gives-entry : (es : List (ℕ × Entry)) (all changes : List (ℕ × Option Entry)) (x : ℕ × Option Entry) → all ≡ changes ++ x ∷ [] → AreExchanges all es → IsSome x.1
gives-entry es all changes x e a = (All-pop (λ (y : ℕ × Option Entry). IsSome y.1 × IsSome (found_at y.0 es)) all changes (Some x) e a).1.0

still-listed : (t tile : ℕ) (e : Entry) (entries new : List (ℕ × Entry)) → found_at tile new ≡ Some e → (t ≢ tile → found_at t new ≡ found_at t entries) → IsSome (found_at t entries) → IsSome (found_at t new)
still-listed t tile e entries new here others s =
    ⊎_elim (λ (q : t ≡ tile). ap is_some (ap (λ u. found_at u new) q ∙ here)) (λ (n : t ≢ tile). ap is_some (others n) ∙ s) (cases_eq t tile)

pub exchanging-step : (cs : List (ℕ × Option Entry)) (es : List (ℕ × Entry)) (all changes : List (ℕ × Option Entry)) (tile : ℕ) (e : Entry) (entries new : List (ℕ × Entry)) → all ≡ changes ++ (tile, Some e) ∷ [] → IsExchanging cs es all entries → found_at tile new ≡ Some e → ((t : ℕ) → t ≢ tile → found_at t new ≡ found_at t entries) → IsRising new → IsExchanging cs es changes new
exchanging-step cs es all changes tile e entries new popped m here others rising =
    let left = (All-pop (λ (y : ℕ × Option Entry). IsSome y.1 × IsSome (found_at y.0 entries)) all changes (Some (tile, Some e)) popped m.left).0 in
    record {
      left = λ k d l. let x = get_or changes k d in ((left k d l).0, still-listed x.0 tile e entries new here (others x.0) (left k d l).1);
      rising = rising;
      gives = λ t.
          let last : changed_at t changes new ≡ changed_at t (changes ++ (tile, Some e) ∷ []) entries =
          ⊎_elim
          (λ (q : t ≡ tile). rw q (changed-here tile changes e (found_at tile entries) (found_at tile new) here))
          (λ (n : t ≢ tile). changed-other t tile changes e (found_at t entries) (found_at t new) n (others t n))
          (cases_eq t tile) in
          last ∙ ap (λ xs. changed_at t xs entries) (sym popped) ∙ m.gives t;
    }
