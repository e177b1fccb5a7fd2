-- The indexes of one coverage after another.
use Rattle.std.proofs.Common.{◌≡◌, ℕ, ◌<◌, ◌≤◌, List, [], ◌∷◌, ◌++◌, length, get_or, refl, ap, ◌∙◌, arith, All}
use Rattle.std.proofs.lemmas.List.Elements.{All-head, All-tail, All-cons, All-nil}
use Rattle.arr_core.specs.declared.signature.Signature.{Signature}
use Rattle.tile_index.specs.declared.entry.Entry.{Entry}
use Rattle.tile_index.specs.Entries.{AreOf}
use Rattle.file_bytes.specs.declared.form.Version.{Version}
use Rattle.catalogue.specs.Reading.{AreMany}
use Rattle.metadata.specs.Metadata.{AreCounted}
use Rattle.metadata.specs.Parts.{IsIndexIn, AreCountedIn}

abbrev pub Index : Type 0
Index = List (ℕ × Entry)

-- one coverage more
pub counted-push : (v : Version) (signatures : List Signature) (indexes : List (List Index)) (s : Signature) (x : List Index)
    → AreCountedIn v signatures indexes → AreMany (IsIndexIn v) (length s.fields) x → AreCountedIn v (signatures ++ s ∷ []) (indexes ++ x ∷ [])
counted-push v [] [] s x c h = (h.1, h.0, tt)
counted-push v [] (i ∷ indexes) s x c h = absurd c
counted-push v (t ∷ signatures) [] s x c h = absurd c
counted-push v (t ∷ signatures) (i ∷ indexes) s x c h = (c.0, c.1, counted-push v signatures indexes s x c.2 h)

-- the next coverage has indexes
pub counted-on : (v : Version) (signatures : List Signature) (xs : List (List Index)) (s : Signature) → length xs < length signatures
    → get_or signatures (length xs) s ≡ s → (zs : List (List Index)) → AreCountedIn v signatures (xs ++ zs)
    → (y : List Index) × (ys : List (List Index)) × AreMany (IsIndexIn v) (length s.fields) y × (zs ≡ y ∷ ys)
counted-on v [] xs s h is zs c = absurd (omega arith)
counted-on v (t ∷ signatures) [] s h is [] c = absurd c
counted-on v (t ∷ signatures) [] s h is (y ∷ ys) c = (y, ys, (c.1, c.0 ∙ ap (λ (u : Signature). length u.fields) is), refl)
counted-on v (t ∷ signatures) (x ∷ xs) s h is zs c = counted-on v signatures xs s (omega arith) is zs c.2

-- and after the last one no others follow
pub counted-ends : (v : Version) (signatures : List Signature) (xs : List (List Index)) → length signatures ≤ length xs
    → (zs : List (List Index)) → AreCountedIn v signatures (xs ++ zs) → zs ≡ []
counted-ends v [] [] h [] c = refl
counted-ends v [] [] h (z ∷ zs) c = absurd c
counted-ends v [] (x ∷ xs) h zs c = absurd c
counted-ends v (t ∷ signatures) [] h zs c = absurd (omega arith)
counted-ends v (t ∷ signatures) (x ∷ xs) h zs c = counted-ends v signatures xs (omega arith) zs c.2

-- forms of the fields of each coverage
abbrev pub AreAllOf : Version → List (List Index) → Type 0
AreAllOf v indexes = All (λ (fields : List Index). All (AreOf v) fields) indexes

-- indexes of a version are indexes, and those of the version are they alone
pub counted-in : (v : Version) (signatures : List Signature) (indexes : List (List Index)) → AreCounted signatures indexes → AreAllOf v indexes → AreCountedIn v signatures indexes
counted-in v [] [] c a = tt
counted-in v [] (i ∷ indexes) c a = absurd c
counted-in v (s ∷ signatures) [] c a = absurd c
counted-in v (s ∷ signatures) (i ∷ indexes) c a =
    let one = All-head (All (AreOf v)) i indexes a in
    (c.0, (λ k d l. (c.1 k d l, one k d l)), counted-in v signatures indexes c.2 (All-tail (All (AreOf v)) i indexes a))

pub counted-out : (v : Version) (signatures : List Signature) (indexes : List (List Index)) → AreCountedIn v signatures indexes → AreCounted signatures indexes × AreAllOf v indexes
counted-out v [] [] c = (tt, All-nil (All (AreOf v)))
counted-out v [] (i ∷ indexes) c = absurd c
counted-out v (s ∷ signatures) [] c = absurd c
counted-out v (s ∷ signatures) (i ∷ indexes) c =
    let rest = counted-out v signatures indexes c.2 in
    ((c.0, (λ k d l. (c.1 k d l).0), rest.0), All-cons (All (AreOf v)) i indexes (λ k d l. (c.1 k d l).1) rest.1)
