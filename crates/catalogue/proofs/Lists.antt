-- Lists that are read value by value.
use Rattle.std.proofs.Common.{◌≡◌, ℕ, ◌+◌, ◌<◌, List, [], ◌∷◌, ◌++◌, length, flat_map, refl, sym, ap, ◌∙◌, subst, arith, append_assoc, append-nil, length-append}
use Rattle.std.proofs.lemmas.List.Elements.{All-contains, Contains-append_right}
use Rattle.file_bytes.specs.Codes.{IsRead, NoneIsRead}
use Rattle.catalogue.specs.Reading.{AreMany}
use Rattle.catalogue.proofs.Sequences.{Joins, read-both, none-first, none-second}
use Rattle.catalogue.proofs.Held.{contains_here}

-- Some values of a list were read: what is left and goes on to such a list makes one with them.
pub record ReadSoFar {X : Type 0} (V : List X → Type 0) (code : X → List ℕ) (bytes : List ℕ) (xs : List X) (left : List ℕ)
    (n : ℕ) : Type 0 where
  pub read : {ys : List X} {end : List ℕ} → IsRead (λ zs. V (xs ++ zs)) (flat_map code) left ys end
      → IsRead V (flat_map code) bytes (xs ++ ys) end
  pub none : NoneIsRead (λ zs. V (xs ++ zs)) (flat_map code) left → NoneIsRead V (flat_map code) bytes
  pub counted : length xs ≡ n

pub read-none : {X : Type 0} {V : List X → Type 0} {code : X → List ℕ} {bytes : List ℕ} {xs : List X} → xs ≡ []
    → ReadSoFar V code bytes xs bytes 0
read-none {V = V} {code} {bytes} e =
    subst (λ l. ReadSoFar V code bytes l bytes 0) (sym e) (record { read = λ r. r; none = λ r. r; counted = refl })

module _ {X : Type 0} {V : List X → Type 0} {code : X → List ℕ} {bytes left : List ℕ} {xs : List X} {n : ℕ}
    (s : ReadSoFar V code bytes xs left n) where
  -- such a list goes on with a value
  module _ {P : X → Type 0} (on : (zs : List X) → V (xs ++ zs) → (y : X) × (ys : List X) × P y × (zs ≡ y ∷ ys)) where
    following : Joins (λ zs. V (xs ++ zs)) (flat_map code) P code (λ y ys. V ((xs ++ y ∷ []) ++ ys)) (flat_map code) (λ y ys. y ∷ ys)
    following = record {
      apart = λ zs v.
          let o = on zs v in
          (o.0, o.1, o.2, subst V (ap (λ l. xs ++ l) o.3 ∙ sym (append_assoc xs (o.0 ∷ []) o.1)) v, o.3);
      whole = λ y ys p q. subst V (append_assoc xs (y ∷ []) ys) q;
      coded = λ y ys q. refl;
    }

    pub read-stops : NoneIsRead P code left → NoneIsRead V (flat_map code) bytes
    read-stops none = s.none (none-first following none)

    pub read-more : {x : X} {new : List ℕ} {all : List X} → IsRead P code left x new → all ≡ xs ++ x ∷ []
        → ReadSoFar V code bytes all new (n + 1)
    read-more {x} {new} r e = subst (λ l. ReadSoFar V code bytes l new (n + 1)) (sym e) (record {
      read = λ {ys} {end} t.
          subst (λ l. IsRead V (flat_map code) bytes l end) (sym (append_assoc xs (x ∷ []) ys)) (s.read (read-both following r t));
      none = λ t. s.none (none-second following r t);
      counted = omega (arith, length-append xs (x ∷ []), s.counted);
    })

  -- and ends
  pub read-all : ((zs : List X) → V (xs ++ zs) → zs ≡ []) → V xs → IsRead V (flat_map code) bytes xs left
  read-all ends v = subst (λ l. IsRead V (flat_map code) bytes l left) (append-nil xs) (s.read (record {
    value = rw append-nil v;
    front = refl;
    only = λ zs rest w e. (ends zs w, sym (e ∙ ap (λ l. flat_map code l ++ rest) (ends zs w)));
  }))

-- lists of so many values
module _ {X : Type 0} (P : X → Type 0) {V : List X → Type 0} {count : ℕ} (many : (zs : List X) → V zs → AreMany P count zs)
    (xs : List X) where
  pub goes-on : length xs < count → (zs : List X) → V (xs ++ zs) → (y : X) × (ys : List X) × P y × (zs ≡ y ∷ ys)
  goes-on h [] v = absurd (omega (arith, (many (xs ++ []) v).1, length-append xs []))
  goes-on h (y ∷ ys) v =
      let at = Contains-append_right xs (y ∷ ys) y (contains_here y ys) in
      (y, ys, All-contains P (xs ++ y ∷ ys) y (many (xs ++ y ∷ ys) v).0 at, refl)

  pub ends : length xs ≡ count → (zs : List X) → V (xs ++ zs) → zs ≡ []
  ends h [] v = refl
  ends h (y ∷ ys) v = absurd (omega (arith, (many (xs ++ y ∷ ys) v).1, length-append xs (y ∷ ys)))
