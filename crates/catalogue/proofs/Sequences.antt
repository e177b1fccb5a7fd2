-- What was read in parts.
use Rattle.std.proofs.Common.{◌≡◌, ℕ, List, [], ◌∷◌, ◌++◌, length, take, drop, Result, Ok, Err, refl, sym, ap, ◌∙◌, subst, append_assoc, append-nil}
use Rattle.std.proofs.Math.Seq.{take-append_seam, drop-append_seam}
use Rattle.std.specs.Result.{IsErrAnd, IsErrOf}
use Rattle.std.proofs.lemmas.List.{nil_from_length}
use Rattle.file_bytes.specs.Codes.{IsRead, NoneIsRead}
use Rattle.arr_core.specs.Names.{IsName}
use Rattle.catalogue.specs.Bytes.{name_bytes}
use Rattle.catalogue.specs.Reading.{Any}

-- where a `?` hands an error on, it is the error of the call
pub handed_on : {T U E : Type 0} {e d : E} (r : Result T E) → IsErrAnd r (λ y. y ≡ e) → r ≡ Err d → IsErrOf {T = U} (Err e) d
handed_on (Ok x) p h = absurd p
handed_on (Err y) p h = cc

-- values that are joined of two parts, whose codes follow one another; the first says what the second may be
pub record Joins {X A B : Type 0} (V : X → Type 0) (code : X → List ℕ) (P : A → Type 0) (f : A → List ℕ)
    (Q : A → B → Type 0) (g : B → List ℕ) (join : A → B → X) : Type 0 where
  pub apart : (x : X) → V x → (a : A) × (b : B) × P a × Q a b × (x ≡ join a b)
  pub whole : (a : A) (b : B) → P a → Q a b → V (join a b)
  pub coded : (a : A) (b : B) → Q a b → code (join a b) ≡ f a ++ g b

module _ {X A B : Type 0} {V : X → Type 0} {code : X → List ℕ} {P : A → Type 0} {f : A → List ℕ} {Q : A → B → Type 0}
    {g : B → List ℕ} {join : A → B → X} (j : Joins V code P f Q g join) {bytes : List ℕ} where
  opened : (y : X) (rest : List ℕ) → V y → bytes ≡ code y ++ rest
      → (a : A) × (b : B) × P a × Q a b × (y ≡ join a b) × (bytes ≡ f a ++ (g b ++ rest))
  opened y rest v e =
      let p = j.apart y v in
      let c : code y ≡ f p.0 ++ g p.1 = ap code p.4 ∙ j.coded p.0 p.1 p.3 in
      (p.0, p.1, p.2, p.3, p.4, e ∙ ap (λ l. l ++ rest) c ∙ append_assoc (f p.0) (g p.1) rest)

  pub none-first : NoneIsRead P f bytes → NoneIsRead V code bytes
  none-first none y rest v e = let o = opened y rest v e in none o.0 (g o.1 ++ rest) o.2 o.5

  module _ {a : A} {mid : List ℕ} (r : IsRead P f bytes a mid) where
    next : (y : X) (rest : List ℕ) → V y → bytes ≡ code y ++ rest
        → (b : B) × Q a b × (y ≡ join a b) × (mid ≡ g b ++ rest)
    next y rest v e =
        let o = opened y rest v e in
        let one = r.only o.0 (g o.1 ++ rest) o.2 o.5 in
        (o.1, subst (λ c. Q c o.1) one.0 o.3, o.4 ∙ ap (λ c. join c o.1) one.0, sym one.1)

    pub none-second : NoneIsRead (Q a) g mid → NoneIsRead V code bytes
    none-second none y rest v e = let n = next y rest v e in none n.0 rest n.1 n.3

    pub read-both : {b : B} {left : List ℕ} → IsRead (Q a) g mid b left → IsRead V code bytes (join a b) left
    read-both {b} {left} s = record {
      value = j.whole a b r.value s.value;
      front = r.front ∙ ap (λ l. f a ++ l) s.front ∙ sym (append_assoc (f a) (g b) left)
          ∙ ap (λ l. l ++ left) (sym (j.coded a b s.value));
      only = λ y rest w e.
          let n = next y rest w e in
          let two = s.only n.0 rest n.1 n.3 in
          (n.2 ∙ ap (join a) two.0, two.1);
    }

-- pairs
abbrev pub Pairs : {A B : Type 0} → (A → Type 0) → (A → List ℕ) → (A → B → Type 0) → (B → List ℕ) → Type 0
Pairs {A} {B} P f Q g = Joins (λ (p : A × B). P p.0 × Q p.0 p.1) (λ p. f p.0 ++ g p.1) P f Q g (λ a b. (a, b))

pub pairs : {A B : Type 0} (P : A → Type 0) (f : A → List ℕ) (Q : A → B → Type 0) (g : B → List ℕ) → Pairs P f Q g
pairs P f Q g = record { apart = λ p v. (p.0, p.1, v.0, v.1, refl); whole = λ a b v w. (v, w); coded = λ a b v. refl }

-- so many bytes
pub read-taken : {bytes left text : List ℕ} {n : ℕ} → length text ≡ n → bytes ≡ text ++ left
    → IsRead (λ t. Any t × (length t ≡ n)) (λ t. t) bytes text left
read-taken {left = left} {text} l e = record {
  value = (tt, l);
  front = e;
  only = λ y rest w q.
      let same : length text ≡ length y = l ∙ sym w.1 in
      let both : text ++ left ≡ y ++ rest = sym e ∙ q in (
        sym (take-append_seam y rest) ∙ ap (take (length y)) (sym both) ∙ (rw (← same) (take-append_seam text left)),
        sym (drop-append_seam y rest) ∙ ap (drop (length y)) (sym both) ∙ (rw (← same) (drop-append_seam text left)),
      );
}

-- a name behind its length
pub read_named : {bytes after left text : List ℕ} {n : ℕ} → bytes ≡ n ∷ after → length text ≡ n → after ≡ text ++ left
    → IsName text → IsRead IsName name_bytes bytes text left
read_named e l p named = record {
  value = named;
  front = cc;
  only = λ y rest w q. (read-taken l p).only y rest (tt, cc) (cc);
}

-- all of the bytes
module _ {X : Type 0} {V : X → Type 0} {code : X → List ℕ} {bytes left : List ℕ} {x : X} (r : IsRead V code bytes x left) where
  pub whole-only : (y : X) → V y → bytes ≡ code y → (y ≡ x) × ([] ≡ left)
  whole-only y w e = r.only y [] w (e ∙ sym (append-nil (code y)))

  pub whole-read : length left ≡ 0 → bytes ≡ code x
  whole-read h = r.front ∙ ap (λ l. code x ++ l) (nil_from_length left h) ∙ append-nil (code x)
