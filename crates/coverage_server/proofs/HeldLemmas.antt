-- What is held for jobs: what stays of it, how it grows and shrinks, and what is found there.
use Rattle.std.proofs.Common.{◌≡◌, ℕ, zero, suc, ◌+◌, ◌≤◌, nat_eq, Bool, true, false, List, [], ◌∷◌, ◌++◌, map, None, Some, refl, sym, ap, ◌∙◌, subst, arith}
use Rattle.std.specs.Prelude.{IsSomeAnd, All, slice_get}
use Rattle.std.proofs.lemmas.Bool.{eqb-true, eq-eqb}
use Rattle.std.proofs.lemmas.List.Sums.{sum_by-cons, sum_by_push}
use Rattle.arr_core.specs.declared.signature.Signature.{Signature}
use Rattle.arr_core.specs.Stores.{Coverage, Store, found}
use Rattle.std.specs.Str.{bytes_eq}
use Rattle.raster_store.specs.Views.{Index, SnapshotView, AreIntact, listed_fields, listed_all, listed_snapshots}
use Rattle.raster_store.specs.Calls.{signature_of, AreSameSignatures}
use Rattle.raster_store.specs.Snapshots.{held_for, without_job, AreCopied, AreIntactSnapshots, AreSameSnapshots}
use Rattle.raster_store.proofs.Totals.{listed_all-nil, listed_all-cons}
use Rattle.coverage_server.specs.Holding.{AreHeldOnce}
use Rattle.coverage_server.specs.Views.{IsHeld}

-- ---- how often it lists a block

lists-nil : (k : ℕ) → listed_snapshots [] k ≡ 0
unfolding listed_snapshots
lists-nil k = refl

pub lists-cons : (x : SnapshotView) (xs : List SnapshotView) (k : ℕ)
    → listed_snapshots (x ∷ xs) k ≡ listed_all x.indexes k + listed_snapshots xs k
unfolding listed_snapshots
lists-cons x xs k = sum_by-cons (λ (y : SnapshotView). listed_all y.indexes k) x xs

pub lists_push : (xs : List SnapshotView) (x : SnapshotView) (k : ℕ) → listed_snapshots (xs ++ x ∷ []) k ≡ listed_snapshots xs k + listed_all x.indexes k
unfolding listed_snapshots
lists_push xs x k = sum_by_push (λ (y : SnapshotView). listed_all y.indexes k) xs x

pub lists_none : (k : ℕ) → listed_snapshots [] k ≡ 0
lists_none k = lists-nil k

pub lists_left : (n : ℕ) (xs : List SnapshotView) (k : ℕ) → listed_snapshots (without_job n xs) k ≤ listed_snapshots xs k
lists_left n [] k = omega arith
lists_left n (x ∷ xs) k = by_test (nat_eq x.job n) refl (lists_left n xs k)
  where
    by_test : (b : Bool) → nat_eq x.job n ≡ b → listed_snapshots (without_job n xs) k ≤ listed_snapshots xs k
        → listed_snapshots (without_job n (x ∷ xs)) k ≤ listed_snapshots (x ∷ xs) k
    by_test true t less = rw t (omega (arith, lists-cons x xs k))
    by_test false t less = rw t (omega (arith, less, lists-cons x xs k, lists-cons x (without_job n xs) k))

-- what is picked lists no block that the indexes do not list
at_place : (indexes : List (List Index)) (place : ℕ) (i : List Index) (k : ℕ) → slice_get indexes place ≡ Some i → listed_fields i k ≤ listed_all indexes k
at_place [] place i k e = absurd cc
at_place (j ∷ indexes) zero i k e = let same : j ≡ i = cc in rw (← same) (omega (arith, listed_all-cons k j indexes))
at_place (j ∷ indexes) (suc place) i k e = omega (arith, at_place indexes place i k e, listed_all-cons k j indexes)

pub copied_lists : (coverages : Store) (indexes : List (List Index)) (picked : Store) (chosen : List (List Index)) (k : ℕ) → AreCopied coverages indexes picked chosen
    → 1 ≤ listed_all chosen k → 1 ≤ listed_all indexes k
copied_lists coverages indexes [] [] k p some = absurd (omega (arith, some, listed_all-nil k))
copied_lists coverages indexes [] (i ∷ chosen) k p some = absurd p
copied_lists coverages indexes (c ∷ picked) [] k p some = absurd p
copied_lists coverages indexes (c ∷ picked) (i ∷ chosen) k p some = by_first (λ more. copied_lists coverages indexes picked chosen k p.1 more) (listed_fields i k) refl
  where
    by_first : (1 ≤ listed_all chosen k → 1 ≤ listed_all indexes k) → (n : ℕ) → listed_fields i k ≡ n → 1 ≤ listed_all indexes k
    by_first rest zero e = rest (omega (arith, some, e, listed_all-cons k i chosen))
    by_first rest (suc n) e = omega (arith, e, at_place indexes p.0.0 i k p.0.2)

-- ---- what stays as it is but for its values

pub same_snapshots : (xs : List SnapshotView) → AreSameSnapshots xs xs
same_snapshots [] = tt
same_snapshots (x ∷ xs) = (refl, refl, refl, same_snapshots xs)

pub same_after : (xs ys zs : List SnapshotView) → AreSameSnapshots xs ys → AreSameSnapshots ys zs → AreSameSnapshots xs zs
same_after [] [] [] s t = tt
same_after [] [] (z ∷ zs) s t = absurd t
same_after [] (y ∷ ys) zs s t = absurd s
same_after (x ∷ xs) [] zs s t = absurd s
same_after (x ∷ xs) (y ∷ ys) [] s t = absurd t
same_after (x ∷ xs) (y ∷ ys) (z ∷ zs) s t = (t.0 ∙ s.0, t.1 ∙ s.1, t.2 ∙ s.2, same_after xs ys zs s.3 t.3)

pub same_lists : (xs ys : List SnapshotView) (k : ℕ) → AreSameSnapshots xs ys → listed_snapshots ys k ≡ listed_snapshots xs k
same_lists [] [] k s = refl
same_lists [] (y ∷ ys) k s = absurd s
same_lists (x ∷ xs) [] k s = absurd s
same_lists (x ∷ xs) (y ∷ ys) k s =
    let one = ap (λ (i : List (List Index)). listed_all i k) s.2 in
    omega (arith, one, lists-cons x xs k, lists-cons y ys k, same_lists xs ys k s.3)

pub same_jobs : (xs ys : List SnapshotView) → AreSameSnapshots xs ys → map (λ (x : SnapshotView). x.job) ys ≡ map (λ (x : SnapshotView). x.job) xs
same_jobs [] [] s = refl
same_jobs [] (y ∷ ys) s = absurd s
same_jobs (x ∷ xs) [] s = absurd s
same_jobs (x ∷ xs) (y ∷ ys) s = rw (s.0, same_jobs xs ys s.3) refl

-- coverages with the same signatures
same_found : (n : List ℕ) (s : Signature) (old new : Store) → AreSameSignatures old new → IsSomeAnd (found n old) (λ c. signature_of c ≡ s)
    → IsSomeAnd (found n new) (λ c. signature_of c ≡ s)
same_found n s [] [] same h = absurd h
same_found n s [] (d ∷ new) same h = absurd h
same_found n s (c ∷ old) [] same h = absurd cc
same_found n s (c ∷ old) (d ∷ new) same h =
    let one : signature_of d ≡ signature_of c = cc in
    let rest : AreSameSignatures old new = cc in
    let name : d.name ≡ c.name = ap (λ (t : Signature). t.name) one in
    by_test (bytes_eq c.name n) refl one name (λ k. same_found n s old new rest k) h
  where
    by_test : (b : Bool) → bytes_eq c.name n ≡ b → signature_of d ≡ signature_of c → d.name ≡ c.name
        → (IsSomeAnd (found n old) (λ e. signature_of e ≡ s) → IsSomeAnd (found n new) (λ e. signature_of e ≡ s))
        → IsSomeAnd (found n (c ∷ old)) (λ e. signature_of e ≡ s) → IsSomeAnd (found n (d ∷ new)) (λ e. signature_of e ≡ s)
    by_test true t one name later h =
        let u : bytes_eq d.name n ≡ true = rw name t in
        let is : signature_of c ≡ s = rw t at h in rw u (one ∙ is)
    by_test false t one name later h =
        let u : bytes_eq d.name n ≡ false = rw name t in
        rw u (later (rw t at h))

pub same_held : (old new : Store) (cs : List Signature) → AreSameSignatures old new → All (IsHeld old) cs → All (IsHeld new) cs
same_held old new cs same held = λ k d l. same_found _ _ old new same (held k d l)

names_told : (store : Store) → map (λ (c : Coverage). c.name) store ≡ map (λ (s : Signature). s.name) (map signature_of store)
names_told [] = refl
names_told (c ∷ store) = ap (λ (l : List (List ℕ)). c.name ∷ l) (names_told store)

pub same_once : (cs : List Signature) (x y : SnapshotView) → AreSameSignatures x.coverages y.coverages → AreHeldOnce x cs → AreHeldOnce y cs
same_once cs x y same h = record {
  held = same_held x.coverages y.coverages cs same h.held;
  once = names_told y.coverages ∙ ap (map (λ (s : Signature). s.name)) same ∙ sym (names_told x.coverages) ∙ h.once;
}

pub same_for : (n : ℕ) (cs : List Signature) (xs ys : List SnapshotView) → AreSameSnapshots xs ys → IsSomeAnd (held_for n xs) (λ x. AreHeldOnce x cs)
    → IsSomeAnd (held_for n ys) (λ x. AreHeldOnce x cs)
same_for n cs [] [] s h = absurd h
same_for n cs [] (y ∷ ys) s h = absurd s
same_for n cs (x ∷ xs) [] s h = absurd s
same_for n cs (x ∷ xs) (y ∷ ys) s h = by_test (nat_eq x.job n) refl (λ k. same_for n cs xs ys s.3 k) h
  where
    by_test : (b : Bool) → nat_eq x.job n ≡ b
        → (IsSomeAnd (held_for n xs) (λ x. AreHeldOnce x cs) → IsSomeAnd (held_for n ys) (λ x. AreHeldOnce x cs))
        → IsSomeAnd (held_for n (x ∷ xs)) (λ x. AreHeldOnce x cs) → IsSomeAnd (held_for n (y ∷ ys)) (λ x. AreHeldOnce x cs)
    by_test true t later h =
        let u : nat_eq y.job n ≡ true = rw s.0 t in
        let here : AreHeldOnce x cs = rw t at h in rw u (same_once cs x y s.1 here)
    by_test false t later h =
        let u : nat_eq y.job n ≡ false = rw s.0 t in
        rw u (later (rw t at h))

-- ---- whose tiles are spelled

pub intact_push : (content : List ℕ) (xs : List SnapshotView) (x : SnapshotView) → AreIntactSnapshots content xs → AreIntact content x.coverages x.indexes
    → AreIntactSnapshots content (xs ++ x ∷ [])
intact_push content [] x all one = (one, tt)
intact_push content (y ∷ xs) x all one = (all.0, intact_push content xs x all.1 one)

pub intact_left : (content : List ℕ) (n : ℕ) (xs : List SnapshotView) → AreIntactSnapshots content xs → AreIntactSnapshots content (without_job n xs)
intact_left content n [] all = tt
intact_left content n (x ∷ xs) all = by_test (nat_eq x.job n) refl (intact_left content n xs all.1)
  where
    by_test : (b : Bool) → nat_eq x.job n ≡ b → AreIntactSnapshots content (without_job n xs) → AreIntactSnapshots content (without_job n (x ∷ xs))
    by_test true t later = rw t all.1
    by_test false t later = rw t (all.0, later)

pub intact_for : (content : List ℕ) (n : ℕ) (xs : List SnapshotView) (x : SnapshotView) → AreIntactSnapshots content xs → held_for n xs ≡ Some x → AreIntact content x.coverages x.indexes
intact_for content n [] x all e = absurd cc
intact_for content n (y ∷ xs) x all e = by_test (nat_eq y.job n) refl (λ k. intact_for content n xs x all.1 k)
  where
    by_test : (b : Bool) → nat_eq y.job n ≡ b → (held_for n xs ≡ Some x → AreIntact content x.coverages x.indexes) → AreIntact content x.coverages x.indexes
    by_test true t later =
        let here : Some y ≡ Some x = rw t at e in
        let same : y ≡ x = cc in subst (λ (z : SnapshotView). AreIntact content z.coverages z.indexes) same all.0
    by_test false t later = later (rw t at e)

-- ---- what is found

-- what is found for a number is found still
abbrev pub Finds : ℕ → List SnapshotView → List SnapshotView → Type 1
Finds n xs ys = (P : SnapshotView → Type 0) → IsSomeAnd (held_for n xs) P → IsSomeAnd (held_for n ys) P

pub finds_same : (n : ℕ) (xs : List SnapshotView) → Finds n xs xs
finds_same n xs P h = h

pub finds_push : (n : ℕ) (xs ys : List SnapshotView) → Finds n xs (xs ++ ys)
finds_push n [] ys P h = absurd h
finds_push n (x ∷ xs) ys P h = by_test (nat_eq x.job n) refl (λ k. finds_push n xs ys P k) h
  where
    by_test : (b : Bool) → nat_eq x.job n ≡ b → (IsSomeAnd (held_for n xs) P → IsSomeAnd (held_for n (xs ++ ys)) P)
        → IsSomeAnd (held_for n (x ∷ xs)) P → IsSomeAnd (held_for n ((x ∷ xs) ++ ys)) P
    by_test true t later h = rw t (rw t at h)
    by_test false t later h = rw t (later (rw t at h))

pub finds_left : (m n : ℕ) (xs : List SnapshotView) → nat_eq m n ≡ false → Finds m xs (without_job n xs)
finds_left m n [] other P h = absurd h
finds_left m n (x ∷ xs) other P h = by_test (nat_eq x.job n) refl (nat_eq x.job m) refl (λ k. finds_left m n xs other P k) h
  where
    same_number : nat_eq x.job n ≡ true → nat_eq x.job m ≡ true → ⊥
    same_number a b =
        let e : m ≡ n = sym (eqb-true x.job m b) ∙ eqb-true x.job n a in
        let f : nat_eq m n ≡ true = eq-eqb m n e in absurd cc

    by_test : (b : Bool) → nat_eq x.job n ≡ b → (d : Bool) → nat_eq x.job m ≡ d → (IsSomeAnd (held_for m xs) P → IsSomeAnd (held_for m (without_job n xs)) P)
        → IsSomeAnd (held_for m (x ∷ xs)) P → IsSomeAnd (held_for m (without_job n (x ∷ xs))) P
    by_test true t true u later h = absurd (same_number t u)
    by_test true t false u later h = rw t (rw u at h)
    by_test false t true u later h = rw t (rw u (rw u at h))
    by_test false t false u later h = rw t (rw u (later (rw u at h)))

pub found_last : (n : ℕ) (xs : List SnapshotView) (x : SnapshotView) → held_for n xs ≡ None → x.job ≡ n → held_for n (xs ++ x ∷ []) ≡ Some x
found_last n [] x none is = let t : nat_eq x.job n ≡ true = eq-eqb x.job n is in rw t refl
found_last n (y ∷ xs) x none is = by_test (nat_eq y.job n) refl (λ k. found_last n xs x k is)
  where
    by_test : (b : Bool) → nat_eq y.job n ≡ b → (held_for n xs ≡ None → held_for n (xs ++ x ∷ []) ≡ Some x) → held_for n ((y ∷ xs) ++ x ∷ []) ≡ Some x
    by_test true t later = let some : Some y ≡ None = rw t at none in absurd cc
    by_test false t later = rw t (later (rw t at none))
