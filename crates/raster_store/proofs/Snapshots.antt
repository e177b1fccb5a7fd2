-- What is held for jobs: what changes of blocks leave of it, how it grows and shrinks, and what is found there.
use Rattle.std.proofs.Common.{◌≡◌, ℕ, zero, suc, ◌+◌, ◌<◌, ◌≤◌, nat_eq, Bool, true, false, cond, List, [], ◌∷◌, ◌++◌, length, get_or, take, drop, refl, sym, ap, ◌∙◌, arith, inl, inr, All, IsTrue, flat_map, Some, None, position, Result, Ok, Err, OnOk, OnErr}
use Rattle.std.specs.Prelude.{ℤ, slice_get, IsSomeAnd, option_map}
use Rattle.std.specs.List.{remove, position_or_len}
use Rattle.std.proofs.lemmas.Bool.{cases_lt, lt-ltb}
use Rattle.std.proofs.lemmas.List.Elements.{All-head, All-tail, All-cons, All-push, All-append, All-take, All-drop, recursion_from_All}
use Rattle.std.proofs.lemmas.List.Quantifiers.{position-Some}
use Rattle.std.proofs.lemmas.List.Sums.{sum_by-cons, sum_by_push, sum_by_more, sum_by-remove, sum_by-take-le, fails_before_first}
use Rattle.std.proofs.lemmas.List.Concat.{flat_map-cons}
use Rattle.std.proofs.lemmas.Option.{slice_get-map, slice_get_read}
use Rattle.block_file.specs.State.{BlocksState, block, none, times}
use Rattle.block_file.specs.Words.{OnlyReads, Recounts, Moves, OnlyHeader, Covers}
use Rattle.block_file.proofs.Times.{times_none, times_append}
use Rattle.tile_index.specs.declared.entry.Entry.{Entry}
use Rattle.tile_store.specs.Listing.{listed}
use Rattle.arr_core.specs.declared.domain.Axis.{Axis}
use Rattle.raster_store.specs.declared.held.Held.{Held}
use Rattle.raster_store.specs.declared.snapshot.Snapshot.{Snapshot}
use Rattle.raster_store.specs.Views.{Index, SnapshotView, RasterView, listed_fields, listed_all, listed_snapshots}
use Rattle.raster_store.specs.Words.{Writes, Stays}
use Rattle.raster_store.specs.Holding.{coverages_of, indexes_of, IsHeld, NoneNamed, snapshot_of, snapshots_of, listed_held, NoneHeld, IsHeldAt, AreSnapshots}
use Rattle.raster_store.specs.Snapshots.{held_for, without_job, AreNames, AreSameSnapshots, AreIntactSnapshots}
use Rattle.raster_store.proofs.Contents.{KeepsAll, store_kept, found_none}
use Rattle.raster_store.proofs.Totals.{sums}
use Rattle.raster_store.proofs.Writes.{same_signatures}

-- ---- sums

pub listed_held-nil : (k : ℕ) → listed_held [] k ≡ 0
unfolding listed_held
listed_held-nil k = refl

pub listed_held-cons : (x : Snapshot) (xs : List Snapshot) (k : ℕ) → listed_held (x ∷ xs) k ≡ listed_all (indexes_of x.coverages.items) k + listed_held xs k
unfolding listed_held
listed_held-cons x xs k = sum_by-cons (λ (y : Snapshot). listed_all (indexes_of y.coverages.items) k) x xs

pub listed_held_push : (xs : List Snapshot) (x : Snapshot) (k : ℕ) → listed_held (xs ++ x ∷ []) k ≡ listed_held xs k + listed_all (indexes_of x.coverages.items) k
unfolding listed_held
listed_held_push xs x k = sum_by_push (λ (y : Snapshot). listed_all (indexes_of y.coverages.items) k) xs x

pub listed_held-remove : (xs : List Snapshot) (i : ℕ) (x : Snapshot) (k : ℕ) → i < length xs → x ≡ get_or xs i x → listed_held (remove xs i) k + listed_all (indexes_of x.coverages.items) k ≡ listed_held xs k
unfolding listed_held
listed_held-remove xs i x k h is =
    let F : Snapshot → ℕ = λ (y : Snapshot). listed_all (indexes_of y.coverages.items) k in
    omega (arith, ap F is, sum_by-remove F xs i x h)

-- as callers see them
pub listed_of : (content : List ℕ) (xs : List Snapshot) (k : ℕ) → listed_snapshots (snapshots_of content xs) k ≡ listed_held xs k
unfolding listed_snapshots listed_held
listed_of content [] k = refl
listed_of content (x ∷ xs) k =
    omega (arith, sum_by-cons (λ (y : SnapshotView). listed_all y.indexes k) (snapshot_of content x) (snapshots_of content xs), sum_by-cons (λ (y : Snapshot). listed_all (indexes_of y.coverages.items) k) x xs, listed_of content xs k)

-- ---- changes of blocks

-- The uses of the store's own became others, and each whole block in use beyond them holds what it held.
pub record Passes (own own' : ℕ → ℕ) (s s' : BlocksState) : Type 0 where
  pub uses : (k : ℕ) → s'.uses k + own k ≡ s.uses k + own' k
  pub kept : IsTrue s.honest → (k : ℕ) → own k < s.uses k → length (block s k) ≡ 4096 → block s' k ≡ block s k
  pub honest : s'.honest ≡ s.honest

pub passes_moves : (own own' : ℕ → ℕ) (s s' : BlocksState) → Moves own own' s s' → Passes own own' s s'
passes_moves own own' s s' m = record { uses = m.uses; kept = λ sure. m.kept; honest = m.honest }

pub passes_none : (own : ℕ → ℕ) (s s' : BlocksState) → Moves none none s s' → Passes own own s s'
passes_none own s s' m = record { uses = λ k. omega (arith, m.uses k); kept = λ sure k more. m.kept k (omega (arith, more)); honest = m.honest }

pub passes_reads : {asked : ℕ → ℕ} (own : ℕ → ℕ) (s s' : BlocksState) → OnlyReads asked s s' → Passes own own s s'
passes_reads own s s' r = record { uses = λ k. rw r.uses refl; kept = λ sure k more whole. rw r.content refl; honest = r.honest }

pub passes_same : (own : ℕ → ℕ) (s : BlocksState) → Passes own own s s
passes_same own s = record { uses = λ k. refl; kept = λ sure k more whole. refl; honest = refl }

pub passes_recounts : (own own' : ℕ → ℕ) (s s' : BlocksState) → Recounts own own' s s' → Passes own own' s s'
passes_recounts own own' s s' r = record { uses = r.uses; kept = λ sure k more whole. rw r.content refl; honest = r.honest }

pub passes_header : (own : ℕ → ℕ) (s s' : BlocksState) → OnlyHeader s s' → Passes own own s s'
passes_header own s s' only = record {
  uses = λ k. rw only.uses refl;
  kept = λ sure k more whole. only.others sure k (λ e. absurd (let n : s.uses k ≡ 0 = rw e only.unused in omega (arith, more, n))) whole;
  honest = only.honest;
}

-- done or refused, a write passes
pub passes_wrote : {B T E : Type 0} (state : B → BlocksState) (r : Result T E) (name : List ℕ) (field : ℕ) (area : List Axis) (numbers : List ℤ) (catalogue : ℕ) (old new : RasterView B) → OnOk r (Writes state name field area numbers catalogue old new) → OnErr r (Stays state old new)
    → Passes (listed_all old.indexes) (listed_all new.indexes) (state old.blocks) (state new.blocks)
passes_wrote state (Ok t) name field area numbers catalogue old new done same = passes_moves _ _ _ _ done.moves
passes_wrote state (Err e) name field area numbers catalogue old new done same = rw same.same.indexes (passes_none _ _ _ same.moves)

-- a store whose blocks are counted, and hold what they held
pub held_moved : (s s' : BlocksState) (held : List Held) → IsHeld s held → Covers s' (listed_all (indexes_of held)) → s'.honest ≡ s.honest → (IsTrue s.honest → KeepsAll (indexes_of held) s.content s'.content) → IsHeld s' held
held_moved s s' held is covers honest kept = record {
  each = is.each;
  apart = is.apart;
  counted = covers;
  whole = λ sure k some. (let before = rw honest at sure in rw (kept before k some) (is.whole before k some));
}

-- one of the stores that are held
one_kept : (own own' : ℕ → ℕ) (s s' : BlocksState) (x : List Held) → Passes own own' s s' → IsHeld s x → ((k : ℕ) → own k + listed_all (indexes_of x) k ≤ s.uses k)
    → (IsTrue s.honest → KeepsAll (indexes_of x) s.content s'.content) × IsHeld s' x
one_kept own own' s s' x p is covers =
    let kept : IsTrue s.honest → KeepsAll (indexes_of x) s.content s'.content = λ sure k some. p.kept sure k (omega (arith, some, covers k)) (is.whole sure k some) in
    (kept, held_moved s s' x is (λ k. omega (arith, covers k, p.uses k)) p.honest kept)

-- all that is held stays
pub record Stay (s s' : BlocksState) (xs : List Snapshot) : Type 0 where
  pub each : All (λ (x : Snapshot). IsHeld s' x.coverages.items) xs
  pub keeps : All (λ (x : Snapshot). IsTrue s.honest → KeepsAll (indexes_of x.coverages.items) s.content s'.content) xs
  pub told : AreSameSnapshots (snapshots_of s.content xs) (snapshots_of s'.content xs)
  pub values : IsTrue s.honest → snapshots_of s'.content xs ≡ snapshots_of s.content xs
  pub intact : IsTrue s.honest → AreIntactSnapshots s.content (snapshots_of s.content xs) → AreIntactSnapshots s'.content (snapshots_of s'.content xs)

stay : (own own' : ℕ → ℕ) (s s' : BlocksState) (xs : List Snapshot) → Passes own own' s s' → All (λ (x : Snapshot). IsHeld s x.coverages.items) xs → ((k : ℕ) → own k + listed_held xs k ≤ s.uses k) → Stay s s' xs
stay own own' s s' [] p each covers = record { each = λ k d l. absurd (omega arith); keeps = λ k d l. absurd (omega arith); told = tt; values = λ sure. refl; intact = λ sure i. tt }
stay own own' s s' (x ∷ xs) p each covers =
    let is = λ (y : Snapshot). IsHeld s y.coverages.items in
    let held = x.coverages.items in
    let here = one_kept own own' s s' held p (All-head is x xs each) (λ k. omega (arith, covers k, listed_held-cons x xs k)) in
    let rest = stay own own' s s' xs p (All-tail is x xs each) (λ k. omega (arith, covers k, listed_held-cons x xs k)) in
    record {
      each = All-cons (λ (y : Snapshot). IsHeld s' y.coverages.items) x xs here.1 rest.each;
      keeps = All-cons (λ (y : Snapshot). IsTrue s.honest → KeepsAll (indexes_of y.coverages.items) s.content s'.content) x xs here.0 rest.keeps;
      told = (refl, same_signatures s.content s'.content held held refl, refl, rest.told);
      values = λ sure. rw ((store_kept s.content s'.content held (here.0 sure)).0, rest.values sure) refl;
      intact = λ sure i. ((store_kept s.content s'.content held (here.0 sure)).1 i.0, rest.intact sure i.1);
    }

-- what a change leaves of what is held, and of what is seen of it
pub passed : (own own' : ℕ → ℕ) (s s' : BlocksState) (xs : List Snapshot) → Passes own own' s s' → AreSnapshots own s xs → AreSnapshots own' s' xs
passed own own' s s' xs p are = record {
  each = (stay own own' s s' xs p are.each are.counted).each;
  counted = λ k. omega (arith, are.counted k, p.uses k);
}

pub seen : (own own' : ℕ → ℕ) (s s' : BlocksState) (xs : List Snapshot) → Passes own own' s s' → AreSnapshots own s xs → Stay s s' xs
seen own own' s s' xs p are = stay own own' s s' xs p are.each are.counted

pub no_snapshots : (own : ℕ → ℕ) (s : BlocksState) → Covers s own → AreSnapshots own s []
no_snapshots own s covers = record { each = λ k d l. absurd (omega arith); counted = λ k. omega (arith, covers k, listed_held-nil k) }

pub none_seen : (content : List ℕ) (xs : List Snapshot) → snapshots_of content xs ≡ [] → xs ≡ []
none_seen content [] e = refl
none_seen content (x ∷ xs) e = absurd cc

-- ---- one more, and one less

pub snapshots_push : (own : ℕ → ℕ) (s s' : BlocksState) (xs : List Snapshot) (x : Snapshot) → AreSnapshots own s xs → IsHeld s' x.coverages.items → Recounts none (listed_all (indexes_of x.coverages.items)) s s' → AreSnapshots own s' (xs ++ x ∷ [])
snapshots_push own s s' xs x are is counts =
    let lists : ℕ → ℕ = listed_all (indexes_of x.coverages.items) in
    let p : Passes own (λ k. own k + lists k) s s' = record { uses = λ k. omega (arith, counts.uses k); kept = λ sure k more whole. rw counts.content refl; honest = counts.honest } in
    record {
      each = All-push (λ (y : Snapshot). IsHeld s' y.coverages.items) xs x (stay own (λ k. own k + lists k) s s' xs p are.each are.counted).each is;
      counted = λ k. omega (arith, are.counted k, counts.uses k, listed_held_push xs x k);
    }

pub snapshots_remove : (own : ℕ → ℕ) (s s' : BlocksState) (xs : List Snapshot) (i : ℕ) (x : Snapshot) → AreSnapshots own s xs → i < length xs → x ≡ get_or xs i x → Recounts (listed_all (indexes_of x.coverages.items)) none s s' → AreSnapshots own s' (remove xs i)
snapshots_remove own s s' xs i x are within is counts =
    let P = λ (y : Snapshot). IsHeld s y.coverages.items in
    let less : (k : ℕ) → listed_held (remove xs i) k + listed_all (indexes_of x.coverages.items) k ≡ listed_held xs k = λ k. listed_held-remove xs i x k within is in
    let each : All P (remove xs i) = All-append P (take i xs) (drop (suc i) xs) (All-take P i xs are.each) (All-drop P (suc i) xs are.each) in
    record {
      each = moved (remove xs i) each (λ k. omega (arith, are.counted k, less k, counts.uses k));
      counted = λ k. omega (arith, are.counted k, less k, counts.uses k);
    }
  where
    moved : (ys : List Snapshot) → All (λ (y : Snapshot). IsHeld s y.coverages.items) ys → ((k : ℕ) → listed_held ys k ≤ s'.uses k) → All (λ (y : Snapshot). IsHeld s' y.coverages.items) ys
    moved [] each covers = λ k d l. absurd (omega arith)
    moved (y ∷ ys) each covers =
        let Q = λ (z : Snapshot). IsHeld s z.coverages.items in
        All-cons (λ (z : Snapshot). IsHeld s' z.coverages.items) y ys
        (held_moved s s' y.coverages.items (All-head Q y ys each) (λ k. omega (arith, covers k, listed_held-cons y ys k)) counts.honest (λ sure k some. rw counts.content refl))
        (moved ys (All-tail Q y ys each) (λ k. omega (arith, covers k, listed_held-cons y ys k)))

-- the store itself, where uses are only counted anew
pub held_recounted : (s s' : BlocksState) (held : List Held) → IsHeld s held → Covers s' (listed_all (indexes_of held)) → s'.content ≡ s.content → s'.honest ≡ s.honest → IsHeld s' held
held_recounted s s' held is covers content honest = held_moved s s' held is covers honest (λ sure k some. rw content refl)

-- ---- where a job's is

held_first : (job : ℕ) (xs : List Snapshot) (i : ℕ) (d : Snapshot) → i < length xs → nat_eq (get_or xs i d).job job ≡ true → ((k : ℕ) → k < i → nat_eq (get_or xs k d).job job ≡ false) → IsHeldAt job xs i
held_first job [] i d h is first = absurd (omega arith)
held_first job (x ∷ xs) zero d h is first = is
held_first job (x ∷ xs) (suc i) d h is first = (first 0 (omega arith), held_first job xs i d (omega (arith, h)) is (λ k l. first (suc k) (omega (arith, l))))

pub held_position : (job : ℕ) (xs : List Snapshot) (i : ℕ) → position (λ (x : Snapshot). nat_eq x.job job) xs ≡ Some i → IsHeldAt job xs i
held_position job [] i e = absurd (cc)
held_position job (x ∷ xs) i e =
    let at = position-Some (λ (y : Snapshot). nat_eq y.job job) (x ∷ xs) i x e in
    held_first job (x ∷ xs) i x at.0 at.1 at.2

pub unheld_position : (job : ℕ) (xs : List Snapshot) → position (λ (x : Snapshot). nat_eq x.job job) xs ≡ None → NoneHeld job xs
unheld_position job xs e =
    let p = λ (x : Snapshot). nat_eq x.job job in
    recursion_from_All (λ (x : Snapshot). nat_eq x.job job ≡ false) xs (λ k d l. elim (cases_lt (position_or_len p xs) (length xs)) [
      | inl some ↦ absurd (let n : Some (position_or_len p xs) ≡ None = rw (lt-ltb _ _ some) at e in cc)
      | inr past ↦ fails_before_first p xs k d (omega (arith, l, past))
    ])

pub held_within : (job : ℕ) (xs : List Snapshot) (i : ℕ) → IsHeldAt job xs i → i < length xs
held_within job [] i at = absurd at
held_within job (x ∷ xs) zero at = omega arith
held_within job (x ∷ xs) (suc i) at = omega (arith, held_within job xs i at.1)

pub within_position : (job : ℕ) (xs : List Snapshot) (i : ℕ) → position (λ (x : Snapshot). nat_eq x.job job) xs ≡ Some i → i < length xs
within_position job xs i e = held_within job xs i (held_position job xs i e)

pub ruleset held_places = (held_position, within_position, unheld_position)

pub held_there : (content : List ℕ) (job : ℕ) (xs : List Snapshot) (i : ℕ) → IsHeldAt job xs i → (held_for job (snapshots_of content xs) ≡ slice_get (snapshots_of content xs) i) × (snapshots_of content (remove xs i) ≡ without_job job (snapshots_of content xs))
held_there content job [] i at = absurd at
held_there content job (x ∷ xs) zero at = rw at (refl, refl)
held_there content job (x ∷ xs) (suc i) at =
    let rest = held_there content job xs i at.1 in
    rw at.0 (rest.0, ap (λ (r : List SnapshotView). snapshot_of content x ∷ r) rest.1)

pub unheld : (content : List ℕ) (job : ℕ) (xs : List Snapshot) → NoneHeld job xs → (held_for job (snapshots_of content xs) ≡ None) × (without_job job (snapshots_of content xs) ≡ snapshots_of content xs)
unheld content job [] none = (refl, refl)
unheld content job (x ∷ xs) none =
    let rest = unheld content job xs none.1 in
    rw none.0 (rest.0, ap (λ (r : List SnapshotView). snapshot_of content x ∷ r) rest.1)

-- names of coverages
pub names_there : (content : List ℕ) (names : List (List ℕ)) (held : List Held) → AreNames names (coverages_of content held) → All (λ (n : List ℕ). NoneNamed n held → ⊥) names
names_there content names held are k d l none = are k d l (found_none content (get_or names k d) held none)

-- one of the stores that are held
pub snapshot_at : (own : ℕ → ℕ) (s : BlocksState) (xs : List Snapshot) (i : ℕ) (x : Snapshot) → AreSnapshots own s xs → i < length xs → x ≡ get_or xs i x → IsHeld s x.coverages.items
snapshot_at own s xs i x are within is = rw (← is) at (are.each i x within)

-- what is given up with one of them, as callers see it
pub released : (s s' : BlocksState) (xs : List Snapshot) (i : ℕ) (x : Snapshot) → i < length xs → x ≡ get_or xs i x → Recounts (listed_all (indexes_of x.coverages.items)) none s s'
    → Recounts (listed_snapshots (snapshots_of s.content xs)) (listed_snapshots (snapshots_of s'.content (remove xs i))) s s'
released s s' xs i x within is counts = record {
  uses = λ k. omega (arith, counts.uses k, listed_of s.content xs k, listed_of s'.content (remove xs i) k, listed_held-remove xs i x k within is);
  content = counts.content;
  synced = counts.synced;
  size = counts.size;
  failures = counts.failures;
  overreads = counts.overreads;
  honest = counts.honest;
}

-- what is held for a job, found by its place
pub record AtJob (s : BlocksState) (xs : List Snapshot) (job : ℕ) (x : Snapshot) : Type 0 where
  pub held : IsHeld s x.coverages.items
  pub found : held_for job (snapshots_of s.content xs) ≡ Some (snapshot_of s.content x)

pub at_job : (own : ℕ → ℕ) (s : BlocksState) (xs : List Snapshot) (job place : ℕ) (x : Snapshot) → AreSnapshots own s xs → IsHeldAt job xs place → x ≡ get_or xs place x → AtJob s xs job x
at_job own s xs job place x are at is =
    let within = held_within job xs place at in
    record {
      held = snapshot_at own s xs place x are within is;
      found = (held_there s.content job xs place at).0 ∙ slice_get-map (snapshot_of s.content) xs place ∙ ap (option_map (snapshot_of s.content)) (slice_get_read xs (length xs) place x refl within is);
    }

pub the_held : (job : ℕ) (xs : List Snapshot) (place : ℕ) → IsHeldAt job xs place → (x : Snapshot) × (x ≡ get_or xs place x)
the_held job [] place is = absurd is
the_held job (x ∷ xs) zero is = (x, refl)
the_held job (x ∷ xs) (suc place) is = the_held job xs place is.1

pub held_some : (content : List ℕ) (job : ℕ) (xs : List Snapshot) (place : ℕ) → IsHeldAt job xs place → held_for job (snapshots_of content xs) ≡ None → ⊥
held_some content job [] place is none = absurd is
held_some content job (x ∷ xs) zero is none = let some : Some (snapshot_of content x) ≡ None = rw is at none in cc
held_some content job (x ∷ xs) (suc place) is none = held_some content job xs place is.1 (rw is.0 at none)

pub reads_present : {X : Type 0} (zero : Bool) (v : X) (P : X → Type 0) → IsSomeAnd (cond zero (Some v) None) P → cond zero (Some v) None ≡ Some v
reads_present true v P some = refl
reads_present false v P some = absurd some

-- blocks that a list has as often as others are counted so often
pub counted_as : (s s' : BlocksState) (ks : List ℕ) (lists : ℕ → ℕ) → ((k : ℕ) → times ks k ≡ lists k) → Recounts none (times ks) s s' → Recounts none lists s s'
counted_as s s' ks lists same counts = record {
  uses = λ k. omega (arith, counts.uses k, same k);
  content = counts.content;
  synced = counts.synced;
  size = counts.size;
  failures = counts.failures;
  overreads = counts.overreads;
  honest = counts.honest;
}

-- ---- blocks of lists

pub times_listed : (index : Index) (k : ℕ) → times (flat_map (λ (x : ℕ × Entry). x.1.blocks) index) k ≡ listed index k
unfolding listed
times_listed [] k = times_none k
times_listed (x ∷ index) k =
    ap (λ (l : List ℕ). times l k) (flat_map-cons (λ (y : ℕ × Entry). y.1.blocks) x index)
    ∙ times_append x.1.blocks (flat_map (λ (y : ℕ × Entry). y.1.blocks) index) k
    ∙ ap (λ (n : ℕ). times x.1.blocks k + n) (times_listed index k) ∙ sym (sum_by-cons (λ (y : ℕ × Entry). times y.1.blocks k) x index)

pub no_field_lists : (k : ℕ) → listed_fields [] k ≡ 0
unfolding listed_fields
no_field_lists k = refl

pub one_field_more : (k : ℕ) (fields : List Index) (j : ℕ) (d : Index) → j < length fields → d ≡ get_or fields j d → listed_fields (take (j + 1) fields) k ≡ listed_fields (take j fields) k + listed d k
unfolding listed_fields
one_field_more k fields j d h is =
    let F : Index → ℕ = λ (i : Index). listed i k in
    omega (arith, sum_by_more F fields j d h, ap F is)

pub one_held_more : (held : List Held) (j : ℕ) (d : Held) (k : ℕ) → j < length held → d ≡ get_or held j d → listed_all (indexes_of (take (j + 1) held)) k ≡ listed_all (indexes_of (take j held)) k + listed_fields d.fields.items k
unfolding listed_all
one_held_more held j d k h is =
    let F : List Index → ℕ = λ (f : List Index). listed_fields f k in
    let G : Held → ℕ = λ (x : Held). F x.fields.items in
    omega (arith, sums F (take (j + 1) held), sums F (take j held), sum_by_more G held j d h, ap G is)

pub held_front : (held : List Held) (j k : ℕ) → listed_all (indexes_of (take j held)) k ≤ listed_all (indexes_of held) k
unfolding listed_all
held_front held j k =
    let F : List Index → ℕ = λ (f : List Index). listed_fields f k in
    let G : Held → ℕ = λ (x : Held). F x.fields.items in
    omega (arith, sums F (take j held), sums F held, sum_by-take-le G held j)
