-- What is held for jobs is let go: one after the other, until there is nothing.
use Rattle.std.proofs.Common.{◌≡◌, ◌∙◌, ℕ, nat_eq, true, List, [], ◌∷◌, length, ◌<◌, refl, sym, ap, subst, arith, inl, inr, Some, None, Result, Ok, Err, IsTrue}
use Rattle.std.specs.Prelude.{option_map, slice_get, IfErr}
use Rattle.std.proofs.lemmas.Bool.Decides.{eqb_tells}
use Rattle.raster_store.specs.Views.{Index, SnapshotView, AreIntact, listed_snapshots}
use Rattle.raster_store.specs.Snapshots.{without_job}
use Rattle.job_desk.specs.Desks.{DeskView}
use Rattle.coverage_server.specs.Holding.{IsHolding}
use Rattle.arr_core.specs.Stores.{Store}
use Rattle.block_file.specs.declared.fault.CloseFault.{CloseFault}
use Rattle.coverage_server.specs.Disk.{HoldsStore, ListsStore}
use Rattle.coverage_server.specs.Sessions.{IsNotClosed}
use Rattle.coverage_server.specs.Represents.{Places}
use Rattle.coverage_server.specs.Runs.{Placed, jobless}
use Rattle.coverage_server.specs.Layouts.{Layout}
use Rattle.coverage_server.specs.Views.{ServerView, SessionView, IsSound, without_held, without_jobs}
use Rattle.coverage_server.proofs.HeldLemmas.{lists_none}

itself : (n : ℕ) → nat_eq n n ≡ true
itself n = elim (eqb_tells n n) [ inl is ↦ is.0 | inr differs ↦ absurd (differs.1 refl) ]

-- the first number goes
pub fewer_held : (xs ys : List SnapshotView) (number : ℕ) → Some number ≡ option_map (λ (x : SnapshotView). x.job) (slice_get xs 0)
    → ys ≡ without_job number xs → length ys < length xs
fewer_held [] ys number first is = absurd cc
fewer_held (x ∷ xs) ys number first is =
    let job : number ≡ x.job = cc in
    let here : nat_eq x.job number ≡ true = rw job (itself x.job) in
    let rest : ys ≡ xs = rw here at is in
    let same : length ys ≡ length xs = ap length rest in
    omega (arith, same)

-- no number is left
pub none_held : (xs : List SnapshotView) → None ≡ option_map (λ (x : SnapshotView). x.job) (slice_get xs 0) → xs ≡ []
none_held [] none = refl
none_held (x ∷ xs) none = absurd cc

pub unheld_same : (v w : ServerView) → w.held ≡ [] → without_held w ≡ without_held v → w ≡ without_held v
unheld_same v w none same = ap (λ (h : List SnapshotView). record w { held = h }) none ∙ same

-- a sound server without what it held is sound
pub sound_unheld : (v : ServerView) → IsSound v → IsSound (without_held v)
sound_unheld v sound = record { honest = sound.honest; intact = sound.intact; held = tt }

-- a desk without jobs
pub holding_none : (desk : DeskView) (xs : List SnapshotView) → IsHolding desk xs → IsHolding (record { jobs = []; next = desk.next }) []
holding_none desk xs holding = record {
  jobs = refl;
  plans = λ k d l. absurd (omega (arith, l));
  numbers = λ k d l. absurd (omega (arith, l));
  next = holding.next;
}

-- a server without its jobs stands for the state without its jobs
pub places_jobless : (v : SessionView) (p : Placed) → Places v p → Places (without_jobs v) (jobless p)
places_jobless v p r = record {
  state = record { store = r.state.store; jobs = tt; next = r.state.next };
  layout = ap (λ (l : Layout). record { indexes = l.indexes; held = [] }) r.layout;
  intact = r.intact;
  held = λ sure. tt;
  blocks = λ sure k more. absurd (let none : listed_snapshots [] k ≡ 0 = lists_none k in omega (arith, none, more));
  failures = r.failures;
}

-- two things that are told of a refusal, together
pub err_both : {X E : Type 0} (r : Result X E) (P Q R : E → Type 0) → ((e : E) → P e → Q e → R e) → IfErr r P → IfErr r Q → IfErr r R
err_both (Ok x) P Q R f p q = tt
err_both (Err e) P Q R f p q = f e p q

-- what a second close lists, as the first one found it
pub lists_again : (fault : CloseFault) (old mid : ServerView) (content : List ℕ) → IsNotClosed fault old mid
    → (IsTrue mid.honest → ListsStore content mid.store mid.indexes)
    → IsTrue old.honest → ListsStore content old.store old.indexes
lists_again fault old mid content a lists sure =
    subst (λ (s : Store). ListsStore content s old.indexes) (a.unchanged.store sure)
    (subst (λ (l : List (List Index)). ListsStore content mid.store l) a.unchanged.indexes
    (lists (subst IsTrue (sym a.honest) sure)))

-- and what it tells of a sound server
pub intact_again : (fault : CloseFault) (old mid : ServerView) (content : List ℕ) → IsNotClosed fault old mid
    → (IsSound (without_held mid) → AreIntact content mid.store mid.indexes)
    → IsSound old → AreIntact content old.store old.indexes
intact_again fault old mid content a intact sound =
    subst (λ (s : Store). AreIntact content s old.indexes) (a.unchanged.store sound.honest)
    (subst (λ (l : List (List Index)). AreIntact content mid.store l) a.unchanged.indexes
    (intact (sound_unheld mid (a.sound sound))))

pub holds_again : (fault : CloseFault) (old mid : ServerView) (content : List ℕ) → IsNotClosed fault old mid
    → (IsSound (without_held mid) → HoldsStore content mid.store) → IsSound old → HoldsStore content old.store
holds_again fault old mid content a holds sound =
    subst (HoldsStore content) (a.unchanged.store sound.honest) (holds (sound_unheld mid (a.sound sound)))
