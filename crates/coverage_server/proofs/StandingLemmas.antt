-- When a server represents a state still, and when it represents the next one.
use Rattle.std.proofs.Common.{◌≡◌, ℕ, ◌<◌, ◌≤◌, List, length, get_or, Option, None, Some, Result, Ok, Err, inl, inr, refl, sym, ap, ◌∙◌, subst}
use Rattle.std.specs.Prelude.{◌⊎◌, All, IsSomeAnd, IsTrue, slice_get, option_and_then, OnErr}
use Rattle.std.proofs.lemmas.Option.{slice_get_cases}
use mathlib.Core.Path.{fun_ext}
use Rattle.arr_core.specs.Refusals.{number_of}
use Rattle.arr_core.specs.declared.signature.Signature.{Signature}
use Rattle.arr_core.specs.Stores.{Coverage, Store, found}
use Rattle.raster_store.specs.Calls.{signature_of}
use Rattle.job_desk.specs.Desks.{DeskView}
use Rattle.coverage_server.specs.Asking.{cells_of, number_in}
use Rattle.http_front.specs.declared.reply.Reply.{Reply}
use Rattle.http_front.specs.declared.reply.Reply.TheVariants.{Refused}
use Rattle.coverage_server.specs.declared.error.AnswerError.{AnswerError}
use Rattle.coverage_server.specs.declared.error.AnswerError.TheVariants.{Named, NoMemory, DiskFault, NoRoom, Damaged}
use Rattle.coverage_server.specs.Answered.{Answered, AnsweredIn, Moves, Stays}
use Rattle.coverage_server.specs.Machine.{State, OnStore}
use Rattle.coverage_server.specs.Represents.{Represents}
use Rattle.coverage_server.specs.Views.{IsHeld, ServerView, SessionView, IsUnchanged, session}

-- ---- coverages that stay as they are

-- what holds of each holds of one that is looked up
pub all_at : {X : Type 0} (P : X → Type 0) (xs : List X) (n : ℕ) (x : X) → slice_get xs n ≡ Some x → All P xs → P x
all_at P xs n x e h = by_cases (slice_get_cases xs n).1
  where
    by_cases : ((y : _) × (n < length xs) × (slice_get xs n ≡ Some y) × (get_or xs n y ≡ y)) ⊎ ((length xs ≤ n) × (slice_get xs n ≡ None)) → P x
    by_cases (inl c) = let same : c.0 ≡ x = cc in subst P (c.3 ∙ same) (h n c.0 c.1)
    by_cases (inr c) = absurd cc

-- the coverages of these names are found as before
abbrev pub AreFound : Store → Store → List Signature → Type 0
AreFound old new cs = All (λ (c : Signature). found c.name new ≡ found c.name old) cs

pub cells_kept : (old new : Store) (cs : List Signature) → AreFound old new cs → cells_of new cs ≡ cells_of old cs
cells_kept old new cs same =
    fun_ext (λ n. fun_ext (λ field. fun_ext (λ point. ap (λ (o : Option Coverage). number_in o field point) (listed n (slice_get cs n) refl))))
  where
    listed : (n : ℕ) (o : Option Signature) → slice_get cs n ≡ o
        → option_and_then (λ (c : Signature). found c.name new) o ≡ option_and_then (λ (c : Signature). found c.name old) o
    listed n None e = refl
    listed n (Some c) e = all_at (λ (d : Signature). found d.name new ≡ found d.name old) cs n c e same

pub held_kept : (old new : Store) (cs : List Signature) → AreFound old new cs → All (IsHeld old) cs → All (IsHeld new) cs
held_kept old new cs same held =
    λ k d l. subst (λ (o : Option Coverage). IsSomeAnd o (λ c. signature_of c ≡ get_or cs k d)) (sym (same k d l)) (held k d l)

-- what leaves a state as it was, where the store and what is held are the same
pub represents-same : (v w : SessionView) → w.coverages.store ≡ v.coverages.store → w.coverages.held ≡ v.coverages.held → w.desk ≡ v.desk → (s : State) → Represents v s → Represents w s
represents-same v w store held desk s r = record {
  store = r.store ∙ sym store;
  jobs = rw (held, desk) r.jobs;
  next = r.next ∙ sym (ap (λ (d : DeskView). d.next) desk);
}

-- ---- requests on coverages, over states

-- the state after a request on the coverages
abbrev pub with_store : State → Store → State
with_store s store = record { store = store; jobs = s.jobs; next = s.next }

module _ (desk : DeskView) (v w : ServerView) (step : Store → Reply → Store → Type 0) (kept : IsTrue v.honest → w.held ≡ v.held) where
  moves : (reply : Reply) → (IsTrue v.honest → step v.store reply w.store) → Moves (OnStore step) (session v desk) reply (session w desk)
  moves reply x = λ sure s r. (
    with_store s w.store,
    record { store = refl; jobs = rw (kept sure) r.jobs; next = r.next },
    (subst (λ (o : Store). step o reply w.store) (sym r.store) (x sure), refl, refl),
  )

  stays : IsUnchanged v w → Stays (session v desk) (session w desk)
  stays same = λ sure s r. represents-same (session v desk) (session w desk) (same.store sure) (kept sure) refl s r

  -- what the part on the coverages answers, it answers over states
  pub lifted : (lacks spoils : Type 0) (r : Result Reply AnswerError) → OnErr r (IsUnchanged v w) → Answered step lacks spoils v w r
      → AnsweredIn (OnStore step) lacks (λ _. spoils) (session v desk) (session w desk) r
  lifted lacks spoils (Ok reply) same x = moves reply x
  lifted lacks spoils (Err (Named refusal)) same x = moves (Refused (number_of refusal)) x
  lifted lacks spoils (Err NoMemory) same x = stays same
  lifted lacks spoils (Err DiskFault) same x = (x, stays same)
  lifted lacks spoils (Err NoRoom) same x = (x, stays same)
  lifted lacks spoils (Err Damaged) same x = ((λ sure s r. x sure), stays same)
