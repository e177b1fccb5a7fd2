-- Jobs of the desk that stand for jobs of the machine.
use Rattle.std.proofs.Common.{◌≡◌, ℕ, zero, suc, ◌+◌, ◌*◌, ◌<◌, ◌≤◌, get_or, Bool, true, false, nat_eq, List, [], ◌∷◌, ◌++◌, length, map, max, Option, None, Some, Result, Ok, Err, inl, inr, refl, sym, ap, ◌∙◌, subst, arith}
use Rattle.std.specs.Prelude.{All, IsSomeAnd, MatchOption, String, string_bytes, codes, decimal, IsSome}
use Rattle.std.specs.declared.alloc.Global.{Global}
use Rattle.arr_core.specs.declared.refusal.Refusal.TheVariants.{NoSuchJob, NotReady, TooManyJobs}
use Rattle.arr_core.specs.Refusals.{number_of}
use Rattle.arr_core.specs.declared.signature.Signature.{Signature}
use Rattle.arr_core.specs.Stores.{Coverage, Store, found}
use Rattle.std.proofs.lemmas.List.Elements.{All-head, All-tail, All-cons, All-nil, All-map}
use Rattle.raster_store.specs.Calls.{signature_of}
use Rattle.raster_store.specs.Snapshots.{held_for, without_job, distinct, AreNames}
use Rattle.raster_store.specs.Views.{SnapshotView}
use Rattle.job_desk.specs.declared.job.Job.{Job as Held}
use Rattle.tile_exec.specs.declared.answer.Answer.TheVariants as given
use Rattle.arr_core.specs.Numbers.{number_after}
use Rattle.job_desk.specs.Desks.{DeskView, IsDesk, IsFull, IsSubmitted, IsFetched, replaced}
use Rattle.tile_exec.specs.Answering.{IsAnswer}
use Rattle.job_desk.specs.Desks as desks
use Rattle.job_desk.specs.Steps.{IsRefusedFetch, IsRefusedSubmit}
use Rattle.job_desk.specs.declared.error.FetchError.{FetchError}
use Rattle.job_desk.specs.declared.error.FetchError.TheVariants as fetching
use Rattle.job_desk.specs.declared.error.SubmitError.{SubmitError}
use Rattle.job_desk.specs.declared.error.SubmitError.TheVariants as submitting
use Rattle.plan_ir.specs.Plans.{PlanTree}
use Rattle.plan_ir.specs.Planned.{planned}
use Rattle.plan_ir.specs.Units.{units}
use Rattle.tile_exec.specs.Standing.{plan_of, left_of}
use Rattle.wcps_mean.specs.declared.cell.PointFault.{PointFault}
use Rattle.wcps_mean.specs.declared.item.Item.{Item}
use Rattle.wcps_mean.specs.Faults.{refusal_of as fault_refusal}
use Rattle.wcps_types.specs.Typed.{TypedTree}
use Rattle.wcps_types.specs.Work.{query_work}
use Rattle.http_front.specs.declared.reply.Reply.{Reply}
use Rattle.http_front.specs.declared.reply.Reply.TheVariants.{Text, Csv, Refused}
use Rattle.coverage_server.specs.declared.error.AnswerError.{AnswerError}
use Rattle.coverage_server.specs.declared.error.AnswerError.TheVariants.{NoMemory}
use Rattle.coverage_server.specs.Answered.{AnsweredIn, Moves, Never}
use Rattle.coverage_server.specs.Asking.{QueryAnswer, cells_of, items_answer, evaluated, TextTyped}
use Rattle.coverage_server.specs.Machine.{Job, State, job_of, with_left, without, with_jobs, Refuses, Unless, Adds, Tells, Submits, Fetches, Cancels}
use Rattle.coverage_server.specs.Holding.{AreHeldOnce, HoldsFor, ReleasesFor, IsHolding}
use Rattle.coverage_server.specs.Represents.{IsReading, StandsAs, AreJobs, Represents}
use Rattle.coverage_server.specs.Stages.{IsTypedText, submit_refusal, fetch_refusal}
use Rattle.coverage_server.specs.Fetching.{IsPlanOf}
use Rattle.coverage_server.specs.Views.{IsHeld, ServerView, SessionView, session}
use Rattle.coverage_server.proofs.HeldLemmas.{Finds, finds_push, finds_left, found_last}
use Rattle.coverage_server.proofs.HoldingLemmas.{Rise, rise_tail, later_others, holding_more}
use Rattle.coverage_server.proofs.StandingLemmas.{AreFound, cells_kept, held_kept}

pub at_this : {X : Type 0} (o : Option X) (x : X) (P : Type 0) (Q : X → Type 0) → o ≡ Some x → Q x → MatchOption o P Q
at_this o x P Q e q = subst (λ (y : Option _). MatchOption y P Q) (sym e) q

pub at_nothing : {X : Type 0} (o : Option X) (P : Type 0) (Q : X → Type 0) → o ≡ None → P → MatchOption o P Q
at_nothing o P Q e p = subst (λ (y : Option _). MatchOption y P Q) (sym e) p

-- ---- answers

pub answer_text : (r : Result (List Item) PointFault) (text : String Global) → IsAnswer r (given.Text text) → items_answer r ≡ Ok (string_bytes text)
answer_text (Ok items) text x = ap Ok (sym x)
answer_text (Err f) text x = absurd x

pub answer_fault : (r : Result (List Item) PointFault) (f : PointFault) → IsAnswer r (given.Refused f) → items_answer r ≡ Err (fault_refusal f)
answer_fault (Ok items) f x = absurd x
answer_fault (Err g) f x = ap (λ (h : PointFault). Err (fault_refusal h)) (sym x)

-- ---- jobs, one for one

pub lengths : (xs : List SnapshotView) (hs : List Held) (js : List Job) → AreJobs xs hs js → length js ≡ length hs
lengths xs [] [] x = refl
lengths xs [] (j ∷ js) x = absurd x
lengths xs (h ∷ hs) [] x = absurd x
lengths xs (h ∷ hs) (j ∷ js) x = ap suc (lengths xs hs js x.1)

-- the job of the machine that one of the desk stands for
pub record Held-at (xs : List SnapshotView) (n : ℕ) (h : Held) (js : List Job) : Type 0 where
  pub job : Job
  pub held : job_of n js ≡ Some job
  pub stands : StandsAs xs h job

pub at_job : (xs : List SnapshotView) (n : ℕ) (h : Held) (hs : List Held) (js : List Job) → AreJobs xs hs js → desks.job_of n hs ≡ Some h → Held-at xs n h js
at_job xs n h [] js x e = absurd cc
at_job xs n h (g ∷ hs) [] x e = absurd x
at_job xs n h (g ∷ hs) (j ∷ js) x e = by_test (λ y. at_job xs n h hs js x.1 y) (nat_eq g.number n) refl
  where
    by_test : (desks.job_of n hs ≡ Some h → Held-at xs n h js) → (b : Bool) → nat_eq g.number n ≡ b → Held-at xs n h (j ∷ js)
    by_test rest true t =
        let here : desks.job_of n (g ∷ hs) ≡ Some g = rw t refl in
        let same : g ≡ h = cc in
        let tj : nat_eq j.number n ≡ true = rw x.0.number t in
        record { job = j; held = rw tj refl; stands = subst (λ (k : Held). StandsAs xs k j) same x.0 }
    by_test rest false t =
        let later : desks.job_of n (g ∷ hs) ≡ desks.job_of n hs = rw t refl in
        let more = rest (sym later ∙ e) in
        let tj : nat_eq j.number n ≡ false = rw x.0.number t in
        let skip : job_of n (j ∷ js) ≡ job_of n js = rw tj refl in
        record { job = more.job; held = skip ∙ more.held; stands = more.stands }

pub no_job : (xs : List SnapshotView) (n : ℕ) (hs : List Held) (js : List Job) → AreJobs xs hs js → desks.job_of n hs ≡ None → job_of n js ≡ None
no_job xs n [] [] x e = refl
no_job xs n [] (j ∷ js) x e = absurd x
no_job xs n (h ∷ hs) [] x e = absurd x
no_job xs n (h ∷ hs) (j ∷ js) x e = by_test (λ y. no_job xs n hs js x.1 y) (nat_eq h.number n) refl
  where
    by_test : (desks.job_of n hs ≡ None → job_of n js ≡ None) → (b : Bool) → nat_eq h.number n ≡ b → job_of n (j ∷ js) ≡ None
    by_test rest true t = let here : desks.job_of n (h ∷ hs) ≡ Some h = rw t refl in absurd cc
    by_test rest false t =
        let later : desks.job_of n (h ∷ hs) ≡ desks.job_of n hs = rw t refl in
        let tj : nat_eq j.number n ≡ false = rw x.0.number t in
        let skip : job_of n (j ∷ js) ≡ job_of n js = rw tj refl in skip ∙ rest (sym later ∙ e)

-- what is held for a job is found still
stands_still : (xs ys : List SnapshotView) (h : Held) (j : Job) → Finds h.number xs ys → StandsAs xs h j → StandsAs ys h j
stands_still xs ys h j finds x = record {
  number = x.number;
  names = x.names;
  left = x.left;
  cells = x.cells;
  stands = x.stands;
  answer = x.answer;
  reading = λ some. finds _ (x.reading some);
}

pub all_stand : (xs ys : List SnapshotView) (hs : List Held) (js : List Job) → ((h : Held) → Finds h.number xs ys) → AreJobs xs hs js → AreJobs ys hs js
all_stand xs ys [] [] finds x = tt
all_stand xs ys [] (j ∷ js) finds x = absurd x
all_stand xs ys (h ∷ hs) [] finds x = absurd x
all_stand xs ys (h ∷ hs) (j ∷ js) finds x = (stands_still xs ys h j (finds h) x.0, all_stand xs ys hs js finds x.1)

-- those of other numbers
others_stand : (xs ys : List SnapshotView) (n : ℕ) (hs : List Held) (js : List Job) → ((h : Held) → nat_eq h.number n ≡ false → Finds h.number xs ys)
    → All (λ (h : Held). nat_eq h.number n ≡ false) hs → AreJobs xs hs js → AreJobs ys hs js
others_stand xs ys n [] [] finds all x = tt
others_stand xs ys n [] (j ∷ js) finds all x = absurd x
others_stand xs ys n (h ∷ hs) [] finds all x = absurd x
others_stand xs ys n (h ∷ hs) (j ∷ js) finds all x = (
  stands_still xs ys h j (finds h (All-head (λ (k : Held). nat_eq k.number n ≡ false) h hs all)) x.0,
  others_stand xs ys n hs js finds (All-tail (λ (k : Held). nat_eq k.number n ≡ false) h hs all) x.1,
)

-- one that is made another
pub one_lowered : (xs ys : List SnapshotView) (n left : ℕ) (is : Held) (hs : List Held) (js : List Job) → Rise hs → ((h : Held) → nat_eq h.number n ≡ false → Finds h.number xs ys)
    → ((h : Held) (j : Job) → desks.job_of n hs ≡ Some h → StandsAs xs h j → StandsAs ys is (record { number = j.number; names = j.names; left = left; answer = j.answer }))
    → AreJobs xs hs js → AreJobs ys (replaced n is hs) (with_left n left js)
one_lowered xs ys n left is [] [] rise finds f x = tt
one_lowered xs ys n left is [] (j ∷ js) rise finds f x = absurd x
one_lowered xs ys n left is (h ∷ hs) [] rise finds f x = absurd x
one_lowered xs ys n left is (h ∷ hs) (j ∷ js) rise finds f x =
    by_test (λ g. one_lowered xs ys n left is hs js (rise_tail h hs rise) finds g x.1) (nat_eq h.number n) refl
  where
    by_test : (((h : Held) (j : Job) → desks.job_of n hs ≡ Some h → StandsAs xs h j → StandsAs ys is (record { number = j.number; names = j.names; left = left; answer = j.answer }))
        → AreJobs ys (replaced n is hs) (with_left n left js)) → (b : Bool) → nat_eq h.number n ≡ b → AreJobs ys (replaced n is (h ∷ hs)) (with_left n left (j ∷ js))
    by_test rest true t =
        let here : desks.job_of n (h ∷ hs) ≡ Some h = rw t refl in
        let same = f h j here x.0 in
        let tj : nat_eq j.number n ≡ true = rw x.0.number t in
        rw (t, tj) (same, others_stand xs ys n hs js finds (later_others n h hs rise t) x.1)
    by_test rest false t =
        let later : desks.job_of n (h ∷ hs) ≡ desks.job_of n hs = rw t refl in
        let more = rest (λ g k e. f g k (later ∙ e)) in
        let tj : nat_eq j.number n ≡ false = rw x.0.number t in rw (t, tj) (stands_still xs ys h j (finds h t) x.0, more)

pub one_same : (xs : List SnapshotView) (n : ℕ) (is : Held) (hs : List Held) (js : List Job) → ((h : Held) (j : Job) → desks.job_of n hs ≡ Some h → StandsAs xs h j → StandsAs xs is j)
    → AreJobs xs hs js → AreJobs xs (replaced n is hs) js
one_same xs n is [] [] f x = tt
one_same xs n is [] (j ∷ js) f x = absurd x
one_same xs n is (h ∷ hs) [] f x = absurd x
one_same xs n is (h ∷ hs) (j ∷ js) f x = by_test (λ g. one_same xs n is hs js g x.1) (nat_eq h.number n) refl
  where
    by_test : (((h : Held) (j : Job) → desks.job_of n hs ≡ Some h → StandsAs xs h j → StandsAs xs is j) → AreJobs xs (replaced n is hs) js) → (b : Bool) → nat_eq h.number n ≡ b → AreJobs xs (replaced n is (h ∷ hs)) (j ∷ js)
    by_test rest true t = let here : desks.job_of n (h ∷ hs) ≡ Some h = rw t refl in let same = f h j here x.0 in rw t (same, x.1)
    by_test rest false t =
        let later : desks.job_of n (h ∷ hs) ≡ desks.job_of n hs = rw t refl in
        let more = rest (λ g k e. f g k (later ∙ e)) in rw t (x.0, more)

-- one that is taken out, and what is held for the others is found still
pub one_out : (xs ys : List SnapshotView) (n : ℕ) (hs : List Held) (js : List Job) → Rise hs → ((h : Held) → nat_eq h.number n ≡ false → Finds h.number xs ys) → AreJobs xs hs js
    → AreJobs ys (desks.without n hs) (without n js)
one_out xs ys n [] [] rise finds x = tt
one_out xs ys n [] (j ∷ js) rise finds x = absurd x
one_out xs ys n (h ∷ hs) [] rise finds x = absurd x
one_out xs ys n (h ∷ hs) (j ∷ js) rise finds x = by_test (one_out xs ys n hs js (rise_tail h hs rise) finds x.1) (nat_eq h.number n) refl
  where
    by_test : AreJobs ys (desks.without n hs) (without n js) → (b : Bool) → nat_eq h.number n ≡ b → AreJobs ys (desks.without n (h ∷ hs)) (without n (j ∷ js))
    by_test rest true t =
        let tj : nat_eq j.number n ≡ true = rw x.0.number t in rw (t, tj) (others_stand xs ys n hs js finds (later_others n h hs rise t) x.1)
    by_test rest false t = let tj : nat_eq j.number n ≡ false = rw x.0.number t in rw (t, tj) (stands_still xs ys h j (finds h t) x.0, rest)

-- and where the same is held
pub one_gone : (xs : List SnapshotView) (n : ℕ) (hs : List Held) (js : List Job) → AreJobs xs hs js → AreJobs xs (desks.without n hs) (without n js)
one_gone xs n [] [] x = tt
one_gone xs n [] (j ∷ js) x = absurd x
one_gone xs n (h ∷ hs) [] x = absurd x
one_gone xs n (h ∷ hs) (j ∷ js) x = by_test (one_gone xs n hs js x.1) (nat_eq h.number n) refl
  where
    by_test : AreJobs xs (desks.without n hs) (without n js) → (b : Bool) → nat_eq h.number n ≡ b → AreJobs xs (desks.without n (h ∷ hs)) (without n (j ∷ js))
    by_test rest true t = let tj : nat_eq j.number n ≡ true = rw x.0.number t in rw (t, tj) x.1
    by_test rest false t = let tj : nat_eq j.number n ≡ false = rw x.0.number t in rw (t, tj) (x.0, rest)

pub one_more : (xs : List SnapshotView) (hs : List Held) (js : List Job) (h : Held) (j : Job) → AreJobs xs hs js → StandsAs xs h j → AreJobs xs (hs ++ h ∷ []) (js ++ j ∷ [])
one_more xs [] [] h j x s = (s, tt)
one_more xs [] (k ∷ js) h j x s = absurd x
one_more xs (g ∷ hs) [] h j x s = absurd x
one_more xs (g ∷ hs) (k ∷ js) h j x s = (x.0, one_more xs hs js h j x.1 s)

-- a job that has so many units left already
pub left_same : (n left : ℕ) (js : List Job) (j : Job) → job_of n js ≡ Some j → j.left ≡ left → with_left n left js ≡ js
left_same n left [] j e is = refl
left_same n left (k ∷ js) j e is = by_test (nat_eq k.number n) refl (λ f. left_same n left js j f is)
  where
    by_test : (b : Bool) → nat_eq k.number n ≡ b → (job_of n js ≡ Some j → with_left n left js ≡ js) → with_left n left (k ∷ js) ≡ k ∷ js
    by_test true t later =
        let here : Some k ≡ Some j = rw t at e in
        let same : k ≡ j = cc in
        let shown : k.left ≡ left = ap (λ (x : Job). x.left) same ∙ is in
        rw (t, ← shown) refl
    by_test false t later = rw t (ap (λ (l : List Job). k ∷ l) (later (rw t at e)))

-- ---- submission

some_units : (c w : ℕ) → 1 ≤ c → 1 ≤ c * (2 + w)
some_units zero w h = absurd (omega (arith, h))
some_units (suc c) w h = omega arith

-- what is found under names is found for coverages with these names
pub named_found : (old new : Store) (names : List (List ℕ)) (cs : List Signature) → names ≡ map (λ (c : Signature). c.name) cs → All (λ (n : List ℕ). found n new ≡ found n old) names → AreFound old new cs
named_found old new names cs is all = by_all names is all
  where
    by_all : (names : List (List ℕ)) → names ≡ map (λ (c : Signature). c.name) cs → All (λ (n : List ℕ). found n new ≡ found n old) names → AreFound old new cs
    by_all names is all = unmapped cs (subst (All (λ (n : List ℕ). found n new ≡ found n old)) is all)
      where
        unmapped : (cs : List Signature) → All (λ (n : List ℕ). found n new ≡ found n old) (map (λ (c : Signature). c.name) cs) → AreFound old new cs
        unmapped [] all = All-nil (λ (c : Signature). found c.name new ≡ found c.name old)
        unmapped (c ∷ cs) all =
            All-cons (λ (d : Signature). found d.name new ≡ found d.name old) c cs (All-head (λ (n : List ℕ). found n new ≡ found n old) c.name (map (λ (d : Signature). d.name) cs) all)
            (unmapped cs (All-tail (λ (n : List ℕ). found n new ≡ found n old) c.name (map (λ (d : Signature). d.name) cs) all))

-- coverages of a query may be held
pub may_hold : (store : Store) (cs : List Signature) (names : List (List ℕ)) → names ≡ map (λ (c : Signature). c.name) cs → All (IsHeld store) cs → AreNames names store
may_hold store cs names is all = subst (λ (l : List (List ℕ)). AreNames l store) (sym is) (All-map (λ (n : List ℕ). found n store ≡ None → ⊥) (λ (c : Signature). c.name) cs (λ k d l. there (get_or cs k d) (found (get_or cs k d).name store) refl (all k d l)))
  where
    there : (s : Signature) (o : Option Coverage) → found s.name store ≡ o → IsSomeAnd o (λ c. signature_of c ≡ s) → found s.name store ≡ None → ⊥
    there s None e h none = h
    there s (Some c) e h none = absurd cc

-- a job comes, and what is held for it has the coverages of its plan
pub submit_holds : (v w : ServerView) (old new : DeskView) (q : TypedTree) (plan : PlanTree) (names : List (List ℕ)) (number left : ℕ) → IsPlanOf q plan
    → names ≡ map (λ (c : Signature). c.name) q.coverages → IsSubmitted plan names number left old new → held_for number v.held ≡ None → HoldsFor number names v w
    → All (IsHeld v.store) q.coverages → IsHolding old v.held → IsHolding new w.held
submit_holds v w old new q plan names number left p named x none holds held was =
    let some : 1 ≤ left = subst (λ n. 1 ≤ n) x.left.1 x.begun.some in
    let same = named_found v.store holds.snapshot.coverages names q.coverages named holds.is.named in
    holding_more plan names number left old new v.held w.held holds.snapshot was none x some holds.job
    (subst (AreHeldOnce holds.snapshot) (sym p.coverages) (record {
      held = held_kept v.store holds.snapshot.coverages q.coverages same held;
      once = holds.is.once ∙ ap distinct named;
    })) holds.held

module _ (v : ServerView) (text : List ℕ) (old : DeskView) where
  abbrev here : SessionView
  here = session v old

  module _ (q : TypedTree) (typed : IsTypedText v.store text q) where
    typed_at : (s : State) → Represents here s → TextTyped s.store text (Ok q)
    typed_at s r = subst (λ (o : Store). TextTyped o text (Ok q)) (sym r.store) typed.typed

    pub submit_full : IsFull old → Moves (Submits text) here (Refused (number_of TooManyJobs)) here
    submit_full (inl many) = λ sure s r. (s, r, (Ok q, typed_at s r, by_next s r s.next))
      where
        by_next : (s : State) → Represents here s → (o : Option ℕ)
            → MatchOption o (Refuses TooManyJobs s (Refused (number_of TooManyJobs)) s)
            (λ number. Unless (length s.jobs < 64) TooManyJobs (Adds q number) s (Refused (number_of TooManyJobs)) s)
        by_next s r None = (refl, refl)
        by_next s r (Some n) = inl ((λ few. let l = lengths v.held old.jobs s.jobs r.jobs in absurd (omega (arith, l, many, few))), (refl, refl))
    submit_full (inr none) = λ sure s r. (s, r, (Ok q, typed_at s r, at_nothing s.next _ _ (r.next ∙ none) (refl, refl)))

    pub submit_failed : (e : SubmitError) → IsRefusedSubmit old e → AnsweredIn (Submits text) ⊥ Never here here (Err (submit_refusal e))
    submit_failed submitting.TooManyJobs x = submit_full x
    submit_failed submitting.NoMemory x = λ sure s r. r

    module _ (plan : PlanTree) (p : IsPlanOf q plan) (new : DeskView) (w : ServerView) (names : List (List ℕ)) (number left : ℕ) (named : names ≡ map (λ (c : Signature). c.name) q.coverages)
        (x : IsSubmitted plan names number left old new) (none : held_for number v.held ≡ None) (holds : HoldsFor number names v w) where
      -- the job of the machine
      abbrev job : State → Job
      job s = record { number = number; names = map (λ (c : Signature). c.name) q.coverages; left = left; answer = evaluated s.store (Ok q) }

      coverages : (plan_of x.job.exec).coverages ≡ q.coverages
      coverages = ap (λ (t : PlanTree). t.coverages) x.begun.plan ∙ p.coverages

      -- the coverages that came to be held have the cells of the store
      same_found : AreFound v.store holds.snapshot.coverages q.coverages
      same_found = named_found v.store holds.snapshot.coverages names q.coverages named holds.is.named

      same_cells : cells_of holds.snapshot.coverages q.coverages ≡ cells_of v.store q.coverages
      same_cells = cells_kept v.store holds.snapshot.coverages q.coverages same_found

      stands : (s : State) → Represents here s → StandsAs (v.held ++ holds.snapshot ∷ []) x.job (job s)
      stands s r = record {
        number = sym x.number;
        names = sym (x.names ∙ named);
        left = sym x.left.0;
        cells = cells_of v.store q.coverages;
        stands = x.begun.stands (cells_of v.store q.coverages);
        answer = ap (λ (o : Store). evaluated o (Ok q)) r.store ∙ ap items_answer (sym (p.planned (cells_of v.store q.coverages)) ∙ ap (planned (cells_of v.store q.coverages)) (sym x.begun.plan));
        reading = λ some.
            let found = found_last number v.held holds.snapshot none holds.job in
            let reads : IsReading holds.snapshot (cells_of v.store q.coverages) x.job = sym same_cells ∙ ap (cells_of holds.snapshot.coverages) (sym coverages) in
            rw (x.number, found) reads;
      }

      few : left ≤ length q.combinations * (2 + query_work q.combinations)
      few =
          let a : left_of x.job.exec ≡ left = x.left.1 in
          let b : left_of x.job.exec ≤ max 1 (units plan) = subst (λ t. left_of x.job.exec ≤ max 1 (units t)) x.begun.plan x.begun.few in
          let c = some_units (length q.combinations) (query_work q.combinations) typed.some in
          let d = p.units in
          at_most (units plan) (length q.combinations * (2 + query_work q.combinations)) left (subst (λ n. n ≤ max 1 (units plan)) a b) d c
        where
          at_most : (u m l : ℕ) → l ≤ max 1 u → u ≤ m → 1 ≤ m → l ≤ m
          at_most u m l h k i = omega (arith, h, k, i)

      some_left : 1 ≤ left
      some_left = subst (λ n. 1 ≤ n) x.left.1 x.begun.some

      pub submitted : (reply : String Global) → string_bytes reply ≡ codes "job " ++ decimal number ++ codes " left " ++ decimal left ++ codes "\n"
          → Moves (Submits text) here (Text reply) (session w new)
      submitted reply is = λ sure s r.
          let room : length s.jobs < 64 = (let l = lengths v.held old.jobs s.jobs r.jobs in let k = x.room in omega (arith, l, k)) in
          let more = all_stand v.held (v.held ++ holds.snapshot ∷ []) old.jobs s.jobs (λ h. finds_push h.number v.held (holds.snapshot ∷ [])) r.jobs in (
            record { store = s.store; jobs = s.jobs ++ job s ∷ []; next = number_after number },
            record {
              store = r.store ∙ sym (ap (λ (u : ServerView). u.store) holds.others);
              jobs = rw (x.desk, holds.held) (one_more (v.held ++ holds.snapshot ∷ []) old.jobs s.jobs x.job (job s) more (stands s r));
              next = rw x.desk refl;
            },
            (Ok q, typed_at s r, at_this s.next number _ _ (r.next ∙ x.given) (inr (room, (left, some_left, few, is, refl)))),
          )

-- ---- fetching and dropping

module _ (v : ServerView) (old new : DeskView) (n : ℕ) where
  out : (s : State) → Represents (session v old) s → new ≡ desks.taken_out n old → Represents (session v new) (with_jobs s (without n s.jobs))
  out s r e = record { store = r.store; jobs = rw e (one_gone v.held n old.jobs s.jobs r.jobs); next = rw e r.next }

  -- the answer of a job that is done
  fetched : {a : _} (x : IsFetched n a old new) (reply : Reply)
      → ((j : Job) → StandsAs v.held x.job j → Tells j.answer reply) → Moves (Fetches n) (session v old) reply (session v new)
  fetched x reply f = λ sure s r.
      let at = at_job v.held n x.job old.jobs s.jobs r.jobs x.held in
      let done : at.job.left ≡ 0 = at.stands.left ∙ x.done in (
        with_jobs s (without n s.jobs),
        out s r x.desk,
        at_this (job_of n s.jobs) at.job _ _ at.held (inr (done, (f at.job at.stands, refl))),
      )

  pub fetched_text : (text : String Global) → IsFetched n (given.Text text) old new → Moves (Fetches n) (session v old) (Csv text) (session v new)
  fetched_text text x =
      fetched x (Csv text)
      (λ j st. subst (λ (a : QueryAnswer). Tells a (Csv text)) (sym (st.answer ∙ answer_text (planned st.cells (plan_of x.job.exec)) text (x.answer st.cells st.stands))) refl)

  pub fetched_fault : (f : PointFault) → IsFetched n (given.Refused f) old new → Moves (Fetches n) (session v old) (Refused (number_of (fault_refusal f))) (session v new)
  fetched_fault f x =
      fetched x (Refused (number_of (fault_refusal f)))
      (λ j st. subst (λ (a : QueryAnswer). Tells a (Refused (number_of (fault_refusal f)))) (sym (st.answer ∙ answer_fault (planned st.cells (plan_of x.job.exec)) f (x.answer st.cells st.stands))) refl)

-- a job that is dropped
pub cancelled : (v w : ServerView) (old new : DeskView) (n : ℕ) → IsDesk old → IsSome (desks.job_of n old.jobs) → new ≡ desks.taken_out n old → ReleasesFor n v w
    → (text : String Global) → string_bytes text ≡ codes "ok\n" → Moves (Cancels n) (session v old) (Text text) (session w new)
cancelled v w old new n desk some e gone text ok = λ sure s r. by_job s r (desks.job_of n old.jobs) refl some
  where
    by_job : (s : State) → Represents (session v old) s → (o : Option Held) → desks.job_of n old.jobs ≡ o → IsSome o
        → (t : State) × Represents (session w new) t × Cancels n s (Text text) t
    by_job s r None held y = absurd cc
    by_job s r (Some h) held y =
        let at = at_job v.held n h old.jobs s.jobs r.jobs held in
        let jobs = one_out v.held (without_job n v.held) n old.jobs s.jobs desk.rising (λ k differs. finds_left k.number n v.held differs) r.jobs in (
          with_jobs s (without n s.jobs),
          record { store = r.store ∙ sym (ap (λ (u : ServerView). u.store) gone.others); jobs = rw (e, gone.held) jobs; next = rw e r.next },
          at_this (job_of n s.jobs) at.job _ _ at.held (ok, refl),
        )

-- numbers of no job, and a job that is not done
module _ (v : ServerView) (old : DeskView) (n : ℕ) where
  pub fetch_absent : desks.job_of n old.jobs ≡ None → Moves (Fetches n) (session v old) (Refused (number_of NoSuchJob)) (session v old)
  fetch_absent none = λ sure s r. (s, r, at_nothing (job_of n s.jobs) _ _ (no_job v.held n old.jobs s.jobs r.jobs none) (refl, refl))

  pub fetch_early : (h : Held) → desks.job_of n old.jobs ≡ Some h → 0 < h.left → Moves (Fetches n) (session v old) (Refused (number_of NotReady)) (session v old)
  fetch_early h held some = λ sure s r.
      let at = at_job v.held n h old.jobs s.jobs r.jobs held in
      let left = at.stands.left in
      (s, r, at_this (job_of n s.jobs) at.job _ _ at.held (inl ((λ (e : at.job.left ≡ 0). absurd (omega (arith, left, e, some))), (refl, refl))))

  pub cancel_absent : desks.job_of n old.jobs ≡ None → Moves (Cancels n) (session v old) (Refused (number_of NoSuchJob)) (session v old)
  cancel_absent none = λ sure s r. (s, r, at_nothing (job_of n s.jobs) _ _ (no_job v.held n old.jobs s.jobs r.jobs none) (refl, refl))

  pub fetch_refused : (e : FetchError) → IsRefusedFetch n old.jobs e → AnsweredIn (Fetches n) ⊥ Never (session v old) (session v old) (Err (fetch_refusal e))
  fetch_refused fetching.NoSuchJob x = fetch_absent x
  fetch_refused fetching.NotReady x = fetch_early x.0 x.1 x.2
  fetch_refused fetching.NoMemory x = λ sure s r. r

-- the same of a refusal that is told in these words
pub fetch_refused_as : (v : ServerView) (old new : DeskView) (n : ℕ) (e : FetchError) (r : AnswerError) → r ≡ fetch_refusal e → new ≡ old → IsRefusedFetch n old.jobs e
    → AnsweredIn (Fetches n) ⊥ Never (session v old) (session v new) (Err r)
fetch_refused_as v old new n e r is same x =
    subst (λ (d : DeskView). AnsweredIn (Fetches n) ⊥ Never (session v old) (session v d) (Err r)) (sym same)
    (subst (λ (q : AnswerError). AnsweredIn (Fetches n) ⊥ Never (session v old) (session v old) (Err q)) (sym is) (fetch_refused v old n e x))

pub submit_failed_as : (v w : ServerView) (text : List ℕ) (old new : DeskView) (q : TypedTree) → IsTypedText v.store text q → (e : SubmitError) (r : AnswerError) → r ≡ submit_refusal e → new ≡ old
    → w ≡ v → IsRefusedSubmit old e → AnsweredIn (Submits text) ⊥ Never (session v old) (session w new) (Err r)
submit_failed_as v w text old new q typed e r is same stays x =
    subst (λ (u : ServerView). AnsweredIn (Submits text) ⊥ Never (session v old) (session u new) (Err r)) (sym stays)
    (subst (λ (d : DeskView). AnsweredIn (Submits text) ⊥ Never (session v old) (session v d) (Err r)) (sym same)
    (subst (λ (s : AnswerError). AnsweredIn (Submits text) ⊥ Never (session v old) (session v old) (Err s)) (sym is) (submit_failed v text old q typed e x)))
