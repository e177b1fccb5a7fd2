-- Jobs that are stepped: what stands for the machine's jobs then, and what is held.
use Rattle.std.proofs.Common.{◌≡◌, ℕ, zero, suc, ◌<◌, ◌≤◌, ◌-◌, ◌⊎◌, Bool, true, false, nat_eq, cond, List, [], ◌∷◌, ◌++◌, Option, None, Some, Result, Ok, Err, inl, inr, refl, sym, ap, ◌∙◌, subst, arith}
use Rattle.std.specs.Prelude.{All, IsTrue, IsSomeAnd, String, string_bytes, codes, decimal, option_map}
use Rattle.std.specs.declared.alloc.Global.{Global}
use Rattle.arr_core.specs.declared.refusal.Refusal.TheVariants.{NoSuchJob}
use Rattle.arr_core.specs.Refusals.{number_of}
use Rattle.arr_core.specs.declared.signature.Signature.{Signature}
use Rattle.arr_core.specs.Stores.{Store}
use Rattle.std.proofs.lemmas.Bool.{eqb-true}
use Rattle.std.proofs.lemmas.List.Elements.{All-head, All-tail}
use Rattle.raster_store.specs.Snapshots.{held_for, without_job}
use Rattle.raster_store.specs.Views.{SnapshotView}
use Rattle.job_desk.specs.declared.job.Job.{Job as Held}
use Rattle.job_desk.specs.Desks.{DeskView, IsDesk, IsJob, replaced}
use Rattle.job_desk.specs.Desks as desks
use Rattle.job_desk.specs.Steps.{IsChanged, IsLowered, IsHeldUp, IsRefusedStep, StepReports, Ends}
use Rattle.job_desk.specs.declared.error.StepError.{StepError}
use Rattle.job_desk.specs.declared.error.StepError.TheVariants as stepping
use Rattle.plan_ir.specs.Plans.{PlanTree}
use Rattle.plan_ir.specs.Planned.{planned}
use Rattle.plan_ir.specs.Units.{units}
use Rattle.tile_columns.specs.Sources.{SourceState}
use Rattle.tile_exec.specs.Standing.{StandsFor, StandsOn, plan_of}
use Rattle.wcps_mean.specs.declared.cells.CellError.{CellError}
use Rattle.wcps_mean.specs.declared.cells.CellError.TheVariants as cell
use Rattle.wcps_mean.specs.Reports.{Tells as TellsError}
use Rattle.http_front.specs.declared.reply.Reply.TheVariants.{Text, Refused}
use Rattle.coverage_server.specs.declared.error.AnswerError.{AnswerError}
use Rattle.coverage_server.specs.Answered.{AnsweredIn, Moves, Stays}
use Rattle.coverage_server.specs.Asking.{cells_of, items_answer}
use Rattle.coverage_server.specs.Machine.{Job, State, job_of, with_left, with_jobs, StepsJob}
use Rattle.coverage_server.specs.Holding.{AreHeldOnce, ReleasesFor, HoldsPlan, IsHolding}
use Rattle.coverage_server.specs.Leaving.{IsStill, LeavesJob, ReadsHeld}
use Rattle.coverage_server.specs.Represents.{IsReading, StandsAs, AreJobs, Represents}
use Rattle.coverage_server.specs.Stages.{cell_refusal, step_refusal}
use Rattle.coverage_server.specs.Tiles.{AreRead, AskedKept, HaveDomains, ReadsHonest, ReadsSpelled, asked_state, cells_at, held_or, signatures_at, store_for}
use Rattle.coverage_server.specs.Damage.{SpoilsHeld, SpoilsJob}
use Rattle.coverage_server.specs.Views.{IsHeld, ServerView, IsSound, session, still_of, without_held}
use Rattle.coverage_server.proofs.HeldLemmas.{Finds, finds_same, finds_left}
use Rattle.coverage_server.proofs.HoldingLemmas.{holding_kept, holding_ended}
use Rattle.coverage_server.proofs.StandingLemmas.{represents-same}
use Rattle.coverage_server.proofs.TileLemmas.{held_spoils, still_sound}
use Rattle.coverage_server.proofs.JobLemmas.{at_this, at_nothing, at_job, no_job, one_lowered, one_same, left_same}

-- ---- stepping

-- the job that a look-up of its left or of its coverages tells
pub absent_left : (n : ℕ) (hs : List Held) → None ≡ option_map (λ (j : Held). j.left) (desks.job_of n hs) → desks.job_of n hs ≡ None
absent_left n hs e = by_job (desks.job_of n hs) refl e
  where
    by_job : (o : Option Held) → desks.job_of n hs ≡ o → None ≡ option_map (λ (j : Held). j.left) o → desks.job_of n hs ≡ None
    by_job None is x = is
    by_job (Some h) is x = absurd cc

pub job_shown : (n left : ℕ) (hs : List Held) (h : Held) → desks.job_of n hs ≡ Some h → Some left ≡ option_map (λ (j : Held). j.left) (desks.job_of n hs) → left ≡ h.left
job_shown n left hs h is e = let x : Some left ≡ Some h.left = e ∙ ap (option_map (λ (j : Held). j.left)) is in cc

pub plan_shown : (n : ℕ) (cs : List Signature) (hs : List Held) (h : Held) → desks.job_of n hs ≡ Some h → Some cs ≡ option_map (λ (j : Held). (plan_of j.exec).coverages) (desks.job_of n hs)
    → cs ≡ (plan_of h.exec).coverages
plan_shown n cs hs h is e = let x : Some cs ≡ Some (plan_of h.exec).coverages = e ∙ ap (option_map (λ (j : Held). (plan_of j.exec).coverages)) is in cc

-- what is told of a job
pub job_told : (o : Option Held) (left : ℕ) → Some left ≡ option_map (λ (j : Held). j.left) o → (h : Held) × (o ≡ Some h) × (left ≡ h.left)
job_told None left e = absurd cc
job_told (Some h) left e = (h, refl, cc)

pub number_of_job : (n : ℕ) (hs : List Held) (h : Held) → desks.job_of n hs ≡ Some h → h.number ≡ n
number_of_job n [] h e = absurd cc
number_of_job n (g ∷ hs) h e = by_test (nat_eq g.number n) refl (λ k. number_of_job n hs h k)
  where
    by_test : (b : Bool) → nat_eq g.number n ≡ b → (desks.job_of n hs ≡ Some h → h.number ≡ n) → h.number ≡ n
    by_test true t later =
        let here : Some g ≡ Some h = rw t at e in
        let same : g ≡ h = cc in ap (λ (j : Held). j.number) (sym same) ∙ eqb-true g.number n t
    by_test false t later = later (rw t at e)

all_of : (P : Held → Type 0) (n : ℕ) (hs : List Held) (h : Held) → desks.job_of n hs ≡ Some h → All P hs → P h
all_of P n [] h e all = absurd cc
all_of P n (g ∷ hs) h e all = by_test (nat_eq g.number n) refl (λ k. all_of P n hs h k (All-tail P g hs all))
  where
    by_test : (b : Bool) → nat_eq g.number n ≡ b → (desks.job_of n hs ≡ Some h → P h) → P h
    by_test true t later =
        let here : Some g ≡ Some h = rw t at e in
        let same : g ≡ h = cc in subst P same (All-head P g hs all)
    by_test false t later = later (rw t at e)

-- what is held for a job that has units left
pub plan_held : (v : ServerView) (desk : DeskView) (n : ℕ) (h : Held) → IsHolding desk v.held → desks.job_of n desk.jobs ≡ Some h → 0 < h.left
    → IsSomeAnd (held_for n v.held) (λ x. AreHeldOnce x (plan_of h.exec).coverages)
plan_held v desk n h holding at some =
    subst (λ (k : ℕ). IsSomeAnd (held_for k v.held) (λ x. AreHeldOnce x (plan_of h.exec).coverages)) (number_of_job n desk.jobs h at)
    (all_of (HoldsPlan v.held) n desk.jobs h at holding.plans some)

-- is what its number reads
pub held_store : (v : ServerView) (n : ℕ) (cs : List Signature) → IsSomeAnd (held_for n v.held) (λ x. AreHeldOnce x cs)
    → All (IsHeld (store_for n v)) cs × IsSomeAnd (held_for n v.held) (λ x. x.coverages ≡ store_for n v)
held_store v n cs h = by_held (held_for n v.held) h
  where
    by_held : (o : Option SnapshotView) → IsSomeAnd o (λ x. AreHeldOnce x cs)
        → All (IsHeld (held_or o (cond (nat_eq n 0) v.store []))) cs × IsSomeAnd o (λ x. x.coverages ≡ held_or o (cond (nat_eq n 0) v.store []))
    by_held None h = absurd h
    by_held (Some x) h = (h.held, refl)

-- what is asked of a job that has units left
pub record Asked (v : ServerView) (n : ℕ) (cs : List Signature) (was : Held) : Type 0 where
  pub some : 0 < was.left
  pub coverages : cs ≡ (plan_of was.exec).coverages
  pub held : All (IsHeld (store_for n v)) cs
  pub is : IsSomeAnd (held_for was.number v.held) (λ x. x.coverages ≡ store_for n v)

pub is_asked : (v : ServerView) (desk : DeskView) (n left : ℕ) (cs : List Signature) → IsHolding desk v.held → Some left ≡ option_map (λ (j : Held). j.left) (desks.job_of n desk.jobs)
    → Some cs ≡ option_map (λ (j : Held). (plan_of j.exec).coverages) (desks.job_of n desk.jobs) → (left ≡ 0 → ⊥) → (was : Held) → desks.job_of n desk.jobs ≡ Some was → Asked v n cs was
is_asked v desk n left cs holding told plan none was at =
    let shown = job_shown n left desk.jobs was at told in
    let same = plan_shown n cs desk.jobs was at plan in
    let some : 0 < was.left = positive was.left (λ e. none (shown ∙ e)) in
    let held = held_store v n (plan_of was.exec).coverages (plan_held v desk n was holding at some) in
    record {
      some = some;
      coverages = same;
      held = subst (All (IsHeld (store_for n v))) (sym same) held.0;
      is = subst (λ (k : ℕ). IsSomeAnd (held_for k v.held) (λ x. x.coverages ≡ store_for n v)) (sym (number_of_job n desk.jobs was at)) held.1;
    }
  where
    positive : (k : ℕ) → (k ≡ 0 → ⊥) → 0 < k
    positive zero other = absurd (other refl)
    positive (suc k) other = omega arith

-- what was asked for
pub asked_store : (v w : ServerView) (n job : ℕ) → w ≡ v → job ≡ n → store_for job w ≡ store_for n v
asked_store v w n job same is = rw (same, is) refl

pub asked_cells : (v w : ServerView) (n job : ℕ) (asked : List Signature) (places : List ℕ) → w ≡ v → job ≡ n → AreRead (store_for n v) asked places
    → cells_at (store_for job w) places ≡ cells_of (store_for n v) asked
asked_cells v w n job asked places same is read = ap (λ (store : Store). cells_at store places) (asked_store v w n job same is) ∙ read.cells

pub asked_signatures : (v w : ServerView) (n job : ℕ) (asked : List Signature) (places : List ℕ) → w ≡ v → job ≡ n → AreRead (store_for n v) asked places
    → signatures_at (store_for job w) places ≡ asked
asked_signatures v w n job asked places same is read = ap (λ (store : Store). signatures_at store places) (asked_store v w n job same is) ∙ read.coverages

pub asked_honest : (v w : ServerView) (n job : ℕ) (asked : List Signature) (places : List ℕ) → w ≡ v → job ≡ n → AreRead (store_for n v) asked places → IsTrue v.honest
    → ReadsHonest w (signatures_at (store_for job w) places)
asked_honest v w n job asked places same is read sure = record {
  honest = subst (λ (u : ServerView). IsTrue u.honest) (sym same) sure;
  domains = subst HaveDomains (sym (asked_signatures v w n job asked places same is read)) read.domains;
}

-- a tile of what was asked for is not spelled
pub asked_spoils : (v w : ServerView) (n job : ℕ) (places : List ℕ) → w ≡ v → job ≡ n → IsSomeAnd (held_for n v.held) (λ x. x.coverages ≡ store_for n v) → IsTrue v.honest
    → (ReadsSpelled (still_of w) job places → ⊥) → SpoilsHeld n v
asked_spoils v w n job places same is some sure bad =
    let there : ReadsSpelled (still_of v) n places → ⊥ =
    subst (λ (u : ServerView). ReadsSpelled (still_of u) n places → ⊥) same (subst (λ (k : ℕ). ReadsSpelled (still_of w) k places → ⊥) is bad) in
    held_spoils v n places some (λ spelled. there (record { honest = sure; spelled = spelled }))

module _ (v m : ServerView) (still : still_of m ≡ still_of v) (old new : DeskView) (asked : List Signature) (store : Store) (n units : ℕ)
    {K : Type 0} (source : SourceState K) (reads : IsTrue v.honest → source.intact) (are : source.cells ≡ cells_of store asked) where
  -- what is asked are the coverages of the job's plan, as they are held for it
  abbrev IsAsked : Held → Type 0
  IsAsked was = (asked ≡ (plan_of was.exec).coverages) × IsSomeAnd (held_for was.number v.held) (λ x. x.coverages ≡ store)

  -- the job reads these cells
  job_cells : (was : Held) (j : Job) → IsAsked was → (x : StandsAs v.held was j) → 0 < was.left → x.cells ≡ source.cells
  job_cells was j is x some = by_held (held_for was.number v.held) (x.reading some) is.1
    where
      by_held : (o : Option SnapshotView) → IsSomeAnd o (λ y. IsReading y x.cells was) → IsSomeAnd o (λ y. y.coverages ≡ store) → x.cells ≡ source.cells
      by_held None h k = absurd h
      by_held (Some y) h k = h ∙ ap (λ (c : Store). cells_of c (plan_of was.exec).coverages) k ∙ ap (cells_of store) (sym is.0) ∙ sym are

  -- a job whose executor did units
  went_on : (ys : List SnapshotView) → source.intact → (was is : Held) (j : Job) (shown : ℕ) → IsAsked was → is.number ≡ was.number → is.names ≡ was.names → plan_of is.exec ≡ plan_of was.exec
      → StandsOn source was.exec is.exec → is.left ≡ shown → 0 < was.left → (0 < shown → ys ≡ v.held) → StandsAs v.held was j
      → StandsAs ys is (record { number = j.number; names = j.names; left = shown; answer = j.answer })
  went_on ys sound was is j shown same number names plan run left some kept x =
      let alike = job_cells was j same x some in
      record {
        number = x.number ∙ sym number;
        names = x.names ∙ sym names;
        left = sym left;
        cells = x.cells;
        stands = subst (λ s. StandsFor s is.exec) (sym alike) (run sound (subst (λ s. StandsFor s was.exec) alike x.stands));
        answer = x.answer ∙ ap (λ (p : PlanTree). items_answer (planned x.cells p)) (sym plan);
        reading = λ more.
            rw (kept (subst (λ (k : ℕ). 0 < k) left more), number)
            (subst (λ (p : PlanTree). IsSomeAnd (held_for was.number v.held) (λ y. x.cells ≡ cells_of y.coverages p.coverages)) (sym plan) (x.reading some));
      }

  -- a job of the desk is sound
  job_there : (hs : List Held) (h : Held) → desks.job_of n hs ≡ Some h → All IsJob hs → IsJob h
  job_there [] h e all = absurd cc
  job_there (g ∷ hs) h e all = by_test (λ y. job_there hs h y (λ k d l. all (suc k) d (omega (arith, l)))) (nat_eq g.number n) refl
    where
      by_test : (desks.job_of n hs ≡ Some h → IsJob h) → (b : Bool) → nat_eq g.number n ≡ b → IsJob h
      by_test rest true t =
          let here : desks.job_of n (g ∷ hs) ≡ Some g = rw t refl in
          let same : g ≡ h = cc in subst IsJob same (all 0 g (omega arith))
      by_test rest false t =
          let later : desks.job_of n (g ∷ hs) ≡ desks.job_of n hs = rw t refl in
          rest (sym later ∙ e)

  -- units were done: what is held stays while there are more, and else is let go
  module _ (desk : IsDesk old) (w : ServerView) (left : ℕ) (x : IsChanged (IsLowered source units left) n old new) (same : IsAsked x.was) (some : 0 < x.was.left)
      (ends : Ends (Ok left) (w ≡ m) (ReleasesFor n m w)) where
    -- what is held then
    held_then : ((0 < left) × (w.held ≡ v.held)) ⊎ ((left ≡ 0) × (w.held ≡ without_job n v.held))
    held_then = by_left left refl ends
      where
        by_left : (l : ℕ) → left ≡ l → Ends (Ok l) (w ≡ m) (ReleasesFor n m w) → ((0 < left) × (w.held ≡ v.held)) ⊎ ((left ≡ 0) × (w.held ≡ without_job n v.held))
        by_left zero e gone = inr (e, gone.held ∙ ap (λ (u : ServerView). without_job n u.held) still)
        by_left (suc l) e as_was = inl (omega (arith, e), ap (λ (u : ServerView). u.held) as_was ∙ ap (λ (u : ServerView). u.held) still)

    store_then : w.store ≡ v.store
    store_then = by_left left ends
      where
        by_left : (l : ℕ) → Ends (Ok l) (w ≡ m) (ReleasesFor n m w) → w.store ≡ v.store
        by_left zero gone = ap (λ (u : ServerView). u.store) gone.others ∙ ap (λ (u : ServerView). u.store) still
        by_left (suc l) as_was = ap (λ (u : ServerView). u.store) as_was ∙ ap (λ (u : ServerView). u.store) still

    finds : (h : Held) → nat_eq h.number n ≡ false → Finds h.number v.held w.held
    finds h differs = elim held_then [
      | inl k ↦ rw k.1 (finds_same h.number v.held)
      | inr k ↦ rw k.1 (finds_left h.number n v.held differs)
    ]

    kept : 0 < left → w.held ≡ v.held
    kept more = elim held_then [
      | inl k ↦ k.1
      | inr k ↦ absurd (let none = k.0 in omega (arith, none, more))
    ]

    pub holding_after : IsHolding old v.held → IsHolding new w.held
    holding_after was = elim held_then [
      | inl k ↦ rw (x.desk, k.1) (more_left left x.change.shown.0 k.0)
      | inr k ↦ rw (x.desk, k.1) (holding_ended n x.is x.was old v.held desk was x.held x.change.same.number (x.change.shown.0 ∙ k.0))
    ]
      where
        more_left : (l : ℕ) → x.is.left ≡ l → 0 < l → IsHolding (record { jobs = replaced n x.is old.jobs; next = old.next }) v.held
        more_left zero e positive = absurd (omega (arith, positive))
        more_left (suc l) e positive = holding_kept n l x.is x.was old v.held desk was x.held x.change.same.number x.change.same.run.plan e some

    pub stepped : (reply : String Global) → string_bytes reply ≡ codes "left " ++ decimal (x.was.left - units) ++ codes "\n"
        → Moves (StepsJob n units) (session v old) (Text reply) (session w new)
    stepped reply is = λ honest s r.
        let sure : source.intact = reads honest in
        let at = at_job v.held n x.was old.jobs s.jobs r.jobs x.held in
        let shown : at.job.left - units ≡ left = ap (λ l. l - units) at.stands.left ∙ sym x.change.shown.1 in
        let text : string_bytes reply ≡ codes "left " ++ decimal (at.job.left - units) ++ codes "\n" = is ∙ ap (λ l. codes "left " ++ decimal (l - units) ++ codes "\n") (sym at.stands.left) in
        let jobs : AreJobs w.held (replaced n x.is old.jobs) (with_left n left s.jobs) =
        one_lowered v.held w.held n left x.is old.jobs s.jobs desk.rising finds
        (λ h j e st.
        let this : h ≡ x.was = (let f = x.held in cc) in
        went_on w.held sure x.was x.is j left same x.change.same.number x.change.same.names x.change.same.run.plan x.change.same.run.stands x.change.shown.0 some kept
        (subst (λ (k : Held). StandsAs v.held k j) this st)) r.jobs in (
          with_jobs s (with_left n left s.jobs),
          record {
            store = r.store ∙ sym store_then;
            jobs = rw x.desk jobs;
            next = rw x.desk r.next;
          },
          at_this (job_of n s.jobs) at.job _ _ at.held (text, ap (λ l. with_jobs s (with_left n l s.jobs)) (sym shown)),
        )

  -- a unit failed
  module _ (desk : IsDesk old) (x : IsChanged (IsHeldUp source units) n old new) (same : IsAsked x.was) where
    units_left : 0 < x.was.left
    units_left =
        let ahead = (job_there old.jobs x.was x.held desk.each).ahead in
        let fewer = x.change.same.run.fewer in
        let more = x.change.more in omega (arith, ahead, fewer, more)

    pub holding_up : IsHolding old v.held → IsHolding new m.held
    holding_up was = rw (x.desk, ap (λ (u : ServerView). u.held) still) (by_left x.was.left refl)
      where
        by_left : (l : ℕ) → x.was.left ≡ l → IsHolding (record { jobs = replaced n x.is old.jobs; next = old.next }) v.held
        by_left zero e = absurd (let some = units_left in omega (arith, some, e))
        by_left (suc l) e = holding_kept n l x.is x.was old v.held desk was x.held x.change.same.number x.change.same.run.plan (x.change.shown ∙ e) units_left

    held_up : Stays (session v old) (session m new)
    held_up = λ sure s r.
        let jobs : AreJobs v.held (replaced n x.is old.jobs) s.jobs =
        one_same v.held n x.is old.jobs s.jobs
        (λ h j e st.
        let this : h ≡ x.was = (let f = x.held in cc) in
        let st' = subst (λ (k : Held). StandsAs v.held k j) this st in
        went_on v.held (reads sure) x.was x.is j j.left same x.change.same.number x.change.same.names x.change.same.run.plan x.change.same.run.stands
        (x.change.shown ∙ sym st'.left) units_left (λ _. refl) st') r.jobs in
        record {
          store = r.store ∙ sym (ap (λ (u : ServerView). u.store) still);
          jobs = rw (ap (λ (u : ServerView). u.held) still, x.desk) jobs;
          next = rw x.desk r.next;
        }

    pub step_failed : (Spelled : Type 0) (e : CellError) → (IsTrue v.honest → (Spelled → ⊥) → SpoilsHeld n v) → TellsError e Spelled v.failures m.failures
        → AnsweredIn (StepsJob n units) ⊥ (SpoilsJob n v) (session v old) (session m new) (Err (cell_refusal e))
    step_failed Spelled cell.NoMemory spoils told = held_up
    step_failed Spelled cell.DiskFault spoils told = (omega (arith, told), held_up)
    step_failed Spelled cell.Damaged spoils told = ((λ sure s r. (some_left s r, spoils sure told.0)), held_up)
      where
        some_left : (s : State) → Represents (session v old) s → IsSomeAnd (job_of n s.jobs) (λ j. 0 < j.left)
        some_left s r =
            let at = at_job v.held n x.was old.jobs s.jobs r.jobs x.held in
            let left : 0 < at.job.left = subst (λ (k : ℕ). 0 < k) (sym at.stands.left) units_left in
            subst (λ (o : Option Job). IsSomeAnd o (λ j. 0 < j.left)) (sym at.held) left

-- a number of no job, and a job without units left
pub step_absent : (v : ServerView) (old : DeskView) (n units : ℕ) → desks.job_of n old.jobs ≡ None → Moves (StepsJob n units) (session v old) (Refused (number_of NoSuchJob)) (session v old)
step_absent v old n units none = λ sure s r. (s, r, at_nothing (job_of n s.jobs) _ _ (no_job v.held n old.jobs s.jobs r.jobs none) (refl, refl))

pub step_done : (v : ServerView) (old : DeskView) (n units : ℕ) (h : Held) → desks.job_of n old.jobs ≡ Some h → h.left ≡ 0 → (reply : String Global)
    → string_bytes reply ≡ codes "left " ++ decimal (0 - units) ++ codes "\n" → Moves (StepsJob n units) (session v old) (Text reply) (session v old)
step_done v old n units h held none reply is = λ sure s r.
    let at = at_job v.held n h old.jobs s.jobs r.jobs held in
    let zero_left : at.job.left ≡ 0 = at.stands.left ∙ none in
    let shown : at.job.left - units ≡ at.job.left = omega (arith, zero_left) in
    let text : string_bytes reply ≡ codes "left " ++ decimal (at.job.left - units) ++ codes "\n" = is ∙ ap (λ l. codes "left " ++ decimal (l - units) ++ codes "\n") (sym zero_left) in
    let same : s ≡ with_jobs s (with_left n (at.job.left - units) s.jobs) = sym (ap (with_jobs s) (left_same n (at.job.left - units) s.jobs at.job at.held (sym shown))) in
    (s, r, at_this (job_of n s.jobs) at.job _ _ at.held (text, same))

-- what a refused step tells of the disk
abbrev pub StepTold : StepError → Type 0 → ℕ → ℕ → Type 0
StepTold stepping.NoSuchJob Spelled before after = after ≡ before
StepTold (stepping.Cells e) Spelled before after = TellsError e Spelled before after

pub step_told : {K : Type 0} (e : StepError) (spelled : K → Type 0) (before after : SourceState K) → StepReports (Err e) spelled before after → StepTold e (spelled before.kept) before.failures after.failures
step_told stepping.NoSuchJob spelled before after x = x
step_told (stepping.Cells e) spelled before after x = x

-- why no units were done, and what is held then
module _ (v m : ServerView) (still : still_of m ≡ still_of v) (old new : DeskView) (asked : List Signature) (store : Store) (n units : ℕ)
    {K : Type 0} (source : SourceState K) (reads : IsTrue v.honest → source.intact) (are : source.cells ≡ cells_of store asked) (desk : IsDesk old)
    (same : (was : Held) → desks.job_of n old.jobs ≡ Some was → IsAsked v m still old new asked store n units source reads are was) where
  pub step_refused : (Spelled : Type 0) (e : StepError) → ((was : Held) → desks.job_of n old.jobs ≡ Some was → IsTrue v.honest → (Spelled → ⊥) → SpoilsHeld n v)
      → IsRefusedStep source n units old new e → StepTold e Spelled v.failures m.failures
      → AnsweredIn (StepsJob n units) ⊥ (SpoilsJob n v) (session v old) (session m new) (Err (step_refusal e))
  step_refused Spelled stepping.NoSuchJob spoils x told = λ sure s r. (
    s,
    represents-same (session v old) (session m new) (ap (λ (u : ServerView). u.store) still) (ap (λ (u : ServerView). u.held) still) x.1 s r,
    at_nothing (job_of n s.jobs) _ _ (no_job v.held n old.jobs s.jobs r.jobs x.0) (refl, refl),
  )
  step_refused Spelled (stepping.Cells e) spoils x told =
      step_failed v m still old new asked store n units source reads are desk x (same x.was x.held) Spelled e (spoils x.was x.held) told

  pub step_holds : (e : StepError) → IsRefusedStep source n units old new e → IsHolding old v.held → IsHolding new m.held
  step_holds stepping.NoSuchJob x was = rw (x.1, ap (λ (u : ServerView). u.held) still) was
  step_holds (stepping.Cells e) x was = holding_up v m still old new asked store n units source reads are desk x (same x.was x.held) was

-- ---- what a step answers, and what it leaves

-- What is left where units were done.
pub record StepDone (v w : ServerView) (old new : DeskView) (n units left : ℕ) : Type 0 where
  pub moves : (reply : String Global) → string_bytes reply ≡ codes "left " ++ decimal (left - units) ++ codes "\n" → Moves (StepsJob n units) (session v old) (Text reply) (session w new)
  pub holding : IsHolding new w.held
  pub others : still_of (without_held w) ≡ still_of (without_held v)
  pub sound : IsSound v → IsSound w
  pub no_fewer : v.failures ≤ w.failures

pub ends_as : {P P' Q Q' : Type 0} (r : Result ℕ StepError) → (P → P') → (Q → Q') → Ends r P Q → Ends r P' Q'
ends_as (Ok zero) f g e = g e
ends_as (Ok (suc left)) f g e = f e
ends_as (Err e) f g x = f x

-- what is left but for what is held, where it stays or is let go
ends_others : (n left : ℕ) (m w : ServerView) → Ends (Ok left) (w ≡ m) (ReleasesFor n m w) → (without_held w ≡ without_held m) × (IsSound m → IsSound w)
ends_others n zero m w gone = (gone.others, gone.sound)
ends_others n (suc left) m w same = (ap without_held same, λ sound. subst IsSound (sym same) sound)

-- a step that was done leaves the count of failures as it was
pub step_quiet : (n left : ℕ) (v u m w : ServerView) → u ≡ v → m.failures ≡ u.failures → Ends (Ok left) (w ≡ m) (ReleasesFor n m w) → w.failures ≡ v.failures
step_quiet n left v u m w same quiet ends =
    ap (λ (x : ServerView). x.failures) (ends_others n left m w ends).0 ∙ quiet ∙ ap (λ (x : ServerView). x.failures) same

module _ (v w' : ServerView) (old new : DeskView) (n units left : ℕ) (asked : List Signature) (places : List ℕ) (job : ℕ) (same : w' ≡ v) (is : job ≡ n)
    (read : AreRead (store_for n v) asked places) (desk : IsDesk old) (holding : IsHolding old v.held) (told : Some left ≡ option_map (λ (j : Held). j.left) (desks.job_of n old.jobs))
    (plan : Some asked ≡ option_map (λ (j : Held). (plan_of j.exec).coverages) (desks.job_of n old.jobs)) (none : left ≡ 0 → ⊥) (m : ServerView) (kept : still_of m ≡ still_of w') where
  abbrev pub source : SourceState AskedKept
  source = asked_state job places w'

  still : still_of m ≡ still_of v
  still = kept ∙ ap still_of same

  reads : IsTrue v.honest → source.intact
  reads sure = asked_honest v w' n job asked places same is read sure

  are : source.cells ≡ cells_of (store_for n v) asked
  are = asked_cells v w' n job asked places same is read

  asks : (was : Held) → desks.job_of n old.jobs ≡ Some was → Asked v n asked was
  asks was at = is_asked v old n left asked holding told plan none was at

  pub step_ok : (w : ServerView) (after : ℕ) (x : IsChanged (IsLowered source units after) n old new) → Ends (Ok after) (w ≡ m) (ReleasesFor n m w) → m.failures ≡ w'.failures
      → StepDone v w old new n units left
  step_ok w after x ends quiet =
      let a = asks x.was x.held in
      let others = ends_others n after m w ends in
      record {
        moves = λ reply text.
            stepped v m still old new asked (store_for n v) n units source reads are desk w after x (a.coverages, a.is) a.some ends reply
            (text ∙ ap (λ l. codes "left " ++ decimal (l - units) ++ codes "\n") (job_shown n left old.jobs x.was x.held told));
        holding = holding_after v m still old new asked (store_for n v) n units source reads are desk w after x (a.coverages, a.is) a.some ends holding;
        others = ap still_of others.0 ∙ ap without_held still;
        sound = λ sound. others.1 (still_sound v m still sound);
        no_fewer = (let f = step_quiet n after v w' m w same quiet ends in omega (arith, f));
      }

  asks_as : (was : Held) → desks.job_of n old.jobs ≡ Some was → IsAsked v m still old new asked (store_for n v) n units source reads are was
  asks_as was at = let a = asks was at in (a.coverages, a.is)

  spoils : (was : Held) → desks.job_of n old.jobs ≡ Some was → IsTrue v.honest → (ReadsSpelled (still_of w') job places → ⊥) → SpoilsHeld n v
  spoils was at sure bad =
      let there = subst (λ (k : ℕ). IsSomeAnd (held_for k v.held) (λ x. x.coverages ≡ store_for n v)) (number_of_job n old.jobs was at) (asks was at).is in
      asked_spoils v w' n job places same is there sure bad

  pub step_err : (w : ServerView) (e : StepError) (r : AnswerError) → w ≡ m → r ≡ step_refusal e → IsRefusedStep source n units old new e
      → (after : SourceState AskedKept) → after.failures ≡ m.failures → StepReports (Err e) (λ (k : AskedKept). ReadsSpelled k.0 k.1 k.2) source after
      → AnsweredIn (StepsJob n units) ⊥ (SpoilsJob n v) (session v old) (session w new) (Err r) × IsHolding new w.held
  step_err w e r as_was told_as x after is_after reports =
      let answered = step_refused v m still old new asked (store_for n v) n units source reads are desk asks_as (ReadsSpelled (still_of w') job places) e spoils x
      (subst (λ (k : ℕ). StepTold e (ReadsSpelled (still_of w') job places) k m.failures) (ap (λ (u : ServerView). u.failures) same)
      (subst (StepTold e (ReadsSpelled (still_of w') job places) w'.failures) is_after (step_told e (λ (k : AskedKept). ReadsSpelled k.0 k.1 k.2) source after reports))) in
      let holds = step_holds v m still old new asked (store_for n v) n units source reads are desk asks_as e x holding in (
        subst (λ (u : ServerView). AnsweredIn (StepsJob n units) ⊥ (SpoilsJob n v) (session v old) (session u new) (Err r)) (sym as_was)
            (subst (λ (q : AnswerError). AnsweredIn (StepsJob n units) ⊥ (SpoilsJob n v) (session v old) (session m new) (Err q)) (sym told_as) answered),
        subst (λ (u : ServerView). IsHolding new u.held) (sym as_was) holds,
      )

-- the count of failures never falls where a step is refused
told_no_fewer : (e : StepError) (Spelled : Type 0) (before after : ℕ) → StepTold e Spelled before after → before ≤ after
told_no_fewer stepping.NoSuchJob Spelled before after told = omega (arith, told)
told_no_fewer (stepping.Cells cell.NoMemory) Spelled before after told = omega (arith, told)
told_no_fewer (stepping.Cells cell.DiskFault) Spelled before after told = told.0
told_no_fewer (stepping.Cells cell.Damaged) Spelled before after told = omega (arith, told.1)

-- a refused step leaves the coverages as what it read left them
pub refused_reads : {K : Type 0} (e : StepError) (spelled : K → Type 0) (v u m w : ServerView) (before after : SourceState K) → u ≡ v → still_of m ≡ still_of u → w ≡ m
    → before.failures ≡ u.failures → after.failures ≡ m.failures → StepReports (Err e) spelled before after → ReadsHeld v w
refused_reads e spelled v u m w before after same kept ends is_before is_after reports =
    let rises = told_no_fewer e (spelled before.kept) before.failures after.failures (step_told e spelled before after reports) in
    let still : still_of w ≡ still_of v = ap still_of ends ∙ kept ∙ ap still_of same in
    record {
      others = ap without_held still;
      sound = still_sound v w still;
      no_fewer = (let f = ap (λ (x : ServerView). x.failures) ends in let g = ap (λ (x : ServerView). x.failures) same in omega (arith, f, g, is_before, is_after, rises));
    }

-- what a refused step leaves of the jobs, on any disk
pub step_leaves : {K : Type 0} (s : SourceState K) (n units : ℕ) (old new : DeskView) (e : StepError) → IsRefusedStep s n units old new e → LeavesJob n old new
step_leaves s n units old new stepping.NoSuchJob x = inl x.1
step_leaves s n units old new (stepping.Cells e) x =
    let c = x.change in
    let same : IsStill x.was x.is = record { number = c.same.number; names = c.same.names; left = c.shown; plan = c.same.run.plan; fewer = c.same.run.fewer } in
    inr (record { was = x.was; is = x.is; held = x.held; change = same; desk = x.desk })
