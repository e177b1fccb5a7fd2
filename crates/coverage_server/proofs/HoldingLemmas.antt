-- For which jobs coverages are held, where a job comes, is stepped or goes.
use Rattle.std.proofs.Common.{◌≡◌, ℕ, zero, suc, ◌+◌, ◌^◌, ◌-◌, ◌<◌, nat_eq, nat_lt, cond, Bool, true, false, List, [], ◌∷◌, ◌++◌, map, None, Some, refl, sym, ap, ◌∙◌, subst, arith}
use Rattle.std.specs.Prelude.{IsSomeAnd, All}
use Rattle.std.specs.List.{AllByRecursion as Each, AllPairs, filter}
use Rattle.std.proofs.lemmas.Bool.{eqb-true, lt-ltb}
use Rattle.std.proofs.lemmas.List.{map-append}
use Rattle.std.proofs.lemmas.List.Elements.{All-head, All-tail, All-cons, All-nil, All-push, All-weaker, filter-append}
use Rattle.job_desk.specs.declared.job.Job.{Job as Held}
use Rattle.arr_core.specs.Numbers.{number_after}
use Rattle.job_desk.specs.Desks.{DeskView, IsDesk, IsSubmitted, job_of, replaced, without, taken_out}
use Rattle.plan_ir.specs.Plans.{PlanTree}
use Rattle.raster_store.specs.Snapshots.{held_for, without_job, AreSameSnapshots}
use Rattle.raster_store.specs.Views.{SnapshotView}
use Rattle.tile_exec.specs.Standing.{plan_of}
use Rattle.coverage_server.specs.Holding.{reading, AreHeldOnce, HoldsPlan, IsHolding}
use Rattle.coverage_server.proofs.HeldLemmas.{Finds, finds_push, finds_left, found_last, same_jobs, same_for}

-- ---- numbers

-- a number is none of these
abbrev pub IsNone : ℕ → List ℕ → Type 0
IsNone n ms = Each (λ (m : ℕ). nat_eq m n ≡ false) ms

-- the numbers without the first of this one
abbrev pub out : ℕ → List ℕ → List ℕ
out n [] = []
out n (m ∷ ms) = cond (nat_eq m n) ms (m ∷ out n ms)

other : (m n : ℕ) → (m ≡ n → ⊥) → nat_eq m n ≡ false
other m n differs = by_test (nat_eq m n) refl
  where
    by_test : (b : Bool) → nat_eq m n ≡ b → nat_eq m n ≡ false
    by_test true t = absurd (differs (eqb-true m n t))
    by_test false t = t

none_out : (n : ℕ) (ms : List ℕ) → IsNone n ms → out n ms ≡ ms
none_out n [] none = refl
none_out n (m ∷ ms) none = rw (none.0, none_out n ms none.1) refl

none_held : (n : ℕ) (xs : List SnapshotView) → IsNone n (map (λ (x : SnapshotView). x.job) xs) → held_for n xs ≡ None
none_held n [] none = refl
none_held n (x ∷ xs) none = rw none.0 (none_held n xs none.1)

jobs_left : (n : ℕ) (xs : List SnapshotView) → map (λ (x : SnapshotView). x.job) (without_job n xs) ≡ out n (map (λ (x : SnapshotView). x.job) xs)
jobs_left n [] = refl
jobs_left n (x ∷ xs) = by_test (nat_eq x.job n) refl (jobs_left n xs)
  where
    by_test : (b : Bool) → nat_eq x.job n ≡ b → map (λ (y : SnapshotView). y.job) (without_job n xs) ≡ out n (map (λ (y : SnapshotView). y.job) xs)
        → map (λ (y : SnapshotView). y.job) (without_job n (x ∷ xs)) ≡ out n (map (λ (y : SnapshotView). y.job) (x ∷ xs))
    by_test true t later = rw t refl
    by_test false t later = rw t (ap (λ (l : List ℕ). x.job ∷ l) later)

-- ---- the jobs that have units left

-- one more or not, by whether it has units left
pub more_left : (h : Held) (hs : List Held) (l : ℕ) → h.left ≡ suc l → reading (h ∷ hs) ≡ h.number ∷ reading hs
more_left h hs l e = let t : nat_lt 0 h.left ≡ true = lt-ltb 0 h.left (omega (arith, e)) in rw t refl

pub none_left : (h : Held) (hs : List Held) → h.left ≡ 0 → reading (h ∷ hs) ≡ reading hs
none_left h hs e = rw e refl

none_read : (n : ℕ) (hs : List Held) → All (λ (j : Held). nat_eq j.number n ≡ false) hs → IsNone n (reading hs)
none_read n [] all = tt
none_read n (h ∷ hs) all = by_left (none_read n hs (All-tail (λ (j : Held). nat_eq j.number n ≡ false) h hs all)) h.left refl
  where
    by_left : IsNone n (reading hs) → (l : ℕ) → h.left ≡ l → IsNone n (reading (h ∷ hs))
    by_left rest zero e = rw (none_left h hs e) rest
    by_left rest (suc l) e = rw (more_left h hs l e) (All-head (λ (j : Held). nat_eq j.number n ≡ false) h hs all, rest)

-- jobs whose numbers rise
abbrev pub Rise : List Held → Type 0
Rise hs = AllPairs (λ (a b : Held). a.number < b.number) hs

above : (h : Held) (hs : List Held) → Rise (h ∷ hs) → All (λ (j : Held). h.number < j.number) hs
above h hs rise = λ k d l. rise 0 (suc k) d (omega arith) (omega (arith, l))

pub rise_tail : (h : Held) (hs : List Held) → Rise (h ∷ hs) → Rise hs
rise_tail h hs rise = λ i j d less within. rise (suc i) (suc j) d (omega (arith, less)) (omega (arith, within))

-- behind the one with a number none has it
pub later_others : (n : ℕ) (h : Held) (hs : List Held) → Rise (h ∷ hs) → nat_eq h.number n ≡ true → All (λ (j : Held). nat_eq j.number n ≡ false) hs
later_others n h hs rise t =
    All-weaker (λ (j : Held). h.number < j.number) (λ (j : Held). nat_eq j.number n ≡ false)
    (λ j more. other j.number n (λ (same : j.number ≡ n). let is = eqb-true h.number n t in absurd (omega (arith, more, same, is)))) hs (above h hs rise)

-- the jobs without one, and those where one has no units left any more
pub reading_left : (n : ℕ) (hs : List Held) → Rise hs → reading (without n hs) ≡ out n (reading hs)
reading_left n [] rise = refl
reading_left n (h ∷ hs) rise = by_test (nat_eq h.number n) refl h.left refl (reading_left n hs (rise_tail h hs rise))
  where
    by_test : (b : Bool) → nat_eq h.number n ≡ b → (l : ℕ) → h.left ≡ l → reading (without n hs) ≡ out n (reading hs) → reading (without n (h ∷ hs)) ≡ out n (reading (h ∷ hs))
    by_test true t zero e later = rw (t, none_left h hs e) (sym (none_out n (reading hs) (none_read n hs (later_others n h hs rise t))))
    by_test true t (suc l) e later = rw (t, more_left h hs l e) (rw t refl)
    by_test false t zero e later = rw (t, none_left h hs e, none_left h (without n hs) e) later
    by_test false t (suc l) e later = rw (t, more_left h hs l e, more_left h (without n hs) l e) (rw t (ap (λ (m : List ℕ). h.number ∷ m) later))

pub reading_ended : (n : ℕ) (is : Held) (hs : List Held) → is.left ≡ 0 → Rise hs → reading (replaced n is hs) ≡ out n (reading hs)
reading_ended n is [] none rise = refl
reading_ended n is (h ∷ hs) none rise = by_test (nat_eq h.number n) refl h.left refl (reading_ended n is hs none (rise_tail h hs rise))
  where
    by_test : (b : Bool) → nat_eq h.number n ≡ b → (l : ℕ) → h.left ≡ l → reading (replaced n is hs) ≡ out n (reading hs) → reading (replaced n is (h ∷ hs)) ≡ out n (reading (h ∷ hs))
    by_test true t zero e later = rw (t, none_left h hs e, none_left is hs none) (sym (none_out n (reading hs) (none_read n hs (later_others n h hs rise t))))
    by_test true t (suc l) e later = rw (t, more_left h hs l e, none_left is hs none) (rw t refl)
    by_test false t zero e later = rw (t, none_left h hs e, none_left h (replaced n is hs) e) later
    by_test false t (suc l) e later = rw (t, more_left h hs l e, more_left h (replaced n is hs) l e) (rw t (ap (λ (m : List ℕ). h.number ∷ m) later))

-- and where one has units left still
pub reading_kept : (n l : ℕ) (is was : Held) (hs : List Held) → job_of n hs ≡ Some was → is.number ≡ was.number → is.left ≡ suc l → 0 < was.left
    → reading (replaced n is hs) ≡ reading hs
reading_kept n l is was [] at number some was_some = absurd cc
reading_kept n l is was (h ∷ hs) at number some was_some = by_test (nat_eq h.number n) refl h.left refl (λ k. reading_kept n l is was hs k number some was_some)
  where
    by_test : (b : Bool) → nat_eq h.number n ≡ b → (m : ℕ) → h.left ≡ m → (job_of n hs ≡ Some was → reading (replaced n is hs) ≡ reading hs) → reading (replaced n is (h ∷ hs)) ≡ reading (h ∷ hs)
    by_test true t m e later =
        let here : Some h ≡ Some was = rw t at at in
        let same : h ≡ was = cc in
        by_size m e same
      where
        by_size : (m : ℕ) → h.left ≡ m → h ≡ was → reading (replaced n is (h ∷ hs)) ≡ reading (h ∷ hs)
        by_size zero e same = absurd (let left = ap (λ (j : Held). j.left) same in omega (arith, left, e, was_some))
        by_size (suc m) e same = rw (t, more_left h hs m e, more_left is hs l some) (ap (λ (k : ℕ). k ∷ reading hs) (number ∙ sym (ap (λ (j : Held). j.number) same)))
    by_test false t zero e later = rw (t, none_left h hs e, none_left h (replaced n is hs) e) (later (rw t at at))
    by_test false t (suc m) e later =
        rw (t, more_left h hs m e, more_left h (replaced n is hs) m e) (ap (λ (k : List ℕ). h.number ∷ k) (later (rw t at at)))

-- a job without units left goes
pub reading_done : (n : ℕ) (was : Held) (hs : List Held) → job_of n hs ≡ Some was → was.left ≡ 0 → reading (without n hs) ≡ reading hs
reading_done n was [] at none = refl
reading_done n was (h ∷ hs) at none = by_test (nat_eq h.number n) refl h.left refl (λ k. reading_done n was hs k none)
  where
    by_test : (b : Bool) → nat_eq h.number n ≡ b → (l : ℕ) → h.left ≡ l → (job_of n hs ≡ Some was → reading (without n hs) ≡ reading hs) → reading (without n (h ∷ hs)) ≡ reading (h ∷ hs)
    by_test true t l e later =
        let here : Some h ≡ Some was = rw t at at in
        let same : h ≡ was = cc in
        let empty : h.left ≡ 0 = ap (λ (j : Held). j.left) same ∙ none in rw (t, none_left h hs empty) refl
    by_test false t zero e later = rw (t, none_left h hs e, none_left h (without n hs) e) (later (rw t at at))
    by_test false t (suc l) e later =
        rw (t, more_left h hs l e, more_left h (without n hs) l e) (ap (λ (k : List ℕ). h.number ∷ k) (later (rw t at at)))

pub reading_more : (hs : List Held) (h : Held) → 0 < h.left → reading (hs ++ h ∷ []) ≡ reading hs ++ h.number ∷ []
reading_more hs h some =
    let t : nat_lt 0 h.left ≡ true = lt-ltb 0 h.left some in
    let one : filter (λ (j : Held). nat_lt 0 j.left) (h ∷ []) ≡ h ∷ [] = rw t refl in
    ap (map (λ (j : Held). j.number)) (filter-append (λ (j : Held). nat_lt 0 j.left) hs (h ∷ []) ∙ ap (λ (l : List Held). filter (λ (j : Held). nat_lt 0 j.left) hs ++ l) one)
    ∙ map-append (λ (j : Held). j.number) (filter (λ (j : Held). nat_lt 0 j.left) hs) (h ∷ [])

-- ---- what is said of each job

pub all_left : (P : Held → Type 0) (n : ℕ) (hs : List Held) → All P hs → All P (without n hs)
all_left P n [] all = all
all_left P n (h ∷ hs) all = by_test (nat_eq h.number n) refl (all_left P n hs (All-tail P h hs all))
  where
    by_test : (b : Bool) → nat_eq h.number n ≡ b → All P (without n hs) → All P (without n (h ∷ hs))
    by_test true t later = rw t (All-tail P h hs all)
    by_test false t later = rw t (All-cons P h (without n hs) (All-head P h hs all) later)

-- where one is made another, the others being other numbers
pub all_replaced : (P Q : Held → Type 0) (n : ℕ) (is : Held) (hs : List Held) → Rise hs → ((h : Held) → nat_eq h.number n ≡ false → P h → Q h)
    → ((h : Held) → job_of n hs ≡ Some h → P h → Q is) → All P hs → All Q (replaced n is hs)
all_replaced P Q n is [] rise others one all = All-nil Q
all_replaced P Q n is (h ∷ hs) rise others one all =
    by_test (nat_eq h.number n) refl (λ f. all_replaced P Q n is hs (rise_tail h hs rise) others f (All-tail P h hs all))
  where
    by_test : (b : Bool) → nat_eq h.number n ≡ b → (((g : Held) → job_of n hs ≡ Some g → P g → Q is) → All Q (replaced n is hs)) → All Q (replaced n is (h ∷ hs))
    by_test true t later =
        let here : job_of n (h ∷ hs) ≡ Some h = rw t refl in
        let rest = later_others n h hs rise t in
        rw t (All-cons Q is hs (one h here (All-head P h hs all)) (λ k d l. others _ (rest k d l) (All-tail P h hs all k d l)))
    by_test false t later =
        let skip : job_of n (h ∷ hs) ≡ job_of n hs = rw t refl in
        rw t (All-cons Q h (replaced n is hs) (others h t (All-head P h hs all)) (later (λ g e. one g (skip ∙ e))))

-- where one goes
pub all_others : (P Q : Held → Type 0) (n : ℕ) (hs : List Held) → Rise hs → ((h : Held) → nat_eq h.number n ≡ false → P h → Q h) → All P hs → All Q (without n hs)
all_others P Q n [] rise others all = All-nil Q
all_others P Q n (h ∷ hs) rise others all = by_test (nat_eq h.number n) refl (all_others P Q n hs (rise_tail h hs rise) others (All-tail P h hs all))
  where
    by_test : (b : Bool) → nat_eq h.number n ≡ b → All Q (without n hs) → All Q (without n (h ∷ hs))
    by_test true t later =
        let rest = later_others n h hs rise t in
        rw t (λ k d l. others _ (rest k d l) (All-tail P h hs all k d l))
    by_test false t later = rw t (All-cons Q h (without n hs) (others h t (All-head P h hs all)) later)

-- what is held for a job is found still
plan_found : (xs ys : List SnapshotView) (h : Held) → Finds h.number xs ys → HoldsPlan xs h → HoldsPlan ys h
plan_found xs ys h finds x = λ some. finds _ (x some)

-- ---- between two requests

-- nothing is held for number 0, nor for the next number
pub unheld_zero : (desk : DeskView) (xs : List SnapshotView) → IsHolding desk xs → held_for 0 xs ≡ None
unheld_zero desk xs x =
    none_held 0 xs (rw x.jobs (none_read 0 desk.jobs
    (All-weaker (λ (j : Held). 0 < j.number) (λ (j : Held). nat_eq j.number 0 ≡ false) (λ j some. other j.number 0 (λ (e : j.number ≡ 0). absurd (omega (arith, some, e)))) desk.jobs x.numbers)))

pub unheld_next : (desk : DeskView) (xs : List SnapshotView) (n : ℕ) → IsDesk desk → IsHolding desk xs → desk.next ≡ Some n → held_for n xs ≡ None
unheld_next desk xs n is x given =
    none_held n xs (rw x.jobs (none_read n desk.jobs
    (All-weaker (λ (j : Held). j.number < n) (λ (j : Held). nat_eq j.number n ≡ false) (λ j less. other j.number n (λ (e : j.number ≡ n). absurd (omega (arith, less, e)))) desk.jobs (is.below n given))))

-- what stays as it is but for its values
pub holding_same : (desk : DeskView) (xs ys : List SnapshotView) → AreSameSnapshots xs ys → IsHolding desk xs → IsHolding desk ys
holding_same desk xs ys same x = record {
  jobs = same_jobs xs ys same ∙ x.jobs;
  plans = All-weaker (HoldsPlan xs) (HoldsPlan ys) (λ j h some. same_for j.number (plan_of j.exec).coverages xs ys same (h some)) desk.jobs x.plans;
  numbers = x.numbers;
  next = x.next;
}

after : (n m : ℕ) → number_after n ≡ Some m → 0 < m
after n m e = by_test (nat_lt n (2 ^ 64 - 1)) e
  where
    by_test : (b : Bool) → cond b (Some (n + 1)) None ≡ Some m → 0 < m
    by_test true e = let same : n + 1 ≡ m = cc in omega (arith, same)
    by_test false e = absurd cc

-- a job comes
pub holding_more : (plan : PlanTree) (names : List (List ℕ)) (n units : ℕ) (old new : DeskView) (xs ys : List SnapshotView) (x : SnapshotView) → IsHolding old xs → held_for n xs ≡ None
    → IsSubmitted plan names n units old new → 0 < units → x.job ≡ n → AreHeldOnce x plan.coverages → ys ≡ xs ++ x ∷ [] → IsHolding new ys
holding_more plan names n units old new xs ys x holding none s some job held is =
    let left : 0 < s.job.left = (let e = s.left.0 in omega (arith, e, some)) in
    let number : x.job ≡ s.job.number = job ∙ sym s.number in
    let found = found_last n xs x none job in
    let own : HoldsPlan (xs ++ x ∷ []) s.job = λ _.
    rw (s.number, found) (subst (λ (p : PlanTree). AreHeldOnce x p.coverages) (sym s.begun.plan) held) in
    rw (s.desk, is)
    (record {
      jobs = map-append (λ (y : SnapshotView). y.job) xs (x ∷ []) ∙ ap (λ (l : List ℕ). l ++ x.job ∷ []) holding.jobs
          ∙ ap (λ (m : ℕ). reading old.jobs ++ m ∷ []) number ∙ sym (reading_more old.jobs s.job left);
      plans = All-push (HoldsPlan (xs ++ x ∷ [])) old.jobs s.job
          (All-weaker (HoldsPlan xs) (HoldsPlan (xs ++ x ∷ [])) (λ j h. plan_found xs (xs ++ x ∷ []) j (finds_push j.number xs (x ∷ [])) h) old.jobs holding.plans) own;
      numbers = All-push (λ (j : Held). 0 < j.number) old.jobs s.job holding.numbers (rw s.number (holding.next n s.given));
      next = λ m e. after n m e;
    })

-- a job is stepped, and has units left still
pub holding_kept : (n l : ℕ) (is was : Held) (old : DeskView) (xs : List SnapshotView) → IsDesk old → IsHolding old xs → job_of n old.jobs ≡ Some was → is.number ≡ was.number
    → plan_of is.exec ≡ plan_of was.exec → is.left ≡ suc l → 0 < was.left → IsHolding (record { jobs = replaced n is old.jobs; next = old.next }) xs
holding_kept n l is was old xs desk x at number plan some was_some = record {
  jobs = x.jobs ∙ sym (reading_kept n l is was old.jobs at number some was_some);
  plans = all_replaced (HoldsPlan xs) (HoldsPlan xs) n is old.jobs desk.rising (λ h _ p. p)
      (λ h e p. let same : h ≡ was = cc in λ _. subst (λ (q : PlanTree). IsSomeAnd (held_for is.number xs) (λ x. AreHeldOnce x q.coverages)) (sym plan)
      (rw number (subst (HoldsPlan xs) same p was_some))) x.plans;
  numbers = all_replaced (λ (j : Held). 0 < j.number) (λ (j : Held). 0 < j.number) n is old.jobs desk.rising (λ h _ p. p)
      (λ h e p. let same : h ≡ was = cc in let of_h = ap (λ (j : Held). j.number) same in omega (arith, p, of_h, number)) x.numbers;
  next = x.next;
}

-- a job is stepped to its end
pub holding_ended : (n : ℕ) (is was : Held) (old : DeskView) (xs : List SnapshotView) → IsDesk old → IsHolding old xs → job_of n old.jobs ≡ Some was → is.number ≡ was.number
    → is.left ≡ 0 → IsHolding (record { jobs = replaced n is old.jobs; next = old.next }) (without_job n xs)
holding_ended n is was old xs desk x at number none = record {
  jobs = jobs_left n xs ∙ ap (out n) x.jobs ∙ sym (reading_ended n is old.jobs none desk.rising);
  plans = all_replaced (HoldsPlan xs) (HoldsPlan (without_job n xs)) n is old.jobs desk.rising
      (λ h differs p. plan_found xs (without_job n xs) h (finds_left h.number n xs differs) p) (λ h e p. λ some. absurd (omega (arith, some, none))) x.plans;
  numbers = all_replaced (λ (j : Held). 0 < j.number) (λ (j : Held). 0 < j.number) n is old.jobs desk.rising (λ h _ p. p)
      (λ h e p. let same : h ≡ was = cc in let of_h = ap (λ (j : Held). j.number) same in omega (arith, p, of_h, number)) x.numbers;
  next = x.next;
}

-- a job is dropped
pub holding_left : (n : ℕ) (old : DeskView) (xs : List SnapshotView) → IsDesk old → IsHolding old xs → IsHolding (taken_out n old) (without_job n xs)
holding_left n old xs desk x = record {
  jobs = jobs_left n xs ∙ ap (out n) x.jobs ∙ sym (reading_left n old.jobs desk.rising);
  plans = all_others (HoldsPlan xs) (HoldsPlan (without_job n xs)) n old.jobs desk.rising
      (λ h differs p. plan_found xs (without_job n xs) h (finds_left h.number n xs differs) p) x.plans;
  numbers = all_left (λ (j : Held). 0 < j.number) n old.jobs x.numbers;
  next = x.next;
}

-- a job without units left goes
pub holding_done : (n : ℕ) (was : Held) (old : DeskView) (xs : List SnapshotView) → IsHolding old xs → job_of n old.jobs ≡ Some was → was.left ≡ 0 → IsHolding (taken_out n old) xs
holding_done n was old xs x at none = record {
  jobs = x.jobs ∙ sym (reading_done n was old.jobs at none);
  plans = all_left (HoldsPlan xs) n old.jobs x.plans;
  numbers = all_left (λ (j : Held). 0 < j.number) n old.jobs x.numbers;
  next = x.next;
}
