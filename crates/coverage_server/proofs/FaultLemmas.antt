-- What answers tell, and what they tell of the disk's failures.
use Rattle.std.proofs.Common.{◌≡◌, ℕ, ◌≤◌, Result, Ok, Err, OnOk, OnErr, arith, inl, inr}
use Rattle.std.specs.Prelude.{IfErr, IfOk}
use Rattle.std.proofs.lemmas.Bool.{cases_lt}
use Rattle.disk_face.specs.Disk.{Tells}

-- a count of failures never falls
pub never_fewer : (F : Type 0) (old new : ℕ) → Tells F old new → old ≤ new
never_fewer F old new t = elim (cases_lt new old) [
  | inl less ↦ (let same : new ≡ old = t.quiet (λ f. let rose = t.told f in absurd (omega (arith, rose, less))) in omega (arith, same))
  | inr more ↦ more
]

-- another answer tells the same
pub tells_as : (F G : Type 0) (old new : ℕ) → (F → G) → (G → F) → Tells F old new → Tells G old new
tells_as F G old new to from t = record { told = λ g. t.told (from g); quiet = λ none. t.quiet (λ f. none (to f)) }

-- one answer after another that told none
pub tells_after : (F G : Type 0) (old mid new : ℕ) → (F → ⊥) → Tells F old mid → Tells G mid new → Tells G old new
tells_after F G old mid new none first t = rw (← first.quiet none) t

-- what follows of a call that was done
pub on_ok : {X E : Type 0} (r : Result X E) (P Q : Type 0) → (P → Q) → OnOk r P → OnOk r Q
on_ok (Ok x) P Q f p = f p
on_ok (Err e) P Q f p = tt

pub any_ok : {X E : Type 0} (r : Result X E) (P : Type 0) → P → OnOk r P
any_ok (Ok x) P p = p
any_ok (Err e) P p = tt

pub on_err : {X E : Type 0} (r : Result X E) (P Q : Type 0) → (P → Q) → OnErr r P → OnErr r Q
on_err (Ok x) P Q f p = tt
on_err (Err e) P Q f p = f p

pub each_err : {X E : Type 0} (r : Result X E) (P : E → Type 0) → ((e : E) → P e) → IfErr r P
each_err (Ok x) P p = tt
each_err (Err e) P p = p e

-- the same of each error
pub err_each : {X E : Type 0} (r : Result X E) (P : Type 0) → OnErr r P → IfErr r (λ _. P)
err_each (Ok x) P p = tt
err_each (Err e) P p = p

pub any_err : {X E : Type 0} (r : Result X E) (P : Type 0) → P → OnErr r P
any_err (Ok x) P p = tt
any_err (Err e) P p = p

-- what follows of each answer, and of each fault
pub ok_weaker : {X E : Type 0} (r : Result X E) (P Q : X → Type 0) → ((x : X) → P x → Q x) → IfOk r P → IfOk r Q
ok_weaker (Ok x) P Q f p = f x p
ok_weaker (Err e) P Q f p = tt
