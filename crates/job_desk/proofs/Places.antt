-- The first job with a number: where it stands, made another, taken out.
use Rattle.std.proofs.Common.{◌≡◌, ℕ, suc, ◌+◌, ◌<◌, nat_lt, nat_eq, Bool, true, false, cond, not, List, [], ◌∷◌, length, Option, Some, None, MatchOption, refl, ap, ◌⊎◌, inl, inr, arith}
use Rattle.std.proofs.lemmas.Bool.Decides.{nat_tests}
use Rattle.std.specs.List.{position_or_len, position}
use Rattle.job_desk.specs.declared.job.Job.{Job}
use Rattle.job_desk.specs.Desks.{job_of}
use Rattle.job_desk.specs.Places.{IsPlace}

abbrev pub has_number : ℕ → Job → Bool
has_number n j = nat_eq j.number n

-- where the job with a number stands, or the length
abbrev pub place : ℕ → List Job → ℕ
place n jobs = position_or_len (has_number n) jobs

abbrev pub IsFirst : ℕ → List Job → ℕ → Type 0
IsFirst n jobs p = ((p ≡ length jobs) × (job_of n jobs ≡ None)) ⊎ IsPlace n jobs p

step_here : (n : ℕ) (j : Job) (jobs : List Job) → nat_eq j.number n ≡ true → IsPlace n (j ∷ jobs) 0
step_here n j jobs e = record {
  within = omega arith;
  held = rw e refl;
  replaced = λ k. rw e refl;
  without = rw e refl;
}

step_on : (n : ℕ) (j : Job) (jobs : List Job) (p : ℕ) → nat_eq j.number n ≡ false → IsPlace n jobs p → IsPlace n (j ∷ jobs) (suc p)
step_on n j jobs p e h = record {
  within = let w : p < length jobs = h.within in omega arith;
  held = rw e h.held;
  replaced = λ k. rw e (ap (λ js. j ∷ js) (h.replaced k));
  without = rw e (ap (λ js. j ∷ js) h.without);
}

step_first : (n : ℕ) (j : Job) (jobs : List Job) (p : ℕ) → nat_eq j.number n ≡ false → IsFirst n jobs p → IsFirst n (j ∷ jobs) (suc p)
step_first n j jobs p e (inl h) = inl (ap suc h.0, rw e h.1)
step_first n j jobs p e (inr h) = inr (step_on n j jobs p e h)

first_of : (n : ℕ) (j : Job) (jobs : List Job) (p : ℕ) (b : Bool) → nat_eq j.number n ≡ b → p ≡ cond (not b) (1 + place n jobs) 0 → IsFirst n jobs (place n jobs) → IsFirst n (j ∷ jobs) p
first_of n j jobs p true e f h = rw f (inr (step_here n j jobs e))
first_of n j jobs p false e f h = let g : p ≡ suc (place n jobs) = omega arith in rw g (step_first n j jobs (place n jobs) e h)

pub placed : (n : ℕ) (jobs : List Job) → IsFirst n jobs (place n jobs)
placed n [] = inl (refl, refl)
placed n (j ∷ jobs) = first_of n j jobs (place n (j ∷ jobs)) (nat_eq j.number n) refl refl (placed n jobs)

found_at : (n : ℕ) (jobs : List Job) (p : ℕ) (b : Bool) → nat_lt p (length jobs) ≡ b → IsFirst n jobs p → MatchOption (cond b (Some p) None) (job_of n jobs ≡ None) (IsPlace n jobs)
found_at n jobs p true e (inl h) = absurd (grind (arith, nat_tests))
found_at n jobs p true e (inr h) = h
found_at n jobs p false e (inl h) = h.1
found_at n jobs p false e (inr h) = let w : p < length jobs = h.within in absurd (grind (arith, nat_tests))

pub found : (n : ℕ) (jobs : List Job) (r : Option ℕ) → r ≡ position (has_number n) jobs → MatchOption r (job_of n jobs ≡ None) (IsPlace n jobs)
found n jobs r e = rw e (found_at n jobs (place n jobs) (nat_lt (place n jobs) (length jobs)) refl (placed n jobs))
