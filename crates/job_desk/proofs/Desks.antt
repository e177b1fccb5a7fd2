-- What a desk is after a job was stepped or taken.
use Rattle.std.proofs.Common.{◌≡◌, ℕ, zero, suc, ◌+◌, ◌-◌, ◌^◌, ◌<◌, ◌≤◌, nat_lt, Bool, true, false, cond, List, [], ◌∷◌, ◌++◌, length, take, drop, slice_index_or, slice_get, slice_set, IsSome, Option, Some, None, refl, sym, ap, ◌∙◌, arith, length-append, length-set}
use Rattle.std.specs.List.{All, AllPairs, remove}
use Rattle.std.proofs.lemmas.List.Elements.{All-set, All-push, All-append, All-take, All-drop}
use Rattle.std.proofs.lemmas.List.Quantifiers.{all_pairs_push, all_pairs_remove}
use Rattle.std.proofs.lemmas.List.Edits.{length-remove}
use Rattle.job_desk.specs.declared.job.Job.{Job}
use Rattle.std.proofs.lemmas.Option.{slice_get_read}
use Rattle.arr_core.specs.Numbers.{number_after}
use Rattle.job_desk.specs.Desks.{IsDesk, IsJob, job_of, replaced}
use Rattle.job_desk.specs.Steps.{IsChanged}
use Rattle.job_desk.specs.Places.{IsPlace}

-- a job that is made another of the same number
number_set : (jobs : List Job) (p : ℕ) (was is : Job) (i : ℕ) (d : Job) → is.number ≡ (slice_index_or jobs p was).number → (slice_index_or (slice_set jobs p is) i d).number ≡ (slice_index_or jobs i d).number
number_set [] p was is i d e = refl
number_set (j ∷ jobs) zero was is zero d e = e
number_set (j ∷ jobs) zero was is (suc i) d e = refl
number_set (j ∷ jobs) (suc p) was is zero d e = refl
number_set (j ∷ jobs) (suc p) was is (suc i) d e = number_set jobs p was is i d e

rising_set : (jobs : List Job) (p : ℕ) (was is : Job) → is.number ≡ (slice_index_or jobs p was).number → AllPairs (λ (a b : Job). a.number < b.number) jobs → AllPairs (λ (a b : Job). a.number < b.number) (slice_set jobs p is)
rising_set jobs p was is e h = λ i j d below within.
    let first : (slice_index_or (slice_set jobs p is) i d).number ≡ (slice_index_or jobs i d).number = number_set jobs p was is i d e in
    let second : (slice_index_or (slice_set jobs p is) j d).number ≡ (slice_index_or jobs j d).number = number_set jobs p was is j d e in
    let w : j < length jobs = omega (arith, length-set jobs p is) in
    let r : (slice_index_or jobs i d).number < (slice_index_or jobs j d).number = h i j d below w in
    omega arith

pub desk_set : (jobs : List Job) (next : Option ℕ) (p : ℕ) (was is : Job) → p < length jobs → was ≡ slice_index_or jobs p was → is.number ≡ was.number → IsJob is → IsDesk (record { jobs = jobs; next = next }) → IsDesk (record { jobs = slice_set jobs p is; next = next })
desk_set jobs next p was is w here same held h =
    let e : is.number ≡ (slice_index_or jobs p was).number = same ∙ ap (λ (j : Job). j.number) here in
    record {
      each = All-set IsJob jobs p is held h.each;
      few = let few : length jobs ≤ 64 = h.few in omega (arith, length-set jobs p is);
      rising = rising_set jobs p was is e h.rising;
      below = λ n f.
          let b : (slice_index_or jobs p was).number < n = h.below n f p was w in
          All-set (λ (j : Job). j.number < n) jobs p is (omega arith) (h.below n f);
    }

all_remove : (P : Job → Type 0) (jobs : List Job) (p : ℕ) → All P jobs → All P (remove jobs p)
all_remove P jobs p h = All-append P (take p jobs) (drop (suc p) jobs) (All-take P p jobs h) (All-drop P (suc p) jobs h)

pub desk_remove : (jobs : List Job) (next : Option ℕ) (p : ℕ) → p < length jobs → IsDesk (record { jobs = jobs; next = next }) → IsDesk (record { jobs = remove jobs p; next = next })
desk_remove jobs next p w h = record {
  each = all_remove IsJob jobs p h.each;
  few = let few : length jobs ≤ 64 = h.few in omega (arith, length-remove jobs p w);
  rising = all_pairs_remove (λ (a b : Job). a.number < b.number) jobs p w h.rising;
  below = λ n f. all_remove (λ (j : Job). j.number < n) jobs p (h.below n f);
}

-- a number that is after another is greater
after_is : (number n : ℕ) (b : Bool) → nat_lt number (2 ^ 64 - 1) ≡ b → cond b (Some (number + 1)) None ≡ Some n → n ≡ number + 1
after_is number n true e h = cc
after_is number n false e h = cc

pub desk_push : (jobs : List Job) (next after : Option ℕ) (number : ℕ) (job : Job) → next ≡ Some number → after ≡ number_after number → job.number ≡ number → length jobs < 64 → IsJob job → IsDesk (record { jobs = jobs; next = next }) → IsDesk (record { jobs = jobs ++ job ∷ []; next = after })
desk_push jobs next after number job given is_after e room held h = record {
  each = All-push IsJob jobs job h.each held;
  few = omega (arith, length-append jobs (job ∷ []));
  rising = all_pairs_push (λ (a b : Job). a.number < b.number) jobs job h.rising (λ k d w.
      let below : (slice_index_or jobs k d).number < number = h.below number given k d w in omega arith);
  below = λ n is.
      let m : n ≡ number + 1 = after_is number n (nat_lt number (2 ^ 64 - 1)) refl (sym is_after ∙ is) in
      All-push (λ (j : Job). j.number < n) jobs job (λ k d w.
      let below : (slice_index_or jobs k d).number < number = h.below number given k d w in omega arith) (omega arith);
}

-- the job at a place
pub held_at : (n : ℕ) (jobs : List Job) (place : ℕ) (job : Job) → IsPlace n jobs place → job ≡ slice_index_or jobs place job → job_of n jobs ≡ Some job
held_at n jobs place job at here = at.held ∙ slice_get_read jobs (length jobs) place job refl at.within here

some_get : (jobs : List Job) (place : ℕ) → place < length jobs → IsSome (slice_get jobs place)
some_get [] place w = absurd (omega arith)
some_get (j ∷ jobs) zero w = refl
some_get (j ∷ jobs) (suc place) w = some_get jobs place (omega arith)

-- there is a job at a place
pub is_held : (n : ℕ) (jobs : List Job) (place : ℕ) → IsPlace n jobs place → IsSome (job_of n jobs)
is_held n jobs place at = let e : job_of n jobs ≡ slice_get jobs place = at.held in rw e (some_get jobs place at.within)

-- a job that is made another at its place
pub changed : (Change : Job → Job → Type 0) (n : ℕ) (jobs : List Job) (next : Option ℕ) (place : ℕ) (was is : Job) → IsPlace n jobs place → was ≡ slice_index_or jobs place was → Change was is → IsChanged Change n (record { jobs = jobs; next = next }) (record { jobs = slice_set jobs place is; next = next })
changed Change n jobs next place was is at here change = record {
  was = was;
  is = is;
  held = held_at n jobs place was at here;
  change = change;
  desk = let e : slice_set jobs place is ≡ replaced n is jobs = at.replaced is in rw e refl;
}
