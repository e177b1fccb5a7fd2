-- The answer of an executor that has no unit left.
use Rattle.std.proofs.Common.{◌≡◌, ℕ, zero, suc, List, [], ◌∷◌, take, drop, refl, sym, ap, ◌∙◌, arith}
use Rattle.plan_ir.specs.Planned.{planned}
use Rattle.tile_exec.specs.declared.state.State.{State}
use Rattle.wcps_mean.specs.Reading.{CellsOf}
use Rattle.tile_exec.specs.Tasks.{TaskTree, tasks_of}
use Rattle.tile_exec.specs.Progress.{start, after_all, answer_of}
use Rattle.tile_exec.specs.Standing.{plan_of, tasks_left, progress_of, StandsFor, IsSound}
use Rattle.tile_exec.proofs.Answers.{tasks_answer}
use Rattle.tile_exec.proofs.Keeping.{some_left}

take_all : {X : Type 0} (n : ℕ) (xs : List X) → drop n xs ≡ [] → take n xs ≡ xs
take_all zero [] h = refl
take_all (suc n) [] h = refl
take_all zero (x ∷ xs) h = cc
take_all (suc n) (x ∷ xs) h = ap (λ l. x ∷ l) (take_all n xs h)

none_after : (e : State) (ts : List TaskTree) → tasks_left e ≡ ts → IsSound e → e.left ≡ 0 → tasks_left e ≡ []
none_after e [] h sound z = h
none_after e (t ∷ ts) h sound z = let k = some_left e t ts h sound in absurd (omega (arith, k, z))

-- with no unit left all tasks are done, and they give what the plan gives
pub answered : (s : CellsOf) (e : State) → IsSound e → e.left ≡ 0 → StandsFor s e → planned s (plan_of e) ≡ answer_of (progress_of e)
answered s e sound z st =
    let none = none_after e (tasks_left e) refl sound z in
    sym (tasks_answer s (plan_of e)) ∙ ap (λ l. answer_of (after_all s start l)) (sym (take_all e.at (tasks_of (plan_of e)) none)) ∙ ap answer_of (sym st.progress)
