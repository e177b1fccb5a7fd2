-- The values of a typed query, from a run of its plan.
use Rattle.std.proofs.Common.{◌≡◌, ℕ, List, None, Ok, Err, sym, ap, ◌∙◌, subst, arith}
use Rattle.std.specs.Prelude.{String}
use Rattle.std.specs.declared.alloc.Global.{Global}
use Rattle.arr_core.specs.declared.signature.Signature.{Signature}
use Rattle.arr_core.specs.Stores.{Store}
use Rattle.tile_exec.specs.declared.answer.Answer.TheVariants as given
use Rattle.tile_exec.specs.Answering.{IsAnswer}
use Rattle.plan_ir.specs.Plans.{PlanTree}
use Rattle.plan_ir.specs.Planned.{planned}
use Rattle.wcps_mean.specs.declared.cell.PointFault.{PointFault}
use Rattle.wcps_mean.specs.declared.cells.CellError.{CellError}
use Rattle.wcps_mean.specs.declared.cells.CellError.TheVariants as cell
use Rattle.wcps_mean.specs.Answer.{answer}
use Rattle.wcps_mean.specs.Faults.{refusal_of as fault_refusal}
use Rattle.wcps_mean.specs.Reports.{Tells}
use Rattle.wcps_types.specs.Typed.{TypedTree}
use Rattle.coverage_server.specs.Asking.{cells_of, items_answer, evaluated}
use Rattle.coverage_server.specs.Stages.{GivesValues, FailsReading, cell_refusal}
use Rattle.coverage_server.specs.Fetching.{IsPlanOf}
use Rattle.coverage_server.specs.Tiles.{AreRead, ReadsSpelled, store_for}
use Rattle.coverage_server.specs.Views.{ServerView, still_of}
use Rattle.raster_store.specs.Snapshots.{held_for}
use Rattle.coverage_server.proofs.TileLemmas.{reads_store, store_spelled}
use Rattle.coverage_server.proofs.JobLemmas.{answer_text, answer_fault}

-- a query reads the store as it is, for which nothing is held
pub fails_reading : (v w : ServerView) (asked : List Signature) (places : List ℕ) → held_for 0 v.held ≡ None → AreRead v.store asked places → (e : CellError)
    → Tells e (ReadsSpelled (still_of v) 0 places) v.failures w.failures → FailsReading asked v w (cell_refusal e)
fails_reading v w asked places none read cell.NoMemory x = tt
fails_reading v w asked places none read cell.DiskFault x = omega (arith, x)
fails_reading v w asked places none read cell.Damaged x =
    λ sure spelled. x.0 (record { honest = sure; spelled = store_spelled v asked places none read.coverages spelled })

-- the same by what was asked for
pub reading_failed : (v u w : ServerView) (job : ℕ) (asked named : List Signature) (places : List ℕ) → held_for 0 v.held ≡ None → u ≡ v → job ≡ 0 → asked ≡ named
    → AreRead (store_for 0 v) asked places → (e : CellError) → Tells e (ReadsSpelled (still_of u) job places) u.failures w.failures → FailsReading named v w (cell_refusal e)
reading_failed v u w job asked named places none same is alike read e x =
    let here = subst (λ (y : ServerView). Tells e (ReadsSpelled (still_of y) job places) y.failures w.failures) same x in
    let told = subst (λ (k : ℕ). Tells e (ReadsSpelled (still_of v) k places) v.failures w.failures) is here in
    subst (λ (cs : List Signature). FailsReading cs v w (cell_refusal e)) alike
    (fails_reading v w asked places none (subst (λ (s : Store). AreRead s asked places) (reads_store v none) read) e told)

module _ (store : Store) (q : TypedTree) (plan done : PlanTree) (p : IsPlanOf q plan) (same : done ≡ plan) (asked : List Signature) (reads : asked ≡ plan.coverages) where
  over_store : planned (cells_of store asked) done ≡ answer (cells_of store q.coverages) q
  over_store =
      ap (planned (cells_of store asked)) same ∙ ap (λ (cs : List Signature). planned (cells_of store cs) plan) (reads ∙ p.coverages) ∙ p.planned (cells_of store q.coverages)

  pub text_given : (text : String Global) → IsAnswer (planned (cells_of store asked) done) (given.Text text) → GivesValues (evaluated store (Ok q)) (Ok text)
  text_given text x = ap items_answer (sym over_store) ∙ answer_text (planned (cells_of store asked) done) text x

  pub fault_given : (f : PointFault) → IsAnswer (planned (cells_of store asked) done) (given.Refused f) → evaluated store (Ok q) ≡ Err (fault_refusal f)
  fault_given f x = ap items_answer (sym over_store) ∙ answer_fault (planned (cells_of store asked) done) f x
