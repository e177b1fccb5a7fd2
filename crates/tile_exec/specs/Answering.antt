-- What an executor without units left answers.
use Rattle.std.specs.Prelude.{◌≡◌, List, Result, Ok, Err, string_bytes}
use Rattle.wcps_mean.specs.declared.cell.PointFault.{PointFault}
use Rattle.wcps_mean.specs.declared.item.Item.{Item}
use Rattle.csv_out.specs.Csv.{csv}
use Rattle.plan_ir.specs.Planned.{planned}
use Rattle.tile_exec.specs.declared.state.State.{State}
use Rattle.tile_exec.specs.declared.answer.Answer.{Answer}
use Rattle.tile_exec.specs.declared.answer.Answer.TheVariants.{Text, Refused}
use Rattle.wcps_mean.specs.Reading.{CellsOf}
use Rattle.tile_exec.specs.Standing.{StandsFor, plan_of}

-- the text of the items, or the fault
abbrev pub IsAnswer : Result (List Item) PointFault → Answer → Type 0
IsAnswer (Ok items) (Text text) = string_bytes text ≡ csv items
IsAnswer (Err fault) (Refused refused) = refused ≡ fault
IsAnswer (Ok items) (Refused refused) = ⊥
IsAnswer (Err fault) (Text text) = ⊥

-- what an executor's plan gives over each store that it stands for is answered so
abbrev pub AnswersFor : State → Answer → Type 0
AnswersFor e given = (s : CellsOf) → StandsFor s e → IsAnswer (planned s (plan_of e)) given
