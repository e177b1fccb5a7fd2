-- What evaluation tells of an answer.
use Rattle.std.specs.Prelude.{◌≡◌, ℕ, List, ◌++◌, Result, Ok, Err, Vec}
use Rattle.std.specs.Global.{Global}
use Rattle.wcps_mean.specs.declared.cells.Cells.{Ghosts}
use Rattle.wcps_mean.specs.declared.cell.PointFault.{PointFault}
use Rattle.wcps_mean.specs.declared.answer.EvalError.{EvalError}
use Rattle.wcps_mean.specs.declared.answer.EvalError.TheVariants.{Fault, Cells}
use Rattle.wcps_mean.specs.Reports.{Tells}
use Rattle.wcps_mean.specs.Reading.{CellsOf}

-- where a fault is told, it is the answer
abbrev pub TellsFault : {A : Type 0} → EvalError → Result A PointFault → Type 0
TellsFault (Fault f) r = r ≡ Err f
TellsFault (Cells e) r = Unit {0}

-- the cells that are the answer stand at the end of the list
abbrev pub PushesCells : {A : Type 0} → Result (List A) PointFault → List A → List A → Type 0
PushesCells (Ok xs) old new = new ≡ old ++ xs
PushesCells (Err f) old new = ⊥

-- where what is kept is intact, the result is the answer that the cells have, and so is a fault that is told
abbrev pub Answers : {S A : Type 0} → Ghosts S → S → Result A EvalError → (CellsOf → Result A PointFault) → Type 0
Answers g store (Ok x) f = g.intact store → f (g.cells store) ≡ Ok x
Answers g store (Err e) f = g.intact store → TellsFault e (f (g.cells store))

-- the same of a list
abbrev pub Lists : {S A : Type 0} → Ghosts S → S → Result (Vec A Global) EvalError
    → (CellsOf → Result (List A) PointFault) → Type 0
Lists g store (Ok xs) f = g.intact store → f (g.cells store) ≡ Ok xs.items
Lists g store (Err e) f = g.intact store → TellsFault e (f (g.cells store))

-- the same, where the answer is put at the end of a list
abbrev pub Pushes : {S A B : Type 0} → Ghosts S → S → Result B EvalError → (CellsOf → Result (List A) PointFault)
    → Vec A Global → Vec A Global → Type 0
Pushes g store (Ok x) f old new = g.intact store → PushesCells (f (g.cells store)) old.items new.items
Pushes g store (Err e) f old new = g.intact store → TellsFault e (f (g.cells store))

-- what the store reports passes through unchanged; a fault leaves the count of failures as it was
abbrev pub TellsStore : EvalError → Type 0 → ℕ → ℕ → Type 0
TellsStore (Fault f) intact old new = new ≡ old
TellsStore (Cells e) intact old new = Tells e intact old new

-- the same of a whole result; an answer leaves the count as it was
abbrev pub PassesOn : {A : Type 0} → Result A EvalError → Type 0 → ℕ → ℕ → Type 0
PassesOn (Ok x) intact old new = new ≡ old
PassesOn (Err e) intact old new = TellsStore e intact old new
