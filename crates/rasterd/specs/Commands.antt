-- What the words after the program's name ask.
use Rattle.std.specs.Prelude.{◌≡◌, ℕ, ◌≤◌, List, [], ◌∷◌, String, codes, map, string_bytes}
use Rattle.std.specs.declared.alloc.Global.{Global}
use Rattle.std.specs.Str.Parse.{IsNumeral, digits_value}
use Rattle.rasterd.specs.declared.commands.Command.{Command}
use Rattle.rasterd.specs.declared.commands.Command.TheVariants.{Run, Listen}

-- decimal digits alone, one or more, that write this number, which is from 1 to a limit
pub record IsNumber (most : ℕ) (text : List ℕ) (number : ℕ) : Type 0 where
  pub digits : IsNumeral 10 text
  pub value : number ≡ digits_value 10 text
  pub some : 1 ≤ number
  pub limit : number ≤ most

-- a port has 16 bits
abbrev pub max_port : ℕ
max_port = 65535

-- the most connections of a run
abbrev pub max_connections : ℕ
max_connections = 1000000

-- `FILE run`, or `FILE listen PORT COUNT`
abbrev pub Asks : List (List ℕ) → Command → Type 0
Asks words (Run file) = words ≡ file.now ∷ codes "run" ∷ []
Asks words (Listen file port count) =
    (port_text : List ℕ) × (count_text : List ℕ) × (words ≡ file.now ∷ codes "listen" ∷ port_text ∷ count_text ∷ [])
    × IsNumber max_port port_text port × IsNumber max_connections count_text count

-- no command
abbrev pub AsksNothing : List (List ℕ) → Type 0
AsksNothing words = (c : Command) → Asks words c → ⊥

-- a session over the store in memory
abbrev pub IsRunInMemory : Command → Type 0
IsRunInMemory (Run file) = file.now ≡ codes "-"
IsRunInMemory (Listen file port count) = ⊥

-- the words `- run`
abbrev pub AsksMemory : List (String Global) → Type 0
AsksMemory words = (c : Command) × Asks (map string_bytes words) c × IsRunInMemory c
