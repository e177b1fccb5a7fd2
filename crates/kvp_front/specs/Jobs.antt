-- The keys of the requests on jobs.
use Rattle.std.specs.Prelude.{ℕ, ◌^◌, ◌&&◌, nat_lt, nat_le, ℤ, pos, negsuc, List, Result, Ok, Err, if◌then◌else◌}
use Rattle.kvp_front.specs.Values.{and_then}
use Rattle.kvp_front.specs.Spelling.{digits_in, signed_in}
use Rattle.kvp_front.specs.declared.request.RequestError.{RequestError}
use Rattle.kvp_front.specs.declared.request.RequestError.TheVariants.{BadValue}

-- the number of a job: digits alone, within 64 bits
abbrev pub job_in : List ℕ → Result ℕ RequestError
job_in text = digits_in (2 ^ 64) text

-- the most units of one step of a job
abbrev pub max_units : ℕ
max_units = 1000

-- a number of units: at least 1
abbrev pub units_from : ℤ → Result ℕ RequestError
units_from (pos n) = if nat_lt 0 n && nat_le n max_units then Ok n else Err BadValue
units_from (negsuc n) = Err BadValue

-- a signed number that is a number of units
abbrev pub units_in : List ℕ → Result ℕ RequestError
units_in text = and_then units_from (signed_in text)
