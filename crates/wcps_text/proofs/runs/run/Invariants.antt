use Rattle.std.proofs.Common.{length, ◌-◌, ◌<◌, ◌≤◌, take, get_or}
use Rattle.wcps_text.specs.Lexing.{Every}
use Rattle.wcps_text.specs.Runs.{is_of}
use Rattle.wcps_text.proofs.runs.run.Given as goal

abbrev pub invariant-loop-count : goal.invariant-loop-count
invariant-loop-count l = record {
  within : l.count ≤ length l.bytes;
  last : 0 < l.count → get_or l.bytes (l.count - 1) 0 < 128;
  front : Every (is_of l.class) (take l.count l.bytes);
}

abbrev pub decreases-loop-count : goal.decreases-loop-count
decreases-loop-count l = length l.bytes - l.count
