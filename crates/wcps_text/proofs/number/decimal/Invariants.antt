use Rattle.std.proofs.Common.{◌≡◌, ◌≤◌, drop}
use Rattle.std.specs.Char.{is_ascii_digit}
use Rattle.wcps_text.specs.Lexing.{decimal, decimal_from, Every}
use Rattle.wcps_text.specs.Number.{max_number}
use Rattle.wcps_text.proofs.number.decimal.Given as goal

abbrev pub invariant-loop-byte : goal.invariant-loop-byte
invariant-loop-byte l = record {
  whole : decimal l.digits ≡ decimal_from l.value (drop l.byte-index l.digits);
  rest : Every is_ascii_digit (drop l.byte-index l.digits);
  small : l.value ≤ max_number;
}
