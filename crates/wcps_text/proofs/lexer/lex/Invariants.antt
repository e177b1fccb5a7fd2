use Rattle.std.proofs.Common.{List, ◌++◌, length, map, drop, ◌-◌, ◌≤◌}
use Rattle.wcps_text.specs.declared.error.LexError.{LexError}
use Rattle.wcps_text.specs.Lexing.{is_space, Piece, piece, Lexed, Refused}
use Rattle.wcps_text.specs.Runs.{Stops}
use Rattle.wcps_text.proofs.lexer.lex.Given as goal

abbrev pub invariant-loop-at : goal.invariant-loop-at
invariant-loop-at l = record {
  within : l.at ≤ length l.text;
  dense : Stops is_space (drop l.at l.text);
  lexed : (ps : List Piece) → Lexed l.at (drop l.at l.text) ps → Lexed 0 l.text (map piece l.tokens.items ++ ps);
  refused : (e : LexError) → Refused (drop l.at l.text) e → Refused l.text e;
}

abbrev pub decreases-loop-at : goal.decreases-loop-at
decreases-loop-at l = length l.text - l.at
