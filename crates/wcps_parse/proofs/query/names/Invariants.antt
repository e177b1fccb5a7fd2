use Rattle.std.proofs.Common.{◌<◌, ℕ, length, List}
use Rattle.wcps_text.specs.declared.token.Symbol.TheVariants as signs
use Rattle.wcps_text.specs.Token.{toks}
use Rattle.wcps_parse.specs.Comes.{Comes}
use Rattle.wcps_parse.specs.Front.{Reading, name_at}
use Rattle.wcps_parse.specs.Reading.{more, names}
use Rattle.wcps_parse.proofs.query.names.Given as goal

abbrev pub invariant-loop-next : goal.invariant-loop-next
invariant-loop-next l = record {
  whole : (o : Reading (List (List ℕ))) → Comes (λ n m. more signs.Comma name_at m l.list.items (toks l.rest)) o → Comes (λ n m. names m (toks l.tokens)) o;
  shorter : length l.rest < length l.tokens;
}

abbrev pub decreases-loop-next : goal.decreases-loop-next
decreases-loop-next l = length l.rest
