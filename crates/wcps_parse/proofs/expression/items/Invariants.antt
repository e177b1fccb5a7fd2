use Rattle.std.proofs.Common.{◌<◌, length, List}
use Rattle.wcps_text.specs.declared.token.Symbol.TheVariants as signs
use Rattle.wcps_text.specs.declared.tree.ListItem.{ListItem}
use Rattle.wcps_text.specs.Token.{toks}
use Rattle.wcps_parse.specs.Comes.{Comes}
use Rattle.wcps_parse.specs.Front.{Reading, item_at}
use Rattle.wcps_parse.specs.Reading.{more, items}
use Rattle.wcps_parse.proofs.expression.items.Given as goal

abbrev pub invariant-loop-next : goal.invariant-loop-next
invariant-loop-next l = record {
  whole : (o : Reading (List ListItem)) → Comes (λ n m. more signs.Semicolon item_at m l.list.items (toks l.rest)) o → Comes (λ n m. items m (toks l.tokens)) o;
  shorter : length l.rest < length l.tokens;
}

abbrev pub decreases-loop-next : goal.decreases-loop-next
decreases-loop-next l = length l.rest
