use Rattle.std.proofs.Common.{◌<◌, length, List}
use Rattle.wcps_text.specs.declared.token.Symbol.TheVariants as signs
use Rattle.wcps_text.specs.Token.{toks}
use Rattle.wcps_text.specs.Tree.{BindingTree, bindings_of}
use Rattle.wcps_parse.specs.Comes.{Comes}
use Rattle.wcps_parse.specs.Front.{Reading}
use Rattle.wcps_parse.specs.Reading.{more, binding_at, bindings}
use Rattle.wcps_parse.proofs.query.bindings.Given as goal

abbrev pub invariant-loop-next : goal.invariant-loop-next
invariant-loop-next l = record {
  whole : (o : Reading (List BindingTree)) → Comes (λ n m. more signs.Comma (binding_at n) m (bindings_of l.list.items) (toks l.rest)) o → Comes (λ n m. bindings n m (toks l.tokens)) o;
  shorter : length l.rest < length l.tokens;
}

abbrev pub decreases-loop-next : goal.decreases-loop-next
decreases-loop-next l = length l.rest
