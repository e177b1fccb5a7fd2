-- A listed value adds its tokens to the text, a number with its sign where it is negative.
use Rattle.std.proofs.Common.{rules, arith, w64, SFits}
use Rattle.std.proofs.lemmas.Grind.{common_steps}
use Rattle.std.proofs.lemmas.Int.{to_z-of_z}
use Rattle.wcps_print.proofs.Puts.{last_puts, same_text}
use Rattle.wcps_print.proofs.Views.{int_item_of, truth_item_of}
use Rattle.wcps_print.proofs.expression.put_item.Goals as goal

pub returns-in-Int : goal.returns-in-Int
returns-in-Int c =
    let fits : SFits w64 c.in-Int.int = first_of (search rules, grind (arith, common_steps)) in
    last_puts c.put_int.result _ _ _ _ _ c.put_int.ensures (λ rest. same_text _ (int_item_of c.args.item _ c.in-Int.int c.in-Int.is (to_z-of_z w64 c.in-Int.int fits) rest))

pub returns-in-Truth : goal.returns-in-Truth
returns-in-Truth c = last_puts c.put_truth.result _ _ _ _ _ c.put_truth.ensures (λ rest. same_text _ (truth_item_of c.args.item c.in-Truth.truth c.in-Truth.is rest))
