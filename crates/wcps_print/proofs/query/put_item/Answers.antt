-- What a query returns stands as its expression, alone where it is plain and else in `encode`.
use Rattle.wcps_print.proofs.Puts.{last_puts, same_text}
use Rattle.wcps_print.proofs.Views.{plain_of, encode_of}
use Rattle.wcps_print.proofs.query.put_item.Goals as goal

pub returns-in-Plain : goal.returns-in-Plain
returns-in-Plain c = last_puts c.put_expr.result _ _ _ _ _ c.put_expr.ensures (λ rest. same_text _ (plain_of c.args.item.now _ c.in-Plain.value c.in-Plain.is c.deref.ensures rest))

pub returns-in-Encode : goal.returns-in-Encode
returns-in-Encode c = last_puts c.put_encoded.result _ _ _ _ _ c.put_encoded.ensures (λ rest. same_text _ (encode_of c.args.item.now _ c.in-Encode.value c.in-Encode.is c.deref-in-Encode.ensures rest))
