-- Each fact holds of the accumulators, if they are made.
use Rattle.std.proofs.Common.{Result, Ok, Err}
use Rattle.std.specs.Prelude.{IfOk}
use Rattle.tile_columns.proofs.zone_folds.keyed_folds.Goals as goal

all_four : {A E : Type 0} {P Q R S T : A → Type 0} (r : Result A E) → ((x : A) → P x → Q x → R x → S x → T x) → IfOk r P → IfOk r Q → IfOk r R → IfOk r S → IfOk r T
all_four (Ok x) f p q r s = f x p q r s
all_four (Err e) f p q r s = p

pub returns : goal.returns
returns c =
    let made = c.condense_keyed.ensures in
    all_four c.condense_keyed.result (λ v stands count op length. record { many = length; kinds = op; room = count; told = stands }) made.stands made.count made.op made.length
