-- What a value of an option that was made in steps tells of the steps.
use Rattle.std.proofs.Common.{◌≡◌, Option, Some, None, option_and_then, refl}
use Rattle.wcps_parse.specs.Front.{choose}

pub bind_ok : {A B : Type 0} (o : Option A) (f : A → Option B) (y : B) → option_and_then f o ≡ Some y → (x : A) × (o ≡ Some x) × (f x ≡ Some y)
bind_ok (Some x) f y e = (x, refl, e)
bind_ok None f y e = absurd cc

pub choose_ok : {A B P : Type 0} (o : Option A) (b : B) (f : A → B) (z : B) → choose o b f ≡ z → (o ≡ None → b ≡ z → P) → ((a : A) → o ≡ Some a → f a ≡ z → P) → P
choose_ok None b f z e n k = n refl e
choose_ok (Some a) b f z e n k = k a refl e

abbrev pub found : {A : Type 0} → A → Option A
found x = Some x

pub found_is : {A : Type 0} (x y : A) → found x ≡ found y → x ≡ y
found_is x y e = cc
