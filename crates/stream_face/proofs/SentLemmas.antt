-- Bytes that go out in several writes.
use Rattle.std.proofs.Common.{◌≡◌, ℕ, zero, suc, refl, ◌+◌, ◌-◌, List, ◌++◌, length, take, drop, Option, Bool, true, false, sym, ap, ◌∙◌, subst, arith}
use Rattle.std.proofs.lemmas.List.{length-append, take_rest}
use Rattle.std.proofs.KnownBytes.{Appends-trans}
use Rattle.std.proofs.Math.Seq.{take-append-add}
use Rattle.std.specs.Io.KnownBytes.{Appends}
use Rattle.stream_face.specs.Views.{SinkView}
use Rattle.stream_face.specs.Faults.{one_more_failure, told_of_count, AppendsPrefix, Sent}
use lib.Seq.{take-add}

-- one write more
pub sent_more : (a b c : Option (List ℕ)) (bytes : List ℕ) (sent n : ℕ) → Appends a b (take sent bytes)
    → Appends b c (take n (take (length bytes - sent) (drop sent bytes))) → Appends a c (take (sent + n) bytes)
sent_more a b c bytes sent n x y =
    subst (Appends a c) (sym (take-add sent n bytes))
    (Appends-trans a b c (take sent bytes) (take n (drop sent bytes)) x
    (subst (λ l. Appends b c (take n l)) (take_rest bytes sent) y))

-- a text, and a first part of the next
pub prefix_after : (a b c : Option (List ℕ)) (text next : List ℕ) → Appends a b text → AppendsPrefix b c next
    → AppendsPrefix a c (text ++ next)
prefix_after a b c text next x (n, few, y) = (
  length text + n,
  omega (arith, few, length-append text next),
  subst (Appends a c) (sym (take-append-add text next n)) (Appends-trans a b c text (take n next) x y),
)

-- a text, and then the next or a first part of it
pub Sent-after : (a b c : SinkView) (ok : Bool) (text next : List ℕ) → Sent a b true text → Sent b c ok next
    → Sent a c ok (text ++ next)
Sent-after a b c true text next (x, e) (y, d) = (Appends-trans a.contents b.contents c.contents text next x y, d ∙ e)
Sent-after a b c false text next (x, e) (y, d) =
    (prefix_after a.contents b.contents c.contents text next x y, d ∙ ap one_more_failure e)

-- to take some is no failure
pub some_is_no_fault : (n : ℕ) (bytes : List ℕ) (old : Option ℕ) → (n ≡ 0 → ⊥) → told_of_count n bytes old ≡ old
some_is_no_fault zero bytes old some = absurd (some refl)
some_is_no_fault (suc n) bytes old some = refl
