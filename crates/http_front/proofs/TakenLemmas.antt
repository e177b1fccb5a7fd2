-- The messages of a stream, one after another, as its bytes come.
use Rattle.std.proofs.Common.{◌≡◌, ◌≢◌, ℕ, ◌+◌, ◌<◌, ◌||◌, Result, Ok, Err, Bool, true, false, List, [], ◌∷◌, ◌++◌, length, Option, None, Some, IfSome, refl, sym, ap, ◌∙◌, subst, arith, append_assoc, append-nil, inl, inr, eq-eqb}
use Rattle.std.specs.Prelude.{MatchBool, ◌⊎◌, ◌==◌}
use Rattle.std.specs.Io.KnownBytes.{Consumes, IsAtEnd}
use Rattle.httparse.specs.Grammar.{RequestHead}
use Rattle.httparse.proofs.GrammarLemmas.{ReadsRequest-append}
use Rattle.arr_core.specs.declared.refusal.Refusal.{Refusal}
use Rattle.http_front.specs.declared.connection.Next.{Next}
use Rattle.http_front.specs.declared.connection.Next.TheVariants.{Message, Refused, Ended, ReadFault}
use Rattle.http_front.specs.Head.{framing, is_last}
use Rattle.http_front.specs.Stream.{ReadsHead, HasNoMessage, IsBareAt, Item, bad_head, Frames, Whole, Broken, Messages, Begins, Taken, Fronts, Finds, FindsItem}

-- a head stays the same head, whatever follows
pub ReadsHead-append : {bytes rest : List ℕ} {h : _} → ReadsHead bytes h rest → (more : List ℕ) → ReadsHead (bytes ++ more) h (rest ++ more)
ReadsHead-append {bytes} {rest} {h} x more =
    record { reads = ReadsRequest-append bytes h rest more x.reads; short = x.short; few = x.few }

-- what follows a head stays the same
pub Frames-append : (f : Result ℕ Refusal) (n : ℕ) (h : RequestHead) (after : List ℕ) (item : Item) (rest more : List ℕ)
    → Frames f n h after item rest → Frames f n h (after ++ more) item (rest ++ more)
Frames-append (Ok len) n h after item rest more x =
    (x.0, x.1, ap (λ (l : List ℕ). l ++ more) x.2 ∙ append_assoc x.0 rest more, x.3)
Frames-append (Err refusal) n h after item rest more x = (x.0, ap (λ (l : List ℕ). l ++ more) x.1)

-- and so does a whole message
pub Whole-append : {n : ℕ} {bytes rest : List ℕ} {item : Item} → Whole n bytes item rest → (more : List ℕ)
    → Whole n (bytes ++ more) item (rest ++ more)
Whole-append {n} {bytes} {rest} {item} x more = record {
  head = x.head;
  after = x.after ++ more;
  reads = ReadsHead-append x.reads more;
  framed = Frames-append (framing x.head) n x.head x.after item rest more x.framed;
}

pub Taken-append : (n : ℕ) (bytes : List ℕ) (items : List Item) (rest more : List ℕ) → Taken n bytes items rest
    → Taken n (bytes ++ more) items (rest ++ more)
Taken-append n bytes [] rest more x = ap (λ (l : List ℕ). l ++ more) x
Taken-append n bytes (item ∷ items) rest more x =
    (x.0 ++ more, Whole-append x.1 more, x.2, Taken-append (n + 1) x.0 items rest more x.3)

pub Taken-push : (n m : ℕ) (bytes : List ℕ) (items : List Item) (item : Item) (rest after : List ℕ) → m ≡ n + length items
    → Taken n bytes items rest → Whole m rest item after → item.last ≡ false → Taken n bytes (items ++ item ∷ []) after
Taken-push n m bytes [] item rest after e x y goes_on =
    let here : m ≡ n = omega (arith, e) in
    (after, subst (λ k. Whole k bytes item after) here (subst (λ (l : List ℕ). Whole m l item after) (sym x) y), goes_on, refl)
Taken-push n m bytes (first ∷ items) item rest after e x y goes_on =
    (x.0, x.1, x.2, Taken-push (n + 1) m x.0 items item rest after (omega (arith, e)) x.3 y goes_on)

open_match : (b : Bool) (P Q : Type 0) → b ≡ false → Q → MatchBool b P Q
open_match true P Q e q = absurd cc
open_match false P Q e q = q

closed_match : (b : Bool) (P Q : Type 0) → b ≡ true → P → MatchBool b P Q
closed_match true P Q e p = p
closed_match false P Q e p = absurd cc

pub Messages-after : (n m : ℕ) (bytes : List ℕ) (items last : List Item) (rest : List ℕ) → m ≡ n + length items
    → Taken n bytes items rest → Messages m rest last → Messages n bytes (items ++ last)
Messages-after n m bytes [] last rest e x y =
    let here : m ≡ n = omega (arith, e) in
    subst (λ k. Messages k bytes last) here (subst (λ (l : List ℕ). Messages m l last) (sym x) y)
Messages-after n m bytes (item ∷ items) last rest e x y =
    inr (x.0, x.1, open_match item.last _ _ x.2 (Messages-after (n + 1) m x.0 items last rest (omega (arith, e)) x.3 y))

pub Begins-after : (n m : ℕ) (bytes : List ℕ) (items last : List Item) (rest : List ℕ) → m ≡ n + length items
    → Taken n bytes items rest → Begins m rest last → Begins n bytes (items ++ last)
Begins-after n m bytes [] last rest e x y =
    let here : m ≡ n = omega (arith, e) in
    subst (λ k. Begins k bytes last) here (subst (λ (l : List ℕ). Begins m l last) (sym x) y)
Begins-after n m bytes (item ∷ items) last rest e x y =
    inr (x.0, x.1, open_match item.last _ _ x.2 (Begins-after (n + 1) m x.0 items last rest (omega (arith, e)) x.3 y))

-- what a reader may still give, where it says
abbrev pub rest_of : Option (List ℕ) → List ℕ
rest_of None = []
rest_of (Some bytes) = bytes

pub rest_at_end : (o : Option (List ℕ)) → IsAtEnd o → rest_of o ≡ []
rest_at_end None e = refl
rest_at_end (Some bytes) e = e

pub all_of : (a b : Option (List ℕ)) (came : List ℕ) → Consumes a b came → IfSome a (λ bytes. came ++ rest_of b ≡ bytes)
all_of None b came x = tt
all_of (Some xs) None came x = absurd x
all_of (Some xs) (Some ys) came x = sym x

nonempty_append : (a b : List ℕ) → a ≢ [] → a ++ b ≢ []
nonempty_append [] b ne e = ne refl
nonempty_append (x ∷ a) b ne e = cc

-- an item at the front is one of the whole stream
pub broken_or_whole : (n : ℕ) (known left : List ℕ) (future : Option (List ℕ)) (item : Item) → Fronts n known left future item
    → Broken (known ++ rest_of future) (item ∷ []) ⊎ Whole n (known ++ rest_of future) item (left ++ rest_of future)
broken_or_whole n known left future item (inl whole) = inr (Whole-append whole (rest_of future))
broken_or_whole n known left future item (inr (inl (is, ne, never))) =
    let shown : item.bare ≡ false = ap (λ (i : Item). i.bare) is in
    inl (
      (λ m i l (w : Whole m (known ++ rest_of future) i l). never (rest_of future) w.head w.after w.reads),
      nonempty_append known (rest_of future) ne,
      subst (IsBareAt (known ++ rest_of future)) (sym shown) (λ h rest x. absurd (never (rest_of future) h rest x)),
      is ∙ ap bad_head (sym shown),
      refl,
    )
broken_or_whole n known left future item (inr (inr (is, ne, end, none, bare))) =
    let all : known ++ rest_of future ≡ known = ap (λ (l : List ℕ). known ++ l) (rest_at_end future end) ∙ append-nil known in
    inl (
      subst HasNoMessage (sym all) none,
      nonempty_append known (rest_of future) ne,
      subst (λ l. IsBareAt l item.bare) (sym all) bare,
      is,
      refl,
    )

pub last_message : (n : ℕ) (known left : List ℕ) (future : Option (List ℕ)) (item : Item) → Fronts n known left future item
    → item.last ≡ true → Messages n (known ++ rest_of future) (item ∷ [])
last_message n known left future item x closed =
    elim (broken_or_whole n known left future item x) [
      | inl broken ↦ inl broken
      | inr whole ↦ inr (_, whole, closed_match item.last _ _ closed refl)
    ]

any_match : (b : Bool) {P Q : Type 0} → P → Q → MatchBool b P Q
any_match true p q = p
any_match false p q = q

pub one_message : (n : ℕ) (known left : List ℕ) (future : Option (List ℕ)) (item : Item) → Fronts n known left future item
    → Begins n (known ++ rest_of future) (item ∷ [])
one_message n known left future item x =
    elim (broken_or_whole n known left future item x) [
      | inl broken ↦ inl broken
      | inr whole ↦ inr (_, whole, any_match item.last refl tt)
    ]

-- an item that goes on is a whole message
pub whole_message : (n : ℕ) (known left : List ℕ) (future : Option (List ℕ)) (item : Item) → Fronts n known left future item
    → item.last ≡ false → Whole n known item left
whole_message n known left future item (inl whole) goes_on = whole
whole_message n known left future item (inr (inl (is, ne, why))) goes_on =
    let closed : item.last ≡ true = ap (λ (i : Item). i.last) is in absurd cc
whole_message n known left future item (inr (inr (is, ne, end, none, bare))) goes_on =
    let closed : item.last ≡ true = ap (λ (i : Item). i.last) is in absurd cc

-- what is neither the end nor a fault is an item
pub found_item : (n : ℕ) (known left : List ℕ) (future : Option (List ℕ)) (next : Next) (last bare : Bool)
    → Finds n known left future next last bare → next ≢ Ended → next ≢ ReadFault
    → FindsItem n known left future next last bare
found_item n known left future (Message pairs) last bare x a b = x
found_item n known left future (Refused code) last bare x a b = x
found_item n known left future Ended last bare x a b = absurd (a refl)
found_item n known left future ReadFault last bare x a b = absurd (b refl)

right_false : (b c : Bool) → b || c ≡ false → c ≡ false
right_false true c e = absurd cc
right_false false c e = e

differ : true ≡ false → ⊥
differ e = cc

last_framed : (f : Result ℕ Refusal) (n : ℕ) (h : RequestHead) (after : List ℕ) (item : Item) (rest : List ℕ) → Frames f n h after item rest
    → item.last ≡ false → (n == 999) ≡ false
last_framed (Ok len) n h after item rest x goes_on =
    right_false (is_last h) (n == 999) (sym (ap (λ (i : Item). i.last) x.3) ∙ goes_on)
last_framed (Err refusal) n h after item rest x goes_on =
    let closed : item.last ≡ true = ap (λ (i : Item). i.last) x.0 in absurd cc

-- a message after which the connection goes on is not the thousandth
pub room_after : (n : ℕ) (bytes left : List ℕ) (item : Item) → Whole n bytes item left → item.last ≡ false → n < 1000 → n + 1 < 1000
room_after n bytes left item x goes_on room =
    let other : (n == 999) ≡ false = last_framed (framing x.head) n x.head x.after item left x.framed goes_on in
    let ne : n ≢ 999 = λ same. let yes : (n == 999) ≡ true = eq-eqb n 999 same in differ (sym yes ∙ other) in
    omega arith
