-- A message and its body.
use Rattle.std.proofs.Common.{◌≡◌, ◌≢◌, ℕ, ◌+◌, ◌<◌, ◌≤◌, Bool, true, false, nat_le, if◌then◌else◌, List, [], ◌++◌, length, take, drop, Option, Some, None, IfSome, Result, Ok, Err, refl, sym, ap, ◌∙◌, subst, arith, append_assoc, append-nil}
use Rattle.std.specs.Prelude.{Vec}
use Rattle.std.specs.declared.alloc.Global.{Global}
use Rattle.std.proofs.lemmas.Bool.{leb-true}
use Rattle.std.proofs.lemmas.List.{length-append, take-append-drop}
use Rattle.httparse.specs.Grammar.{RequestHead, ReadsRequest}
use Rattle.httparse.proofs.GrammarLemmas.{ReadsRequest-append, request_unique}
use Rattle.arr_core.specs.declared.refusal.Refusal.{Refusal}
use Rattle.arr_core.specs.declared.refusal.Refusal.TheVariants.{BodyTooLong}
use Rattle.http1.specs.declared.fields.ContentLength.{ContentLength}
use Rattle.http1.specs.declared.fields.ContentLength.TheVariants as Length
use Rattle.http1.specs.declared.fields.TransferEncoding.{TransferEncoding}
use Rattle.http1.specs.declared.fields.TransferEncoding.TheVariants as Coding
use Rattle.stream_face.specs.Views.{SourceView}
use Rattle.http_front.specs.declared.head.WholeHead.{WholeHead}
use Rattle.http_front.specs.declared.connection.Next.{Next}
use Rattle.http_front.specs.declared.connection.Next.TheVariants.{Message, Refused, Ended, ReadFault}
use Rattle.http_front.specs.Bytes.{Extends}
use Rattle.http_front.specs.Head.{IsHeadAt, framing, framing_of, known_of, is_bare}
use Rattle.http_front.specs.Stream.{ReadsHead, Item, item_of, refusal_item, Frames, Whole, HasNoMessage, Fronts, Finds, Shows, IsBareAt, TellsNext}
use Rattle.http_front.proofs.StreamLemmas.{nothing_is_no_head, bare_at}

-- a body that is not refused has at most 1,048,576 bytes
framed_within : (coding : TransferEncoding) (size : ContentLength) (len : ℕ) → framing_of coding size ≡ Ok len → len ≤ 1048576
framed_within Coding.Absent Length.Absent len e = let none : 0 ≡ len = cc in omega arith
framed_within Coding.Absent (Length.Value n) len e = value_within (nat_le n 1048576) refl e
  where
    value_within : (b : Bool) → nat_le n 1048576 ≡ b → if◌then◌else◌ {A = Result ℕ Refusal} b (Ok n) (Err BodyTooLong) ≡ Ok len → len ≤ 1048576
    value_within true few e = let same : n ≡ len = cc in omega (arith, leb-true n 1048576 few)
    value_within false few e = absurd cc
framed_within Coding.Absent Length.Invalid len e = absurd cc
framed_within Coding.Chunked size len e = absurd cc
framed_within Coding.Other size len e = absurd cc
framed_within Coding.Blank size len e = absurd cc
framed_within Coding.Invalid size len e = absurd cc

pub framing_within : (h : RequestHead) (len : ℕ) → framing h ≡ Ok len → len ≤ 1048576
framing_within h len e = framed_within (known_of h).transfer_encoding (known_of h).content_length len e

-- a head and no more of its body than there is are within the limits
pub within_limits : (held came : List ℕ) (len : ℕ) → length held ≤ 16384 → len ≤ 1048576 → length came ≤ len
    → length (held ++ came) ≤ 16384 + 1048576
within_limits held came len short few part = omega (arith, short, few, part, length-append held came)

-- and so is what was held alone
pub held_within : (held : List ℕ) → length held ≤ 16384 → length (held ++ []) ≤ 16384 + 1048576
held_within held short = omega (arith, short, ap length (append-nil held))

-- what came of a body that is cut short is no more than the body
pub part_of_body : (rest came : List ℕ) (len : ℕ) → length (rest ++ came) < len → length came ≤ len
part_of_body rest came len short = omega (arith, short, length-append rest came)

-- a body that is kept grows
pub extended_kept : (old new : Option (Vec ℕ Global)) (body bytes : List ℕ) → IfSome old (λ v. v.items ≡ body)
    → Extends old new bytes → IfSome new (λ v. v.items ≡ body ++ bytes)
extended_kept None new body bytes x e = subst (λ o. IfSome o (λ v. v.items ≡ body ++ bytes)) (sym e) tt
extended_kept (Some v) None body bytes x e = tt
extended_kept (Some v) (Some w) body bytes x e = e ∙ ap (λ l. l ++ bytes) x

-- the body grows by the first bytes of what is held
pub body_more : (first came more body held now : List ℕ) (count : ℕ) → first ++ came ≡ body ++ held → now ≡ held ++ more
    → first ++ (came ++ more) ≡ (body ++ take count now) ++ drop count now
body_more first came more body held now count x y =
    sym (append_assoc first came more) ∙ ap (λ l. l ++ more) x ∙ append_assoc body held more ∙ ap (λ l. body ++ l) (sym y)
    ∙ ap (λ l. body ++ l) (sym (take-append-drop count now)) ∙ sym (append_assoc body (take count now) (drop count now))

module _ {held : List ℕ} {front : WholeHead} (x : IsHeadAt held front) (came : List ℕ) where
  pub still_head : ReadsRequest (held ++ came) x.h (drop front.len held ++ came)
  still_head = ReadsRequest-append held x.h (drop front.len held) came x.reads

  pub some_bytes : held ++ came ≢ []
  some_bytes e = nothing_is_no_head (held ++ came) (ap length e) x.h (drop front.len held ++ came) still_head

  whole_head : length held ≤ 16384 → ReadsHead (held ++ came) x.h (drop front.len held ++ came)
  whole_head fits = record { reads = still_head; short = omega (arith, x.len, x.within, fits); few = x.few }

  -- the head that was noted says whether the reply has a body
  pub noted_bare : length held ≤ 16384 → IsBareAt (held ++ came) front.bare
  noted_bare fits = bare_at (held ++ came) x.h (drop front.len held ++ came) front.bare (sym x.bare) (whole_head fits)

  -- the body came
  pub whole_body : (n len : ℕ) (rest body now : List ℕ) → length held ≤ 16384 → framing x.h ≡ Ok len → rest ≡ drop front.len held
      → rest ++ came ≡ body ++ now → length body ≡ len → Whole n (held ++ came) (item_of n x.h body) now
  whole_body n len rest body now fits framed is split size = record {
    head = x.h;
    after = drop front.len held ++ came;
    reads = whole_head fits;
    framed =
        subst (λ f. Frames f n x.h (drop front.len held ++ came) (item_of n x.h body) now) (sym framed)
        (body, size, ap (λ l. l ++ came) (sym is) ∙ split, refl);
  }

  -- no body is read
  pub whole_refused : (n : ℕ) (refusal : Refusal) (rest : List ℕ) → length held ≤ 16384 → framing x.h ≡ Err refusal → rest ≡ drop front.len held
      → came ≡ [] → Whole n (held ++ came) (refusal_item refusal (is_bare x.h)) rest
  whole_refused n refusal rest fits framed is none = record {
    head = x.h;
    after = drop front.len held ++ came;
    reads = whole_head fits;
    framed =
        subst (λ f. Frames f n x.h (drop front.len held ++ came) (refusal_item refusal (is_bare x.h)) rest) (sym framed)
        (refl, ap (λ l. drop front.len held ++ l) none ∙ append-nil (drop front.len held) ∙ sym is);
  }

  -- the body is cut short
  pub cut_short : (len : ℕ) (rest : List ℕ) → framing x.h ≡ Ok len → rest ≡ drop front.len held → length (rest ++ came) < len
      → HasNoMessage (held ++ came)
  cut_short len rest framed is short n item left w =
      let same = request_unique (held ++ came) w.head x.h w.after (drop front.len held ++ came) w.reads.reads still_head in
      let other : framing w.head ≡ Ok len = ap framing same.0 ∙ framed in
      let b = subst (λ f. Frames f n w.head w.after item left) other w.framed in
      let after : length w.after ≡ length (rest ++ came) = ap length (same.1 ∙ ap (λ l. l ++ came) (sym is)) in
      let parts : length w.after ≡ length b.0 + length left = ap length b.2 ∙ length-append b.0 left in
      let size : length b.0 ≡ len = b.1 in
      absurd (omega (arith, after, parts, size, short))

-- an answer that shows an item
pub found_as : (n : ℕ) (known left : List ℕ) (future : Option (List ℕ)) (item : Item) (next : Next) (last bare : Bool)
    → Fronts n known left future item → Shows item.asked next → last ≡ item.last → bare ≡ item.bare → Finds n known left future next last bare
found_as n known left future item (Message pairs) last bare x s l b = (item, x, s, l, b)
found_as n known left future item (Refused code) last bare x s l b = (item, x, s, l, b)
found_as n known left future item Ended last bare x s l b = absurd s
found_as n known left future item ReadFault last bare x s l b = absurd s

-- and of a message or a refusal no fault is told
pub told_as : (old new : SourceView) (asked : Result (List ℕ) Refusal) (next : Next) → Shows asked next → new.failures ≡ old.failures
    → TellsNext old new next
told_as old new asked (Message pairs) s e = e
told_as old new asked (Refused code) s e = e
told_as old new asked Ended s e = absurd s
told_as old new asked ReadFault s e = absurd s
