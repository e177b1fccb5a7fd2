-- In what was held and came stands a whole head, or one that never comes, or one that the end cut short.
use Rattle.std.proofs.Common.{◌≡◌, ◌≢◌, ◌≤◌, [], ◌++◌, length, take, refl, ap, subst, append_assoc, ◌∙◌, arith, append-nil, sym}
use Rattle.std.specs.Io.KnownBytes.{Consumes}
use Rattle.std.proofs.KnownBytes.{Consumes-nil, Consumes-trans}
use Rattle.std.proofs.lemmas.List.{length-append, take_at}
use Rattle.httparse.specs.Grammar.{HasNoRequest}
use Rattle.httparse.specs.Spans.{RequestOverflows}
use Rattle.http_front.specs.Head.{IsHeadAt}
use Rattle.http_front.proofs.StreamLemmas.{never_for_length, never_for_fields, nothing_is_no_head, no_bytes}
use Rattle.http_front.proofs.ahead.look_ahead.Goals as goal

pub reading-init : goal.reading-init
reading-init g c = (([], Consumes-nil _, sym (append-nil _)), refl, omega arith, nothing_is_no_head [] refl)

pub returns-in-Whole-clause-bytes : goal.returns-in-Whole-clause-bytes
returns-in-Whole-clause-bytes g c =
    let i = c.reading.invariant.0 in
    (i.0, i.1, i.2, c.held.ensures.fits, subst (λ l. IsHeadAt l c.in-Whole.head) c.held.ensures.value c.in-Whole.ensures)

pub returns-in-Bad-clause-bytes : goal.returns-in-Bad-clause-bytes
returns-in-Bad-clause-bytes g c =
    let i = c.reading.invariant.0 in
    let bad = subst (RequestOverflows 64) c.held.ensures.value c.in-Bad.ensures.0 in
    let some : c.reading.buffer ≢ [] = λ e. omega (arith, ap length c.held.ensures.value, ap length e, c.in-Bad.ensures.1) in
    (i.0, i.1, i.2, c.held.ensures.fits, (some, never_for_fields c.reading.buffer bad))

pub returns-then-seen-ge-MAX_HEAD-clause-bytes : goal.returns-then-seen-ge-MAX_HEAD-clause-bytes
returns-then-seen-ge-MAX_HEAD-clause-bytes g c =
    let i = c.reading.invariant.0 in
    let none : HasNoRequest c.reading.buffer = subst HasNoRequest c.held.ensures.value c.in-Partial.ensures in
    let full : 16384 ≤ length c.reading.buffer = omega (arith, c.len-seen.ensures) in
    (i.0, i.1, i.2, c.held.ensures.fits, ((λ e. omega (arith, ap length e, full)), never_for_length c.reading.buffer none full))

-- a read that brought nothing leaves what had come
pub returns-then-seen-eq0-clause-bytes : goal.returns-then-seen-eq0-clause-bytes
returns-then-seen-eq0-clause-bytes g c =
    let f = c.in-End.ensures.bytes in
    let i = c.reading.invariant.0 in
    let took = subst (Consumes _ _) (append-nil i.0) (Consumes-trans _ _ _ i.0 [] i.1 f.0) in
    let nothing : c.fill.new.self ≡ [] = f.2 ∙ no_bytes c.reading.buffer (sym c.len-seen.ensures ∙ c.if-seen-eq0.true) in
    (i.0, took, f.2 ∙ i.2, omega (arith, ap length nothing), (nothing, f.1))

pub returns-in-End-clause-bytes : goal.returns-in-End-clause-bytes
returns-in-End-clause-bytes g c =
    let f = c.in-End.ensures.bytes in
    let i = c.reading.invariant.0 in
    let took = subst (Consumes _ _) (append-nil i.0) (Consumes-trans _ _ _ i.0 [] i.1 f.0) in
    let none : HasNoRequest c.fill.new.self = subst HasNoRequest (c.held.ensures.value ∙ sym f.2) c.in-Partial.ensures in
    let some : c.fill.new.self ≢ [] = λ e. c.if-seen-eq0.false (c.len-seen.ensures ∙ ap length (sym f.2 ∙ e)) in
    (i.0, took, f.2 ∙ i.2, subst (λ l. length l ≤ 16384) (sym f.2) c.held.ensures.fits, (some, f.1, none))

pub returns-in-Fault-clause-bytes : goal.returns-in-Fault-clause-bytes
returns-in-Fault-clause-bytes g c =
    let f = c.in-Fault.ensures.bytes in
    let i = c.reading.invariant.0 in
    let took = subst (Consumes _ _) (append-nil i.0) (Consumes-trans _ _ _ i.0 [] i.1 f.0) in
    let none : HasNoRequest c.fill.new.self = subst HasNoRequest (c.held.ensures.value ∙ sym f.1) c.in-Partial.ensures in
    (i.0, took, f.1 ∙ i.2, subst (λ l. length l ≤ 16384) (sym f.1) c.held.ensures.fits, none)

pub reading-preserved : goal.reading-preserved
reading-preserved g c =
    let i = c.reading.invariant in
    let f = c.in-More.ensures.bytes in
    let buffer = c.reading.buffer in
    let none : HasNoRequest buffer = subst HasNoRequest c.held.ensures.value c.in-Partial.ensures in
    let front : take c.len-seen.result c.fill.new.self ≡ buffer =
    ap (take c.len-seen.result) f.3 ∙ take_at buffer f.0 c.len-seen.result (sym c.len-seen.ensures) in (
      (
        i.0.0 ++ f.0,
        Consumes-trans _ _ _ i.0.0 f.0 i.0.1 f.2,
        f.3 ∙ ap (λ l. l ++ f.0) i.0.2 ∙ append_assoc c.args.buffer.now i.0.0 f.0,
      ),
      c.in-More.ensures.told ∙ i.1,
      omega (arith, c.len-seen.ensures, ap length f.3, length-append buffer f.0),
      subst HasNoRequest (sym front) none,
    )
