-- What the parser's answers say of heads within the limits.
use Rattle.std.proofs.Common.{◌≡◌, ℕ, ◌+◌, ◌<◌, ◌≤◌, ◌||◌, Bool, true, false, List, [], ◌∷◌, ◌++◌, length, take, drop, refl, sym, ap, ◌∙◌, arith, append_assoc, inl, inr}
use Rattle.std.proofs.lemmas.List.{take-append-le, take_at, take-append-drop, drop-append-le, length-append}
use Rattle.std.proofs.lemmas.Bool.{cases_lt}
use Rattle.std.proofs.Math.Seq.{drop-append_seam}
use Rattle.std.specs.Prelude.{◌⊎◌}
use Rattle.std.specs.List.{flat_map}
use Rattle.httparse.specs.Grammar.{RequestHead, print_request, HasNoRequest, LineEnd, crlf, lf, print_blank, print_version, print_end, print_field}
use Rattle.httparse.specs.Spans.{RequestOverflows}
use Rattle.httparse.proofs.GrammarLemmas.{print_request-append, request_unique}
use Rattle.http_front.specs.Bytes.{has_line_end}
use Rattle.http_front.specs.Head.{is_bare}
use Rattle.http_front.specs.Stream.{ReadsHead, HasNoMessage, NeverHasHead, IsBareAt}

pub no_head_yet : (bytes : List ℕ) → HasNoRequest bytes → HasNoMessage bytes
no_head_yet bytes none n item rest x = none x.head x.after x.reads.reads

-- too many fields
pub never_for_fields : (bytes : List ℕ) → RequestOverflows 64 bytes → NeverHasHead bytes
never_for_fields bytes over more h rest x =
    let many = over more h rest x.reads in absurd (omega (arith, x.few, many))

-- a text that is no longer than the front of a list stands in that front
pub front_within : (bytes more text rest : List ℕ) → bytes ++ more ≡ text ++ rest → length text ≤ length bytes
    → bytes ≡ text ++ drop (length text) bytes
front_within bytes more text rest e short =
    let front : take (length text) bytes ≡ text =
    sym (take-append-le (length text) bytes more short) ∙ ap (take (length text)) e ∙ take_at text rest (length text) refl in
    sym (take-append-drop (length text) bytes) ∙ ap (λ l. l ++ drop (length text) bytes) front

-- no head in as many bytes as a head may have
pub never_for_length : (bytes : List ℕ) → HasNoRequest bytes → 16384 ≤ length bytes → NeverHasHead bytes
never_for_length bytes none full more h rest x =
    none h (drop (length (print_request h)) bytes)
    (x.reads.0, front_within bytes more (print_request h) rest x.reads.1 (omega (arith, x.short)))

-- a list without length has no bytes
pub no_bytes : (bytes : List ℕ) → length bytes ≡ 0 → bytes ≡ []
no_bytes [] e = refl
no_bytes (b ∷ bytes) e = absurd (omega (arith, e))

pub nothing_is_no_head : (bytes : List ℕ) → length bytes ≡ 0 → HasNoRequest bytes
nothing_is_no_head bytes e h rest x =
    let all : length bytes ≡ length (print_request h ++ rest) = ap length x.1 in
    let long = ap length (print_request-append h rest) in
    absurd (omega (arith, e, all, long, length-append {A = ℕ}))

-- where no head stands at the front, none asks for a reply without a body
pub not_bare : (bytes : List ℕ) → HasNoRequest bytes → IsBareAt bytes false
not_bare bytes none h rest x = absurd (none h rest x.reads)

-- the head at the front says whether its reply has a body
pub bare_at : (bytes : List ℕ) (h : RequestHead) (rest : List ℕ) (bare : Bool) → is_bare h ≡ bare → ReadsHead bytes h rest → IsBareAt bytes bare
bare_at bytes h rest true e x = (h, rest, x, e)
bare_at bytes h rest false e x =
    λ k after (y : ReadsHead bytes k after). ap is_bare (request_unique bytes k h after rest y.reads x.reads).0 ∙ e

-- a line ends with a line feed
end_with_feed : (end : LineEnd) → (front : List ℕ) × (print_end end ≡ front ++ 10 ∷ [])
end_with_feed crlf = (13 ∷ [], refl)
end_with_feed lf = ([], refl)

-- and so does a head
head_with_feed : (h : RequestHead) → (front : List ℕ) × (print_request h ≡ front ++ 10 ∷ [])
unfolding print_request
head_with_feed h =
    let last = end_with_feed h.last in
    let before : List ℕ = print_blank h.blank ++ h.method ++ 32 ∷ h.target ++ 32 ∷ print_version h.minor ++ print_end h.line_end in
    let lines : List ℕ = flat_map print_field h.fields in
    (before ++ (lines ++ last.0), ap (λ l. before ++ (lines ++ l)) last.1 ∙ join before lines last.0 (10 ∷ []))
  where
    join : (a b c d : List ℕ) → a ++ (b ++ (c ++ d)) ≡ (a ++ (b ++ c)) ++ d
    join a b c d = ap (λ l. a ++ l) (sym (append_assoc b c d)) ∙ sym (append_assoc a (b ++ c) d)

feed_within : (front rest : List ℕ) → has_line_end (front ++ 10 ∷ rest) ≡ true
feed_within [] rest = refl
feed_within (b ∷ front) rest = rw (feed_within front rest) (or_true _)
  where
    or_true : (x : Bool) → x || true ≡ true
    or_true true = refl
    or_true false = refl

-- No line has ended in what came behind some bytes that are no head: there is still no head.
pub no_head_without_end : (seen came : List ℕ) → HasNoRequest seen → has_line_end came ≡ false → HasNoRequest (seen ++ came)
no_head_without_end seen came none quiet h rest x =
    let feed = head_with_feed h in by_length feed.0 feed.1 (cases_lt (length feed.0) (length seen))
  where
    by_length : (front : List ℕ) → print_request h ≡ front ++ 10 ∷ [] → (length front < length seen) ⊎ (length seen ≤ length front) → ⊥
    by_length front e (inl short) =
        let size : length (print_request h) ≡ length front + 1 = ap length e ∙ length-append front (10 ∷ []) in
        none h (drop (length (print_request h)) seen) (x.0, front_within seen came (print_request h) rest x.1 (omega (arith, size, short)))
    by_length front e (inr long) =
        let split : came ≡ drop (length seen) front ++ 10 ∷ rest =
        sym (drop-append_seam seen came) ∙ ap (drop (length seen)) (x.1 ∙ ap (λ l. l ++ rest) e ∙ append_assoc front (10 ∷ []) rest)
        ∙ drop-append-le (length seen) front (10 ∷ rest) long in
        let ends : has_line_end came ≡ true = ap has_line_end split ∙ feed_within (drop (length seen) front) rest in
        cc
