-- What a head asks, and what stands at the front of some bytes. The grammar of a head is that of the crate httparse,
-- and what its fields say is read as RFC 9112 has it.
use Rattle.std.specs.Prelude.{◌≡◌, ℕ, ◌≤◌, ◌<◌, ◌==◌, Bool, ◌||◌, not, if◌then◌else◌, List, [], length, map, drop, Result, Ok, Err, bytes_eq, codes, nat_eq, nat_le, ⊤}
use Rattle.std.specs.List.{starts_with}
use Rattle.arr_core.specs.declared.refusal.Refusal.{Refusal}
use Rattle.arr_core.specs.declared.refusal.Refusal.TheVariants.{BadHead, BodyTooLong, NoSuchPath, NotServed}
use Rattle.httparse.specs.Grammar.{RequestHead, print_request, ReadsRequest, HasNoRequest}
use Rattle.httparse.specs.Spans.{RequestOverflows, span_bytes, name_and_value}
use Rattle.httparse.specs.declared.spans.Span.{Span}
use Rattle.http1.specs.Fields.{known_fields}
use Rattle.http1.specs.declared.fields.KnownFields.{KnownFields}
use Rattle.http1.specs.declared.fields.ContentLength.{ContentLength}
use Rattle.http1.specs.declared.fields.ContentLength.TheVariants as Length
use Rattle.http1.specs.declared.fields.TransferEncoding.{TransferEncoding}
use Rattle.http1.specs.declared.fields.TransferEncoding.TheVariants as Coding
use Rattle.http_front.specs.Limits.{max_head_fields, max_body}
use Rattle.http_front.specs.declared.head.Asked.{Asked}
use Rattle.http_front.specs.declared.head.Asked.TheVariants.{Query, Body, Refuses}
use Rattle.http_front.specs.declared.head.WholeHead.{WholeHead}
use Rattle.http_front.specs.declared.head.Front.{Front}
use Rattle.http_front.specs.declared.head.Front.TheVariants.{Whole, Partial, Bad}

-- What a target asks: the query part behind the first `?` of `/ows`, which may be absent. There is no other path.
abbrev pub query_of : List ℕ → Result (List ℕ) Refusal
query_of target =
    if bytes_eq target (codes "/ows") then Ok []
    else (if starts_with nat_eq target (codes "/ows?") then Ok (drop 5 target) else Err NoSuchPath)

-- the body in place of the query part
abbrev pub body_for : List ℕ → Result (List ℕ) Refusal → Result (List ℕ) Refusal
body_for body (Ok query) = Ok body
body_for body (Err refusal) = Err refusal

-- What a message asks: GET the pairs of its query part, POST those of its body. Another method is not served.
abbrev pub asked_parts : List ℕ → List ℕ → List ℕ → Result (List ℕ) Refusal
asked_parts method target body =
    if bytes_eq method (codes "GET") then query_of target
    else (if bytes_eq method (codes "POST") then body_for body (query_of target) else Err NotServed)

abbrev pub asked_by : RequestHead → List ℕ → Result (List ℕ) Refusal
asked_by h body = asked_parts h.method h.target body

-- what the fields of a head say of the body and of the connection
abbrev pub known_of : RequestHead → KnownFields
known_of h = known_fields (map name_and_value h.fields)

-- The length of a body by its fields, or the refusal: NotServed for a Transfer-Encoding field, whatever else there is;
-- BadHead for a Content-Length that is no number of 64 bits, or two that differ; BodyTooLong for a length above
-- 1,048,576.
abbrev pub framing_of : TransferEncoding → ContentLength → Result ℕ Refusal
framing_of Coding.Absent Length.Absent = Ok 0
framing_of Coding.Absent (Length.Value n) = if nat_le n max_body then Ok n else Err BodyTooLong
framing_of Coding.Absent Length.Invalid = Err BadHead
framing_of Coding.Chunked length = Err NotServed
framing_of Coding.Other length = Err NotServed
framing_of Coding.Blank length = Err NotServed
framing_of Coding.Invalid length = Err NotServed

abbrev pub framing : RequestHead → Result ℕ Refusal
framing h = framing_of (known_of h).transfer_encoding (known_of h).content_length

abbrev pub is_served : List ℕ → Bool
is_served method = bytes_eq method (codes "GET") || bytes_eq method (codes "POST")

-- The reply to a message with this head ends the connection: it is of HTTP/1.0, its method is not served, or a
-- Connection field lists `close`.
abbrev pub is_last : RequestHead → Bool
is_last h = (h.minor == 0) || not (is_served h.method) || (known_of h).close

-- the reply to a message with this head has no body
abbrev pub is_bare : RequestHead → Bool
is_bare h = bytes_eq h.method (codes "HEAD")

-- a query part that was found in some bytes, or a refusal, as what it stands for
abbrev pub query_at : List ℕ → Result Span Refusal → Result (List ℕ) Refusal
query_at bytes (Ok span) = Ok (span_bytes bytes span)
query_at bytes (Err refusal) = Err refusal

-- the query part lies in the bytes
abbrev pub IsQueryPlaced : List ℕ → Result Span Refusal → Type 0
IsQueryPlaced bytes (Ok span) = (span.start ≤ span.end) × (span.end ≤ length bytes)
IsQueryPlaced bytes (Err refusal) = ⊤

-- what is asked, as what it stands for with this body
abbrev pub asked_at : List ℕ → Asked → List ℕ → Result (List ℕ) Refusal
asked_at bytes (Query span) body = Ok (span_bytes bytes span)
asked_at bytes Body body = Ok body
asked_at bytes (Refuses refusal) body = Err refusal

-- what is asked stands for this, by the body
abbrev pub IsAsked : List ℕ → Asked → (List ℕ → Result (List ℕ) Refusal) → Type 0
IsAsked bytes asked meant = (body : List ℕ) → asked_at bytes asked body ≡ meant body

-- the place of the pairs lies in the bytes
abbrev pub IsPlaced : List ℕ → Asked → Type 0
IsPlaced bytes (Query span) = (span.start ≤ span.end) × (span.end ≤ length bytes)
IsPlaced bytes Body = ⊤
IsPlaced bytes (Refuses refusal) = ⊤

-- a whole head at the front, and what was noted of it
pub record IsHeadAt (bytes : List ℕ) (front : WholeHead) : Type 0 where
  pub h : RequestHead
  pub reads : ReadsRequest bytes h (drop front.len bytes)
  pub len : length (print_request h) ≡ front.len
  pub few : length h.fields ≤ max_head_fields
  pub within : front.len ≤ length bytes
  pub placed : IsPlaced bytes front.asked
  pub asked : IsAsked bytes front.asked (asked_by h)
  pub framed : front.framing ≡ framing h
  pub last : front.last ≡ is_last h
  pub bare : front.bare ≡ is_bare h

-- a head at the front, none yet, or none whatever follows
abbrev pub FrontOf : List ℕ → Front → Type 0
FrontOf bytes (Whole front) = IsHeadAt bytes front
FrontOf bytes Partial = HasNoRequest bytes
FrontOf bytes Bad = RequestOverflows max_head_fields bytes × (0 < length bytes)
