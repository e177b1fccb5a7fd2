-- The bytes of a reply (RFC 9112): a status line, the type and the length of the body, whether the connection ends, and
-- the body.
use Rattle.std.specs.Prelude.{ℕ, Bool, List, [], ◌++◌, length, codes, decimal, if◌then◌else◌, unwrap_or, string_bytes}
use Rattle.http.specs.StatusCode.{reason_phrase}
use Rattle.arr_core.specs.Refusals.{refusal_name, refusal_status}
use Rattle.http_front.specs.declared.reply.Reply.{Reply}
use Rattle.http_front.specs.declared.reply.Reply.TheVariants.{Text, Csv, Refused}

-- the phrase of a status
unfoldable pub phrase_of : ℕ → List ℕ
phrase_of status = unwrap_or (reason_phrase status) []

-- `refused 20 NoSuchCoverage`, on a line
abbrev pub refusal_body : ℕ → List ℕ
refusal_body code = codes "refused " ++ decimal code ++ codes " " ++ refusal_name code ++ codes "\n"

abbrev pub close_line : Bool → List ℕ
close_line last = if last then codes "Connection: close\r\n" else []

-- what stands before the body: the status, the type and the length of the body, and whether the connection ends
abbrev pub opening : ℕ → List ℕ → ℕ → Bool → List ℕ
opening status kind size last =
    codes "HTTP/1.1 " ++ decimal status ++ codes " " ++ phrase_of status ++ codes "\r\nContent-Type: " ++ kind ++ codes
    "\r\nContent-Length: " ++ decimal size
    ++ codes "\r\n" ++ close_line last ++ codes "\r\n"

-- the body, unless it is left out
abbrev pub body_shown : Bool → List ℕ → List ℕ
body_shown bare body = if bare then [] else body

abbrev pub framed : ℕ → List ℕ → List ℕ → Bool → Bool → List ℕ
framed status kind body last bare = opening status kind (length body) last ++ body_shown bare body

-- all that is sent for a reply, where the connection ends with it or goes on, and where the body is left out or not
abbrev pub reply_bytes : Bool → Bool → Reply → List ℕ
reply_bytes last bare (Text text) = framed 200 (codes "text/plain") (string_bytes text) last bare
reply_bytes last bare (Csv text) = framed 200 (codes "text/csv") (string_bytes text) last bare
reply_bytes last bare (Refused code) = framed (refusal_status code) (codes "text/plain") (refusal_body code) last bare
