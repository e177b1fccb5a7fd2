-- The parts of a reply are the reply.
use Rattle.std.proofs.Common.{◌≡◌, ℕ, ◌+◌, Bool, List, ◌++◌, length, Option, None, Some, refl, sym, ap, ◌∙◌, append_assoc}
use Rattle.std.specs.Prelude.{codes, decimal, unwrap_or, option_map}
use Rattle.std.specs.Borrow.{Bor}
use Rattle.std.proofs.lemmas.List.{length-append}
use Rattle.arr_core.specs.Refusals.{refusal_name}
use Rattle.http_front.specs.Replies.{opening, close_line, phrase_of, refusal_body}

pub unwrap_now : (o : Option (Bor (List ℕ))) (d : Bor (List ℕ)) → (unwrap_or o d).now ≡ unwrap_or (option_map (λ s. s.now) o) d.now
unwrap_now None d = refl
unwrap_now (Some s) d = refl

pub opening_parts : (digits phrase shown kind size close : List ℕ) (status n : ℕ) (last : Bool) → digits ≡ decimal status → phrase ≡ phrase_of status → shown ≡ kind → size ≡ decimal n
    → close ≡ close_line last
    → (((((((((codes "HTTP/1.1 " ++ digits) ++ codes " ") ++ phrase) ++ codes "\r\nContent-Type: ") ++ shown) ++ codes "\r\nContent-Length: ") ++ size) ++ codes "\r\n") ++ close) ++ codes "\r\n"
    ≡ opening status kind n last
opening_parts digits phrase shown kind size close status n last a b c d e = rw (a, b, c, d, e) refl

pub refusal_length : (number name : List ℕ) (code : ℕ) → number ≡ decimal code → name ≡ refusal_name code
    → 8 + length number + 1 + length name + 1 ≡ length (refusal_body code)
refusal_length number name code a b =
    rw (a, b)
    (sym (length-append (codes "refused " ++ decimal code ++ codes " " ++ refusal_name code) (codes "\n")
    ∙ ap (λ n. n + 1) (length-append (codes "refused " ++ decimal code ++ codes " ") (refusal_name code)
    ∙ ap (λ n. n + length (refusal_name code)) (length-append (codes "refused " ++ decimal code) (codes " ")
    ∙ ap (λ n. n + 1) (length-append (codes "refused ") (decimal code))))))

pub refusal_parts : (front number name : List ℕ) (code : ℕ) → number ≡ decimal code → name ≡ refusal_name code
    → ((((front ++ codes "refused ") ++ number) ++ codes " ") ++ name) ++ codes "\n" ≡ front ++ refusal_body code
refusal_parts front number name code a b = rw (a, b) (join front (codes "refused ") (decimal code) (codes " ") (refusal_name code) (codes "\n"))
  where
    join : (a b c d e f : List ℕ) → ((((a ++ b) ++ c) ++ d) ++ e) ++ f ≡ a ++ ((((b ++ c) ++ d) ++ e) ++ f)
    join a b c d e f = simp append_assoc
