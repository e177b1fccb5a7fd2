-- A reply that goes out in parts.
use Rattle.std.proofs.Common.{ℕ, Bool, true, false, List, [], ◌++◌, Option, sym, subst, arith, append-nil}
use Rattle.std.proofs.lemmas.List.{length-append, take-append-le}
use Rattle.std.specs.Io.KnownBytes.{Appends}
use Rattle.stream_face.specs.Faults.{AppendsPrefix, Sent}
use Rattle.stream_face.specs.Views.{SinkView}
use Rattle.stream_face.proofs.SentLemmas.{Sent-after}
use Rattle.http_front.specs.Sending.{IsUnderWay}

-- a first part of what came before is a first part of the whole
pub prefix_longer : (a b : Option (List ℕ)) (text more : List ℕ) → AppendsPrefix a b text → AppendsPrefix a b (text ++ more)
prefix_longer a b text more (n, few, x) =
    (n, omega (arith, few, length-append text more), subst (Appends a b) (sym (take-append-le n text more few)) x)

-- what is pending goes out, or a first part of it
pub pending_sent : (first a b : SinkView) (ok : Bool) (text pending : List ℕ) → IsUnderWay first a true text pending
    → Sent a b ok pending → Sent first b ok text
pending_sent first a b ok text pending (sent, out, is, fine) y =
    subst (Sent first b ok) (sym is) (Sent-after first a b ok sent pending (out, fine) y)

-- nothing is pending
pub nothing_pending : (first b : SinkView) (ok : Bool) (text : List ℕ) → Sent first b ok text → IsUnderWay first b ok text []
nothing_pending first b true text x = (text, x.0, sym (append-nil text), x.1)
nothing_pending first b false text x = x
