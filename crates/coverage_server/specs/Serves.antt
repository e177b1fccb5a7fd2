-- What serving a connection does.
use Rattle.std.specs.Prelude.{◌≡◌, ℕ, List, [], ◌∷◌, ◌++◌, Option, Result, IfSome}
use Rattle.std.specs.List.{concat}
use Rattle.std.specs.Io.KnownBytes.{Appends, Consumes}
use Rattle.arr_core.specs.declared.refusal.Refusal.{Refusal}
use Rattle.stream_face.specs.Faults.{AppendsPrefix, one_more_failure}
use Rattle.stream_face.specs.Views.{SourceView, SinkView}
use Rattle.stream_face.specs.Waiting.{IsFlushed}
use Rattle.http_front.specs.Stream.{HasNoMessage, Item, Messages, Begins, Taken, Shows}
use Rattle.http_front.specs.declared.connection.Next.{Next}
use Rattle.http_front.specs.declared.reply.Reply.{Reply}
use Rattle.coverage_server.specs.Represents.{Refines}
use Rattle.coverage_server.specs.Runs.{Placed, MessageStep, Run}
use Rattle.coverage_server.specs.Views.{SessionView}
use Rattle.coverage_server.specs.declared.server.ConnectionEnd.{ConnectionEnd}
use Rattle.coverage_server.specs.declared.server.ConnectionEnd.TheVariants.{Finished, ReadFault, WriteFault}

-- What a reader and a writer tell before a connection and after it: the bytes that are still to come, those that went
-- out, and how many calls on them have failed.
pub record Ends : Type 0 where
  pub source : SourceView
  pub source_after : SourceView
  pub sink : SinkView
  pub sink_after : SinkView

-- what a reader and a writer tell before and after, by what their types tell
abbrev pub ends_of : {R W : Type 0} → (R → SourceView) → (W → SinkView) → R → R → W → W → Ends
ends_of source sink reader reader' writer writer' =
    record { source = source reader; source_after = source reader'; sink = sink writer; sink_after = sink writer' }

-- A connection ended by a fault of the reader or of the writer exactly where a call on it failed, and that was the only
-- call on them that did: none that could fail was made behind it.
abbrev pub TellsEnd : Ends → ConnectionEnd → Type 0
TellsEnd e Finished = (e.source_after.failures ≡ e.source.failures) × (e.sink_after.failures ≡ e.sink.failures)
TellsEnd e ReadFault =
    (e.source_after.failures ≡ one_more_failure e.source.failures) × (e.sink_after.failures ≡ e.sink.failures)
TellsEnd e WriteFault =
    (e.source_after.failures ≡ e.source.failures) × (e.sink_after.failures ≡ one_more_failure e.sink.failures)

-- Which messages of the reader's bytes were asked: all of the stream; those that had come whole before a read failed,
-- none of which ended the connection; the first ones, up to the one whose reply was not written. The reader has told
-- all its bytes where these are known.
abbrev pub AreAsked : Ends → ConnectionEnd → List ℕ → List Item → Type 0
AreAsked e Finished bytes items = IfSome e.source.remaining (λ all. bytes ≡ all) × Messages 0 bytes items
AreAsked e ReadFault bytes items =
    Consumes e.source.remaining e.source_after.remaining bytes
    × (rest : List ℕ) × Taken 0 bytes items rest × HasNoMessage rest
AreAsked e WriteFault bytes items = IfSome e.source.remaining (λ all. bytes ≡ all) × Begins 0 bytes items

-- these replies went out, and none of their bytes waits, if none waited before
abbrev pub AreOut : Ends → List (List ℕ) → Type 0
AreOut e replies =
    Appends e.sink.contents e.sink_after.contents (concat replies)
    × (IsFlushed e.sink.waiting → IsFlushed e.sink_after.waiting)

-- Which replies went out: all of them; where a write failed all but the last, and a first part of that one.
abbrev pub AreSent : Ends → ConnectionEnd → List (List ℕ) → Type 0
AreSent e Finished replies = AreOut e replies
AreSent e ReadFault replies = AreOut e replies
AreSent e WriteFault replies =
    (whole : List (List ℕ)) × (last : List ℕ) × (replies ≡ whole ++ last ∷ [])
    × (sent : Option (List ℕ)) × Appends e.sink.contents sent (concat whole)
    × AppendsPrefix sent e.sink_after.contents last

-- A connection that ended so: the bytes that were read, the messages in them, and the bytes of the reply to each. The
-- replies are those of one run of the machine over the messages that were asked, and they went out.
pub record ServesConnection (e : Ends) (old new : Placed) (end : ConnectionEnd) : Type 0 where
  pub bytes : List ℕ
  pub items : List Item
  pub replies : List (List ℕ)
  pub asked : AreAsked e end bytes items
  pub run : Run old items replies new
  pub sent : AreSent e end replies

-- serving a connection, which ended so, refines the machine's
abbrev pub IsServed : Ends → ConnectionEnd → SessionView → SessionView → Type 0
IsServed e end old new = Refines (λ p q. ServesConnection e p q end) old new

-- the reply to what a connection shows refines the machine's step of the message that is asked
abbrev pub IsReply : Next → SessionView → Reply → SessionView → Type 0
IsReply next old reply new =
    (asked : Result (List ℕ) Refusal) → Shows asked next → Refines (λ p q. MessageStep p asked reply q) old new
