-- A connection that is being served, and how it ends.
use Rattle.std.proofs.Common.{◌≡◌, ◌≢◌, ℕ, ◌+◌, ◌<◌, Bool, true, false, List, [], ◌∷◌, ◌++◌, length, Option, refl, sym, ap, ◌∙◌, subst, arith, append_assoc, append-nil}
use Rattle.std.proofs.lemmas.List.{length-append}
use Rattle.std.specs.List.{concat}
use Rattle.std.specs.Io.KnownBytes.{Appends, Consumes, IsAtEnd}
use Rattle.std.proofs.KnownBytes.{Appends-trans, Consumes-trans}
use Rattle.stream_face.specs.Faults.{AppendsPrefix}
use Rattle.stream_face.specs.Views.{SourceView, SinkView}
use Rattle.stream_face.specs.Waiting.{IsFlushed}
use Rattle.http_front.specs.declared.connection.Next.{Next}
use Rattle.http_front.specs.declared.connection.Next.TheVariants as next
use Rattle.http_front.specs.declared.reply.Reply.{Reply}
use Rattle.http_front.specs.Replies.{reply_bytes}
use Rattle.http_front.specs.Stream.{HasNoMessage, Item, Messages, Taken, Fronts, TellsNext}
use Rattle.http_front.proofs.TakenLemmas.{Taken-append, Taken-push, Messages-after, Begins-after, rest_of, rest_at_end, all_of, last_message, one_message, whole_message, room_after}
use Rattle.coverage_server.specs.declared.server.ConnectionEnd.TheVariants.{Finished, ReadFault, WriteFault}
use Rattle.coverage_server.specs.Runs.{Placed, MessageStep, Run}
use Rattle.coverage_server.specs.Leaving.{Continues}
use Rattle.coverage_server.specs.Serves.{Ends, ServesConnection}
use Rattle.coverage_server.specs.Views.{ServerView}

-- what is neither the end nor a fault was found without a fault
pub quiet_item : (old new : SourceView) (found : Next) → TellsNext old new found → found ≢ next.Ended
    → found ≢ next.ReadFault → new.failures ≡ old.failures
quiet_item old new (next.Message pairs) x a b = x
quiet_item old new (next.Refused code) x a b = x
quiet_item old new next.Ended x a b = absurd (a refl)
quiet_item old new next.ReadFault x a b = absurd (b refl)

-- the ends of a connection
abbrev pub ends : SourceView → SourceView → SinkView → SinkView → Ends
ends source later sink gone = record { source = source; source_after = later; sink = sink; sink_after = gone }

-- one message more
pub Run-push : (items : List Item) (replies : List (List ℕ)) (old mid new : Placed) (item : Item) (reply : Reply)
    → Run old items replies mid → MessageStep mid item.asked reply new
    → Run old (items ++ item ∷ []) (replies ++ reply_bytes item.last item.bare reply ∷ []) new
Run-push [] [] old mid new item reply x s =
    (new, reply, subst (λ o. MessageStep o item.asked reply new) x s, refl, refl)
Run-push [] (bytes ∷ replies) old mid new item reply x s = absurd x
Run-push (first ∷ items) [] old mid new item reply x s = absurd x
Run-push (first ∷ items) (bytes ∷ replies) old mid new item reply x s =
    (x.0, x.1, x.2, x.3, Run-push items replies x.0 mid new item reply x.4 s)

-- one reply more
concat_push : (replies : List (List ℕ)) (bytes : List ℕ) → concat (replies ++ bytes ∷ []) ≡ concat replies ++ bytes
concat_push [] bytes = append-nil bytes
concat_push (first ∷ replies) bytes =
    ap (λ (l : List ℕ). first ++ l) (concat_push replies bytes) ∙ sym (append_assoc first (concat replies) bytes)

-- What has come, the messages in it, and their replies, which went out and do not wait.
pub record Serving (before now : SourceView) (held holds : SinkView) (old new : Placed) (buffer : List ℕ) (count : ℕ)
    : Type 0 where
  pub came : List ℕ
  pub took : Consumes before.remaining now.remaining came
  pub items : List Item
  pub taken : Taken 0 came items buffer
  pub replies : List (List ℕ)
  pub run : Run old items replies new
  pub sent : Appends held.contents holds.contents (concat replies)
  pub flushed : IsFlushed held.waiting → IsFlushed holds.waiting
  pub counted : count ≡ length items

module _ {before now : SourceView} {held holds : SinkView} {old new : Placed} {buffer : List ℕ} {count : ℕ}
    (s : Serving before now held holds old new buffer count) (later : SourceView) (more : List ℕ)
    (took : Consumes now.remaining later.remaining more) where
  taken_all : Taken 0 ((s.came ++ more) ++ rest_of later.remaining) s.items ((buffer ++ more) ++ rest_of later.remaining)
  taken_all =
      Taken-append 0 (s.came ++ more) s.items (buffer ++ more) (rest_of later.remaining)
      (Taken-append 0 s.came s.items buffer more s.taken)

  took_all : Consumes before.remaining later.remaining (s.came ++ more)
  took_all = Consumes-trans before.remaining now.remaining later.remaining s.came more s.took took

  from_zero : count ≡ 0 + length s.items
  from_zero = omega (arith, s.counted)

  pub ended : IsAtEnd later.remaining → buffer ++ more ≡ []
      → ServesConnection (ends before later held holds) old new Finished
  ended end none =
      let nothing : (buffer ++ more) ++ rest_of later.remaining ≡ [] =
      ap (λ (l : List ℕ). (buffer ++ more) ++ l) (rest_at_end later.remaining end) ∙ append-nil (buffer ++ more) ∙ none in
      let messages = Messages-after 0 count _ s.items [] _ from_zero taken_all nothing in
      record {
        bytes = (s.came ++ more) ++ rest_of later.remaining;
        items = s.items;
        replies = s.replies;
        asked = (
          all_of before.remaining later.remaining (s.came ++ more) took_all,
          subst (Messages 0 ((s.came ++ more) ++ rest_of later.remaining)) (append-nil s.items) messages,
        );
        run = s.run;
        sent = (s.sent, s.flushed);
      }

  pub faulted : HasNoMessage (buffer ++ more) → ServesConnection (ends before later held holds) old new ReadFault
  faulted none = record {
    bytes = s.came ++ more;
    items = s.items;
    replies = s.replies;
    asked = (took_all, buffer ++ more, Taken-append 0 s.came s.items buffer more s.taken, none);
    run = s.run;
    sent = (s.sent, s.flushed);
  }

  module _ (left : List ℕ) (item : Item) (x : Fronts count (buffer ++ more) left later.remaining item) (newer : Placed)
      (reply : Reply) (step : MessageStep new item.asked reply newer)
      (last bare : Bool) (is : last ≡ item.last) (shown : bare ≡ item.bare) (gone : SinkView) where
    ran : Run old (s.items ++ item ∷ []) (s.replies ++ reply_bytes item.last item.bare reply ∷ []) newer
    ran = Run-push s.items s.replies old new newer item reply s.run step

    gone_out : Appends holds.contents gone.contents (reply_bytes last bare reply)
        → Appends held.contents gone.contents (concat (s.replies ++ reply_bytes item.last item.bare reply ∷ []))
    gone_out sent =
        subst (Appends held.contents gone.contents) (sym (concat_push s.replies (reply_bytes item.last item.bare reply)))
        (Appends-trans held.contents holds.contents gone.contents (concat s.replies) (reply_bytes item.last item.bare reply)
        s.sent
        (subst (λ b. Appends holds.contents gone.contents (reply_bytes b item.bare reply)) is
        (subst (λ d. Appends holds.contents gone.contents (reply_bytes last d reply)) shown sent)))

    pub answered : last ≡ true → Appends holds.contents gone.contents (reply_bytes last bare reply) → IsFlushed gone.waiting
        → ServesConnection (ends before later held gone) old newer Finished
    answered closed sent flushed = record {
      bytes = (s.came ++ more) ++ rest_of later.remaining;
      items = s.items ++ item ∷ [];
      replies = s.replies ++ reply_bytes item.last item.bare reply ∷ [];
      asked = (
        all_of before.remaining later.remaining (s.came ++ more) took_all,
        Messages-after 0 count _ s.items (item ∷ []) _ from_zero taken_all
            (last_message count (buffer ++ more) left later.remaining item x (sym is ∙ closed)),
      );
      run = ran;
      sent = (gone_out sent, λ before. flushed);
    }

    pub unwritten : AppendsPrefix holds.contents gone.contents (reply_bytes last bare reply)
        → ServesConnection (ends before later held gone) old newer WriteFault
    unwritten sent = record {
      bytes = (s.came ++ more) ++ rest_of later.remaining;
      items = s.items ++ item ∷ [];
      replies = s.replies ++ reply_bytes item.last item.bare reply ∷ [];
      asked = (
        all_of before.remaining later.remaining (s.came ++ more) took_all,
        Begins-after 0 count _ s.items (item ∷ []) _ from_zero taken_all
            (one_message count (buffer ++ more) left later.remaining item x),
      );
      run = ran;
      sent = (
        s.replies,
        reply_bytes item.last item.bare reply,
        refl,
        holds.contents,
        s.sent,
        subst (λ b. AppendsPrefix holds.contents gone.contents (reply_bytes b item.bare reply)) is
            (subst (λ d. AppendsPrefix holds.contents gone.contents (reply_bytes last d reply)) shown sent),
      );
    }

    pub continued : (number : ℕ) → number ≡ count + 1 → last ≡ false
        → Appends holds.contents gone.contents (reply_bytes last bare reply) → IsFlushed gone.waiting
        → Serving before later held gone old newer left number
    continued number numbered goes_on sent flushed =
        let whole = whole_message count (buffer ++ more) left later.remaining item x (sym is ∙ goes_on) in
        record {
          came = s.came ++ more;
          took = took_all;
          items = s.items ++ item ∷ [];
          taken =
              Taken-push 0 count (s.came ++ more) s.items item (buffer ++ more) left from_zero
              (Taken-append 0 s.came s.items buffer more s.taken) whole (sym is ∙ goes_on);
          replies = s.replies ++ reply_bytes item.last item.bare reply ∷ [];
          run = ran;
          sent = gone_out sent;
          flushed = λ before. flushed;
          counted = omega (arith, numbered, s.counted, length-append s.items (item ∷ []));
        }

-- the connection has room for another message
pub roomy : (count : ℕ) (buffer more left : List ℕ) (later : Option (List ℕ)) (item : Item) → Fronts count (buffer ++ more) left later item → (last : Bool) → last ≡ item.last
    → (number : ℕ) → number ≡ count + 1 → last ≡ false → count < 1000 → number < 1000
roomy count buffer more left later item x last is number numbered goes_on room =
    let less : count + 1 < 1000 = room_after count (buffer ++ more) left item (whole_message count (buffer ++ more) left later item x (sym is ∙ goes_on)) (sym is ∙ goes_on) room in omega arith

-- what each of two calls leaves, both leave
pub Continues-trans : (u v w : ServerView) → Continues u v → Continues v w → Continues u w
Continues-trans u v w first second = record {
  sound = λ sound. second.sound (first.sound sound);
  header = λ state count from size h. second.header state count from size (first.header state count from size h);
  honest = second.honest ∙ first.honest;
  no_fewer = let a = first.no_fewer in let b = second.no_fewer in omega (arith, a, b);
  overreads = second.overreads ∙ first.overreads;
}

pub Continues-refl : (v : ServerView) → Continues v v
Continues-refl v = record {
  sound = λ sound. sound;
  header = λ state count from size h. h;
  honest = refl;
  no_fewer = omega arith;
  overreads = refl;
}
