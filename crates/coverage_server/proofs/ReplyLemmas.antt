-- The reply to a message is a step of the machine.
use Rattle.std.proofs.Common.{◌≡◌, ℕ, List, Result, Ok, Err, refl, sym, ap, ◌∙◌, subst, inl, inr}
use Rattle.std.specs.Prelude.{◌⊎◌, IfErr, IfOk, IsOk, IsTrue}
use Rattle.arr_core.specs.declared.refusal.Refusal.{Refusal}
use Rattle.arr_core.specs.declared.refusal.Refusal.TheVariants as refusal
use Rattle.arr_core.specs.Refusals.{number_of}
use Rattle.catalogue.specs.Signatures.{IsCatalogue}
use Rattle.http_front.specs.Stream.{Shows}
use Rattle.http_front.specs.declared.connection.Next.TheVariants as next
use Rattle.http_front.specs.declared.reply.Reply.{Reply}
use Rattle.http_front.specs.declared.reply.Reply.TheVariants.{Text, Csv, Refused}
use Rattle.kvp_front.specs.Requests.{Asks, spelled, refusal_of}
use Rattle.kvp_front.specs.declared.request.RequestError.{RequestError}
use Rattle.kvp_front.specs.declared.request.RequestError.TheVariants.{NoMemory}
use Rattle.coverage_server.specs.declared.error.AnswerError.{AnswerError}
use Rattle.coverage_server.specs.Answered.{IsAnswer}
use Rattle.coverage_server.specs.Leaving.{IfRefused, refusal_number, reply_of}
use Rattle.coverage_server.specs.Represents.{Steps}
use Rattle.coverage_server.specs.Layouts.{Layout}
use Rattle.coverage_server.specs.Represents.{Places}
use Rattle.coverage_server.specs.Runs.{Placed, Step, SpelledStep, MessageStep}
use Rattle.coverage_server.specs.Views.{SessionView, signatures_of}
use Rattle.coverage_server.proofs.NamedLemmas.{spoils_named}

module _ (old : SessionView) (sure : IsTrue old.coverages.honest)
    (catalogue : IsCatalogue (signatures_of old.coverages.store)) (p : Placed) (at : Places old p) where
  step_of : (a : Asks) (reply : Reply) (q : Placed) → Steps a old p reply q → Step a p reply q
  step_of a reply q (inl x) = inl x
  step_of a reply q (inr (inl x)) = inr (inl x)
  step_of a reply q (inr (inr x)) =
      let laid : p.layout.held ≡ old.coverages.held = ap (λ (l : Layout). l.held) at.layout in
      inr (inr (
        spoils_named a old.coverages p at.state.store catalogue.distinct (at.intact sure) x.0 (at.held sure)
            laid,
        x.1,
      ))

  -- of what pairs spell
  pub spelled_step : (r : Result Asks RequestError) (a : Asks) (reply : Reply) (q : Placed) → r ≡ Ok a → Steps a old p reply q
      → SpelledStep r p reply q
  spelled_step r a reply q is x = subst (λ (b : Result Asks RequestError). SpelledStep b p reply q) (sym is) (step_of a reply q x)

-- want of memory may be told of anything
out_of_memory : (r : Result Asks RequestError) (s : Placed) → SpelledStep r s (Refused (number_of refusal.NoMemory)) s
out_of_memory (Ok a) s = inr (inl (inl (refl, refl)))
out_of_memory (Err e) s = inr (refl, refl)

-- of what they spell badly
pub spelled_badly : (r : Result Asks RequestError) (e : RequestError) (code : ℕ) (s : Placed)
    → code ≡ number_of (refusal_of e) → (r ≡ Err e) ⊎ (e ≡ NoMemory) → SpelledStep r s (Refused code) s
spelled_badly r e code s is (inl x) = subst (λ (q : Result Asks RequestError). SpelledStep q s (Refused code) s) (sym x) (inl (ap Refused is, refl))
spelled_badly r e code s is (inr x) =
    let wanting : code ≡ number_of refusal.NoMemory = is ∙ ap (λ (q : RequestError). number_of (refusal_of q)) x in
    subst (λ (n : ℕ). SpelledStep r s (Refused n) s) (sym wanting) (out_of_memory r s)

-- of a message that is refused, or for whose pairs memory was wanting
told_refusal : (asked : Result (List ℕ) Refusal) (r : Refusal) (s : Placed)
    → (asked ≡ Err r) ⊎ (IsOk asked × (r ≡ refusal.NoMemory)) → MessageStep s asked (Refused (number_of r)) s
told_refusal asked r s (inl x) =
    subst (λ (a : Result (List ℕ) Refusal). MessageStep s a (Refused (number_of r)) s) (sym x) (refl, refl)
told_refusal (Ok pairs) r s (inr x) =
    subst (λ (q : Refusal). SpelledStep (spelled pairs) s (Refused (number_of q)) s) (sym x.1) (out_of_memory (spelled pairs) s)
told_refusal (Err e) r s (inr x) = let no = x.0 in absurd cc

pub refused_step : (asked : Result (List ℕ) Refusal) (code : ℕ) (s : Placed) → Shows asked (next.Refused code)
    → MessageStep s asked (Refused code) s
refused_step asked code s (r, is, x) =
    subst (λ (n : ℕ). MessageStep s asked (Refused n) s) (sym is) (told_refusal asked r s x)

-- what is left where a request is not answered, by the reply that tells it
pub refused_as : (r : Result Reply AnswerError) (P : ℕ → Type 0) → IfErr r (λ e. P (refusal_number e)) → IfOk r IsAnswer
    → IfRefused (reply_of r) P
refused_as (Ok (Text text)) P x is = tt
refused_as (Ok (Csv text)) P x is = tt
refused_as (Ok (Refused code)) P x is = absurd is
refused_as (Err e) P x is = x
