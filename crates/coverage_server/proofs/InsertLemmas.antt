-- What an insertion answers.
use Rattle.std.proofs.Common.{◌≡◌, ℕ, ◌<◌, ◌≤◌, List, length, None, Err, sym, ap, ◌∙◌, subst, arith}
use Rattle.std.specs.Prelude.{String, string_bytes, codes, Ok}
use Rattle.std.specs.declared.alloc.Global.{Global}
use Rattle.std.proofs.lemmas.List.{length-map}
use Rattle.arr_core.specs.declared.refusal.Refusal.{Refusal}
use Rattle.arr_core.specs.declared.refusal.Refusal.TheVariants.{BadDomain, BadField, TooManyCoverages}
use Rattle.arr_core.specs.Refusals.{number_of}
use Rattle.arr_core.specs.declared.domain.Axis.{Axis}
use Rattle.arr_core.specs.declared.field.Field.{Field}
use Rattle.arr_core.specs.declared.signature.Signature.{Signature}
use Rattle.arr_core.specs.Stores.{Store, found, inserted}
use Rattle.catalogue.specs.declared.error.InsertError.{InsertError}
use Rattle.catalogue.specs.declared.error.InsertError.TheVariants as insertion
use Rattle.catalogue.specs.Signatures.{IsRefused, MayInsert}
use Rattle.raster_store.specs.Calls.{signature_of}
use Rattle.http_front.specs.declared.reply.Reply.TheVariants.{Text, Refused}
use Rattle.kvp_front.specs.declared.request.Interval.{Interval}
use Rattle.coverage_server.specs.declared.error.AnswerError.{AnswerError}
use Rattle.coverage_server.specs.declared.error.AnswerError.TheVariants.{Named, NoMemory, DiskFault, NoRoom, Damaged}
use Rattle.coverage_server.specs.Answered.{Answered}
use Rattle.coverage_server.specs.Machine.{SpellDomain, SpellWhole, axes_of, axis_of, Inserts}
use Rattle.coverage_server.specs.Layouts.{layout_of}
use Rattle.coverage_server.specs.Room.{LacksRoomToInsert}
use Rattle.coverage_server.specs.Views.{ServerView, IsUnchanged, signatures_of}
use Rattle.coverage_server.specs.Writing.{InsertRefused, insert_refusal}
use Rattle.coverage_server.proofs.MachineLemmas.{no_domain, no_fields, no_room, is_inserted}
use Rattle.coverage_server.proofs.StoreLemmas.{unfound_fresh}

-- a signature is its parts
pub signature_alike : (s : Signature) (name : List ℕ) (domain : List Axis) (fields : List Field) → s.name ≡ name → s.domain ≡ domain → s.fields ≡ fields
    → s ≡ record { name = name; domain = domain; fields = fields }
signature_alike s name domain fields a b c =
    ap (λ n. record { name = n; domain = s.domain; fields = s.fields }) a ∙ ap (λ d. record { name = name; domain = d; fields = s.fields }) b
    ∙ ap (λ f. record { name = name; domain = domain; fields = f }) c

module _ (v w : ServerView) (name : List ℕ) (intervals : List Interval) (fields : List Field) (none : found name v.store ≡ None) (spelled : SpellDomain intervals) where
  abbrev pub asked : Signature
  asked = record { name = name; domain = axes_of intervals; fields = fields }

  some_intervals : 1 ≤ length (axes_of intervals) → SpellWhole intervals
  some_intervals some = let e = length-map intervals axis_of in let more : 0 < length intervals = omega (arith, e, some) in (spelled, more)

  refused_by : (e : InsertError) (refusal : Refusal) → insert_refusal e ≡ Named refusal → IsRefused (signatures_of v.store) asked e
      → Inserts name intervals fields v.store (Refused (number_of refusal)) v.store
  refused_by insertion.CoverageExists refusal e x = absurd (unfound_fresh name v.store none x)
  refused_by insertion.BadDomain refusal e x =
      let is : BadDomain ≡ refusal = cc in
      let empty = ap (λ (l : List Axis). length l) x.1 in
      let size = length-map intervals axis_of in
      subst (λ (r : Refusal). Inserts name intervals fields v.store (Refused (number_of r)) v.store) is
      (no_domain name intervals fields v.store none (λ (whole : SpellWhole intervals). let more : 0 < length intervals = whole.1 in absurd (omega (arith, empty, size, more))))
  refused_by insertion.BadField refusal e x =
      let is : BadField ≡ refusal = cc in
      subst (λ (r : Refusal). Inserts name intervals fields v.store (Refused (number_of r)) v.store) is (no_fields name intervals fields v.store none (some_intervals x.1) x.2)
  refused_by insertion.TooManyCoverages refusal e x =
      let is : TooManyCoverages ≡ refusal = cc in
      let size = length-map v.store signature_of in
      let full = x.3 in
      subst (λ (r : Refusal). Inserts name intervals fields v.store (Refused (number_of r)) v.store) is
      (no_room name intervals fields v.store none (some_intervals x.1) x.2 (λ (few : length v.store < 1024). absurd (omega (arith, size, full, few))))
  refused_by insertion.NoMemory refusal e x = absurd cc

  pub insert_refused : (e : AnswerError) → InsertRefused v asked e → IsUnchanged v w
      → Answered (Inserts name intervals fields) (LacksRoomToInsert asked v.store (layout_of v)) ⊥ v w (Err e)
  insert_refused (Named refusal) x same =
      λ sound. subst (λ (s : Store). Inserts name intervals fields v.store (Refused (number_of refusal)) s) (sym (same.store sound)) (refused_by x.0 refusal x.1 x.2)
  insert_refused NoMemory x same = tt
  insert_refused DiskFault x same = absurd x
  insert_refused NoRoom x same = λ sound. x
  insert_refused Damaged x same = absurd x

  pub insert_done : MayInsert (signatures_of v.store) asked → (text : String Global) → string_bytes text ≡ codes "ok\n"
      → w.store ≡ inserted name (axes_of intervals) fields v.store
      → Answered (Inserts name intervals fields) (LacksRoomToInsert asked v.store (layout_of v)) ⊥ v w (Ok (Text text))
  insert_done may text ok new =
      let size = length-map v.store signature_of in
      let room : length v.store < 1024 = omega (arith, size, may.room) in
      λ sound. is_inserted name intervals fields v.store none (some_intervals may.axes) may.fields room text w.store ok new
