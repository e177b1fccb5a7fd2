-- What an update answers.
use Rattle.std.proofs.Common.{◌≡◌, ℕ, ◌<◌, List, length, Some, Ok, Err, refl, sym, subst, inl, inr}
use Rattle.std.specs.Prelude.{IsSomeAnd, IsTrue, IsErrOf, String, string_bytes, codes, ◌⊎◌, slice_get}
use Rattle.std.specs.declared.alloc.Global.{Global}
use Rattle.arr_core.specs.declared.refusal.Refusal.TheVariants.{OutsideDomain}
use Rattle.arr_core.specs.Refusals.{number_of}
use Rattle.arr_core.specs.declared.field.Field.{Field}
use Rattle.arr_core.specs.Stores.{Coverage, Store, found, updated}
use Rattle.arr_core.specs.Fields.{field_place}
use Rattle.disk_face.specs.Disk.{Rose}
use Rattle.raster_store.specs.Calls.{HasField}
use Rattle.kvp_front.specs.Contents.{Cells}
use Rattle.http_front.specs.declared.reply.Reply.TheVariants.{Text, Refused}
use Rattle.kvp_front.specs.declared.request.Interval.{Interval}
use Rattle.coverage_server.specs.declared.error.AnswerError.{AnswerError}
use Rattle.coverage_server.specs.declared.error.AnswerError.TheVariants.{Named, NoMemory, DiskFault, NoRoom, Damaged}
use Rattle.coverage_server.specs.Answered.{Answered}
use Rattle.coverage_server.specs.Damage.{SpoilsWrite, SpoilsUpdate}
use Rattle.coverage_server.specs.Layouts.{LaysBox, LaysUpdate, layout_of}
use Rattle.coverage_server.specs.Machine.{SpellDomain, axes_of, Updates}
use Rattle.coverage_server.specs.Room.{LacksRoomToWrite, LacksRoomToUpdate, numbers_of}
use Rattle.coverage_server.specs.Views.{ServerView, IsUnchanged}
use Rattle.coverage_server.specs.Writing.{MayWrite, WriteRefused}
use Rattle.coverage_server.proofs.MachineLemmas.{field_there, no_box, said_of, refused_write, done_write}

pub has_field : (name : List ℕ) (store : Store) (c : Coverage) → found name store ≡ Some c → (k : ℕ) → k < length c.fields → HasField name k store
has_field name store c at k within = subst (λ o. IsSomeAnd o (λ (d : Coverage). k < length d.fields)) (sym at) within

module _ (v : ServerView) (name field : List ℕ) (intervals : List Interval) (cells : Cells) (c : Coverage) (at : found name v.store ≡ Some c) (k : ℕ)
    (place : field_place field c.fields ≡ Some k) where
  there : (f : Field) × (slice_get c.fields k ≡ Some f)
  there = field_there field c.fields k place

  -- intervals that spell no domain
  pub area_refused : (e : AnswerError) (shown : List Interval) → shown ≡ intervals → ((e ≡ Named OutsideDomain) × (¬ (SpellDomain shown))) ⊎ (e ≡ NoMemory)
      → Answered (Updates name field intervals cells)
      (LacksRoomToUpdate name field intervals cells v.store (layout_of v)) (SpoilsUpdate name field intervals v) v v
      (Err e)
  area_refused e shown same (inl x) =
      subst (λ (d : AnswerError). Answered (Updates name field intervals cells)
      (LacksRoomToUpdate name field intervals cells v.store (layout_of v)) (SpoilsUpdate name field intervals v) v v
      (Err d)) (sym x.0)
      (λ sure. no_box name field intervals cells v.store c at k there.0 place there.1 (λ w. x.1 (subst SpellDomain (sym same) w.0)))
  area_refused e shown same (inr out) =
      subst (λ (d : AnswerError). Answered (Updates name field intervals cells)
      (LacksRoomToUpdate name field intervals cells v.store (layout_of v)) (SpoilsUpdate name field intervals v) v v
      (Err d)) (sym out) tt

  pub lacks_room : LacksRoomToWrite name k (axes_of intervals) cells v.store (layout_of v)
      → LacksRoomToUpdate name field intervals cells v.store (layout_of v)
  lacks_room x =
      subst (λ o. IsSomeAnd o (λ (d : Coverage). IsSomeAnd (field_place field d.fields)
      (λ j. LacksRoomToWrite name j (axes_of intervals) cells v.store (layout_of v)))) (sym at)
      (subst (λ o. IsSomeAnd o (λ j. LacksRoomToWrite name j (axes_of intervals) cells v.store (layout_of v)))
      (sym place) x)

  pub spoils : SpoilsWrite name k (axes_of intervals) v → SpoilsUpdate name field intervals v
  spoils x =
      subst (λ o. IsSomeAnd o (λ (d : Coverage). IsSomeAnd (field_place field d.fields) (λ j. SpoilsWrite name j (axes_of intervals) v))) (sym at)
      (subst (λ o. IsSomeAnd o (λ j. SpoilsWrite name j (axes_of intervals) v)) (sym place) x)

  module _ (w : ServerView) (spelled : SpellDomain intervals) where
    pub answered : {X : Type 0} (e : AnswerError) → WriteRefused name k (axes_of intervals) cells v e → (IsErrOf {T = X} (Err e) DiskFault → Rose v.failures w.failures) → IsUnchanged v w
        → Answered (Updates name field intervals cells)
        (LacksRoomToUpdate name field intervals cells v.store (layout_of v)) (SpoilsUpdate name field intervals v) v w
        (Err e)
    answered (Named refusal) x rose same =
        λ sure. subst (λ (s : Store). Updates name field intervals cells v.store (Refused (number_of refusal)) s) (sym (same.store sure))
        (refused_write name field intervals cells v.store c at k there.0 place there.1 spelled refusal (said_of (found name v.store) c _ at x))
    answered NoMemory x rose same = tt
    answered DiskFault x rose same = rose refl
    answered NoRoom x rose same = λ sure. lacks_room (x sure)
    answered Damaged x rose same = λ sure. spoils (x sure)

    pub done : (text : String Global) → string_bytes text ≡ codes "ok\n" → MayWrite name k (axes_of intervals) cells v.store
        → (IsTrue v.honest → w.store ≡ updated name k (axes_of intervals) (numbers_of (axes_of intervals) cells) v.store)
        → Answered (Updates name field intervals cells)
        (LacksRoomToUpdate name field intervals cells v.store (layout_of v)) (SpoilsUpdate name field intervals v) v w
        (Ok (Text text))
    done text ok may new = λ sure. done_write name field intervals cells v.store c at k there.0 place there.1 spelled may text w.store ok (new sure)

pub write_answered : {X : Type 0} (v w : ServerView) (name field : List ℕ) (intervals : List Interval) (cells : Cells) (c : Coverage) → found name v.store ≡ Some c → (k : ℕ)
    → field_place field c.fields ≡ Some k → SpellDomain intervals → (e : AnswerError) → WriteRefused name k (axes_of intervals) cells v e
    → (IsErrOf {T = X} (Err e) DiskFault → Rose v.failures w.failures) → IsUnchanged v w
    → Answered (Updates name field intervals cells) (LacksRoomToUpdate name field intervals cells v.store (layout_of v))
    (SpoilsUpdate name field intervals v) v w (Err e)
write_answered v w name field intervals cells c at k place spelled e x rose same = answered v name field intervals cells c at k place w spelled e x rose same

pub write_done : (v w : ServerView) (name field : List ℕ) (intervals : List Interval) (cells : Cells) (c : Coverage) → found name v.store ≡ Some c → (k : ℕ)
    → field_place field c.fields ≡ Some k → SpellDomain intervals → (text : String Global) → string_bytes text ≡ codes "ok\n"
    → MayWrite name k (axes_of intervals) cells v.store → (IsTrue v.honest → w.store ≡ updated name k (axes_of intervals) (numbers_of (axes_of intervals) cells) v.store)
    → Answered (Updates name field intervals cells) (LacksRoomToUpdate name field intervals cells v.store (layout_of v))
    (SpoilsUpdate name field intervals v) v w (Ok (Text text))
write_done v w name field intervals cells c at k place spelled text ok may new = done v name field intervals cells c at k place w spelled text ok may new

-- where the tiles lie after it
pub lays_update : (v w : ServerView) (name field : List ℕ) (intervals : List Interval) (c : Coverage)
    → found name v.store ≡ Some c → (k : ℕ) → field_place field c.fields ≡ Some k
    → LaysBox name k (axes_of intervals) v.store w.store (layout_of v) (layout_of w)
    → LaysUpdate name field intervals v.store w.store (layout_of v) (layout_of w)
lays_update v w name field intervals c at k place x =
    subst (λ o. IsSomeAnd o (λ (d : Coverage). IsSomeAnd (field_place field d.fields)
    (λ j. LaysBox name j (axes_of intervals) v.store w.store (layout_of v) (layout_of w)))) (sym at)
    (subst (λ o. IsSomeAnd o (λ j. LaysBox name j (axes_of intervals) v.store w.store (layout_of v) (layout_of w)))
    (sym place) x)
