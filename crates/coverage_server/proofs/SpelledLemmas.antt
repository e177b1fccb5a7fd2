-- Tiles that stay spelled.
use Rattle.std.proofs.Common.{◌≡◌, ◌≢◌, ℤ, ◌+◌, ℕ, zero, suc, ◌<◌, ◌≤◌, false, List, [], ◌∷◌, ◌++◌, length, replicate, Option, None, Some, Result, Ok, Err, OnOk, OnErr, refl, sym, ap, subst, arith, inl, inr, ◌∙◌}
use Rattle.std.specs.Prelude.{IfOk, IsTrue, slice_get, sum_by}
use Rattle.std.specs.Str.{bytes_eq}
use Rattle.std.proofs.lemmas.Bool.{cases_Bool}
use Rattle.std.proofs.lemmas.List.Sums.{sum_by-cons}
use Rattle.std.proofs.lemmas.Slice.Eq.{bytes_eq-Decides}
use Rattle.arr_core.specs.declared.refusal.Refusal.{Refusal}
use Rattle.arr_core.specs.declared.refusal.Refusal.TheVariants.{BadDomain, BadField, CoverageExists, NoSuchCoverage, TooManyCoverages}
use Rattle.arr_core.specs.declared.domain.Axis.{Axis}
use Rattle.arr_core.specs.declared.field.Field.{Field}
use Rattle.arr_core.specs.declared.signature.Signature.{Signature}
use Rattle.arr_core.specs.Fields.{AreFields}
use Rattle.arr_core.specs.Stores.{Coverage, Store, found, deleted, inserted, new_coverage}
use Rattle.block_file.specs.State.{BlocksState, block_at}
use Rattle.block_file.specs.View.{BlockFileView, state_of}
use Rattle.block_file.specs.Words.{OnlyHeader}
use Rattle.http_front.specs.declared.reply.Reply.{Reply}
use Rattle.kvp_front.specs.declared.request.Interval.{Interval}
use Rattle.tile_index.specs.Index.{found_at}
use Rattle.tile_store.specs.Listing.{listed}
use Rattle.tile_store.proofs.Kept.{tile_kept}
use Rattle.raster_store.specs.Calls.{AreListed, AreWhole, index_of, indexes_without}
use Rattle.raster_store.specs.Fetches.{IsSpelledOf}
use Rattle.raster_store.specs.Snapshots.{KeepsSnapshots}
use Rattle.raster_store.specs.Views.{Index, RasterView, listed_all, listed_fields, listed_snapshots}
use Rattle.raster_store.specs.Words.{SameCoverages, Stays, Writes}
use Rattle.coverage_server.specs.declared.error.AnswerError.{AnswerError}
use Rattle.coverage_server.specs.Answered.{Answered, IsAnswer}
use Rattle.coverage_server.specs.Damage.{IsIntactIn, IsIntactNamed, KeepsSpelled}
use Rattle.coverage_server.specs.Layouts.{Layout, LaysNone, LaysRest, layout_of}
use Rattle.coverage_server.specs.Machine.{Does, Unless, Inserts, Deletes, Refuses, SpellWhole, axes_of}
use Rattle.coverage_server.specs.Views.{ServerView, IsUnchanged, still_of, without_held}
use Rattle.coverage_server.proofs.FreeLemmas.{IsReady, shown}
use Rattle.coverage_server.proofs.HeldLemmas.{same_lists}

-- ---- where content, coverages and indexes are the same

pub spelled_alike : (name : List ℕ) (field tile : ℕ) (old new : List ℕ) (store store' : Store)
    (indexes indexes' : List (List Index)) → new ≡ old → store' ≡ store → indexes' ≡ indexes
    → IsSpelledOf name field tile old store indexes → IsSpelledOf name field tile new store' indexes'
spelled_alike name field tile old new store store' indexes indexes' a b d x =
    subst (λ (c : List ℕ). IsSpelledOf name field tile c store' indexes') (sym a)
    (subst (λ (s : Store). IsSpelledOf name field tile old s indexes') (sym b)
    (subst (λ (l : List (List Index)). IsSpelledOf name field tile old store l) (sym d) x))

spelled_same : (v w : ServerView) → w.content ≡ v.content → w.store ≡ v.store → w.indexes ≡ v.indexes → KeepsSpelled v w
spelled_same v w a b d = record {
  tiles = λ name field tile x. spelled_alike name field tile _ _ _ _ _ _ a b d x;
  held = λ k more whole. ap (λ (c : List ℕ). block_at c k) a;
}

pub still_spelled : (v w : ServerView) → still_of w ≡ still_of v → KeepsSpelled v w
still_spelled v w same =
    spelled_same v w (ap (λ (u : ServerView). u.content) same) (ap (λ (u : ServerView). u.store) same)
    (ap (λ (u : ServerView). u.indexes) same)

pub unheld_spelled : (v w : ServerView) → without_held w ≡ without_held v → KeepsSpelled v w
unheld_spelled v w same =
    spelled_same v w (ap (λ (u : ServerView). u.content) same) (ap (λ (u : ServerView). u.store) same)
    (ap (λ (u : ServerView). u.indexes) same)

pub stepped_spelled : (v w : ServerView) → still_of (without_held w) ≡ still_of (without_held v) → KeepsSpelled v w
stepped_spelled v w same =
    spelled_same v w (ap (λ (u : ServerView). u.content) same) (ap (λ (u : ServerView). u.store) same)
    (ap (λ (u : ServerView). u.indexes) same)

-- one call after another, where the second one leaves what is held
pub spelled_after : (u v w : ServerView) → KeepsSpelled u v → KeepsSpelled v w
    → ((k : ℕ) → listed_snapshots w.held k ≡ listed_snapshots v.held k) → KeepsSpelled u w
spelled_after u v w a b same = record {
  tiles = λ name field tile x. b.tiles name field tile (a.tiles name field tile x);
  held = λ k more whole.
      let lists = same k in
      let some : 0 < listed_snapshots v.held k = omega (arith, lists, more) in
      let first = a.held k some whole in
      b.held k more (ap (λ (c : List ℕ). length c) first ∙ whole) ∙ first;
}

unchanged_spelled : (v w : ServerView) → w.content ≡ v.content → IsUnchanged v w → IsTrue v.honest → KeepsSpelled v w
unchanged_spelled v w content same sure = spelled_same v w content (same.store sure) same.indexes

-- ---- a header is written

member_sum : {X : Type 0} (F : X → ℕ) (xs : List X) (n : ℕ) (x : X) → slice_get xs n ≡ Some x → F x ≤ sum_by F xs
member_sum F [] n x e = absurd cc
member_sum F (y ∷ xs) zero x e =
    let same : y ≡ x = cc in subst (λ z. F z ≤ sum_by F (y ∷ xs)) same (omega (arith, sum_by-cons F y xs))
member_sum F (y ∷ xs) (suc n) x e = let rest = member_sum F xs n x e in omega (arith, rest, sum_by-cons F y xs)

listed_in : (fields : List Index) (n k : ℕ) (i : Index) → slice_get fields n ≡ Some i → listed i k ≤ listed_fields fields k
unfolding listed_fields
listed_in fields n k i e = member_sum (λ (x : Index). listed x k) fields n i e

-- the index of a field lists a block no more often than all indexes do
index_listed : (name : List ℕ) (field : ℕ) (store : Store) (indexes : List (List Index)) (i : Index) (k : ℕ)
    → index_of name field store indexes ≡ Some i → listed i k ≤ listed_all indexes k
unfolding listed_all
index_listed name field [] indexes i k e = absurd cc
index_listed name field (c ∷ store) [] i k e = absurd cc
index_listed name field (c ∷ store) (x ∷ indexes) i k e =
    let more = sum_by-cons (λ (fields : List Index). listed_fields fields k) x indexes in
    elim (cases_Bool (bytes_eq c.name name)) [
      | inl this ↦ (let own = listed_in x field k i (rw this at e) in omega (arith, own, more))
      | inr other ↦ (let rest = index_listed name field store indexes i k (rw other at e) in omega (arith, rest, more))
    ]

-- a block that is in use is not that of the header
not_header : (s : BlocksState) (k n : ℕ) → s.uses 0 ≡ 0 → n ≤ s.uses k → 0 < n → k ≢ 0
not_header s k n unused few more e =
    let none : s.uses k ≡ 0 = ap (λ (j : ℕ). s.uses j) e ∙ unused in absurd (omega (arith, none, few, more))

header_tile : (old new : RasterView BlockFileView) → AreListed (state_of old.blocks) old.coverages old.indexes
    → SameCoverages state_of old new → OnlyHeader (state_of old.blocks) (state_of new.blocks)
    → IsTrue old.blocks.honest → (name : List ℕ) (field tile : ℕ)
    → IsSpelledOf name field tile old.blocks.content old.coverages old.indexes
    → IsSpelledOf name field tile new.blocks.content new.coverages new.indexes
header_tile old new all same only sure name field tile spelled c f i at has of =
    let before : found name old.coverages ≡ Some c =
    subst (λ (s : Store). found name s ≡ Some c) (same.coverages sure) at in
    let index : index_of name field old.coverages old.indexes ≡ Some i =
    subst (λ (s : Store). index_of name field s old.indexes ≡ Some i) (same.coverages sure)
    (subst (λ (l : List (List Index)). index_of name field new.coverages l ≡ Some i) same.indexes of) in
    tile_kept f.kind c.domain i old.blocks.content new.blocks.content tile
    (λ k more.
    let within = index_listed name field old.coverages old.indexes i k index in
    let some : 0 < listed_all old.indexes k = omega (arith, within, more) in
    only.others sure k
    (λ e.
    let here : 0 < listed_all old.indexes 0 = subst (λ (n : ℕ). 0 < listed_all old.indexes n) e some in
    let few = all.counted 0 in
    let none = only.unused in
    absurd (omega (arith, here, few, none)))
    (all.whole sure k some)) (spelled c f i before has index)

-- of what is held the blocks are in use
uses_held : (catalogue : List Signature) (old : RasterView BlockFileView) → IsReady catalogue old → (k : ℕ)
    → listed_snapshots old.snapshots k + listed_all old.indexes k ≤ (state_of old.blocks).uses k
uses_held catalogue old ready k = let counted = ready.counted k in omega (arith, counted)

held_listed : (old new : RasterView BlockFileView) → KeepsSnapshots state_of old new → (k : ℕ)
    → listed_snapshots new.snapshots k ≡ listed_snapshots old.snapshots k
held_listed old new held k = same_lists old.snapshots new.snapshots k held.told

pub header_spelled : (catalogue : List Signature) (old new : RasterView BlockFileView) → IsReady catalogue old
    → AreListed (state_of old.blocks) old.coverages old.indexes → SameCoverages state_of old new
    → OnlyHeader (state_of old.blocks) (state_of new.blocks) → KeepsSnapshots state_of old new
    → IsTrue old.blocks.honest → KeepsSpelled (shown old) (shown new)
header_spelled catalogue old new ready all same only held sure = record {
  tiles = λ name field tile spelled. header_tile old new all same only sure name field tile spelled;
  held = λ k more whole.
      let used = uses_held catalogue old ready k in
      let lists = held_listed old new held k in
      let few : listed_snapshots new.snapshots k ≤ (state_of old.blocks).uses k = omega (arith, used, lists) in
      only.others sure k (not_header (state_of old.blocks) k (listed_snapshots new.snapshots k) only.unused few more)
      whole;
}

-- a write that was refused, or one of the metadata
pub stays_spelled : (catalogue : List Signature) (old new : RasterView BlockFileView) → IsReady catalogue old
    → Stays state_of old new → KeepsSnapshots state_of old new → IsTrue old.blocks.honest
    → KeepsSpelled (shown old) (shown new)
stays_spelled catalogue old new ready stays held sure = record {
  tiles = stays.tiles sure;
  held = λ k more whole.
      let used = uses_held catalogue old ready k in
      let lists = held_listed old new held k in
      let some : 0 < (state_of old.blocks).uses k = omega (arith, used, lists, more) in
      stays.moves.kept k some whole;
}

-- a write of a box
pub writes_spelled : (catalogue : List Signature) (name : List ℕ) (field : ℕ) (area : List Axis) (numbers : List ℤ)
    (size : ℕ)
    (old new : RasterView BlockFileView) → IsReady catalogue old → Writes state_of name field area numbers size old new
    → KeepsSnapshots state_of old new → IsTrue old.blocks.honest → KeepsSpelled (shown old) (shown new)
writes_spelled catalogue name field area numbers size old new ready writes held sure = record {
  tiles = λ n f tile x. (writes.tiles sure).spelled n f tile (inr x);
  held = λ k more whole.
      let used = uses_held catalogue old ready k in
      let lists = held_listed old new held k in
      let beyond : listed_all old.indexes k < (state_of old.blocks).uses k = omega (arith, used, lists, more) in
      writes.moves.kept k beyond whole;
}

-- ---- a coverage comes, or goes

empty_at : (n field : ℕ) (i : Index) → slice_get (replicate n []) field ≡ Some i → i ≡ []
empty_at zero field i e = absurd cc
empty_at (suc n) zero i e = cc
empty_at (suc n) (suc field) i e = empty_at n field i e

-- a coverage that came has no tile
appended_spelled : (content name : List ℕ) (field tile : ℕ) (store : Store) (indexes : List (List Index)) (new : Coverage)
    (n : ℕ) → AreWhole store indexes → IsSpelledOf name field tile content store indexes
    → IsSpelledOf name field tile content (store ++ new ∷ []) (indexes ++ replicate n [] ∷ [])
appended_spelled content name field tile [] [] new n whole x c f i at has of =
    elim (cases_Bool (bytes_eq new.name name)) [
      | inl this ↦
          let none : i ≡ [] = empty_at n field i (rw this at of) in
          λ e is. absurd (let no : found_at tile [] ≡ Some e = subst (λ (y : Index). found_at tile y ≡ Some e) none is in cc)
      | inr other ↦ absurd (let no : None ≡ Some c = rw other at at in cc)
    ]
appended_spelled content name field tile [] (j ∷ indexes) new n whole x c f i at has of = absurd whole
appended_spelled content name field tile (d ∷ store) [] new n whole x c f i at has of = absurd whole
appended_spelled content name field tile (d ∷ store) (j ∷ indexes) new n whole x c f i at has of =
    elim (cases_Bool (bytes_eq d.name name)) [
      | inl this ↦ x c f i (rw this (rw this at at)) has (rw this (rw this at of))
      | inr other ↦
          appended_spelled content name field tile store indexes new n whole.3
          (λ b g k there is index. x b g k (rw other there) is (rw other index)) c f i (rw other at at) has (rw other at of)
    ]

not_there : (name : List ℕ) (store : Store) (c : Coverage) → found name (deleted name store) ≡ Some c → ⊥
not_there name [] c at = absurd cc
not_there name (d ∷ store) c at = elim (cases_Bool (bytes_eq d.name name)) [
  | inl this ↦ not_there name store c (rw this at at)
  | inr other ↦ not_there name store c (rw (other, other) at at)
]

-- those that stay have the tiles that they had
others_spelled : (content gone name : List ℕ) (field tile : ℕ) (store : Store) (indexes : List (List Index))
    → AreWhole store indexes → bytes_eq gone name ≡ false → IsSpelledOf name field tile content store indexes
    → IsSpelledOf name field tile content (deleted gone store) (indexes_without gone store indexes)
others_spelled content gone name field tile [] [] whole apart x c f i at has of = absurd cc
others_spelled content gone name field tile [] (j ∷ indexes) whole apart x c f i at has of = absurd whole
others_spelled content gone name field tile (d ∷ store) [] whole apart x c f i at has of = absurd whole
others_spelled content gone name field tile (d ∷ store) (j ∷ indexes) whole apart x c f i at has of =
    elim (cases_Bool (bytes_eq d.name gone)) [
      | inl this ↦
          let e : d.name ≡ gone = (bytes_eq-Decides d.name gone).0 this in
          let other : bytes_eq d.name name ≡ false = subst (λ (m : List ℕ). bytes_eq m name ≡ false) (sym e) apart in
          others_spelled content gone name field tile store indexes whole.3 apart
          (λ b g k there is index. x b g k (rw other there) is (rw other index)) c f i (rw this at at) has (rw this at of)
      | inr stays ↦ elim (cases_Bool (bytes_eq d.name name)) [
        | inl this ↦ x c f i (rw this (rw (stays, this) at at)) has (rw this (rw (stays, this) at of))
        | inr other ↦
            others_spelled content gone name field tile store indexes whole.3 apart
            (λ b g k there is index. x b g k (rw other there) is (rw other index)) c f i (rw (stays, other) at at) has
            (rw (stays, other) at of)
      ]
    ]

deleted_spelled : (content gone name : List ℕ) (field tile : ℕ) (store : Store) (indexes : List (List Index))
    → AreWhole store indexes → IsSpelledOf name field tile content store indexes
    → IsSpelledOf name field tile content (deleted gone store) (indexes_without gone store indexes)
deleted_spelled content gone name field tile store indexes whole x = elim (cases_Bool (bytes_eq gone name)) [
  | inl this ↦
      let e : gone ≡ name = (bytes_eq-Decides gone name).0 this in
      λ c f i at has of. absurd (not_there name store c (subst (λ (m : List ℕ). found name (deleted m store) ≡ Some c) e at))
  | inr apart ↦ others_spelled content gone name field tile store indexes whole apart x
]

-- ---- what an insertion and a deletion do

unless_answer : {S : Type 0} (condition : Type 0) (refusal : Refusal) (next : S → Reply → S → Type 0) (old : S) (reply : Reply)
    (new : S) → IsAnswer reply → Unless condition refusal next old reply new → next old reply new
unless_answer condition refusal next old reply new is (inl x) = absurd (subst IsAnswer x.1.0 is)
unless_answer condition refusal next old reply new is (inr x) = x.1

-- an insertion that was answered found none with the name
pub inserts_to : (name : List ℕ) (intervals : List Interval) (fields : List Field) (old : Store) (reply : Reply) (new : Store)
    → IsAnswer reply → Inserts name intervals fields old reply new
    → (found name old ≡ None) × (new ≡ inserted name (axes_of intervals) fields old)
inserts_to name intervals fields old reply new is x = by_found (found name old) refl
  where
    by_found : (o : Option Coverage) → found name old ≡ o
        → (found name old ≡ None) × (new ≡ inserted name (axes_of intervals) fields old)
    by_found None e =
        let does = λ (before : Store). Does (inserted name (axes_of intervals) fields before) in
        let third : Does (inserted name (axes_of intervals) fields old) reply new =
        unless_answer (length old < 1024) TooManyCoverages does old reply new is
        (unless_answer (AreFields fields) BadField (Unless (length old < 1024) TooManyCoverages does) old reply new is
        (unless_answer (SpellWhole intervals) BadDomain
        (Unless (AreFields fields) BadField (Unless (length old < 1024) TooManyCoverages does)) old
        reply new is (rw e at x))) in
        (e, third.1)
    by_found (Some c) e =
        let y : Refuses CoverageExists old reply new = rw e at x in absurd (subst IsAnswer y.0 is)

deletes_to : (name : List ℕ) (old : Store) (reply : Reply) (new : Store) → IsAnswer reply → Deletes name old reply new
    → new ≡ deleted name old
deletes_to name old reply new is x = by_found (found name old) refl
  where
    by_found : (o : Option Coverage) → found name old ≡ o → new ≡ deleted name old
    by_found None e = let y : Refuses NoSuchCoverage old reply new = rw e at x in absurd (subst IsAnswer y.0 is)
    by_found (Some c) e = (rw e at x).1

pub insert_keeps : (v w : ServerView) (name : List ℕ) (intervals : List Interval) (fields : List Field) (lacks : Type 0)
    (r : Result Reply AnswerError) → AreWhole v.store v.indexes → Answered (Inserts name intervals fields) lacks ⊥ v w r
    → OnOk r (LaysNone (record { name = name; domain = axes_of intervals; fields = fields }) (layout_of v) (layout_of w))
    → IfOk r IsAnswer → OnErr r (IsUnchanged v w) → w.content ≡ v.content → IsTrue v.honest → KeepsSpelled v w
insert_keeps v w name intervals fields lacks (Ok reply) whole x lays is same content sure =
    let store = inserts_to name intervals fields v.store reply w.store is (x sure) in
    let indexes = ap (λ (l : Layout). l.indexes) lays in
    record {
      tiles = λ n field tile p.
          spelled_alike n field tile _ _ _ _ _ _ content store.1 indexes
          (appended_spelled v.content n field tile v.store v.indexes (new_coverage name (axes_of intervals) fields)
          (length fields) whole p);
      held = λ k more whole. ap (λ (c : List ℕ). block_at c k) content;
    }
insert_keeps v w name intervals fields lacks (Err e) whole x lays is same content sure =
    unchanged_spelled v w content same sure

pub delete_keeps : (v w : ServerView) (name : List ℕ) (r : Result Reply AnswerError) → AreWhole v.store v.indexes
    → Answered (Deletes name) ⊥ ⊥ v w r → OnOk r (LaysRest name v.store (layout_of v) (layout_of w))
    → IfOk r IsAnswer → OnErr r (IsUnchanged v w) → w.content ≡ v.content → IsTrue v.honest → KeepsSpelled v w
delete_keeps v w name (Ok reply) whole x lays is same content sure =
    let store = deletes_to name v.store reply w.store is (x sure) in
    let indexes = ap (λ (l : Layout). l.indexes) lays in
    record {
      tiles = λ n field tile p.
          spelled_alike n field tile _ _ _ _ _ _ content store indexes
          (deleted_spelled v.content name n field tile v.store v.indexes whole p);
      held = λ k more whole. ap (λ (c : List ℕ). block_at c k) content;
    }
delete_keeps v w name (Err e) whole x lays is same content sure = unchanged_spelled v w content same sure

-- ---- a close, and an opening

pub closed_spelled : (v w : ServerView) (content : List ℕ) → content ≡ w.content → IsUnchanged v w
    → (IsTrue v.honest → KeepsSpelled v w) → IsTrue v.honest → (name : List ℕ) → IsIntactNamed v name
    → IsIntactIn content v.store v.indexes name
closed_spelled v w content is same keeps sure name whole field tile =
    spelled_alike name field tile _ _ _ _ _ _ is (sym (same.store sure)) (sym same.indexes)
    ((keeps sure).tiles name field tile (whole field tile))

pub opened_spelled : (content : List ℕ) (v w : ServerView) → v.content ≡ content → w.store ≡ v.store
    → w.indexes ≡ v.indexes → KeepsSpelled v w → (name : List ℕ) → IsIntactIn content w.store w.indexes name
    → IsIntactNamed w name
opened_spelled content v w is store indexes keeps name whole field tile =
    keeps.tiles name field tile (spelled_alike name field tile _ _ _ _ _ _ is (sym store) (sym indexes)
    (whole field tile))
