-- The parts of an opening: the blocks that indexes list, the coverages that are attached so far, and what a disk lists.
use Rattle.std.proofs.Common.{◌≡◌, ℕ, zero, suc, ◌+◌, ◌/◌, ◌<◌, ◌≤◌, max, List, [], ◌∷◌, ◌++◌, length, take, get_or, Vec, Contains, Some, None, arith, refl, sym, ◌∙◌, ap, subst, inl, inr, append-nil}
use Rattle.std.specs.Prelude.{◌⊎◌, IsTrue, slice_get}
use Rattle.std.specs.declared.alloc.Global.{Global}
use Rattle.std.proofs.lemmas.Bool.{cases_lt}
use Rattle.std.proofs.lemmas.Option.{get_or_from_slice_get}
use Rattle.std.proofs.lemmas.List.{take_more, take_all, map-append, length_push}
use Rattle.arr_core.specs.declared.signature.Signature.{Signature}
use Rattle.arr_core.specs.Names.{AreDistinct}
use Rattle.arr_core.specs.Stores.{Store, found}
use Rattle.block_file.specs.State.{block_at, free_up_to, times}
use Rattle.file_bytes.specs.declared.form.Version.{Version}
use Rattle.file_bytes.specs.declared.form.Version.TheVariants.{One, Two}
use Rattle.block_file.specs.Format.{TellsVersion, IsClosed, IsDamaged, HeaderTorn, number_at, link, first_of, chain_blocks}
use Rattle.block_file.specs.Uses.{CanClaim, Claims, IsFresh, use_count, uses_of}
use Rattle.block_file.specs.View.{BlockFileView, IsOpened, IsRefused, IsOfVersion as HasVersion}
use Rattle.disk_face.specs.Disk.{Tells}
use Rattle.block_file.proofs.Free.{free_enough}
use Rattle.block_file.proofs.Places.{whole_inside}
use Rattle.block_file.proofs.Times.{one_same, times_none, times-cons}
use Rattle.catalogue.proofs.Held.{contains_here, contains_later, contains_cases, nothing_in_nil}
use Rattle.catalogue.specs.Bytes.{catalogue_bytes}
use Rattle.catalogue.specs.Signatures.{names_of, IsCatalogue}
use Rattle.metadata.specs.Metadata.{IsMetadata, IsOfVersion, AreCounted, indexes_of}
use Rattle.tile_index.specs.declared.index.TileIndex.{TileIndex}
use Rattle.tile_store.specs.Listing.{listed}
use Rattle.raster_store.specs.Views.{Index, RasterView, listed_fields, listed_all, metadata_size, reserve, coverage_in, coverages_in, AreBelow}
use Rattle.raster_store.proofs.Totals.{listed_all-nil, listed_all-push}
use Rattle.coverage_server.specs.Disk.{AreTiles, DiskView, IsTileBlock, IsLaidOut, HoldsStore, IsWant, IsNoStore, Lists}
use Rattle.tile_store.specs.declared.fault.Fault.{Fault}
use Rattle.tile_store.specs.declared.fault.Fault.TheVariants as device
use Rattle.coverage_server.specs.Opening.{IsListed, ClaimsListed, CannotClaim, ClaimsLayout, IsNotLaidOut, Departs, TellsAttach}
use Rattle.block_file.specs.declared.fault.OpenFault.{OpenFault}
use Rattle.block_file.specs.declared.fault.OpenFault.TheVariants as opening
use Rattle.coverage_server.specs.Sessions.{IsNotOpened}
use Rattle.coverage_server.specs.Views.{signatures_of, uses_in, free_in}
use Rattle.coverage_server.proofs.LayoutLemmas.{claimed_blocks, laid_claims, one_layout}
use Rattle.coverage_server.proofs.MetadataLemmas.{laid_short}
use Rattle.coverage_server.proofs.ClosingLemmas.{metadata_length}
use Rattle.coverage_server.proofs.HeldLemmas.{lists_none}
use Rattle.coverage_server.proofs.FreeLemmas.{IsReady, free_unlisted}
use Rattle.coverage_server.proofs.StoreLemmas.{fresh_found}

-- one more coverage of those whose blocks are listed
pub items_more : (indexes : List (Vec TileIndex Global)) (j : ℕ) (d : Vec TileIndex Global) → j < length indexes → indexes_of (take (j + 1) indexes) ≡ indexes_of (take j indexes) ++ (get_or indexes j d).items ∷ []
items_more indexes j d h =
    ap indexes_of (take_more indexes j d h) ∙ map-append (λ (v : Vec TileIndex Global). v.items) (take j indexes) (get_or indexes j d ∷ [])

pub listed_more : (indexes : List (Vec TileIndex Global)) (j : ℕ) (d : Vec TileIndex Global) (k : ℕ) → j < length indexes → d ≡ get_or indexes j d
    → listed_all (indexes_of (take (j + 1) indexes)) k ≡ listed_all (indexes_of (take j indexes)) k + listed_fields d.items k
listed_more indexes j d k h is =
    ap (λ (l : List (List Index)). listed_all l k) (items_more indexes j d h) ∙ listed_all-push k (indexes_of (take j indexes)) (get_or indexes j d).items
    ∙ ap (λ (v : Vec TileIndex Global). listed_all (indexes_of (take j indexes)) k + listed_fields v.items k) (sym is)

-- the coverages that are attached: those of the first signatures, one for each of the first indexes
pub record IsAttached (content : List ℕ) (signatures : List Signature) (indexes : List (List Index)) (store : Store) (held : List (List Index)) (place : ℕ) : Type 0 where
  pub values : store ≡ coverages_in content (take place signatures) indexes
  pub listed : held ≡ indexes
  pub count : place ≡ length indexes
  pub tiles : AreTiles (take place signatures) indexes

-- what is counted has its signatures
pub counted_place : (signatures : List Signature) (before : List (List Index)) (new : List Index) (after : List (List Index)) → AreCounted signatures (before ++ new ∷ after) → length before < length signatures
counted_place [] [] new after c = absurd c
counted_place [] (b ∷ before) new after c = absurd c
counted_place (s ∷ signatures) [] new after c = omega arith
counted_place (s ∷ signatures) (b ∷ before) new after c = omega (arith, counted_place signatures before new after c.2)

pub counted_fields : (signatures : List Signature) (before : List (List Index)) (new : List Index) (after : List (List Index)) (d : Signature) → AreCounted signatures (before ++ new ∷ after)
    → length new ≡ length (get_or signatures (length before) d).fields
counted_fields [] [] new after d c = absurd c
counted_fields [] (b ∷ before) new after d c = absurd c
counted_fields (s ∷ signatures) [] new after d c = c.0
counted_fields (s ∷ signatures) (b ∷ before) new after d c = counted_fields signatures before new after d c.2

pub counted_all : (signatures : List Signature) (indexes : List (List Index)) → AreCounted signatures indexes → length signatures ≡ length indexes
counted_all [] [] c = refl
counted_all [] (i ∷ indexes) c = absurd c
counted_all (s ∷ signatures) [] c = absurd c
counted_all (s ∷ signatures) (i ∷ indexes) c = ap suc (counted_all signatures indexes c.2)

-- one more coverage
coverages_push : (content : List ℕ) (signatures : List Signature) (indexes : List (List Index)) (s : Signature) (new : List Index) → length signatures ≡ length indexes
    → coverages_in content (signatures ++ s ∷ []) (indexes ++ new ∷ []) ≡ coverages_in content signatures indexes ++ coverage_in content s new ∷ []
coverages_push content [] [] s new e = refl
coverages_push content [] (i ∷ indexes) s new e = absurd (omega (arith, e))
coverages_push content (t ∷ signatures) [] s new e = absurd (omega (arith, e))
coverages_push content (t ∷ signatures) (i ∷ indexes) s new e = ap (λ (l : Store). coverage_in content t i ∷ l) (coverages_push content signatures indexes s new (omega (arith, e)))

tiles_push : (signatures : List Signature) (indexes : List (List Index)) (s : Signature) (new : List Index) → length signatures ≡ length indexes → AreTiles signatures indexes
    → AreBelow s.domain new → AreTiles (signatures ++ s ∷ []) (indexes ++ new ∷ [])
tiles_push [] [] s new e t b = (b, tt)
tiles_push [] (i ∷ indexes) s new e t b = absurd (omega (arith, e))
tiles_push (r ∷ signatures) [] s new e t b = absurd (omega (arith, e))
tiles_push (r ∷ signatures) (i ∷ indexes) s new e t b = (t.0, tiles_push signatures indexes s new (omega (arith, e)) t.1 b)

-- the tiles of one of the coverages
pub tiles_at : (signatures : List Signature) (before : List (List Index)) (new : List Index) (after : List (List Index)) (d : Signature) → AreCounted signatures (before ++ new ∷ after)
    → AreTiles signatures (before ++ new ∷ after) → AreBelow (get_or signatures (length before) d).domain new
tiles_at [] [] new after d c t = absurd c
tiles_at [] (b ∷ before) new after d c t = absurd c
tiles_at (s ∷ signatures) [] new after d c t = t.0
tiles_at (s ∷ signatures) (b ∷ before) new after d c t = tiles_at signatures before new after d c.2 t.1

-- the signatures of the coverages that are attached
pub signatures_same : (content : List ℕ) (signatures : List Signature) (indexes : List (List Index)) → length signatures ≡ length indexes → signatures_of (coverages_in content signatures indexes) ≡ signatures
signatures_same content [] indexes e = refl
signatures_same content (s ∷ signatures) [] e = absurd (omega (arith, e))
signatures_same content (s ∷ signatures) (i ∷ indexes) e = ap (λ (l : List Signature). s ∷ l) (signatures_same content signatures indexes (omega (arith, e)))

-- a name is one of the names, and none of those in front of it
named_at : (signatures : List Signature) (place : ℕ) (d : Signature) → place < length signatures → Contains (names_of signatures) (get_or signatures place d).name
named_at [] place d h = absurd (omega arith)
named_at (s ∷ signatures) zero d h = contains_here s.name (names_of signatures)
named_at (s ∷ signatures) (suc place) d h = contains_later s.name (names_of signatures) (get_or signatures place d).name (named_at signatures place d (omega (arith, h)))

name_apart : (signatures : List Signature) (place : ℕ) (d : Signature) → place < length signatures → AreDistinct (names_of signatures)
    → Contains (names_of (take place signatures)) (get_or signatures place d).name → ⊥
name_apart [] place d h apart k = absurd (omega arith)
name_apart (s ∷ signatures) zero d h apart k = nothing_in_nil s.name k
name_apart (s ∷ signatures) (suc place) d h apart k = elim (contains_cases s.name (names_of (take place signatures)) (get_or signatures place d).name k) [
  | inl same ↦ apart.0 (subst (λ (n : List ℕ). Contains (names_of signatures) n) (sym same) (named_at signatures place d (omega (arith, h))))
  | inr later ↦ name_apart signatures place d (omega (arith, h)) apart.1 later
]

-- one coverage more may be attached
pub place_taken : (signatures : List Signature) (place : ℕ) → place < length signatures → length (take place signatures) ≡ place
place_taken [] place h = absurd (omega arith)
place_taken (s ∷ signatures) zero h = refl
place_taken (s ∷ signatures) (suc place) h = ap suc (place_taken signatures place (omega (arith, h)))

-- the signature at a place, as a look-up with a default finds it
pub placed : (signatures : List Signature) (place : ℕ) (s : Signature) → slice_get signatures place ≡ Some s → s ≡ get_or signatures place s
placed signatures place s is = sym (get_or_from_slice_get signatures place s s is)

pub next_fresh : (content : List ℕ) (signatures : List Signature) (before : List (List Index)) (store : Store) (held : List (List Index)) (place : ℕ) (s : Signature)
    → IsAttached content signatures before store held place → place < length signatures → s ≡ get_or signatures place s → IsCatalogue signatures → found s.name store ≡ None
next_fresh content signatures before store held place s a h is k =
    let long : length (take place signatures) ≡ length before = place_taken signatures place h ∙ a.count in
    let apart : Contains (names_of (take place signatures)) s.name → ⊥ =
    λ c. name_apart signatures place s h k.distinct (subst (λ (t : Signature). Contains (names_of (take place signatures)) t.name) is c) in
    subst (λ (st : Store). found s.name st ≡ None) (sym a.values)
    (fresh_found s.name (coverages_in content (take place signatures) before)
    (λ c. apart (subst (λ (l : List Signature). Contains (names_of l) s.name) (signatures_same content (take place signatures) before long) c)))

pub next_attached : (content : List ℕ) (signatures : List Signature) (before : List (List Index)) (new : List Index) (store store' : Store) (held held' : List (List Index)) (place : ℕ) (s : Signature)
    → IsAttached content signatures before store held place → place < length signatures → s ≡ get_or signatures place s → store' ≡ store ++ coverage_in content s new ∷ []
    → held' ≡ held ++ new ∷ [] → AreBelow s.domain new → IsAttached content signatures (before ++ new ∷ []) store' held' (place + 1)
next_attached content signatures before new store store' held held' place s a h is put index below =
    let long : length (take place signatures) ≡ length before = place_taken signatures place h ∙ a.count in
    let more : take (place + 1) signatures ≡ take place signatures ++ s ∷ [] = take_more signatures place s h ∙ ap (λ (t : Signature). take place signatures ++ t ∷ []) (sym is) in
    record {
      values = put ∙ ap (λ (st : Store). st ++ coverage_in content s new ∷ []) a.values ∙ sym (coverages_push content (take place signatures) before s new long)
          ∙ ap (λ (l : List Signature). coverages_in content l (before ++ new ∷ [])) (sym more);
      listed = index ∙ ap (λ (l : List (List Index)). l ++ new ∷ []) a.listed;
      count = omega (arith, a.count, length_push before new);
      tiles = subst (λ (l : List Signature). AreTiles l (before ++ new ∷ [])) (sym more) (tiles_push (take place signatures) before s new long a.tiles below);
    }

-- after an opening blocks are in use as often as they are claimed
pub fresh_counts : (marks marks' : List ℕ) (indexes : List (List Index)) → IsFresh marks → ClaimsListed indexes marks marks' → (k : ℕ) → uses_of marks' k ≡ listed_all indexes k
fresh_counts marks marks' indexes fresh claimed k = omega (arith, claimed.counts k, fresh k)

-- each of the blocks that were claimed is whole
pub claimed_whole : (content metadata marks marks' : List ℕ) (indexes : List (List Index)) → IsOpened content metadata marks → ClaimsListed indexes marks marks'
    → (k : ℕ) → 0 < listed_all indexes k → length (block_at content k) ≡ 4096
claimed_whole content metadata marks marks' indexes o claimed k some =
    let here : 0 < times claimed.blocks k = omega (arith, claimed.each k, some) in
    o.whole k (claimed.claims.could.above_zero k here) (claimed.claims.could.inside k here)

-- where nothing is listed there are no blocks
no_blocks : (blocks : List ℕ) → ((k : ℕ) → times blocks k ≡ listed_all [] k) → blocks ≡ []
no_blocks [] e = refl
no_blocks (b ∷ blocks) e = absurd (omega (arith, e b, times-cons b blocks b, one_same b, listed_all-nil b))

claims_none : (marks : List ℕ) → CanClaim [] marks
claims_none marks = record {
  once = λ k. omega (arith, times_none k);
  above_zero = λ k some. absurd (omega (arith, some, times_none k));
  inside = λ k some. absurd (omega (arith, some, times_none k));
  unmarked = λ k some. absurd (omega (arith, some, times_none k));
}

-- a disk without a byte, or one with bytes
some_bytes : (content : List ℕ) → (content ≡ []) ⊎ (0 < length content)
some_bytes [] = inl refl
some_bytes (b ∷ content) = inr (omega arith)

no_byte : (content : List ℕ) → content ≡ [] → 0 < length content → ⊥
no_byte content e h = let none : length content ≡ 0 = ap (λ (l : List ℕ). length l) e in omega (arith, none, h)

-- what departs from the format
pub departs_map : (P Q : Type 0) (fault : OpenFault) → (P → Q) → Departs P fault → Departs Q fault
departs_map P Q opening.NoMemory f d = tt
departs_map P Q opening.DiskFault f d = d
departs_map P Q opening.Damaged f d = f d
departs_map P Q opening.NotAStore f d = d
departs_map P Q opening.NotClosed f d = d

-- as many blocks as the marks count
block_count : (content metadata marks : List ℕ) → IsClosed content metadata → length marks ≡ max 1 (length content / 4096) → length marks ≡ length content / 4096
block_count content metadata marks closed e = omega (arith, e, closed.header.store.whole, closed.whole)

-- what any layout is
the_layout : (v : Version) (content metadata marks : List ℕ) (signatures s : List Signature) (indexes i : List (List Index)) (m : List ℕ) → HasVersion v content → IsOpened content metadata marks → 0 < length content
    → IsListed v metadata signatures indexes → IsLaidOut content m s i → (s ≡ signatures) × (i ≡ indexes)
the_layout v content metadata marks signatures s indexes i m told o h l laid = one_layout v content metadata m signatures s indexes i (told.told h) o.unique (l.only (o.closed h).chain.some) laid

-- its blocks may not be claimed
pub unclaimed : (v : Version) (content metadata marks : List ℕ) (signatures : List Signature) (indexes : List (List Index)) → HasVersion v content → IsOpened content metadata marks
    → IsListed v metadata signatures indexes → CannotClaim indexes marks → (0 < length content) × IsNotLaidOut content
unclaimed v content metadata marks signatures indexes told o l cannot = elim (some_bytes content) [
  | inl e ↦
      let none : indexes ≡ [] = (l.new_file (o.new_file e)).1 in
      let empty : cannot.blocks ≡ [] = no_blocks cannot.blocks (λ k. cannot.each k ∙ ap (λ (i : List (List Index)). listed_all i k) none) in
      absurd (cannot.refused (subst (λ (b : List ℕ). CanClaim b marks) (sym empty) (claims_none marks)))
  | inr h ↦ (
    h,
    λ m s i laid.
        let same = the_layout v content metadata marks signatures s indexes i m told o h l laid in
        let size : m ≡ metadata = sym (o.unique m laid.closed) in
        let each : (k : ℕ) → 0 < listed_all indexes k → IsTileBlock content (length metadata) indexes k =
        λ k some. subst (λ (l : List ℕ). IsTileBlock content (length l) indexes k) size
        (subst (λ (x : List (List Index)). 0 < listed_all x k → IsTileBlock content (length m) x k) same.1 (laid.blocks k) some) in
        cannot.refused (laid_claims content (length metadata) marks cannot.blocks indexes (o.marked h) (block_count content m marks laid.closed o.blocks) cannot.each each),
  )
]

-- it has tiles beyond the domains
pub beyond : (v : Version) (content metadata marks : List ℕ) (signatures : List Signature) (indexes : List (List Index)) → HasVersion v content → IsOpened content metadata marks
    → IsListed v metadata signatures indexes → (AreTiles signatures indexes → ⊥) → (0 < length content) × IsNotLaidOut content
beyond v content metadata marks signatures indexes told o l refused = elim (some_bytes content) [
  | inl e ↦
      let none : signatures ≡ [] = (l.new_file (o.new_file e)).0 in
      absurd (refused (subst (λ (s : List Signature). AreTiles s indexes) (sym none) tt))
  | inr h ↦ (
    h,
    λ m s i laid.
        let same = the_layout v content metadata marks signatures s indexes i m told o h l laid in
        refused (subst (λ (x : List (List Index)). AreTiles signatures x) same.1 (subst (λ (x : List Signature). AreTiles x i) same.0 laid.tiles)),
  )
]

-- a header tells one version
one_version : (content : List ℕ) (v w : Version) → TellsVersion v content → TellsVersion w content → v ≡ w
one_version content One One a b = refl
one_version content One Two a b = absurd (omega (arith, a, b))
one_version content Two One a b = absurd (omega (arith, a, b))
one_version content Two Two a b = refl

-- What was read, claimed and attached is what the disk lists, and it lists nothing else.
pub lists_all : (v : Version) (content metadata marks marks' : List ℕ) (signatures : List Signature) (indexes held : List (List Index)) (store : Store) → HasVersion v content → IsOpened content metadata marks
    → IsListed v metadata signatures indexes → ClaimsListed indexes marks marks' → AreTiles signatures indexes → store ≡ coverages_in content signatures indexes → held ≡ indexes
    → Lists content store held
lists_all v content metadata marks marks' signatures indexes held store told o l claimed tiles is index = elim (some_bytes content) [
  | inl e ↦
      let none = l.new_file (o.new_file e) in
      let no_store : store ≡ [] = is ∙ ap (λ (s : List Signature). coverages_in content s indexes) none.0 in
      let no_index : held ≡ [] = index ∙ none.1 in
      record {
        lists = inl (e, no_store, no_index);
        only = λ s i other. elim other [
          | inl same ↦ (no_store ∙ sym same.1, no_index ∙ sym same.2)
          | inr more ↦ absurd (no_byte content e (let w = more.laid_out.closed.header.store.whole in omega (arith, w)))
        ];
      }
  | inr h ↦
      let closed : IsClosed content metadata = o.closed h in
      record {
        lists = inr (record {
          metadata = metadata;
          signatures = signatures;
          laid_out = record {
            closed = closed;
            written = subst (λ (x : List (List Index)). IsMetadata metadata signatures x) (sym index) (l.read closed.chain.some);
            version = λ w other. subst (λ (x : List (List Index)). IsOfVersion w signatures x) (sym index)
                (subst (λ (u : Version). IsOfVersion u signatures indexes) (one_version content v w (told.told h) other) (l.of_version closed.chain.some));
            tiles = subst (λ (x : List (List Index)). AreTiles signatures x) (sym index) tiles;
            blocks = subst (λ (x : List (List Index)). (k : ℕ) → 0 < listed_all x k → IsTileBlock content (length metadata) x k) (sym index)
                (claimed_blocks content (length metadata) marks claimed.blocks indexes (o.marked h) (block_count content metadata marks closed o.blocks) claimed.each claimed.claims.could);
          };
          is = is ∙ ap (λ (x : List (List Index)). coverages_in content signatures x) (sym index);
        });
        only = λ s i other. elim other [
          | inl same ↦ absurd (no_byte content same.0 h)
          | inr more ↦
              let same = the_layout v content metadata marks signatures more.signatures indexes i more.metadata told o h l more.laid_out in
              (is ∙ ap (λ (x : List Signature). coverages_in content x indexes) (sym same.0) ∙ ap (λ (x : List (List Index)). coverages_in content more.signatures x) (sym same.1) ∙ sym more.is, index ∙ sym same.1)
        ];
      }
]

-- the metadata of no coverage takes a block
reserve_none : reserve (length (catalogue_bytes [])) [] ≡ 1
unfolding metadata_size catalogue_bytes
reserve_none = refl

-- where nothing is listed a block is free
one_free : 1 ≤ free_in [] []
one_free = free_enough 1048575 1 (λ i. 1) (uses_in [] []) (λ i below. (omega arith, omega arith, omega (arith, listed_all-nil 1, lists_none 1))) (λ i j a b same. omega (arith, a, b))

-- As many blocks stay free as the metadata takes.
pub layout_room : (v : Version) (metadata marks marks' : List ℕ) (signatures : List Signature) (indexes : List (List Index)) → IsFresh marks → IsListed v metadata signatures indexes → ClaimsListed indexes marks marks'
    → chain_blocks (length metadata) ≤ free_up_to 1048575 (uses_of marks') → reserve (length (catalogue_bytes signatures)) indexes ≤ free_in indexes []
layout_room v metadata marks marks' signatures indexes fresh l claimed enough =
    let free = free_unlisted (uses_of marks') indexes [] (λ k. omega (arith, fresh_counts marks marks' indexes fresh claimed k, lists_none k)) in
    elim (some_bytes metadata) [
      | inl e ↦
          let none = l.new_file e in
          let small : reserve (length (catalogue_bytes signatures)) indexes ≡ 1 =
          ap (λ (s : List Signature). reserve (length (catalogue_bytes s)) indexes) none.0 ∙ ap (λ (x : List (List Index)). reserve (length (catalogue_bytes [])) x) none.1 ∙ reserve_none in
          rw small (rw none.1 one_free)
      | inr h ↦
          let size : length metadata ≡ metadata_size (length (catalogue_bytes signatures)) indexes =
          ap (λ (b : List ℕ). length b) (l.read h).written ∙ metadata_length signatures indexes in
          rw (← size, ← free) enough
    ]

-- a block that is marked as metadata is in no use
marked_unused : (marks : List ℕ) (k : ℕ) → get_or marks k 0 ≡ 4294967295 → uses_of marks k ≡ 0
marked_unused marks zero e = refl
marked_unused marks (suc k) e = ap use_count e

-- an honest disk has them: those that hold the metadata
pub room_there : (content metadata marks marks' ks : List ℕ) → IsOpened content metadata marks → Claims ks marks marks'
    → chain_blocks (length metadata) ≤ free_up_to 1048575 (uses_of marks')
room_there content metadata marks marks' ks o claims = elim (some_bytes content) [
  | inl e ↦ (let none : length metadata ≡ 0 = ap (λ (b : List ℕ). length b) (o.new_file e) in omega (arith, none))
  | inr h ↦
      let closed = o.closed h in
      let chain = closed.chain in
      free_enough 1048575 (chain_blocks (length metadata)) (link (block_at content) (first_of content)) (uses_of marks')
      (λ i below.
      let k : ℕ = link (block_at content) (first_of content) i in
      let mark : get_or marks k 0 ≡ 4294967295 = (o.marked h).chain i below in
      let unclaimed : times ks k ≡ 0 = elim (cases_lt 0 (times ks k)) [
        | inl some ↦ (let zero : get_or marks k 0 ≡ 0 = claims.could.unmarked k some in absurd (omega (arith, zero, mark)))
        | inr none ↦ omega (arith, none)
      ] in
      let still : get_or marks' k 0 ≡ 4294967295 = omega (arith, claims.marks k, mark, unclaimed) in
      let inside = whole_inside content k (chain.whole i below) in
      let few = closed.few in
      (chain.above_zero i below, omega (arith, inside, few), marked_unused marks' k still)) chain.distinct
]

-- a disk that holds a store is refused for want of memory or for a fault alone
pub want_of : (content : List ℕ) (fault : OpenFault) (store : Store) → IsNoStore content fault → HoldsStore content store → IsWant fault
want_of content opening.NoMemory store n held = tt
want_of content opening.DiskFault store n held = tt
want_of content opening.Damaged store n held = n.2 store held.indexes held.lists
want_of content opening.NotAStore store n held = elim held.lists [
  | inl none ↦ no_byte content none.0 n.0
  | inr more ↦ n.1 more.laid_out.closed.header.store
]
want_of content opening.NotClosed store n held = elim held.lists [
  | inl none ↦ no_byte content none.0 (let w = n.0.whole in omega (arith, w))
  | inr more ↦ (let state : number_at 12 4 content ≡ 2 = more.laid_out.closed.header.state in let left = n.1 in omega (arith, left, state))
]

-- why a file is refused before its metadata is read
pub damaged_none : (content : List ℕ) → IsDamaged content → IsNoStore content opening.Damaged
damaged_none content d = (
  d.store,
  d.not_open,
  λ store indexes lists. elim lists [
    | inl none ↦ no_byte content none.0 (let w = d.store.whole in omega (arith, w))
    | inr more ↦ d.not_closed more.metadata (laid_short content more.metadata more.signatures indexes more.laid_out) more.laid_out.closed
  ],
)

-- no write tears nothing
pub torn_none : (content : List ℕ) → HeaderTorn content content
torn_none content = record {
  no_shorter = omega arith;
  no_longer = omega arith;
  kept = λ i low high. refl;
}

-- why a disk is not opened whose header or chain is refused
early_refused : (content : List ℕ) (fault : OpenFault) → IsRefused fault content → IsNoStore content fault
early_refused content opening.NoMemory r = tt
early_refused content opening.DiskFault r = tt
early_refused content opening.Damaged r = damaged_none content r
early_refused content opening.NotAStore r = r
early_refused content opening.NotClosed r = r

-- what is left of such a disk is what it was
pub not_opened : (fault : OpenFault) (old left : DiskView) → (IsTrue old.honest → IsRefused fault old.content) → left.content ≡ old.content → left.honest ≡ old.honest
    → left.overreads ≡ old.overreads → Tells (fault ≡ opening.DiskFault) old.failures left.failures → IsNotOpened fault old left
not_opened fault old left why content honest inside tells = record {
  why = λ truly. early_refused old.content fault (why truly);
  want = λ truly store held. want_of old.content fault store (early_refused old.content fault (why truly)) held;
  disk_fault = tells.told;
  others = λ ne. (content, tells.quiet ne);
  torn = λ truly. rw content (torn_none old.content);
  honest = honest;
  overreads = inside;
}

-- the coverages that are attached, the next one, and those that are left
pub items_split : (all yielded rest later : List (Vec TileIndex Global)) (x : Vec TileIndex Global) → all ≡ yielded ++ rest → rest ≡ x ∷ later → indexes_of all ≡ indexes_of yielded ++ x.items ∷ indexes_of later
items_split all yielded rest later x e next = ap indexes_of (e ∙ ap (λ (r : List (Vec TileIndex Global)). yielded ++ r) next) ∙ map-append (λ (v : Vec TileIndex Global). v.items) yielded (x ∷ later)

-- the next place is one of the signatures
pub place_within : (content : List ℕ) (signatures : List Signature) (before : List (List Index)) (new : List Index) (after all : List (List Index)) (store : Store) (held : List (List Index)) (place : ℕ)
    → IsAttached content signatures before store held place → AreCounted signatures all → all ≡ before ++ new ∷ after → place < length signatures
place_within content signatures before new after all store held place a counted is =
    omega (arith, a.count, counted_place signatures before new after (subst (λ (l : List (List Index)). AreCounted signatures l) is counted))

pub next_fields : (content : List ℕ) (signatures : List Signature) (before : List (List Index)) (new : List Index) (after all : List (List Index)) (store : Store) (held : List (List Index)) (place : ℕ) (s : Signature)
    → IsAttached content signatures before store held place → AreCounted signatures all → all ≡ before ++ new ∷ after → s ≡ get_or signatures place s → length new ≡ length s.fields
next_fields content signatures before new after all store held place s a counted is e =
    counted_fields signatures before new after s (subst (λ (l : List (List Index)). AreCounted signatures l) is counted)
    ∙ ap (λ (n : ℕ). length (get_or signatures n s).fields) (sym a.count) ∙ ap (λ (t : Signature). length t.fields) (sym e)

pub next_tiles : (content : List ℕ) (signatures : List Signature) (before : List (List Index)) (new : List Index) (after all : List (List Index)) (store : Store) (held : List (List Index)) (place : ℕ) (s : Signature)
    → IsAttached content signatures before store held place → AreCounted signatures all → all ≡ before ++ new ∷ after → s ≡ get_or signatures place s → AreTiles signatures all → AreBelow s.domain new
next_tiles content signatures before new after all store held place s a counted is e tiles =
    let below = tiles_at signatures before new after s (subst (λ (l : List (List Index)). AreCounted signatures l) is counted) (subst (λ (l : List (List Index)). AreTiles signatures l) is tiles) in
    subst (λ (t : Signature). AreBelow t.domain new) (sym e) (subst (λ (n : ℕ). AreBelow (get_or signatures n s).domain new) (sym a.count) below)

-- all coverages are attached
pub all_attached : (content : List ℕ) (signatures : List Signature) (all : List (List Index)) (yielded rest : List (Vec TileIndex Global)) (store : Store) (held : List (List Index)) (place : ℕ)
    → IsAttached content signatures (indexes_of yielded) store held place → AreCounted signatures all → all ≡ indexes_of (yielded ++ rest) → rest ≡ []
    → (store ≡ coverages_in content signatures all) × (held ≡ all) × AreTiles signatures all
all_attached content signatures all yielded rest store held place a counted is none =
    let same : all ≡ indexes_of yielded = is ∙ ap (λ (r : List (Vec TileIndex Global)). indexes_of (yielded ++ r)) none ∙ ap indexes_of (append-nil yielded) in
    let long : length signatures ≤ place = omega (arith, a.count, counted_all signatures all counted, ap (λ (l : List (List Index)). length l) same) in
    let taken : take place signatures ≡ signatures = take_all place signatures long in (
      a.values ∙ ap (λ (l : List Signature). coverages_in content l (indexes_of yielded)) taken ∙ ap (λ (l : List (List Index)). coverages_in content signatures l) (sym same),
      a.listed ∙ sym same,
      subst (λ (l : List (List Index)). AreTiles signatures l) (sym same) (subst (λ (l : List Signature). AreTiles l (indexes_of yielded)) taken a.tiles),
    )

-- what metadata lists is counted
pub listed_counted : (v : Version) (metadata : List ℕ) (signatures : List Signature) (indexes : List (List Index)) → IsListed v metadata signatures indexes → AreCounted signatures indexes
listed_counted v metadata signatures indexes l = elim (some_bytes metadata) [
  | inl e ↦
      let none = l.new_file e in
      subst (λ (s : List Signature). AreCounted s indexes) (sym none.0) (subst (λ (i : List (List Index)). AreCounted [] i) (sym none.1) tt)
  | inr h ↦ (l.read h).counted
]

pub items_push : (yielded : List (Vec TileIndex Global)) (x : Vec TileIndex Global) → indexes_of (yielded ++ x ∷ []) ≡ indexes_of yielded ++ x.items ∷ []
items_push yielded x = map-append (λ (v : Vec TileIndex Global). v.items) yielded (x ∷ [])

pub none_left : {X : Type 0} (xs : List X) → length xs ≡ 0 → xs ≡ []
none_left [] e = refl
none_left (x ∷ xs) e = absurd (omega (arith, e))

-- why coverages are not attached
pub attach_departs : (P : Type 0) (fault : Fault) (told : OpenFault) → (fault ≡ device.Damaged → P) → TellsAttach fault told → Departs P told
attach_departs P device.NoMemory told f is = rw is tt
attach_departs P device.DiskFault told f is = absurd is
attach_departs P device.NoRoom told f is = absurd is
attach_departs P device.Damaged told f is = rw is (f refl)

-- the coverages that were attached can be closed
pub layout_ready : (v : Version) (metadata marks marks' : List ℕ) (content : List ℕ) (signatures : List Signature) (indexes : List (List Index)) (cells : RasterView BlockFileView)
    → IsFresh marks → ClaimsLayout v metadata signatures indexes marks marks' → cells.coverages ≡ coverages_in content signatures indexes → cells.indexes ≡ indexes
    → cells.snapshots ≡ [] → cells.blocks.marks ≡ marks' → IsReady signatures cells
layout_ready v metadata marks marks' content signatures indexes cells fresh laid values listed unheld same =
    let long = counted_all signatures indexes (listed_counted v metadata signatures indexes laid.listed) in
    let claims = laid.claims in
    record {
      signatures = sym (ap signatures_of values ∙ signatures_same content signatures indexes long);
      counted = rw (same, listed, unheld) (λ k. omega (arith, fresh_counts marks marks' indexes fresh claims k, lists_none k));
      once = rw listed (λ k. let least = claims.claims.could.once k in omega (arith, claims.each k, least));
      room = rw (listed, unheld) laid.room;
    }
