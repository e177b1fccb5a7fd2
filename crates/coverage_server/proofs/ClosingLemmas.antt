-- The metadata that a closing writes is that of the store, and the disk then holds it.
use Rattle.std.proofs.Common.{◌≡◌, ℕ, ◌+◌, ◌/◌, ◌<◌, ◌≤◌, List, [], ◌∷◌, ◌++◌, length, take, Some, refl, sym, ap, ◌∙◌, subst, arith, inl, inr}
use Rattle.std.specs.Prelude.{IsTrue, slice_get}
use Rattle.std.specs.List.{flat_map}
use Rattle.std.proofs.lemmas.List.{flat_map_more, take_more}
use Rattle.std.proofs.lemmas.Option.{slice_get_within, get_or_from_slice_get}
use Rattle.std.proofs.lemmas.Bool.{cases_eq}
use Rattle.arr_core.specs.declared.signature.Signature.{Signature}
use Rattle.arr_core.specs.Stores.{Store}
use Rattle.catalogue.specs.Bytes.{catalogue_bytes}
use Rattle.catalogue.specs.Signatures.{IsCatalogue}
use Rattle.block_file.specs.State.{BlocksState, block, block_at, free_up_to}
use Rattle.file_bytes.specs.declared.form.Version.{Version}
use Rattle.file_bytes.specs.declared.form.Version.TheVariants.{One, Two}
use Rattle.block_file.specs.Limits.{last_block}
use Rattle.block_file.specs.Format.{Closes, TellsVersion, link, chain_blocks}
use Rattle.block_file.specs.Words.{HoldsChain}
use Rattle.block_file.proofs.Places.{whole_inside}
use Rattle.metadata.proofs.Sizes.{length_metadata}
use Rattle.metadata.specs.Metadata.{IsOfVersion, metadata_bytes, AreCounted}
use Rattle.raster_store.specs.Views.{Index, SnapshotView, listed_all, metadata_size, fields_size, AreIntact}
use Rattle.raster_store.specs.Calls.{AreWhole, AreListed}
use Rattle.coverage_server.specs.Damage.{IsIntactIn, IsIntactNamed}
use Rattle.coverage_server.specs.Sessions.{IsNotClosed}
use Rattle.coverage_server.specs.Views.{ServerView, signatures_of, uses_in, IsClosable}
use Rattle.block_file.specs.declared.fault.CloseFault.{CloseFault}
use Rattle.coverage_server.specs.Closing.{IsWritten}
use Rattle.coverage_server.specs.Disk.{AreTiles, ListsStore, HoldsStore}
use Rattle.coverage_server.proofs.FreeLemmas.{free_unlisted}

-- what one element more of a list writes behind others
pub one_further : {X : Type 0} (f : X → List ℕ) (bytes before after : List ℕ) (xs : List X) (i : ℕ) (x : X) → slice_get xs i ≡ Some x → before ≡ bytes ++ flat_map f (take i xs)
    → after ≡ before ++ f x → after ≡ bytes ++ flat_map f (take (i + 1) xs)
one_further f bytes before after xs i x is so_far put =
    let more : take (i + 1) xs ≡ take i xs ++ x ∷ [] = take_more xs i x (slice_get_within xs i x is) ∙ ap (λ y. take i xs ++ y ∷ []) (get_or_from_slice_get xs i x x is) in
    put ∙ ap (λ (l : List ℕ). l ++ f x) so_far ∙ flat_map_more f bytes (take i xs) x ∙ ap (λ l. bytes ++ flat_map f l) (sym more)

-- a store has as many lists of indexes as coverages
pub as_many : (store : Store) (indexes : List (List Index)) → AreWhole store indexes → length indexes ≡ length store
as_many [] [] w = refl
as_many [] (i ∷ indexes) w = absurd w
as_many (c ∷ store) [] w = absurd w
as_many (c ∷ store) (i ∷ indexes) w = let rest = as_many store indexes w.3 in omega (arith, rest)

-- each coverage's indexes are counted, and list tiles of its domain
pub are_counted : (store : Store) (indexes : List (List Index)) → AreWhole store indexes → AreCounted (signatures_of store) indexes
are_counted [] [] w = tt
are_counted [] (i ∷ indexes) w = absurd w
are_counted (c ∷ store) [] w = absurd w
are_counted (c ∷ store) (i ∷ indexes) w = (w.0, w.1, are_counted store indexes w.3)

pub are_tiles : (store : Store) (indexes : List (List Index)) → AreWhole store indexes → AreTiles (signatures_of store) indexes
are_tiles [] indexes w = tt
are_tiles (c ∷ store) [] w = tt
are_tiles (c ∷ store) (i ∷ indexes) w = (w.2, are_tiles store indexes w.3)

-- how many bytes the metadata has
pub metadata_length : (signatures : List Signature) (indexes : List (List Index)) → length (metadata_bytes signatures indexes) ≡ metadata_size (length (catalogue_bytes signatures)) indexes
unfolding metadata_size fields_size
metadata_length signatures indexes = length_metadata signatures indexes

-- a whole block lies within the file
block_within : (content : List ℕ) (k : ℕ) → length (block_at content k) ≡ 4096 → k < length content / 4096
block_within content k whole = let e = whole_inside content k whole in omega (arith, e)

-- what a file of version 2 has is of its version
of_version : (content : List ℕ) (signatures : List Signature) (indexes : List (List Index)) → TellsVersion Two content
    → (v : Version) → TellsVersion v content → IsOfVersion v signatures indexes
of_version content signatures indexes two One one = absurd (omega (arith, two, one))
of_version content signatures indexes two Two same = record { axes = tt; forms = λ k d l i e m. tt }

-- what was closed lists the coverages
pub lists : (s : BlocksState) (store : Store) (indexes : List (List Index)) → AreListed s store indexes → IsTrue s.honest
    → IsCatalogue (signatures_of store) → ((k : ℕ) → listed_all indexes k ≤ 1) → listed_all indexes 0 ≡ 0
    → IsWritten s.content (metadata_bytes (signatures_of store) indexes) indexes → ListsStore s.content store indexes
lists s store indexes l h k once zero w = inr (record {
  metadata = metadata_bytes (signatures_of store) indexes;
  signatures = signatures_of store;
  laid_out = record {
    closed = w.closed;
    written = record { catalogue = k; counted = are_counted store indexes l.each; written = refl };
    version = of_version s.content (signatures_of store) indexes w.version;
    tiles = are_tiles store indexes l.each;
    blocks = λ n more. record {
      once = (let least = once n in omega (arith, least, more));
      above_zero = elim (cases_eq n 0) [
        | inl e ↦ absurd (let none : listed_all indexes n ≡ 0 = rw e zero in omega (arith, none, more))
        | inr other ↦ omega (arith, other)
      ];
      within = block_within s.content n (l.whole h n more);
      apart = λ i below same. let none : listed_all indexes n ≡ 0 = subst (λ (m : ℕ). listed_all indexes m ≡ 0) same (w.apart i below) in absurd (omega (arith, none, more));
    };
  };
  is = l.values;
})

-- and holds the store where each tile is spelled
pub holds : (s : BlocksState) (store : Store) (indexes : List (List Index)) → AreListed s store indexes → IsTrue s.honest
    → IsCatalogue (signatures_of store) → ((k : ℕ) → listed_all indexes k ≤ 1) → listed_all indexes 0 ≡ 0
    → IsWritten s.content (metadata_bytes (signatures_of store) indexes) indexes → AreIntact s.content store indexes → HoldsStore s.content store
holds s store indexes l h k once zero w intact = record { indexes = indexes; lists = lists s store indexes l h k once zero w; intact = intact }

-- what a write of the header makes of a chain that was written before, in blocks that are in no use
pub is_written : (first : ℕ) (mid : BlocksState) (new shown metadata : List ℕ) (indexes later : List (List Index)) (held : List SnapshotView) → IsTrue mid.honest → shown ≡ metadata
    → TellsVersion Two new → HoldsChain first shown mid → Closes first (length shown) mid.content new → ((k : ℕ) → mid.uses k ≡ uses_in indexes held k) → later ≡ indexes
    → IsWritten new metadata later
is_written first mid new shown metadata indexes later held honest is version holds closes counted same =
    let w = closes shown refl (holds.chain honest) in
    subst (λ (m : List ℕ). IsWritten new m later) is
    (record {
      closed = w.closed;
      version = version;
      apart = λ i below. ap (listed_all later) (w.links i below) ∙ ap (λ (l : List (List Index)). listed_all l (link (block mid) first i)) same
          ∙ unlisted (link (block mid) first i) (sym (counted (link (block mid) first i)) ∙ holds.unused honest i below);
    })
  where
    unlisted : (k : ℕ) → uses_in indexes held k ≡ 0 → listed_all indexes k ≡ 0
    unlisted k none = omega (arith, none)

-- the header's block is listed nowhere
pub header_unlisted : (indexes : List (List Index)) (held : List SnapshotView) → uses_in indexes held 0 ≡ 0 → listed_all indexes 0 ≡ 0
header_unlisted indexes held none = omega (arith, none)

-- the metadata that is written fits the blocks that are kept free for it
pub metadata_some : (catalogue : ℕ) (indexes : List (List Index)) → 0 < metadata_size catalogue indexes
unfolding metadata_size
metadata_some catalogue indexes = omega arith

pub written_fits : (metadata : List ℕ) (catalogue : List Signature) (store : Store) (indexes : List (List Index)) (held : List SnapshotView) (uses : ℕ → ℕ)
    → metadata ≡ metadata_bytes (signatures_of store) indexes → IsClosable catalogue store indexes held uses
    → (0 < length metadata) × (chain_blocks (length metadata) ≤ free_up_to last_block uses)
written_fits metadata catalogue store indexes held uses is ready =
    let size : length metadata ≡ metadata_size (length (catalogue_bytes catalogue)) indexes =
    ap (λ (l : List ℕ). length l) is ∙ metadata_length (signatures_of store) indexes
    ∙ ap (λ (l : List Signature). metadata_size (length (catalogue_bytes l)) indexes) (sym ready.signatures) in
    let free = free_unlisted uses indexes held ready.counted in (
      subst (λ (n : ℕ). 0 < n) (sym size) (metadata_some (length (catalogue_bytes catalogue)) indexes),
      rw (size, free) ready.room,
    )

-- a close that was refused, and then another
pub spelled_again : (fault : CloseFault) (old mid : ServerView) (content : List ℕ) → IsNotClosed fault old mid
    → (IsTrue mid.honest → (name : List ℕ) → IsIntactNamed mid name → IsIntactIn content mid.store mid.indexes name)
    → IsTrue old.honest → (name : List ℕ) → IsIntactNamed old name → IsIntactIn content old.store old.indexes name
spelled_again fault old mid content a keeps sure name whole =
    let still : IsIntactIn content mid.store mid.indexes name =
    keeps (subst IsTrue (sym a.honest) sure) name
    (λ field tile. (a.spelled sure).tiles name field tile (whole field tile)) in
    subst (λ (s : Store). IsIntactIn content s old.indexes name) (a.unchanged.store sure)
    (subst (λ (l : List (List Index)). IsIntactIn content mid.store l name) a.unchanged.indexes still)
