-- The blocks that a closed file lists are those that may be claimed, and a disk has one layout.
use Rattle.std.proofs.Common.{◌≡◌, ℕ, ◌+◌, ◌/◌, ◌<◌, List, ◌∷◌, ◌++◌, length, get_or, arith, sym, subst, inl, inr}
use Rattle.std.specs.Prelude.{IsTrue}
use Rattle.std.proofs.lemmas.Bool.{cases_lt}
use Rattle.std.proofs.lemmas.List.Sums.{sum_by-append}
use Rattle.arr_core.specs.declared.signature.Signature.{Signature}
use Rattle.block_file.specs.State.{BlocksState, block, block_at, times}
use Rattle.block_file.specs.Format.{IsClosed, TellsVersion, first_of}
use Rattle.block_file.specs.Uses.{MarksChain, CanClaim}
use Rattle.file_bytes.specs.declared.form.Version.{Version}
use Rattle.metadata.specs.Metadata.{IsMetadata, IsOfVersion}
use Rattle.raster_store.specs.Views.{Index, listed_fields, listed_all}
use Rattle.raster_store.specs.Calls.{MayAttach}
use Rattle.raster_store.proofs.Totals.{listed_all-cons}
use Rattle.coverage_server.specs.Disk.{IsTileBlock, IsLaidOut}

-- A file whose metadata is the only one, and spells one catalogue with its indexes, is laid out in one way.
pub one_layout : (v : Version) (content m m' : List ℕ) (s s' : List Signature) (i i' : List (List Index))
    → TellsVersion v content → ((metadata : List ℕ) → IsClosed content metadata → m ≡ metadata)
    → ((signatures : List Signature) (indexes : List (List Index)) → IsMetadata m signatures indexes → IsOfVersion v signatures indexes
    → (signatures ≡ s) × (indexes ≡ i)) → IsLaidOut content m' s' i' → (s' ≡ s) × (i' ≡ i)
one_layout v content m m' s s' i i' told closed spelled laid =
    spelled s' i' (subst (λ (l : List ℕ). IsMetadata l s' i') (sym (closed m' laid.closed)) laid.written) (laid.version v told)

-- The blocks of a closed file's tiles may be claimed where its metadata alone is marked.
pub laid_claims : (content : List ℕ) (size : ℕ) (marks blocks : List ℕ) (indexes : List (List Index))
    → MarksChain (block_at content) (first_of content) size marks → length marks ≡ length content / 4096
    → ((k : ℕ) → times blocks k ≡ listed_all indexes k)
    → ((k : ℕ) → 0 < listed_all indexes k → IsTileBlock content size indexes k) → CanClaim blocks marks
laid_claims content size marks blocks indexes chain few counted laid =
    let tile : (k : ℕ) → 0 < times blocks k → IsTileBlock content size indexes k = λ k some. laid k (omega (arith, counted k, some)) in
    record {
      once = λ k. elim (cases_lt 0 (times blocks k)) [
        | inl some ↦ (let one = (tile k some).once in omega (arith, counted k, one))
        | inr none ↦ omega (arith, none)
      ];
      above_zero = λ k some. (tile k some).above_zero;
      inside = λ k some. (let within = (tile k some).within in omega (arith, few, within));
      unmarked = λ k some. chain.others k (tile k some).above_zero (tile k some).apart;
    }

-- Where the listed blocks may be claimed each is listed once, within the file, and apart from the header and the
-- metadata.
pub claimed_blocks : (content : List ℕ) (size : ℕ) (marks blocks : List ℕ) (indexes : List (List Index))
    → MarksChain (block_at content) (first_of content) size marks → length marks ≡ length content / 4096
    → ((k : ℕ) → times blocks k ≡ listed_all indexes k) → CanClaim blocks marks
    → (k : ℕ) → 0 < listed_all indexes k → IsTileBlock content size indexes k
claimed_blocks content size marks blocks indexes chain few counted can k some =
    let claimed : 0 < times blocks k = omega (arith, counted k, some) in
    let unmarked : get_or marks k 0 ≡ 0 = can.unmarked k claimed in
    record {
      once = omega (arith, counted k, some, can.once k);
      above_zero = can.above_zero k claimed;
      within = (let inside = can.inside k claimed in omega (arith, few, inside));
      apart = λ i below same.
          let kept : get_or marks k 0 ≡ 4294967295 = subst (λ (n : ℕ). get_or marks n 0 ≡ 4294967295) same (chain.chain i below) in
          absurd (omega (arith, kept, unmarked));
    }

-- coverages in front of others
listed_all-append : (k : ℕ) (xs ys : List (List Index)) → listed_all (xs ++ ys) k ≡ listed_all xs k + listed_all ys k
unfolding listed_all
listed_all-append k xs ys = sum_by-append (λ (f : List Index). listed_fields f k) xs ys

listed_around : (k : ℕ) (before : List (List Index)) (new : List Index) (after : List (List Index))
    → listed_all (before ++ new ∷ after) k ≡ listed_all before k + (listed_fields new k + listed_all after k)
listed_around k before new after = omega (arith, listed_all-append k before (new ∷ after), listed_all-cons k new after)

-- Once the blocks of all coverages are in use, one coverage after the other may be attached.
pub may_attach : (s : BlocksState) (before : List (List Index)) (new : List Index) (after : List (List Index))
    → ((k : ℕ) → s.uses k ≡ listed_all (before ++ new ∷ after) k)
    → (IsTrue s.honest → (k : ℕ) → 0 < listed_all (before ++ new ∷ after) k → length (block s k) ≡ 4096) → MayAttach s before new
may_attach s before new after counted whole = record {
  counted = λ k. omega (arith, counted k, listed_around k before new after);
  whole = λ honest k some. whole honest k (omega (arith, some, listed_around k before new after));
}
