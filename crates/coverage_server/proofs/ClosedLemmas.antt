-- What a disk holds to which a server was closed.
use Rattle.std.proofs.Common.{◌≡◌, ◌∙◌, ℕ, List, IsTrue, sym, ap, subst}
use Rattle.arr_core.specs.Stores.{Store}
use Rattle.metadata.specs.Metadata.{metadata_bytes}
use Rattle.raster_store.specs.Views.{Index, AreIntact}
use Rattle.block_file.specs.declared.fault.CloseFault.{CloseFault}
use Rattle.block_file.specs.declared.fault.CloseFault.TheVariants as closing
use Rattle.coverage_server.specs.Closing.{HoldsClosed, IsWritten, WritesHeld, metadata_held}
use Rattle.coverage_server.specs.Damage.{KeepsSpelled}
use Rattle.coverage_server.specs.Disk.{DiskView, HoldsStore, ListsStore}
use Rattle.coverage_server.specs.Growing.{GrowsToClose}
use Rattle.coverage_server.specs.Sessions.{IsClosedTo, IsNotClosed}
use Rattle.coverage_server.specs.Views.{ServerView, IsSound, IsUnchanged, signatures_of, without_held}
use Rattle.coverage_server.proofs.ClosingLemmas.{spelled_again}
use Rattle.coverage_server.proofs.GrowthLemmas.{grows_again}
use Rattle.coverage_server.proofs.LettingLemmas.{lists_again, intact_again, holds_again}
use Rattle.coverage_server.proofs.SpelledLemmas.{closed_spelled}

-- the disk below the coverages whose metadata was written
pub closed_to : (v w : ServerView) (disk : DiskView) → WritesHeld v w → IsUnchanged v w → (IsSound v → IsSound w)
    → (IsTrue v.honest → KeepsSpelled v w) → GrowsToClose v w.content → w.honest ≡ v.honest → w.failures ≡ v.failures → w.overreads ≡ v.overreads
    → HoldsClosed w disk.content → disk.content ≡ w.content → disk.honest ≡ w.honest → disk.failures ≡ w.failures
    → disk.overreads ≡ w.overreads → IsClosedTo v disk
closed_to v w disk written same sounds keeps grows honest none inside closed content truth count within = record {
  lists = λ sure.
      subst (λ (s : Store). ListsStore disk.content s v.indexes) (same.store sure)
      (subst (λ (l : List (List Index)). ListsStore disk.content w.store l) same.indexes
      (closed.lists (now sure) (subst IsTrue (sym honest) sure)));
  intact = λ sound.
      subst (λ (s : Store). AreIntact disk.content s v.indexes) (same.store sound.honest)
      (subst (λ (l : List (List Index)). AreIntact disk.content w.store l) same.indexes (closed.intact (sounds sound)));
  spelled = closed_spelled v w disk.content content same keeps;
  held = λ sound.
      subst (HoldsStore disk.content) (same.store sound.honest) (closed.held (now sound.honest) (sounds sound));
  grows = subst (GrowsToClose v) (sym content) grows;
  honest = truth ∙ honest;
  failures = count ∙ none;
  overreads = within ∙ inside;
}
  where
    now : IsTrue v.honest → IsWritten disk.content (metadata_held w) w.indexes
    now sure =
        let metadata : metadata_held w ≡ metadata_held v =
        ap (λ (s : Store). metadata_bytes (signatures_of s) w.indexes) (same.store sure)
        ∙ ap (λ (l : List (List Index)). metadata_bytes (signatures_of v.store) l) same.indexes in
        subst (λ (c : List ℕ). IsWritten c (metadata_held w) w.indexes) (sym content)
        (subst (λ (b : List ℕ). IsWritten w.content b w.indexes) (sym metadata) (written sure))

-- a close that was made once more, with the jobs let go
pub closed_again : (fault : CloseFault) (old mid : ServerView) (disk : DiskView) → fault ≡ closing.NoMemory
    → IsNotClosed fault old mid → IsClosedTo (without_held mid) disk → IsClosedTo old disk
closed_again fault old mid disk is a closed = record {
  lists = lists_again fault old mid disk.content a closed.lists;
  intact = intact_again fault old mid disk.content a closed.intact;
  spelled = spelled_again fault old mid disk.content a closed.spelled;
  held = holds_again fault old mid disk.content a closed.held;
  grows = grows_again old mid disk.content a.unchanged a.honest a.grows closed.grows;
  honest = closed.honest ∙ a.honest;
  failures = closed.failures ∙ (a.no_memory is).1;
  overreads = closed.overreads ∙ a.overreads;
}
