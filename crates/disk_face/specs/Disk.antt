-- What the calls of a disk do to the bytes that it holds.
use Rattle.std.specs.Prelude.{◌≡◌, ℕ, ◌+◌, ◌-◌, ◌/◌, ◌^◌, ◌<◌, ◌≤◌, min, max, Bool, true, false, IsTrue, take, List, length, slice_index}

-- A disk in memory as callers see it: its bytes, and how many of its calls have failed.
pub record Memory : Type 0 where
  pub content : List ℕ
  pub failures : ℕ

-- A disk in memory of which one call fails: how many calls are left until then, or 0 for none.
pub record Failing : Type 0 where
  pub content : List ℕ
  pub failures : ℕ
  pub left : ℕ

-- A disk in memory of which one read lies: how many reads are left until then, or 0 for none.
pub record Lying : Type 0 where
  pub content : List ℕ
  pub failures : ℕ
  pub left : ℕ

-- A disk over a file as callers see it: its bytes, those that last, whether the file does what it tells, how many of
-- the disk's calls have failed, whether the system refuses none of them, whether it never refuses to tell the file's
-- length, and whether that length is not known.
pub record Filed : Type 0 where
  pub content : List ℕ
  pub synced : List ℕ
  pub honest : Bool
  pub failures : ℕ
  pub works : Bool
  pub tells_length : Bool
  pub is_broken : Bool

-- its file works, and its length is known
abbrev pub Works : Filed → Type 0
Works disk = IsTrue disk.works × (disk.is_broken ≡ false)

-- where the system tells the file's length it does so still, and the disk is broken only where it was
abbrev pub StillTellsLength : Filed → Filed → Type 0
StillTellsLength old new = IsTrue old.tells_length → IsTrue new.tells_length × (new.is_broken ≡ old.is_broken)

-- a file that worked does so still, and the call was done
abbrev pub StillWorks : Bool → Bool → Type 0 → Type 0
StillWorks old new done = IsTrue old → IsTrue new × done

-- The bytes of a file as far as a disk over it knows them: all, or once its length is not known as many as it had
-- before.
abbrev pub known_bytes : Bool → Bool → ℕ → List ℕ → List ℕ
known_bytes honest false known bytes = bytes
known_bytes true true known bytes = take known bytes
known_bytes false true known bytes = bytes

-- the content has these bytes from this place on
pub record Holds (content : List ℕ) (at : ℕ) (bytes : List ℕ) : Type 0 where
  pub within : at + length bytes ≤ length content
  pub each : (i : ℕ) → i < length bytes → slice_index content (at + i) ≡ slice_index bytes i

-- the bytes are those that the content has from this place on, each inverted
pub record HoldsInverted (content : List ℕ) (at : ℕ) (bytes : List ℕ) : Type 0 where
  pub within : at + length bytes ≤ length content
  pub each : (i : ℕ) → i < length bytes → slice_index bytes i ≡ 255 - slice_index content (at + i)

-- so many bytes from this place on lie inside of the content
abbrev pub IsInside : ℕ → List ℕ → List ℕ → Type 0
IsInside at bytes content = at + length bytes ≤ length content

-- of an honest disk that has so many bytes from this place on
abbrev pub IfInside : Bool → ℕ → List ℕ → List ℕ → Type 0 → Type 0
IfInside honest at bytes content fact = IsTrue honest → IsInside at bytes content → fact

-- what a disk knows of its file's length: it, or once it is broken no more than it
abbrev pub KnowsLength : Bool → ℕ → List ℕ → Type 0
KnowsLength is_broken known content = (is_broken ≡ false → known ≡ length content) × (known ≤ length content)

-- After a write of n bytes that may have been cut short: any bytes in its range, and in the gap between
-- the old end and its range; the others are as they were.
pub record Torn (at n : ℕ) (old new : List ℕ) : Type 0 where
  pub no_shorter : length old ≤ length new
  pub no_longer : length new ≤ max (length old) (at + n)
  pub below : (i : ℕ) → i < length old → i < at → slice_index new i ≡ slice_index old i
  pub above : (i : ℕ) → i < length old → at + n ≤ i → slice_index new i ≡ slice_index old i

-- after a write that was done: the bytes stand there, a gap past the old end holds zeros, and the others
-- are as they were
pub record Written (at : ℕ) (bytes old new : List ℕ) : Type 0 where
  pub holds : Holds new at bytes
  pub gap : (i : ℕ) → length old ≤ i → i < at → slice_index new i ≡ 0
  pub others : Torn at (length bytes) old new

-- of an honest disk: what it has at this place was read
abbrev pub Reads : Bool → ℕ → List ℕ → List ℕ → Type 0
Reads honest at bytes content = IfInside honest at bytes content (Holds content at bytes)

-- of a write inside of the content that failed: the first half of the bytes was written
abbrev pub WritesHalf : ℕ → List ℕ → List ℕ → List ℕ → Type 0
WritesHalf at bytes old new = IsInside at bytes old → Written at (take (length bytes / 2) bytes) old new

-- one byte at least came, where there is one and room for one
abbrev pub ReadsSome : List ℕ → ℕ → List ℕ → ℕ → Type 0
ReadsSome content at buf n = at < length content → 0 < length buf → 0 < n

-- the first n bytes, of which there is one at least, stand there
abbrev pub HoldsPart : List ℕ → ℕ → ℕ → List ℕ → Type 0
HoldsPart content at n bytes = 0 < n → Holds content at (take n bytes)

-- the first n bytes, of which there is one at least, were written
abbrev pub WrittenPart : ℕ → ℕ → List ℕ → List ℕ → List ℕ → Type 0
WrittenPart at n bytes old new = 0 < n → Written at (take n bytes) old new

-- of an honest file: the first n bytes were written
abbrev pub WritesPart : Bool → ℕ → ℕ → List ℕ → List ℕ → List ℕ → Type 0
WritesPart honest at n bytes old new = IsTrue honest → WrittenPart at n bytes old new

-- of an honest disk: the bytes were written
abbrev pub Writes : Bool → ℕ → List ℕ → List ℕ → List ℕ → Type 0
Writes honest at bytes old new = IsTrue honest → Written at bytes old new

-- the count rose, or stands at the last value of a `u64`; it has not fallen
abbrev pub Rose : ℕ → ℕ → Type 0
Rose old new = max old (min (old + 1) (2 ^ 64 - 1)) ≤ new

-- What an answer tells of the disk's failures: a fault only where the count rose in the call, or stands at its last
-- value; an answer that tells no fault left the count as it was.
pub record Tells (fault : Type 0) (old new : ℕ) : Type 0 where
  pub told : fault → Rose old new
  pub quiet : (fault → ⊥) → new ≡ old

-- What a disk holds, what of it lasts, and whether it is honest, is as it was.
pub record Unwritten {D : Type 0} (content synced : D → List ℕ) (honest : D → Bool) (old new : D) : Type 0 where
  pub same_content : content new ≡ content old
  pub same_synced : synced new ≡ synced old
  pub same_honest : honest new ≡ honest old

-- The same, and an honest disk was read nowhere past its end.
pub record OnlyRead {D : Type 0} (content synced : D → List ℕ) (honest : D → Bool) (overreads : D → ℕ) (old new : D)
    : Type 0 where
  pub same_content : content new ≡ content old
  pub same_synced : synced new ≡ synced old
  pub same_honest : honest new ≡ honest old
  pub same_overreads : IsTrue (honest old) → overreads new ≡ overreads old
