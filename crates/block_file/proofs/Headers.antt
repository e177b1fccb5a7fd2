-- Headers: how one is put together and written, what a part of a content tells of it, and what it says of a file that
-- is opened or closed.
use Rattle.std.proofs.Common.{get_or-take, ◌≡◌, ℕ, ◌+◌, ◌*◌, ◌<◌, ◌≤◌, List, length, get_or, take, arith, ap, sym, ◌∙◌, ◌/◌, zero-add, ◌-◌, ◌%◌, inl, inr, max, IsTrue, replicate, refl}
use Rattle.std.proofs.lemmas.Grind.{common_steps, elements, same_number_lists}
use Rattle.std.proofs.lemmas.Bool.{cases_lt}
use Rattle.std.proofs.lemmas.List.{get_or_past, length-replicate}
use borrow.Rule.Slice.PartMut.{mid_of}
use Rattle.disk_face.specs.Disk.{Holds, Written, Torn}
use Rattle.block_file.specs.declared.header.State.{State}
use Rattle.file_bytes.specs.declared.form.Version.TheVariants.{Two}
use Rattle.block_file.specs.declared.fault.OpenFault.{OpenFault}
use Rattle.block_file.specs.declared.fault.OpenFault.TheVariants.{NoMemory, DiskFault, Damaged, NotAStore, NotClosed}
use Rattle.block_file.specs.declared.header.State.TheVariants.{Closed}
use Rattle.block_file.specs.declared.chain.Layout.{Layout}
use Rattle.block_file.specs.declared.header.Header.{Header}
use Rattle.block_file.specs.State.{block_at, BlocksState}
use Rattle.block_file.specs.Format.{number_at, magic_bytes, state_number, TellsVersion, IsStoreFile, IsHeader, KeepsHeader, Put, IsChain, IsClosed, IsDamaged, HeaderWritten, Closes, Filled, Extends, HeaderTorn, HeaderLast}
use Rattle.block_file.specs.View.{IsRefused, IsOpened}
use Rattle.block_file.specs.Links.{IsNoHeader, IsClosedHeader, ReadsChain}
use Rattle.block_file.specs.Words.{OthersKept, OnlyHeader}
use Rattle.block_file.proofs.Numbers.{same_number, length-mid, zeros_mid}
use Rattle.block_file.proofs.Places.{whole_inside, inside_whole, same_blocks}
use Rattle.block_file.proofs.Chains.{same_link, chain_kept}

kept : (at n at' n' x : ℕ) (old new : List ℕ) → at + n ≤ at' → Put at' n' x old new → number_at at n new ≡ number_at at n old
kept at n at' n' x old new le put = same_number at n new old (λ j a b. put.below j (omega arith))

pub take_same : (n : ℕ) (xs ys : List ℕ) → n ≤ length xs → n ≤ length ys → ((i : ℕ) → i < n → get_or xs i 0 ≡ get_or ys i 0) → take n xs ≡ take n ys
take_same n xs ys a b same = same_number_lists _ _ (grind (arith, common_steps)) (λ i h. grind (arith, elements, same i))

pub header_made : (state : State) (blocks first size : ℕ) (b0 b1 b2 b3 b4 b5 : List ℕ) → length b0 ≡ 4096 → take 8 b0 ≡ magic_bytes → ((i : ℕ) → 8 ≤ i → get_or b0 i 0 ≡ 0)
    → Put 8 4 2 b0 b1 → Put 12 4 (state_number state) b1 b2 → Put 16 4 blocks b2 b3 → Put 20 4 first b3 b4 → Put 24 8 size b4 b5 → IsHeader b5 state blocks first size × TellsVersion Two b5
header_made state blocks first size b0 b1 b2 b3 b4 b5 len magic zeros p1 p2 p3 p4 p5 =
    let same0 : (i : ℕ) → i < 8 → get_or b5 i 0 ≡ get_or b0 i 0 = λ i h. p5.below i (omega arith) ∙ p4.below i (omega arith) ∙ p3.below i (omega arith) ∙ p2.below i (omega arith) ∙ p1.below i (omega arith) in
    let long : length b5 ≡ 4096 = omega (arith, p1.same_length, p2.same_length, p3.same_length, p4.same_length, p5.same_length) in
    let told : TellsVersion Two b5 = kept 8 4 24 8 size b4 b5 (omega arith) p5 ∙ kept 8 4 20 4 first b3 b4 (omega arith) p4 ∙ kept 8 4 16 4 blocks b2 b3 (omega arith) p3 ∙ kept 8 4 12 4 _ b1 b2 (omega arith) p2 ∙ p1.number in (
      record {
        store = record {
          whole = omega arith;
          magic = take_same 8 b5 b0 (omega arith) (omega arith) same0 ∙ magic;
          version = (Two, told);
        };
        state = kept 12 4 24 8 size b4 b5 (omega arith) p5 ∙ kept 12 4 20 4 first b3 b4 (omega arith) p4 ∙ kept 12 4 16 4 blocks b2 b3 (omega arith) p3 ∙ p2.number;
        blocks = kept 16 4 24 8 size b4 b5 (omega arith) p5 ∙ kept 16 4 20 4 first b3 b4 (omega arith) p4 ∙ p3.number;
        first = kept 20 4 24 8 size b4 b5 (omega arith) p5 ∙ p4.number;
        size = p5.number;
        zeros = λ i a b. p5.above i (omega arith) ∙ p4.above i (omega arith) ∙ p3.above i (omega arith) ∙ p2.above i (omega arith) ∙ p1.above i (omega arith) ∙ zeros i (omega arith);
      },
      told,
    )

-- contents that agree on their first block
pub record SameStart (one other : List ℕ) : Type 0 where
  pub short : 4096 ≤ length one
  pub long : 4096 ≤ length other
  pub same : (i : ℕ) → i < 4096 → get_or other i 0 ≡ get_or one i 0

pub back : (one other : List ℕ) → SameStart one other → SameStart other one
back one other s = record { short = s.long; long = s.short; same = λ i lt. sym (s.same i lt) }

pub number_in : (at n : ℕ) (one other : List ℕ) → at + n ≤ 4096 → SameStart one other → number_at at n other ≡ number_at at n one
number_in at n one other le s = same_number at n other one (λ j a b. s.same j (omega arith))

pub store_in : (one other : List ℕ) → SameStart one other → IsStoreFile one → IsStoreFile other
store_in one other s h = record {
  whole = s.long;
  magic = take_same 8 other one (omega (arith, s.long)) (omega (arith, s.short)) (λ i lt. s.same i (omega arith)) ∙ h.magic;
  version = (h.version.0, number_in 8 4 one other (omega arith) s ∙ h.version.1);
}

-- they have the same header
pub header_in : (state : State) (blocks first size : ℕ) (one other : List ℕ) → SameStart one other → IsHeader one state blocks first size → IsHeader other state blocks first size
header_in state blocks first size one other s h = record {
  store = store_in one other s h.store;
  state = number_in 12 4 one other (omega arith) s ∙ h.state;
  blocks = number_in 16 4 one other (omega arith) s ∙ h.blocks;
  first = number_in 20 4 one other (omega arith) s ∙ h.first;
  size = number_in 24 8 one other (omega arith) s ∙ h.size;
  zeros = λ i a b. s.same i b ∙ h.zeros i a b;
}

-- a byte of the header
header_byte : (content : List ℕ) (i : ℕ) → i < 4096 → get_or (block_at content 0) i 0 ≡ get_or content i 0
unfolding block_at
header_byte content i lt = get_or-take 4096 content i 0 lt

-- what is kept of a whole header keeps what it tells
pub keeps_header : (old new : List ℕ) → (length (block_at old 0) ≡ 4096 → block_at new 0 ≡ block_at old 0) → KeepsHeader old new
keeps_header old new kept = λ state blocks first size h.
    let was : length (block_at old 0) ≡ 4096 = inside_whole old 0 (omega (arith, h.store.whole)) in
    let same : block_at new 0 ≡ block_at old 0 = kept was in
    header_in state blocks first size old new (record {
      short = h.store.whole;
      long = omega (arith, whole_inside new 0 (ap length same ∙ was));
      same = λ i lt. sym (header_byte new i lt) ∙ ap (λ (b : List ℕ). get_or b i 0) same ∙ header_byte old i lt;
    }) h

-- the first block that was read agrees with the content
pub starts : (content bytes : List ℕ) → length bytes ≡ 4096 → Holds content 0 bytes → SameStart bytes content
starts content bytes len holds = record {
  short = omega arith;
  long = omega (arith, holds.within);
  same = λ i lt. ap (λ j. get_or content j 0) (sym (zero-add i)) ∙ holds.each i (omega arith);
}

-- a closed header that tells another number of blocks than there are, or too many
pub damaged_length : (content : List ℕ) (blocks first size : ℕ) → IsHeader content Closed blocks first size → ((length content ≡ 4096 * blocks) → blocks ≤ 1048576 → ⊥) → IsDamaged content
damaged_length content blocks first size header wrong = record {
  store = header.store;
  not_open = λ e. let closed = header.state in omega arith;
  not_closed = λ metadata short closed.
      let same : blocks ≡ length content / 4096 = sym header.blocks ∙ closed.header.blocks in
      wrong (omega (arith, closed.whole)) (omega (arith, closed.few));
}

-- a closed header that tells of too much metadata
pub damaged_long : (content : List ℕ) (blocks first size : ℕ) → IsHeader content Closed blocks first size → 15000000 < size → IsDamaged content
damaged_long content blocks first size header long = record {
  store = header.store;
  not_open = λ e. let closed = header.state in omega arith;
  not_closed = λ metadata short closed. let same : size ≡ length metadata = sym header.size ∙ closed.header.size in omega (arith, short, long, same);
}

-- a closed header with a chain
pub closed_file : (content metadata : List ℕ) (blocks first size : ℕ) → IsHeader content Closed blocks first size → length content ≡ 4096 * blocks → blocks ≤ 1048576 → length metadata ≡ size → IsChain (block_at content) first metadata → IsClosed content metadata
closed_file content metadata blocks first size header whole few same chain =
    let count : blocks ≡ length content / 4096 = omega arith in
    record {
      header = rw (← count, header.first, same) header;
      whole = omega arith;
      few = omega arith;
      chain = rw header.first chain;
    }

-- why a header is refused, by the bytes that were read of it
pub refused_header : (fault : OpenFault) (content bytes : List ℕ) → SameStart bytes content → IsNoHeader fault bytes → IsRefused fault content
refused_header NoMemory content bytes s why = absurd why
refused_header DiskFault content bytes s why = absurd why
refused_header NotAStore content bytes s why = (omega (arith, s.long), λ store. why (store_in content bytes (back bytes content s) store))
refused_header NotClosed content bytes s why = (store_in bytes content s why.0, number_in 12 4 bytes content (omega arith) s ∙ why.1)
refused_header Damaged content bytes s why = record {
  store = store_in bytes content s why.0;
  not_open = λ e. why.1 (sym (number_in 12 4 bytes content (omega arith) s) ∙ e);
  not_closed = λ metadata short closed. why.2 _ _ _ (header_in Closed _ _ _ content bytes (back bytes content s) closed.header);
}

-- a file whose header was written as closed, over a chain that it had
pub closes : (first size : ℕ) (old new : List ℕ) → HeaderWritten Closed first size old new → OthersKept 0 (block_at old) (block_at new) → Closes first size old new
closes first size old new written kept metadata same chain =
    record {
      closed = closed_file new metadata (length new / 4096) first size written.header (omega (arith, written.whole)) written.few same (chain_kept (block_at old) (block_at new) first metadata chain kept);
      links = λ i lt. rw written.header.first (same_link (block_at old) (block_at new) first metadata chain kept i (omega arith));
    }

-- a closed file that was read
pub opened_file : (content : List ℕ) (header : Header) (layout : Layout) → IsClosedHeader header content → 0 < header.blocks → header.blocks ≤ 1048576 → header.length ≤ 15000000 → length layout.metadata.items ≡ header.length → length layout.marks ≡ header.blocks
    → ReadsChain content header layout → IsOpened content layout.metadata.items layout.marks
opened_file content header layout head some few short size blocks reads =
    let closed : IsClosed content layout.metadata.items = closed_file content layout.metadata.items header.blocks header.first header.length head.is head.whole few size reads.chain in
    record {
      new_file = λ e. absurd (let none : length content ≡ 0 = ap length e in omega (arith, head.whole));
      closed = λ h. closed;
      short = omega (arith, short, size);
      unique = λ other is.
          let same : length layout.metadata.items ≡ length other = sym closed.header.size ∙ is.header.size in
          same_number_lists _ _ same (λ j lt. closed.chain.bytes j lt ∙ sym (is.chain.bytes j (omega arith)));
      marked = λ h. rw (head.is.first, size) reads.marks;
      blocks = omega (arith, head.whole);
      whole = λ k above inside. inside_whole content k (omega (arith, head.whole));
    }

pub filled_zeros : (at over n count : ℕ) (old new : List ℕ) → n ≡ 4096 → at ≡ length old → over ≡ at % 4096 → 0 < over → Written at (mid_of over (n - over) (replicate n 0)) old new → count ≡ max 1 ((length old + 4095) / 4096) → Filled old new count
filled_zeros at over n count old new e here is_over some done is_count =
    let len = length-mid over (n - over) (replicate n 0) (omega (arith, length-replicate {A = ℕ} n 0)) in
    record {
      whole = omega (arith, done.others.no_longer, done.holds.within);
      count = is_count;
      zeros = λ i le. elim (cases_lt i (at + (n - over))) [
        | inl lt ↦ let there : at + (i - at) ≡ i = omega arith in rw (← there) (done.holds.each (i - at) (omega arith) ∙ zeros_mid over (n - over) n (i - at))
        | inr past ↦ get_or_past new i 0 (omega (arith, done.others.no_longer))
      ];
    }

-- what lies behind the header is as it was, however its write ended
pub torn_behind : (n : ℕ) (old new : List ℕ) → n ≡ 4096 → Torn 0 n old new → (i : ℕ) → 4096 ≤ i → get_or new i 0 ≡ get_or old i 0
torn_behind n old new e torn i le = grind (arith, get_or_past, torn.above i, torn.no_longer)

only_header : (old new : BlocksState) (content synced : List ℕ) → new.content ≡ content → new.synced ≡ synced → new.uses ≡ old.uses → new.size ≡ old.size → new.honest ≡ old.honest → new.overreads ≡ old.overreads → old.uses 0 ≡ 0
    → (IsTrue old.honest → HeaderTorn old.content content) → (IsTrue old.honest → HeaderLast old.content content synced) → OnlyHeader old new
only_header old new content synced is is_synced uses size honest overreads unused torn last = record {
  others = λ h. rw is (same_blocks old.content content (torn h).no_shorter (torn h).kept);
  torn = λ h. rw is (torn h);
  last = λ h. rw (is, is_synced) (last h);
  unused = unused;
  uses = uses;
  overreads = overreads;
  size = size;
  honest = honest;
}

-- the header was not reached
pub only_extends : (old new : BlocksState) (mid : List ℕ) → new.content ≡ mid → new.uses ≡ old.uses → new.size ≡ old.size → new.honest ≡ old.honest → new.overreads ≡ old.overreads → old.uses 0 ≡ 0 → (IsTrue old.honest → Extends old.content mid) → OnlyHeader old new
only_extends old new mid is uses size honest overreads unused extends =
    only_header old new mid new.synced is refl uses size honest overreads unused
    (λ h. let e = extends h in record { no_shorter = e.no_shorter; no_longer = omega (arith, e.no_longer); kept = λ i a b. e.kept i b })
    (λ h i lt inside changed j behind. absurd (changed ((extends h).kept i inside)))

-- the header was written, however that ended, after all the rest was synced
pub only_torn : (n : ℕ) (old new : BlocksState) (mid mid' after synced last : List ℕ) → n ≡ 4096 → new.content ≡ after → new.synced ≡ last → new.uses ≡ old.uses → new.size ≡ old.size → new.honest ≡ old.honest → new.overreads ≡ old.overreads → old.uses 0 ≡ 0
    → (IsTrue old.honest → Extends old.content mid) → mid' ≡ mid → Torn 0 n mid' after → synced ≡ mid → Torn 0 n synced last → OnlyHeader old new
only_torn n old new mid mid' after synced last e is is_last uses size honest overreads unused extends same torn same_synced torn_synced =
    let torn' : Torn 0 n mid after = rw (← same) torn in
    only_header old new after last is is_last uses size honest overreads unused
    (λ h. let x = extends h in record {
      no_shorter = omega (arith, x.no_shorter, torn'.no_shorter);
      no_longer = omega (arith, x.no_longer, torn'.no_longer);
      kept = λ i a b. torn_behind n mid after e torn' i a ∙ x.kept i b;
    })
    (λ h i lt inside changed j behind. torn_behind n synced last e torn_synced j behind ∙ rw same_synced (sym (torn_behind n mid after e torn' j behind)))

-- the header is written over a content of whole blocks
pub header_written : (state : State) (blocks first size : ℕ) (bytes old mid mid' after new : List ℕ) → length old ≤ 4096 * 1048576 → Extends old mid → Filled old mid blocks → mid' ≡ mid → length bytes ≡ 4096
    → IsHeader bytes state blocks first size → TellsVersion Two bytes → Written 0 bytes mid' after → new ≡ after → HeaderWritten state first size old new
header_written state blocks first size bytes old mid mid' after new most extends filled same len header version there is =
    let done = rw same at there in
    let behind = torn_behind (length bytes) mid after len done.others in
    let count : blocks ≡ length after / 4096 = omega (arith, filled.count, filled.whole, done.holds.within, done.others.no_longer) in
    rw is (record {
      header = rw (← count) (header_in state blocks first size bytes after (starts after bytes len done.holds) header);
      version = number_in 8 4 bytes after (omega arith) (starts after bytes len done.holds) ∙ version;
      whole = omega (arith, filled.count, filled.whole, done.holds.within, done.others.no_longer);
      fewest = omega (arith, filled.count, filled.whole, done.holds.within, done.others.no_longer);
      kept = λ i a b. behind i a ∙ extends.kept i b;
      filled = λ i a b. behind i a ∙ filled.zeros i b;
      few = omega (arith, filled.count, filled.whole, done.holds.within, done.others.no_longer);
      inside = λ k whole. omega (arith, whole_inside old k whole, extends.no_shorter, done.others.no_shorter);
    })
