-- A chain of blocks: followed, kept and written.
use Rattle.std.proofs.Common.{add-one, below_more, ◌≡◌, ◌≢◌, ℕ, suc, ◌+◌, ◌-◌, ◌*◌, ◌/◌, ◌%◌, ◌<◌, ◌≤◌, List, length, get_or, set, arith, refl, ap, sym, ◌∙◌, get_or-set_same, get_or-set_other, zero, min}
use Rattle.std.proofs.lemmas.Grind.{elements}
use Rattle.std.proofs.lemmas.List.{get_or_past}
use borrow.Rule.Slice.PartMut.{mid_of}
use Rattle.block_file.specs.State.{block_at, BlocksState, block, one, times, none}
use Rattle.block_file.specs.Format.{next_of, link, chain_blocks, IsChain, number_at}
use Rattle.block_file.specs.Links.{AddsLink, HoldsLink, HoldsLinks}
use Rattle.block_file.specs.Words.{OthersKept, Recounts, Moves, AreLowestFree, HoldsChain}
use Rattle.block_file.proofs.Places.{whole_inside}
use Rattle.block_file.proofs.Times.{one_other, one_place, times_at}

-- the first n blocks of a chain were read, and k is the next
pub record Followed (block : ℕ → List ℕ) (first n k : ℕ) (marks metadata : List ℕ) : Type 0 where
  pub at : k ≡ link block first n
  pub each : (i : ℕ) → i < n → (0 < link block first i) × (length (block (link block first i)) ≡ 4096) × (get_or marks (link block first i) 0 ≡ 4294967295)
  pub distinct : (i j : ℕ) → i < n → j < n → link block first i ≡ link block first j → i ≡ j
  pub others : (j : ℕ) → 0 < j → ((i : ℕ) → i < n → link block first i ≢ j) → get_or marks j 0 ≡ 0
  pub bytes : (j : ℕ) → j < length metadata → get_or metadata j 0 ≡ get_or (block (link block first (j / 4092))) (4 + j % 4092) 0

pub followed_none : (block : ℕ → List ℕ) (first : ℕ) (marks metadata : List ℕ) → ((j : ℕ) → 0 < j → get_or marks j 0 ≡ 0) → length metadata ≡ 0 → Followed block first 0 first marks metadata
unfolding link
followed_none block first marks metadata zeros none = record {
  at = refl;
  each = λ i lt. absurd (omega arith);
  distinct = λ i j li lj e. absurd (omega arith);
  others = λ j above out. zeros j above;
  bytes = λ j lt. absurd (omega arith);
}

added_byte : (block : ℕ → List ℕ) (first n k following part j : ℕ) (old new : List ℕ) → k ≡ link block first n → length old ≡ 4092 * n → part ≤ 4092 → AddsLink (block k) following part old new → length old ≤ j → j < length new → get_or new j 0 ≡ get_or (block (link block first (j / 4092))) (4 + j % 4092) 0
added_byte block first n k following part j old new at full most read le lt =
    let there : length old + (j - length old) ≡ j = omega arith in
    let whole : j / 4092 ≡ n = omega (arith, read.size) in
    let rest : j % 4092 ≡ j - length old = omega (arith, whole) in
    rw (whole, rest, ← at) (rw there at (read.added (j - length old) (omega (arith, read.size))))

pub followed_more : (block : ℕ → List ℕ) (first n k following part : ℕ) (marks old new : List ℕ) → 0 < k → k < length marks → get_or marks k 0 ≡ 0 → length old ≡ 4092 * n → part ≤ 4092 → Followed block first n k marks old → length (block k) ≡ 4096 → AddsLink (block k) following part old new → Followed block first (n + 1) following (set marks k 4294967295) new
unfolding link
followed_more block first n k following part marks old new above inside unmarked full most so_far whole read =
    let at = so_far.at in
    let place : ℕ → ℕ = link block first in
    let out : (i : ℕ) → i < n → place i ≢ k = λ i lt e. let same = ap (λ m. get_or marks m 0) e in let marked = (so_far.each i lt).2 in omega arith in
    record {
      at = rw add-one (read.next ∙ ap (next_of block) at);
      each = below_more (λ i. (0 < place i) × (length (block (place i)) ≡ 4096) × (get_or (set marks k 4294967295) (place i) 0 ≡ 4294967295)) n
          (λ i lt. let was = so_far.each i lt in (was.0, was.1, get_or-set_other marks k (place i) 4294967295 0 (out i lt) ∙ was.2))
          (rw (← at) (above, whole, get_or-set_same marks k 4294967295 0 inside));
      distinct = λ i j li lj. below_more (λ i. place i ≡ place j → i ≡ j) n
          (λ i li. below_more (λ j. place i ≡ place j → i ≡ j) n (λ j lj. so_far.distinct i j li lj) (λ same. absurd (out i li (same ∙ sym at))) j lj)
          (below_more (λ j. place n ≡ place j → n ≡ j) n (λ j lj same. absurd (out j lj (sym same ∙ sym at))) (λ same. refl) j lj) i li;
      others = λ j pos outside.
          get_or-set_other marks k j 4294967295 0 (λ e. outside n (omega arith) (sym at ∙ sym e)) ∙ so_far.others j pos (λ i lt. outside i (omega arith));
      bytes = λ j lt. grind (arith, λ (below : j < length old). read.kept j below ∙ so_far.bytes j below, λ (le : length old ≤ j). added_byte block first n k following part j old new at full most read le lt);
    }

-- a chain that comes to a block that is past the end, the header or one that it met is none
pub refuted : (content : List ℕ) (first n k : ℕ) (marks metadata chained : List ℕ) → length content ≡ 4096 * length marks → (k < length marks → get_or marks k 0 ≡ 0 → ⊥) → n < chain_blocks (length chained) → Followed (block_at content) first n k marks metadata → IsChain (block_at content) first chained → ⊥
refuted content first n k marks metadata chained len refused more so_far chain =
    let inside = whole_inside content (link (block_at content) first n) (chain.whole n more) in
    let above = chain.above_zero n more in
    refused (omega (arith, so_far.at)) (so_far.others k (omega (arith, so_far.at)) (λ i lt e.
    let same = chain.distinct i n (omega arith) more (e ∙ so_far.at) in
    omega arith))

-- a block that a chain has is kept, and the place of the next one with it
pub same_link : (old new : ℕ → List ℕ) (first : ℕ) (metadata : List ℕ) → IsChain old first metadata → OthersKept 0 old new → (i : ℕ) → i ≤ chain_blocks (length metadata) → link new first i ≡ link old first i
unfolding link
same_link old new first metadata chain kept zero le = refl
same_link old new first metadata chain kept (suc i) le =
    ap (number_at 0 4) (ap new (same_link old new first metadata chain kept i (omega arith))
    ∙ kept (link old first i) (let above = chain.above_zero i (omega arith) in omega arith) (chain.whole i (omega arith)))

-- a chain whose blocks are kept
pub chain_kept : (old new : ℕ → List ℕ) (first : ℕ) (metadata : List ℕ) → IsChain old first metadata → OthersKept 0 old new → IsChain new first metadata
chain_kept old new first metadata chain kept =
    let same = same_link old new first metadata chain kept in
    let block = λ (i : ℕ) (lt : i < chain_blocks (length metadata)). ap new (same i (omega arith)) ∙ kept (link old first i) (omega (arith, chain.above_zero i lt)) (chain.whole i lt) in
    record {
      some = chain.some;
      above_zero = λ i lt. rw (same i (omega arith)) (chain.above_zero i lt);
      whole = λ i lt. ap length (block i lt) ∙ chain.whole i lt;
      distinct = λ i j li lj e. chain.distinct i j li lj (sym (same i (omega arith)) ∙ e ∙ same j (omega arith));
      ends = same (chain_blocks (length metadata)) (omega arith) ∙ chain.ends;
      bytes = λ j lt. chain.bytes j lt ∙ ap (λ (b : List ℕ). get_or b (4 + j % 4092) 0) (sym (block (j / 4092) (omega arith)));
    }

-- the first n blocks of a list are written
abbrev pub LinkedTo : ℕ → (ℕ → List ℕ) → List ℕ → List ℕ → Type 0
LinkedTo n block ks metadata = (i : ℕ) → i < n → HoldsLink (block (get_or ks i 0)) i ks metadata

pub part_byte : (from n m j : ℕ) (metadata : List ℕ) → from + n ≤ length metadata → from + n ≡ min (length metadata) (from + m) → j < m → get_or (mid_of from n metadata) j 0 ≡ get_or metadata (from + j) 0
part_byte from n m j metadata fits ends lt = grind (arith, elements, get_or_past)

-- one more block is written
pub linked_more : (n : ℕ) (old new : BlocksState) (bytes ks metadata : List ℕ) → n < length ks → ((k : ℕ) → times ks k ≤ 1) → ((k : ℕ) → 0 < times ks k → old.uses k ≡ 1)
    → LinkedTo n (block old) ks metadata → Moves (one (get_or ks n 0)) (one (get_or ks n 0)) old new → block new (get_or ks n 0) ≡ bytes → HoldsLink bytes n ks metadata → LinkedTo (n + 1) (block new) ks metadata
linked_more n old new bytes ks metadata inside once used so_far moves written made = below_more (λ i. HoldsLink (block new (get_or ks i 0)) i ks metadata) n (λ i below.
    let before = so_far i below in
    let apart : get_or ks n 0 ≢ get_or ks i 0 = λ e. let same = one_place ks n i once inside (omega arith) e in omega arith in
    rw (moves.kept (get_or ks i 0) (omega (arith, one_other (get_or ks n 0) (get_or ks i 0) apart, used (get_or ks i 0) (times_at ks i (omega arith)))) before.whole) before)
    (rw written made)

-- the block at each place of the chain is that of the list, and behind the last comes 0
link_at : (block : ℕ → List ℕ) (ks metadata : List ℕ) → LinkedTo (length ks) block ks metadata → (i : ℕ) → i ≤ length ks → link block (get_or ks 0 0) i ≡ get_or ks i 0
unfolding link
link_at block ks metadata linked zero le = refl
link_at block ks metadata linked (suc i) le =
    let here : link block (get_or ks 0 0) i ≡ get_or ks i 0 = link_at block ks metadata linked i (omega arith) in
    let next : i + 1 ≡ suc i = omega arith in
    ap (next_of block) here ∙ (linked i (omega arith)).next ∙ ap (λ m. get_or ks m 0) next

chain_made : (block : ℕ → List ℕ) (ks metadata : List ℕ) → 0 < length metadata → length ks ≡ chain_blocks (length metadata) → ((k : ℕ) → times ks k ≤ 1) → ((i : ℕ) → i < length ks → 0 < get_or ks i 0) → LinkedTo (length ks) block ks metadata → IsChain block (get_or ks 0 0) metadata
chain_made block ks metadata some count once above linked =
    let at = λ (i : ℕ) (le : i ≤ length ks). link_at block ks metadata linked i le in
    record {
      some = some;
      above_zero = λ i lt. rw (at i (omega arith)) (above i (omega arith));
      whole = λ i lt. rw (at i (omega arith)) (linked i (omega arith)).whole;
      distinct = λ i j li lj e. one_place ks i j once (omega arith) (omega arith) (sym (at i (omega arith)) ∙ e ∙ at j (omega arith));
      ends = ap (link block (get_or ks 0 0)) (sym count) ∙ at (length ks) (omega arith) ∙ get_or_past ks (length ks) 0 (omega arith);
      bytes = λ j lt.
          let inside : j / 4092 < length ks = omega arith in
          let there : 4092 * (j / 4092) + j % 4092 ≡ j = omega arith in
          sym ((linked (j / 4092) inside).part (j % 4092) (omega arith) ∙ ap (λ m. get_or metadata m 0) there)
          ∙ ap (λ k. get_or (block k) (4 + j % 4092) 0) (sym (at (j / 4092) (omega arith)));
    }

-- blocks were taken, a chain was written into them, and they were given back
pub holds_chain : (s0 s1 s2 s3 : BlocksState) (n : ℕ) (ks metadata : List ℕ) → 0 < length metadata → length ks ≡ chain_blocks (length metadata)
    → AreLowestFree n ks s0 → Recounts none (times ks) s0 s1 → Moves (times ks) (times ks) s1 s2 → HoldsLinks ks metadata s2 → Recounts (times ks) none s2 s3
    → HoldsChain (get_or ks 0 0) metadata s3
holds_chain s0 s1 s2 s3 n ks metadata some count free taken written links given =
    rw given.content (record {
      chain = λ honest. chain_made (block s2) ks metadata some count free.once (λ i lt. (free.free (get_or ks i 0) (times_at ks i lt)).above_zero) (links (rw given.honest at honest));
      padded = λ honest i j lt small past.
          let linked = links (rw given.honest at honest) in
          rw (link_at (block s2) ks metadata linked i (omega arith)) ((linked i (omega arith)).part j small ∙ get_or_past metadata (4092 * i + j) 0 past);
      unused = λ honest i lt.
          let k : ℕ = get_or ks i 0 in
          let at = link_at (block s2) ks metadata (links (rw given.honest at honest)) i (omega arith) in
          rw at (omega (arith, given.uses k, written.uses k, taken.uses k, (free.free k (times_at ks i (omega arith))).unused));
    })
