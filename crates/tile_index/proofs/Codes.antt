-- The bytes of numbers, entries and indexes can be told apart with whatever follows them.
use Rattle.std.proofs.Common.{◌≡◌, ℕ, ◌+◌, ◌*◌, ◌<◌, ◌≤◌, ◌^◌, List, [], ◌∷◌, ◌++◌, length, flat_map, refl, sym, ap, ap₂, subst, ◌∙◌, arith, append_assoc, append-nil, length-append, All}
use Rattle.std.proofs.lemmas.List.{get_or_at, get_or_append_left, flat_map_more}
use Rattle.file_bytes.specs.Codes.{IsPrefixCode, IsRead}
use Rattle.file_bytes.proofs.Numbers.{same-numbers}
use Rattle.file_bytes.proofs.Codes.{begins, same-lists}
use Rattle.tile_index.specs.declared.entry.Entry.{Entry}
use Rattle.file_bytes.specs.declared.form.Form.{Form}
use Rattle.file_bytes.specs.declared.form.Form.TheVariants.{Runs, Raw}
use Rattle.file_bytes.specs.Limits.{blocks_filled}
use Rattle.tile_index.specs.Entries.{most_bytes}
use Rattle.tile_index.specs.Index.{IsPair, ArePairs, AreSoMany, IsIndex}
use Rattle.tile_index.specs.Bytes.{number_bytes, length_number, entry_bytes, index_bytes}

number-code : IsPrefixCode (λ n. n < 2 ^ 32) number_bytes
number-code x y a b hx hy e = same-numbers 4 x y a b hx hy e

pub length-numbers : (xs : List ℕ) → length (flat_map number_bytes xs) ≡ 4 * length xs
length-numbers [] = refl
length-numbers (x ∷ xs) = let ih = length-numbers xs in omega (arith, ih)

-- how many bytes the entry of a tile has
pub entry_length : (x : ℕ × Entry) → length (entry_bytes x) ≡ 8 + 4 * length x.1.blocks
unfolding entry_bytes
entry_length x =
    let numbers = number_bytes (length_number x.1.form x.1.length) ++ flat_map number_bytes x.1.blocks in
    omega (arith, length-append (number_bytes x.0) numbers, length-append (number_bytes (length_number x.1.form x.1.length)) (flat_map number_bytes x.1.blocks), length-numbers x.1.blocks)

pub entry-parts : (x : ℕ × Entry) (rest : List ℕ) → entry_bytes x ++ rest ≡ number_bytes x.0 ++ (number_bytes (length_number x.1.form x.1.length) ++ (flat_map number_bytes x.1.blocks ++ rest))
unfolding entry_bytes
entry-parts x rest = refl

pub index-parts : (index : List (ℕ × Entry)) → index_bytes index ≡ number_bytes (length index) ++ flat_map entry_bytes index
unfolding index_bytes
index-parts index = refl

-- lengths are small, and their numbers tell them and their forms
pub small-length : (f : Form) (n : ℕ) → n ≤ most_bytes f → n < 2 ^ 31
small-length Runs n h = omega arith
small-length Raw n h = omega arith

pub small-number : (f : Form) (n : ℕ) → n ≤ most_bytes f → length_number f n < 2 ^ 32
small-number Runs n h = omega arith
small-number Raw n h = omega arith

pub same-length : (f g : Form) (m n : ℕ) → m < 2 ^ 31 → n < 2 ^ 31 → length_number f m ≡ length_number g n → (f ≡ g) × (m ≡ n)
same-length Runs Runs m n h k e = (refl, e)
same-length Runs Raw m n h k e = absurd (omega arith)
same-length Raw Runs m n h k e = absurd (omega arith)
same-length Raw Raw m n h k e = (refl, omega arith)

-- what a number in front says of an entry, and what two do
pub one-number : (tile : ℕ) (old left : List ℕ) (x : ℕ × Entry) (rest : List ℕ) → IsRead (λ n. n < 2 ^ 32) number_bytes old tile left → IsPair x → old ≡ entry_bytes x ++ rest → (x.0 ≡ tile) × (number_bytes (length_number x.1.form x.1.length) ++ (flat_map number_bytes x.1.blocks ++ rest) ≡ left)
one-number tile old left x rest r v e =
    r.only x.0 (number_bytes (length_number x.1.form x.1.length) ++ (flat_map number_bytes x.1.blocks ++ rest)) v.0 (e ∙ entry-parts x rest)

pub two-numbers : (tile n : ℕ) (old mid left : List ℕ) (x : ℕ × Entry) (rest : List ℕ) → IsRead (λ n. n < 2 ^ 32) number_bytes old tile mid → IsRead (λ n. n < 2 ^ 32) number_bytes mid n left → IsPair x → old ≡ entry_bytes x ++ rest → (length_number x.1.form x.1.length ≡ n) × (flat_map number_bytes x.1.blocks ++ rest ≡ left)
two-numbers tile n old mid left x rest r s v e =
    s.only (length_number x.1.form x.1.length) (flat_map number_bytes x.1.blocks ++ rest) (small-number x.1.form x.1.length v.1.few) (sym (one-number tile old mid x rest r v e).1)

pub entry-code : IsPrefixCode IsPair entry_bytes
entry-code x y a b hx hy e =
    let fx = hx.1.few in
    let fy = hy.1.few in
    let sx = small-length x.1.form x.1.length fx in
    let sy = small-length y.1.form y.1.length fy in
    let tile = same-numbers 4 x.0 y.0 _ _ hx.0 hy.0 (sym (entry-parts x a) ∙ e ∙ entry-parts y b) in
    let told = same-numbers 4 (length_number x.1.form x.1.length) (length_number y.1.form y.1.length) _ _ (small-number x.1.form x.1.length fx) (small-number y.1.form y.1.length fy) tile.1 in
    let size = same-length x.1.form y.1.form x.1.length y.1.length sx sy told.0 in
    let blocks = same-lists (λ n. n < 2 ^ 32) number_bytes number-code x.1.blocks y.1.blocks a b hx.1.numbers hy.1.numbers (hx.1.filled ∙ ap blocks_filled size.1 ∙ sym hy.1.filled) told.1 in
    let front : x.1 ≡ record { form = y.1.form; length = y.1.length; blocks = x.1.blocks } = ap₂ (λ (f : Form) (n : ℕ). record { form = f; length = n; blocks = x.1.blocks }) size.0 size.1 in
    let entry : x.1 ≡ y.1 = front ∙ ap (λ (bs : List ℕ). record { form = y.1.form; length = y.1.length; blocks = bs }) blocks.0 in
    (ap₂ (λ (n : ℕ) (d : Entry). (n, d)) tile.0 entry, blocks.1)

-- Where the bytes of some pairs begin with those of fewer pairs, a later pair comes next.
pub record Next (read : List (ℕ × Entry)) (left : List ℕ) : Type 0 where
  pub next : ℕ × Entry
  pub after : List ℕ
  pub pair : IsPair next
  pub later : All (λ (x : ℕ × Entry). x.0 < next.0) read
  pub left_is : left ≡ entry_bytes next ++ after

pub next-pair : (read pairs : List (ℕ × Entry)) (left rest : List ℕ) → All IsPair read → ArePairs pairs → length read < length pairs → flat_map entry_bytes read ++ left ≡ flat_map entry_bytes pairs ++ rest → Next read left
next-pair read pairs left rest r p l e =
    let s = begins IsPair entry_bytes entry-code read pairs left rest r p.each (omega arith) e in
    at s.others s.parts s.left_is
  where
    at : (others : List (ℕ × Entry)) → pairs ≡ read ++ others → left ≡ flat_map entry_bytes others ++ rest → Next read left
    at [] q s = absurd (omega (arith, ap length q, length-append read []))
    at (y ∷ more) q s =
        let ps : ArePairs (read ++ y ∷ more) = subst ArePairs q p in
        let here = get_or_at read y more y (length read) refl in
        let long = length-append read (y ∷ more) in
        record {
          next = y;
          after = flat_map entry_bytes more ++ rest;
          pair = subst IsPair here (ps.each (length read) y (omega arith));
          later = λ k d h.
              let low = ps.rising k (length read) d h (omega arith) in
              omega (arith, ap (λ (x : ℕ × Entry). x.0) (get_or_append_left read (y ∷ more) d k h), ap (λ (x : ℕ × Entry). x.0) (get_or_at read y more d (length read) refl));
          left_is = s ∙ append_assoc (entry_bytes y) (flat_map entry_bytes more) rest;
        }

-- one pair more
pub one-more : (xs : List (ℕ × Entry)) (x : ℕ × Entry) (bytes left rest : List ℕ) → bytes ≡ flat_map entry_bytes xs ++ left → left ≡ entry_bytes x ++ rest → bytes ≡ flat_map entry_bytes (xs ++ x ∷ []) ++ rest
one-more xs x bytes left rest e f =
    e ∙ ap (λ (bs : List ℕ). flat_map entry_bytes xs ++ bs) f ∙ sym (append_assoc (flat_map entry_bytes xs) (entry_bytes x) rest) ∙ ap (λ (bs : List ℕ). bs ++ rest) (flat_map_more entry_bytes [] xs x)

-- what the count in front says of an index
pub whole : (count : ℕ) (bytes old mid : List ℕ) (index : List (ℕ × Entry)) → old ≡ bytes → IsRead (λ n. n < 2 ^ 32) number_bytes old count mid → IsIndex index → bytes ≡ index_bytes index → AreSoMany count index × (mid ≡ flat_map entry_bytes index ++ [])
whole count bytes old mid index o r v e =
    let one = r.only (length index) (flat_map entry_bytes index) v.few (o ∙ e ∙ index-parts index) in
    ((one.0, v.pairs), sym one.1 ∙ sym (append-nil (flat_map entry_bytes index)))

-- the pairs that were read are those of the index, and nothing is left
pub only-index : (count : ℕ) (bytes old mid left : List ℕ) (read index : List (ℕ × Entry)) → old ≡ bytes → IsRead (λ n. n < 2 ^ 32) number_bytes old count mid → mid ≡ flat_map entry_bytes read ++ left → AreSoMany count read → IsIndex index → bytes ≡ index_bytes index → (index ≡ read) × ([] ≡ left)
only-index count bytes old mid left read index o r g s v e =
    let w = whole count bytes old mid index o r v e in
    same-lists IsPair entry_bytes entry-code index read [] left v.pairs.each s.1.each (w.0.0 ∙ sym s.0) (sym w.1 ∙ g)
