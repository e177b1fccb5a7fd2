-- Marks of blocks, and how they change.
use Rattle.std.proofs.Common.{◌≡◌, ◌≢◌, ℕ, zero, suc, ◌+◌, ◌-◌, ◌<◌, ◌≤◌, inl, inr, List, [], ◌∷◌, ◌++◌, length, get_or, set, take, replicate, arith, refl, ap, sym, ◌∙◌, length-set}
use Rattle.std.proofs.lemmas.Grind.{common_steps, elements, same_number_lists}
use Rattle.std.proofs.lemmas.Bool.Decides.{nat_tests}
use Rattle.std.proofs.lemmas.Bool.{cases_eq}
use Rattle.std.proofs.lemmas.List.{get_or_past, get_or-set_same, get_or-set_other, length-replicate}
use Rattle.block_file.specs.State.{free_up_to, one, times}
use Rattle.block_file.specs.Uses.{use_count, uses_of, IsFresh, AreMarks, NoneFreeBelow, Raises, TakesLowest, CanClaim, Claims}
use Rattle.block_file.proofs.Free.{free_none, free_same, free_one, free_past, free_zero, free_listed}
use Rattle.block_file.proofs.Numbers.{get_or-zeros}
use Rattle.block_file.proofs.Times.{one_same, one_other, times_none, times_push, times_more, times_before}

count_small : (m : ℕ) → m < 4294967295 → use_count m ≡ m
count_small m lt = grind (arith, nat_tests)

count_some : (m : ℕ) → 0 < use_count m → m < 4294967295
count_some m h = grind (arith, nat_tests)

-- the use of a block behind the header
pub uses-at : (marks : List ℕ) (k : ℕ) → 0 < k → uses_of marks k ≡ use_count (get_or marks k 0)
uses-at marks zero h = absurd (omega arith)
uses-at marks (suc k) h = refl

pub uses_same : (old new : List ℕ) (k : ℕ) → get_or new k 0 ≡ get_or old k 0 → uses_of new k ≡ uses_of old k
uses_same old new zero e = refl
uses_same old new (suc k) e = ap use_count e

-- what is known of a block in use
pub record IsUsed (marks : List ℕ) (k : ℕ) : Type 0 where
  pub above_zero : 0 < k
  pub inside : k < length marks
  pub plain : uses_of marks k ≡ get_or marks k 0
  pub small : get_or marks k 0 < 4294967295

pub is_used : (marks : List ℕ) (k : ℕ) → 0 < uses_of marks k → IsUsed marks k
is_used marks zero h = absurd (omega arith)
is_used marks (suc k) h =
    let small = count_some (get_or marks (suc k) 0) h in
    let plain = count_small (get_or marks (suc k) 0) small in
    record { above_zero = omega arith; inside = grind (arith, get_or_past); plain = plain; small = small }

-- a free block is none of those below which none is
free_above : (lowest k : ℕ) (marks : List ℕ) → NoneFreeBelow lowest marks → 0 < k → uses_of marks k ≡ 0 → lowest ≤ k
free_above lowest k marks below above free = grind (arith, below.used k above)

-- what is known of a block that has no mark
pub unmarked : (marks : List ℕ) (free lowest k : ℕ) → AreMarks marks free lowest → get_or marks k 0 ≡ 0 → (0 < k) × (uses_of marks k ≡ 0) × (lowest ≤ k)
unmarked marks free lowest zero is none = absurd (omega (arith, is.header))
unmarked marks free lowest (suc k) is none =
    let unused : uses_of marks (suc k) ≡ 0 = ap use_count none in
    (omega arith, unused, free_above lowest (suc k) marks is.below (omega arith) unused)

-- a block behind the header is marked anew
uses_here : (marks : List ℕ) (k m : ℕ) → 0 < k → k < length marks → uses_of (set marks k m) k ≡ use_count m
uses_here marks k m above inside = uses-at (set marks k m) k above ∙ ap use_count (get_or-set_same marks k m 0 inside)

uses_others : (marks : List ℕ) (k m j : ℕ) → j ≢ k → uses_of (set marks k m) j ≡ uses_of marks j
uses_others marks k m j ne = uses_same marks (set marks k m) j (get_or-set_other marks k j m 0 ne)

pub below_set : (marks : List ℕ) (lowest next k m : ℕ) → NoneFreeBelow lowest marks → 0 < k → k < length marks → 0 < next → next ≤ lowest → (k < next → 0 < use_count m) → NoneFreeBelow next (set marks k m)
below_set marks lowest next k m is above inside some fewer here = record {
  above_zero = some;
  within = omega (arith, is.within, length-set marks k m);
  used = λ j a b. grind (arith, uses_here marks k m above inside, here, uses_others marks k m j, is.used j a);
}

pub marked : (marks : List ℕ) (free left lowest next k m : ℕ) → AreMarks marks free lowest → 0 < k → k < length marks → left + (1 - uses_of marks k) ≡ free + (1 - use_count m)
    → 0 < next → next ≤ lowest → (k < next → 0 < use_count m) → AreMarks (set marks k m) left next
marked marks free left lowest next k m is above inside counts some fewer here =
    let others = free_one 1048575 k (uses_of marks) (uses_of (set marks k m)) above (omega (arith, is.few)) (uses_others marks k m) in
    record {
      header = get_or-set_other marks k 0 m 0 (omega arith) ∙ is.header;
      few = omega (arith, is.few, length-set marks k m);
      counted = omega (arith, counts, is.counted, others, uses_here marks k m above inside);
      below = below_set marks lowest next k m is.below above inside some fewer here;
    }

-- a use less of a block
pub lowered : (marks : List ℕ) (free left lowest next k m : ℕ) → AreMarks marks free lowest → 0 < uses_of marks k → m + 1 ≡ get_or marks k 0 → left ≡ free + (1 - m)
    → 0 < next → next ≤ lowest → (k < next → 0 < m) → AreMarks (set marks k m) left next
lowered marks free left lowest next k m is h e counts some fewer here =
    let u = is_used marks k h in
    let count = count_small m (omega (arith, u.small)) in
    marked marks free left lowest next k m is u.above_zero u.inside (omega (arith, counts, count, h)) some fewer (λ lt. omega (arith, here lt, count))

-- a use more of a block in use
pub raised : (marks : List ℕ) (free lowest k m : ℕ) → AreMarks marks free lowest → 0 < uses_of marks k → m ≡ get_or marks k 0 + 1 → m < 4294967295 → AreMarks (set marks k m) free lowest
raised marks free lowest k m is h e small =
    let u = is_used marks k h in
    let count = count_small m small in
    marked marks free free lowest lowest k m is u.above_zero u.inside (omega (arith, count, h)) is.below.above_zero (omega arith) (λ lt. omega (arith, count))

pub uses_raised : (marks : List ℕ) (k m : ℕ) → 0 < uses_of marks k → m ≡ get_or marks k 0 + 1 → m < 4294967295 → (j : ℕ) → uses_of (set marks k m) j ≡ uses_of marks j + one k j
uses_raised marks k m h e small j =
    let u = is_used marks k h in
    elim (cases_eq k j) [
      | inl same ↦ rw (← same) (omega (arith, uses_here marks k m u.above_zero u.inside, count_small m small, u.plain, one_same k))
      | inr ne ↦ omega (arith, uses_others marks k m j (λ x. ne (sym x)), one_other k j ne)
    ]

pub fresh_kept : (marks : List ℕ) (k : ℕ) → 0 < k → k < length marks → IsFresh marks → IsFresh (set marks k 4294967295)
fresh_kept marks k above inside fresh j = grind (arith, uses_here marks k 4294967295 above inside, uses_others marks k 4294967295 j, fresh j)

-- blocks without a mark are in no use
pub fresh_of : (marks : List ℕ) → ((k : ℕ) → 0 < k → get_or marks k 0 ≡ 0) → IsFresh marks
fresh_of marks none zero = refl
fresh_of marks none (suc k) = ap use_count (none (suc k) (omega arith))

-- marks for blocks of which none is in use
pub blank_marks : (n : ℕ) (marks : List ℕ) → marks ≡ set (replicate n 0) 0 1 → 0 < n → n ≤ 1048576 → AreMarks marks 1048575 1
blank_marks n marks is some few =
    let len : length marks ≡ n = ap length is ∙ length-set (replicate n 0) 0 1 ∙ length-replicate {A = ℕ} n 0 in
    let none : (k : ℕ) → 0 < k → get_or marks k 0 ≡ 0 = λ k above. rw is (get_or-set_other (replicate n 0) 0 k 1 0 (omega arith) ∙ get_or-zeros n k) in
    record {
      header = rw is (get_or-set_same (replicate n 0) 0 1 0 (omega (arith, length-replicate {A = ℕ} n 0)));
      few = omega arith;
      counted = omega (arith, free_past 0 1048575 (uses_of marks) (omega arith) (λ k a b. fresh_of marks none k), free_none (uses_of marks));
      below = record { above_zero = omega arith; within = omega arith; used = λ k a b. absurd (omega arith) };
    }

-- marks of blocks behind the last
pub record IsGrown (free lowest to : ℕ) (old new : List ℕ) : Type 0 where
  pub are : AreMarks new free lowest
  pub uses : (k : ℕ) → uses_of new k ≡ uses_of old k
  pub count : length new ≡ to

pub grown : (marks new : List ℕ) (free lowest len to : ℕ) → AreMarks marks free lowest → len ≡ length marks → new ≡ take to marks ++ replicate (to - len) 0 → length marks ≤ to → to ≤ 1048576 → IsGrown free lowest to marks new
grown marks new free lowest len to is same e le few =
    let at : (k : ℕ) → get_or new k 0 ≡ get_or marks k 0 = λ k. rw (e, same) (grind (arith, elements, get_or_past)) in
    let count : length new ≡ to = rw e (grind (arith, common_steps)) in
    let uses : (k : ℕ) → uses_of new k ≡ uses_of marks k = λ k. uses_same marks new k (at k) in
    record {
      are = record {
        header = at 0 ∙ is.header;
        few = omega arith;
        counted = is.counted ∙ sym (free_same 1048575 (uses_of marks) (uses_of new) (λ k a b. ap (λ n. 1 - n) (uses k)));
        below = record { above_zero = is.below.above_zero; within = omega (arith, is.below.within); used = λ k a b. omega (arith, uses k, is.below.used k a b) };
      };
      uses = uses;
      count = count;
    }

-- of the free blocks those that have a mark, and those behind
pub free_inside : (marks : List ℕ) → 0 < length marks → length marks ≤ 1048576 → free_up_to 1048575 (uses_of marks) ≡ free_up_to (length marks - 1) (uses_of marks) + (1048576 - length marks)
free_inside marks some few =
    let past = λ (k : ℕ) (a : length marks - 1 < k). uses-at marks k (omega arith) ∙ ap use_count (get_or_past marks k 0 (omega arith)) in
    omega (arith, free_past (length marks - 1) 1048575 (uses_of marks) (omega arith) (λ k a b. past k a))

-- what holds of each block listed, with one more
none_listed : (P : ℕ → Type 0) (k : ℕ) → 0 < times [] k → P k
none_listed P k h = absurd (omega (arith, times_none k))

each_more : (P : ℕ → Type 0) (counts more : ℕ → ℕ) (k : ℕ) → ((j : ℕ) → more j ≡ counts j + one k j) → ((j : ℕ) → 0 < counts j → P j) → P k → (j : ℕ) → 0 < more j → P j
each_more P counts more k grows before here j h = elim (cases_eq k j) [ inl e ↦ rw (← e) here | inr ne ↦ before j (omega (arith, grows j, one_other k j ne)) ]

once_more : (counts more : ℕ → ℕ) (k : ℕ) → ((j : ℕ) → more j ≡ counts j + one k j) → ((j : ℕ) → counts j ≤ 1) → counts k ≡ 0 → (j : ℕ) → more j ≤ 1
once_more counts more k grows once none j = elim (cases_eq k j) [ inl e ↦ rw (← e) (omega (arith, grows k, one_same k)) | inr ne ↦ omega (arith, grows j, one_other k j ne, once j) ]

pub taken_none : (marks : List ℕ) → TakesLowest [] marks marks
taken_none marks = record {
  once = λ k. omega (arith, times_none k);
  inside = none_listed _;
  free = none_listed _;
  lowest = λ k j h. absurd (omega (arith, times_none k));
  are_used = none_listed _;
  others = λ k h. refl;
  blocks = refl;
}

-- the next block is free
pub taken_more : (k : ℕ) (ks old new : List ℕ) → TakesLowest ks old new → NoneFreeBelow k new → k < length new → use_count (get_or new k 0) ≡ 0 → TakesLowest (ks ++ k ∷ []) old (set new k 1)
taken_more k ks old new t below inside unused =
    let more : ℕ → ℕ = times (ks ++ k ∷ []) in
    let grows : (j : ℕ) → more j ≡ times ks j + one k j = times_push ks k in
    let used : (j : ℕ) → 0 < times ks j → use_count (get_or new j 0) ≡ 1 = λ j h. ap use_count (t.are_used j h) in
    let none : times ks k ≡ 0 = elim (cases_eq (times ks k) 0) [ inl none ↦ none | inr some ↦ absurd (omega (arith, used k (omega arith))) ] in
    let other : (j : ℕ) → more j ≡ 0 → j ≢ k = λ j none e. let here : more k ≡ 0 = rw e at none in omega (arith, grows k, one_same k) in
    record {
      once = once_more (times ks) more k grows t.once none;
      inside = each_more _ (times ks) more k grows t.inside (below.above_zero, omega (arith, t.blocks));
      free = each_more _ (times ks) more k grows t.free (uses-at old k below.above_zero ∙ ap use_count (sym (t.others k none)) ∙ unused);
      lowest = λ i j h above free out. each_more (λ i. i < j) (times ks) more k grows (λ i h. t.lowest i j h above free (omega (arith, grows j)))
          (let le = free_above k j new below above (uses_same old new j (t.others j (omega (arith, grows j))) ∙ free) in omega (arith, other j out)) i h;
      are_used = each_more _ (times ks) more k grows (λ j h. get_or-set_other new k j 1 0 (λ e. let here = rw e at h in omega arith) ∙ t.are_used j h) (get_or-set_same new k 1 0 inside);
      others = λ j h. get_or-set_other new k j 1 0 (other j h) ∙ t.others j (omega (arith, grows j));
      blocks = length-set new k 1 ∙ t.blocks;
    }

pub below_more : (k : ℕ) (marks : List ℕ) → NoneFreeBelow k marks → k < length marks → use_count (get_or marks k 0) ≢ 0 → NoneFreeBelow (k + 1) marks
below_more k marks below inside used = record {
  above_zero = omega arith;
  within = omega arith;
  used = λ j a b. elim (cases_eq j k) [ inl e ↦ rw e (omega (arith, uses-at marks k below.above_zero, used)) | inr ne ↦ below.used j a (omega arith) ];
}

pub below_taken : (k : ℕ) (marks : List ℕ) → NoneFreeBelow k marks → k < length marks → NoneFreeBelow (k + 1) (set marks k 1)
below_taken k marks below inside =
    let above = below.above_zero in
    below_more k (set marks k 1) (below_set marks k k k 1 below above inside above (omega arith) (λ lt. absurd (omega arith))) (omega (arith, length-set marks k 1)) (rw (get_or-set_same marks k 1 0 inside) (omega arith))

pub taken_uses : (ks old new : List ℕ) → TakesLowest ks old new → (k : ℕ) → uses_of new k ≡ uses_of old k + times ks k
taken_uses ks old new t k =
    let unlisted = λ (none : times ks k ≡ 0). uses_same old new k (t.others k none) in
    let listed = λ (some : 0 < times ks k). uses-at new k (t.inside k some).0 ∙ ap use_count (t.are_used k some) in
    grind (arith, unlisted, listed, t.free k, t.once k)

taken_free : (n : ℕ) (ks old new : List ℕ) → TakesLowest ks old new → length old ≤ n + 1 → free_up_to n (uses_of new) + length ks ≡ free_up_to n (uses_of old)
taken_free n ks old new t few =
    free_listed n ks (uses_of old) (uses_of new) (taken_uses ks old new t) t.once (λ k h. let at = t.inside k h in (at.0, (let lt = at.1 in omega arith), t.free k h))

-- where no block is left that is free, enough were taken
pub taken_all : (k n : ℕ) (ks old new : List ℕ) → TakesLowest ks old new → NoneFreeBelow k new → length new ≤ k → n ≤ free_up_to (length old - 1) (uses_of old) → n ≤ length ks
taken_all k n ks old new t below past enough =
    let none = free_zero (length old - 1) (uses_of new) (λ j a b. below.used j a (omega (arith, t.blocks))) in
    omega (arith, none, taken_free (length old - 1) ks old new t (omega arith))

pub taken_marks : (free lowest next : ℕ) (ks old new : List ℕ) → AreMarks old free lowest → TakesLowest ks old new → NoneFreeBelow next new → AreMarks new (free - length ks) next
taken_marks free lowest next ks old new is t below =
    let header : times ks 0 ≡ 0 = elim (cases_eq (times ks 0) 0) [ inl none ↦ none | inr some ↦ absurd (let at = (t.inside 0 (omega arith)).0 in omega arith) ] in
    record {
      header = t.others 0 header ∙ is.header;
      few = omega (arith, t.blocks, is.few);
      counted = omega (arith, is.counted, taken_free 1048575 ks old new t is.few);
      below = below;
    }

-- while blocks are given back one at a time, the next one is in use
pub still_used : (old now ks : List ℕ) (i : ℕ) → i < length ks → ((k : ℕ) → times ks k ≤ uses_of old k) → ((k : ℕ) → get_or now k 0 + times (take i ks) k ≡ get_or old k 0) → 0 < uses_of now (get_or ks i 0)
still_used old now ks i h covers given =
    let k : ℕ = get_or ks i 0 in
    let u = is_used old k (omega (arith, covers k, times_before ks i h)) in
    omega (arith, times_before ks i h, given k, covers k, u.plain, uses-at now k u.above_zero, count_small (get_or now k 0) (omega (arith, given k, u.small)))

pub claims_none : (marks : List ℕ) → Claims [] marks marks
claims_none marks = record {
  could = record { once = λ k. omega (arith, times_none k); above_zero = none_listed _; inside = none_listed _; unmarked = none_listed _ };
  blocks = refl;
  marks = λ k. omega (arith, times_none k);
}

pub claims_more : (ks old now new : List ℕ) (i : ℕ) → i < length ks → Claims (take i ks) old now → 0 < get_or ks i 0 → get_or ks i 0 < length now → get_or now (get_or ks i 0) 0 ≡ 0 → length new ≡ length now
    → ((j : ℕ) → get_or new j 0 ≡ get_or now j 0 + one (get_or ks i 0) j) → Claims (take (i + 1) ks) old new
claims_more ks old now new i h c above inside none len marks =
    let k : ℕ = get_or ks i 0 in
    let counts : ℕ → ℕ = times (take i ks) in
    let more : ℕ → ℕ = times (take (i + 1) ks) in
    let grows : (j : ℕ) → more j ≡ counts j + one k j = λ j. times_more ks i j h in
    record {
      could = record {
        once = once_more counts more k grows c.could.once (omega (arith, c.marks k));
        above_zero = each_more _ counts more k grows c.could.above_zero above;
        inside = each_more _ counts more k grows c.could.inside (omega (arith, c.blocks));
        unmarked = each_more _ counts more k grows c.could.unmarked (omega (arith, c.marks k));
      };
      blocks = len ∙ c.blocks;
      marks = λ j. omega (arith, marks j, c.marks j, grows j);
    }

-- blocks cannot be claimed one of which is past the end or marked
pub cannot_claim : (ks old now : List ℕ) (i : ℕ) → i < length ks → Claims (take i ks) old now → (get_or ks i 0 < length now → get_or now (get_or ks i 0) 0 ≡ 0 → ⊥) → CanClaim ks old → ⊥
cannot_claim ks old now i h c refused can =
    let k : ℕ = get_or ks i 0 in
    let before = times_before ks i h in
    refused (omega (arith, can.inside k (omega arith), c.blocks)) (omega (arith, c.marks k, can.unmarked k (omega arith), can.once k))

pub unclaimed : (ks old now new : List ℕ) → Claims ks old now → length new ≡ length now → ((k : ℕ) → get_or new k 0 + times ks k ≡ get_or now k 0) → new ≡ old
unclaimed ks old now new c len given = same_number_lists new old (len ∙ c.blocks) (λ i lt. omega (arith, given i, c.marks i))

-- a block that has no mark is claimed
pub claimed : (marks : List ℕ) (free lowest k : ℕ) → AreMarks marks free lowest → k < length marks → get_or marks k 0 ≡ 0 → (0 < free) × AreMarks (set marks k 1) (free - 1) lowest
claimed marks free lowest k is inside none =
    let u = unmarked marks free lowest k is none in
    let less = free_one 1048575 k (uses_of marks) (uses_of (set marks k 1)) u.0 (omega (arith, is.few)) (uses_others marks k 1) in
    let some : 0 < free = omega (arith, is.counted, less, u.1, uses_here marks k 1 u.0 inside) in
    (some, marked marks free (free - 1) lowest lowest k 1 is u.0 inside (omega (arith, u.1)) is.below.above_zero (omega arith) (λ lt. omega arith))

-- uses are counted for the blocks of a list one at a time, and may be taken back
pub raises_none : (marks : List ℕ) → Raises [] marks marks
raises_none marks = record { marks = λ k. omega (arith, times_none k); uses = λ k. omega (arith, times_none k); blocks = refl }

pub raises_more : (ks old now new : List ℕ) (i : ℕ) → i < length ks → Raises (take i ks) old now → length new ≡ length now
    → ((j : ℕ) → get_or new j 0 ≡ get_or now j 0 + one (get_or ks i 0) j) → ((j : ℕ) → uses_of new j ≡ uses_of now j + one (get_or ks i 0) j) → Raises (take (i + 1) ks) old new
raises_more ks old now new i h r len marks uses = record {
  marks = λ j. omega (arith, marks j, r.marks j, times_more ks i j h);
  uses = λ j. omega (arith, uses j, r.uses j, times_more ks i j h);
  blocks = len ∙ r.blocks;
}

pub lowers : (ks old now new : List ℕ) → Raises ks old now → length new ≡ length now → ((k : ℕ) → get_or new k 0 + times ks k ≡ get_or now k 0) → new ≡ old
lowers ks old now new r len given = same_number_lists new old (len ∙ r.blocks) (λ i lt. omega (arith, given i, r.marks i))
