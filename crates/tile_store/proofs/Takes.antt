-- Blocks that are taken, written and given back.
use Rattle.std.proofs.Common.{◌≡◌, ℕ, ◌<◌, zero, suc, ◌+◌, ◌-◌, ◌≤◌, inl, inr, IsTrue, List, [], ◌++◌, length, length-append, arith, refl, ◌∙◌, ap, Err, Result, IsErrOf}
use Rattle.std.proofs.lemmas.Bool.{cases_eq}
use Rattle.block_file.specs.State.{BlocksState, block, block_at, free_up_to, free_of, times, none}
use Rattle.block_file.specs.Words.{OnlyReads, Recounts, Moves, Covers, AreLowestFree}
use Rattle.block_file.specs.Growth.{AreWithin, EndsWith, occupied}
use Rattle.block_file.proofs.Times.{times_none, times_append}
use Rattle.block_file.proofs.Frames.{unmoved, moves_then, moves_as}
use Rattle.block_file.proofs.Free.{free_none, free-suc, free_listed, free_same}
use Rattle.tile_store.specs.declared.fault.Fault.{Fault}
use Rattle.tile_store.specs.Faults.{Refuses}
use Rattle.tile_store.specs.Listing.{UsesOnce, Takes}
use Rattle.tile_store.specs.Written.{AreUnused}

-- the lowest free blocks were taken
free_taken : (n : ℕ) (ks : List ℕ) (old new : BlocksState) → Recounts none (times ks) old new → AreLowestFree n ks old → free_of new + n ≡ free_of old
free_taken n ks old new taken lowest =
    let listed = free_listed (old.size - 1) ks old.uses new.uses (λ k. omega (arith, taken.uses k)) lowest.once
    (λ k h. let free = lowest.free k h in let within = free.within in (free.above_zero, omega arith, free.unused)) in
    rw taken.size (omega (arith, lowest.count, listed))

-- blocks were written
free_kept : (old new : BlocksState) → ((k : ℕ) → new.uses k ≡ old.uses k) → new.size ≡ old.size → free_of new ≡ free_of old
free_kept old new same size = rw size (free_same (old.size - 1) old.uses new.uses (λ k a b. let e = same k in omega arith))

pub free_read : {asked : ℕ → ℕ} (old new : BlocksState) → OnlyReads asked old new → free_of new ≡ free_of old
free_read old new r = rw (r.size, r.uses) refl

-- nothing was taken
pub takes_none : (taken : List ℕ) (old new : BlocksState) → OnlyReads none old new → Takes taken taken old new
takes_none taken old new reads = record {
  more = λ k. omega arith;
  moves = moves_as none none none (λ k. times taken k - times taken k) old new (λ k. omega arith) (λ k h. h) (unmoved none none old new (λ k. rw reads.uses refl) reads.content (reads.overreads (λ h k some. absurd (omega (arith, some)))) reads.size reads.honest);
  once = λ k. rw reads.uses (omega arith);
  free = omega (arith, free_read old new reads);
  longer = omega arith;
  grows = rw reads.content (omega arith);
}

pub reads_same : (asked : ℕ → ℕ) (s : BlocksState) → OnlyReads asked s s
reads_same asked s = record { content = refl; synced = refl; uses = refl; size = refl; honest = refl; overreads = λ whole. refl }

pub takes_then : (t0 t1 t2 : List ℕ) (s0 s1 s2 : BlocksState) → Takes t0 t1 s0 s1 → Takes t1 t2 s1 s2 → Takes t0 t2 s0 s2
takes_then t0 t1 t2 s0 s1 s2 a b = record {
  more = λ k. omega (arith, a.more k, b.more k);
  moves = moves_as (λ k. none k + none k) (λ k. (times t1 k - times t0 k) + (times t2 k - times t1 k)) none (λ k. times t2 k - times t0 k) s0 s2
      (λ k. omega (arith, a.more k, b.more k)) (λ k h. omega (arith, h)) (moves_then none (λ k. times t1 k - times t0 k) none (λ k. times t2 k - times t1 k) s0 s1 s2 a.moves b.moves);
  once = λ k. omega (arith, a.once k, b.once k);
  free = omega (arith, a.free, b.free);
  longer = omega (arith, a.longer, b.longer);
  grows = omega (arith, a.grows, b.grows, a.free, a.longer, b.longer, a.moves.size);
}

-- after a read
pub takes_read : (t0 t1 t2 : List ℕ) (s0 s1 s2 s3 : BlocksState) → Takes t0 t1 s0 s1 → OnlyReads none s1 s2 → Takes t1 t2 s2 s3 → Takes t0 t2 s0 s3
takes_read t0 t1 t2 s0 s1 s2 s3 a reads b = takes_then t0 t1 t2 s0 s1 s3 a (takes_then t1 t1 t2 s1 s2 s3 (takes_none t1 s1 s2 reads) b)

-- fresh blocks come to those taken
pub takes_fresh : (n : ℕ) (taken fresh taken' : List ℕ) (old new : BlocksState) → taken' ≡ taken ++ fresh → AreLowestFree n fresh old → Recounts none (times fresh) old new → Takes taken taken' old new
takes_fresh n taken fresh taken' old new is free recounts =
    let total : (k : ℕ) → times taken' k ≡ times taken k + times fresh k = λ k. ap (λ (ks : List ℕ). times ks k) is ∙ times_append taken fresh k in
    record {
      more = λ k. omega (arith, total k);
      moves = moves_as none (times fresh) none (λ k. times taken' k - times taken k) old new (λ k. omega (arith, total k)) (λ k h. h) (unmoved none (times fresh) old new recounts.uses recounts.content recounts.overreads recounts.size recounts.honest);
      once = λ k. elim (cases_eq (times fresh k) 0) [
        | inl e ↦ omega (arith, recounts.uses k)
        | inr ne ↦ omega (arith, recounts.uses k, free.once k, (free.free k (omega arith)).unused)
      ];
      free = omega (arith, free_taken n fresh old new recounts free, free.count, ap length is, length-append taken fresh);
      longer = omega (arith, ap length is, length-append taken fresh);
      grows = rw recounts.content (omega arith);
    }

-- fresh blocks lie among as many as are not free, and as many as came
pub within_taken : (n count : ℕ) (taken fresh taken' : List ℕ) → taken' ≡ taken ++ fresh → length fresh ≡ count → AreWithin (n + count) fresh → AreWithin (n + (length taken' - length taken)) fresh
within_taken n count taken fresh taken' is counted within k some = omega (arith, within k some, counted, ap length is, length-append taken fresh)

-- they are written
pub takes_written : (taken fresh taken' : List ℕ) (s0 s1 s2 : BlocksState) → AreUnused fresh s0 → AreWithin (occupied s0 + (length taken' - length taken)) fresh → Takes taken taken' s0 s1 → Moves (times fresh) (times fresh) s1 s2
    → EndsWith fresh s1.content s2.content → Takes taken taken' s0 s2
takes_written taken fresh taken' s0 s1 s2 unused within t m ends = record {
  more = t.more;
  moves = moves_as _ _ none (λ k. times taken' k - times taken k) s0 s2 (λ k. omega arith) (λ k used. elim (cases_eq (times fresh k) 0) [
    | inl none ↦ omega (arith, none, used)
    | inr some ↦ absurd (omega (arith, used, unused k (omega (arith, some))))
  ]) (moves_then none _ (times fresh) (times fresh) s0 s1 s2 t.moves m);
  once = λ k. omega (arith, t.once k, m.uses k);
  free = omega (arith, t.free, free_kept s1 s2 (λ k. omega (arith, m.uses k)) m.size);
  longer = t.longer;
  grows = omega (arith, t.grows, ends (occupied s0 + (length taken' - length taken)) within);
}

pub covers_taken : (taken : List ℕ) (old new : BlocksState) → Takes [] taken old new → Covers new (times taken)
covers_taken taken old new t k = omega (arith, t.moves.uses k, times_none k)

pub same_block : (s s' : BlocksState) (k : ℕ) → s'.content ≡ s.content → block s' k ≡ block s k
same_block s s' k is = ap (λ (c : List ℕ). block_at c k) is

-- the replaced blocks were given back
pub exchanged_moves : (taken replaced : List ℕ) (old new : ℕ → ℕ) (s0 s1 s2 : BlocksState) → Takes [] taken s0 s1 → Recounts (times replaced) none s1 s2 → ((k : ℕ) → new k + times replaced k ≡ old k + times taken k) → Moves old new s0 s2
exchanged_moves taken replaced old new s0 s1 s2 t r sums = record {
  uses = λ k. omega (arith, t.moves.uses k, r.uses k, times_none k, sums k);
  kept = λ k used whole. same_block s1 s2 k r.content ∙ t.moves.kept k (omega (arith, used)) whole;
  header = λ whole. same_block s1 s2 0 r.content ∙ t.moves.header whole;
  overreads = r.overreads ∙ t.moves.overreads;
  size = r.size ∙ t.moves.size;
  honest = r.honest ∙ t.moves.honest;
}

-- what was taken was given back
pub gave_back : (taken : List ℕ) (s0 s1 s2 : BlocksState) → Takes [] taken s0 s1 → Recounts (times taken) none s1 s2 → Moves none none s0 s2
gave_back taken s0 s1 s2 t r = exchanged_moves taken taken none none s0 s1 s2 t r (λ k. refl)

-- what was given back besides is in use no more often
pub once_given : (taken : List ℕ) (given : ℕ → ℕ) (s0 s1 s2 : BlocksState) → Takes [] taken s0 s1 → Recounts given none s1 s2 → UsesOnce s0 s2
once_given taken given s0 s1 s2 t r k = omega (arith, t.once k, r.uses k)

free_rises : (n : ℕ) (old new : ℕ → ℕ) → ((k : ℕ) → new k ≤ old k) → free_up_to n old ≤ free_up_to n new
free_rises zero old new h = omega (arith, free_none old)
free_rises (suc n) old new h = omega (arith, free-suc n old, free-suc n new, free_rises n old new h, h (suc n))

-- what is given back is free, where nobody else has it
pub free_given : (given : ℕ → ℕ) (old new : BlocksState) → Recounts given none old new → free_of old ≤ free_of new
free_given given old new r = rw r.size (free_rises (old.size - 1) old.uses new.uses (λ k. omega (arith, r.uses k)))

pub reads_then : {asked : ℕ → ℕ} (a b c : BlocksState) → OnlyReads asked a b → OnlyReads asked b c → OnlyReads asked a c
reads_then a b c r q = record {
  content = q.content ∙ r.content;
  synced = q.synced ∙ r.synced;
  uses = q.uses ∙ r.uses;
  size = q.size ∙ r.size;
  honest = q.honest ∙ r.honest;
  overreads = λ whole. q.overreads (λ h k some. rw (same_block a b k r.content) (whole (rw r.honest at h) k some)) ∙ r.overreads whole;
}

-- the same by more blocks
pub reads_more : (asked more : ℕ → ℕ) (old new : BlocksState) → ((k : ℕ) → asked k ≤ more k) → OnlyReads asked old new → OnlyReads more old new
reads_more asked more old new fewer r = record {
  content = r.content;
  synced = r.synced;
  uses = r.uses;
  size = r.size;
  honest = r.honest;
  overreads = λ whole. r.overreads (λ h k some. whole h k (omega (arith, some, fewer k)));
}

-- blocks that are whole were read
pub reads_whole : (asked : ℕ → ℕ) (old new : BlocksState) → (IsTrue old.honest → (k : ℕ) → 0 < asked k → length (block old k) ≡ 4096) → OnlyReads asked old new → OnlyReads none old new
reads_whole asked old new whole r = record {
  content = r.content;
  synced = r.synced;
  uses = r.uses;
  size = r.size;
  honest = r.honest;
  overreads = λ no. r.overreads whole;
}

-- why a call is refused that hands on the refusal of another
pub refuses_as : {T U D D' R R' : Type 0} {result : Result T Fault} {e : Fault} → ((x : Fault) → IsErrOf result x → IsErrOf {T = U} (Err e) x) → Refuses {T = U} (Err e) D R → (D → D') → (R → R') → Refuses result D' R'
refuses_as same why damage room = record { for_damage = λ is. damage (why.for_damage (same _ is)); for_room = λ is. room (why.for_room (same _ is)) }
