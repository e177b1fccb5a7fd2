-- Blocks that were taken and are in use.
use Rattle.std.proofs.Common.{◌≡◌, ℕ, ◌<◌, ◌≤◌, inl, inr, List, [], take, get_or, length, arith, ap, sym, subst, ◌∙◌}
use Rattle.std.proofs.lemmas.Bool.{cases_eq}
use Rattle.std.proofs.lemmas.List.{get_or_default}
use Rattle.block_file.specs.State.{BlocksState, times}
use Rattle.block_file.specs.Words.{Covers}
use Rattle.block_file.proofs.Times.{times_none, times_split, times_at}
use Rattle.tile_store.specs.Written.{AreFresh}

-- none was
pub fresh_none : (ks : List ℕ) (s : BlocksState) → ks ≡ [] → AreFresh ks s
fresh_none ks s is k some = absurd (omega (arith, some, ap (λ (xs : List ℕ). times xs k) is, times_none k))

-- as long as no use changes
pub fresh_still : (ks : List ℕ) (old new : BlocksState) → AreFresh ks old → new.uses ≡ old.uses → AreFresh ks new
fresh_still ks old new fresh same k some = (ap (λ (uses : ℕ → ℕ). uses k) same ∙ (fresh k some).0, (fresh k some).1)

-- the first of them may be given back
pub covers_part : (n : ℕ) (ks part : List ℕ) (s : BlocksState) → part ≡ take n ks → AreFresh ks s → Covers s (times part)
covers_part n ks part s is fresh k =
    let few : times part k ≤ times ks k = omega (arith, ap (λ (xs : List ℕ). times xs k) is, times_split ks n k) in
    elim (cases_eq (times ks k) 0) [
      | inl e ↦ omega (arith, e, few)
      | inr ne ↦ (let used = fresh k (omega (arith, ne)) in omega (arith, used.0, used.1, few))
    ]

-- each is in use once
pub used_once : (ks : List ℕ) (s : BlocksState) (place block : ℕ) → AreFresh ks s → place < length ks → block ≡ get_or ks place block → s.uses block ≡ 1
used_once ks s place block fresh inside is =
    let at : block ≡ get_or ks place 0 = is ∙ get_or_default ks place block 0 inside in
    subst (λ (b : ℕ). s.uses b ≡ 1) (sym at) ((fresh (get_or ks place 0) (times_at ks place inside)).0)

pub used_some : (ks : List ℕ) (s : BlocksState) (place block : ℕ) → AreFresh ks s → place < length ks → block ≡ get_or ks place block → 0 < s.uses block
used_some ks s place block fresh inside is = omega (arith, used_once ks s place block fresh inside is)
