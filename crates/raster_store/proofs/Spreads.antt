-- Lists of runs that stand for the same cells.
use Rattle.std.proofs.Common.{◌≡◌, ℕ, zero, suc, ◌+◌, ◌-◌, ◌<◌, ◌≤◌, ℤ, pos, List, [], ◌∷◌, ◌++◌, length, take, drop, replicate, get_or, min, refl, sym, ap, ap₂, ◌∙◌, arith, append_assoc, take_all, take_at, inl, inr, Bool, false, cond}
use Rattle.std.proofs.lemmas.Bool.{cases_lt}
use Rattle.std.proofs.lemmas.List.{drop_more, drop_all}
use Rattle.arr_core.specs.declared.runs.RunList.{RunList}
use Rattle.arr_core.specs.Runs.{spread, runs_of, cells_of}

-- the cells of a list that is not narrow
pub wide-cells : (runs : RunList) → runs.is_narrow ≡ false → cells_of runs ≡ runs_of runs.values.items runs.counts.items
wide-cells runs wide = ap (λ (b : Bool). cond b runs.narrow.items (runs_of runs.values.items runs.counts.items)) wide

pub spread-none : (values : List ℤ) → spread values [] ≡ []
spread-none [] = refl
spread-none (v ∷ vs) = refl

-- what stands behind the values that have counts is not told
spread-take : (n : ℕ) (values : List ℤ) (counts : List ℕ) → length counts ≤ n → spread (take n values) counts ≡ spread values counts
spread-take n values [] few = spread-none (take n values) ∙ sym (spread-none values)
spread-take n [] (c ∷ cs) few = ap (λ (l : List ℤ). spread l (c ∷ cs)) (none n)
  where
    none : (m : ℕ) → take {A = ℤ} m [] ≡ []
    none zero = refl
    none (suc m) = refl
spread-take zero (v ∷ vs) (c ∷ cs) few = absurd (omega arith)
spread-take (suc n) (v ∷ vs) (c ∷ cs) few = ap (λ (l : List ℤ). replicate c v ++ l) (spread-take n vs cs (omega arith))

-- a list with counts stands for what its first values say
some-spread : (values : List ℤ) (counts : List ℕ) → 0 < length counts → runs_of values counts ≡ spread values counts
some-spread values [] some = absurd (omega arith)
some-spread values (c ∷ cs) some = refl

pub runs-take : (n : ℕ) (values : List ℤ) (counts : List ℕ) → 0 < length counts → n ≡ min (length values) (length counts) → runs_of (take n values) counts ≡ runs_of values counts
runs-take n values counts some is = elim (cases_lt n (length counts)) [
  | inl short ↦ ap (λ (l : List ℤ). runs_of l counts) (take_all n values (omega arith))
  | inr enough ↦ some-spread (take n values) counts some ∙ spread-take n values counts enough ∙ sym (some-spread values counts some)
]

-- the cells from one run on
pub spread-step : (values : List ℤ) (counts : List ℕ) (k : ℕ) → k < length values → k < length counts → spread (drop k values) (drop k counts) ≡ replicate (get_or counts k 0) (get_or values k (pos 0)) ++ spread (drop (k + 1) values) (drop (k + 1) counts)
spread-step values counts k v c = ap₂ spread (drop_more values k (pos 0) v) (drop_more counts k 0 c)

-- one run more was written
pub written-more : (all cells front : List ℤ) (values : List ℤ) (counts : List ℕ) (k : ℕ) → k < length values → k < length counts → front ++ spread (drop k values) (drop k counts) ≡ all → cells ≡ front ++ replicate (get_or counts k 0) (get_or values k (pos 0))
    → cells ++ spread (drop (k + 1) values) (drop (k + 1) counts) ≡ all
written-more all cells front values counts k v c was is =
    let one = replicate (get_or counts k 0) (get_or values k (pos 0)) in
    ap (λ (l : List ℤ). l ++ spread (drop (k + 1) values) (drop (k + 1) counts)) is ∙ append_assoc front one _ ∙ ap (λ (l : List ℤ). front ++ l) (sym (spread-step values counts k v c)) ∙ was

-- behind the last run that has a value and a count there is none
pub spread-end : (values : List ℤ) (counts : List ℕ) (k : ℕ) → k ≡ min (length values) (length counts) → spread (drop k values) (drop k counts) ≡ []
spread-end values counts k is = elim (cases_lt k (length counts)) [
  | inl short ↦ ap (λ (l : List ℤ). spread l (drop k counts)) (drop_all k values (omega arith)) ∙ none (drop k counts)
  | inr enough ↦ ap (spread (drop k values)) (drop_all k counts enough) ∙ spread-none (drop k values)
]
  where
    none : (cs : List ℕ) → spread [] cs ≡ []
    none [] = refl
    none (c ∷ cs) = refl

-- a list of cells that was filled up with one value
pub grown : (old new : List ℤ) (n count : ℕ) (w v : ℤ) → new ≡ take n old ++ replicate (n - length old) w → n ≡ length old + count → w ≡ v → new ≡ old ++ replicate count v
grown old new n count w v is end same =
    let rest : n - length old ≡ count = omega (arith, end) in
    is ∙ ap₂ (λ (a b : List ℤ). a ++ b) (take_all n old (omega (arith, end))) (ap₂ (λ (m : ℕ) (z : ℤ). replicate m z) rest same)

-- the first values of a list that was written whole
pub kept-front : (n len : ℕ) (new old other : List ℤ) → take n new ≡ take n other → length new ≡ len → take n (take len (new ++ drop (length new) old)) ≡ take n other
kept-front n len new old other front size = ap (take n) (take_at new (drop (length new) old) len size) ∙ front

-- lists with the same first values and the same counts
pub runs-same : (n : ℕ) (one other : List ℤ) (counts counts' : List ℕ) → take n one ≡ take n other → counts' ≡ counts → n ≡ length counts → 0 < length counts → runs_of one counts' ≡ runs_of other counts
runs-same n one other counts counts' front same size some =
    ap (runs_of one) same ∙ some-spread one counts some ∙ sym (spread-take n one counts (omega (arith, size))) ∙ ap (λ (l : List ℤ). spread l counts) front ∙ spread-take n other counts (omega (arith, size)) ∙ sym (some-spread other counts some)
