-- What condensers make of values, and the array of an item.
use Rattle.std.proofs.Common.{◌≡◌, ◌≢◌, ℕ, ℤ, int_le, List, [], ◌∷◌, ◌++◌, map, Bool, true, false, cond, ◌&&◌, filter, flat_map, None, Result, Ok, Err, refl, ap, ◌∙◌}
use Rattle.std.specs.List.{list_all}
use Rattle.arr_core.specs.declared.cell.Cell.{Cell}
use Rattle.arr_core.specs.declared.cell.Cell.TheVariants as cells
use Rattle.arr_core.specs.declared.domain.Axis.{Axis}
use Rattle.arr_core.specs.declared.signature.Signature.{Signature}
use Rattle.arr_core.specs.Domains.{points}
use Rattle.wcps_types.specs.Typed.{Typed}
use Rattle.wcps_text.specs.declared.operator.Aggregate.{Aggregate}
use Rattle.wcps_mean.specs.declared.cell.PointFault.{PointFault}
use Rattle.wcps_mean.specs.declared.cell.PointFault.TheVariants.{Overflow}
use Rattle.wcps_mean.specs.declared.cell.Outcome.{Outcome}
use Rattle.wcps_mean.specs.declared.cell.Outcome.TheVariants.{Value, Fault}
use Rattle.wcps_mean.specs.Cells.{fits_64, ranged, truth}
use Rattle.wcps_mean.specs.Condensers.{first_fault, values, larger, smaller, greatest, least, combined, condensed, demanded}
use Rattle.wcps_mean.specs.Meaning.{val}
use Rattle.wcps_mean.specs.Answer.{joined, cells_at, given, then_of, answer}
use Rattle.map_templates.specs.declared.template.Summary.{Summary}
use Rattle.map_templates.specs.declared.template.Summary.TheVariants as summaries
use Rattle.map_templates.specs.Tomlin.{Raster, summary, array, array_or_overflow}
use Rattle.map_templates.specs.TypedTrees.{condenser_of, integer_field, single}
use Rattle.map_templates.proofs.Sets.{Every}

pub no_fault : (zs : List ℤ) → first_fault (map Value zs) ≡ None
no_fault [] = refl
no_fault (z ∷ zs) = no_fault zs

pub same_values : (zs : List ℤ) → values (map Value zs) ≡ zs
same_values [] = refl
same_values (z ∷ zs) = ap (λ (ys : List ℤ). z ∷ ys) (same_values zs)

-- a condenser of values without faults
pub condensed-values : (op : Aggregate) (zs : List ℤ) → condensed op (map Value zs) ≡ combined op zs
condensed-values op zs = rw (no_fault zs, same_values zs) refl

-- a condition without faults keeps the points at which it is true
pub kept : {X : Type 0} (c : X → Bool) (v : X → ℤ) (C E : X → Outcome) (xs : List X) → Every (λ x. C x ≡ truth (c x)) xs → Every (λ x. c x ≡ true → E x ≡ Value (v x)) xs
    → flat_map (λ x. demanded (C x) (E x)) xs ≡ map Value (map v (filter c xs))
kept c v C E [] hc he = refl
kept c v C E (x ∷ xs) hc he =
    ap (λ (o : Outcome). demanded o (E x) ++ flat_map (λ y. demanded (C y) (E y)) xs) hc.0 ∙ pick (c x) he.0 (kept c v C E xs hc.1 he.1)
  where
    pick : (b : Bool) → (b ≡ true → E x ≡ Value (v x)) → flat_map (λ y. demanded (C y) (E y)) xs ≡ map Value (map v (filter c xs))
        → demanded (truth b) (E x) ++ flat_map (λ y. demanded (C y) (E y)) xs ≡ map Value (map v (cond b (x ∷ filter c xs) (filter c xs)))
    pick true h more = rw (h refl, more) refl
    pick false h more = more

pub larger-fits : (x y : ℤ) → fits_64 x ≡ true → fits_64 y ≡ true → fits_64 (larger x y) ≡ true
larger-fits x y h k = pick (int_le x y)
  where
    pick : (b : Bool) → fits_64 (cond b y x) ≡ true
    pick true = k
    pick false = h

pub smaller-fits : (x y : ℤ) → fits_64 x ≡ true → fits_64 y ≡ true → fits_64 (smaller x y) ≡ true
smaller-fits x y h k = pick (int_le x y)
  where
    pick : (b : Bool) → fits_64 (cond b x y) ≡ true
    pick true = h
    pick false = k

abbrev pub Fitting : List ℤ → Type 0
Fitting zs = Every (λ z. fits_64 z ≡ true) zs

greatest-fits : (m : ℤ) (zs : List ℤ) → fits_64 m ≡ true → Fitting zs → fits_64 (greatest m zs) ≡ true
greatest-fits m [] h all = h
greatest-fits m (z ∷ zs) h all = greatest-fits (larger m z) zs (larger-fits m z h all.0) all.1

least-fits : (m : ℤ) (zs : List ℤ) → fits_64 m ≡ true → Fitting zs → fits_64 (least m zs) ≡ true
least-fits m [] h all = h
least-fits m (z ∷ zs) h all = least-fits (smaller m z) zs (smaller-fits m z h all.0) all.1

value-ranged : (z : ℤ) → fits_64 z ≡ true → Value z ≡ ranged z
value-ranged z h = rw h refl

-- of the values of a set that is not empty
pub combined-summary : (op : Summary) (zs : List ℤ) → zs ≢ [] → Fitting zs → combined (condenser_of op) zs ≡ ranged (summary op zs)
combined-summary summaries.Sum zs some all = refl
combined-summary summaries.Maximum [] some all = absurd (some refl)
combined-summary summaries.Maximum (z ∷ zs) some all = value-ranged (greatest z zs) (greatest-fits z zs all.0 all.1)
combined-summary summaries.Minimum [] some all = absurd (some refl)
combined-summary summaries.Minimum (z ∷ zs) some all = value-ranged (least z zs) (least-fits z zs all.0 all.1)

-- ---- the item

here : (ps : List (List ℤ)) (v : Raster) (z : ℤ) (r : Result (List Cell) PointFault)
    → r ≡ cond (list_all (λ p. fits_64 (v p)) ps) (Ok (map (λ p. cells.Int (v p)) ps)) (Err Overflow)
    → then_of (then_of (given (λ z. cells.Int z ∷ []) (ranged z)) (λ xs. then_of (joined []) (λ ys. Ok (xs ++ ys)))) (λ xs. then_of r (λ ys. Ok (xs ++ ys)))
    ≡ cond (fits_64 z && list_all (λ p. fits_64 (v p)) ps) (Ok (cells.Int z ∷ map (λ p. cells.Int (v p)) ps)) (Err Overflow)
here ps v z r e = rw e (pick (fits_64 z) (list_all (λ p. fits_64 (v p)) ps))
  where
    pick : (b c : Bool)
        → then_of (then_of (given (λ z. cells.Int z ∷ []) (cond b (Value z) (Fault Overflow))) (λ xs. then_of (joined []) (λ ys. Ok (xs ++ ys)))) (λ xs. then_of (cond c (Ok (map (λ p. cells.Int (v p)) ps)) (Err Overflow)) (λ ys. Ok (xs ++ ys)))
        ≡ cond (b && c) (Ok (cells.Int z ∷ map (λ p. cells.Int (v p)) ps)) (Err Overflow)
    pick true true = refl
    pick true false = refl
    pick false c = refl

all_cells : (s : ℕ → ℕ → List ℤ → ℤ) (t : Typed) (v : Raster) (ps : List (List ℤ)) → Every (λ p. val s t [] p ≡ ranged (v p)) ps
    → joined (map (cells_at s (integer_field t ∷ [])) ps) ≡ cond (list_all (λ p. fits_64 (v p)) ps) (Ok (map (λ p. cells.Int (v p)) ps)) (Err Overflow)
all_cells s t v [] h = refl
all_cells s t v (p ∷ ps) h = rw h.0 (here ps v (v p) (joined (map (cells_at s (integer_field t ∷ [])) ps)) (all_cells s t v ps h.1))

finish : (axes : List Axis) (v : Raster) (r : Result (List Cell) PointFault) (b : Bool) (cs : List Cell)
    → r ≡ cond b (Ok cs) (Err Overflow)
    → then_of (then_of (then_of r (λ xs. Ok (record (array axes v) { cells = xs }))) (λ i. Ok (i ∷ []))) (λ xs. then_of (joined []) (λ ys. Ok (xs ++ ys)))
    ≡ cond b (Ok (record (array axes v) { cells = cs } ∷ [])) (Err Overflow)
finish axes v r true cs e = rw e refl
finish axes v r false cs e = rw e refl

pub answer-array : (s : ℕ → ℕ → List ℤ → ℤ) (cs : List Signature) (axes : List Axis) (t : Typed) (v : Raster) → Every (λ p. val s t [] p ≡ ranged (v p)) (points axes)
    → answer s (single cs axes t) ≡ array_or_overflow axes v
answer-array s cs axes t v h =
    finish axes v (joined (map (cells_at s (integer_field t ∷ [])) (points axes))) (list_all (λ p. fits_64 (v p)) (points axes)) (map (λ p. cells.Int (v p)) (points axes)) (all_cells s t v (points axes) h)
