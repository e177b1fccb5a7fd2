-- Outcomes that stand for runs, run by run.
use Rattle.std.proofs.Common.{◌≡◌, ℕ, zero, suc, ◌+◌, ◌-◌, ◌<◌, ◌≤◌, min, arith, ℤ, pos, List, [], ◌∷◌, ◌++◌, length, get_or, take, map, refl, sym, ap, ◌∙◌, subst, length-append, Option, Some, None}
use Rattle.std.specs.Prelude.{replicate, sum, Vec, Bool, true, false}
use Rattle.std.specs.declared.alloc.Global.{Global}
use Rattle.std.proofs.lemmas.List.{map-append, length-map, length-replicate, replicate-append-replicate, get_or_append_left, get_or-append_right, get_or-replicate, take_all, length-take-le, append-nil, append_assoc}
use Rattle.std.proofs.lemmas.List.Sums.{sum_by-cons, sum_by_more}
use Rattle.arr_core.specs.Runs.{spread, runs_of}
use Rattle.wcps_text.specs.declared.operator.BinaryOperator.{BinaryOperator}
use Rattle.wcps_mean.specs.declared.cell.PointFault.{PointFault}
use Rattle.wcps_mean.specs.declared.cell.Outcome.{Outcome}
use Rattle.wcps_mean.specs.declared.cell.Outcome.TheVariants.{Value}
use Rattle.wcps_mean.specs.Cells.{operate2}
use Rattle.tile_kernel.specs.declared.seen.Runs.{Runs}
use Rattle.tile_kernel.specs.declared.form.Form.{Form}
use Rattle.tile_kernel.specs.declared.form.Form.TheVariants.{Values, Narrow}
use Rattle.tile_kernel.specs.Columns.{seen, operate_all}
use Rattle.tile_kernel.specs.Repeated.{repeated, runs_shown, column_of, IsColumn, AreRuns, AreAll, StandsIn, RepeatsIf}
use Rattle.tile_kernel.proofs.Places.{length-seen, narrow_places}

-- ---- the sum of counts

pub sum-cons : (n : ℕ) (ns : List ℕ) → sum (n ∷ ns) ≡ n + sum ns
sum-cons n ns = sum_by-cons (λ (x : ℕ). x) n ns

pub sum-more : (ns : List ℕ) (k : ℕ) → k < length ns → sum (take (k + 1) ns) ≡ sum (take k ns) + get_or ns k 0
sum-more ns k lt = sum_by_more (λ (x : ℕ). x) ns k 0 lt

-- ---- lists of runs

same-mapped : {X Y : Type 0} (f : X → Y) (n : ℕ) (x : X) → map f (replicate n x) ≡ replicate n (f x)
same-mapped f zero x = refl
same-mapped f (suc n) x = ap (λ l. f x ∷ l) (same-mapped f n x)

pub length-repeated : (os : List Outcome) (ns : List ℕ) → length os ≡ length ns → length (repeated os ns) ≡ sum ns
length-repeated [] [] h = refl
length-repeated [] (n ∷ ns) h = absurd (omega arith)
length-repeated (o ∷ os) [] h = absurd (omega arith)
length-repeated (o ∷ os) (n ∷ ns) h =
    let e = length-repeated os ns (omega arith) in
    let a = length-append (replicate n o) (repeated os ns) in
    let b = length-replicate n o in
    let s = sum-cons n ns in
    omega arith

pub length-spread : (zs : List ℤ) (ns : List ℕ) → length zs ≡ length ns → length (spread zs ns) ≡ sum ns
length-spread [] [] h = refl
length-spread [] (n ∷ ns) h = absurd (omega arith)
length-spread (z ∷ zs) [] h = absurd (omega arith)
length-spread (z ∷ zs) (n ∷ ns) h =
    let e = length-spread zs ns (omega arith) in
    let a = length-append (replicate n z) (spread zs ns) in
    let b = length-replicate n z in
    let s = sum-cons n ns in
    omega arith

pub map-repeated : (f : Outcome → Outcome) (os : List Outcome) (ns : List ℕ) → map f (repeated os ns) ≡ repeated (map f os) ns
map-repeated f [] ns = refl
map-repeated f (o ∷ os) [] = refl
map-repeated f (o ∷ os) (n ∷ ns) =
    map-append f (replicate n o) (repeated os ns) ∙ ap (λ l. l ++ map f (repeated os ns)) (same-mapped f n o) ∙ ap (λ l. replicate n (f o) ++ l) (map-repeated f os ns)

pub values-repeated : (zs : List ℤ) (ns : List ℕ) → map Value (spread zs ns) ≡ repeated (map Value zs) ns
values-repeated [] ns = refl
values-repeated (z ∷ zs) [] = refl
values-repeated (z ∷ zs) (n ∷ ns) =
    map-append Value (replicate n z) (spread zs ns) ∙ ap (λ l. l ++ map Value (spread zs ns)) (same-mapped Value n z) ∙ ap (λ l. replicate n (Value z) ++ l) (values-repeated zs ns)

-- the values at the front are those that the counts reach
pub spread_front : (r : ℕ) (zs : List ℤ) (ns : List ℕ) → min (length zs) (length ns) ≤ r → spread (take r zs) (take r ns) ≡ spread zs ns
spread_front zero [] ns h = refl
spread_front (suc r) [] ns h = refl
spread_front zero (z ∷ zs) [] h = refl
spread_front zero (z ∷ zs) (n ∷ ns) h = absurd (omega arith)
spread_front (suc r) (z ∷ zs) [] h = refl
spread_front (suc r) (z ∷ zs) (n ∷ ns) h = ap (λ l. replicate n z ++ l) (spread_front r zs ns (omega arith))

-- one outcome at all places
pub repeated-same : (o : Outcome) (ns : List ℕ) → repeated (replicate (length ns) o) ns ≡ replicate (sum ns) o
repeated-same o [] = refl
repeated-same o (n ∷ ns) =
    ap (λ l. replicate n o ++ l) (repeated-same o ns) ∙ replicate-append-replicate n (sum ns) o ∙ ap (λ k. replicate k o) (sym (sum-cons n ns))

-- ---- an operation on two columns over the same runs

operate-none : (op : BinaryOperator) (ls : List Outcome) → operate_all op ls [] ≡ []
operate-none op [] = refl
operate-none op (l ∷ ls) = refl

operate-same : (op : BinaryOperator) (n : ℕ) (l r : Outcome) (ls rs : List Outcome) → operate_all op (replicate n l ++ ls) (replicate n r ++ rs) ≡ replicate n (operate2 op l r) ++ operate_all op ls rs
operate-same op zero l r ls rs = refl
operate-same op (suc n) l r ls rs = ap (λ t. operate2 op l r ∷ t) (operate-same op n l r ls rs)

pub operate-repeated : (op : BinaryOperator) (ls rs : List Outcome) (ns : List ℕ) → operate_all op (repeated ls ns) (repeated rs ns) ≡ repeated (operate_all op ls rs) ns
operate-repeated op [] rs ns = refl
operate-repeated op (l ∷ ls) [] ns = operate-none op (repeated (l ∷ ls) ns)
operate-repeated op (l ∷ ls) (r ∷ rs) [] = refl
operate-repeated op (l ∷ ls) (r ∷ rs) (n ∷ ns) = operate-same op n l r (repeated ls ns) (repeated rs ns) ∙ ap (λ t. replicate n (operate2 op l r) ++ t) (operate-repeated op ls rs ns)

-- ---- the run of a place

pub stands_there : (os : List Outcome) (ns : List ℕ) (place run : ℕ) (d e : Outcome) → length os ≡ length ns → StandsIn ns place run → get_or (repeated os ns) place d ≡ get_or os run e
stands_there [] [] place run d e h s = absurd (omega (arith, s.within))
stands_there [] (n ∷ ns) place run d e h s = absurd (omega arith)
stands_there (o ∷ os) [] place run d e h s = absurd (omega arith)
stands_there (o ∷ os) (n ∷ ns) place zero d e h s =
    let below : place < n = omega (arith, s.below) in
    let l = length-replicate n o in
    get_or_append_left (replicate n o) (repeated os ns) d place (omega arith) ∙ get_or-replicate n place o d below
stands_there (o ∷ os) (n ∷ ns) place (suc run) d e h s =
    let c = sum-cons n (take run ns) in
    let within : suc run < suc (length ns) = s.within in
    let from : sum (n ∷ take run ns) ≤ place = s.from in
    let below : place < sum (n ∷ take run ns) + get_or ns run 0 = s.below in
    let next : StandsIn ns (place - n) run = record { within = omega arith; from = omega arith; below = omega arith } in
    get_or-append_right (replicate n o) (repeated os ns) n place d (length-replicate n o) (omega arith) ∙ stands_there os ns (place - n) run d e (omega arith) next

-- ---- what a column keeps

pub length-heads : (zs : List ℤ) (r : ℕ) → r ≤ length zs → length (map Value (take r zs)) ≡ r
length-heads zs r le = length-map (take r zs) Value ∙ length-take-le r zs le

pub length-runs_shown : (zs : List ℤ) (ns : List ℕ) → length ns ≤ length zs → length (repeated (map Value (take (length ns) zs)) ns) ≡ sum ns
length-runs_shown zs ns le = length-repeated (map Value (take (length ns) zs)) ns (length-heads zs (length ns) le)

pub length-column : (runs : Option ℕ) (form : Form) (n : ℕ) (zs : Vec ℤ Global) (fs : Vec (Option PointFault) Global) (ws : List ℤ) (ns : List ℕ) → IsColumn runs form n zs fs ws ns → length (column_of runs form n zs.items fs.items ws ns) ≡ n
length-column None form n zs fs ws ns h = length-seen form n zs.items fs.items ws h.roomy
length-column (Some r) form n zs fs ws ns h =
    let rows : r ≤ 4096 = h.covered.0 in
    let a = length-heads zs.items r (omega (arith, h.whole.0)) in
    let b = length-take-le r ns h.covered.1 in
    length-repeated (map Value (take r zs.items)) (take r ns) (a ∙ sym b) ∙ h.covered.2

pub runs_seen : (runs : Option ℕ) (form : Form) (n : ℕ) (zs : Vec ℤ Global) (fs : Vec (Option PointFault) Global) (ws : List ℤ) (ns cs : List ℕ) (column : List Outcome) (r : ℕ) → runs ≡ Some r → column_of runs form n zs.items fs.items ws ns ≡ column → IsColumn runs form n zs fs ws ns → cs ≡ take r ns
    → (repeated (map Value (take (length cs) zs.items)) cs ≡ column) × ((sum cs ≡ n) × (length cs ≡ r))
runs_seen runs form n zs fs ws ns cs column r e h kept same =
    let covered : AreRuns (Some r) n ns = subst (λ r. AreRuns r n ns) e kept.covered in
    let long : length cs ≡ r = ap length same ∙ length-take-le r ns covered.1 in (
      ap (λ k. repeated (map Value (take k zs.items)) cs) long ∙ ap (repeated (map Value (take r zs.items))) same ∙ ap (λ r. column_of r form n zs.items fs.items ws ns) (sym e) ∙ h,
      (ap sum same ∙ covered.2, long),
    )

-- what an exchange gives
runs_of-cons : (zs : List ℤ) (ns : List ℕ) → 0 < length ns → runs_of zs ns ≡ spread zs ns
runs_of-cons zs [] h = absurd (omega arith)
runs_of-cons zs (n ∷ ns) h = refl

-- the runs of a list: as many as there is room for
runs_front : (r : ℕ) (zs : List ℤ) (counts : List ℕ) → length zs ≡ 4096 → r ≡ min (length counts) 4096 → (r ≡ 0 → ⊥) → spread (take r zs) (take r counts) ≡ runs_of zs counts
runs_front r zs counts h few some = spread_front r zs counts (omega arith) ∙ sym (runs_of-cons zs counts (omega (arith, few, some)))

pub runs_exchanged : (r : ℕ) (zs : List ℤ) (fs : List (Option PointFault)) (ws : List ℤ) (counts ns : List ℕ) → length zs ≡ 4096 → r ≡ min (length counts) 4096 → (r ≡ 0 → ⊥) → ns ≡ take r counts → column_of (Some r) Values 4096 zs fs ws ns ≡ map Value (runs_of zs counts)
runs_exchanged r zs fs ws counts ns h few some e =
    let long : length ns ≡ r = ap length e ∙ length-take-le r counts (omega arith) in
    ap (repeated (map Value (take r zs))) (take_all r ns (omega arith) ∙ e) ∙ sym (values-repeated (take r zs) (take r counts)) ∙ ap (map Value) (runs_front r zs counts h few some)

pub sum_front : (r : ℕ) (zs : List ℤ) (counts : List ℕ) → length zs ≡ 4096 → length (runs_of zs counts) ≡ 4096 → r ≡ min (length counts) 4096 → (r ≡ 0 → ⊥) → sum (take r counts) ≡ 4096
sum_front r zs counts h l few some =
    let a = length-take-le r zs (omega arith) in
    let b = length-take-le r counts (omega arith) in
    sym (length-spread (take r zs) (take r counts) (a ∙ sym b)) ∙ ap length (runs_front r zs counts h few some) ∙ l

pub runs_covered : (r : ℕ) (zs : List ℤ) (counts ns : List ℕ) → length zs ≡ 4096 → length (runs_of zs counts) ≡ 4096 → r ≡ min (length counts) 4096 → (r ≡ 0 → ⊥) → ns ≡ take r counts → AreRuns (Some r) 4096 ns
runs_covered r zs counts ns h l few some e =
    let long : length ns ≡ r = ap length e ∙ length-take-le r counts (omega arith) in
    (omega arith, omega arith, ap sum (take_all r ns (omega arith) ∙ e) ∙ sum_front r zs counts h l few some)

-- runs that were written place by place
pub runs_written : (r : ℕ) (zs out : List ℤ) (counts : List ℕ) → length zs ≡ 4096 → length (runs_of zs counts) ≡ 4096 → r ≡ min (length counts) 4096 → (r ≡ 0 → ⊥)
    → take (sum (take r counts)) out ≡ spread (take (length (take r counts)) zs) (take r counts) → map Value (take 4096 out) ≡ map Value (runs_of zs counts)
runs_written r zs out counts h l few some e =
    let b = length-take-le r counts (omega arith) in
    ap (map Value) (ap (λ k. take k out) (sym (sum_front r zs counts h l few some)) ∙ e ∙ ap (λ k. spread (take k zs) (take r counts)) b ∙ runs_front r zs counts h few some)

-- ---- values written as often as their counts say

spread-suc : (zs : List ℤ) (ns : List ℕ) (k : ℕ) → k < length zs → k < length ns → spread (take (suc k) zs) (take (suc k) ns) ≡ spread (take k zs) (take k ns) ++ replicate (get_or ns k 0) (get_or zs k (pos 0))
spread-suc [] ns k a b = absurd (omega arith)
spread-suc (z ∷ zs) [] k a b = absurd (omega arith)
spread-suc (z ∷ zs) (n ∷ ns) zero a b = append-nil (replicate n z)
spread-suc (z ∷ zs) (n ∷ ns) (suc k) a b =
    ap (λ l. replicate n z ++ l) (spread-suc zs ns k (omega arith) (omega arith))
    ∙ sym (append_assoc (replicate n z) (spread (take k zs) (take k ns)) (replicate (get_or ns k 0) (get_or zs k (pos 0))))

pub spread-more : (zs : List ℤ) (ns : List ℕ) (k : ℕ) → k < length zs → k < length ns → spread (take (k + 1) zs) (take (k + 1) ns) ≡ spread (take k zs) (take k ns) ++ replicate (get_or ns k 0) (get_or zs k (pos 0))
spread-more zs ns k a b = let e : suc k ≡ k + 1 = omega arith in subst (λ m. spread (take m zs) (take m ns) ≡ spread (take k zs) (take k ns) ++ replicate (get_or ns k 0) (get_or zs k (pos 0))) e (spread-suc zs ns k a b)

-- values that were spread in place of their runs
pub spread_back : (runs : Option ℕ) (form : Form) (n : ℕ) (zs : Vec ℤ Global) (fs : Vec (Option PointFault) Global) (ws : List ℤ) (ns cs : List ℕ) (column : List Outcome) (r : ℕ) (room out : List ℤ) → runs ≡ Some r → column_of runs form n zs.items fs.items ws ns ≡ column → IsColumn runs form n zs fs ws ns → cs ≡ take r ns
    → length room ≡ 4096 → take (length zs.items) room ≡ zs.items → take (sum cs) out ≡ spread (take (length cs) room) cs → map Value (take n out) ≡ column
spread_back runs form n zs fs ws ns cs column r room out e h kept same l copied written =
    let seen = runs_seen runs form n zs fs ws ns cs column r e h kept same in
    let all : AreAll (Some r) zs.items fs.items = subst (λ r. AreAll r zs.items fs.items) e kept.whole in
    let whole : room ≡ zs.items = sym (take_all (length zs.items) room (omega (arith, l, all.0))) ∙ copied in
    ap (λ k. map Value (take k out)) (sym seen.1.0) ∙ ap (map Value) (written ∙ ap (λ l. spread (take (length cs) l) cs) whole)
    ∙ values-repeated (take (length cs) zs.items) cs ∙ seen.0

-- values that were widened
pub widened_back : (runs : Option ℕ) (form : Form) (n : ℕ) (zs : Vec ℤ Global) (fs : Vec (Option PointFault) Global) (ws : List ℤ) (ns : List ℕ) (column : List Outcome) (cells out : List ℤ) → runs ≡ None → form ≡ Narrow → column_of runs form n zs.items fs.items ws ns ≡ column → IsColumn runs form n zs fs ws ns
    → cells ≡ ws → take (length (take n cells)) out ≡ take n cells → column_of runs Values n out fs.items ws ns ≡ column
widened_back runs form n zs fs ws ns column cells out e f h kept same copied =
    let long : n ≤ length ws = narrow_places form n zs.items fs.items ws f kept.roomy in
    let places : length (take n cells) ≡ n = length-take-le n cells (omega (arith, long, ap length same)) in
    ap (λ r. column_of r Values n out fs.items ws ns) e
    ∙ ap (λ (l : List ℤ). map Value l) (ap (λ k. take k out) (sym places) ∙ copied ∙ ap (take n) same)
    ∙ sym (ap (λ r. column_of r form n zs.items fs.items ws ns) e ∙ ap (λ g. seen g n zs.items fs.items ws) f) ∙ h

-- what was told to be repeated is
pub repeats_now : (told : Bool) (ns : List ℕ) (before after : List Outcome) → told ≡ true → RepeatsIf told ns before after → after ≡ repeated before ns
repeats_now true ns before after t h = h
repeats_now false ns before after t h = absurd (cc)

-- the places of runs
pub runs_places : (runs : Runs) → length (runs_shown runs) ≡ runs.len
runs_places runs = length-runs_shown runs.values.now runs.counts.now (omega arith) ∙ runs.total
