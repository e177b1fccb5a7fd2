-- A body that uses none of its first variables means the same without them, and whatever they are; one that uses these
-- alone means the same without the others.
use Rattle.std.proofs.Common.{◌≡◌, ℕ, zero, suc, ◌+◌, ◌-◌, ◌<◌, List, [], ◌∷◌, ◌++◌, length, map, get_or, refl, sym, ap, ◌∙◌, subst, arith, ℤ, pos, append_assoc, T, Bool, true, false, cond}
use Rattle.std.specs.Prelude.{Option, Some, None, slice_get, IsSomeAnd, int_le, nat_le, nat_lt, ◌&&◌}
use Rattle.std.specs.List.{list_all, flat_map}
use Rattle.std.proofs.Math.Facts.{leb_yes, ltb_yes}
use Rattle.arr_core.specs.declared.signature.Signature.{Signature}
use Rattle.arr_core.specs.Domains.{points, rank_of}
use Rattle.wcps_mean.specs.declared.cell.PointFault.TheVariants.{OutOfDomain}
use Rattle.wcps_mean.specs.declared.cell.Outcome.{Outcome}
use Rattle.wcps_mean.specs.declared.cell.Outcome.TheVariants.{Value, Fault}
use Rattle.wcps_mean.specs.Cells.{operate1, operate2, at_position}
use Rattle.wcps_mean.specs.Condensers.{condensed, demanded}
use Rattle.plan_ir.specs.declared.body.Index.{Index}
use Rattle.plan_ir.specs.declared.body.Index.TheVariants.{Const, Var}
use Rattle.plan_ir.specs.declared.body.Interval.{Interval}
use Rattle.plan_ir.specs.Bodies.{Tree, lit, var, reg, op1, op2, read, table, bind, fold}
use Rattle.plan_ir.specs.Run.{numbers_at, run}
use Rattle.plan_ir.specs.Placed.{spans, LiesWithin, Indexes, HasCells, IsPlaced}
use Rattle.plan_ir.specs.Units.{index_below}
use Rattle.plan_ir.specs.Variables.{index_from, is_from, is_below, index_without, without}

pub both-true : (b c : Bool) → T (b && c) → T b × T c
both-true true true h = (tt, tt)
both-true true false h = absurd h
both-true false c h = absurd h

-- an element behind the first ones
pub behind : {X : Type 0} (outer xs : List X) (d : X) (j k : ℕ) → k ≡ length outer + j → get_or xs j d ≡ get_or (outer ++ xs) k d
behind [] xs d j k e = let f : j ≡ k = omega (arith, e) in ap (λ i. get_or xs i d) f
behind (y ∷ outer) xs d j zero e = absurd (omega (arith, e))
behind (y ∷ outer) xs d j (suc k) e = behind outer xs d j k (omega (arith, e))

-- a variable that is none of the first n
pub behind-first : (n k : ℕ) → T (nat_le n k) → k ≡ n + (k - n)
behind-first n k h = let l = leb_yes {a = n} {b = k} h in omega (arith, l)

numbers-without : (outer vars : List ℤ) (is : List Index) → T (list_all (index_from (length outer)) is) → numbers_at vars (map (index_without (length outer)) is) ≡ numbers_at (outer ++ vars) is
numbers-without outer vars [] h = refl
numbers-without outer vars (Const z ∷ is) h = ap (λ l. z ∷ l) (numbers-without outer vars is h)
numbers-without outer vars (Var k ∷ is) h =
    let w = both-true (nat_le (length outer) k) (list_all (index_from (length outer)) is) h in
    ap (λ z. z ∷ numbers_at vars (map (index_without (length outer)) is)) (behind outer vars (pos 0) (k - length outer) k (behind-first (length outer) k w.0))
    ∙ ap (λ l. get_or (outer ++ vars) k (pos 0) ∷ l) (numbers-without outer vars is w.1)

-- the same at each number
position-same : (o : Outcome) (lo hi : ℤ) (f g : ℤ → Outcome) → ((z : ℤ) → f z ≡ g z) → at_position o lo hi f ≡ at_position o lo hi g
position-same (Fault p) lo hi f g h = refl
position-same (Value z) lo hi f g h = ap (λ o. cond (int_le lo z && int_le z hi) o (Fault OutOfDomain)) (h z)

-- the same lists at each element
pub flat-same : {X Y : Type 0} (f g : X → List Y) (xs : List X) → ((x : X) → f x ≡ g x) → flat_map f xs ≡ flat_map g xs
flat-same f g [] h = refl
flat-same f g (x ∷ xs) h = ap (λ y. y ++ flat_map f xs) (h x) ∙ ap (λ l. g x ++ l) (flat-same f g xs h)

pub without-means : (t : Tree) (s : ℕ → ℕ → List ℤ → ℤ) (regs : List Outcome) (outer vars : List ℤ) → T (is_from (length outer) t) → run s regs (without (length outer) t) vars ≡ run s regs t (outer ++ vars)
without-means (lit z) s regs outer vars h = refl
without-means (var k) s regs outer vars h = ap Value (behind outer vars (pos 0) (k - length outer) k (behind-first (length outer) k h))
without-means (reg k) s regs outer vars h = refl
without-means (op1 op e) s regs outer vars h = ap (operate1 op) (without-means e s regs outer vars h)
without-means (op2 op l r) s regs outer vars h =
    let w = both-true (is_from (length outer) l) (is_from (length outer) r) h in
    ap (λ o. operate2 op o (run s regs (without (length outer) r) vars)) (without-means l s regs outer vars w.0)
    ∙ ap (operate2 op (run s regs l (outer ++ vars))) (without-means r s regs outer vars w.1)
without-means (read c f is) s regs outer vars h = ap (λ p. Value (s c f p)) (numbers-without outer vars is h)
without-means (table box items is) s regs outer vars h = ap (λ p. Value (get_or items (rank_of box p) (pos 0))) (numbers-without outer vars is h)
without-means (bind i lo hi e) s regs outer vars h =
    let w = both-true (is_from (length outer) i) (is_from (length outer) e) h in
    ap (λ o. at_position o lo hi (λ z. run s regs (without (length outer) e) (vars ++ z ∷ []))) (without-means i s regs outer vars w.0)
    ∙ position-same (run s regs i (outer ++ vars)) lo hi _ _ (λ z.
    without-means e s regs outer (vars ++ z ∷ []) w.1 ∙ ap (run s regs e) (sym (append_assoc outer vars (z ∷ []))))
without-means (fold op box c e) s regs outer vars h =
    let w = both-true (is_from (length outer) c) (is_from (length outer) e) h in
    ap (condensed op) (flat-same _ _ (points box) (λ x.
    ap (λ o. demanded o (run s regs (without (length outer) e) (vars ++ x))) (without-means c s regs outer (vars ++ x) w.0 ∙ ap (run s regs c) (sym (append_assoc outer vars x)))
    ∙ ap (demanded (run s regs c ((outer ++ vars) ++ x))) (without-means e s regs outer (vars ++ x) w.1 ∙ ap (run s regs e) (sym (append_assoc outer vars x)))))

-- whatever the first variables are
pub from-same : (t : Tree) (s : ℕ → ℕ → List ℤ → ℤ) (regs : List Outcome) (n : ℕ) (one other vars : List ℤ) → T (is_from n t) → length one ≡ n → length other ≡ n → run s regs t (one ++ vars) ≡ run s regs t (other ++ vars)
from-same t s regs n one other vars h e f =
    sym (without-means t s regs one vars (subst (λ m. T (is_from m t)) (sym e) h))
    ∙ ap (λ m. run s regs (without m t) vars) (e ∙ sym f)
    ∙ without-means t s regs other vars (subst (λ m. T (is_from m t)) (sym f) h)

-- ---- the first variables alone

-- an element of the first ones
front : {X : Type 0} (outer xs : List X) (d : X) (k : ℕ) → k < length outer → get_or (outer ++ xs) k d ≡ get_or outer k d
front [] xs d k lt = absurd (omega (arith, lt))
front (y ∷ outer) xs d zero lt = refl
front (y ∷ outer) xs d (suc k) lt = front outer xs d k (omega (arith, lt))

numbers-front : (outer vars : List ℤ) (is : List Index) → T (list_all (index_below (length outer)) is) → numbers_at (outer ++ vars) is ≡ numbers_at outer is
numbers-front outer vars [] h = refl
numbers-front outer vars (Const z ∷ is) h = ap (λ l. z ∷ l) (numbers-front outer vars is h)
numbers-front outer vars (Var k ∷ is) h =
    let w = both-true (nat_lt k (length outer)) (list_all (index_below (length outer)) is) h in
    ap (λ z. z ∷ numbers_at (outer ++ vars) is) (front outer vars (pos 0) k (ltb_yes {a = k} {b = length outer} w.0))
    ∙ ap (λ l. get_or outer k (pos 0) ∷ l) (numbers-front outer vars is w.1)

pub below-means : (t : Tree) (s : ℕ → ℕ → List ℤ → ℤ) (regs : List Outcome) (outer vars : List ℤ) → T (is_below (length outer) t) → run s regs t (outer ++ vars) ≡ run s regs t outer
below-means (lit z) s regs outer vars h = refl
below-means (var k) s regs outer vars h = ap Value (front outer vars (pos 0) k (ltb_yes {a = k} {b = length outer} h))
below-means (reg k) s regs outer vars h = refl
below-means (op1 op e) s regs outer vars h = ap (operate1 op) (below-means e s regs outer vars h)
below-means (op2 op l r) s regs outer vars h =
    let w = both-true (is_below (length outer) l) (is_below (length outer) r) h in
    ap (λ o. operate2 op o (run s regs r (outer ++ vars))) (below-means l s regs outer vars w.0)
    ∙ ap (operate2 op (run s regs l outer)) (below-means r s regs outer vars w.1)
below-means (read c f is) s regs outer vars h = ap (λ p. Value (s c f p)) (numbers-front outer vars is h)
below-means (table box items is) s regs outer vars h = ap (λ p. Value (get_or items (rank_of box p) (pos 0))) (numbers-front outer vars is h)
below-means (bind i lo hi e) s regs outer vars h = absurd h
below-means (fold op box c e) s regs outer vars h = absurd h

some-front : {X : Type 0} (P : X → Type 0) (outer xs : List X) (k : ℕ) → k < length outer → IsSomeAnd (slice_get (outer ++ xs) k) P → IsSomeAnd (slice_get outer k) P
some-front P [] xs k lt s = absurd (omega (arith, lt))
some-front P (y ∷ outer) xs zero lt s = s
some-front P (y ∷ outer) xs (suc k) lt s = some-front P outer xs k (omega (arith, lt)) s

indexes-front : (axes scope more : List Interval) (is : List Index) → T (list_all (index_below (length scope)) is) → Indexes axes (scope ++ more) is → Indexes axes scope is
indexes-front [] scope more [] h l = tt
indexes-front [] scope more (i ∷ is) h l = absurd l
indexes-front (a ∷ axes) scope more [] h l = absurd l
indexes-front (a ∷ axes) scope more (Const z ∷ is) h l = (l.0, indexes-front axes scope more is h l.1)
indexes-front (a ∷ axes) scope more (Var k ∷ is) h l =
    let w = both-true (nat_lt k (length scope)) (list_all (index_below (length scope)) is) h in
    (some-front (λ b. LiesWithin b a) scope more k (ltb_yes {a = k} {b = length scope} w.0) l.0, indexes-front axes scope more is w.1 l.1)

cells-front : (c : Option Signature) (f : ℕ) (scope more : List Interval) (is : List Index) → T (list_all (index_below (length scope)) is) → HasCells c f (scope ++ more) is → HasCells c f scope is
cells-front None f scope more is h l = absurd l
cells-front (Some c) f scope more is h l = (l.0, indexes-front (spans c.domain) scope more is h l.1)

-- a body that uses the first variables alone has its place under these
pub below-placed : (t : Tree) (cs : ℕ → Option Signature) (count : ℕ) (scope more : List Interval) → T (is_below (length scope) t) → IsPlaced cs count (scope ++ more) t → IsPlaced cs count scope t
below-placed (lit z) cs count scope more h p = tt
below-placed (var k) cs count scope more h p = ltb_yes {a = k} {b = length scope} h
below-placed (reg k) cs count scope more h p = p
below-placed (op1 op e) cs count scope more h p = below-placed e cs count scope more h p
below-placed (op2 op l r) cs count scope more h p =
    let w = both-true (is_below (length scope) l) (is_below (length scope) r) h in
    (below-placed l cs count scope more w.0 p.0, below-placed r cs count scope more w.1 p.1)
below-placed (read c f is) cs count scope more h p = cells-front (cs c) f scope more is h p
below-placed (table box items is) cs count scope more h p = (indexes-front (spans box) scope more is h p.0, p.1)
below-placed (bind i lo hi e) cs count scope more h p = absurd h
below-placed (fold op box c e) cs count scope more h p = absurd h
