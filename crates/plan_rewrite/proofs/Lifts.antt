-- A body that uses none of its first variables has its place without them; more registers change nothing.
use Rattle.std.proofs.Common.{◌≡◌, ℕ, zero, suc, ◌+◌, ◌-◌, ◌<◌, ◌≤◌, List, [], ◌∷◌, ◌++◌, length, map, get_or, refl, ap, ◌∙◌, subst, arith, ℤ, pos, append_assoc, length-append, T}
use Rattle.std.specs.Prelude.{Option, Some, None, slice_get, IsSomeAnd, nat_le}
use Rattle.std.specs.List.{list_all}
use Rattle.std.proofs.lemmas.List.{get_or_append_left}
use Rattle.arr_core.specs.declared.signature.Signature.{Signature}
use Rattle.arr_core.specs.Domains.{points}
use Rattle.wcps_mean.specs.declared.cell.Outcome.{Outcome}
use Rattle.wcps_mean.specs.declared.cell.Outcome.TheVariants.{Value}
use Rattle.wcps_mean.specs.Cells.{operate1, operate2, at_position}
use Rattle.wcps_mean.specs.Condensers.{condensed, demanded}
use Rattle.plan_ir.specs.declared.body.Index.{Index}
use Rattle.plan_ir.specs.declared.body.Index.TheVariants.{Const, Var}
use Rattle.plan_ir.specs.declared.body.Interval.{Interval}
use Rattle.plan_ir.specs.Bodies.{Tree, lit, var, reg, op1, op2, read, table, bind, fold}
use Rattle.plan_ir.specs.Run.{run}
use Rattle.plan_ir.proofs.FirstVariables.{both-true, behind-first}
use Rattle.plan_ir.specs.Placed.{spans, LiesWithin, Indexes, HasCells, IsPlaced}
use Rattle.plan_ir.specs.Variables.{index_from, is_from, index_without, without}
use Rattle.plan_rewrite.proofs.Scopes.{Lie, points-lie, flat-same}
use Rattle.plan_rewrite.proofs.Inlines.{position-same}

some-behind : {X : Type 0} (P : X → Type 0) (outer xs : List X) (j k : ℕ) → k ≡ length outer + j → IsSomeAnd (slice_get (outer ++ xs) k) P → IsSomeAnd (slice_get xs j) P
some-behind P [] xs j k e s = let f : k ≡ j = omega (arith, e) in subst (λ i. IsSomeAnd (slice_get xs i) P) f s
some-behind P (y ∷ outer) xs j zero e s = absurd (omega (arith, e))
some-behind P (y ∷ outer) xs j (suc k) e s = some-behind P outer xs j k (omega (arith, e)) s

below-without : (n m total k : ℕ) → T (nat_le n k) → total ≡ n + m → k < total → k - n < m
below-without n m total k h e p = let l = behind-first n k h in omega (arith, l, e, p)

indexes-without : (axes outer scope : List Interval) (is : List Index) → T (list_all (index_from (length outer)) is) → Indexes axes (outer ++ scope) is → Indexes axes scope (map (index_without (length outer)) is)
indexes-without [] outer scope [] h l = tt
indexes-without [] outer scope (i ∷ is) h l = absurd l
indexes-without (a ∷ axes) outer scope [] h l = absurd l
indexes-without (a ∷ axes) outer scope (Const z ∷ is) h l = (l.0, indexes-without axes outer scope is h l.1)
indexes-without (a ∷ axes) outer scope (Var k ∷ is) h l =
    let w = both-true (nat_le (length outer) k) (list_all (index_from (length outer)) is) h in
    (some-behind (λ b. LiesWithin b a) outer scope (k - length outer) k (behind-first (length outer) k w.0) l.0, indexes-without axes outer scope is w.1 l.1)

cells-without : (c : Option Signature) (f : ℕ) (outer scope : List Interval) (is : List Index) → T (list_all (index_from (length outer)) is) → HasCells c f (outer ++ scope) is → HasCells c f scope (map (index_without (length outer)) is)
cells-without None f outer scope is h l = absurd l
cells-without (Some c) f outer scope is h l = (l.0, indexes-without (spans c.domain) outer scope is h l.1)

pub without-placed : (t : Tree) (cs : ℕ → Option Signature) (count : ℕ) (outer scope : List Interval) → T (is_from (length outer) t) → IsPlaced cs count (outer ++ scope) t → IsPlaced cs count scope (without (length outer) t)
without-placed (lit z) cs count outer scope h p = tt
without-placed (var k) cs count outer scope h p = below-without (length outer) (length scope) (length (outer ++ scope)) k h (length-append outer scope) p
without-placed (reg k) cs count outer scope h p = p
without-placed (op1 op e) cs count outer scope h p = without-placed e cs count outer scope h p
without-placed (op2 op l r) cs count outer scope h p =
    let w = both-true (is_from (length outer) l) (is_from (length outer) r) h in
    (without-placed l cs count outer scope w.0 p.0, without-placed r cs count outer scope w.1 p.1)
without-placed (read c f is) cs count outer scope h p = cells-without (cs c) f outer scope is h p
without-placed (table box items is) cs count outer scope h p = (indexes-without (spans box) outer scope is h p.0, p.1)
without-placed (bind i lo hi e) cs count outer scope h p =
    let w = both-true (is_from (length outer) i) (is_from (length outer) e) h in
    let one : List Interval = record { lo = lo; hi = hi } ∷ [] in
    (without-placed i cs count outer scope w.0 p.0, without-placed e cs count outer (scope ++ one) w.1 (subst (λ l. IsPlaced cs count l e) (append_assoc outer scope one) p.1))
without-placed (fold op box c e) cs count outer scope h p =
    let w = both-true (is_from (length outer) c) (is_from (length outer) e) h in (
      without-placed c cs count outer (scope ++ spans box) w.0 (subst (λ l. IsPlaced cs count l c) (append_assoc outer scope (spans box)) p.0),
      without-placed e cs count outer (scope ++ spans box) w.1 (subst (λ l. IsPlaced cs count l e) (append_assoc outer scope (spans box)) p.1),
    )

registers-left : (regs more : List Outcome) (k : ℕ) → k < length regs → get_or (regs ++ more) k (Value (pos 0)) ≡ get_or regs k (Value (pos 0))
registers-left regs more k h = get_or_append_left regs more (Value (pos 0)) k h

-- more registers change nothing
pub more-means : (t : Tree) (s : ℕ → ℕ → List ℤ → ℤ) (regs more : List Outcome) (cs : ℕ → Option Signature) (scope : List Interval) (vars : List ℤ) → IsPlaced cs (length regs) scope t → run s (regs ++ more) t vars ≡ run s regs t vars
more-means (lit z) s regs more cs scope vars p = refl
more-means (var k) s regs more cs scope vars p = refl
more-means (reg k) s regs more cs scope vars p = registers-left regs more k p
more-means (op1 op e) s regs more cs scope vars p = ap (operate1 op) (more-means e s regs more cs scope vars p)
more-means (op2 op l r) s regs more cs scope vars p =
    ap (λ o. operate2 op o (run s (regs ++ more) r vars)) (more-means l s regs more cs scope vars p.0)
    ∙ ap (operate2 op (run s regs l vars)) (more-means r s regs more cs scope vars p.1)
more-means (read c f is) s regs more cs scope vars p = refl
more-means (table box items is) s regs more cs scope vars p = refl
more-means (bind i lo hi e) s regs more cs scope vars p =
    ap (λ o. at_position o lo hi (λ z. run s (regs ++ more) e (vars ++ z ∷ []))) (more-means i s regs more cs scope vars p.0)
    ∙ position-same (run s regs i vars) lo hi _ _ (λ z above below. more-means e s regs more cs (scope ++ record { lo = lo; hi = hi } ∷ []) (vars ++ z ∷ []) p.1)
more-means (fold op box c e) s regs more cs scope vars p =
    ap (condensed op) (flat-same (Lie (spans box)) _ _ (points box) (λ x lx.
    ap (λ o. demanded o (run s (regs ++ more) e (vars ++ x))) (more-means c s regs more cs (scope ++ spans box) (vars ++ x) p.0)
    ∙ ap (demanded (run s regs c (vars ++ x))) (more-means e s regs more cs (scope ++ spans box) (vars ++ x) p.1)) (points-lie box))

pub more-placed : (t : Tree) (cs : ℕ → Option Signature) (n m : ℕ) (scope : List Interval) → n ≤ m → IsPlaced cs n scope t → IsPlaced cs m scope t
more-placed (lit z) cs n m scope le p = tt
more-placed (var k) cs n m scope le p = p
more-placed (reg k) cs n m scope le p = omega (arith, le, p)
more-placed (op1 op e) cs n m scope le p = more-placed e cs n m scope le p
more-placed (op2 op l r) cs n m scope le p = (more-placed l cs n m scope le p.0, more-placed r cs n m scope le p.1)
more-placed (read c f is) cs n m scope le p = p
more-placed (table box items is) cs n m scope le p = p
more-placed (bind i lo hi e) cs n m scope le p = (more-placed i cs n m scope le p.0, more-placed e cs n m (scope ++ record { lo = lo; hi = hi } ∷ []) le p.1)
more-placed (fold op box c e) cs n m scope le p = (more-placed c cs n m (scope ++ spans box) le p.0, more-placed e cs n m (scope ++ spans box) le p.1)
