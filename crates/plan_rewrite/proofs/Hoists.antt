-- A hoisted body gives what the body gives, is well-formed, and has no closed fold left.
use Rattle.std.proofs.Common.{◌≡◌, ℕ, ◌+◌, ◌<◌, List, [], ◌∷◌, ◌++◌, length, get_or, refl, sym, ap, ◌∙◌, subst, arith, ℤ, pos, append_assoc, append-nil, length-append, T, Bool, true, false, cond}
use Rattle.std.specs.Prelude.{Option, ◌&&◌}
use Rattle.std.proofs.lemmas.List.{get_or_append_left}
use Rattle.std.proofs.Math.Seq.{get_or-append_seam}
use Rattle.arr_core.specs.declared.signature.Signature.{Signature}
use Rattle.arr_core.specs.Domains.{points}
use Rattle.wcps_mean.specs.declared.cell.Outcome.{Outcome}
use Rattle.wcps_mean.specs.declared.cell.Outcome.TheVariants.{Value}
use Rattle.wcps_mean.specs.Cells.{operate1, operate2, at_position}
use Rattle.wcps_mean.specs.Condensers.{condensed, demanded}
use Rattle.plan_ir.specs.declared.body.Interval.{Interval}
use Rattle.plan_ir.specs.Bodies.{Tree, lit, var, reg, op1, op2, read, table, bind, fold}
use Rattle.plan_ir.specs.Run.{run}
use Rattle.plan_ir.specs.Plans.{PassTree}
use Rattle.plan_ir.specs.Planned.{pass_outcome, registers_after, registers}
use Rattle.std.proofs.lemmas.List.{length-map}
use Rattle.plan_ir.specs.Placed.{span, spans, IsPlaced, PassesArePlaced}
use Rattle.plan_ir.proofs.Registers.{registers_more}
use Rattle.plan_ir.specs.Variables.{is_from, without}
use Rattle.plan_rewrite.specs.Hoisting.{Hoist, hoisting}
use Rattle.plan_rewrite.proofs.Scopes.{Lie, lie-length, points-lie, flat-same}
use Rattle.plan_rewrite.proofs.Inlines.{position-same}
use Rattle.plan_ir.proofs.FirstVariables.{both-true, without-means}
use Rattle.plan_rewrite.proofs.Lifts.{without-placed, more-means, more-placed}

-- registers are added behind those before
registers-added : (s : ℕ → ℕ → List ℤ → ℤ) (regs : List Outcome) (more : List PassTree) → (rest : List Outcome) × (registers_after s regs more ≡ regs ++ rest)
registers-added s regs [] = ([], sym (append-nil regs))
registers-added s regs (p ∷ more) =
    let w = registers-added s (regs ++ pass_outcome s regs p ∷ []) more in
    (pass_outcome s regs p ∷ w.0, w.1 ∙ append_assoc regs (pass_outcome s regs p ∷ []) w.0)

pub registers-append : (s : ℕ → ℕ → List ℤ → ℤ) (regs : List Outcome) (ps more : List PassTree) → registers_after s regs (ps ++ more) ≡ registers_after s (registers_after s regs ps) more
registers-append s regs [] more = refl
registers-append s regs (p ∷ ps) more = registers-append s (regs ++ pass_outcome s regs p ∷ []) ps more

pub registers-length : (s : ℕ → ℕ → List ℤ → ℤ) (regs : List Outcome) (ps : List PassTree) → length (registers_after s regs ps) ≡ length regs + length ps
registers-length s regs [] = omega arith
registers-length s regs (p ∷ ps) = omega (arith, registers-length s (regs ++ pass_outcome s regs p ∷ []) ps, length-append regs (pass_outcome s regs p ∷ []))

pub registers-count : (s : ℕ → ℕ → List ℤ → ℤ) (ps : List PassTree) → length (registers s ps) ≡ length ps
registers-count s ps = omega (arith, registers-length s [] ps)

-- one pass more is well-formed behind the others
pub passes-last : (ps : List PassTree) (cs : ℕ → Option Signature) (n m : ℕ) (p : PassTree) → m ≡ n + length ps → PassesArePlaced cs n ps → IsPlaced cs m (spans p.domain) p.condition → IsPlaced cs m (spans p.domain) p.body → PassesArePlaced cs n (ps ++ p ∷ [])
passes-last [] cs n m p e h c b =
    let f : m ≡ n = omega (arith, e) in
    (subst (λ k. IsPlaced cs k (spans p.domain) p.condition) f c, subst (λ k. IsPlaced cs k (spans p.domain) p.body) f b, tt)
passes-last (q ∷ ps) cs n m p e h c b = (h.0, h.1, passes-last ps cs (n + 1) m p (omega (arith, e)) h.2 c b)

-- the outcomes before behind those passes, each at its new place
pub record Kept (s : ℕ → ℕ → List ℤ → ℤ) (regs : List ℕ) (old : List Outcome) (passes : List PassTree) : Type 0 where
  pub below : (k : ℕ) → k < length old → get_or regs k 0 < length passes
  pub same : (k : ℕ) → k < length old → get_or (registers s passes) (get_or regs k 0) (Value (pos 0)) ≡ get_or old k (Value (pos 0))

-- registers behind more passes
pub later : (s : ℕ → ℕ → List ℤ → ℤ) (passes more : List PassTree) (k : ℕ) → k < length passes → get_or (registers s (passes ++ more)) k (Value (pos 0)) ≡ get_or (registers s passes) k (Value (pos 0))
later s passes more k lt =
    let w = registers-added s (registers s passes) more in
    let n = registers-count s passes in
    ap (λ l. get_or l k (Value (pos 0))) (registers-append s [] passes more ∙ w.1)
    ∙ get_or_append_left (registers s passes) w.0 (Value (pos 0)) k (omega (arith, lt, n))

pub kept-more : (s : ℕ → ℕ → List ℤ → ℤ) (regs : List ℕ) (old : List Outcome) (passes more : List PassTree) → Kept s regs old passes → Kept s regs old (passes ++ more)
kept-more s regs old passes more h = record {
  below = λ k lt. let b = h.below k lt in omega (arith, b, length-append passes more);
  same = λ k lt. later s passes more (get_or regs k 0) (h.below k lt) ∙ h.same k lt;
}

-- a body that reads registers of passes alone means the same behind more passes
pub run-later : (s : ℕ → ℕ → List ℤ → ℤ) (cs : ℕ → Option Signature) (passes more : List PassTree) (scope : List Interval) (t : Tree) (vars : List ℤ) → IsPlaced cs (length passes) scope t → run s (registers s (passes ++ more)) t vars ≡ run s (registers s passes) t vars
run-later s cs passes more scope t vars p =
    let w = registers-added s (registers s passes) more in
    ap (λ r. run s r t vars) (registers-append s [] passes more ∙ w.1)
    ∙ more-means t s (registers s passes) w.0 cs scope vars (subst (λ n. IsPlaced cs n scope t) (sym (registers-count s passes)) p)

pub placed-later : (cs : ℕ → Option Signature) (passes more : List PassTree) (scope : List Interval) (t : Tree) → IsPlaced cs (length passes) scope t → IsPlaced cs (length (passes ++ more)) scope t
placed-later cs passes more scope t p = more-placed t cs (length passes) (length (passes ++ more)) scope (omega (arith, length-append passes more)) p

pub record Hoists (s : ℕ → ℕ → List ℤ → ℤ) (cs : ℕ → Option Signature) (old : List Outcome) (passes : List PassTree) (scope : List Interval) (t : Tree) (h : Hoist) : Type 0 where
  pub more : List PassTree
  pub extends : h.passes ≡ passes ++ more
  pub passes_placed : PassesArePlaced cs 0 h.passes
  pub placed : IsPlaced cs (length h.passes) scope h.body
  pub means : (vars : List ℤ) → length vars ≡ length scope → run s (registers s h.passes) h.body vars ≡ run s old t vars

under : (s : ℕ → ℕ → List ℤ → ℤ) (cs : ℕ → Option Signature) (old : List Outcome) (passes : List PassTree) (scope : List Interval) (t : Tree) → PassesArePlaced cs 0 passes → IsPlaced cs (length passes) scope t → (t' : Tree) → ((vars : List ℤ) → run s (registers s passes) t vars ≡ run s old t' vars) → Hoists s cs old passes scope t' (record { passes = passes; body = t })
under s cs old passes scope t h p t' m = record { more = []; extends = sym (append-nil passes); passes_placed = h; placed = p; means = λ vars e. m vars }

-- one part after another: what the first one gave stays as it was
pub record TwoHoist (s : ℕ → ℕ → List ℤ → ℤ) (cs : ℕ → Option Signature) (old : List Outcome) (passes : List PassTree) (inner outer : List Interval) (l r : Tree) (hl hr : Hoist) : Type 0 where
  pub more : List PassTree
  pub extends : hr.passes ≡ passes ++ more
  pub passes_placed : PassesArePlaced cs 0 hr.passes
  pub left_placed : IsPlaced cs (length hr.passes) inner hl.body
  pub right_placed : IsPlaced cs (length hr.passes) outer hr.body
  pub left_means : (vars : List ℤ) → length vars ≡ length inner → run s (registers s hr.passes) hl.body vars ≡ run s old l vars
  pub right_means : (vars : List ℤ) → length vars ≡ length outer → run s (registers s hr.passes) hr.body vars ≡ run s old r vars

pub two : (s : ℕ → ℕ → List ℤ → ℤ) (cs : ℕ → Option Signature) (old : List Outcome) (passes : List PassTree) (inner outer : List Interval) (l r : Tree) (hl hr : Hoist) → Hoists s cs old passes inner l hl → Hoists s cs old hl.passes outer r hr → TwoHoist s cs old passes inner outer l r hl hr
two s cs old passes inner outer l r hl hr a b = record {
  more = a.more ++ b.more;
  extends = b.extends ∙ ap (λ q. q ++ b.more) a.extends ∙ append_assoc passes a.more b.more;
  passes_placed = b.passes_placed;
  left_placed = subst (λ q. IsPlaced cs (length q) inner hl.body) (sym b.extends) (placed-later cs hl.passes b.more inner hl.body a.placed);
  right_placed = b.placed;
  left_means = λ vars e. ap (λ q. run s (registers s q) hl.body vars) b.extends ∙ run-later s cs hl.passes b.more inner hl.body vars a.placed ∙ a.means vars e;
  right_means = b.means;
}

-- the outcome of the last pass
pub last-register : (s : ℕ → ℕ → List ℤ → ℤ) (passes : List PassTree) (p : PassTree) → get_or (registers s (passes ++ p ∷ [])) (length passes) (Value (pos 0)) ≡ pass_outcome s (registers s passes) p
last-register s passes p =
    let n = registers-count s passes in
    ap (λ l. get_or l (length passes) (Value (pos 0))) (registers_more s [] passes p)
    ∙ ap (λ k. get_or (registers s passes ++ pass_outcome s (registers s passes) p ∷ []) k (Value (pos 0))) (sym n)
    ∙ get_or-append_seam (registers s passes) (pass_outcome s (registers s passes) p) [] (Value (pos 0))

-- a fold that was hoisted, or was not
pass-hoists : (b : Bool) (s : ℕ → ℕ → List ℤ → ℤ) (cs : ℕ → Option Signature) (old : List Outcome) (passes0 passes : List PassTree) (scope : List Interval) (f : PassTree) (t : Tree)
    → (is_from (length scope) f.condition && is_from (length scope) f.body) ≡ b
    → (more : List PassTree) → passes ≡ passes0 ++ more → PassesArePlaced cs 0 passes
    → IsPlaced cs (length passes) scope (fold f.op f.domain f.condition f.body)
    → ((vars : List ℤ) → length vars ≡ length scope → run s (registers s passes) (fold f.op f.domain f.condition f.body) vars ≡ run s old t vars)
    → Hoists s cs old passes0 scope t (cond b
    (record {
      passes = passes ++ record { op = f.op; domain = f.domain; condition = without (length scope) f.condition; body = without (length scope) f.body } ∷ [];
      body = reg (length passes);
    })
    (record { passes = passes; body = fold f.op f.domain f.condition f.body }))
pass-hoists false s cs old passes0 passes scope f t is more extends h p m = record { more = more; extends = extends; passes_placed = h; placed = p; means = m }
pass-hoists true s cs old passes0 passes scope f t is more extends h p m =
    let n = length scope in
    let q : PassTree = record { op = f.op; domain = f.domain; condition = without n f.condition; body = without n f.body } in
    let w = both-true (is_from n f.condition) (is_from n f.body) (subst T (sym is) tt) in
    record {
      more = more ++ q ∷ [];
      extends = ap (λ l. l ++ q ∷ []) extends ∙ append_assoc passes0 more (q ∷ []);
      passes_placed = passes-last passes cs 0 (length passes) q (omega arith) h
          (without-placed f.condition cs (length passes) scope (spans f.domain) w.0 p.0)
          (without-placed f.body cs (length passes) scope (spans f.domain) w.1 p.1);
      placed = omega (arith, length-append passes (q ∷ []));
      means = λ vars e.
          last-register s passes q
          ∙ ap (λ k. run s (registers s passes) (fold f.op f.domain (without k f.condition) (without k f.body)) []) (sym e)
          ∙ without-means (fold f.op f.domain f.condition f.body) s (registers s passes) vars [] (subst (λ k. T (is_from k f.condition && is_from k f.body)) (sym e) (subst T (sym is) tt))
          ∙ ap (run s (registers s passes) (fold f.op f.domain f.condition f.body)) (append-nil vars)
          ∙ m vars e;
    }

pub hoists : (t : Tree) (s : ℕ → ℕ → List ℤ → ℤ) (cs : ℕ → Option Signature) (regs : List ℕ) (old : List Outcome) (passes : List PassTree) (scope : List Interval) → Kept s regs old passes → PassesArePlaced cs 0 passes → IsPlaced cs (length old) scope t → Hoists s cs old passes scope t (hoisting regs (length scope) passes t)
hoists (lit z) s cs regs old passes scope k h p = under s cs old passes scope (lit z) h tt (lit z) (λ vars. refl)
hoists (var j) s cs regs old passes scope k h p = under s cs old passes scope (var j) h p (var j) (λ vars. refl)
hoists (reg j) s cs regs old passes scope k h p = under s cs old passes scope (reg (get_or regs j 0)) h (k.below j p) (reg j) (λ vars. k.same j p)
hoists (op1 op e) s cs regs old passes scope k h p =
    let w = hoists e s cs regs old passes scope k h p in
    record { more = w.more; extends = w.extends; passes_placed = w.passes_placed; placed = w.placed; means = λ vars l. ap (operate1 op) (w.means vars l) }
hoists (op2 op l r) s cs regs old passes scope k h p =
    let hl = hoisting regs (length scope) passes l in
    let a = hoists l s cs regs old passes scope k h p.0 in
    let kl = subst (Kept s regs old) (sym a.extends) (kept-more s regs old passes a.more k) in
    let b = hoists r s cs regs old hl.passes scope kl a.passes_placed p.1 in
    let w = two s cs old passes scope scope l r hl (hoisting regs (length scope) hl.passes r) a b in
    record {
      more = w.more;
      extends = w.extends;
      passes_placed = w.passes_placed;
      placed = (w.left_placed, w.right_placed);
      means = λ vars e. ap (λ o. operate2 op o (run s (registers s (hoisting regs (length scope) hl.passes r).passes) (hoisting regs (length scope) hl.passes r).body vars)) (w.left_means vars e)
          ∙ ap (operate2 op (run s old l vars)) (w.right_means vars e);
    }
hoists (read c f is) s cs regs old passes scope k h p = under s cs old passes scope (read c f is) h p (read c f is) (λ vars. refl)
hoists (table box items is) s cs regs old passes scope k h p = under s cs old passes scope (table box items is) h p (table box items is) (λ vars. refl)
hoists (bind i lo hi e) s cs regs old passes scope k h p =
    let one : List Interval = record { lo = lo; hi = hi } ∷ [] in
    let hi' = hoisting regs (length scope) passes i in
    let a = hoists i s cs regs old passes scope k h p.0 in
    let ki = subst (Kept s regs old) (sym a.extends) (kept-more s regs old passes a.more k) in
    let long : length (scope ++ one) ≡ length scope + 1 = length-append scope one in
    let he = hoisting regs (length scope + 1) hi'.passes e in
    let b = subst (λ n. Hoists s cs old hi'.passes (scope ++ one) e (hoisting regs n hi'.passes e)) long (hoists e s cs regs old hi'.passes (scope ++ one) ki a.passes_placed p.1) in
    let w = two s cs old passes scope (scope ++ one) i e hi' he a b in
    record {
      more = w.more;
      extends = w.extends;
      passes_placed = w.passes_placed;
      placed = (w.left_placed, w.right_placed);
      means = λ vars l. ap (λ o. at_position o lo hi (λ z. run s (registers s he.passes) he.body (vars ++ z ∷ []))) (w.left_means vars l)
          ∙ position-same (run s old i vars) lo hi _ _ (λ z above below. w.right_means (vars ++ z ∷ []) (omega (arith, l, length-append vars (z ∷ []), length-append scope one)));
    }
hoists (fold op box c e) s cs regs old passes scope k h p =
    let n = length scope + length box in
    let long : length (scope ++ spans box) ≡ n = length-append scope (spans box) ∙ ap (λ m. length scope + m) (length-map box span) in
    let hc = hoisting regs n passes c in
    let a = subst (λ m. Hoists s cs old passes (scope ++ spans box) c (hoisting regs m passes c)) long (hoists c s cs regs old passes (scope ++ spans box) k h p.0) in
    let kc = subst (Kept s regs old) (sym a.extends) (kept-more s regs old passes a.more k) in
    let he = hoisting regs n hc.passes e in
    let b = subst (λ m. Hoists s cs old hc.passes (scope ++ spans box) e (hoisting regs m hc.passes e)) long (hoists e s cs regs old hc.passes (scope ++ spans box) kc a.passes_placed p.1) in
    let w = two s cs old passes (scope ++ spans box) (scope ++ spans box) c e hc he a b in
    let f : PassTree = record { op = op; domain = box; condition = hc.body; body = he.body } in
    pass-hoists (is_from (length scope) hc.body && is_from (length scope) he.body) s cs old passes he.passes scope f (fold op box c e) refl w.more w.extends w.passes_placed (w.left_placed, w.right_placed)
    (λ vars l. ap (condensed op) (flat-same (Lie (spans box)) _ _ (points box) (λ x lx.
    let lies : length (vars ++ x) ≡ length (scope ++ spans box) = omega (arith, l, length-append vars x, length-append scope (spans box), lie-length (spans box) x lx) in
    ap (λ o. demanded o (run s (registers s he.passes) he.body (vars ++ x))) (w.left_means (vars ++ x) lies)
    ∙ ap (demanded (run s old c (vars ++ x))) (w.right_means (vars ++ x) lies)) (points-lie box)))
