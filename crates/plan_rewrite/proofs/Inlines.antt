-- An inlined body means what the body means, is well-formed, and has no bind left that could be inlined.
use Rattle.std.proofs.Common.{◌≡◌, ℕ, zero, suc, ◌<◌, List, [], ◌∷◌, ◌++◌, length, map, get_or, refl, sym, ap, ◌∙◌, subst, arith, ℤ, pos, ◌≤ℤ◌, cond, T, Bool, true, false}
use Rattle.std.specs.Prelude.{Option, Some, None, slice_get, IsSomeAnd, option_and_then, int_le, ◌&&◌}
use Rattle.std.specs.Int.Signed.{le_z_yes}
use Rattle.std.proofs.lemmas.Int.{ints}
use Rattle.std.proofs.lemmas.List.{map-append}
use Rattle.arr_core.specs.declared.signature.Signature.{Signature}
use Rattle.arr_core.specs.Domains.{points, rank_of}
use Rattle.wcps_mean.specs.declared.cell.PointFault.TheVariants.{OutOfDomain}
use Rattle.wcps_mean.specs.declared.cell.Outcome.{Outcome}
use Rattle.wcps_mean.specs.declared.cell.Outcome.TheVariants.{Value, Fault}
use Rattle.wcps_mean.specs.Cells.{operate1, operate2, exact1, at_position}
use Rattle.wcps_mean.specs.Condensers.{condensed, demanded}
use Rattle.plan_ir.specs.declared.body.Index.{Index}
use Rattle.plan_ir.specs.declared.body.Index.TheVariants.{Const, Var}
use Rattle.plan_ir.specs.declared.body.Interval.{Interval}
use Rattle.plan_ir.specs.Bodies.{Tree, lit, var, reg, op1, op2, read, table, bind, fold}
use Rattle.plan_ir.specs.Run.{number_at, numbers_at, run}
use Rattle.plan_ir.specs.Placed.{spans, LiesWithin, LiesIn, Indexes, HasCells, IsPlaced}
use Rattle.plan_rewrite.specs.Inlining.{variable, index_for, levels, value_of, literal, constant_in, variable_in, stand_in, bind_or_go, inlining}
use Rattle.plan_rewrite.specs.Everywhere.{InBody}
use Rattle.plan_rewrite.specs.Rewritten.{NoInlinableBind}
use Rattle.plan_rewrite.proofs.Scopes.{Lie, lie-append, lie-one, points-lie, flat-same, at-map, some-within, lies-wider, indexes-append, numbers-under, indexes-under}

-- a test that gave something passed
test-some : (b : Bool) (x i : Index) → cond b (Some x) None ≡ Some i → T b × (x ≡ i)
test-some true x i h = (tt, (cc))
test-some false x i h = absurd (cc)

both : (b c : Bool) → T (b && c) → T b × T c
both true true h = (tt, tt)
both true false h = absurd h
both false c h = absurd h

constant-some : (lo hi : ℤ) (o : Option ℤ) (i : Index) → constant_in lo hi o ≡ Some i → (z : ℤ) × (o ≡ Some z) × (i ≡ Const z) × (lo ≤ℤ z) × (z ≤ℤ hi)
constant-some lo hi None i h = absurd (cc)
constant-some lo hi (Some z) i h =
    let t = test-some (int_le lo z && int_le z hi) (Const z) i h in
    let w = both (int_le lo z) (int_le z hi) t.0 in
    (z, refl, sym t.1, le_z_yes w.0, le_z_yes w.1)

abbrev Inner : ℤ → ℤ → Interval → Type 0
Inner lo hi v = (v.lo ≤ℤ v.hi) × (lo ≤ℤ v.lo) × (v.hi ≤ℤ hi)

outer-test : (b c : Bool) (x i : Index) → cond b (cond c (Some x) None) None ≡ Some i → T b × T c × (x ≡ i)
outer-test true c x i h = let t = test-some c x i h in (tt, t.0, t.1)
outer-test false c x i h = absurd (cc)

variable-some : (lo hi : ℤ) (k : ℕ) (o : Option Interval) (i : Index) → variable_in lo hi k o ≡ Some i → (i ≡ Var k) × IsSomeAnd o (Inner lo hi)
variable-some lo hi k None i h = absurd (cc)
variable-some lo hi k (Some v) i h =
    let t = outer-test (int_le v.lo v.hi) (int_le lo v.lo && int_le v.hi hi) (Var k) i h in
    let w = both (int_le lo v.lo) (int_le v.hi hi) t.1 in
    (sym t.2, (le_z_yes t.0, le_z_yes w.0, le_z_yes w.1))

-- what lies in an interval at each point
pub record StandsIn (scope : List Interval) (lo hi : ℤ) (i : Index) : Type 0 where
  pub lies : LiesIn (record { lo = lo; hi = hi }) scope i
  pub above : (vars : List ℤ) → Lie scope vars → lo ≤ℤ number_at vars i
  pub below : (vars : List ℤ) → Lie scope vars → number_at vars i ≤ℤ hi

value-some : (o : Outcome) (z : ℤ) → value_of o ≡ Some z → o ≡ Value z
value-some (Value y) z h = ap Value (cc)
value-some (Fault f) z h = absurd (cc)

then-some : (f : ℤ → Option ℤ) (o : Option ℤ) (z : ℤ) → option_and_then f o ≡ Some z → (w : ℤ) × (o ≡ Some w) × (f w ≡ Some z)
then-some f None z h = absurd (cc)
then-some f (Some w) z h = (w, refl, h)

-- a literal has its number at each point
literal-means : (s : ℕ → ℕ → List ℤ → ℤ) (regs : List Outcome) (vars : List ℤ) (t : Tree) (z : ℤ) → literal t ≡ Some z → run s regs t vars ≡ Value z
literal-means s regs vars (lit y) z h = ap Value (cc)
literal-means s regs vars (var k) z h = absurd (cc)
literal-means s regs vars (reg k) z h = absurd (cc)
literal-means s regs vars (op1 op e) z h =
    let w = then-some (λ y. value_of (exact1 op y)) (literal e) z h in
    ap (operate1 op) (literal-means s regs vars e w.0 w.1) ∙ value-some (exact1 op w.0) z w.2
literal-means s regs vars (op2 op l r) z h = absurd (cc)
literal-means s regs vars (read c f is) z h = absurd (cc)
literal-means s regs vars (table box items is) z h = absurd (cc)
literal-means s regs vars (bind i lo hi e) z h = absurd (cc)
literal-means s regs vars (fold op box c e) z h = absurd (cc)

constant-stands : (scope : List Interval) (lo hi z : ℤ) (i : Index) → i ≡ Const z → lo ≤ℤ z → z ≤ℤ hi → StandsIn scope lo hi i
constant-stands scope lo hi z i e l u = subst (StandsIn scope lo hi) (sym e) (record { lies = (l, u); above = λ vars h. l; below = λ vars h. u })

-- a variable lies in its interval
variable-lies : (scope : List Interval) (k : ℕ) (vars : List ℤ) (lo hi : ℤ) → Lie scope vars → IsSomeAnd (slice_get scope k) (Inner lo hi) → (lo ≤ℤ get_or vars k (pos 0)) × (get_or vars k (pos 0) ≤ℤ hi)
variable-lies [] k vars lo hi h f = absurd f
variable-lies (v ∷ scope) k [] lo hi h f = absurd h
variable-lies (v ∷ scope) zero (x ∷ vars) lo hi h f =
    let w = h.0 f.0 in
    let a : v.lo ≤ℤ x = w.0 in let b : x ≤ℤ v.hi = w.1 in let l : lo ≤ℤ v.lo = f.1 in let u : v.hi ≤ℤ hi = f.2 in
    (omega (arith, ints), omega (arith, ints))
variable-lies (v ∷ scope) (suc k) (x ∷ vars) lo hi h f = variable-lies scope k vars lo hi h.1 f

inner-within : (scope : List Interval) (k : ℕ) (lo hi : ℤ) → IsSomeAnd (slice_get scope k) (Inner lo hi) → IsSomeAnd (slice_get scope k) (λ b. LiesWithin b (record { lo = lo; hi = hi }))
inner-within [] k lo hi f = absurd f
inner-within (v ∷ scope) zero lo hi f = (f.1, f.2)
inner-within (v ∷ scope) (suc k) lo hi f = inner-within scope k lo hi f

variable-stands : (scope : List Interval) (lo hi : ℤ) (k : ℕ) (i : Index) → i ≡ Var k → IsSomeAnd (slice_get scope k) (Inner lo hi) → StandsIn scope lo hi i
variable-stands scope lo hi k i e f = subst (StandsIn scope lo hi) (sym e) (record {
  lies = inner-within scope k lo hi f;
  above = λ vars h. (variable-lies scope k vars lo hi h f).0;
  below = λ vars h. (variable-lies scope k vars lo hi h f).1;
})

-- what a position is inlined as has its number
pub record IsInlined (scope : List Interval) (lo hi : ℤ) (q : Tree) (i : Index) : Type 0 where
  pub means : (s : ℕ → ℕ → List ℤ → ℤ) (regs : List Outcome) (vars : List ℤ) → run s regs q vars ≡ Value (number_at vars i)
  pub stands : StandsIn scope lo hi i

of-constant : (scope : List Interval) (lo hi : ℤ) (q : Tree) (i : Index) → constant_in lo hi (literal q) ≡ Some i → IsInlined scope lo hi q i
of-constant scope lo hi q i h =
    let w = constant-some lo hi (literal q) i h in
    record {
      means = λ s regs vars. literal-means s regs vars q w.0 w.1 ∙ ap (λ j. Value (number_at vars j)) (sym w.2);
      stands = constant-stands scope lo hi w.0 i w.2 w.3 w.4;
    }

pub is-inlined : (scope : List Interval) (lo hi : ℤ) (q : Tree) (i : Index) → stand_in scope lo hi q ≡ Some i → IsInlined scope lo hi q i
is-inlined scope lo hi (lit z) i h = of-constant scope lo hi (lit z) i h
is-inlined scope lo hi (var k) i h =
    let w = variable-some lo hi k (slice_get scope k) i h in
    record {
      means = λ s regs vars. ap (λ j. Value (number_at vars j)) (sym w.0);
      stands = variable-stands scope lo hi k i w.0 w.1;
    }
is-inlined scope lo hi (reg k) i h = absurd (cc)
is-inlined scope lo hi (op1 op e) i h = of-constant scope lo hi (op1 op e) i h
is-inlined scope lo hi (op2 op l r) i h = absurd (cc)
is-inlined scope lo hi (read c f is) i h = absurd (cc)
is-inlined scope lo hi (table box items is) i h = absurd (cc)
is-inlined scope lo hi (bind p l u e) i h = absurd (cc)
is-inlined scope lo hi (fold op box c e) i h = absurd (cc)

-- the same at each coordinate that passes the test
chosen-same : (b c : Bool) (x y w : Outcome) → (T b → T c → x ≡ y) → cond (b && c) x w ≡ cond (b && c) y w
chosen-same true true x y w h = h tt tt
chosen-same true false x y w h = refl
chosen-same false c x y w h = refl

pub position-same : (o : Outcome) (lo hi : ℤ) (f g : ℤ → Outcome) → ((z : ℤ) → lo ≤ℤ z → z ≤ℤ hi → f z ≡ g z) → at_position o lo hi f ≡ at_position o lo hi g
position-same (Fault p) lo hi f g h = refl
position-same (Value z) lo hi f g h = chosen-same (int_le lo z) (int_le z hi) (f z) (g z) (Fault OutOfDomain) (λ l u. h z (le_z_yes l) (le_z_yes u))

passes-test : (b c : Bool) (x w : Outcome) → T b → T c → cond (b && c) x w ≡ x
passes-test true true x w l u = refl
passes-test true false x w l u = absurd u
passes-test false c x w l u = absurd l

pub position-inside : (z lo hi : ℤ) (f : ℤ → Outcome) → lo ≤ℤ z → z ≤ℤ hi → at_position (Value z) lo hi f ≡ f z
position-inside z lo hi f l u = passes-test (int_le lo z) (int_le z hi) (f z) (Fault OutOfDomain) l.le u.le

numbers-moved : (env : List Index) (vars : List ℤ) (is : List Index) → numbers_at vars (map (index_for env) is) ≡ numbers_at (numbers_at vars env) is
numbers-moved env vars [] = refl
numbers-moved env vars (Const z ∷ is) = ap (λ l. z ∷ l) (numbers-moved env vars is)
numbers-moved env vars (Var k ∷ is) =
    ap (λ z. z ∷ numbers_at vars (map (index_for env) is)) (sym (at-map (number_at vars) env k (Const (pos 0))))
    ∙ ap (λ l. get_or (numbers_at vars env) k (pos 0) ∷ l) (numbers-moved env vars is)

pub variable-means : (s : ℕ → ℕ → List ℤ → ℤ) (regs : List Outcome) (vars : List ℤ) (i : Index) → run s regs (variable i) vars ≡ Value (number_at vars i)
variable-means s regs vars (Const z) = refl
variable-means s regs vars (Var k) = refl

pub one-more : (old scope : List Interval) (env : List Index) (vars : List ℤ) (i : Interval) (z : ℤ) → Indexes old scope env → Lie scope vars → i.lo ≤ℤ z → z ≤ℤ i.hi → numbers_at (vars ++ z ∷ []) (env ++ Var (length scope) ∷ []) ≡ numbers_at vars env ++ z ∷ []
one-more old scope env vars i z h l above below = numbers-under old scope env vars (z ∷ []) (i ∷ []) h l ((λ o. (above, below)), tt)

bind-inlined : (s : ℕ → ℕ → List ℤ → ℤ) (regs : List Outcome) (old scope : List Interval) (env : List Index) (vars : List ℤ) (p q e : Tree) (lo hi : ℤ) (o : Option Index) → stand_in scope lo hi q ≡ o → Indexes old scope env → Lie scope vars → run s regs q vars ≡ run s regs p (numbers_at vars env) → ((scope' : List Interval) (env' : List Index) (vars' : List ℤ) → Indexes (old ++ record { lo = lo; hi = hi } ∷ []) scope' env' → Lie scope' vars' → run s regs (inlining env' scope' e) vars' ≡ run s regs e (numbers_at vars' env')) → run s regs (bind_or_go env scope lo hi q o (λ env' scope'. inlining env' scope' e)) vars ≡ at_position (run s regs p (numbers_at vars env)) lo hi (λ z. run s regs e (numbers_at vars env ++ z ∷ []))
bind-inlined s regs old scope env vars p q e lo hi (Some i) is h l same go =
    let w = is-inlined scope lo hi q i is in
    go scope (env ++ i ∷ []) vars (indexes-append old (record { lo = lo; hi = hi } ∷ []) scope env (i ∷ []) h (w.stands.lies, tt)) l
    ∙ ap (run s regs e) (map-append (number_at vars) env (i ∷ []))
    ∙ sym (position-inside (number_at vars i) lo hi (λ z. run s regs e (numbers_at vars env ++ z ∷ [])) (w.stands.above vars l) (w.stands.below vars l))
    ∙ ap (λ r. at_position r lo hi (λ z. run s regs e (numbers_at vars env ++ z ∷ []))) (sym (w.means s regs vars) ∙ same)
bind-inlined s regs old scope env vars p q e lo hi None is h l same go =
    ap (λ r. at_position r lo hi (λ z. run s regs (inlining (env ++ Var (length scope) ∷ []) (scope ++ record { lo = lo; hi = hi } ∷ []) e) (vars ++ z ∷ []))) same
    ∙ position-same (run s regs p (numbers_at vars env)) lo hi _ _ (λ z above below.
    go (scope ++ record { lo = lo; hi = hi } ∷ []) (env ++ Var (length scope) ∷ []) (vars ++ z ∷ []) (indexes-under old scope (record { lo = lo; hi = hi } ∷ []) env h) (lie-one scope (record { lo = lo; hi = hi }) vars z l above below)
    ∙ ap (run s regs e) (one-more old scope env vars (record { lo = lo; hi = hi }) z h l above below))

pub inlined-means : (t : Tree) (s : ℕ → ℕ → List ℤ → ℤ) (regs : List Outcome) (old scope : List Interval) (env : List Index) (vars : List ℤ) → Indexes old scope env → Lie scope vars → run s regs (inlining env scope t) vars ≡ run s regs t (numbers_at vars env)
inlined-means (lit z) s regs old scope env vars h l = refl
inlined-means (var k) s regs old scope env vars h l = variable-means s regs vars (get_or env k (Const (pos 0))) ∙ ap Value (sym (at-map (number_at vars) env k (Const (pos 0))))
inlined-means (reg k) s regs old scope env vars h l = refl
inlined-means (op1 op e) s regs old scope env vars h l = ap (operate1 op) (inlined-means e s regs old scope env vars h l)
inlined-means (op2 op a b) s regs old scope env vars h l =
    ap (λ o. operate2 op o (run s regs (inlining env scope b) vars)) (inlined-means a s regs old scope env vars h l)
    ∙ ap (operate2 op (run s regs a (numbers_at vars env))) (inlined-means b s regs old scope env vars h l)
inlined-means (read c f is) s regs old scope env vars h l = ap (λ p. Value (s c f p)) (numbers-moved env vars is)
inlined-means (table box items is) s regs old scope env vars h l = ap (λ p. Value (get_or items (rank_of box p) (pos 0))) (numbers-moved env vars is)
inlined-means (bind p lo hi e) s regs old scope env vars h l =
    bind-inlined s regs old scope env vars p (inlining env scope p) e lo hi (stand_in scope lo hi (inlining env scope p)) refl h l
    (inlined-means p s regs old scope env vars h l)
    (λ scope' env' vars' h' l'. inlined-means e s regs (old ++ record { lo = lo; hi = hi } ∷ []) scope' env' vars' h' l')
inlined-means (fold op box c e) s regs old scope env vars h l =
    ap (condensed op) (flat-same (Lie (spans box)) _ _ (points box) (λ x lx.
    let under = numbers-under old scope env vars x (spans box) h l lx in
    let lies = lie-append scope (spans box) vars x l lx in
    let is = indexes-under old scope (spans box) env h in
    let inner = env ++ levels (length scope) (spans box) in
    ap (λ o. demanded o (run s regs (inlining inner (scope ++ spans box) e) (vars ++ x)))
    (inlined-means c s regs (old ++ spans box) (scope ++ spans box) inner (vars ++ x) is lies ∙ ap (run s regs c) under)
    ∙ ap (demanded (run s regs c (numbers_at vars env ++ x)))
    (inlined-means e s regs (old ++ spans box) (scope ++ spans box) inner (vars ++ x) is lies ∙ ap (run s regs e) under)) (points-lie box))

pub variable-placed : (cs : ℕ → Option Signature) (count : ℕ) (old scope : List Interval) (env : List Index) (k : ℕ) → Indexes old scope env → k < length old → IsPlaced cs count scope (variable (get_or env k (Const (pos 0))))
variable-placed cs count [] scope env k h lt = absurd (omega arith)
variable-placed cs count (a ∷ old) scope [] k h lt = absurd h
variable-placed cs count (a ∷ old) scope (Const z ∷ env) zero h lt = tt
variable-placed cs count (a ∷ old) scope (Var j ∷ env) zero h lt = some-within (λ b. LiesWithin b a) scope j h.0
variable-placed cs count (a ∷ old) scope (i ∷ env) (suc k) h lt = variable-placed cs count old scope env k h.1 (omega arith)

at-index : (old scope : List Interval) (env : List Index) (a : Interval) (k : ℕ) → Indexes old scope env → IsSomeAnd (slice_get old k) (λ b. LiesWithin b a) → LiesIn a scope (get_or env k (Const (pos 0)))
at-index [] scope env a k h l = absurd l
at-index (b ∷ old) scope [] a k h l = absurd h
at-index (b ∷ old) scope (i ∷ env) a zero h l = lies-wider scope i b a l h.0
at-index (b ∷ old) scope (i ∷ env) a (suc k) h l = at-index old scope env a k h.1 l

index-moved : (old scope : List Interval) (env : List Index) (a : Interval) (i : Index) → Indexes old scope env → LiesIn a old i → LiesIn a scope (index_for env i)
index-moved old scope env a (Const z) h l = l
index-moved old scope env a (Var k) h l = at-index old scope env a k h l

indexes-moved : (axes old scope : List Interval) (env is : List Index) → Indexes old scope env → Indexes axes old is → Indexes axes scope (map (index_for env) is)
indexes-moved [] old scope env [] h l = tt
indexes-moved [] old scope env (i ∷ is) h l = absurd l
indexes-moved (a ∷ axes) old scope env [] h l = absurd l
indexes-moved (a ∷ axes) old scope env (i ∷ is) h l = (index-moved old scope env a i h l.0, indexes-moved axes old scope env is h l.1)

cells-moved : (c : Option Signature) (f : ℕ) (old scope : List Interval) (env is : List Index) → Indexes old scope env → HasCells c f old is → HasCells c f scope (map (index_for env) is)
cells-moved None f old scope env is h l = absurd l
cells-moved (Some c) f old scope env is h l = (l.0, indexes-moved (spans c.domain) old scope env is h l.1)

bind-placed : (cs : ℕ → Option Signature) (count : ℕ) (old scope : List Interval) (env : List Index) (q e : Tree) (lo hi : ℤ) (o : Option Index) → stand_in scope lo hi q ≡ o → Indexes old scope env → IsPlaced cs count scope q → ((scope' : List Interval) (env' : List Index) → Indexes (old ++ record { lo = lo; hi = hi } ∷ []) scope' env' → IsPlaced cs count scope' (inlining env' scope' e)) → IsPlaced cs count scope (bind_or_go env scope lo hi q o (λ env' scope'. inlining env' scope' e))
bind-placed cs count old scope env q e lo hi (Some i) is h p go =
    let w = is-inlined scope lo hi q i is in
    go scope (env ++ i ∷ []) (indexes-append old (record { lo = lo; hi = hi } ∷ []) scope env (i ∷ []) h (w.stands.lies, tt))
bind-placed cs count old scope env q e lo hi None is h p go =
    (p, go (scope ++ record { lo = lo; hi = hi } ∷ []) (env ++ Var (length scope) ∷ []) (indexes-under old scope (record { lo = lo; hi = hi } ∷ []) env h))

pub inlined-placed : (t : Tree) (cs : ℕ → Option Signature) (count : ℕ) (old scope : List Interval) (env : List Index) → IsPlaced cs count old t → Indexes old scope env → IsPlaced cs count scope (inlining env scope t)
inlined-placed (lit z) cs count old scope env t h = tt
inlined-placed (var k) cs count old scope env t h = variable-placed cs count old scope env k h t
inlined-placed (reg k) cs count old scope env t h = t
inlined-placed (op1 op e) cs count old scope env t h = inlined-placed e cs count old scope env t h
inlined-placed (op2 op l r) cs count old scope env t h = (inlined-placed l cs count old scope env t.0 h, inlined-placed r cs count old scope env t.1 h)
inlined-placed (read c f is) cs count old scope env t h = cells-moved (cs c) f old scope env is h t
inlined-placed (table box items is) cs count old scope env t h = (indexes-moved (spans box) old scope env is h t.0, t.1)
inlined-placed (bind p lo hi e) cs count old scope env t h =
    bind-placed cs count old scope env (inlining env scope p) e lo hi (stand_in scope lo hi (inlining env scope p)) refl h
    (inlined-placed p cs count old scope env t.0 h)
    (λ scope' env' h'. inlined-placed e cs count (old ++ record { lo = lo; hi = hi } ∷ []) scope' env' t.1 h')
inlined-placed (fold op box c e) cs count old scope env t h =
    let is = indexes-under old scope (spans box) env h in
    let inner = env ++ levels (length scope) (spans box) in (
      inlined-placed c cs count (old ++ spans box) (scope ++ spans box) inner t.0 is,
      inlined-placed e cs count (old ++ spans box) (scope ++ spans box) inner t.1 is,
    )

bind-reduced : (scope : List Interval) (env : List Index) (q e : Tree) (lo hi : ℤ) (o : Option Index) → stand_in scope lo hi q ≡ o → InBody NoInlinableBind scope q → ((scope' : List Interval) (env' : List Index) → InBody NoInlinableBind scope' (inlining env' scope' e)) → InBody NoInlinableBind scope (bind_or_go env scope lo hi q o (λ env' scope'. inlining env' scope' e))
bind-reduced scope env q e lo hi (Some i) is p go = go scope (env ++ i ∷ [])
bind-reduced scope env q e lo hi None is p go = (is, p, go (scope ++ record { lo = lo; hi = hi } ∷ []) (env ++ Var (length scope) ∷ []))

variable-reduced : (scope : List Interval) (i : Index) → InBody NoInlinableBind scope (variable i)
variable-reduced scope (Const z) = tt
variable-reduced scope (Var k) = tt

pub inlined-reduced : (t : Tree) (scope : List Interval) (env : List Index) → InBody NoInlinableBind scope (inlining env scope t)
inlined-reduced (lit z) scope env = tt
inlined-reduced (var k) scope env = variable-reduced scope (get_or env k (Const (pos 0)))
inlined-reduced (reg k) scope env = tt
inlined-reduced (op1 op e) scope env = inlined-reduced e scope env
inlined-reduced (op2 op l r) scope env = (inlined-reduced l scope env, inlined-reduced r scope env)
inlined-reduced (read c f is) scope env = tt
inlined-reduced (table box items is) scope env = tt
inlined-reduced (bind p lo hi e) scope env =
    bind-reduced scope env (inlining env scope p) e lo hi (stand_in scope lo hi (inlining env scope p)) refl (inlined-reduced p scope env) (λ scope' env'. inlined-reduced e scope' env')
inlined-reduced (fold op box c e) scope env =
    (tt, inlined-reduced c (scope ++ spans box) (env ++ levels (length scope) (spans box)), inlined-reduced e (scope ++ spans box) (env ++ levels (length scope) (spans box)))
