-- An inlined plan gives what the plan gives, and is well-formed.
use Rattle.std.proofs.Common.{◌≡◌, ℕ, List, [], ◌∷◌, ◌++◌, length, map, refl, sym, ap, ◌∙◌, subst, ℤ, ◌≤ℤ◌, cond, T, Bool, true, false, Result, Ok, Err}
use Rattle.std.specs.Prelude.{Option, Some, None, slice_get, option_map, int_le, ◌&&◌}
use Rattle.std.specs.Int.Signed.{le_z_yes}
use Rattle.std.proofs.lemmas.List.{map-append, length-map}
use Rattle.arr_core.specs.declared.cell.Cell.{Cell}
use Rattle.arr_core.specs.Domains.{points}
use Rattle.wcps_mean.specs.declared.cell.PointFault.{PointFault}
use Rattle.wcps_mean.specs.declared.cell.PointFault.TheVariants.{OutOfDomain}
use Rattle.wcps_mean.specs.declared.cell.Outcome.{Outcome}
use Rattle.wcps_mean.specs.declared.cell.Outcome.TheVariants.{Value, Fault}
use Rattle.wcps_mean.specs.declared.item.Item.{Item}
use Rattle.arr_core.specs.Cells.{truth_of}
use Rattle.wcps_mean.specs.Answer.{then_of, given, joined, cell_of, line_of, field_count}
use Rattle.plan_ir.specs.declared.body.Index.{Index}
use Rattle.plan_ir.specs.declared.body.Index.TheVariants.{Var}
use Rattle.plan_ir.specs.declared.body.Interval.{Interval}
use Rattle.plan_ir.specs.Bodies.{Tree, fold}
use Rattle.plan_ir.specs.Run.{number_at, numbers_at, run}
use Rattle.plan_ir.specs.Plans.{PassTree, BindTree, FieldBody, ItemTree, StepsTree, Choice, PlanTree}
use Rattle.wcps_mean.specs.Cells.{coordinate_in}
use Rattle.plan_ir.specs.Planned.{pass_outcome, registers_after, registers, bound, field_cell, cells_at, item_cells, item_planned, chosen, given_out, steps_planned, cells_of, choice_planned, planned}
use Rattle.plan_ir.specs.Placed.{spans, Indexes}
use Rattle.plan_ir.proofs.Parts.{slice_get-map}
use Rattle.plan_rewrite.specs.Inlining.{levels, inlining}
use Rattle.plan_rewrite.specs.InlinedPlans.{Variables, stand_in_for, after_bind, variables_after, unless_inlined, kept_binds, inlined_pass, inlined_field, inlined_item, inlined_steps, inlined_plan}
use Rattle.plan_rewrite.proofs.Scopes.{Lie, lie-length, lie-one, Each, points-lie, indexes-append, levels-lie, indexes-under, numbers-levels}
use Rattle.plan_rewrite.proofs.Inlines.{is-inlined, one-more, inlined-means}

-- an inlined pass gives what the pass gives
pass-inlined : (s : ℕ → ℕ → List ℤ → ℤ) (regs : List Outcome) (p : PassTree) → pass_outcome s regs (inlined_pass p) ≡ pass_outcome s regs p
pass-inlined s regs p = inlined-means (fold p.op p.domain p.condition p.body) s regs [] [] [] [] tt tt

registers-inlined : (s : ℕ → ℕ → List ℤ → ℤ) (regs : List Outcome) (ps : List PassTree) → registers_after s regs (map inlined_pass ps) ≡ registers_after s regs ps
registers-inlined s regs [] = refl
registers-inlined s regs (p ∷ ps) =
    ap (λ o. registers_after s (regs ++ o ∷ []) (map inlined_pass ps)) (pass-inlined s regs p) ∙ registers-inlined s (regs ++ pass_outcome s regs p ∷ []) ps

chosen-inlined : (s : ℕ → ℕ → List ℤ → ℤ) (regs : List Outcome) (c : Option Tree) → chosen s regs (option_map (inlining [] []) c) ≡ chosen s regs c
chosen-inlined s regs None = refl
chosen-inlined s regs (Some c) = ap (given truth_of) (inlined-means c s regs [] [] [] [] tt tt)

-- the intervals of the old variables after some binds
abbrev pub behind : List Interval → List BindTree → List Interval
behind old [] = old
behind old (b ∷ binds) = behind (old ++ record { lo = b.lo; hi = b.hi } ∷ []) binds

ground-one : (b : BindTree) (binds : List BindTree) (old scope : List Interval) (env : List Index) (o : Option Index) → stand_in_for env scope b ≡ o → Indexes old scope env → ((scope' : List Interval) (env' : List Index) → Indexes (old ++ record { lo = b.lo; hi = b.hi } ∷ []) scope' env' → Indexes (behind (old ++ record { lo = b.lo; hi = b.hi } ∷ []) binds) (variables_after env' scope' binds).scope (variables_after env' scope' binds).env) → Indexes (behind (old ++ record { lo = b.lo; hi = b.hi } ∷ []) binds) (after_bind env scope b o (λ env' scope'. variables_after env' scope' binds)).scope (after_bind env scope b o (λ env' scope'. variables_after env' scope' binds)).env
ground-one b binds old scope env (Some i) is h go =
    let w = is-inlined scope b.lo b.hi (inlining env scope b.position) i is in
    go scope (env ++ i ∷ []) (indexes-append old (record { lo = b.lo; hi = b.hi } ∷ []) scope env (i ∷ []) h (w.stands.lies, tt))
ground-one b binds old scope env None is h go = go (scope ++ record { lo = b.lo; hi = b.hi } ∷ []) (env ++ Var (length scope) ∷ []) (indexes-under old scope (record { lo = b.lo; hi = b.hi } ∷ []) env h)

pub ground-indexes : (binds : List BindTree) (old scope : List Interval) (env : List Index) → Indexes old scope env → Indexes (behind old binds) (variables_after env scope binds).scope (variables_after env scope binds).env
ground-indexes [] old scope env h = h
ground-indexes (b ∷ binds) old scope env h = ground-one b binds old scope env (stand_in_for env scope b) refl h (λ scope' env' h'. ground-indexes binds (old ++ record { lo = b.lo; hi = b.hi } ∷ []) scope' env' h')

-- new variables stand for old ones, or there is the same fault
abbrev Follows : Result (List ℤ) PointFault → Result (List ℤ) PointFault → Variables → Type 0
Follows (Err f) old g = old ≡ Err f
Follows (Ok vars) old g = (old ≡ Ok (numbers_at vars g.env)) × Lie g.scope vars

abbrev tested_by : Bool → ℤ → Result ℤ PointFault
tested_by b x = cond b (Ok x) (Err OutOfDomain)

tested : (b c : Bool) (x z : ℤ) → tested_by (b && c) x ≡ Ok z → T b × T c × (x ≡ z)
tested true true x z h = (tt, tt, (cc))
tested true false x z h = absurd (cc)
tested false c x z h = absurd (cc)

-- a coordinate that passed its test lies inside
coordinate-inside : (o : Outcome) (lo hi z : ℤ) → coordinate_in o lo hi ≡ Ok z → (lo ≤ℤ z) × (z ≤ℤ hi)
coordinate-inside (Fault f) lo hi z h = absurd (cc)
coordinate-inside (Value x) lo hi z h =
    let t = tested (int_le lo x) (int_le x hi) x z h in
    (subst (λ y. lo ≤ℤ y) t.2 (le_z_yes t.0), subst (λ y. y ≤ℤ hi) t.2 (le_z_yes t.1))

passes : (b c : Bool) (x : ℤ) → T b → T c → tested_by (b && c) x ≡ Ok x
passes true true x l u = refl
passes true false x l u = absurd u
passes false c x l u = absurd l

coordinate-of : (o : Outcome) (lo hi z : ℤ) → o ≡ Value z → lo ≤ℤ z → z ≤ℤ hi → coordinate_in o lo hi ≡ Ok z
coordinate-of o lo hi z e l u = ap (λ x. coordinate_in x lo hi) e ∙ passes (int_le lo z) (int_le z hi) z l.le u.le

follows-one : (r : Result ℤ PointFault) (s : ℕ → ℕ → List ℤ → ℤ) (regs : List Outcome) (new binds : List BindTree) (vars : List ℤ) (g : Variables) (numbers : List ℤ) → ((z : ℤ) → r ≡ Ok z → Follows (bound s regs new (vars ++ z ∷ [])) (bound s regs binds (numbers ++ z ∷ [])) g) → Follows (then_of r (λ z. bound s regs new (vars ++ z ∷ []))) (then_of r (λ z. bound s regs binds (numbers ++ z ∷ []))) g
follows-one (Err f) s regs new binds vars g numbers h = refl
follows-one (Ok z) s regs new binds vars g numbers h = h z refl

bind-follows : (b : BindTree) (binds : List BindTree) (s : ℕ → ℕ → List ℤ → ℤ) (regs : List Outcome) (old scope : List Interval) (env : List Index) (vars : List ℤ) (o : Option Index) → stand_in_for env scope b ≡ o → Indexes old scope env → Lie scope vars → ((scope' : List Interval) (env' : List Index) (vars' : List ℤ) → Indexes (old ++ record { lo = b.lo; hi = b.hi } ∷ []) scope' env' → Lie scope' vars' → Follows (bound s regs (kept_binds env' scope' binds) vars') (bound s regs binds (numbers_at vars' env')) (variables_after env' scope' binds)) → Follows (bound s regs (unless_inlined o (inlining env scope b.position) b (after_bind env scope b o (λ env' scope'. kept_binds env' scope' binds))) vars) (bound s regs (b ∷ binds) (numbers_at vars env)) (after_bind env scope b o (λ env' scope'. variables_after env' scope' binds))
bind-follows b binds s regs old scope env vars (Some i) is h l go =
    let w = is-inlined scope b.lo b.hi (inlining env scope b.position) i is in
    let same : run s regs b.position (numbers_at vars env) ≡ Value (number_at vars i) = sym (inlined-means b.position s regs old scope env vars h l) ∙ w.means s regs vars in
    let here : bound s regs (b ∷ binds) (numbers_at vars env) ≡ bound s regs binds (numbers_at vars (env ++ i ∷ [])) =
    ap (λ r. then_of r (λ z. bound s regs binds (numbers_at vars env ++ z ∷ []))) (coordinate-of (run s regs b.position (numbers_at vars env)) b.lo b.hi (number_at vars i) same (w.stands.above vars l) (w.stands.below vars l))
    ∙ ap (bound s regs binds) (sym (map-append (number_at vars) env (i ∷ []))) in
    subst (λ r. Follows (bound s regs (kept_binds (env ++ i ∷ []) scope binds) vars) r (variables_after (env ++ i ∷ []) scope binds)) (sym here)
    (go scope (env ++ i ∷ []) vars (indexes-append old (record { lo = b.lo; hi = b.hi } ∷ []) scope env (i ∷ []) h (w.stands.lies, tt)) l)
bind-follows b binds s regs old scope env vars None is h l go =
    let v : Interval = record { lo = b.lo; hi = b.hi } in
    let new = kept_binds (env ++ Var (length scope) ∷ []) (scope ++ v ∷ []) binds in
    let g = variables_after (env ++ Var (length scope) ∷ []) (scope ++ v ∷ []) binds in
    let old_r = coordinate_in (run s regs b.position (numbers_at vars env)) b.lo b.hi in
    subst (λ r. Follows (then_of r (λ z. bound s regs new (vars ++ z ∷ []))) (then_of old_r (λ z. bound s regs binds (numbers_at vars env ++ z ∷ []))) g)
    (ap (λ o. coordinate_in o b.lo b.hi) (sym (inlined-means b.position s regs old scope env vars h l)))
    (follows-one old_r s regs new binds vars g (numbers_at vars env) (λ z e.
    let inside = coordinate-inside (run s regs b.position (numbers_at vars env)) b.lo b.hi z e in
    subst (λ n. Follows (bound s regs new (vars ++ z ∷ [])) (bound s regs binds n) g) (one-more old scope env vars v z h l inside.0 inside.1)
    (go (scope ++ v ∷ []) (env ++ Var (length scope) ∷ []) (vars ++ z ∷ []) (indexes-under old scope (v ∷ []) env h) (lie-one scope v vars z l inside.0 inside.1))))

bound-follows : (binds : List BindTree) (s : ℕ → ℕ → List ℤ → ℤ) (regs : List Outcome) (old scope : List Interval) (env : List Index) (vars : List ℤ) → Indexes old scope env → Lie scope vars → Follows (bound s regs (kept_binds env scope binds) vars) (bound s regs binds (numbers_at vars env)) (variables_after env scope binds)
bound-follows [] s regs old scope env vars h l = (refl, l)
bound-follows (b ∷ binds) s regs old scope env vars h l =
    bind-follows b binds s regs old scope env vars (stand_in_for env scope b) refl h l (λ scope' env' vars' h' l'. bound-follows binds s regs (old ++ record { lo = b.lo; hi = b.hi } ∷ []) scope' env' vars' h' l')

fields-inlined : (fields : List FieldBody) (s : ℕ → ℕ → List ℤ → ℤ) (regs : List Outcome) (old : List Interval) (g : Variables) (vars : List ℤ) → Indexes old g.scope g.env → Lie g.scope vars → map (field_cell s regs vars) (map (inlined_field g) fields) ≡ map (field_cell s regs (numbers_at vars g.env)) fields
fields-inlined [] s regs old g vars h l = refl
fields-inlined (f ∷ fields) s regs old g vars h l =
    ap (λ o. given (λ z. cell_of f.boolean z ∷ []) o ∷ map (field_cell s regs vars) (map (inlined_field g) fields)) (inlined-means f.body s regs old g.scope g.env vars h l)
    ∙ ap (λ r. field_cell s regs (numbers_at vars g.env) f ∷ r) (fields-inlined fields s regs old g vars h l)

point-inlined : (r old : Result (List ℤ) PointFault) (g : Variables) (outer : List Interval) (s : ℕ → ℕ → List ℤ → ℤ) (regs : List Outcome) (fields : List FieldBody) → Indexes outer g.scope g.env → Follows r old g → then_of r (λ vars. joined (map (field_cell s regs vars) (map (inlined_field g) fields))) ≡ then_of old (λ vars. joined (map (field_cell s regs vars) fields))
point-inlined (Err f) old g outer s regs fields h k = sym (ap (λ q. then_of q (λ vars. joined (map (field_cell s regs vars) fields))) k)
point-inlined (Ok vars) old g outer s regs fields h k =
    ap joined (fields-inlined fields s regs outer g vars h k.1) ∙ sym (ap (λ q. then_of q (λ vars. joined (map (field_cell s regs vars) fields))) k.0)

cells-inlined : (i : ItemTree) (s : ℕ → ℕ → List ℤ → ℤ) (regs : List Outcome) (p : List ℤ) → Lie (spans i.domain) p → cells_at s regs (inlined_item i) p ≡ cells_at s regs i p
cells-inlined i s regs p l =
    let box = spans i.domain in
    let g = variables_after (levels 0 box) box i.binds in
    let all = levels-lie [] box 0 refl in
    point-inlined (bound s regs (kept_binds (levels 0 box) box i.binds) p) (bound s regs i.binds (numbers_at p (levels 0 box))) g (behind box i.binds) s regs i.fields (ground-indexes i.binds box box (levels 0 box) all) (bound-follows i.binds s regs box box (levels 0 box) p all l)
    ∙ ap (λ v. then_of (bound s regs i.binds v) (λ vars. joined (map (field_cell s regs vars) i.fields))) (numbers-levels [] p box 0 refl (lie-length box p l))

pub map-same : {X Y : Type 0} (P : X → Type 0) (f g : X → Y) (xs : List X) → ((x : X) → P x → f x ≡ g x) → Each P xs → map f xs ≡ map g xs
map-same P f g [] h a = refl
map-same P f g (x ∷ xs) h a = ap (λ y. y ∷ map f xs) (h x a.0) ∙ ap (λ l. g x ∷ l) (map-same P f g xs h a.1)

item-inlined : (i : ItemTree) (s : ℕ → ℕ → List ℤ → ℤ) (regs : List Outcome) → item_planned s regs (inlined_item i) ≡ item_planned s regs i
item-inlined i s regs =
    ap (λ (r : Result (List Cell) PointFault). then_of r (λ cells. Ok (record { line = line_of i.domain; fields = field_count (length (inlined_item i).fields); cells = cells })))
    (ap joined (map-same (Lie (spans i.domain)) (cells_at s regs (inlined_item i)) (cells_at s regs i) (points i.domain) (λ p l. cells-inlined i s regs p l) (points-lie i.domain)))
    ∙ ap (λ n. then_of (item_cells s regs i) (λ cells. Ok (record { line = line_of i.domain; fields = field_count n; cells = cells }))) (length-map i.fields (inlined_field (variables_after (levels 0 (spans i.domain)) (spans i.domain) i.binds)))

abbrev out_of : Result Bool PointFault → Result Item PointFault → Result (List Item) PointFault
out_of c i = then_of c (λ b. cond b (then_of i (λ x. Ok (x ∷ []))) (Ok []))

steps-inlined : (t : StepsTree) (s : ℕ → ℕ → List ℤ → ℤ) → steps_planned s (inlined_steps t) ≡ steps_planned s t
steps-inlined t s =
    ap (λ r. given_out s r (inlined_steps t)) (registers-inlined s [] t.passes)
    ∙ ap (λ c. out_of c (item_planned s (registers s t.passes) (inlined_item t.item))) (chosen-inlined s (registers s t.passes) t.condition)
    ∙ ap (out_of (chosen s (registers s t.passes) t.condition)) (item-inlined t.item s (registers s t.passes))

choice-inlined : (s : ℕ → ℕ → List ℤ → ℤ) (coverages : List ℕ) (o : Option StepsTree) → choice_planned s coverages (option_map inlined_steps o) ≡ choice_planned s coverages o
choice-inlined s coverages None = refl
choice-inlined s coverages (Some t) = steps-inlined t (cells_of s coverages)

choices-inlined : (s : ℕ → ℕ → List ℤ → ℤ) (steps : List StepsTree) (all : List Choice) → map (λ (c : Choice). choice_planned s c.coverages (slice_get (map inlined_steps steps) c.steps)) all ≡ map (λ (c : Choice). choice_planned s c.coverages (slice_get steps c.steps)) all
choices-inlined s steps [] = refl
choices-inlined s steps (c ∷ all) =
    ap (λ o. choice_planned s c.coverages o ∷ map (λ (c : Choice). choice_planned s c.coverages (slice_get (map inlined_steps steps) c.steps)) all) (slice_get-map inlined_steps steps c.steps)
    ∙ ap (λ o. o ∷ map (λ (c : Choice). choice_planned s c.coverages (slice_get (map inlined_steps steps) c.steps)) all) (choice-inlined s c.coverages (slice_get steps c.steps))
    ∙ ap (λ l. choice_planned s c.coverages (slice_get steps c.steps) ∷ l) (choices-inlined s steps all)

-- an inlined plan gives what the plan gives
pub inlined-planned : (p : PlanTree) (s : ℕ → ℕ → List ℤ → ℤ) → planned s (inlined_plan p) ≡ planned s p
inlined-planned p s = ap joined (choices-inlined s p.steps p.combinations)
