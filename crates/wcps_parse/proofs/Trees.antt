-- What a tree shows whose variant has a list, and how high it is.
use Rattle.std.proofs.Common.{◌≡◌, ℕ, List, [], ◌∷◌, map, max, Vec, Box, Option, Global, refl, sym, ap, subst, ◌∙◌}
use Rattle.wcps_text.specs.declared.operator.Aggregate.{Aggregate}
use Rattle.wcps_text.specs.declared.tree.ListItem.{ListItem}
use Rattle.wcps_text.specs.declared.tree.Expr as exprs
use Rattle.wcps_text.specs.declared.tree.Expr.{Expr}
use Rattle.wcps_text.specs.declared.tree.Part.{Part}
use Rattle.wcps_text.specs.declared.tree.Sub.{Sub}
use Rattle.wcps_text.specs.declared.tree.Iter.{Iter}
use Rattle.wcps_text.specs.Tree.{Tree, parts, value_list, brackets, coverage, condense, part, sub, Iters, iter, Condition, view, view_place, view_interval, parts_of, subs_of, iters_of, condition_of}
use Rattle.wcps_text.specs.Limits.{height, parts_height, subs_height, iters_height, condition_height}
use Rattle.wcps_text.proofs.Views.{view-Record, view-Brackets, view-ValueList, view-Coverage, view-Condense}
use Rattle.wcps_parse.specs.Reading.{NamedTree, NamedPlace, NamedInterval, parts_from, subs_from, iters_from}
use Rattle.wcps_parse.specs.declared.grown.Grown.{Grown}
use Rattle.wcps_parse.specs.declared.grown.Grown.TheVariants.{Fits}
use Rattle.wcps_parse.specs.Fit.{Fit, highest}
use Rattle.wcps_parse.specs.Views.{boxed_view, part_view, sub_view, iter_view, parts_view, subs_view, iters_view, part_height, sub_height, iter_height}

pub parts_high : (ps : List NamedTree) → parts_height (parts_from ps) ≡ highest part_height ps
parts_high [] = refl
parts_high (p ∷ ps) = ap (max (part_height p)) (parts_high ps)

pub subs_high : (ss : List NamedPlace) → subs_height (subs_from ss) ≡ highest sub_height ss
subs_high [] = refl
subs_high (s ∷ ss) = ap (max (sub_height s)) (subs_high ss)

pub iters_high : (is : List NamedInterval) → iters_height (iters_from is) ≡ highest iter_height is
iters_high [] = refl
iters_high (i ∷ is) = ap (max (iter_height i)) (iters_high is)

parts_named : (ps : List Part) → parts_of ps ≡ parts_from (map part_view ps)
parts_named [] = refl
parts_named (p ∷ ps) = ap (part p.name (view p.value)) (parts_named ps)

subs_named : (ss : List Sub) → subs_of ss ≡ subs_from (map sub_view ss)
subs_named [] = refl
subs_named (s ∷ ss) = ap (sub s.axis (view_place s.place)) (subs_named ss)

iters_named : (is : List Iter) → iters_of is ≡ iters_from (map iter_view is)
iters_named [] = refl
iters_named (i ∷ is) = ap (iter i.variable i.axis (view_interval i.interval)) (iters_named is)

pub record_shown : (v : Vec Part Global) → view (exprs.Record v) ≡ parts (parts_from (parts_view v))
record_shown v = view-Record v ∙ ap parts (parts_named v.items)

pub brackets_shown : (b : Box Expr Global) (v : Vec Sub Global) → view (exprs.Brackets b v) ≡ brackets (view b.value) (subs_from (subs_view v))
brackets_shown b v = view-Brackets b v ∙ ap (brackets (view b.value)) (subs_named v.items)

pub value_list_shown : (v : Vec Iter Global) (w : Vec ListItem Global) → view (exprs.ValueList v w) ≡ value_list (iters_from (iters_view v)) w.items
value_list_shown v w = view-ValueList v w ∙ ap (λ (is : Iters). value_list is w.items) (iters_named v.items)

pub coverage_shown : (v : Vec Iter Global) (b : Box Expr Global) → view (exprs.Coverage v b) ≡ coverage (iters_from (iters_view v)) (view b.value)
coverage_shown v b = view-Coverage v b ∙ ap (λ (is : Iters). coverage is (view b.value)) (iters_named v.items)

pub condense_shown : (op : Aggregate) (v : Vec Iter Global) (o : Option (Box Expr Global)) (b : Box Expr Global) → view (exprs.Condense op v o b) ≡ condense op (iters_from (iters_view v)) (condition_of o) (view b.value)
condense_shown op v o b = view-Condense op v o b ∙ ap (λ (is : Iters). condense op is (condition_of o) (view b.value)) (iters_named v.items)

pub value_list_fits : (g : Grown (Vec Iter Global)) (v : Vec Iter Global) (h : ℕ) (w : Vec ListItem Global) (is : List NamedInterval) → g ≡ Fits v h → Fit iters_view (highest iter_height) g is
    → (view (exprs.ValueList v w) ≡ value_list (iters_from is) w.items) × (h ≡ iters_height (iters_from is))
value_list_fits g v h w is e fit =
    let f : Fit iters_view (highest iter_height) (Fits v h) is = subst (λ (k : Grown (Vec Iter Global)). Fit iters_view (highest iter_height) k is) e fit in
    (value_list_shown v w ∙ ap (λ (js : List NamedInterval). value_list (iters_from js) w.items) f.0, f.1 ∙ sym (iters_high is))

pub condense_fits : (op : Aggregate) (gi : Grown (Vec Iter Global)) (gc : Grown (Option (Box Expr Global))) (gb : Grown (Box Expr Global)) (v : Vec Iter Global) (o : Option (Box Expr Global)) (x : Box Expr Global) (i j k : ℕ) (is : List NamedInterval) (c : Condition) (e : Tree)
    → gi ≡ Fits v i → gc ≡ Fits o j → gb ≡ Fits x k → Fit iters_view (highest iter_height) gi is → Fit condition_of condition_height gc c → Fit boxed_view height gb e
    → (view (exprs.Condense op v o x) ≡ condense op (iters_from is) c e) × (i ≡ iters_height (iters_from is)) × (j ≡ condition_height c) × (k ≡ height e)
condense_fits op gi gc gb v o x i j k is c e ei ec eb fi fc fb =
    let p : Fit iters_view (highest iter_height) (Fits v i) is = subst (λ (g : Grown (Vec Iter Global)). Fit iters_view (highest iter_height) g is) ei fi in
    let q : Fit condition_of condition_height (Fits o j) c = subst (λ (g : Grown (Option (Box Expr Global))). Fit condition_of condition_height g c) ec fc in
    let r : Fit boxed_view height (Fits x k) e = subst (λ (g : Grown (Box Expr Global)). Fit boxed_view height g e) eb fb in
    let shown = condense_shown op v o x ∙ (ap (λ (js : List NamedInterval). condense op (iters_from js) (condition_of o) (view x.value)) p.0
    ∙ (ap (λ (d : Condition). condense op (iters_from is) d (view x.value)) q.0 ∙ ap (λ (t : Tree). condense op (iters_from is) c t) r.0)) in
    (shown, p.1 ∙ sym (iters_high is), q.1, r.1)
