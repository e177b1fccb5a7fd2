-- What a tree shows whose variant has a list.
use Rattle.std.proofs.Common.{◌≡◌, Vec, Box, Option, Some, None, Global, refl, ap, ◌∙◌}
use Rattle.wcps_text.specs.declared.operator.Aggregate.{Aggregate}
use Rattle.wcps_text.specs.declared.tree.ListItem.{ListItem}
use Rattle.wcps_text.specs.declared.tree.Expr as exprs
use Rattle.wcps_text.specs.declared.tree.Expr.{Expr, Record', ValueList', Brackets', Coverage', Condense', Row_of-Part, end_of-Part, more_of-Part, items-the_row-Part, Row_of-Sub, end_of-Sub, more_of-Sub, items-the_row-Sub, Row_of-Iter, end_of-Iter, more_of-Iter, items-the_row-Iter}
use Rattle.wcps_text.specs.declared.tree.Part.{Part}
use Rattle.wcps_text.specs.declared.tree.Sub.{Sub}
use Rattle.wcps_text.specs.declared.tree.Iter.{Iter}
use Rattle.wcps_text.specs.Tree.{parts, value_list, brackets, coverage, condense, part, sub, iter, always, only, view, view_place, view_interval, view_parts, parts_of, view_subs, subs_of, view_iters, iters_of, condition_of}
use mathlib.Core.Former.{Count}

parts_are : (n : Count) (row : Row_of-Part n) → view_parts row ≡ parts_of (items-the_row-Part n row)
parts_are n end_of-Part = refl
parts_are n (more_of-Part name value rest) = ap (part name (view value)) (parts_are _ rest)

abbrev parts_row : Expr → (n : Count) × Row_of-Part n
parts_row (Record' shape row) = (_, row)
parts_row _ = (_, end_of-Part)

pub view-Record : (v : Vec Part Global) → view (exprs.Record v) ≡ parts (parts_of v.items)
view-Record v =
    let row = parts_row (exprs.Record v) in
    ap parts (parts_are row.0 row.1 ∙ ap parts_of (exprs.items_hidden-the_row-Part-0 v))

subs_are : (n : Count) (row : Row_of-Sub n) → view_subs row ≡ subs_of (items-the_row-Sub n row)
subs_are n end_of-Sub = refl
subs_are n (more_of-Sub axis place rest) = ap (sub axis (view_place place)) (subs_are _ rest)

abbrev subs_row : Expr → (n : Count) × Row_of-Sub n
subs_row (Brackets' p e shape row) = (_, row)
subs_row _ = (_, end_of-Sub)

pub view-Brackets : (b : Box Expr Global) (v : Vec Sub Global) → view (exprs.Brackets b v) ≡ brackets (view b.value) (subs_of v.items)
view-Brackets b v =
    let row = subs_row (exprs.Brackets b v) in
    ap (brackets (view b.value)) (subs_are row.0 row.1 ∙ ap subs_of (exprs.items_hidden-the_row-Sub-2 v))

iters_are : (n : Count) (row : Row_of-Iter n) → view_iters row ≡ iters_of (items-the_row-Iter n row)
iters_are n end_of-Iter = refl
iters_are n (more_of-Iter v a i rest) = ap (iter v a (view_interval i)) (iters_are _ rest)

abbrev iters_row : Expr → (n : Count) × Row_of-Iter n
iters_row (ValueList' shape row its) = (_, row)
iters_row (Coverage' shape row p e) = (_, row)
iters_row (Condense' op shape row c p e) = (_, row)
iters_row _ = (_, end_of-Iter)

pub view-ValueList : (v : Vec Iter Global) (w : Vec ListItem Global) → view (exprs.ValueList v w) ≡ value_list (iters_of v.items) w.items
view-ValueList v w =
    let row = iters_row (exprs.ValueList v w) in
    ap (λ is. value_list is w.items) (iters_are row.0 row.1 ∙ ap iters_of (exprs.items_hidden-the_row-Iter-1 v))

pub view-Coverage : (v : Vec Iter Global) (b : Box Expr Global) → view (exprs.Coverage v b) ≡ coverage (iters_of v.items) (view b.value)
view-Coverage v b =
    let row = iters_row (exprs.Coverage v b) in
    ap (λ is. coverage is (view b.value)) (iters_are row.0 row.1 ∙ ap iters_of (exprs.items_hidden-the_row-Iter-1 v))

pub view-Condense : (op : Aggregate) (v : Vec Iter Global) (o : Option (Box Expr Global)) (b : Box Expr Global) → view (exprs.Condense op v o b) ≡ condense op (iters_of v.items) (condition_of o) (view b.value)
view-Condense op v None b =
    let row = iters_row (exprs.Condense op v None b) in
    ap (λ is. condense op is always (view b.value)) (iters_are row.0 row.1 ∙ ap iters_of (exprs.items_hidden-the_row-Iter-1 v))
view-Condense op v (Some c) b =
    let row = iters_row (exprs.Condense op v (Some c) b) in
    ap (λ is. condense op is (only (view c.value)) (view b.value)) (iters_are row.0 row.1 ∙ ap iters_of (exprs.items_hidden-the_row-Iter-1 v))
