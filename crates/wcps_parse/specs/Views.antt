-- Parts of a tree as values alone, and how high they are.
use Rattle.std.specs.Prelude.{ℕ, List, map, Vec, Box}
use Rattle.std.specs.Global.{Global}
use Rattle.wcps_text.specs.declared.tree.Expr.{Expr}
use Rattle.wcps_text.specs.declared.tree.Part.{Part}
use Rattle.wcps_text.specs.declared.tree.Sub.{Sub}
use Rattle.wcps_text.specs.declared.tree.Iter.{Iter}
use Rattle.wcps_text.specs.Tree.{Tree, view, view_place, view_interval}
use Rattle.wcps_text.specs.Limits.{height, place_height, interval_height}
use Rattle.wcps_parse.specs.Reading.{NamedTree, NamedPlace, NamedInterval}

-- a tree out of its box
abbrev pub boxed_view : Box Expr Global → Tree
boxed_view b = view b.value

abbrev pub part_view : Part → NamedTree
part_view p = (p.name, view p.value)

abbrev pub sub_view : Sub → NamedPlace
sub_view s = (s.axis, view_place s.place)

abbrev pub iter_view : Iter → NamedInterval
iter_view i = (i.variable, i.axis, view_interval i.interval)

abbrev pub parts_view : Vec Part Global → List NamedTree
parts_view v = map part_view v.items

abbrev pub subs_view : Vec Sub Global → List NamedPlace
subs_view v = map sub_view v.items

abbrev pub iters_view : Vec Iter Global → List NamedInterval
iters_view v = map iter_view v.items

abbrev pub part_height : NamedTree → ℕ
part_height p = height p.1

abbrev pub sub_height : NamedPlace → ℕ
sub_height s = place_height s.1

abbrev pub iter_height : NamedInterval → ℕ
iter_height i = interval_height i.2
