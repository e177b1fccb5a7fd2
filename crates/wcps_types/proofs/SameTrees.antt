-- Records of the same parts give the same fields.
use Rattle.std.proofs.Common.{◌≡◌, ℕ, map, ap, sym, ◌∙◌, get_or, Vec}
use Rattle.std.specs.Prelude.{pos}
use Rattle.std.specs.Global.{Global}
use Rattle.wcps_types.specs.declared.typed.Node.{Node}
use Rattle.wcps_types.specs.declared.typed.Node.TheVariants as nodes
use Rattle.wcps_types.specs.Typed.{number, field_tree, only_tree}
use Rattle.wcps_types.proofs.Fields.{record_field}

pub same_parts : (v w : Vec Node Global) (f : ℕ) → map only_tree v.items ≡ map only_tree w.items → field_tree (nodes.Record v) f ≡ field_tree (nodes.Record w) f
same_parts v w f e = record_field v f ∙ ap (λ trees. get_or trees f (number (pos 0))) e ∙ sym (record_field w f)
