use Rattle.std.proofs.Common.{◌≡◌, vec_len}
use Rattle.wcps_text.specs.Tree.{Tree}
use Rattle.wcps_parse.specs.Kinds.{FitTree}
use Rattle.wcps_parse.specs.Prefixes.{wrapped}
use Rattle.wcps_parse.proofs.grown.prefixed.Given as goal

abbrev pub invariant-loop-op : goal.invariant-loop-op
invariant-loop-op l = (e : Tree) → FitTree l.fn.operand e → (t : Tree) × FitTree l.whole t × (wrapped l.ops.items t ≡ wrapped l.fn.ops.items e)

abbrev pub decreases-loop-op : goal.decreases-loop-op
decreases-loop-op l = vec_len l.ops
