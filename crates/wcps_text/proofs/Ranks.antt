-- The ranks of operators, and what is spelled at a rank and so at each looser one.
use Rattle.std.proofs.Common.{◌≡◌, ℕ, zero, suc, ◌-◌, ◌<◌, ◌≤◌, ⊎_elim, true, false, List, subst, arith}
use Rattle.std.proofs.Math.Dec.{leb}
use Rattle.std.proofs.lemmas.Bool.Decides.{leb_tells}
use Rattle.wcps_text.specs.declared.operator.BinaryOperator.{BinaryOperator}
use Rattle.wcps_text.specs.declared.operator.BinaryOperator.TheVariants as binaries
use Rattle.wcps_text.specs.Token.{Tok}
use Rattle.wcps_text.specs.Tree.{Tree}
use Rattle.wcps_text.specs.Grammar.{rank_of, max_rank, Openness, Spells, tighter}

pub rank_most : (op : BinaryOperator) → rank_of op ≤ max_rank
rank_most binaries.Multiply = omega arith
rank_most binaries.Divide = omega arith
rank_most binaries.Add = omega arith
rank_most binaries.Subtract = omega arith
rank_most binaries.Less = omega arith
rank_most binaries.LessEqual = omega arith
rank_most binaries.Greater = omega arith
rank_most binaries.GreaterEqual = omega arith
rank_most binaries.Equal = omega arith
rank_most binaries.NotEqual = omega arith
rank_most binaries.And = omega arith
rank_most binaries.Or = omega arith
rank_most binaries.Xor = omega arith
rank_most binaries.Bit = omega arith

pub rank_suc : (op : BinaryOperator) → 0 < rank_of op → rank_of op ≡ suc (rank_of op - 1)
rank_suc op some = omega (arith, some)

pub raised : (o : Openness) (q r : ℕ) (ts rest : List Tok) (e : Tree) → q ≤ r → Spells o q ts e rest → Spells o r ts e rest
raised o zero zero ts rest e le s = s
raised o (suc q) zero ts rest e le s = absurd (omega arith)
raised o q (suc r) ts rest e le s = ⊎_elim (λ (h : (leb q r ≡ true) × (q ≤ r)). tighter (raised o q r ts rest e h.1 s)) (λ (h : (leb q r ≡ false) × (r < q)). subst (λ (k : ℕ). Spells o k ts e rest) (same q r (omega (arith, h.1)) le) s) (leb_tells q r)
  where
    same : (q r : ℕ) → r < q → q ≤ suc r → q ≡ suc r
    same q r lt le = omega arith
