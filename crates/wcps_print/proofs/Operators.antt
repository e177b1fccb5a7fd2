-- An operator stands between its operands, or it is `bit`.
use Rattle.std.proofs.Common.{◌≡◌, ◌<◌, ◌⊎◌, inl, inr, ⊎_elim, List, refl, arith, false}
use denote.Enum.Bare.{sameb, true_same}
use Rattle.wcps_text.specs.contracts.operator.BinaryOperator as binary_operator
use Rattle.wcps_text.specs.declared.operator.BinaryOperator.{BinaryOperator}
use Rattle.wcps_text.specs.declared.operator.BinaryOperator.TheVariants as binaries
use Rattle.wcps_text.specs.Token.{Tok}
use Rattle.wcps_text.specs.Grammar.{rank_of}
use Rattle.wcps_print.specs.Printing.{between_tokens, binary_tokens}

pub bit_or_between : (op : BinaryOperator) → (op ≡ binaries.Bit) ⊎ (0 < rank_of op)
bit_or_between binaries.Multiply = inr (omega arith)
bit_or_between binaries.Divide = inr (omega arith)
bit_or_between binaries.Add = inr (omega arith)
bit_or_between binaries.Subtract = inr (omega arith)
bit_or_between binaries.Less = inr (omega arith)
bit_or_between binaries.LessEqual = inr (omega arith)
bit_or_between binaries.Greater = inr (omega arith)
bit_or_between binaries.GreaterEqual = inr (omega arith)
bit_or_between binaries.Equal = inr (omega arith)
bit_or_between binaries.NotEqual = inr (omega arith)
bit_or_between binaries.And = inr (omega arith)
bit_or_between binaries.Or = inr (omega arith)
bit_or_between binaries.Xor = inr (omega arith)
bit_or_between binaries.Bit = inl refl

pub between : (op : BinaryOperator) (a b : List Tok → List Tok) (rest : List Tok) → 0 < rank_of op → between_tokens op a b rest ≡ binary_tokens op a b rest
between binaries.Multiply a b rest ranked = refl
between binaries.Divide a b rest ranked = refl
between binaries.Add a b rest ranked = refl
between binaries.Subtract a b rest ranked = refl
between binaries.Less a b rest ranked = refl
between binaries.LessEqual a b rest ranked = refl
between binaries.Greater a b rest ranked = refl
between binaries.GreaterEqual a b rest ranked = refl
between binaries.Equal a b rest ranked = refl
between binaries.NotEqual a b rest ranked = refl
between binaries.And a b rest ranked = refl
between binaries.Or a b rest ranked = refl
between binaries.Xor a b rest ranked = refl
between binaries.Bit a b rest ranked = absurd (omega arith)

pub ranked_if_not_bit : (op : BinaryOperator) → sameb binary_operator.the_type op binaries.Bit ≡ false → 0 < rank_of op
ranked_if_not_bit op e = ⊎_elim (λ (h : op ≡ binaries.Bit). let same = true_same binary_operator.the_type op binaries.Bit h in absurd cc) (λ (h : 0 < rank_of op). h) (bit_or_between op)
