-- What is found at the front of tokens that are known.
use Rattle.std.proofs.Common.{◌≡◌, ℕ, ℤ, ◌<◌, ◌≤◌, ⊎_elim, Bool, true, false, cond, codes, map, List, [], ◌∷◌, Option, Some, None, option_and_then, refl, ap, arith}
use Rattle.std.specs.Str.{bytes_eq}
use Rattle.std.specs.Char.{to_ascii_lowercase}
use Rattle.std.proofs.lemmas.Bool.{le-leb, lt-leb}
use Rattle.std.proofs.Math.Dec.{leb}
use Rattle.std.proofs.lemmas.Bool.Decides.{leb_tells}
use Rattle.std.proofs.lemmas.Slice.Eq.{bytes_eq-Decides}
use Rattle.std.proofs.Math.Bool.{or-true}
use denote.Enum.Bare.{true_same}
use Rattle.wcps_text.specs.contracts.token.Symbol as symbol
use Rattle.arr_core.specs.contracts.keyword.Keyword as keyword
use Rattle.wcps_text.specs.declared.token.Symbol.{Symbol}
use Rattle.wcps_text.specs.declared.token.Symbol.TheVariants as signs
use Rattle.arr_core.specs.declared.keyword.Keyword.{Keyword}
use Rattle.arr_core.specs.declared.keyword.Keyword.TheVariants as words
use Rattle.wcps_text.specs.declared.operator.UnaryOperator.{UnaryOperator}
use Rattle.wcps_text.specs.declared.operator.BinaryOperator.{BinaryOperator}
use Rattle.wcps_text.specs.declared.operator.BinaryOperator.TheVariants as binaries
use Rattle.wcps_text.specs.declared.operator.Aggregate.{Aggregate}
use Rattle.wcps_text.specs.declared.tree.ListItem.{ListItem}
use Rattle.wcps_text.specs.declared.tree.ListItem.TheVariants as list_items
use Rattle.wcps_text.specs.Token.{Tok, name, word, sign}
use Rattle.wcps_text.specs.Tree.{bounds}
use Rattle.wcps_text.specs.Grammar.{Prefixes, negate, plus, not, binary_token, rank_of, Condenses, by_sum, by_product, by_greatest, by_least, by_every, by_any, truth_word, SpellsInt, unsigned, positive, negative, SpellsItem, int_item, truth_item, SpellsVariable, plain_name, dollar_name, IsFormat, csv_word, csv_quoted, text_csv_quoted}
use Rattle.wcps_parse.specs.Front.{Reading, sign_at, word_at, name_at, variable_at, int_at, bounds_at, truth_at, item_at, prefix_at, operator, binary_at, condenser_at, postfix_at, format_at}
use Rattle.wcps_parse.proofs.Words.{operator_ranked}

pub sign_again : (s : Symbol) (rest : List Tok) → sign_at s (sign s ∷ rest) ≡ Some rest
unfolding sign_at
sign_again s rest = ap (λ (b : Bool). cond b (Some rest) None) (true_same symbol.the_type s s refl)

pub word_again : (s : Keyword) (rest : List Tok) → word_at s (word s ∷ rest) ≡ Some rest
unfolding word_at
word_again s rest = ap (λ (b : Bool). cond b (Some rest) None) (true_same keyword.the_type s s refl)

pub name_again : (x : List ℕ) (rest : List Tok) → name_at (name x ∷ rest) ≡ Some (x, rest)
unfolding name_at
name_again x rest = refl

pub variable_again : {ts rest : List Tok} {x : List ℕ} → SpellsVariable ts x rest → variable_at ts ≡ Some (x, rest)
unfolding variable_at
variable_again plain_name = refl
variable_again dollar_name = refl

pub int_again : {ts rest : List Tok} {z : ℤ} → SpellsInt ts z rest → int_at ts ≡ Some (z, rest)
unfolding int_at
int_again unsigned = refl
int_again positive = refl
int_again negative = refl

pub bounds_again : {ts mid rest : List Tok} {lo hi : ℤ} → SpellsInt ts lo (sign signs.Colon ∷ mid) → SpellsInt mid hi rest → bounds_at ts ≡ Some (bounds lo hi, rest)
unfolding bounds_at
bounds_again lo hi = rw (int_again lo, sign_again, int_again hi) refl

truth_no_int : (b : Bool) (rest : List Tok) → int_at (word (truth_word b) ∷ rest) ≡ None
unfolding int_at
truth_no_int b rest = refl

truth_again : (b : Bool) (rest : List Tok) → truth_at (word (truth_word b) ∷ rest) ≡ Some (list_items.Truth b, rest)
unfolding truth_at
truth_again true rest = refl
truth_again false rest = refl

pub item_again : {ts rest : List Tok} {x : ListItem} → SpellsItem ts x rest → item_at ts ≡ Some (x, rest)
unfolding item_at
item_again (int_item s) = rw (int_again s) refl
item_again (truth_item {b = b} {rest = rest}) = rw (truth_no_int b rest, truth_again b rest) refl

pub prefix_again : {op : UnaryOperator} {t : Tok} (rest : List Tok) → Prefixes op t → prefix_at (t ∷ rest) ≡ Some (op, rest)
unfolding prefix_at
prefix_again rest negate = refl
prefix_again rest plus = refl
prefix_again rest not = refl

operator_again : (op : BinaryOperator) → 0 < rank_of op → operator (binary_token op) ≡ Some op
operator_again binaries.Multiply ranked = refl
operator_again binaries.Divide ranked = refl
operator_again binaries.Add ranked = refl
operator_again binaries.Subtract ranked = refl
operator_again binaries.Less ranked = refl
operator_again binaries.LessEqual ranked = refl
operator_again binaries.Greater ranked = refl
operator_again binaries.GreaterEqual ranked = refl
operator_again binaries.Equal ranked = refl
operator_again binaries.NotEqual ranked = refl
operator_again binaries.And ranked = refl
operator_again binaries.Or ranked = refl
operator_again binaries.Xor ranked = refl
operator_again binaries.Bit ranked = absurd (omega arith)

pub binary_again : (op : BinaryOperator) (r : ℕ) (rest : List Tok) → 0 < rank_of op → rank_of op ≤ r → binary_at r (binary_token op ∷ rest) ≡ Some (op, rest)
unfolding binary_at
binary_again op r rest ranked le = rw (operator_again op ranked, le-leb (rank_of op) r le) refl

pub binary_other : (op : BinaryOperator) (r : ℕ) (rest : List Tok) → r < rank_of op → binary_at r (binary_token op ∷ rest) ≡ None
unfolding binary_at
binary_other op r rest lt = rw (operator_again op (omega (arith, lt)), lt-leb (rank_of op) r lt) refl

some_is_not_none : {A : Type 0} (b : Bool) (x : A) → b ≡ true → cond b (Some x) None ≡ None → ⊥
some_is_not_none true x f e = absurd cc
some_is_not_none false x f e = absurd cc

-- the operator, if it is of at most that rank
abbrev ranked : ℕ → List Tok → BinaryOperator → Reading BinaryOperator
ranked r ts op = cond (leb (rank_of op) r) (Some (op, ts)) None

quiet_guard : (op : BinaryOperator) (q r : ℕ) (ts : List Tok) → q ≤ r → ranked r ts op ≡ None → ranked q ts op ≡ None
quiet_guard op q r ts le e = ⊎_elim (λ h. absurd (some_is_not_none (leb (rank_of op) r) (op, ts) (le-leb (rank_of op) r (omega (arith, h.1))) e)) (λ h. rw h.0 refl) (leb_tells (rank_of op) q)

quiet_operator : (o : Option BinaryOperator) (q r : ℕ) (ts : List Tok) → q ≤ r → option_and_then (ranked r ts) o ≡ None → option_and_then (ranked q ts) o ≡ None
quiet_operator None q r ts le e = refl
quiet_operator (Some op) q r ts le e = quiet_guard op q r ts le e

-- where no operator of a rank stands, none of a tighter one does
pub quiet_less : (q r : ℕ) (ts : List Tok) → q ≤ r → binary_at r ts ≡ None → binary_at q ts ≡ None
unfolding binary_at
quiet_less q r [] le e = refl
quiet_less q r (t ∷ ts) le e = quiet_operator (operator t) q r ts le e

quiet_none : (r : ℕ) (t : Tok) (ts : List Tok) → operator t ≡ None → binary_at r (t ∷ ts) ≡ None
unfolding binary_at
quiet_none r t ts e = rw e refl

-- no operator binds tighter than all
pub quiet_zero : (ts : List Tok) → binary_at 0 ts ≡ None
unfolding binary_at
quiet_zero [] = refl
quiet_zero (t ∷ ts) = none (operator t) (operator_ranked t)
  where
    none : (o : Option BinaryOperator) → ((op : BinaryOperator) → o ≡ Some op → 0 < rank_of op) → option_and_then (ranked 0 ts) o ≡ None
    none None h = refl
    none (Some op) h = rw (lt-leb (rank_of op) 0 (h op refl)) refl

pub condenser_again : {op : Aggregate} {t : Tok} (rest : List Tok) → Condenses op t → condenser_at (t ∷ rest) ≡ Some (op, rest)
unfolding condenser_at
condenser_again rest by_sum = refl
condenser_again rest by_product = refl
condenser_again rest by_greatest = refl
condenser_again rest by_least = refl
condenser_again rest by_every = refl
condenser_again rest by_any = refl

pub format_again : (t : Tok) (rest : List Tok) → IsFormat t → format_at (t ∷ rest) ≡ Some rest
unfolding format_at
format_again t rest csv_word = refl
format_again t rest (csv_quoted {w = w} e) = rw ((bytes_eq-Decides (map to_ascii_lowercase w) (codes "\"csv\"")).1 e) refl
format_again t rest (text_csv_quoted {w = w} e) = rw ((bytes_eq-Decides (map to_ascii_lowercase w) (codes "\"text/csv\"")).1 e, or-true (bytes_eq (map to_ascii_lowercase w) (codes "\"csv\""))) refl

-- a token that goes on with no expression
pub record Stops (rest : List Tok) : Type 0 where
  pub quiet : (r : ℕ) → binary_at r rest ≡ None
  pub no_postfix : postfix_at rest ≡ None

pub stops_end : Stops []
unfolding binary_at postfix_at
stops_end = record { quiet = λ r. refl; no_postfix = refl }

pub stops_right_paren : (rest : List Tok) → Stops (sign signs.RightParen ∷ rest)
unfolding postfix_at
stops_right_paren rest = record { quiet = λ r. quiet_none r (sign signs.RightParen) rest refl; no_postfix = refl }

pub stops_right_brace : (rest : List Tok) → Stops (sign signs.RightBrace ∷ rest)
unfolding postfix_at
stops_right_brace rest = record { quiet = λ r. quiet_none r (sign signs.RightBrace) rest refl; no_postfix = refl }

pub stops_comma : (rest : List Tok) → Stops (sign signs.Comma ∷ rest)
unfolding postfix_at
stops_comma rest = record { quiet = λ r. quiet_none r (sign signs.Comma) rest refl; no_postfix = refl }

pub stops_semicolon : (rest : List Tok) → Stops (sign signs.Semicolon ∷ rest)
unfolding postfix_at
stops_semicolon rest = record { quiet = λ r. quiet_none r (sign signs.Semicolon) rest refl; no_postfix = refl }

pub stops_colon : (rest : List Tok) → Stops (sign signs.Colon ∷ rest)
unfolding postfix_at
stops_colon rest = record { quiet = λ r. quiet_none r (sign signs.Colon) rest refl; no_postfix = refl }

pub stops_using : (rest : List Tok) → Stops (word words.Using ∷ rest)
unfolding postfix_at
stops_using rest = record { quiet = λ r. quiet_none r (word words.Using) rest refl; no_postfix = refl }

pub stops_return : (rest : List Tok) → Stops (word words.Return ∷ rest)
unfolding postfix_at
stops_return rest = record { quiet = λ r. quiet_none r (word words.Return) rest refl; no_postfix = refl }

pub no_postfix_binary : (op : BinaryOperator) (rest : List Tok) → postfix_at (binary_token op ∷ rest) ≡ None
unfolding postfix_at
no_postfix_binary binaries.Multiply rest = refl
no_postfix_binary binaries.Divide rest = refl
no_postfix_binary binaries.Add rest = refl
no_postfix_binary binaries.Subtract rest = refl
no_postfix_binary binaries.Less rest = refl
no_postfix_binary binaries.LessEqual rest = refl
no_postfix_binary binaries.Greater rest = refl
no_postfix_binary binaries.GreaterEqual rest = refl
no_postfix_binary binaries.Equal rest = refl
no_postfix_binary binaries.NotEqual rest = refl
no_postfix_binary binaries.And rest = refl
no_postfix_binary binaries.Or rest = refl
no_postfix_binary binaries.Xor rest = refl
no_postfix_binary binaries.Bit rest = refl
