-- What expressions show, and the tokens of each form.
use Rattle.std.proofs.Common.{◌≡◌, ℕ, ◌+◌, ◌<◌, ◌≤◌, ℤ, Bool, true, false, List, [], ◌∷◌, length, get_or, drop, Vec, Box, Option, Some, None, Global, refl, sym, ap, ◌∙◌}
use Rattle.std.proofs.lemmas.List.{drop_more, drop_all}
use denote.Enum.Bare.{sameb, same_true}
use Rattle.wcps_text.specs.contracts.operator.BinaryOperator as binary_operator
use Rattle.wcps_text.specs.declared.token.Literal.{Literal}
use Rattle.wcps_text.specs.declared.token.Symbol.TheVariants as signs
use Rattle.arr_core.specs.declared.keyword.Keyword.TheVariants as words
use Rattle.wcps_text.specs.declared.operator.UnaryOperator.{UnaryOperator}
use Rattle.wcps_text.specs.declared.operator.BinaryOperator.{BinaryOperator}
use Rattle.wcps_text.specs.declared.operator.BinaryOperator.TheVariants as binaries
use Rattle.wcps_text.specs.declared.operator.Aggregate.{Aggregate}
use Rattle.wcps_text.specs.declared.tree.ListItem.{ListItem}
use Rattle.wcps_text.specs.declared.tree.ListItem.TheVariants as list_items
use Rattle.wcps_text.specs.declared.tree.Interval.{Interval}
use Rattle.wcps_text.specs.declared.tree.Interval.TheVariants.{Bounds, Domain}
use Rattle.wcps_text.specs.declared.tree.Place.{Place}
use Rattle.wcps_text.specs.declared.tree.Place.TheVariants.{Trim, At}
use Rattle.wcps_text.specs.declared.tree.Item.{Item}
use Rattle.wcps_text.specs.declared.tree.Item.TheVariants as items
use Rattle.wcps_text.specs.declared.tree.Binding.{Binding}
use Rattle.wcps_text.specs.declared.tree.Query.{Query}
use Rattle.wcps_text.specs.declared.tree.Expr as exprs
use Rattle.wcps_text.specs.declared.tree.Expr.{Expr}
use Rattle.wcps_text.specs.declared.tree.Part.{Part}
use Rattle.wcps_text.specs.declared.tree.Sub.{Sub}
use Rattle.wcps_text.specs.declared.tree.Iter.{Iter}
use Rattle.wcps_text.specs.Token.{Tok, number, word, sign}
use Rattle.wcps_text.specs.Tree.{Tree, Condition, unary, binary, field, parts, value_list, brackets, coverage, condense, Parts, Iters, view, view_place, view_interval, parts_of, subs_of, iters_of, condition_of, item_view, bindings_of, query_view}
use Rattle.wcps_text.specs.Grammar.{truth_word}
use Rattle.wcps_text.proofs.Views.{view-Record, view-Brackets, view-ValueList, view-Coverage, view-Condense}
use Rattle.wcps_print.specs.Printing.{name_token, int_tokens, unary_token, between_tokens, bit_tokens, reduce_token, condense_token, separator, items_tokens, head_tokens, expr_tokens, parts_tokens, subs_tokens, place_tokens, interval_tokens, iters_tokens, condition_tokens, names_tokens, bindings_tokens, item_tokens, query_tokens}
use Rattle.wcps_print.proofs.Operators.{between, ranked_if_not_bit}

pub number_of : (e : Expr) (n : Literal) → e ≡ exprs.Number n → (rest : List Tok) → number n.value ∷ rest ≡ expr_tokens (view e) rest
unfolding expr_tokens
number_of e n is rest = rw is refl

pub truth_of : (e : Expr) (b : Bool) → e ≡ exprs.Truth b → (rest : List Tok) → word (truth_word b) ∷ rest ≡ expr_tokens (view e) rest
unfolding expr_tokens
truth_of e b is rest = rw is refl

pub variable_of : (e : Expr) (x : List ℕ) → e ≡ exprs.Variable x → (rest : List Tok) → name_token x ∷ rest ≡ expr_tokens (view e) rest
unfolding expr_tokens
variable_of e x is rest = rw is refl

pub binary_of : (e x y : Expr) (op : BinaryOperator) (a b : Box Expr Global) → e ≡ exprs.Binary op a b → x ≡ a.value → y ≡ b.value → (rest : List Tok) → expr_tokens (binary op (view x) (view y)) rest ≡ expr_tokens (view e) rest
unfolding expr_tokens
binary_of e x y op a b is left right rest = rw (is, left, right) refl

pub between_of : (a b : Tree) (op : BinaryOperator) → false ≡ sameb binary_operator.the_type op binaries.Bit → (rest : List Tok) → between_tokens op (expr_tokens a) (expr_tokens b) rest ≡ expr_tokens (binary op a b) rest
unfolding expr_tokens
between_of a b op other rest = between op (expr_tokens a) (expr_tokens b) rest (ranked_if_not_bit op (sym other))

pub bit_of : (a b : Tree) (op : BinaryOperator) → true ≡ sameb binary_operator.the_type op binaries.Bit → (rest : List Tok) → bit_tokens (expr_tokens a) (expr_tokens b) rest ≡ expr_tokens (binary op a b) rest
unfolding expr_tokens
bit_of a b op same rest = rw (same_true binary_operator.the_type tt op binaries.Bit (sym same)) refl

pub reduce_of : (e x : Expr) (op : Aggregate) (a : Box Expr Global) → e ≡ exprs.Reduce op a → x ≡ a.value → (rest : List Tok) → reduce_token op ∷ sign signs.LeftParen ∷ expr_tokens (view x) (sign signs.RightParen ∷ rest) ≡ expr_tokens (view e) rest
unfolding expr_tokens
reduce_of e x op a is same rest = rw (is, same) refl

pub record_of : (e : Expr) (ps : List Part) (v : Vec Part Global) → e ≡ exprs.Record v → ps ≡ v.items → (rest : List Tok) → expr_tokens (parts (parts_of ps)) rest ≡ expr_tokens (view e) rest
unfolding expr_tokens
record_of e ps v is same rest = ap (λ (t : Tree). expr_tokens t rest) (ap (λ (qs : List Part). parts (parts_of qs)) same ∙ sym (view-Record v) ∙ ap view (sym is))

pub value_list_of : (e : Expr) (its : List Iter) (xs : List ListItem) (v : Vec Iter Global) (w : Vec ListItem Global) → e ≡ exprs.ValueList v w → its ≡ v.items → xs ≡ w.items → (rest : List Tok) → expr_tokens (value_list (iters_of its) xs) rest ≡ expr_tokens (view e) rest
unfolding expr_tokens
value_list_of e its xs v w is same equal rest = ap (λ (t : Tree). expr_tokens t rest) (ap (λ (is : List Iter). value_list (iters_of is) xs) same ∙ ap (value_list (iters_of v.items)) equal ∙ sym (view-ValueList v w) ∙ ap view (sym is))

pub field_of : (e x : Expr) (a : Box Expr Global) (f : List ℕ) → e ≡ exprs.Field a f → x ≡ a.value → (rest : List Tok) → expr_tokens (field (view x) f) rest ≡ expr_tokens (view e) rest
unfolding expr_tokens
field_of e x a f is same rest = rw (is, same) refl

pub field_tokens : (e : Tree) (f : List ℕ) → (rest : List Tok) → sign signs.LeftParen ∷ expr_tokens e (sign signs.RightParen ∷ sign signs.Dot ∷ name_token f ∷ rest) ≡ expr_tokens (field e f) rest
unfolding expr_tokens
field_tokens e f rest = refl

brackets_tree : (e x : Expr) (a : Box Expr Global) (ss : List Sub) (v : Vec Sub Global) → e ≡ exprs.Brackets a v → x ≡ a.value → ss ≡ v.items → brackets (view x) (subs_of ss) ≡ view e
brackets_tree e x a ss v is same equal = ap (λ (y : Expr). brackets (view y) (subs_of ss)) same ∙ ap (λ (ts : List Sub). brackets (view a.value) (subs_of ts)) equal ∙ sym (view-Brackets a v) ∙ ap view (sym is)

coverage_tree : (e x : Expr) (a : Box Expr Global) (its : List Iter) (v : Vec Iter Global) → e ≡ exprs.Coverage v a → x ≡ a.value → its ≡ v.items → coverage (iters_of its) (view x) ≡ view e
coverage_tree e x a its v is same equal = ap (λ (y : Expr). coverage (iters_of its) (view y)) same ∙ ap (λ (js : List Iter). coverage (iters_of js) (view a.value)) equal ∙ sym (view-Coverage v a) ∙ ap view (sym is)

condense_tree : (e x : Expr) (op : Aggregate) (a : Box Expr Global) (o : Option (Box Expr Global)) (its : List Iter) (v : Vec Iter Global) → e ≡ exprs.Condense op v o a → x ≡ a.value → its ≡ v.items → condense op (iters_of its) (condition_of o) (view x) ≡ view e
condense_tree e x op a o its v is same equal = ap (λ (y : Expr). condense op (iters_of its) (condition_of o) (view y)) same ∙ ap (λ (js : List Iter). condense op (iters_of js) (condition_of o) (view a.value)) equal ∙ sym (view-Condense op v o a) ∙ ap view (sym is)

pub brackets_of : (e x : Expr) (a : Box Expr Global) (ss : List Sub) (v : Vec Sub Global) → e ≡ exprs.Brackets a v → x ≡ a.value → ss ≡ v.items → (rest : List Tok) → sign signs.LeftParen ∷ expr_tokens (view x) (sign signs.RightParen ∷ sign signs.LeftBracket ∷ subs_tokens true (subs_of ss) (sign signs.RightBracket ∷ rest)) ≡ expr_tokens (view e) rest
unfolding expr_tokens
brackets_of e x a ss v is same equal rest = ap (λ (t : Tree). expr_tokens t rest) (brackets_tree e x a ss v is same equal)

pub coverage_of : (e x : Expr) (a : Box Expr Global) (its : List Iter) (v : Vec Iter Global) → e ≡ exprs.Coverage v a → x ≡ a.value → its ≡ v.items → (rest : List Tok) → head_tokens (iters_tokens true (iters_of its) (word words.Values ∷ sign signs.LeftParen ∷ expr_tokens (view x) (sign signs.RightParen ∷ rest))) ≡ expr_tokens (view e) rest
unfolding expr_tokens
coverage_of e x a its v is same equal rest = ap (λ (t : Tree). expr_tokens t rest) (coverage_tree e x a its v is same equal)

pub condense_of : (e x : Expr) (op : Aggregate) (a : Box Expr Global) (o : Option (Box Expr Global)) (its : List Iter) (v : Vec Iter Global) → e ≡ exprs.Condense op v o a → x ≡ a.value → its ≡ v.items → (rest : List Tok) → expr_tokens (condense op (iters_of its) (condition_of o) (view x)) rest ≡ expr_tokens (view e) rest
unfolding expr_tokens
condense_of e x op a o its v is same equal rest = ap (λ (t : Tree). expr_tokens t rest) (condense_tree e x op a o its v is same equal)

pub condense_tokens : (op : Aggregate) (is : Iters) (c : Condition) (e : Tree) → (rest : List Tok) → word words.Condense ∷ condense_token op ∷ word words.Over ∷ iters_tokens true is (condition_tokens c (word words.Using ∷ sign signs.LeftParen ∷ expr_tokens e (sign signs.RightParen ∷ rest))) ≡ expr_tokens (condense op is c e) rest
unfolding expr_tokens
condense_tokens op is c e rest = refl

pub unary_of : (op : UnaryOperator) (e : Tree) → (rest : List Tok) → unary_token op ∷ sign signs.LeftParen ∷ expr_tokens e (sign signs.RightParen ∷ rest) ≡ expr_tokens (unary op e) rest
unfolding expr_tokens
unary_of op e rest = refl

pub record_tokens : (ps : Parts) → (rest : List Tok) → sign signs.LeftBrace ∷ parts_tokens true ps (sign signs.RightBrace ∷ rest) ≡ expr_tokens (parts ps) rest
unfolding expr_tokens
record_tokens ps rest = refl

pub value_list_tokens : (is : Iters) (xs : List ListItem) → (rest : List Tok) → head_tokens (iters_tokens true is (word words.Value ∷ word words.List ∷ sign signs.Less ∷ items_tokens true xs (sign signs.Greater ∷ rest))) ≡ expr_tokens (value_list is xs) rest
unfolding expr_tokens
value_list_tokens is xs rest = refl

pub some_condition : (o : Option (Box Expr Global)) (x : Expr) (a : Box Expr Global) → o ≡ Some a → x ≡ a.value → (rest : List Tok) → word words.Where ∷ sign signs.LeftParen ∷ expr_tokens (view x) (sign signs.RightParen ∷ rest) ≡ condition_tokens (condition_of o) rest
unfolding expr_tokens
some_condition o x a is same rest = rw (is, same) refl

pub no_condition : (o : Option (Box Expr Global)) → o ≡ None → (rest : List Tok) → rest ≡ condition_tokens (condition_of o) rest
unfolding expr_tokens
no_condition o is rest = rw is refl

pub bounds_of : (i : Interval) (x y lo hi : ℤ) → i ≡ Bounds lo hi → x ≡ lo → y ≡ hi → (rest : List Tok) → int_tokens x (sign signs.Colon ∷ int_tokens y rest) ≡ interval_tokens (view_interval i) rest
unfolding expr_tokens
bounds_of i x y lo hi is low high rest = rw (is, low, high) refl

pub domain_of : (i : Interval) (x : Expr) (a : Box Expr Global) (f : List ℕ) → i ≡ Domain a f → x ≡ a.value → (rest : List Tok) → word words.ImageCrsDomain ∷ sign signs.LeftParen ∷ expr_tokens (view x) (sign signs.Comma ∷ name_token f ∷ sign signs.RightParen ∷ rest) ≡ interval_tokens (view_interval i) rest
unfolding expr_tokens
domain_of i x a f is same rest = rw (is, same) refl

pub position_of : (p : Place) (x : Expr) (a : Box Expr Global) → p ≡ At a → x ≡ a.value → (rest : List Tok) → expr_tokens (view x) rest ≡ place_tokens (view_place p) rest
unfolding expr_tokens
position_of p x a is same rest = rw (is, same) refl

pub trim_of : (p : Place) (i : Interval) → p ≡ Trim i → (rest : List Tok) → interval_tokens (view_interval i) rest ≡ place_tokens (view_place p) rest
unfolding expr_tokens
trim_of p i is rest = rw is refl

pub int_item_of : (x : ListItem) (y z : ℤ) → x ≡ list_items.Int z → y ≡ z → (rest : List Tok) → int_tokens y rest ≡ items_tokens true (x ∷ []) rest
unfolding items_tokens
int_item_of x y z is same rest = rw (is, same) refl

pub truth_item_of : (x : ListItem) (b : Bool) → x ≡ list_items.Truth b → (rest : List Tok) → word (truth_word b) ∷ rest ≡ items_tokens true (x ∷ []) rest
unfolding items_tokens
truth_item_of x b is rest = rw is refl

-- what stands at a place is the first of what stands from there on
read_here : {A : Type 0} (xs : List A) (i : ℕ) (x : A) → i < length xs → x ≡ get_or xs i x → drop i xs ≡ x ∷ drop (i + 1) xs
read_here {A} xs i x lt is = drop_more xs i x lt ∙ ap (λ (y : A). y ∷ drop (i + 1) xs) (sym is)

pub parts_end : (first : Bool) (xs : List Part) (i : ℕ) → length xs ≤ i → (rest : List Tok) → rest ≡ parts_tokens first (parts_of (drop i xs)) rest
unfolding expr_tokens
parts_end first xs i le rest = rw (drop_all i xs le) refl

pub parts_step : (first : Bool) (xs : List Part) (i : ℕ) (p : Part) → i < length xs → p ≡ get_or xs i p → (rest : List Tok) → separator first signs.Semicolon (name_token p.name ∷ sign signs.Colon ∷ expr_tokens (view p.value) (parts_tokens false (parts_of (drop (i + 1) xs)) rest)) ≡ parts_tokens first (parts_of (drop i xs)) rest
unfolding expr_tokens
parts_step first xs i p lt is rest = rw (read_here xs i p lt is) refl

pub subs_end : (first : Bool) (xs : List Sub) (i : ℕ) → length xs ≤ i → (rest : List Tok) → rest ≡ subs_tokens first (subs_of (drop i xs)) rest
unfolding expr_tokens
subs_end first xs i le rest = rw (drop_all i xs le) refl

pub subs_step : (first : Bool) (xs : List Sub) (i : ℕ) (s : Sub) → i < length xs → s ≡ get_or xs i s → (rest : List Tok) → separator first signs.Comma (name_token s.axis ∷ sign signs.LeftParen ∷ place_tokens (view_place s.place) (sign signs.RightParen ∷ subs_tokens false (subs_of (drop (i + 1) xs)) rest)) ≡ subs_tokens first (subs_of (drop i xs)) rest
unfolding expr_tokens
subs_step first xs i s lt is rest = rw (read_here xs i s lt is) refl

pub iters_end : (first : Bool) (xs : List Iter) (i : ℕ) → length xs ≤ i → (rest : List Tok) → rest ≡ iters_tokens first (iters_of (drop i xs)) rest
unfolding expr_tokens
iters_end first xs i le rest = rw (drop_all i xs le) refl

pub iters_step : (first : Bool) (xs : List Iter) (i : ℕ) (v : Iter) → i < length xs → v ≡ get_or xs i v → (rest : List Tok) → separator first signs.Comma (name_token v.variable ∷ name_token v.axis ∷ sign signs.LeftParen ∷ interval_tokens (view_interval v.interval) (sign signs.RightParen ∷ iters_tokens false (iters_of (drop (i + 1) xs)) rest)) ≡ iters_tokens first (iters_of (drop i xs)) rest
unfolding expr_tokens
iters_step first xs i v lt is rest = rw (read_here xs i v lt is) refl

pub names_end : (first : Bool) (xs : List (List ℕ)) (i : ℕ) → length xs ≤ i → (rest : List Tok) → rest ≡ names_tokens first (drop i xs) rest
unfolding names_tokens
names_end first xs i le rest = rw (drop_all i xs le) refl

pub names_step : (first : Bool) (xs : List (List ℕ)) (i : ℕ) (x : (List ℕ)) → i < length xs → x ≡ get_or xs i x → (rest : List Tok) → separator first signs.Comma (name_token x ∷ names_tokens false (drop (i + 1) xs) rest) ≡ names_tokens first (drop i xs) rest
unfolding names_tokens
names_step first xs i x lt is rest = rw (read_here xs i x lt is) refl

pub bindings_end : (first : Bool) (xs : List Binding) (i : ℕ) → length xs ≤ i → (rest : List Tok) → rest ≡ bindings_tokens first (bindings_of (drop i xs)) rest
unfolding bindings_tokens
bindings_end first xs i le rest = rw (drop_all i xs le) refl

pub bindings_step : (first : Bool) (xs : List Binding) (i : ℕ) (b : Binding) → i < length xs → b ≡ get_or xs i b → (rest : List Tok) → separator first signs.Comma (name_token b.variable ∷ word words.In ∷ sign signs.LeftParen ∷ names_tokens true b.coverages.items (sign signs.RightParen ∷ bindings_tokens false (bindings_of (drop (i + 1) xs)) rest)) ≡ bindings_tokens first (bindings_of (drop i xs)) rest
unfolding bindings_tokens
bindings_step first xs i b lt is rest = rw (read_here xs i b lt is) refl

items_cons : (first : Bool) (x : ListItem) (xs : List ListItem) (rest : List Tok) → separator first signs.Semicolon (items_tokens true (x ∷ []) (items_tokens false xs rest)) ≡ items_tokens first (x ∷ xs) rest
unfolding items_tokens
items_cons first (list_items.Int z) xs rest = refl
items_cons first (list_items.Truth b) xs rest = refl

pub items_end : (first : Bool) (xs : List ListItem) (i : ℕ) → length xs ≤ i → (rest : List Tok) → rest ≡ items_tokens first (drop i xs) rest
unfolding items_tokens
items_end first xs i le rest = rw (drop_all i xs le) refl

pub items_step : (first : Bool) (xs : List ListItem) (i : ℕ) (d : ListItem) → i < length xs → (rest : List Tok) → separator first signs.Semicolon (items_tokens true (get_or xs i d ∷ []) (items_tokens false (drop (i + 1) xs) rest)) ≡ items_tokens first (drop i xs) rest
items_step first xs i d lt rest = rw (drop_more xs i d lt) (items_cons first (get_or xs i d) (drop (i + 1) xs) rest)

pub plain_of : (i : Item) (e : Expr) (b : Box Expr Global) → i ≡ items.Plain b → e ≡ b.value → (rest : List Tok) → expr_tokens (view e) rest ≡ item_tokens (item_view i) rest
unfolding item_tokens
plain_of i e b is same rest = rw (is, same) refl

pub encode_of : (i : Item) (e : Expr) (b : Box Expr Global) → i ≡ items.Encode b → e ≡ b.value → (rest : List Tok) → word words.Encode ∷ sign signs.LeftParen ∷ expr_tokens (view e) (sign signs.Comma ∷ word words.Csv ∷ sign signs.RightParen ∷ rest) ≡ item_tokens (item_view i) rest
unfolding item_tokens
encode_of i e b is same rest = rw (is, same) refl

pub query_of : (q : Query) (bs : List Binding) → bs ≡ q.bindings.items → word words.For ∷ bindings_tokens true (bindings_of bs) (condition_tokens (condition_of q.condition) (word words.Return ∷ item_tokens (item_view q.item) [])) ≡ query_tokens (query_view q)
unfolding query_tokens
query_of q bs same = rw same refl
