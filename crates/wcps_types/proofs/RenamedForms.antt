-- What a form makes of renamed operands is what it makes of the operands, renamed.
use Rattle.std.proofs.Common.{◌≡◌, ℕ, List, [], ◌∷◌, ◌++◌, map, Bool, true, false, not, ◌&&◌, ◌||◌, cond, refl, ap, sym, ◌∙◌}
use Rattle.std.specs.Prelude.{ℤ, nat_eq, length, Option, Some, None, option_map, slice_get, Ok, Err}
use Rattle.std.specs.List.{list_all}
use Rattle.std.specs.Str.{bytes_eq}
use Rattle.std.proofs.lemmas.List.{map-append}
use Rattle.arr_core.specs.Domains.{count, axis_place}
use Rattle.arr_core.specs.declared.domain.Axis.{Axis}
use Rattle.wcps_text.specs.declared.operator.UnaryOperator.{UnaryOperator}
use Rattle.wcps_text.specs.declared.operator.UnaryOperator.TheVariants as unaries
use Rattle.wcps_text.specs.declared.operator.BinaryOperator.{BinaryOperator}
use Rattle.wcps_text.specs.declared.operator.BinaryOperator.TheVariants as binaries
use Rattle.wcps_text.specs.declared.operator.Aggregate.{Aggregate}
use Rattle.wcps_text.specs.declared.operator.Aggregate.TheVariants as aggregates
use Rattle.wcps_text.specs.declared.tree.ListItem.{ListItem}
use Rattle.wcps_types.specs.Typed as typed
use Rattle.wcps_types.specs.Typed.{Typed, condense_of}
use Rattle.wcps_types.specs.Renamed.{renamed}
use Rattle.wcps_types.specs.Shapes.{SlotTree, ShapeTree, FieldOf, ScalarOf, Answer, then_of, is_scalar, unnamed, only_field, without_domain, only_scalar}
use Rattle.wcps_types.specs.Operators.{selected, made_of, negated, unary, are_same, OperandTrees, joined, binary_shape, numeric, logical, binary, reduced_integer, integer_reduction, reduced_boolean, boolean_reduction, reduction}
use Rattle.wcps_types.specs.Brackets.{BoundsOf, CutTree, BracketTree, bounds_of, trimmed_at, with_trim, integer_tree, position_of, sliced_slot, cut_between, cut_at, cut_out, all_cut_out, bracketed_slot, bracketed, closed}
use Rattle.wcps_types.specs.Records.{PieceTree, PieceTrees, is_part, with_part, finished_part, finished}
use Rattle.wcps_types.specs.Boxes.{array_on, condition_of, integers_condensed, booleans_condensed, condensed, first_is_truth, has_kind, listed_on, value_list}

abbrev pub answer_map : {A B : Type 0} → (A → B) → Answer A → Answer B
answer_map f (Ok x) = Ok (f x)
answer_map f (Err e) = Err e

abbrev pub ren_slot : List ℕ → SlotTree → SlotTree
ren_slot cs s = record { name = s.name; boolean = s.boolean; tree = renamed cs s.tree }

abbrev pub ren_shape : List ℕ → ShapeTree → ShapeTree
ren_shape cs s = record { domain = s.domain; fields = map (ren_slot cs) s.fields }

abbrev pub ren_field : List ℕ → FieldOf → FieldOf
ren_field cs f = record { domain = f.domain; boolean = f.boolean; tree = renamed cs f.tree }

abbrev pub ren_scalar : List ℕ → ScalarOf → ScalarOf
ren_scalar cs s = record { boolean = s.boolean; tree = renamed cs s.tree }

abbrev pub ren_operands : List ℕ → OperandTrees → OperandTrees
ren_operands cs o = record { domain = o.domain; left = renamed cs o.left; right = renamed cs o.right }

abbrev pub ren_piece : List ℕ → PieceTree → PieceTree
ren_piece cs p = record { name = p.name; on_no_axes = p.on_no_axes; boolean = p.boolean; tree = renamed cs p.tree }

abbrev pub ren_pieces : List ℕ → PieceTrees → PieceTrees
ren_pieces cs p = record { domain = p.domain; pieces = map (ren_piece cs) p.pieces }

abbrev pub ren_cut : List ℕ → CutTree → CutTree
ren_cut cs c = record { axis = c.axis; position = renamed cs c.position }

abbrev pub ren_bracket : List ℕ → BracketTree → BracketTree
ren_bracket cs b = record { domain = b.domain; named = b.named; cuts = map (ren_cut cs) b.cuts }

abbrev pub ren_condition : List ℕ → Option Typed → Option Typed
ren_condition cs c = option_map (renamed cs) c

pub then-renamed : {A B C D : Type 0} (f : A → C) (g : B → D) (a : Answer A) (c : Answer C) (go : A → Answer B) (to : C → Answer D)
    → c ≡ answer_map f a → ((x : A) → to (f x) ≡ answer_map g (go x)) → then_of c to ≡ answer_map g (then_of a go)
then-renamed f g (Ok x) c go to e h = ap (λ d. then_of d to) e ∙ h x
then-renamed f g (Err r) c go to e h = ap (λ d. then_of d to) e

-- where what follows has no tree
pub then-same : {A B C : Type 0} (f : A → C) (a : Answer A) (c : Answer C) (go : A → Answer B) (to : C → Answer B)
    → c ≡ answer_map f a → ((x : A) → to (f x) ≡ go x) → then_of c to ≡ then_of a go
then-same f (Ok x) c go to e h = ap (λ d. then_of d to) e ∙ h x
then-same f (Err r) c go to e h = ap (λ d. then_of d to) e

-- where neither has one
pub then-both : {A B : Type 0} (a c : Answer A) (go to : A → Answer B) → c ≡ a → ((x : A) → to x ≡ go x) → then_of c to ≡ then_of a go
then-both (Ok x) c go to e h = ap (λ d. then_of d to) e ∙ h x
then-both (Err r) c go to e h = ap (λ d. then_of d to) e

-- where the first one has none
pub then-other : {A B D : Type 0} (g : B → D) (a c : Answer A) (go : A → Answer B) (to : A → Answer D)
    → c ≡ a → ((x : A) → to x ≡ answer_map g (go x)) → then_of c to ≡ answer_map g (then_of a go)
then-other g (Ok x) c go to e h = ap (λ d. then_of d to) e ∙ h x
then-other g (Err r) c go to e h = ap (λ d. then_of d to) e

pub cond-renamed : {B D : Type 0} (g : B → D) (b : Bool) (x y : Answer B) (u v : Answer D) → u ≡ answer_map g x → v ≡ answer_map g y → cond b u v ≡ answer_map g (cond b x y)
cond-renamed g true x y u v h k = h
cond-renamed g false x y u v h k = k

tree-cond : (cs : List ℕ) (b : Bool) (x y : Typed) → cond b (renamed cs x) (renamed cs y) ≡ renamed cs (cond b x y)
tree-cond cs true x y = refl
tree-cond cs false x y = refl

pub field-renamed : (cs : List ℕ) (axes : List Axis) (slots : List SlotTree) → only_field axes (map (ren_slot cs) slots) ≡ answer_map (ren_field cs) (only_field axes slots)
field-renamed cs axes [] = refl
field-renamed cs axes (s ∷ []) = refl
field-renamed cs axes (s ∷ t ∷ more) = refl

pub scalar-renamed : (cs : List ℕ) (s : ShapeTree) → only_scalar (ren_shape cs s) ≡ answer_map (ren_scalar cs) (only_scalar s)
scalar-renamed cs s =
    cond-renamed (ren_scalar cs) (is_scalar s.domain) (then_of (only_field s.domain s.fields) without_domain) _ (then_of (only_field s.domain (map (ren_slot cs) s.fields)) without_domain) _
    (then-renamed (ren_field cs) (ren_scalar cs) (only_field s.domain s.fields) _ without_domain without_domain (field-renamed cs s.domain s.fields) (λ f. refl)) refl

-- operators
made-renamed : (cs : List ℕ) (op : UnaryOperator) (e : ShapeTree) → then_of (only_field e.domain (map (ren_slot cs) e.fields)) (made_of op) ≡ answer_map (ren_shape cs) (then_of (only_field e.domain e.fields) (made_of op))
made-renamed cs op e = then-renamed (ren_field cs) (ren_shape cs) (only_field e.domain e.fields) _ (made_of op) (made_of op) (field-renamed cs e.domain e.fields) (λ f. refl)

pub unary-renamed : (cs : List ℕ) (op : UnaryOperator) (e : ShapeTree) → unary op (ren_shape cs e) ≡ answer_map (ren_shape cs) (unary op e)
unary-renamed cs unaries.Negate e = made-renamed cs unaries.Negate e
unary-renamed cs unaries.Plus e = made-renamed cs unaries.Plus e
unary-renamed cs unaries.Absolute e = made-renamed cs unaries.Absolute e
unary-renamed cs unaries.Not e =
    then-renamed (ren_field cs) (ren_shape cs) (only_field e.domain e.fields) _ negated negated (field-renamed cs e.domain e.fields)
    (λ f. cond-renamed (ren_shape cs) f.boolean _ _ _ _ refl refl)

joined-renamed : (cs : List ℕ) (l r : FieldOf) → joined (ren_field cs l) (ren_field cs r) ≡ answer_map (ren_operands cs) (joined l r)
joined-renamed cs l r =
    cond-renamed (ren_operands cs) (is_scalar l.domain && not (is_scalar r.domain)) _ _ _ _ refl
    (cond-renamed (ren_operands cs) (is_scalar r.domain && not (is_scalar l.domain)) _ _ _ _ refl
    (cond-renamed (ren_operands cs) (are_same l.domain r.domain) _ _ _ _ refl refl))

combined-renamed : (cs : List ℕ) (op : BinaryOperator) (boolean : Bool) (l r : FieldOf)
    → then_of (joined (ren_field cs l) (ren_field cs r)) (binary_shape op boolean) ≡ answer_map (ren_shape cs) (then_of (joined l r) (binary_shape op boolean))
combined-renamed cs op boolean l r =
    then-renamed (ren_operands cs) (ren_shape cs) (joined l r) _ (binary_shape op boolean) (binary_shape op boolean) (joined-renamed cs l r) (λ o. refl)

numeric-renamed : (cs : List ℕ) (op : BinaryOperator) (boolean : Bool) (l r : ShapeTree) → numeric op boolean (ren_shape cs l) (ren_shape cs r) ≡ answer_map (ren_shape cs) (numeric op boolean l r)
numeric-renamed cs op boolean l r =
    then-renamed (ren_field cs) (ren_shape cs) (only_field l.domain l.fields) _ _ _ (field-renamed cs l.domain l.fields)
    (λ f. then-renamed (ren_field cs) (ren_shape cs) (only_field r.domain r.fields) _ (λ (g : FieldOf). then_of (joined f g) (binary_shape op boolean)) (λ (g : FieldOf). then_of (joined (ren_field cs f) g) (binary_shape op boolean))
    (field-renamed cs r.domain r.fields) (λ g. combined-renamed cs op boolean f g))

logical-renamed : (cs : List ℕ) (op : BinaryOperator) (l r : ShapeTree) → logical op (ren_shape cs l) (ren_shape cs r) ≡ answer_map (ren_shape cs) (logical op l r)
logical-renamed cs op l r =
    then-renamed (ren_field cs) (ren_shape cs) (only_field l.domain l.fields) _ _ _ (field-renamed cs l.domain l.fields)
    (λ f. then-renamed (ren_field cs) (ren_shape cs) (only_field r.domain r.fields) _ (λ (g : FieldOf). cond (not f.boolean || not g.boolean) (Err _) (then_of (joined f g) (binary_shape op true)))
    (λ (g : FieldOf). cond (not f.boolean || not g.boolean) (Err _) (then_of (joined (ren_field cs f) g) (binary_shape op true)))
    (field-renamed cs r.domain r.fields) (λ g. cond-renamed (ren_shape cs) (not f.boolean || not g.boolean) _ _ _ _ refl (combined-renamed cs op true f g)))

pub binary-renamed : (cs : List ℕ) (op : BinaryOperator) (l r : ShapeTree) → binary op (ren_shape cs l) (ren_shape cs r) ≡ answer_map (ren_shape cs) (binary op l r)
binary-renamed cs binaries.Multiply l r = numeric-renamed cs binaries.Multiply false l r
binary-renamed cs binaries.Divide l r = numeric-renamed cs binaries.Divide false l r
binary-renamed cs binaries.Add l r = numeric-renamed cs binaries.Add false l r
binary-renamed cs binaries.Subtract l r = numeric-renamed cs binaries.Subtract false l r
binary-renamed cs binaries.Less l r = numeric-renamed cs binaries.Less true l r
binary-renamed cs binaries.LessEqual l r = numeric-renamed cs binaries.LessEqual true l r
binary-renamed cs binaries.Greater l r = numeric-renamed cs binaries.Greater true l r
binary-renamed cs binaries.GreaterEqual l r = numeric-renamed cs binaries.GreaterEqual true l r
binary-renamed cs binaries.Equal l r = numeric-renamed cs binaries.Equal true l r
binary-renamed cs binaries.NotEqual l r = numeric-renamed cs binaries.NotEqual true l r
binary-renamed cs binaries.And l r = logical-renamed cs binaries.And l r
binary-renamed cs binaries.Or l r = logical-renamed cs binaries.Or l r
binary-renamed cs binaries.Xor l r = logical-renamed cs binaries.Xor l r
binary-renamed cs binaries.Bit l r = numeric-renamed cs binaries.Bit true l r

integers-renamed : (cs : List ℕ) (op : Aggregate) (e : ShapeTree) → integer_reduction op (ren_shape cs e) ≡ answer_map (ren_shape cs) (integer_reduction op e)
integers-renamed cs op e =
    then-renamed (ren_field cs) (ren_shape cs) (only_field e.domain e.fields) _ (reduced_integer op) (reduced_integer op) (field-renamed cs e.domain e.fields)
    (λ f. cond-renamed (ren_shape cs) f.boolean _ _ _ _ refl refl)

booleans-renamed : (cs : List ℕ) (op : Aggregate) (boolean : Bool) (e : ShapeTree) → boolean_reduction op boolean (ren_shape cs e) ≡ answer_map (ren_shape cs) (boolean_reduction op boolean e)
booleans-renamed cs op boolean e =
    then-renamed (ren_field cs) (ren_shape cs) (only_field e.domain e.fields) _ (reduced_boolean op boolean) (reduced_boolean op boolean) (field-renamed cs e.domain e.fields)
    (λ f. cond-renamed (ren_shape cs) f.boolean _ _ _ _ refl refl)

pub reduction-renamed : (cs : List ℕ) (op : Aggregate) (e : ShapeTree) → reduction op (ren_shape cs e) ≡ answer_map (ren_shape cs) (reduction op e)
reduction-renamed cs aggregates.Count e = booleans-renamed cs aggregates.Count false e
reduction-renamed cs aggregates.Any e = booleans-renamed cs aggregates.Any true e
reduction-renamed cs aggregates.Every e = booleans-renamed cs aggregates.Every true e
reduction-renamed cs aggregates.Sum e = integers-renamed cs aggregates.Sum e
reduction-renamed cs aggregates.Average e = integers-renamed cs aggregates.Average e
reduction-renamed cs aggregates.Least e = integers-renamed cs aggregates.Least e
reduction-renamed cs aggregates.Greatest e = integers-renamed cs aggregates.Greatest e
reduction-renamed cs aggregates.Product e = integers-renamed cs aggregates.Product e

pub selected-renamed : (cs : List ℕ) (x : List ℕ) (axes : List Axis) (slots : List SlotTree) → selected x axes (map (ren_slot cs) slots) ≡ answer_map (ren_shape cs) (selected x axes slots)
selected-renamed cs x axes [] = refl
selected-renamed cs x axes (s ∷ more) = cond-renamed (ren_shape cs) _ _ (selected x axes more) _ _ refl (selected-renamed cs x axes more)

-- records
pub is-part-renamed : (cs : List ℕ) (x : List ℕ) (ps : List PieceTree) → is_part x (map (ren_piece cs) ps) ≡ is_part x ps
is-part-renamed cs x [] = refl
is-part-renamed cs x (p ∷ ps) = ap (λ b. bytes_eq p.name x || b) (is-part-renamed cs x ps)

pub part-renamed : (cs : List ℕ) (x : List ℕ) (f : FieldOf) (ps : PieceTrees) → with_part x (ren_field cs f) (ren_pieces cs ps) ≡ answer_map (ren_pieces cs) (with_part x f ps)
part-renamed cs x f ps =
    let p : PieceTree = record { name = x; on_no_axes = is_scalar f.domain; boolean = f.boolean; tree = f.tree } in
    cond-renamed (ren_pieces cs) (not (is_scalar f.domain) && (not (is_scalar ps.domain) && not (are_same ps.domain f.domain))) _ (Ok (record { domain = cond (is_scalar f.domain) ps.domain f.domain; pieces = ps.pieces ++ p ∷ [] })) _ _ refl
    (ap (λ (qs : List PieceTree). Ok (record { domain = cond (is_scalar f.domain) ps.domain f.domain; pieces = qs })) (sym (map-append (ren_piece cs) ps.pieces (p ∷ []))))

parts-renamed : (cs : List ℕ) (on : Bool) (ps : List PieceTree) → map (finished_part on) (map (ren_piece cs) ps) ≡ map (ren_slot cs) (map (finished_part on) ps)
parts-renamed cs on [] = refl
parts-renamed cs on (p ∷ ps) =
    let t = tree-cond cs (p.on_no_axes && on) (typed.scalar p.tree) p.tree in
    ap (λ (u : Typed). (record { name = Some p.name; boolean = p.boolean; tree = u }) ∷ map (finished_part on) (map (ren_piece cs) ps)) t
    ∙ ap (λ (more : List SlotTree). ren_slot cs (finished_part on p) ∷ more) (parts-renamed cs on ps)

pub finished-renamed : (cs : List ℕ) (ps : PieceTrees) → finished (ren_pieces cs ps) ≡ ren_shape cs (finished ps)
finished-renamed cs ps = ap (λ (fs : List SlotTree). record { domain = ps.domain; fields = fs }) (parts-renamed cs (not (is_scalar ps.domain)) ps.pieces)

-- brackets
trimmed-renamed : (cs : List ℕ) (o : Option BoundsOf) (k : ℕ) (x : List ℕ) (i : BoundsOf) (b : BracketTree) → trimmed_at o k x i (ren_bracket cs b) ≡ answer_map (ren_bracket cs) (trimmed_at o k x i b)
trimmed-renamed cs None k x i b = refl
trimmed-renamed cs (Some a) k x i b = cond-renamed (ren_bracket cs) _ _ _ _ _ refl refl

pub trim-renamed : (cs : List ℕ) (k : ℕ) (x : List ℕ) (i : BoundsOf) (b : BracketTree) → with_trim k x i (ren_bracket cs b) ≡ answer_map (ren_bracket cs) (with_trim k x i b)
trim-renamed cs k x i b = trimmed-renamed cs (option_map bounds_of (slice_get b.domain k)) k x i b

pub position-renamed : (cs : List ℕ) (s : ShapeTree) → position_of (ren_shape cs s) ≡ answer_map (renamed cs) (position_of s)
position-renamed cs s =
    then-renamed (ren_scalar cs) (renamed cs) (only_scalar s) _ integer_tree integer_tree (scalar-renamed cs s)
    (λ t. cond-renamed (renamed cs) t.boolean _ (Ok t.tree) _ _ refl refl)

sliced-renamed : (cs : List ℕ) (k : ℕ) (lo hi : ℤ) (q : Typed) (slots : List SlotTree) → map (sliced_slot k lo hi (renamed cs q)) (map (ren_slot cs) slots) ≡ map (ren_slot cs) (map (sliced_slot k lo hi q) slots)
sliced-renamed cs k lo hi q [] = refl
sliced-renamed cs k lo hi q (s ∷ more) = ap (λ (rest : List SlotTree). ren_slot cs (sliced_slot k lo hi q s) ∷ rest) (sliced-renamed cs k lo hi q more)

between-renamed : (cs : List ℕ) (o : Option BoundsOf) (k : ℕ) (q : Typed) (s : ShapeTree) → cut_between o k (renamed cs q) (ren_shape cs s) ≡ ren_shape cs (cut_between o k q s)
between-renamed cs None k q s = refl
between-renamed cs (Some i) k q s = ap (λ (fs : List SlotTree). record { domain = (cut_between (Some i) k q s).domain; fields = fs }) (sliced-renamed cs k i.lo i.hi q s.fields)

cut-renamed : (cs : List ℕ) (o : Option ℕ) (q : Typed) (s : ShapeTree) → cut_at o (renamed cs q) (ren_shape cs s) ≡ ren_shape cs (cut_at o q s)
cut-renamed cs None q s = refl
cut-renamed cs (Some k) q s = between-renamed cs (option_map bounds_of (slice_get s.domain k)) k q s

all-renamed : (cs : List ℕ) (cuts : List CutTree) (s : ShapeTree) → all_cut_out (map (ren_cut cs) cuts) (ren_shape cs s) ≡ ren_shape cs (all_cut_out cuts s)
all-renamed cs [] s = refl
all-renamed cs (c ∷ cuts) s =
    let rest = all_cut_out cuts s in
    ap (cut_out (ren_cut cs c)) (all-renamed cs cuts s) ∙ cut-renamed cs (axis_place c.axis rest.domain) c.position rest

bracketed-renamed : (cs : List ℕ) (slots : List SlotTree) → map bracketed_slot (map (ren_slot cs) slots) ≡ map (ren_slot cs) (map bracketed_slot slots)
bracketed-renamed cs [] = refl
bracketed-renamed cs (s ∷ more) = ap (λ (rest : List SlotTree). ren_slot cs (bracketed_slot s) ∷ rest) (bracketed-renamed cs more)

pub closed-renamed : (cs : List ℕ) (b : BracketTree) (fields : List SlotTree) → closed (ren_bracket cs b) (map (ren_slot cs) fields) ≡ ren_shape cs (closed b fields)
closed-renamed cs b fields =
    let s : ShapeTree = record { domain = b.domain; fields = fields } in
    let all = all_cut_out b.cuts s in
    ap bracketed (all-renamed cs b.cuts s) ∙ ap (λ (fs : List SlotTree). record { domain = all.domain; fields = fs }) (bracketed-renamed cs all.fields)

-- boxes
pub array-renamed : (cs : List ℕ) (box : List Axis) (s : ShapeTree) → then_of (only_scalar (ren_shape cs s)) (array_on box) ≡ answer_map (ren_shape cs) (then_of (only_scalar s) (array_on box))
array-renamed cs box s = then-renamed (ren_scalar cs) (ren_shape cs) (only_scalar s) _ (array_on box) (array_on box) (scalar-renamed cs s) (λ t. refl)

pub condition-renamed : (cs : List ℕ) (t : ScalarOf) → condition_of (ren_scalar cs t) ≡ answer_map (renamed cs) (condition_of t)
condition-renamed cs t = cond-renamed (renamed cs) t.boolean _ _ _ _ refl refl

condense-renamed : (cs : List ℕ) (op : Aggregate) (box : List Axis) (c : Option Typed) (t : Typed) → condense_of op box (ren_condition cs c) (renamed cs t) ≡ renamed cs (condense_of op box c t)
condense-renamed cs op box None t = refl
condense-renamed cs op box (Some c) t = refl

integers-condensed : (cs : List ℕ) (op : Aggregate) (box : List Axis) (c : Option Typed) (t : ScalarOf) → integers_condensed op box (ren_condition cs c) (ren_scalar cs t) ≡ answer_map (ren_shape cs) (integers_condensed op box c t)
integers-condensed cs op box c t =
    cond-renamed (ren_shape cs) t.boolean _ (Ok (unnamed [] false (condense_of op box c t.tree))) _ _ refl (ap (λ (u : Typed). Ok (unnamed [] false u)) (condense-renamed cs op box c t.tree))

booleans-condensed : (cs : List ℕ) (op : Aggregate) (boolean : Bool) (box : List Axis) (c : Option Typed) (t : ScalarOf) → booleans_condensed op boolean box (ren_condition cs c) (ren_scalar cs t) ≡ answer_map (ren_shape cs) (booleans_condensed op boolean box c t)
booleans-condensed cs op boolean box c t =
    cond-renamed (ren_shape cs) t.boolean (Ok (unnamed [] boolean (condense_of op box c t.tree))) _ _ _ (ap (λ (u : Typed). Ok (unnamed [] boolean u)) (condense-renamed cs op box c t.tree)) refl

pub condensed-renamed : (cs : List ℕ) (op : Aggregate) (box : List Axis) (c : Option Typed) (t : ScalarOf) → condensed op box (ren_condition cs c) (ren_scalar cs t) ≡ answer_map (ren_shape cs) (condensed op box c t)
condensed-renamed cs aggregates.Sum box c t = integers-condensed cs aggregates.Sum box c t
condensed-renamed cs aggregates.Product box c t = integers-condensed cs aggregates.Product box c t
condensed-renamed cs aggregates.Greatest box c t = integers-condensed cs aggregates.Greatest box c t
condensed-renamed cs aggregates.Least box c t = integers-condensed cs aggregates.Least box c t
condensed-renamed cs aggregates.Every box c t = booleans-condensed cs aggregates.Every true box c t
condensed-renamed cs aggregates.Any box c t = booleans-condensed cs aggregates.Any true box c t
condensed-renamed cs aggregates.Count box c t = booleans-condensed cs aggregates.Count false box c t
condensed-renamed cs aggregates.Average box c t = integers-condensed cs aggregates.Average box c t

pub list-renamed : (cs : List ℕ) (box : List Axis) (items : List ListItem) → value_list box items ≡ answer_map (ren_shape cs) (value_list box items)
list-renamed cs box items =
    cond-renamed (ren_shape cs) (nat_eq (length items) (count box)) (listed_on (first_is_truth items) box items) _ _ _
    (cond-renamed (ren_shape cs) (list_all (has_kind (first_is_truth items)) items) _ _ _ _ refl refl) refl
