-- A typed tree depends on the domains and fields of the variables' coverages alone: over other coverages with these it
-- is the same tree with the coverages exchanged.
use Rattle.std.proofs.Common.{◌≡◌, ℕ, zero, suc, ◌+◌, List, [], ◌∷◌, ◌++◌, map, Bool, true, false, not, ◌||◌, cond, refl, ap, sym, subst, arith, ◌∙◌, get_or, length}
use Rattle.std.specs.Prelude.{Option, Some, None, is_some, slice_get, Ok}
use Rattle.std.specs.List.{prefix_len}
use Rattle.std.specs.Str.{bytes_eq}
use Rattle.std.proofs.lemmas.List.{map-append}
use Rattle.arr_core.specs.declared.domain.Axis.{Axis}
use Rattle.arr_core.specs.declared.field.Field.{Field}
use Rattle.arr_core.specs.declared.signature.Signature.{Signature}
use Rattle.wcps_text.specs.Tree as tree
use Rattle.wcps_text.specs.Tree.{Tree, Parts, no_parts, part, Subs, no_subs, sub, PlaceTree, trim, at, IntervalTree, bounds, Iters, no_iters, iter, Condition, always, only, QueryTree, encode, plain}
use Rattle.wcps_types.specs.declared.bound.Bound.{Bound}
use Rattle.wcps_types.specs.Typed.{Typed, cell, FieldTree}
use Rattle.wcps_types.specs.Renamed.{renamed, renamed_field, renamed_item, renamed_combination}
use Rattle.wcps_types.specs.Names.{bound_place, name_place}
use Rattle.wcps_types.specs.Shapes.{SlotTree, ShapeTree, ScalarOf, Answer, then_of, is_scalar, only_field, only_scalar}
use Rattle.wcps_types.specs.Operators as operators
use Rattle.wcps_types.specs.Brackets.{BracketTree, opened, place_to_cut, position_of, with_position}
use Rattle.wcps_types.specs.Records.{PieceTrees, no_pieces, is_part, with_part}
use Rattle.wcps_types.specs.Boxes.{IteratorTrees, no_iterators, is_taken, with_iterator, box_of, condition_of, condensed, value_list}
use Rattle.arr_core.specs.Cells.{is_bool}
use Rattle.arr_core.specs.Domains.{axis_place}
use Rattle.wcps_types.specs.Variables.{cells_from, coverage_at, bound_at, bound_of, iterator_or}
use Rattle.wcps_types.specs.Typing.{some_condition, closed_on, array_of, condition_tree, typ, typ_parts, typ_subs, typ_place, typ_interval, typ_iters, typ_condition}
use Rattle.wcps_types.specs.Queries.{field_of_slot, item_of, plain_item, typ_item, combination_of, typ_combination}
use Rattle.wcps_types.specs.Sharing.{AreLike, StandsFor, Stand, own, coverages_in}
use Rattle.wcps_types.proofs.RenamedForms.{answer_map, ren_slot, ren_shape, ren_field, ren_scalar, ren_pieces, ren_cut, ren_bracket, ren_condition, then-renamed, then-same, then-both, then-other, cond-renamed, field-renamed, scalar-renamed, unary-renamed, binary-renamed, reduction-renamed, selected-renamed, is-part-renamed, part-renamed, finished-renamed, trim-renamed, position-renamed, closed-renamed, array-renamed, condition-renamed, condensed-renamed, list-renamed}

-- variables
cells-renamed : (cs : List ℕ) (v c k : ℕ) (fields : List Field) → get_or cs v 0 ≡ c → cells_from c k fields ≡ map (ren_slot cs) (cells_from v k fields)
cells-renamed cs v c k [] e = refl
cells-renamed cs v c k (f ∷ fields) e =
    ap (λ (d : ℕ). (record { name = Some f.name; boolean = is_bool f.kind; tree = cell d k }) ∷ cells_from c (k + 1) fields) (sym e)
    ∙ ap (λ (more : List SlotTree). ren_slot cs (record { name = Some f.name; boolean = is_bool f.kind; tree = cell v k }) ∷ more) (cells-renamed cs v c (k + 1) fields e)

-- the shapes of like signatures
like-renamed : (names : List ℕ) (v c : ℕ) (t s : Signature) → AreLike t s → get_or names v 0 ≡ c → coverage_at c (Some t) ≡ answer_map (ren_shape names) (coverage_at v (Some s))
like-renamed names v c t s like e =
    ap (λ (d : List Axis). Ok (record { domain = d; fields = cells_from c 0 t.fields })) like.0
    ∙ ap (λ (fields : List Field). Ok (record { domain = s.domain; fields = cells_from c 0 fields })) like.1
    ∙ ap (λ (fs : List SlotTree). Ok (record { domain = s.domain; fields = fs })) (cells-renamed names v c 0 s.fields e)

coverage-renamed : (names : List ℕ) (v c : ℕ) (o : Option Signature) (s : Signature) → StandsFor o s → get_or names v 0 ≡ c → coverage_at c o ≡ answer_map (ren_shape names) (coverage_at v (Some s))
coverage-renamed names v c None s like e = absurd like
coverage-renamed names v c (Some t) s like e = like-renamed names v c t s like e

-- the variable at place j, behind k others
at-place : (cs : List Signature) (names : List ℕ) (all : List Signature) (bound : List Bound) (sigs : List Signature) (k j : ℕ) → Stand cs (coverages_in bound) sigs
    → ((i : ℕ) → slice_get all (k + i) ≡ slice_get sigs i) → ((i : ℕ) → get_or names (k + i) 0 ≡ get_or (coverages_in bound) i 0)
    → bound_at cs (slice_get bound j) ≡ answer_map (ren_shape names) (bound_at all (slice_get (own k bound) j))
at-place cs names all [] [] k j h f g = refl
at-place cs names all [] (s ∷ sigs) k j h f g = absurd h
at-place cs names all (b ∷ bound) [] k j h f g = absurd h
at-place cs names all (b ∷ bound) (s ∷ sigs) k zero h f g =
    let z : k + 0 ≡ k = omega arith in
    let own_one : slice_get all k ≡ Some s = subst (λ n. slice_get all n ≡ Some s) z (f 0) in
    let of : get_or names k 0 ≡ b.coverage = subst (λ n. get_or names n 0 ≡ b.coverage) z (g 0) in
    coverage-renamed names k b.coverage (slice_get cs b.coverage) s h.0 of ∙ ap (λ o. answer_map (ren_shape names) (coverage_at k o)) (sym own_one)
at-place cs names all (b ∷ bound) (s ∷ sigs) k (suc j) h f g =
    at-place cs names all bound sigs (suc k) j h.1
    (λ i. let e : k + suc i ≡ suc k + i = omega arith in subst (λ n. slice_get all n ≡ slice_get sigs i) e (f (suc i)))
    (λ i. let e : k + suc i ≡ suc k + i = omega arith in subst (λ n. get_or names n 0 ≡ get_or (coverages_in bound) i 0) e (g (suc i)))

own-length : (k : ℕ) (bound : List Bound) → length (own k bound) ≡ length bound
own-length k [] = refl
own-length k (b ∷ bound) = ap suc (own-length (suc k) bound)

own-prefix : (x : List ℕ) (k : ℕ) (bound : List Bound) → prefix_len (λ (b : Bound). not (bytes_eq b.variable x)) (own k bound) ≡ prefix_len (λ (b : Bound). not (bytes_eq b.variable x)) bound
own-prefix x k [] = refl
own-prefix x k (b ∷ bound) = ap (λ n. cond (not (bytes_eq b.variable x)) (1 + n) 0) (own-prefix x (suc k) bound)

own-place : (x : List ℕ) (bound : List Bound) → bound_place x (own 0 bound) ≡ bound_place x bound
own-place x bound = rw (own-length 0 bound, own-prefix x 0 bound) refl

bound-renamed : (cs : List Signature) (bound : List Bound) (sigs : List Signature) (o : Option ℕ) → Stand cs (coverages_in bound) sigs → bound_of cs bound o ≡ answer_map (ren_shape (coverages_in bound)) (bound_of sigs (own 0 bound) o)
bound-renamed cs bound sigs None h = refl
bound-renamed cs bound sigs (Some j) h =
    at-place cs (coverages_in bound) sigs bound sigs 0 j h
    (λ i. let e : 0 + i ≡ i = omega arith in ap (slice_get sigs) e) (λ i. let e : 0 + i ≡ i = omega arith in ap (λ n. get_or (coverages_in bound) n 0) e)

variable-renamed : (cs : List Signature) (bound : List Bound) (sigs : List Signature) (x : List ℕ) (o : Option ℕ) → Stand cs (coverages_in bound) sigs
    → iterator_or o (bound_of cs bound (bound_place x bound)) ≡ answer_map (ren_shape (coverages_in bound)) (iterator_or o (bound_of sigs (own 0 bound) (bound_place x (own 0 bound))))
variable-renamed cs bound sigs x (Some level) h = refl
variable-renamed cs bound sigs x None h =
    bound-renamed cs bound sigs (bound_place x bound) h
    ∙ ap (λ (o : Option ℕ). answer_map (ren_shape (coverages_in bound)) (bound_of sigs (own 0 bound) o)) (sym (own-place x bound))

taken-same : (bound : List Bound) (scope before : List (List ℕ)) (x : List ℕ) → is_taken bound scope before x ≡ is_taken (own 0 bound) scope before x
taken-same bound scope before x = ap (λ (o : Option ℕ). (is_some o || is_some (name_place x scope)) || is_some (name_place x before)) (sym (own-place x bound))

cond-step : {B D : Type 0} (g : B → D) (b c : Bool) (x y : Answer B) (u v : Answer D) → c ≡ b → u ≡ answer_map g x → v ≡ answer_map g y → cond c u v ≡ answer_map g (cond b x y)
cond-step g b c x y u v e h k = ap (λ d. cond d u v) e ∙ cond-renamed g b x y u v h k

cond-same : {A : Type 0} (b c : Bool) (x y z : Answer A) → b ≡ c → y ≡ z → cond b x y ≡ cond c x z
cond-same b c x y z e f = ap (λ d. cond d x y) e ∙ ap (cond c x) f

condition-shape : (n : List ℕ) (s : ShapeTree) → condition_tree (ren_shape n s) ≡ answer_map (ren_condition n) (condition_tree s)
condition-shape n s =
    then-renamed (ren_scalar n) (ren_condition n) (only_scalar s) _ (λ (t : ScalarOf). then_of (condition_of t) some_condition) (λ (t : ScalarOf). then_of (condition_of t) some_condition) (scalar-renamed n s)
    (λ t. then-renamed (renamed n) (ren_condition n) (condition_of t) _ some_condition some_condition (condition-renamed n t) (λ c. refl))

mutual
  pub typ-renamed : (cs : List Signature) (bound : List Bound) (sigs : List Signature) → Stand cs (coverages_in bound) sigs → (scope : List (List ℕ)) (e : Tree)
      → typ cs bound scope e ≡ answer_map (ren_shape (coverages_in bound)) (typ sigs (own 0 bound) scope e)
  typ-renamed cs bound sigs h scope (tree.number n) = refl
  typ-renamed cs bound sigs h scope (tree.truth true) = refl
  typ-renamed cs bound sigs h scope (tree.truth false) = refl
  typ-renamed cs bound sigs h scope (tree.variable x) = variable-renamed cs bound sigs x (name_place x scope) h
  typ-renamed cs bound sigs h scope (tree.unary op e) =
      let n = coverages_in bound in
      then-renamed (ren_shape n) (ren_shape n) (typ sigs (own 0 bound) scope e) _ _ _ (typ-renamed cs bound sigs h scope e) (λ s. unary-renamed n op s)
  typ-renamed cs bound sigs h scope (tree.binary op l r) =
      let n = coverages_in bound in
      then-renamed (ren_shape n) (ren_shape n) (typ sigs (own 0 bound) scope l) _ _ _ (typ-renamed cs bound sigs h scope l)
      (λ s. then-renamed (ren_shape n) (ren_shape n) (typ sigs (own 0 bound) scope r) _ (operators.binary op s) (operators.binary op (ren_shape n s)) (typ-renamed cs bound sigs h scope r) (λ t. binary-renamed n op s t))
  typ-renamed cs bound sigs h scope (tree.reduce op e) =
      let n = coverages_in bound in
      then-renamed (ren_shape n) (ren_shape n) (typ sigs (own 0 bound) scope e) _ _ _ (typ-renamed cs bound sigs h scope e) (λ s. reduction-renamed n op s)
  typ-renamed cs bound sigs h scope (tree.parts ps) = parts-renamed cs bound sigs h scope no_pieces ps
  typ-renamed cs bound sigs h scope (tree.value_list is items) =
      let n = coverages_in bound in
      then-other (ren_shape n) (typ_iters sigs (own 0 bound) scope no_iterators is) _ _ _ (iters-same cs bound sigs h scope no_iterators is)
      (λ i. then-other (ren_shape n) (box_of i.axes) _ (λ (box : List Axis). value_list box items) (λ (box : List Axis). value_list box items) refl (λ box. list-renamed n box items))
  typ-renamed cs bound sigs h scope (tree.field e x) =
      let n = coverages_in bound in
      then-renamed (ren_shape n) (ren_shape n) (typ sigs (own 0 bound) scope e) _ _ _ (typ-renamed cs bound sigs h scope e) (λ s. selected-renamed n x s.domain s.fields)
  typ-renamed cs bound sigs h scope (tree.brackets e ss) =
      let n = coverages_in bound in
      then-renamed (ren_shape n) (ren_shape n) (typ sigs (own 0 bound) scope e) _ _ _ (typ-renamed cs bound sigs h scope e)
      (λ s. then-renamed (ren_bracket n) (ren_shape n) (typ_subs sigs (own 0 bound) scope (opened s.domain) ss) _ (closed_on s) (closed_on (ren_shape n s)) (subs-renamed cs bound sigs h scope (opened s.domain) ss)
      (λ b. ap Ok (closed-renamed n b s.fields)))
  typ-renamed cs bound sigs h scope (tree.coverage is e) =
      let n = coverages_in bound in
      then-other (ren_shape n) (typ_iters sigs (own 0 bound) scope no_iterators is) _ _ _ (iters-same cs bound sigs h scope no_iterators is)
      (λ i. then-other (ren_shape n) (box_of i.axes) _ (λ (box : List Axis). then_of (typ sigs (own 0 bound) (scope ++ i.variables) e) (array_of box)) (λ (box : List Axis). then_of (typ cs bound (scope ++ i.variables) e) (array_of box)) refl
      (λ box. then-renamed (ren_shape n) (ren_shape n) (typ sigs (own 0 bound) (scope ++ i.variables) e) _ (array_of box) (array_of box) (typ-renamed cs bound sigs h (scope ++ i.variables) e) (λ s. array-renamed n box s)))
  typ-renamed cs bound sigs h scope (tree.condense op is c e) =
      then-other (ren_shape (coverages_in bound)) (typ_iters sigs (own 0 bound) scope no_iterators is) _ _ _ (iters-same cs bound sigs h scope no_iterators is)
      (λ i. then-other (ren_shape (coverages_in bound)) (box_of i.axes) _
      (λ (box : List Axis). then_of (typ_condition sigs (own 0 bound) (scope ++ i.variables) c) (λ (condition : Option Typed). then_of (typ sigs (own 0 bound) (scope ++ i.variables) e) (λ (s : ShapeTree). then_of (only_scalar s) (condensed op box condition))))
      (λ (box : List Axis). then_of (typ_condition cs bound (scope ++ i.variables) c) (λ (condition : Option Typed). then_of (typ cs bound (scope ++ i.variables) e) (λ (s : ShapeTree). then_of (only_scalar s) (condensed op box condition))))
      refl
      (λ box. then-renamed (ren_condition (coverages_in bound)) (ren_shape (coverages_in bound)) (typ_condition sigs (own 0 bound) (scope ++ i.variables) c) _
      (λ (condition : Option Typed). then_of (typ sigs (own 0 bound) (scope ++ i.variables) e) (λ (s : ShapeTree). then_of (only_scalar s) (condensed op box condition)))
      (λ (condition : Option Typed). then_of (typ cs bound (scope ++ i.variables) e) (λ (s : ShapeTree). then_of (only_scalar s) (condensed op box condition)))
      (where-renamed cs bound sigs h (scope ++ i.variables) c)
      (λ condition. then-renamed (ren_shape (coverages_in bound)) (ren_shape (coverages_in bound)) (typ sigs (own 0 bound) (scope ++ i.variables) e) _
      (λ (s : ShapeTree). then_of (only_scalar s) (condensed op box condition)) (λ (s : ShapeTree). then_of (only_scalar s) (condensed op box (ren_condition (coverages_in bound) condition)))
      (typ-renamed cs bound sigs h (scope ++ i.variables) e)
      (λ s. then-renamed (ren_scalar (coverages_in bound)) (ren_shape (coverages_in bound)) (only_scalar s) _ (condensed op box condition) (condensed op box (ren_condition (coverages_in bound) condition))
      (scalar-renamed (coverages_in bound) s) (λ t. condensed-renamed (coverages_in bound) op box condition t)))))

  parts-renamed : (cs : List Signature) (bound : List Bound) (sigs : List Signature) → Stand cs (coverages_in bound) sigs → (scope : List (List ℕ)) (ps : PieceTrees) (more : Parts)
      → typ_parts cs bound scope (ren_pieces (coverages_in bound) ps) more ≡ answer_map (ren_shape (coverages_in bound)) (typ_parts sigs (own 0 bound) scope ps more)
  parts-renamed cs bound sigs h scope ps no_parts = ap Ok (finished-renamed (coverages_in bound) ps)
  parts-renamed cs bound sigs h scope ps (part x e more) =
      let n = coverages_in bound in
      cond-step (ren_shape n) (is_part x ps.pieces) _ _ _ _ _ (is-part-renamed n x ps.pieces) refl
      (then-renamed (ren_shape n) (ren_shape n) (typ sigs (own 0 bound) scope e) _ _ _ (typ-renamed cs bound sigs h scope e)
      (λ s. then-renamed (ren_field n) (ren_shape n) (only_field s.domain s.fields) _ _ _ (field-renamed n s.domain s.fields)
      (λ f. then-renamed (ren_pieces n) (ren_shape n) (with_part x f ps) _ _ _ (part-renamed n x f ps) (λ qs. parts-renamed cs bound sigs h scope qs more))))

  subs-renamed : (cs : List Signature) (bound : List Bound) (sigs : List Signature) → Stand cs (coverages_in bound) sigs → (scope : List (List ℕ)) (b : BracketTree) (ss : Subs)
      → typ_subs cs bound scope (ren_bracket (coverages_in bound) b) ss ≡ answer_map (ren_bracket (coverages_in bound)) (typ_subs sigs (own 0 bound) scope b ss)
  subs-renamed cs bound sigs h scope b no_subs = refl
  subs-renamed cs bound sigs h scope b (sub x p more) =
      let n = coverages_in bound in
      then-renamed (ren_bracket n) (ren_bracket n) (then_of (place_to_cut x b) (λ (k : ℕ). typ_place sigs (own 0 bound) scope k x b p)) _ _ _
      (then-other (ren_bracket n) (place_to_cut x b) _ (λ (k : ℕ). typ_place sigs (own 0 bound) scope k x b p) (λ (k : ℕ). typ_place cs bound scope k x (ren_bracket n b) p) refl (λ k. place-renamed cs bound sigs h scope k x b p))
      (λ c. subs-renamed cs bound sigs h scope c more)

  place-renamed : (cs : List Signature) (bound : List Bound) (sigs : List Signature) → Stand cs (coverages_in bound) sigs → (scope : List (List ℕ)) (k : ℕ) (x : List ℕ) (b : BracketTree) (p : PlaceTree)
      → typ_place cs bound scope k x (ren_bracket (coverages_in bound) b) p ≡ answer_map (ren_bracket (coverages_in bound)) (typ_place sigs (own 0 bound) scope k x b p)
  place-renamed cs bound sigs h scope k x b (trim i) =
      let n = coverages_in bound in
      then-other (ren_bracket n) (typ_interval sigs (own 0 bound) scope i) _ _ _ (interval-same cs bound sigs h scope i) (λ i. trim-renamed n k x i b)
  place-renamed cs bound sigs h scope k x b (at e) =
      let n = coverages_in bound in
      then-renamed (ren_shape n) (ren_bracket n) (typ sigs (own 0 bound) scope e) _ _ _ (typ-renamed cs bound sigs h scope e)
      (λ s. then-renamed (renamed n) (ren_bracket n) (position_of s) _ (λ (position : Typed). Ok (with_position x position b)) (λ (position : Typed). Ok (with_position x position (ren_bracket n b))) (position-renamed n s)
      (λ t. ap (λ cuts. Ok (record { domain = b.domain; named = b.named ++ x ∷ []; cuts = cuts })) (sym (map-append (ren_cut n) b.cuts (record { axis = x; position = t } ∷ [])))))

  interval-same : (cs : List Signature) (bound : List Bound) (sigs : List Signature) → Stand cs (coverages_in bound) sigs → (scope : List (List ℕ)) (i : IntervalTree)
      → typ_interval cs bound scope i ≡ typ_interval sigs (own 0 bound) scope i
  interval-same cs bound sigs h scope (bounds lo hi) = refl
  interval-same cs bound sigs h scope (tree.domain e x) =
      then-same (ren_shape (coverages_in bound)) (typ sigs (own 0 bound) scope e) _ _ _ (typ-renamed cs bound sigs h scope e) (λ s. refl)

  iters-same : (cs : List Signature) (bound : List Bound) (sigs : List Signature) → Stand cs (coverages_in bound) sigs → (scope : List (List ℕ)) (is : IteratorTrees) (more : Iters)
      → typ_iters cs bound scope is more ≡ typ_iters sigs (own 0 bound) scope is more
  iters-same cs bound sigs h scope is no_iters = refl
  iters-same cs bound sigs h scope is (iter v x i more) =
      cond-same (is_taken bound scope is.variables v) (is_taken (own 0 bound) scope is.variables v) _ _ _ (taken-same bound scope is.variables v)
      (cond-same (is_some (axis_place x is.axes)) (is_some (axis_place x is.axes)) _ _ _ refl
      (then-both (typ_interval sigs (own 0 bound) scope i) _ _ _ (interval-same cs bound sigs h scope i)
      (λ i. then-both (with_iterator v x i is) _ (λ (js : IteratorTrees). typ_iters sigs (own 0 bound) scope js more) (λ (js : IteratorTrees). typ_iters cs bound scope js more) refl (λ js. iters-same cs bound sigs h scope js more))))

  pub where-renamed : (cs : List Signature) (bound : List Bound) (sigs : List Signature) → Stand cs (coverages_in bound) sigs → (scope : List (List ℕ)) (c : Condition)
      → typ_condition cs bound scope c ≡ answer_map (ren_condition (coverages_in bound)) (typ_condition sigs (own 0 bound) scope c)
  where-renamed cs bound sigs h scope always = refl
  where-renamed cs bound sigs h scope (only e) =
      let n = coverages_in bound in
      then-renamed (ren_shape n) (ren_condition n) (typ sigs (own 0 bound) scope e) _ condition_tree condition_tree (typ-renamed cs bound sigs h scope e) (λ s. condition-shape n s)

slots-renamed : (n : List ℕ) (slots : List SlotTree) → map field_of_slot (map (ren_slot n) slots) ≡ map (renamed_field n) (map field_of_slot slots)
slots-renamed n [] = refl
slots-renamed n (s ∷ slots) = ap (λ (more : List FieldTree). renamed_field n (field_of_slot s) ∷ more) (slots-renamed n slots)

returned-renamed : (n : List ℕ) (s : ShapeTree) → item_of (ren_shape n s) ≡ answer_map (renamed_item n) (item_of s)
returned-renamed n s = ap (λ (fields : List FieldTree). Ok (record { domain = s.domain; fields = fields })) (slots-renamed n s.fields)

item-renamed : (cs : List Signature) (bound : List Bound) (sigs : List Signature) → Stand cs (coverages_in bound) sigs → (i : tree.ItemTree)
    → typ_item cs bound [] i ≡ answer_map (renamed_item (coverages_in bound)) (typ_item sigs (own 0 bound) [] i)
item-renamed cs bound sigs h (encode e) =
    let n = coverages_in bound in
    then-renamed (ren_shape n) (renamed_item n) (typ sigs (own 0 bound) [] e) _ item_of item_of (typ-renamed cs bound sigs h [] e) (λ s. returned-renamed n s)
item-renamed cs bound sigs h (plain e) =
    let n = coverages_in bound in
    then-renamed (ren_shape n) (renamed_item n) (typ sigs (own 0 bound) [] e) _ plain_item plain_item (typ-renamed cs bound sigs h [] e)
    (λ s. cond-renamed (renamed_item n) (is_scalar s.domain) (item_of s) _ (item_of (ren_shape n s)) _ (returned-renamed n s) refl)

-- the query over coverages is that over its variables, each of which stands for one of them
pub combination-renamed : (cs : List Signature) (q : QueryTree) (bound : List Bound) (sigs : List Signature) → Stand cs (coverages_in bound) sigs
    → typ_combination cs q bound ≡ answer_map (renamed_combination (coverages_in bound)) (typ_combination sigs q (own 0 bound))
combination-renamed cs q bound sigs h =
    let n = coverages_in bound in
    then-renamed (ren_condition n) (renamed_combination n) (typ_condition sigs (own 0 bound) [] q.condition) _ _ _ (where-renamed cs bound sigs h [] q.condition)
    (λ c. then-renamed (renamed_item n) (renamed_combination n) (typ_item sigs (own 0 bound) [] q.item) _ (combination_of c) (combination_of (ren_condition n c)) (item-renamed cs bound sigs h q.item) (λ i. refl))
