-- Brackets and records keep their trees typed.
use Rattle.std.proofs.Common.{◌≡◌, ℕ, ◌≤◌, ℤ, ◌≤ℤ◌, Bool, true, false, cond, not, ◌&&◌, ◌||◌, List, [], ◌∷◌, ◌++◌, map, length, insert, refl, arith, Option, Some, None}
use Rattle.std.specs.Prelude.{slice_get, remove, option_map, IfSome, int_lt}
use Rattle.std.proofs.lemmas.Int.{ints}
use Rattle.std.proofs.lemmas.Bool.{true≢false}
use Rattle.arr_core.specs.declared.domain.Axis.{Axis}
use Rattle.arr_core.specs.declared.signature.Signature.{Signature}
use Rattle.arr_core.specs.Domains.{narrowed, axis_place}
use Rattle.wcps_types.specs.Typed.{Typed, scalar}
use Rattle.wcps_types.specs.Shapes.{SlotTree, ShapeTree, FieldOf, is_scalar, only_scalar}
use Rattle.wcps_types.specs.Operators.{are_same}
use Rattle.wcps_types.specs.Brackets.{BoundsOf, bounds_of, CutTree, BracketTree, opened, trimmed_at, with_trim, integer_tree, position_of, with_position, sliced_slot, cut_between, cut_at, all_cut_out, bracketed_slot, closed}
use Rattle.wcps_types.specs.Records.{PieceTree, PieceTrees, with_part, finished_part, finished}
use Rattle.wcps_types.specs.WellTyped.{LieWithin, from_to, IsTyped}
use Rattle.wcps_types.proofs.Gives.{Gives, gives-then, gives-cond}
use Rattle.wcps_types.proofs.Narrower.{within-refl, within-trans, within-cut, within-narrowed, typed-narrow}
use Rattle.wcps_types.proofs.TypedForms.{SlotsAreTyped, ShapeIsTyped, FieldIsTyped, ScalarIsTyped, scalar-typed, same-within}

-- ---- brackets

-- the positions at which axes are taken out are scalars
abbrev pub CutsAreTyped : List Signature → List Axis → List CutTree → Type 0
CutsAreTyped cs scope [] = Unit {0}
CutsAreTyped cs scope (c ∷ cuts) = IsTyped cs c.position scope [] × CutsAreTyped cs scope cuts

-- a bracket on a value with those axes
abbrev pub BracketIsTyped : List Signature → List Axis → List Axis → BracketTree → Type 0
BracketIsTyped cs scope dom b = LieWithin b.domain dom × CutsAreTyped cs scope b.cuts

pub opened-typed : (cs : List Signature) (scope dom : List Axis) → BracketIsTyped cs scope dom (opened dom)
opened-typed cs scope dom = (within-refl dom, tt)

inside-low : (a b c d : ℤ) → (int_lt a b || int_lt c d) ≡ false → b ≤ℤ a
inside-low a b c d e = grind (arith, ints)

inside-high : (a b c d : ℤ) → (int_lt a b || int_lt c d) ≡ false → d ≤ℤ c
inside-high a b c d e = grind (arith, ints)

trimmed-typed : (cs : List Signature) (scope dom : List Axis) (o : Option BoundsOf) (k : ℕ) (name : List ℕ) (i : BoundsOf) (b : BracketTree)
    → IfSome o (λ (a : BoundsOf). a.lo ≤ℤ i.lo → i.hi ≤ℤ a.hi → LieWithin (narrowed b.domain k i.lo i.hi) b.domain) → BracketIsTyped cs scope dom b → Gives (BracketIsTyped cs scope dom) (trimmed_at o k name i b)
trimmed-typed cs scope dom None k name i b h t = tt
trimmed-typed cs scope dom (Some a) k name i b h t =
    gives-cond (BracketIsTyped cs scope dom) (int_lt i.lo a.lo || int_lt a.hi i.hi) _ _ (λ _. tt)
    (λ e. (within-trans (narrowed b.domain k i.lo i.hi) b.domain dom (h (inside-low i.lo a.lo a.hi i.hi e) (inside-high i.lo a.lo a.hi i.hi e)) t.0, t.1))

pub trim-typed : (cs : List Signature) (scope dom : List Axis) (k : ℕ) (name : List ℕ) (i : BoundsOf) (b : BracketTree) → BracketIsTyped cs scope dom b → Gives (BracketIsTyped cs scope dom) (with_trim k name i b)
trim-typed cs scope dom k name i b t = trimmed-typed cs scope dom (option_map bounds_of (slice_get b.domain k)) k name i b (within-narrowed b.domain k i.lo i.hi) t

pub position-typed : (cs : List Signature) (scope : List Axis) (s : ShapeTree) → ShapeIsTyped cs scope s → Gives (λ t. IsTyped cs t scope []) (position_of s)
position-typed cs scope s h =
    gives-then (ScalarIsTyped cs scope) (λ t. IsTyped cs t scope []) (only_scalar s) integer_tree (scalar-typed cs scope s.domain s.fields h)
    (λ t k. gives-cond (λ u. IsTyped cs u scope []) t.boolean _ _ (λ _. tt) (λ _. k))

cut-last : (cs : List Signature) (scope : List Axis) (cuts : List CutTree) (c : CutTree) → CutsAreTyped cs scope cuts → IsTyped cs c.position scope [] → CutsAreTyped cs scope (cuts ++ c ∷ [])
cut-last cs scope [] c h k = (k, tt)
cut-last cs scope (d ∷ cuts) c h k = (h.0, cut-last cs scope cuts c h.1 k)

pub cut-typed : (cs : List Signature) (scope dom : List Axis) (name : List ℕ) (position : Typed) (b : BracketTree) → BracketIsTyped cs scope dom b → IsTyped cs position scope [] → BracketIsTyped cs scope dom (with_position name position b)
cut-typed cs scope dom name position b h k = (h.0, cut-last cs scope b.cuts (record { axis = name; position = position }) h.1 k)

slots-narrow : (cs : List Signature) (scope dom less : List Axis) (slots : List SlotTree) → LieWithin less dom → SlotsAreTyped cs scope dom slots → SlotsAreTyped cs scope less slots
slots-narrow cs scope dom less [] w h = tt
slots-narrow cs scope dom less (s ∷ slots) w h = (typed-narrow cs s.tree scope scope dom less refl w h.0, slots-narrow cs scope dom less slots w h.1)

sliced-typed : (cs : List Signature) (scope dom : List Axis) (k : ℕ) (i : BoundsOf) (position : Typed) (slots : List SlotTree)
    → LieWithin (insert (remove dom k) k (from_to i.lo i.hi)) dom → k ≤ length (remove dom k) → IsTyped cs position scope [] → SlotsAreTyped cs scope dom slots → SlotsAreTyped cs scope (remove dom k) (map (sliced_slot k i.lo i.hi position) slots)
sliced-typed cs scope dom k i position [] w lt p h = tt
sliced-typed cs scope dom k i position (s ∷ slots) w lt p h =
    ((lt, p, typed-narrow cs s.tree scope scope dom (insert (remove dom k) k (from_to i.lo i.hi)) refl w h.0), sliced-typed cs scope dom k i position slots w lt p h.1)

between-typed : (cs : List Signature) (scope : List Axis) (o : Option BoundsOf) (k : ℕ) (position : Typed) (s : ShapeTree)
    → IfSome o (λ (i : BoundsOf). LieWithin (insert (remove s.domain k) k (from_to i.lo i.hi)) s.domain × (k ≤ length (remove s.domain k))) → IsTyped cs position scope [] → ShapeIsTyped cs scope s → ShapeIsTyped cs scope (cut_between o k position s)
between-typed cs scope None k position s w p h = h
between-typed cs scope (Some i) k position s w p h = sliced-typed cs scope s.domain k i position s.fields w.0 w.1 p h

at-typed : (cs : List Signature) (scope : List Axis) (o : Option ℕ) (position : Typed) (s : ShapeTree) → IsTyped cs position scope [] → ShapeIsTyped cs scope s → ShapeIsTyped cs scope (cut_at o position s)
at-typed cs scope None position s p h = h
at-typed cs scope (Some k) position s p h = between-typed cs scope (option_map bounds_of (slice_get s.domain k)) k position s (within-cut s.domain k) p h

cuts-typed : (cs : List Signature) (scope : List Axis) (cuts : List CutTree) (s : ShapeTree) → CutsAreTyped cs scope cuts → ShapeIsTyped cs scope s → ShapeIsTyped cs scope (all_cut_out cuts s)
cuts-typed cs scope [] s p h = h
cuts-typed cs scope (c ∷ cuts) s p h =
    let inner = all_cut_out cuts s in
    at-typed cs scope (axis_place c.axis inner.domain) c.position inner p.0 (cuts-typed cs scope cuts s p.1 h)

bracketed-typed : (cs : List Signature) (scope dom : List Axis) (slots : List SlotTree) → SlotsAreTyped cs scope dom slots → SlotsAreTyped cs scope dom (map bracketed_slot slots)
bracketed-typed cs scope dom [] h = tt
bracketed-typed cs scope dom (s ∷ slots) h = (h.0, bracketed-typed cs scope dom slots h.1)

pub closed-typed : (cs : List Signature) (scope dom : List Axis) (b : BracketTree) (slots : List SlotTree) → BracketIsTyped cs scope dom b → SlotsAreTyped cs scope dom slots → ShapeIsTyped cs scope (closed b slots)
closed-typed cs scope dom b slots t h =
    let inner : ShapeTree = record { domain = b.domain; fields = slots } in
    let cut = all_cut_out b.cuts inner in
    bracketed-typed cs scope cut.domain cut.fields (cuts-typed cs scope b.cuts inner t.1 (slots-narrow cs scope dom b.domain slots t.0 h))

-- ---- records

-- a part of a record with those axes: a scalar, or a value on them
abbrev pub PieceIsTyped : List Signature → List Axis → List Axis → Bool → Typed → Type 0
PieceIsTyped cs scope dom true t = IsTyped cs t scope []
PieceIsTyped cs scope dom false t = (is_scalar dom ≡ false) × IsTyped cs t scope dom

abbrev pub PiecesAreTyped : List Signature → List Axis → List Axis → List PieceTree → Type 0
PiecesAreTyped cs scope dom [] = Unit {0}
PiecesAreTyped cs scope dom (p ∷ pieces) = PieceIsTyped cs scope dom p.on_no_axes p.tree × PiecesAreTyped cs scope dom pieces

abbrev pub RecordIsTyped : List Signature → List Axis → PieceTrees → Type 0
RecordIsTyped cs scope p = PiecesAreTyped cs scope p.domain p.pieces

piece-last : (cs : List Signature) (scope dom : List Axis) (pieces : List PieceTree) (p : PieceTree) → PiecesAreTyped cs scope dom pieces → PieceIsTyped cs scope dom p.on_no_axes p.tree → PiecesAreTyped cs scope dom (pieces ++ p ∷ [])
piece-last cs scope dom [] p h k = (k, tt)
piece-last cs scope dom (q ∷ pieces) p h k = (h.0, piece-last cs scope dom pieces p h.1 k)

-- parts go on with the axes of the next one: they had none, or the same
piece-moved : (cs : List Signature) (scope dom : List Axis) (a : Axis) (axes : List Axis) (b : Bool) (t : Typed) → (is_scalar dom ≡ false → are_same dom (a ∷ axes) ≡ true) → PieceIsTyped cs scope dom b t → PieceIsTyped cs scope (a ∷ axes) b t
piece-moved cs scope dom a axes true t same h = h
piece-moved cs scope dom a axes false t same h =
    (refl, typed-narrow cs t scope scope dom (a ∷ axes) refl (same-within dom (a ∷ axes) (same h.0)) h.1)

pieces-moved : (cs : List Signature) (scope dom : List Axis) (a : Axis) (axes : List Axis) (pieces : List PieceTree) → (is_scalar dom ≡ false → are_same dom (a ∷ axes) ≡ true) → PiecesAreTyped cs scope dom pieces → PiecesAreTyped cs scope (a ∷ axes) pieces
pieces-moved cs scope dom a axes [] same h = tt
pieces-moved cs scope dom a axes (p ∷ pieces) same h = (piece-moved cs scope dom a axes p.on_no_axes p.tree same h.0, pieces-moved cs scope dom a axes pieces same h.1)

allowed : (none same : Bool) → (true && (not none && not same)) ≡ false → none ≡ false → same ≡ true
allowed true same e h = absurd (true≢false h)
allowed false true e h = refl
allowed false false e h = absurd (true≢false e)

part-on : (cs : List Signature) (scope : List Axis) (name : List ℕ) (axes : List Axis) (boolean : Bool) (t : Typed) (p : PieceTrees) → RecordIsTyped cs scope p → IsTyped cs t scope axes → Gives (RecordIsTyped cs scope) (with_part name (record { domain = axes; boolean = boolean; tree = t }) p)
part-on cs scope name [] boolean t p h k = piece-last cs scope p.domain p.pieces (record { name = name; on_no_axes = true; boolean = boolean; tree = t }) h k
part-on cs scope name (a ∷ axes) boolean t p h k =
    gives-cond (RecordIsTyped cs scope) (true && (not (is_scalar p.domain) && not (are_same p.domain (a ∷ axes)))) _ _ (λ _. tt)
    (λ e. piece-last cs scope (a ∷ axes) p.pieces (record { name = name; on_no_axes = false; boolean = boolean; tree = t }) (pieces-moved cs scope p.domain a axes p.pieces (allowed (is_scalar p.domain) (are_same p.domain (a ∷ axes)) e) h) (refl, k))

pub part-typed : (cs : List Signature) (scope : List Axis) (name : List ℕ) (f : FieldOf) (p : PieceTrees) → RecordIsTyped cs scope p → FieldIsTyped cs scope f → Gives (RecordIsTyped cs scope) (with_part name f p)
part-typed cs scope name f p h k = part-on cs scope name f.domain f.boolean f.tree p h k

-- a scalar part stands at each point
piece-finished : (cs : List Signature) (scope dom : List Axis) (b : Bool) (t : Typed) → PieceIsTyped cs scope dom b t → IsTyped cs (cond (b && not (is_scalar dom)) (scalar t) t) scope dom
piece-finished cs scope [] true t h = h
piece-finished cs scope (a ∷ dom) true t h = h
piece-finished cs scope dom false t h = h.1

pieces-finished : (cs : List Signature) (scope dom : List Axis) (pieces : List PieceTree) → PiecesAreTyped cs scope dom pieces → SlotsAreTyped cs scope dom (map (finished_part (not (is_scalar dom))) pieces)
pieces-finished cs scope dom [] h = tt
pieces-finished cs scope dom (p ∷ pieces) h = (piece-finished cs scope dom p.on_no_axes p.tree h.0, pieces-finished cs scope dom pieces h.1)

pub record-typed : (cs : List Signature) (scope : List Axis) (p : PieceTrees) → RecordIsTyped cs scope p → ShapeIsTyped cs scope (finished p)
record-typed cs scope p h = pieces-finished cs scope p.domain p.pieces h
