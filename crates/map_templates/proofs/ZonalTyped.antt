-- The queries of zonal operations are typed as their trees, and mean them.
use Rattle.std.proofs.Common.{◌≡◌, ℕ, suc, ◌+◌, ◌≤◌, Bool, true, false, List, [], ◌∷◌, ◌++◌, length, codes, Option, Some, None, Ok, refl, sym, ap, ◌∙◌, arith, append_assoc, append-nil, length-append, ◌||◌, Contains}
use Rattle.std.specs.Prelude.{remove, slice_get, ◌-◌}
use Rattle.std.proofs.lemmas.List.Edits.{remove-append_right}
use Rattle.std.specs.Str.{bytes_eq}
use Rattle.arr_core.specs.declared.domain.Axis.{Axis}
use Rattle.arr_core.specs.declared.signature.Signature.{Signature}
use Rattle.arr_core.specs.Domains.{IsDomain, names_of, axis_place}
use Rattle.wcps_text.specs.Tree as tree
use Rattle.wcps_text.specs.Tree.{Tree, Iters, no_iters, iter, bounds, Subs, no_subs, sub, at}
use Rattle.wcps_types.specs.declared.bound.Bound.{Bound}
use Rattle.wcps_types.specs.Typed.{Typed, bracket}
use Rattle.wcps_types.specs.Names.{name_place}
use Rattle.wcps_types.specs.Shapes.{unnamed}
use Rattle.wcps_types.specs.Boxes.{is_taken}
use Rattle.wcps_types.specs.Brackets.{CutTree, cut_out, all_cut_out}
use Rattle.wcps_types.specs.Typing.{typ, typ_iters, typ_subs}
use Rattle.map_templates.specs.TypedTrees.{located, iterators}
use Rattle.wcps_types.specs.Bindings.{bound_to}
use Rattle.wcps_types.proofs.Parts.{no_test}
use Rattle.std.proofs.lemmas.Map.Views.{Contains-from_any}
use Rattle.std.proofs.lemmas.Slice.Eq.{bytes_eq-Decides}
use Rattle.std.specs.List.{list_any}
use Rattle.wcps_text.proofs.Fronts.{true_false}
use Rattle.map_templates.proofs.Names.{one_digit}
use Rattle.map_templates.proofs.Written.{numbered}
use Rattle.map_templates.proofs.Spelled.{iters_expr, subs_expr}
use Rattle.map_templates.proofs.Layers.{one}
use Rattle.map_templates.proofs.FocalTyped.{IsWritten}

-- ---- lists of iterators

abbrev pub iters_of : List (List ℕ) → List Axis → Iters
iters_of [] axes = no_iters
iters_of (v ∷ vs) [] = no_iters
iters_of (v ∷ vs) (x ∷ axes) = iter v x.name (bounds x.lo x.hi) (iters_of vs axes)

-- no variable is taken before its place in the list
abbrev pub AreFree : List Bound → List (List ℕ) → List (List ℕ) → List (List ℕ) → Type 0
AreFree bound scope before [] = Unit {0}
AreFree bound scope before (v ∷ vs) = (is_taken bound scope before v ≡ false) × AreFree bound scope (before ++ v ∷ []) vs

-- no axis has the name of one before it, and each can be written
abbrev pub AreNew : List Axis → List Axis → Type 0
AreNew before [] = Unit {0}
AreNew before (x ∷ axes) = (axis_place x.name before ≡ None) × IsWritten x × AreNew (before ++ x ∷ []) axes

pub iters_typed : (cs : List Signature) (bound : List Bound) (scope before vs : List (List ℕ)) (front axes : List Axis) → length vs ≡ length axes → AreFree bound scope before vs → AreNew front axes
    → typ_iters cs bound scope (record { variables = before; axes = front }) (iters_of vs axes) ≡ Ok (record { variables = before ++ vs; axes = front ++ axes })
iters_typed cs bound scope before [] front [] same free new = rw (append-nil before, append-nil front) refl
iters_typed cs bound scope before [] front (x ∷ axes) same free new = absurd (omega arith)
iters_typed cs bound scope before (v ∷ vs) front [] same free new = absurd (omega arith)
iters_typed cs bound scope before (v ∷ vs) front (x ∷ axes) same free new =
    rw (free.0, new.0) (rw (new.1.bounds, new.1.name)
    (iters_typed cs bound scope (before ++ v ∷ []) vs (front ++ x ∷ []) axes (omega arith) free.1 new.2
    ∙ rw (append_assoc before (v ∷ []) vs, append_assoc front (x ∷ []) axes) refl))

-- ---- lists of positions

abbrev pub subs_of : List (List ℕ) → List Axis → Subs
subs_of [] axes = no_subs
subs_of (v ∷ vs) [] = no_subs
subs_of (v ∷ vs) (x ∷ axes) = sub x.name (at (tree.variable v)) (subs_of vs axes)

abbrev pub cuts_of : List Axis → List Typed → List CutTree
cuts_of [] ts = []
cuts_of (x ∷ axes) [] = []
cuts_of (x ∷ axes) (t ∷ ts) = record { axis = x.name; position = t } ∷ cuts_of axes ts

-- each variable is an iterator, and has that tree
abbrev pub AreIterators : List Signature → List Bound → List (List ℕ) → List (List ℕ) → List Typed → Type 0
AreIterators cs bound scope [] ts = Unit {0}
AreIterators cs bound scope (v ∷ vs) [] = ⊥
AreIterators cs bound scope (v ∷ vs) (t ∷ ts) = (typ cs bound scope (tree.variable v) ≡ Ok (unnamed [] false t)) × AreIterators cs bound scope vs ts

-- each axis is one of the domain, and was not named before
abbrev pub ArePlaced : List Axis → List (List ℕ) → List Axis → Type 0
ArePlaced domain named [] = Unit {0}
ArePlaced domain named (x ∷ axes) = ((k : ℕ) × (axis_place x.name domain ≡ Some k)) × (name_place x.name named ≡ None) × ArePlaced domain (named ++ x.name ∷ []) axes

subs_typed : (cs : List Signature) (bound : List Bound) (scope vs : List (List ℕ)) (ts : List Typed) (domain : List Axis) (named : List (List ℕ)) (cuts : List CutTree) (axes : List Axis)
    → length vs ≡ length axes → AreIterators cs bound scope vs ts → ArePlaced domain named axes
    → typ_subs cs bound scope (record { domain = domain; named = named; cuts = cuts }) (subs_of vs axes) ≡ Ok (record { domain = domain; named = named ++ names_of axes; cuts = cuts ++ cuts_of axes ts })
subs_typed cs bound scope [] ts domain named cuts [] same typed placed = rw (append-nil named, append-nil cuts) refl
subs_typed cs bound scope [] ts domain named cuts (x ∷ axes) same typed placed = absurd (omega arith)
subs_typed cs bound scope (v ∷ vs) ts domain named cuts [] same typed placed = absurd (omega arith)
subs_typed cs bound scope (v ∷ vs) [] domain named cuts (x ∷ axes) same typed placed = absurd typed
subs_typed cs bound scope (v ∷ vs) (t ∷ ts) domain named cuts (x ∷ axes) same typed placed =
    rw (placed.0.1, placed.1) (rw typed.0
    (subs_typed cs bound scope vs ts domain (named ++ x.name ∷ []) (cuts ++ record { axis = x.name; position = t } ∷ []) axes (omega arith) typed.1 placed.2
    ∙ rw (append_assoc named (x.name ∷ []) (names_of axes), append_assoc cuts (record { axis = x.name; position = t } ∷ []) (cuts_of axes ts)) refl))

-- each axis stands where the axes before it end
abbrev pub AreInOrder : List Axis → List Axis → Type 0
AreInOrder front [] = Unit {0}
AreInOrder front (x ∷ axes) = (axis_place x.name (front ++ x ∷ []) ≡ Some (length front)) × AreInOrder (front ++ x ∷ []) axes

last_axis : (front : List Axis) (x : Axis) → slice_get (front ++ x ∷ []) (length front) ≡ Some x
last_axis [] x = refl
last_axis (a ∷ front) x = last_axis front x

last_removed : (front : List Axis) (x : Axis) → remove (front ++ x ∷ []) (length front) ≡ front
last_removed front x = remove-append_right front (x ∷ []) (length front) (length front) refl (omega arith) ∙ rw (nothing (length front)) (append-nil front)
  where
    nothing : (n : ℕ) → n - n ≡ 0
    nothing n = omega arith

cuts_made : (front rest : List Axis) (ts : List Typed) (n : Option (List ℕ)) (b : Bool) (t : Typed) → length ts ≡ length rest → AreInOrder front rest
    → all_cut_out (cuts_of rest ts) (one (front ++ rest) n b t) ≡ one front n b (located t (length front) rest ts)
cuts_made front [] ts n b t same order = rw (append-nil front) refl
cuts_made front (x ∷ rest) [] n b t same order = absurd (omega arith)
cuts_made front (x ∷ rest) (p ∷ ts) n b t same order =
    let long : length (front ++ x ∷ []) ≡ suc (length front) = omega (arith, length-append front (x ∷ [])) in
    ap (cut_out (record { axis = x.name; position = p }))
    (ap (λ (d : List Axis). all_cut_out (cuts_of rest ts) (one d n b t)) (sym (append_assoc front (x ∷ []) rest)) ∙ cuts_made (front ++ x ∷ []) rest ts n b t (omega arith) order.1)
    ∙ rw (order.0, last_axis front x, last_removed front x, long) refl

-- ---- a layer at iterators

pub located_typed : (cs : List Signature) (bound : List Bound) (scope vs : List (List ℕ)) (ts : List Typed) (e : Tree) (axes : List Axis) (n : Option (List ℕ)) (b : Bool) (t : Typed)
    → typ cs bound scope e ≡ Ok (one axes n b t) → length vs ≡ length axes → length ts ≡ length axes → AreIterators cs bound scope vs ts → ArePlaced axes [] axes → AreInOrder [] axes
    → typ cs bound scope (tree.brackets e (subs_of vs axes)) ≡ Ok (one [] n b (bracket (located t 0 axes ts)))
located_typed cs bound scope vs ts e axes n b t typed some same iterated placed order =
    rw typed (rw (subs_typed cs bound scope vs ts axes [] [] axes some iterated placed) (rw (cuts_made [] axes ts n b t same order) refl))

-- ---- axes of a domain, by their names

-- the name is none of these
abbrev pub Apart : List ℕ → List (List ℕ) → Type 0
Apart x [] = Unit {0}
Apart x (y ∷ ys) = (bytes_eq x y ≡ false) × Apart x ys

either : (a b : Bool) → (a || b) ≡ false → (a ≡ false) × (b ≡ false)
either true b e = absurd (true_false refl e)
either false b e = (refl, e)

apart : (x : List ℕ) (ys : List (List ℕ)) → list_any (bytes_eq x) ys ≡ false → Apart x ys
apart x [] e = tt
apart x (y ∷ ys) e = let h = either (bytes_eq x y) (list_any (bytes_eq x) ys) e in (h.0, apart x ys h.1)

not_among : (x : List ℕ) (ys : List (List ℕ)) → ¬ Contains ys x → Apart x ys
not_among x ys none = apart x ys (no_test (list_any (bytes_eq x) ys) (λ e. none (Contains-from_any {eq = bytes_eq} (λ y z. (bytes_eq-Decides y z).0) x ys e)))

abbrev pub AllWritten : List Axis → Type 0
AllWritten [] = Unit {0}
AllWritten (x ∷ axes) = IsWritten x × AllWritten axes

pub record Arranged (axes : List Axis) : Type 0 where
  pub new : AreNew [] axes
  pub placed : ArePlaced axes [] axes
  pub order : AreInOrder [] axes

pub arranged : (axes : List Axis) → IsDomain axes → AllWritten axes → Arranged axes
arranged [] d w = record { new = tt; placed = tt; order = tt }
arranged (x ∷ []) d w =
    let s1 = w.0.self in
    record { new = (refl, w.0, tt); placed = ((0, simp (s1) refl), refl, tt); order = (simp (s1) refl, tt) }
arranged (x ∷ y ∷ []) d w =
    let s1 = w.0.self in
    let s2 = w.1.0.self in
    let a = not_among x.name (y.name ∷ []) d.distinct.0 in
    let d12 = a.0 in
    record {
      new = (refl, w.0, (simp (d12) refl, w.1.0, tt));
      placed = ((0, simp (s1) refl), refl, ((1, simp (d12, s2) refl), simp (d12) refl, tt));
      order = (simp (s1) refl, (simp (d12, s2) refl, tt));
    }
arranged (x ∷ y ∷ z ∷ []) d w =
    let s1 = w.0.self in
    let s2 = w.1.0.self in
    let s3 = w.1.1.0.self in
    let a = not_among x.name (y.name ∷ z.name ∷ []) d.distinct.0 in
    let b = not_among y.name (z.name ∷ []) d.distinct.1.0 in
    let d12 = a.0 in
    let d13 = a.1.0 in
    let d23 = b.0 in
    record {
      new = (refl, w.0, (simp (d12) refl, w.1.0, (simp (d13, d23) refl, w.1.1.0, tt)));
      placed = ((0, simp (s1) refl), refl, ((1, simp (d12, s2) refl), simp (d12) refl, ((2, simp (d13, d23, s3) refl), simp (d13, d23) refl, tt)));
      order = (simp (s1) refl, (simp (d12, s2) refl, (simp (d13, d23, s3) refl, tt)));
    }
arranged (x ∷ y ∷ z ∷ t ∷ []) d w =
    let s1 = w.0.self in
    let s2 = w.1.0.self in
    let s3 = w.1.1.0.self in
    let s4 = w.1.1.1.0.self in
    let a = not_among x.name (y.name ∷ z.name ∷ t.name ∷ []) d.distinct.0 in
    let b = not_among y.name (z.name ∷ t.name ∷ []) d.distinct.1.0 in
    let c = not_among z.name (t.name ∷ []) d.distinct.1.1.0 in
    let d12 = a.0 in
    let d13 = a.1.0 in
    let d14 = a.1.1.0 in
    let d23 = b.0 in
    let d24 = b.1.0 in
    let d34 = c.0 in
    record {
      new = (refl, w.0, (simp (d12) refl, w.1.0, (simp (d13, d23) refl, w.1.1.0, (simp (d14, d24, d34) refl, w.1.1.1.0, tt))));
      placed = ((0, simp (s1) refl), refl, ((1, simp (d12, s2) refl), simp (d12) refl, ((2, simp (d13, d23, s3) refl), simp (d13, d23) refl, ((3, simp (d14, d24, d34, s4) refl), simp (d14, d24, d34) refl, tt))));
      order = (simp (s1) refl, (simp (d12, s2) refl, (simp (d13, d23, s3) refl, (simp (d14, d24, d34, s4) refl, tt))));
    }
arranged (x ∷ y ∷ z ∷ t ∷ s ∷ []) d w =
    let s1 = w.0.self in
    let s2 = w.1.0.self in
    let s3 = w.1.1.0.self in
    let s4 = w.1.1.1.0.self in
    let s5 = w.1.1.1.1.0.self in
    let a = not_among x.name (y.name ∷ z.name ∷ t.name ∷ s.name ∷ []) d.distinct.0 in
    let b = not_among y.name (z.name ∷ t.name ∷ s.name ∷ []) d.distinct.1.0 in
    let c = not_among z.name (t.name ∷ s.name ∷ []) d.distinct.1.1.0 in
    let e = not_among t.name (s.name ∷ []) d.distinct.1.1.1.0 in
    let d12 = a.0 in
    let d13 = a.1.0 in
    let d14 = a.1.1.0 in
    let d15 = a.1.1.1.0 in
    let d23 = b.0 in
    let d24 = b.1.0 in
    let d25 = b.1.1.0 in
    let d34 = c.0 in
    let d35 = c.1.0 in
    let d45 = e.0 in
    record {
      new = (refl, w.0, (simp (d12) refl, w.1.0, (simp (d13, d23) refl, w.1.1.0, (simp (d14, d24, d34) refl, w.1.1.1.0, (simp (d15, d25, d35, d45) refl, w.1.1.1.1.0, tt)))));
      placed = ((0, simp (s1) refl), refl, ((1, simp (d12, s2) refl), simp (d12) refl, ((2, simp (d13, d23, s3) refl), simp (d13, d23) refl, ((3, simp (d14, d24, d34, s4) refl), simp (d14, d24, d34) refl, ((4, simp (d15, d25, d35, d45, s5) refl), simp (d15, d25, d35, d45) refl, tt)))));
      order = (simp (s1) refl, (simp (d12, s2) refl, (simp (d13, d23, s3) refl, (simp (d14, d24, d34, s4) refl, (simp (d15, d25, d35, d45, s5) refl, tt)))));
    }
arranged (x ∷ y ∷ z ∷ t ∷ s ∷ r ∷ []) d w =
    let s1 = w.0.self in
    let s2 = w.1.0.self in
    let s3 = w.1.1.0.self in
    let s4 = w.1.1.1.0.self in
    let s5 = w.1.1.1.1.0.self in
    let s6 = w.1.1.1.1.1.0.self in
    let a = not_among x.name (y.name ∷ z.name ∷ t.name ∷ s.name ∷ r.name ∷ []) d.distinct.0 in
    let b = not_among y.name (z.name ∷ t.name ∷ s.name ∷ r.name ∷ []) d.distinct.1.0 in
    let c = not_among z.name (t.name ∷ s.name ∷ r.name ∷ []) d.distinct.1.1.0 in
    let e = not_among t.name (s.name ∷ r.name ∷ []) d.distinct.1.1.1.0 in
    let f = not_among s.name (r.name ∷ []) d.distinct.1.1.1.1.0 in
    let d12 = a.0 in
    let d13 = a.1.0 in
    let d14 = a.1.1.0 in
    let d15 = a.1.1.1.0 in
    let d16 = a.1.1.1.1.0 in
    let d23 = b.0 in
    let d24 = b.1.0 in
    let d25 = b.1.1.0 in
    let d26 = b.1.1.1.0 in
    let d34 = c.0 in
    let d35 = c.1.0 in
    let d36 = c.1.1.0 in
    let d45 = e.0 in
    let d46 = e.1.0 in
    let d56 = f.0 in
    record {
      new = (refl, w.0, (simp (d12) refl, w.1.0, (simp (d13, d23) refl, w.1.1.0, (simp (d14, d24, d34) refl, w.1.1.1.0, (simp (d15, d25, d35, d45) refl, w.1.1.1.1.0, (simp (d16, d26, d36, d46, d56) refl, w.1.1.1.1.1.0, tt))))));
      placed = ((0, simp (s1) refl), refl, ((1, simp (d12, s2) refl), simp (d12) refl, ((2, simp (d13, d23, s3) refl), simp (d13, d23) refl, ((3, simp (d14, d24, d34, s4) refl), simp (d14, d24, d34) refl, ((4, simp (d15, d25, d35, d45, s5) refl), simp (d15, d25, d35, d45) refl, ((5, simp (d16, d26, d36, d46, d56, s6) refl), simp (d16, d26, d36, d46, d56) refl, tt))))));
      order = (simp (s1) refl, (simp (d12, s2) refl, (simp (d13, d23, s3) refl, (simp (d14, d24, d34, s4) refl, (simp (d15, d25, d35, d45, s5) refl, (simp (d16, d26, d36, d46, d56, s6) refl, tt))))));
    }
arranged (x ∷ y ∷ z ∷ t ∷ s ∷ r ∷ q ∷ axes) d w = absurd (omega (arith, d.few_axes))

-- ---- the names of the iterators

abbrev pub names_from : List ℕ → ℕ → List Axis → List (List ℕ)
names_from stem k [] = []
names_from stem k (x ∷ axes) = numbered stem k ∷ names_from stem (k + 1) axes

pub same_iters : (stem : List ℕ) (k : ℕ) (axes : List Axis) → iters_expr stem k axes ≡ iters_of (names_from stem k axes) axes
same_iters stem k [] = refl
same_iters stem k (x ∷ axes) = ap (λ (is : Iters). iter (numbered stem k) x.name (bounds x.lo x.hi) is) (same_iters stem (k + 1) axes)

pub same_subs : (stem : List ℕ) (k : ℕ) (axes : List Axis) → subs_expr stem k axes ≡ subs_of (names_from stem k axes) axes
same_subs stem k [] = refl
same_subs stem k (x ∷ axes) = ap (λ (ss : Subs). sub x.name (at (tree.variable (numbered stem k))) ss) (same_subs stem (k + 1) axes)

abbrev pub digit_name : List ℕ → ℕ → List ℕ
digit_name stem d = stem ++ d ∷ []

abbrev pub bindings : ℕ → List Bound
bindings place = bound_to (codes "a") 0 ∷ bound_to (codes "z") place ∷ []

pub record Named (cs : List Signature) (place : ℕ) (axes : List Axis) : Type 0 where
  pub ps : List (List ℕ)
  pub us : List (List ℕ)
  pub are_ps : names_from (codes "$p") 1 axes ≡ ps
  pub are_us : names_from (codes "$u") 1 axes ≡ us
  pub many_ps : length ps ≡ length axes
  pub many_us : length us ≡ length axes
  pub free_ps : AreFree (bindings place) [] [] ps
  pub free_us : AreFree (bindings place) ps [] us
  pub typed_ps : AreIterators cs (bindings place) (ps ++ us) ps (iterators 0 axes)
  pub typed_us : AreIterators cs (bindings place) (ps ++ us) us (iterators (length axes) axes)
  pub no_a : name_place (codes "a") (ps ++ us) ≡ None
  pub no_z : name_place (codes "z") (ps ++ us) ≡ None

pub named : (axes : List Axis) (cs : List Signature) (place : ℕ) → length axes ≤ 6 → Named cs place axes
named [] cs place few = record {
  ps = [];
  us = [];
  are_ps = refl;
  are_us = refl;
  many_ps = refl;
  many_us = refl;
  free_ps = tt;
  free_us = tt;
  typed_ps = tt;
  typed_us = tt;
  no_a = refl;
  no_z = refl;
}
named (x ∷ []) cs place few = record {
  ps = digit_name (codes "$p") 49 ∷ [];
  us = digit_name (codes "$u") 49 ∷ [];
  are_ps = rw (one_digit 1 (omega arith)) refl;
  are_us = rw (one_digit 1 (omega arith)) refl;
  many_ps = refl;
  many_us = refl;
  free_ps = (refl, tt);
  free_us = (refl, tt);
  typed_ps = (refl, tt);
  typed_us = (refl, tt);
  no_a = refl;
  no_z = refl;
}
named (x ∷ y ∷ []) cs place few = record {
  ps = digit_name (codes "$p") 49 ∷ digit_name (codes "$p") 50 ∷ [];
  us = digit_name (codes "$u") 49 ∷ digit_name (codes "$u") 50 ∷ [];
  are_ps = rw (one_digit 1 (omega arith), one_digit 2 (omega arith)) refl;
  are_us = rw (one_digit 1 (omega arith), one_digit 2 (omega arith)) refl;
  many_ps = refl;
  many_us = refl;
  free_ps = (refl, (refl, tt));
  free_us = (refl, (refl, tt));
  typed_ps = (refl, (refl, tt));
  typed_us = (refl, (refl, tt));
  no_a = refl;
  no_z = refl;
}
named (x ∷ y ∷ z ∷ []) cs place few = record {
  ps = digit_name (codes "$p") 49 ∷ digit_name (codes "$p") 50 ∷ digit_name (codes "$p") 51 ∷ [];
  us = digit_name (codes "$u") 49 ∷ digit_name (codes "$u") 50 ∷ digit_name (codes "$u") 51 ∷ [];
  are_ps = rw (one_digit 1 (omega arith), one_digit 2 (omega arith), one_digit 3 (omega arith)) refl;
  are_us = rw (one_digit 1 (omega arith), one_digit 2 (omega arith), one_digit 3 (omega arith)) refl;
  many_ps = refl;
  many_us = refl;
  free_ps = (refl, (refl, (refl, tt)));
  free_us = (refl, (refl, (refl, tt)));
  typed_ps = (refl, (refl, (refl, tt)));
  typed_us = (refl, (refl, (refl, tt)));
  no_a = refl;
  no_z = refl;
}
named (x ∷ y ∷ z ∷ t ∷ []) cs place few = record {
  ps = digit_name (codes "$p") 49 ∷ digit_name (codes "$p") 50 ∷ digit_name (codes "$p") 51 ∷ digit_name (codes "$p") 52 ∷ [];
  us = digit_name (codes "$u") 49 ∷ digit_name (codes "$u") 50 ∷ digit_name (codes "$u") 51 ∷ digit_name (codes "$u") 52 ∷ [];
  are_ps = rw (one_digit 1 (omega arith), one_digit 2 (omega arith), one_digit 3 (omega arith), one_digit 4 (omega arith)) refl;
  are_us = rw (one_digit 1 (omega arith), one_digit 2 (omega arith), one_digit 3 (omega arith), one_digit 4 (omega arith)) refl;
  many_ps = refl;
  many_us = refl;
  free_ps = (refl, (refl, (refl, (refl, tt))));
  free_us = (refl, (refl, (refl, (refl, tt))));
  typed_ps = (refl, (refl, (refl, (refl, tt))));
  typed_us = (refl, (refl, (refl, (refl, tt))));
  no_a = refl;
  no_z = refl;
}
named (x ∷ y ∷ z ∷ t ∷ s ∷ []) cs place few = record {
  ps = digit_name (codes "$p") 49 ∷ digit_name (codes "$p") 50 ∷ digit_name (codes "$p") 51 ∷ digit_name (codes "$p") 52 ∷ digit_name (codes "$p") 53 ∷ [];
  us = digit_name (codes "$u") 49 ∷ digit_name (codes "$u") 50 ∷ digit_name (codes "$u") 51 ∷ digit_name (codes "$u") 52 ∷ digit_name (codes "$u") 53 ∷ [];
  are_ps = rw (one_digit 1 (omega arith), one_digit 2 (omega arith), one_digit 3 (omega arith), one_digit 4 (omega arith), one_digit 5 (omega arith)) refl;
  are_us = rw (one_digit 1 (omega arith), one_digit 2 (omega arith), one_digit 3 (omega arith), one_digit 4 (omega arith), one_digit 5 (omega arith)) refl;
  many_ps = refl;
  many_us = refl;
  free_ps = (refl, (refl, (refl, (refl, (refl, tt)))));
  free_us = (refl, (refl, (refl, (refl, (refl, tt)))));
  typed_ps = (refl, (refl, (refl, (refl, (refl, tt)))));
  typed_us = (refl, (refl, (refl, (refl, (refl, tt)))));
  no_a = refl;
  no_z = refl;
}
named (x ∷ y ∷ z ∷ t ∷ s ∷ r ∷ []) cs place few = record {
  ps = digit_name (codes "$p") 49 ∷ digit_name (codes "$p") 50 ∷ digit_name (codes "$p") 51 ∷ digit_name (codes "$p") 52 ∷ digit_name (codes "$p") 53 ∷ digit_name (codes "$p") 54 ∷ [];
  us = digit_name (codes "$u") 49 ∷ digit_name (codes "$u") 50 ∷ digit_name (codes "$u") 51 ∷ digit_name (codes "$u") 52 ∷ digit_name (codes "$u") 53 ∷ digit_name (codes "$u") 54 ∷ [];
  are_ps = rw (one_digit 1 (omega arith), one_digit 2 (omega arith), one_digit 3 (omega arith), one_digit 4 (omega arith), one_digit 5 (omega arith), one_digit 6 (omega arith)) refl;
  are_us = rw (one_digit 1 (omega arith), one_digit 2 (omega arith), one_digit 3 (omega arith), one_digit 4 (omega arith), one_digit 5 (omega arith), one_digit 6 (omega arith)) refl;
  many_ps = refl;
  many_us = refl;
  free_ps = (refl, (refl, (refl, (refl, (refl, (refl, tt))))));
  free_us = (refl, (refl, (refl, (refl, (refl, (refl, tt))))));
  typed_ps = (refl, (refl, (refl, (refl, (refl, (refl, tt))))));
  typed_us = (refl, (refl, (refl, (refl, (refl, (refl, tt))))));
  no_a = refl;
  no_z = refl;
}
named (x ∷ y ∷ z ∷ t ∷ s ∷ r ∷ q ∷ axes) cs place few = absurd (omega arith)
