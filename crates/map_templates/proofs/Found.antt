-- What is known of the layers of an operation that is asked.
use Rattle.std.proofs.Common.{◌≡◌, ℕ, suc, ◌≤◌, ℤ, ◌≤ℤ◌, pos, negsuc, Bool, true, false, cond, List, [], ◌∷◌, get_or, All, Option, Some, None, Result, Ok, Err, ok_or, IfOk, refl, sym, ap, ◌∙◌, subst, arith}
use Rattle.std.specs.Str.{bytes_eq}
use Rattle.std.proofs.lemmas.Int.{ints}
use Rattle.std.proofs.lemmas.List.Quantifiers.{position-Some}
use Rattle.std.proofs.lemmas.Option.{get_or_from_slice_get, slice_get_within}
use Rattle.std.proofs.lemmas.Slice.Eq.{bytes_eq-Decides}
use Rattle.arr_core.specs.declared.domain.Axis.{Axis}
use Rattle.arr_core.specs.declared.field.Field.{Field}
use Rattle.arr_core.specs.declared.signature.Signature.{Signature}
use Rattle.arr_core.specs.Domains.{AreOrdered}
use Rattle.arr_core.specs.Fields.{IsField, field_place}
use Rattle.arr_core.specs.Names.{IsName}
use Rattle.wcps_types.specs.Names.{coverage_place}
use Rattle.wcps_types.specs.Bindings.{signature_at}
use Rattle.wcps_types.specs.Shapes.{then_of}
use Rattle.wcps_types.specs.Operators.{are_same}
use Rattle.map_templates.specs.declared.params.Layer.{Layer}
use Rattle.map_templates.specs.declared.params.Params.{Params}
use Rattle.map_templates.specs.declared.refusal.ExpandError.{ExpandError}
use Rattle.map_templates.specs.declared.refusal.ExpandRefusal.TheVariants.{NoSuchCoverage, BadParameter}
use Rattle.map_templates.specs.declared.template.LocalOperation.{LocalOperation}
use Rattle.map_templates.specs.declared.template.Summary.{Summary}
use Rattle.map_templates.specs.Refusals.{Answer, Says}
use Rattle.map_templates.specs.Expansion.{Operation, local_on, focal_on, zonal_on, coverage_of, field_found, field_at, field_of, second_of, radius_of, local_operation, on_plane, focal_operation, zonal_operation, text_of, as_text}
use Rattle.map_templates.specs.Queries.{IsAxis, IsCoverage}
use Rattle.map_templates.proofs.Written.{IsLayer, IsFieldName, AreAxes}
use Rattle.map_templates.proofs.Same.{Decides-same}

pub no_answer : {A E : Type 0} {e : E} {a : A} {P : Type 0} → Err e ≡ Ok a → P
no_answer e = absurd cc

pub none_some : {A : Type 0} {a : A} {P : Type 0} → None ≡ Some a → P
none_some e = absurd cc

abbrev pub given : {A : Type 0} → A → Answer A
given a = Ok a

pub same_answer : {A : Type 0} {a b : A} → given a ≡ given b → a ≡ b
same_answer e = cc

-- a check that gave something came after one that did
pub record After {A B : Type 0} (r : Answer A) (go : A → Answer B) (b : B) : Type 0 where
  pub value : A
  pub is : r ≡ Ok value
  pub next : go value ≡ Ok b

pub after : {A B : Type 0} (r : Answer A) (go : A → Answer B) (b : B) → then_of r go ≡ Ok b → After r go b
after (Ok a) go b e = record { value = a; is = refl; next = e }
after (Err f) go b e = no_answer e

-- ---- the coverage of a layer and its field

pub record IsFound (signatures : List Signature) (layer : Layer) (s : Signature) (f : ℕ) : Type 0 where
  pub found : signature_at (coverage_place layer.coverage signatures) signatures ≡ Some s
  pub field : field_of layer s ≡ Ok f

is_found : (o : Option Signature) (s : Signature) → ok_or o NoSuchCoverage ≡ Ok s → o ≡ Some s
is_found None s e = no_answer e
is_found (Some t) s e = ap (λ (x : Signature). Some x) (same_answer e)

at_place : (P : Signature → Type 0) (name : List ℕ) (signatures : List Signature) (s : Signature) (o : Option ℕ) → coverage_place name signatures ≡ o → All P signatures
    → signature_at o signatures ≡ Some s → (s.name ≡ name) × P s
at_place P name signatures s None is all e = none_some e
at_place P name signatures s (Some k) is all e =
    let here = get_or_from_slice_get signatures k s s e in
    let passes = (position-Some (λ (t : Signature). bytes_eq t.name name) signatures k s is).1 in
    ((bytes_eq-Decides s.name name).0 (subst (λ (t : Signature). bytes_eq t.name name ≡ true) here passes), subst P here (all k s (slice_get_within signatures k s e)))

pub found_named : (signatures : List Signature) (layer : Layer) (s : Signature) (f : ℕ) → IsFound signatures layer s f → All IsCoverage signatures → (s.name ≡ layer.coverage) × IsCoverage s
found_named signatures layer s f h all = at_place IsCoverage layer.coverage signatures s (coverage_place layer.coverage signatures) refl all h.found

found_field : (o : Option ℕ) (f : ℕ) → field_found o ≡ Ok f → o ≡ Some f
found_field None f e = no_answer e
found_field (Some k) f e = ap (λ (x : ℕ). Some x) (same_answer e)

field_named : (fields : List Field) (name : List ℕ) (f : ℕ) (o : Option ℕ) → field_place name fields ≡ o → o ≡ Some f → All IsField fields → IsName name
field_named [] name f o is e all = none_some (is ∙ e)
field_named (d ∷ fields) name f o is e all =
    let at = position-Some (λ (x : Field). bytes_eq x.name name) (d ∷ fields) f d (is ∙ e) in
    subst IsName ((bytes_eq-Decides (get_or (d ∷ fields) f d).name name).0 at.1) (all f d at.0)

name_of_field : (o : Option (List ℕ)) (fields : List Field) (f : ℕ) → field_at o fields ≡ Ok f → All IsField fields → IsFieldName o
name_of_field None fields f e all = tt
name_of_field (Some name) fields f e all = field_named fields name f (field_place name fields) refl (found_field (field_place name fields) f e) all

pub layer_named : (signatures : List Signature) (layer : Layer) (s : Signature) (f : ℕ) → IsFound signatures layer s f → All IsCoverage signatures → IsLayer layer
layer_named signatures layer s f h all =
    let named = found_named signatures layer s f h all in
    (subst IsName named.0 named.1.named, name_of_field layer.field s.fields f h.field named.1.fields)

low_is_low : (lo hi : ℤ) → negsuc 2147483647 ≤ℤ lo → hi ≤ℤ pos 2147483647 → lo ≤ℤ hi → lo ≤ℤ pos 2147483647
low_is_low lo hi a b c = omega (arith, ints)

high_is_high : (lo hi : ℤ) → negsuc 2147483647 ≤ℤ lo → hi ≤ℤ pos 2147483647 → lo ≤ℤ hi → negsuc 2147483647 ≤ℤ hi
high_is_high lo hi a b c = omega (arith, ints)

pub axes_known : (axes : List Axis) → All IsAxis axes → AreOrdered axes → AreAxes axes
axes_known [] all ordered = tt
axes_known (a ∷ axes) all ordered =
    let first = all 0 a (omega arith) in (
      record {
        named = first.named;
        low = (first.small.0, low_is_low a.lo a.hi first.small.0 first.small.1 ordered.0);
        high = (high_is_high a.lo a.hi first.small.0 first.small.1 ordered.0, first.small.1);
      },
      axes_known axes (λ k d lt. all (suc k) d (omega arith)) ordered.1,
    )

-- ---- operations that are asked

pub record LocalAsked (signatures : List Signature) (op : LocalOperation) (o : Operation) : Type 0 where
  pub first : Layer
  pub second : Layer
  pub one : Signature
  pub other : Signature
  pub f : ℕ
  pub g : ℕ
  pub first_found : IsFound signatures first one f
  pub second_found : IsFound signatures second other g
  pub is : o ≡ local_on op first f second g one.domain

pub local_asked : (op : LocalOperation) (params : Params) (signatures : List Signature) (o : Operation) → local_operation op params signatures ≡ Ok o → LocalAsked signatures op o
local_asked op params signatures o e =
    let a = after (coverage_of params.layer signatures) _ o e in
    let b = after (second_of params.second) _ o a.next in
    let c = after (coverage_of b.value signatures) _ o b.next in
    let d = after (field_of params.layer a.value) _ o c.next in
    let h = after (field_of b.value c.value) _ o d.next in
    record {
      first = params.layer;
      second = b.value;
      one = a.value;
      other = c.value;
      f = d.value;
      g = h.value;
      first_found = record { found = is_found _ a.value a.is; field = d.is };
      second_found = record { found = is_found _ c.value c.is; field = h.is };
      is = sym (same_answer h.next);
    }

pub record FocalAsked (signatures : List Signature) (op : Summary) (o : Operation) : Type 0 where
  pub layer : Layer
  pub one : Signature
  pub f : ℕ
  pub x : Axis
  pub y : Axis
  pub radius : ℕ
  pub layer_found : IsFound signatures layer one f
  pub some : 1 ≤ radius
  pub small : radius ≤ 8
  pub domain : one.domain ≡ x ∷ y ∷ []
  pub is : o ≡ focal_on op layer f x y radius

record Plane (op : Summary) (layer : Layer) (f : ℕ) (axes : List Axis) (r : ℕ) (o : Operation) : Type 0 where
  x : Axis
  y : Axis
  domain : axes ≡ x ∷ y ∷ []
  is : o ≡ focal_on op layer f x y r

plane : (op : Summary) (layer : Layer) (f : ℕ) (axes : List Axis) (r : ℕ) (o : Operation) → on_plane op layer f axes r ≡ Ok o → Plane op layer f axes r o
plane op layer f [] r o e = no_answer e
plane op layer f (x ∷ []) r o e = no_answer e
plane op layer f (x ∷ y ∷ []) r o e = record { x = x; y = y; domain = refl; is = sym (same_answer e) }
plane op layer f (x ∷ y ∷ t ∷ more) r o e = no_answer e

radius_bound : (z : Option ℤ) (r : ℕ) → radius_of z ≡ Ok r → (1 ≤ r) × (r ≤ 8)
radius_bound None r e = no_answer e
radius_bound (Some (negsuc n)) r e = no_answer e
radius_bound (Some (pos n)) r e = grind (arith, ints)

pub focal_asked : (op : Summary) (params : Params) (signatures : List Signature) (o : Operation) → focal_operation op params signatures ≡ Ok o → FocalAsked signatures op o
focal_asked op params signatures o e =
    let a = after (coverage_of params.layer signatures) _ o e in
    let b = after (field_of params.layer a.value) _ o a.next in
    let c = after (radius_of params.radius) _ o b.next in
    let p = plane op params.layer b.value a.value.domain c.value o c.next in
    let bound = radius_bound params.radius c.value c.is in
    record {
      layer = params.layer;
      one = a.value;
      f = b.value;
      x = p.x;
      y = p.y;
      radius = c.value;
      layer_found = record { found = is_found _ a.value a.is; field = b.is };
      some = bound.0;
      small = bound.1;
      domain = p.domain;
      is = p.is;
    }

pub record ZonalAsked (signatures : List Signature) (op : Summary) (o : Operation) : Type 0 where
  pub layer : Layer
  pub zones : Layer
  pub one : Signature
  pub other : Signature
  pub f : ℕ
  pub g : ℕ
  pub layer_found : IsFound signatures layer one f
  pub zones_found : IsFound signatures zones other g
  pub same : one.domain ≡ other.domain
  pub is : o ≡ zonal_on op layer f zones g one.domain

on_same : (op : Summary) (layer : Layer) (f : ℕ) (zones : Layer) (g : ℕ) (axes others : List Axis) (b : Bool) (o : Operation) → are_same axes others ≡ b
    → cond b (Ok (zonal_on op layer f zones g axes)) (Err BadParameter) ≡ Ok o → (axes ≡ others) × (o ≡ zonal_on op layer f zones g axes)
on_same op layer f zones g axes others true o is e = ((Decides-same axes others).0 is, sym (same_answer e))
on_same op layer f zones g axes others false o is e = no_answer e

pub zonal_asked : (op : Summary) (params : Params) (signatures : List Signature) (o : Operation) → zonal_operation op params signatures ≡ Ok o → ZonalAsked signatures op o
zonal_asked op params signatures o e =
    let a = after (coverage_of params.layer signatures) _ o e in
    let b = after (second_of params.second) _ o a.next in
    let c = after (coverage_of b.value signatures) _ o b.next in
    let d = after (field_of params.layer a.value) _ o c.next in
    let h = after (field_of b.value c.value) _ o d.next in
    let s = on_same op params.layer d.value b.value h.value a.value.domain c.value.domain (are_same a.value.domain c.value.domain) o refl h.next in
    record {
      layer = params.layer;
      zones = b.value;
      one = a.value;
      other = c.value;
      f = d.value;
      g = h.value;
      layer_found = record { found = is_found _ a.value a.is; field = d.is };
      zones_found = record { found = is_found _ c.value c.is; field = h.is };
      same = s.0;
      is = s.1;
    }

-- what holds of each operation that is asked and its text holds of the text of a call
pub told : {T : Type 0} (view : T → List ℕ) (r : Result T ExpandError) (a : Answer Operation) (Q : Operation → List ℕ → Type 0) → Says view r (as_text a) → ((o : Operation) → a ≡ Ok o → Q o (text_of o))
    → IfOk r (λ t. (o : Operation) → a ≡ Ok o → Q o (view t))
told view (Err e) a Q says h = tt
told view (Ok t) a Q says h = λ o is. subst (Q o) (texts o (ap as_text (sym is) ∙ says)) (h o is)
  where
    texts : (o : Operation) → as_text (Ok o) ≡ Ok (view t) → text_of o ≡ view t
    texts o e = same_answer e
