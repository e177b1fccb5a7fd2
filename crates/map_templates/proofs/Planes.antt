-- Focal operations, on coverages with two axes.
use Rattle.std.proofs.Common.{◌≡◌, ℕ, List, [], ◌∷◌, length, get_or, Ok, ap, sym, ◌∙◌, subst, arith}
use Rattle.arr_core.specs.declared.domain.Axis.{Axis}
use Rattle.arr_core.specs.declared.signature.Signature.{Signature}
use Rattle.map_templates.specs.declared.params.Layer.{Layer}
use Rattle.map_templates.specs.declared.params.Params.{Params}
use Rattle.map_templates.specs.declared.template.Summary.{Summary}
use Rattle.wcps_types.specs.Shapes.{then_of}
use Rattle.map_templates.specs.Refusals.{Answer}
use Rattle.map_templates.specs.Texts.{focal_text}
use Rattle.map_templates.specs.Expansion.{Operation, focal_on, on_plane, coverage_of, field_of, radius_of, focal_operation, as_text}

on-two : (op : Summary) (layer : Layer) (f r : ℕ) (axes : List Axis) (x y : Axis) → length axes ≡ 2 → x ≡ get_or axes 0 x → y ≡ get_or axes 1 y
    → on_plane op layer f axes r ≡ Ok (focal_on op layer f x y r)
on-two op layer f r [] x y two hx hy = absurd (omega arith)
on-two op layer f r (a ∷ []) x y two hx hy = absurd (omega arith)
on-two op layer f r (a ∷ b ∷ []) x y two hx hy =
    let made : Axis → Axis → Answer Operation = λ v w. Ok (focal_on op layer f v w r) in
    ap (λ (v : Axis). made v b) (sym hx) ∙ ap (λ (w : Axis). made x w) (sym hy)
on-two op layer f r (a ∷ b ∷ t ∷ more) x y two hx hy = absurd (omega arith)

after : {A B : Type 0} (r : Answer A) (a : A) (go : A → Answer B) (b : Answer B) → r ≡ Ok a → go a ≡ b → then_of r go ≡ b
after {A} r a go b e h = ap (λ (x : Answer A). then_of x go) e ∙ h

pub focal-found : (op : Summary) (params : Params) (signatures : List Signature) (s : Signature) (f r : ℕ) (axes : List Axis) (x y : Axis) (text : List ℕ)
    → coverage_of params.layer signatures ≡ Ok s → field_of params.layer s ≡ Ok f → radius_of params.radius ≡ Ok r → axes ≡ s.domain → length axes ≡ 2 → x ≡ get_or axes 0 x → y ≡ get_or axes 1 y
    → text ≡ focal_text op params.layer x y r → as_text (focal_operation op params signatures) ≡ Ok text
focal-found op params signatures s f r axes x y text found field radius same two hx hy is =
    let asked : focal_operation op params signatures ≡ Ok (focal_on op params.layer f x y r) =
    after (coverage_of params.layer signatures) s (λ (s : Signature). then_of (field_of params.layer s) (λ (f : ℕ). then_of (radius_of params.radius) (on_plane op params.layer f s.domain))) _ found
    (after (field_of params.layer s) f (λ (f : ℕ). then_of (radius_of params.radius) (on_plane op params.layer f s.domain)) _ field
    (after (radius_of params.radius) r (on_plane op params.layer f s.domain) _ radius
    (subst (λ (d : List Axis). on_plane op params.layer f d r ≡ Ok (focal_on op params.layer f x y r)) same (on-two op params.layer f r axes x y two hx hy)))) in
    ap as_text asked ∙ texts (sym is)
  where
    texts : focal_text op params.layer x y r ≡ text → as_text (Ok (focal_on op params.layer f x y r)) ≡ Ok text
    texts e = cc
