-- The keys of a request for a template. Each is spelled and given once, whether or not the template takes it.
use Rattle.std.specs.Prelude.{ℕ, ℤ, List, [], ◌∷◌, length, Option, Some, None, Result, Ok, Err, nat_lt, if◌then◌else◌, codes, string_bytes}
use Rattle.std.specs.List.{position_or_len, before_first, after_first}
use Rattle.kvp_front.specs.Values.{values_of, only_value, and_then, read_under}
use Rattle.kvp_front.specs.Spelling.{is_byte, name_in, signed_in}
use Rattle.kvp_front.specs.declared.request.RequestedLayer.{RequestedLayer}
use Rattle.kvp_front.specs.declared.request.TemplateRequest.{TemplateRequest}
use Rattle.kvp_front.specs.declared.request.RequestError.{RequestError}
use Rattle.kvp_front.specs.declared.request.RequestError.TheVariants.{RepeatedKey}

-- what a template is asked for: the text under `template`, its layer, and the second layer and the radius where they
-- are given
pub record Template : Type 0 where
  pub name : List ℕ
  pub layer : RequestedLayer
  pub second : Option RequestedLayer
  pub radius : Option ℤ

abbrev pub template_view : TemplateRequest → Template
template_view r = record { name = string_bytes r.template; layer = r.layer; second = r.second; radius = r.radius }

-- a coverage alone, and a field of a coverage
abbrev pub whole_layer : List ℕ → RequestedLayer
whole_layer coverage = record { coverage = coverage; field = None }

abbrev pub field_layer : List ℕ → List ℕ → RequestedLayer
field_layer coverage field = record { coverage = coverage; field = Some field }

-- a layer: `name`, or `name.field`
abbrev pub layer_in : List ℕ → Result RequestedLayer RequestError
layer_in text =
    if nat_lt (position_or_len (is_byte 46) text) (length text)
    then and_then (λ coverage. and_then (λ field. Ok (field_layer coverage field))
    (name_in (after_first (is_byte 46) text)))
    (name_in (before_first (is_byte 46) text))
    else and_then (λ coverage. Ok (whole_layer coverage)) (name_in text)

-- the value of a key that may be absent, read
abbrev pub optional_of : {X : Type 0} → (List ℕ → Result X RequestError) → List (List ℕ)
    → Result (Option X) RequestError
optional_of read [] = Ok None
optional_of read (value ∷ []) = and_then (λ x. Ok (Some x)) (read value)
optional_of read (value ∷ second ∷ more) = Err RepeatedKey

abbrev pub optional_under : {X : Type 0} → (List ℕ → Result X RequestError) → List ℕ → List (List ℕ × List ℕ)
    → Result (Option X) RequestError
optional_under read key pairs = optional_of read (values_of key pairs)

-- The keys in this order: `template`, which may be any text, `layer`, `second`, `radius`.
abbrev pub template_of : List (List ℕ × List ℕ) → Result Template RequestError
template_of pairs =
    and_then (λ name. and_then (λ layer. and_then
    (λ second. and_then (λ radius. Ok (record { name = name; layer = layer; second = second; radius = radius }))
    (optional_under signed_in (codes "radius") pairs)) (optional_under layer_in (codes "second") pairs))
    (read_under layer_in (codes "layer") pairs))
    (only_value (values_of (codes "template") pairs))
