-- How many bytes the parts of a catalogue are written in.
use Rattle.std.proofs.Common.{◌≡◌, ℕ, ◌+◌, ◌*◌, ◌≤◌, List, [], ◌∷◌, ◌++◌, length, flat_map, ap, ◌∙◌, arith, length-append, append-nil, All}
use Rattle.std.specs.List.{sum_by}
use Rattle.std.proofs.lemmas.List.Concat.{length-flat_map}
use Rattle.std.proofs.lemmas.List.Elements.{All-weaker}
use Rattle.std.proofs.lemmas.List.Sums.{sum_by-le}
use Rattle.std.proofs.lemmas.Grind.{flat_map-append}
use Rattle.file_bytes.specs.Codes.{signed_bytes}
use Rattle.arr_core.specs.declared.domain.Axis.{Axis}
use Rattle.arr_core.specs.declared.field.Field.{Field}
use Rattle.arr_core.specs.declared.signature.Signature.{Signature}
use Rattle.arr_core.specs.Fields.{IsField}
use Rattle.catalogue.specs.Signatures.{IsAxis, IsSignature}
use Rattle.catalogue.specs.Bytes.{name_bytes, type_number, axis_bytes, domain_bytes, field_bytes, fields_bytes, signature_bytes, catalogue_bytes}
use Rattle.catalogue.proofs.Names.{name_short}

pub axis_length : (a : Axis) → length (axis_bytes a) ≡ length a.name + 9
unfolding axis_bytes
axis_length a = omega (arith, length-append (name_bytes a.name) (signed_bytes a.lo ++ signed_bytes a.hi))

pub field_length : (f : Field) → length (field_bytes f) ≡ length f.name + 2
unfolding field_bytes
field_length f = omega (arith, length-append (name_bytes f.name) (type_number f.kind ∷ []))

abbrev pub axes_size : List Axis → ℕ
axes_size axes = sum_by (λ a. length (axis_bytes a)) axes

abbrev pub fields_size : List Field → ℕ
fields_size fields = sum_by (λ f. length (field_bytes f)) fields

pub signature_length : (s : Signature) → length (signature_bytes s) ≡ length s.name + 3 + axes_size s.domain + fields_size s.fields
unfolding signature_bytes domain_bytes fields_bytes
signature_length s =
    omega (
      arith,
      length-append (name_bytes s.name) (domain_bytes s.domain ++ fields_bytes s.fields),
      length-append (domain_bytes s.domain) (fields_bytes s.fields),
      length-flat_map axis_bytes s.domain,
      length-flat_map field_bytes s.fields,
    )

pub catalogue_length : (signatures : List Signature) → length (catalogue_bytes signatures) ≡ 4 + length (flat_map signature_bytes signatures)
unfolding catalogue_bytes
catalogue_length signatures = omega (arith, length-append {A = ℕ})

-- the codes of a list with one more value
pub codes_push : {X : Type 0} (code : X → List ℕ) (xs : List X) (x : X) → flat_map code (xs ++ x ∷ []) ≡ flat_map code xs ++ code x
codes_push code xs x = flat_map-append code xs (x ∷ []) ∙ ap (λ l. flat_map code xs ++ l) (append-nil (code x))

pub catalogue_longer : (signatures : List Signature) (s : Signature) → length (catalogue_bytes (signatures ++ s ∷ [])) ≡ length (catalogue_bytes signatures) + length (signature_bytes s)
catalogue_longer signatures s =
    omega (arith, catalogue_length (signatures ++ s ∷ []), catalogue_length signatures, ap length (codes_push signature_bytes signatures s), length-append {A = ℕ})

-- codes of at most so many bytes each
pub codes_short : {X : Type 0} (code : X → List ℕ) (bound : ℕ) (P : X → Type 0) → ((x : X) → P x → length (code x) ≤ bound) → (xs : List X) → All P xs → sum_by (λ x. length (code x)) xs ≤ length xs * bound
codes_short code bound P short xs each =
    sum_by-le (λ x. length (code x)) bound xs (All-weaker P (λ x. length (code x) ≤ bound) short xs each)

pub signature_short : (s : Signature) → IsSignature s → length (signature_bytes s) ≤ 1561
signature_short s h =
    let few_axes = h.domain.domain.few_axes in
    let few_fields = h.fields.sound.few in
    let axes = codes_short axis_bytes 73 IsAxis (λ a v. omega (arith, axis_length a, name_short a.name v.named)) s.domain h.domain.each in
    let fields = codes_short field_bytes 66 IsField (λ f v. omega (arith, field_length f, name_short f.name v)) s.fields h.fields.each in
    omega (arith, signature_length s, name_short s.name h.named)
