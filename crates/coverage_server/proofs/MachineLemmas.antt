-- The steps of the machine, one refusal after another.
use Rattle.std.proofs.Common.{◌≡◌, ℕ, ◌<◌, ◌≤◌, List, [], ◌∷◌, ◌++◌, length, map, Option, None, Some, get_or, refl, sym, ap, ◌∙◌, subst, arith, inl, inr}
use Rattle.std.specs.Prelude.{◌⊎◌, IsSomeAnd, MatchOption, String, string_bytes, codes, slice_get}
use Rattle.std.specs.declared.alloc.Global.{Global}
use Rattle.std.specs.List.{flat_map}
use Rattle.arr_core.specs.declared.refusal.Refusal.{Refusal}
use Rattle.arr_core.specs.declared.refusal.Refusal.TheVariants.{BadDomain, BadField, OutsideDomain, TooManyCoverages}
use Rattle.arr_core.specs.Refusals.{number_of}
use Rattle.arr_core.specs.declared.cell.FieldType.{FieldType}
use Rattle.arr_core.specs.declared.domain.Axis.{Axis}
use Rattle.arr_core.specs.declared.field.Field.{Field}
use Rattle.arr_core.specs.declared.signature.Signature.{Signature}
use Rattle.arr_core.specs.Domains.{IsBoxOf}
use Rattle.arr_core.specs.Fields.{AreFields, field_place}
use Rattle.arr_core.specs.Stores.{Coverage, Store, found, inserted, updated}
use Rattle.http_front.specs.declared.reply.Reply.{Reply}
use Rattle.http_front.specs.declared.reply.Reply.TheVariants.{Text, Refused}
use Rattle.kvp_front.specs.declared.request.Interval.{Interval}
use Rattle.kvp_front.specs.Contents.{Cells, fill, values}
use Rattle.coverage_server.specs.Writing.{AreCellsOf, AreRefused, MayWrite, IsNoWrite}
use Rattle.coverage_server.specs.Room.{numbers_of}
use Rattle.coverage_server.proofs.ListLemmas.{position_within}
use Rattle.std.proofs.lemmas.Option.{slice_get_cases}
use Rattle.raster_store.specs.Calls.{signature_of}
use Rattle.coverage_server.specs.Machine.{SpellDomain, SpellWhole, axes_of, Inserts, Updates, UpdatesCells, line_of}

-- which case a look-up is
at_this : {X : Type 0} (o : Option X) (x : X) (P : Type 0) (Q : X → Type 0) → o ≡ Some x → Q x → MatchOption o P Q
at_this o x P Q e q = subst (λ (y : Option _). MatchOption y P Q) (sym e) q

at_nothing : {X : Type 0} (o : Option X) (P : Type 0) (Q : X → Type 0) → o ≡ None → P → MatchOption o P Q
at_nothing o P Q e p = subst (λ (y : Option _). MatchOption y P Q) (sym e) p

module _ (name : List ℕ) (intervals : List Interval) (fields : List Field) (old : Store) where
  pub no_domain : found name old ≡ None → ¬ (SpellWhole intervals) → Inserts name intervals fields old (Refused (number_of BadDomain)) old
  no_domain e none = at_nothing (found name old) _ _ e (inl (none, (refl, refl)))

  pub no_fields : found name old ≡ None → SpellWhole intervals → ¬ (AreFields fields) → Inserts name intervals fields old (Refused (number_of BadField)) old
  no_fields e whole none = at_nothing (found name old) _ _ e (inr (whole, inl (none, (refl, refl))))

  pub no_room : found name old ≡ None → SpellWhole intervals → AreFields fields → ¬ (length old < 1024)
      → Inserts name intervals fields old (Refused (number_of TooManyCoverages)) old
  no_room e whole some full = at_nothing (found name old) _ _ e (inr (whole, inr (some, inl (full, (refl, refl)))))

  pub is_inserted : found name old ≡ None → SpellWhole intervals → AreFields fields → length old < 1024
      → (text : String Global) (new : Store) → string_bytes text ≡ codes "ok\n" → new ≡ inserted name (axes_of intervals) fields old
      → Inserts name intervals fields old (Text text) new
  is_inserted e whole some room text new ok is = at_nothing (found name old) _ _ e (inr (whole, inr (some, inr (room, (ok, is)))))

-- cells that are refused, and cells that are written
pub cells_refused : (name : List ℕ) (field : ℕ) (box : List Axis) (kind : FieldType) (cells : Cells) (old : Store) (refusal : Refusal) → AreRefused kind box cells refusal
    → UpdatesCells name field box kind cells old (Refused (number_of refusal)) old
cells_refused name field box kind (fill cell) old refusal x = inl (x.0, (ap (λ (r : Refusal). Refused (number_of r)) x.1, refl))
cells_refused name field box kind (values cells) old refusal (inl x) =
    inl (x.0, (ap (λ (r : Refusal). Refused (number_of r)) x.1, refl))
cells_refused name field box kind (values cells) old refusal (inr x) =
    inr (x.0, inl (x.1, (ap (λ (r : Refusal). Refused (number_of r)) x.2, refl)))

pub cells_written : (name : List ℕ) (field : ℕ) (box : List Axis) (kind : FieldType) (cells : Cells) (old new : Store) (text : String Global)
    → AreCellsOf kind box cells → string_bytes text ≡ codes "ok\n" → new ≡ updated name field box (numbers_of box cells) old
    → UpdatesCells name field box kind cells old (Text text) new
cells_written name field box kind (fill cell) old new text x ok is = inr (x, (ok, is))
cells_written name field box kind (values cells) old new text x ok is = inr (x.0, inr (x.1, (ok, is)))

-- what is said of a value that is there
pub said_of : {X : Type 0} (o : Option X) (x : X) (P : X → Type 0) → o ≡ Some x → IsSomeAnd o P → P x
said_of None x P e h = absurd cc
said_of (Some y) x P e h = let same : y ≡ x = cc in subst P same h

module _ (name field : List ℕ) (intervals : List Interval) (cells : Cells) (old : Store) where
  module _ (c : Coverage) (at : found name old ≡ Some c) where
    module _ (k : ℕ) (f : Field) (place : field_place field c.fields ≡ Some k) (is : slice_get c.fields k ≡ Some f) where
      pub no_box : ¬ (SpellDomain intervals × IsBoxOf c.domain (axes_of intervals)) → Updates name field intervals cells old (Refused (number_of OutsideDomain)) old
      no_box none = at_this (found name old) c _ _ at (at_this (field_place field c.fields) k _ _ place (f, is, inl (none, (refl, refl))))

      pub in_box : SpellDomain intervals → IsBoxOf c.domain (axes_of intervals) → (reply : Reply) (new : Store)
          → UpdatesCells name k (axes_of intervals) f.kind cells old reply new → Updates name field intervals cells old reply new
      in_box spelled box reply new x =
          at_this (found name old) c _ _ at (at_this (field_place field c.fields) k _ _ place (f, is, inr ((spelled, box), x)))

      pub refused_write : SpellDomain intervals → (refusal : Refusal) → IsNoWrite c k (axes_of intervals) cells refusal
          → Updates name field intervals cells old (Refused (number_of refusal)) old
      refused_write spelled refusal (inl x) =
          subst (λ (r : Refusal). Updates name field intervals cells old (Refused (number_of r)) old) (sym x.1) (no_box (λ w. x.0 w.1))
      refused_write spelled refusal (inr x) =
          in_box spelled x.0 (Refused (number_of refusal)) old
          (cells_refused name k (axes_of intervals) f.kind cells old refusal (said_of (slice_get c.fields k) f _ is x.1))

      pub done_write : SpellDomain intervals → MayWrite name k (axes_of intervals) cells old → (text : String Global) (new : Store)
          → string_bytes text ≡ codes "ok\n" → new ≡ updated name k (axes_of intervals) (numbers_of (axes_of intervals) cells) old
          → Updates name field intervals cells old (Text text) new
      done_write spelled may text new ok same =
          let m = said_of (found name old) c _ at may in
          in_box spelled m.0 (Text text) new (cells_written name k (axes_of intervals) f.kind cells old new text (said_of (slice_get c.fields k) f _ is m.1) ok same)

-- the names of the signatures are those of the coverages
pub lines_alike : (s : Store) → flat_map (λ (t : Signature). t.name ++ codes "\n") (map signature_of s) ≡ flat_map line_of s
lines_alike [] = refl
lines_alike (c ∷ s) = ap (λ (l : List ℕ). line_of c ++ l) (lines_alike s)

-- one of the fields of a coverage, where it was looked up
pub record Located (field : List ℕ) (c : Coverage) (k : ℕ) (f : Field) : Type 0 where
  pub place : field_place field c.fields ≡ Some k
  pub is : slice_get c.fields k ≡ Some f

pub field_there : (field : List ℕ) (fields : List Field) (k : ℕ) → field_place field fields ≡ Some k → (f : Field) × (slice_get fields k ≡ Some f)
field_there field fields k e = there (slice_get_cases fields k).1
  where
    within : k < length fields
    within = position_within _ fields k e

    there : ((f : Field) × (k < length fields) × (slice_get fields k ≡ Some f) × (get_or fields k f ≡ f)) ⊎ ((length fields ≤ k) × (slice_get fields k ≡ None))
        → (f : Field) × (slice_get fields k ≡ Some f)
    there (inl x) = (x.0, x.2)
    there (inr x) = let past : length fields ≤ k = x.0 in absurd (omega (arith, within))

-- the place of a field, as it was looked up in what is told of the coverage
pub at_field : (field shown : List ℕ) (c : Coverage) (s : Signature) (k : ℕ) → shown ≡ field → s ≡ signature_of c → Some k ≡ field_place shown s.fields
    → field_place field c.fields ≡ Some k
at_field field shown c s k a same e =
    let own : s.fields ≡ c.fields = ap (λ (t : Signature). t.fields) same in
    sym (ap (λ (x : List ℕ). field_place x c.fields) a) ∙ sym (ap (field_place shown) own) ∙ sym e
