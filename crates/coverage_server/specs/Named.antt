-- The coverages that a query or a template names, by their signatures.
use Rattle.std.specs.Prelude.{◌≡◌, ◌⊎◌, ℕ, List, None}
use Rattle.arr_core.specs.declared.signature.Signature.{Signature}
use Rattle.wcps_text.specs.Tree.{QueryTree}
use Rattle.wcps_types.specs.Queries.{typ_query}
use Rattle.map_templates.specs.declared.params.Params.{Params}
use Rattle.map_templates.specs.Expansion.{asked}
use Rattle.catalogue.specs.Signatures.{listed}

-- a name is found among some signatures as it is among all
abbrev pub IsFoundIn : List Signature → List Signature → List ℕ → Type 0
IsFoundIn all some name = listed name some ≡ listed name all

-- each name is found among some as among all, or not at all
abbrev pub AreAmong : List Signature → List Signature → Type 0
AreAmong all some = (name : List ℕ) → (listed name some ≡ None) ⊎ IsFoundIn all some name

-- a name that was found as among all still is
abbrev pub StayFound : List Signature → List Signature → List Signature → Type 0
StayFound all old new = (name : List ℕ) → IsFoundIn all old name → IsFoundIn all new name

-- a query is typed over some coverages as it is over all
abbrev pub IsTypedAlike : List Signature → List Signature → QueryTree → Type 0
IsTypedAlike all some q = typ_query some q ≡ typ_query all q

-- with these parameters each template asks of some coverages what it asks of all
abbrev pub IsAskedAlike : List Signature → List Signature → Params → Type 0
IsAskedAlike all some params = (template : List ℕ) → asked template params some ≡ asked template params all
