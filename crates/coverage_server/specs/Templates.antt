-- What a template stands for over a store: the text of a query over its coverages, or the first refusal.
use Rattle.std.specs.Prelude.{◌≡◌, ℕ, List, option_map, Result, Ok, Err, String, string_bytes, ⊤}
use Rattle.std.specs.declared.alloc.Global.{Global}
use Rattle.arr_core.specs.Stores.{Store}
use Rattle.kvp_front.specs.declared.request.RequestedLayer.{RequestedLayer}
use Rattle.kvp_front.specs.Templates.{Template}
use Rattle.map_templates.specs.declared.params.Layer.{Layer}
use Rattle.map_templates.specs.declared.params.Params.{Params}
use Rattle.map_templates.specs.declared.refusal.ExpandRefusal.{ExpandRefusal}
use Rattle.map_templates.specs.Expansion.{asked, as_text}
use Rattle.map_templates.specs.Refusals.{Answer, refusal_of}
use Rattle.coverage_server.specs.Views.{signatures_of}
use Rattle.coverage_server.specs.declared.error.AnswerError.{AnswerError}
use Rattle.coverage_server.specs.declared.error.AnswerError.TheVariants.{Named, NoMemory, DiskFault, NoRoom, Damaged}

-- the layer and the parameters that a request spells
abbrev pub layer_of : RequestedLayer → Layer
layer_of l = record { coverage = l.coverage; field = l.field }

abbrev pub params_of : Template → Params
params_of t = record { layer = layer_of t.layer; second = option_map layer_of t.second; radius = t.radius }

-- The text of the query over the coverages of the store, or the first refusal: NoSuchTemplate for a name of none,
-- NoSuchCoverage for a layer whose coverage is not there, the second one's where the template takes it, and
-- BadParameter for parameters that do not suit the coverages.
abbrev pub expansion : Template → Store → Answer (List ℕ)
expansion t store = as_text (asked t.name (params_of t) (signatures_of store))

-- that text, or its refusal; want of memory says nothing of it
abbrev pub GivesExpansion : Answer (List ℕ) → Result (String Global) AnswerError → Type 0
GivesExpansion expanded (Ok text) = expanded ≡ Ok (string_bytes text)
GivesExpansion expanded (Err (Named refusal)) = (e : ExpandRefusal) × (expanded ≡ Err e) × (refusal ≡ refusal_of e)
GivesExpansion expanded (Err NoMemory) = ⊤
GivesExpansion expanded (Err DiskFault) = ⊥
GivesExpansion expanded (Err NoRoom) = ⊥
GivesExpansion expanded (Err Damaged) = ⊥
