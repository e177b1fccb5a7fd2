-- Trees over the variables of a `for` list as trees over coverages, and combinations that share them.
use Rattle.std.specs.Prelude.{ℕ, pos, List, [], map, get_or, Option, Some, None, option_map, slice_get}
use Rattle.wcps_types.specs.declared.typed_query.Combination.{Combination}
use Rattle.wcps_types.specs.Typed.{Typed, number, iterator, cell, unary, binary, scalar, select, bracket, slice, array, listed, condense, condense_where, reduce, FieldTree, ItemTree, CombinationTree}

-- the tree over coverages: each variable exchanged for the coverage that it stands for
abbrev pub renamed : List ℕ → Typed → Typed
renamed cs (number z) = number z
renamed cs (iterator k) = iterator k
renamed cs (cell v f) = cell (get_or cs v 0) f
renamed cs (unary op e) = unary op (renamed cs e)
renamed cs (binary op l r) = binary op (renamed cs l) (renamed cs r)
renamed cs (scalar e) = scalar (renamed cs e)
renamed cs (select e) = select (renamed cs e)
renamed cs (bracket e) = bracket (renamed cs e)
renamed cs (slice e axis lo hi position) = slice (renamed cs e) axis lo hi (renamed cs position)
renamed cs (array e) = array (renamed cs e)
renamed cs (listed box items) = listed box items
renamed cs (condense op box e) = condense op box (renamed cs e)
renamed cs (condense_where op box c e) = condense_where op box (renamed cs c) (renamed cs e)
renamed cs (reduce op box e) = reduce op box (renamed cs e)

abbrev pub renamed_field : List ℕ → FieldTree → FieldTree
renamed_field cs f = record { boolean = f.boolean; tree = renamed cs f.tree }

abbrev pub renamed_item : List ℕ → ItemTree → ItemTree
renamed_item cs i = record { domain = i.domain; fields = map (renamed_field cs) i.fields }

abbrev pub renamed_combination : List ℕ → CombinationTree → CombinationTree
renamed_combination cs c = record { condition = option_map (renamed cs) c.condition; item = renamed_item cs c.item }

-- what returns nothing, since its condition is false
abbrev pub nothing : CombinationTree
nothing = record { condition = Some (number (pos 0)); item = record { domain = []; fields = [] } }

-- a tree over the coverages `cs`; without a tree, which is so in no query, nothing is returned
abbrev pub over : List ℕ → Option CombinationTree → CombinationTree
over cs (Some t) = renamed_combination cs t
over cs None = nothing

-- a combination: its tree over its coverages
abbrev pub combination_view : List CombinationTree → Combination → CombinationTree
combination_view trees c = over c.coverages.items (slice_get trees c.tree)
