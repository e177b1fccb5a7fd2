-- The templates by their names.
use Rattle.std.specs.Prelude.{ℕ, List, codes, Option, Some, None, if◌then◌else◌}
use Rattle.std.specs.Str.{bytes_eq}
use Rattle.arr_core.specs.declared.keyword.Keyword.TheVariants as words
use Rattle.arr_core.specs.Keywords.{keyword_text}
use Rattle.map_templates.specs.declared.template.LocalOperation.TheVariants as locals
use Rattle.map_templates.specs.declared.template.Summary.{Summary}
use Rattle.map_templates.specs.declared.template.Summary.TheVariants as summaries
use Rattle.map_templates.specs.declared.template.Template.{Template}
use Rattle.map_templates.specs.declared.template.Template.TheVariants.{Local, Focal, Zonal}

abbrev pub template_named : List ℕ → Option Template
template_named name =
    if bytes_eq name (codes "LocalSum") then Some (Local locals.Sum)
    else (if bytes_eq name (codes "LocalDifference") then Some (Local locals.Difference)
    else (if bytes_eq name (codes "LocalProduct") then Some (Local locals.Product)
    else (if bytes_eq name (codes "LocalMaximum") then Some (Local locals.Maximum)
    else (if bytes_eq name (codes "LocalMinimum") then Some (Local locals.Minimum)
    else (if bytes_eq name (codes "FocalSum") then Some (Focal summaries.Sum)
    else (if bytes_eq name (codes "FocalMaximum") then Some (Focal summaries.Maximum)
    else (if bytes_eq name (codes "FocalMinimum") then Some (Focal summaries.Minimum)
    else (if bytes_eq name (codes "ZonalSum") then Some (Zonal summaries.Sum)
    else (if bytes_eq name (codes "ZonalMaximum") then Some (Zonal summaries.Maximum)
    else (if bytes_eq name (codes "ZonalMinimum") then Some (Zonal summaries.Minimum)
    else None))))))))))

-- what joins the values of a condenser, as a query writes it
abbrev pub summary_text : Summary → List ℕ
summary_text summaries.Sum = codes "+"
summary_text summaries.Maximum = keyword_text words.Max
summary_text summaries.Minimum = keyword_text words.Min
