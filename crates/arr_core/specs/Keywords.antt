-- The keywords of the query language, and which texts are one.
use Rattle.std.specs.Prelude.{◌≡◌, ℕ, Bool, List, [], ◌∷◌, map, codes}
use Rattle.std.specs.List.{list_any}
use Rattle.std.specs.Char.{to_ascii_lowercase}
use Rattle.std.specs.Str.{str_eq_ignore_ascii_case}
use Rattle.arr_core.specs.declared.keyword.Keyword.{Keyword}
use Rattle.arr_core.specs.declared.keyword.Keyword.TheVariants as words

-- how a keyword is usually written
abbrev pub keyword_text : Keyword → List ℕ
keyword_text words.For = codes "for"
keyword_text words.In = codes "in"
keyword_text words.Where = codes "where"
keyword_text words.Return = codes "return"
keyword_text words.Encode = codes "encode"
keyword_text words.Csv = codes "csv"
keyword_text words.Coverage = codes "coverage"
keyword_text words.Over = codes "over"
keyword_text words.Values = codes "values"
keyword_text words.Value = codes "value"
keyword_text words.List = codes "list"
keyword_text words.Condense = codes "condense"
keyword_text words.Using = codes "using"
keyword_text words.And = codes "and"
keyword_text words.Or = codes "or"
keyword_text words.Xor = codes "xor"
keyword_text words.Not = codes "not"
keyword_text words.Abs = codes "abs"
keyword_text words.Bit = codes "bit"
keyword_text words.True = codes "true"
keyword_text words.False = codes "false"
keyword_text words.Count = codes "count"
keyword_text words.Some = codes "some"
keyword_text words.All = codes "all"
keyword_text words.Add = codes "add"
keyword_text words.Avg = codes "avg"
keyword_text words.Min = codes "min"
keyword_text words.Max = codes "max"
keyword_text words.ImageCrsDomain = codes "imageCrsDomain"

-- all of them
abbrev pub all_keywords : List Keyword
all_keywords =
    words.For ∷ words.In ∷ words.Where ∷ words.Return ∷ words.Encode ∷ words.Csv ∷ words.Coverage ∷ words.Over
    ∷ words.Values ∷ words.Value ∷ words.List ∷ words.Condense ∷ words.Using ∷ words.And ∷ words.Or ∷ words.Xor ∷
    words.Not
    ∷ words.Abs ∷ words.Bit ∷ words.True ∷ words.False ∷ words.Count ∷ words.Some ∷ words.All ∷ words.Add ∷ words.Avg
    ∷ words.Min ∷ words.Max ∷ words.ImageCrsDomain ∷ []

abbrev pub keywords : List (List ℕ)
keywords = map keyword_text all_keywords

-- the bytes are the keyword, in any ASCII case
abbrev pub IsWritten : Keyword → List ℕ → Type 0
IsWritten k w = map to_ascii_lowercase w ≡ map to_ascii_lowercase (keyword_text k)

-- a text is a keyword, whatever the case of its ASCII letters
unfoldable pub is_keyword : List ℕ → Bool
is_keyword text = list_any (str_eq_ignore_ascii_case text) keywords
