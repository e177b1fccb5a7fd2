-- The keyword that a text is written as: there is at most one, and the text is a keyword where there is one.
use Rattle.std.proofs.Common.{◌≡◌, ℕ, Bool, true, false, List, [], ◌∷◌, map, refl, sym, ap, ◌∙◌, subst, arith}
use Rattle.std.specs.Prelude.{Option, Some, None, cond, is_some, option_map, ◌||◌}
use Rattle.std.specs.List.{find, list_any}
use Rattle.std.specs.Char.{to_ascii_lowercase}
use Rattle.std.specs.Str.{bytes_eq, str_eq_ignore_ascii_case}
use Rattle.std.proofs.lemmas.Slice.Eq.{bytes_eq-Decides}
use Rattle.arr_core.specs.declared.keyword.Keyword.{Keyword}
use Rattle.arr_core.specs.declared.keyword.Keyword.TheVariants as words
use Rattle.arr_core.specs.Keywords.{keyword_text, all_keywords, IsWritten, is_keyword}

abbrev pub lower : Keyword → List ℕ
lower k = map to_ascii_lowercase (keyword_text k)

-- the first of some keywords that is so in small letters
abbrev pub keyword_in : List Keyword → List ℕ → Option Keyword
keyword_in ks small = find (λ k. bytes_eq small (lower k)) ks

own-keyword : (k : Keyword) → keyword_in all_keywords (lower k) ≡ Some k
own-keyword words.For = refl
own-keyword words.In = refl
own-keyword words.Where = refl
own-keyword words.Return = refl
own-keyword words.Encode = refl
own-keyword words.Csv = refl
own-keyword words.Coverage = refl
own-keyword words.Over = refl
own-keyword words.Values = refl
own-keyword words.Value = refl
own-keyword words.List = refl
own-keyword words.Condense = refl
own-keyword words.Using = refl
own-keyword words.And = refl
own-keyword words.Or = refl
own-keyword words.Xor = refl
own-keyword words.Not = refl
own-keyword words.Abs = refl
own-keyword words.Bit = refl
own-keyword words.True = refl
own-keyword words.False = refl
own-keyword words.Count = refl
own-keyword words.Some = refl
own-keyword words.All = refl
own-keyword words.Add = refl
own-keyword words.Avg = refl
own-keyword words.Min = refl
own-keyword words.Max = refl
own-keyword words.ImageCrsDomain = refl

pub as-found : (found first : Option Keyword) → option_map (λ k. k) found ≡ first → found ≡ first
as-found None first e = e
as-found (Some k) first e = e

-- a text is found as the keyword that it is written as
pub found-written : (k : Keyword) (text : List ℕ) → IsWritten k text → keyword_in all_keywords (map to_ascii_lowercase text) ≡ Some k
found-written k text same = subst (λ small. keyword_in all_keywords small ≡ Some k) (sym same) (own-keyword k)

by-same : (b : Bool) (q k : Keyword) (small : List ℕ) (o : Option Keyword) → bytes_eq small (lower q) ≡ b → (o ≡ Some k → small ≡ lower k) → cond b (Some q) o ≡ Some k → small ≡ lower k
by-same true q k small o e later h = let same : small ≡ lower q = grind (arith, bytes_eq-Decides small (lower q)) in let is : q ≡ k = cc in subst (λ w. small ≡ lower w) is same
by-same false q k small o e later h = later h

found-in : (ks : List Keyword) (k : Keyword) (small : List ℕ) → keyword_in ks small ≡ Some k → small ≡ lower k
found-in [] k small h = absurd (cc)
found-in (q ∷ ks) k small h = by-same (bytes_eq small (lower q)) q k small (keyword_in ks small) refl (found-in ks k small) h

-- and what is found is written so
pub written-found : (k : Keyword) (text : List ℕ) → keyword_in all_keywords (map to_ascii_lowercase text) ≡ Some k → IsWritten k text
written-found k text h = found-in all_keywords k (map to_ascii_lowercase text) h

by-some : (b c : Bool) (k : Keyword) (o : Option Keyword) → is_some o ≡ c → is_some (cond b (Some k) o) ≡ b || c
by-some true c k o e = refl
by-some false c k o e = e

some-in : (ks : List Keyword) (text : List ℕ) → is_some (keyword_in ks (map to_ascii_lowercase text)) ≡ list_any (str_eq_ignore_ascii_case text) (map keyword_text ks)
some-in [] text = refl
some-in (k ∷ ks) text = by-some (bytes_eq (map to_ascii_lowercase text) (lower k)) (list_any (str_eq_ignore_ascii_case text) (map keyword_text ks)) k (keyword_in ks (map to_ascii_lowercase text)) (some-in ks text)

-- something is found where the text is a keyword
pub some-found : (text : List ℕ) → is_some (keyword_in all_keywords (map to_ascii_lowercase text)) ≡ is_keyword text
unfolding is_keyword
some-found text = some-in all_keywords text

opposite : true ≡ false → ⊥
opposite e = cc

-- a text that is no keyword is written as none
pub unwritten : (text : List ℕ) → is_keyword text ≡ false → (k : Keyword) → IsWritten k text → ⊥
unwritten text none k same = opposite (sym (ap is_some (found-written k text same)) ∙ some-found text ∙ none)

-- where the text is written as none, none is found
pub none-found : (text : List ℕ) → ((k : Keyword) → IsWritten k text → ⊥) → keyword_in all_keywords (map to_ascii_lowercase text) ≡ None
none-found text none = by-find (keyword_in all_keywords (map to_ascii_lowercase text)) refl
  where
    by-find : (o : Option Keyword) → keyword_in all_keywords (map to_ascii_lowercase text) ≡ o → o ≡ None
    by-find None e = refl
    by-find (Some k) e = absurd (none k (written-found k text e))

-- and it is no keyword
pub no-keyword : (text : List ℕ) → ((k : Keyword) → IsWritten k text → ⊥) → is_keyword text ≡ false
no-keyword text none = sym (some-found text) ∙ ap is_some (none-found text none)
