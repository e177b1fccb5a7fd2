-- The texts of the templates as tokens and spaces.
use Rattle.std.proofs.Common.{◌≡◌, ℕ, suc, ◌+◌, ◌≤◌, ℤ, pos, negsuc, ◌≤ℤ◌, Bool, true, ◌&&◌, List, [], ◌∷◌, ◌++◌, length, codes, decimal, Option, Some, None, Ok, refl, arith}
use Rattle.std.proofs.lemmas.Int.{ints}
use Rattle.std.specs.Fmt.{signed_decimal}
use Rattle.arr_core.specs.declared.domain.Axis.{Axis}
use Rattle.arr_core.specs.Names.{IsName}
use Rattle.wcps_text.specs.declared.token.Symbol.{Symbol}
use Rattle.wcps_text.specs.declared.token.Symbol.TheVariants as signs
use Rattle.arr_core.specs.declared.keyword.Keyword.TheVariants as words
use Rattle.wcps_text.specs.Token.{Tok, number, name, dollar, word, sign}
use Rattle.wcps_text.specs.Lexing.{Reads}
use Rattle.map_templates.specs.declared.params.Layer.{Layer}
use Rattle.map_templates.specs.declared.template.LocalOperation.{LocalOperation}
use Rattle.map_templates.specs.declared.template.LocalOperation.TheVariants as locals
use Rattle.map_templates.specs.declared.template.Summary.{Summary}
use Rattle.map_templates.specs.declared.template.Summary.TheVariants as summaries
use Rattle.map_templates.specs.Templates.{summary_text}
use Rattle.map_templates.specs.Texts.{field_text, layer_text, chosen_text, local_value, local_text, axis_text, window_text, edge_text, focal_head, focal_window, focal_edges, focal_value, focal_text, iterator_text, iterators_text, position_text, positions_text, located_text, zonal_head, zonal_box, zonal_test, zonal_value, zonal_text}
use Rattle.map_templates.proofs.Marks.{Mark, gap, tk, breaks, spaced, Proper, Puts, ◌>>>◌, ungrouped}
use Rattle.map_templates.proofs.Names.{name_reads, a_reads, b_reads, z_reads, f_reads, p_reads, q_reads, u_reads, v_reads, p_number, u_number}

abbrev pub Marks : Type 0
Marks = List Mark → List Mark

abbrev pub symbol : Symbol → Marks
symbol s rest = tk (sign s) ∷ rest

-- with a space before and behind
abbrev pub infix_marks : Tok → Marks
infix_marks t rest = gap ∷ tk t ∷ gap ∷ rest

abbrev pub listing : Marks
listing rest = tk (sign signs.Comma) ∷ gap ∷ rest

listing_puts : Puts (codes ", ") listing
listing_puts = record { puts = λ rest. refl }

-- ---- layers

abbrev pub field_marks : Option (List ℕ) → Marks
field_marks None rest = rest
field_marks (Some f) rest = tk (sign signs.Dot) ∷ tk (name f) ∷ rest

abbrev pub layer_marks : List ℕ → Layer → Marks
layer_marks v layer rest = tk (name v) ∷ field_marks layer.field rest

name_puts : (x : List ℕ) → Puts x (λ rest. tk (name x) ∷ rest)
name_puts x = record { puts = λ rest. refl }

field_puts : (f : Option (List ℕ)) → Puts (field_text f) (field_marks f)
field_puts None = record { puts = λ rest. refl }
field_puts (Some f) = record { puts = λ rest. refl }

layer_puts : (v : List ℕ) (layer : Layer) → Puts (layer_text v layer) (layer_marks v layer)
layer_puts v layer = name_puts v >>> field_puts layer.field

-- a field that is given is a name
abbrev pub IsFieldName : Option (List ℕ) → Type 0
IsFieldName None = Unit {0}
IsFieldName (Some f) = IsName f

abbrev pub IsLayer : Layer → Type 0
IsLayer layer = IsName layer.coverage × IsFieldName layer.field

pub field_breaks : (f : Option (List ℕ)) (rest : List Mark) → breaks rest ≡ true → breaks (field_marks f rest) ≡ true
field_breaks None rest h = h
field_breaks (Some f) rest h = refl

pub both_true : (a b : Bool) → a ≡ true → b ≡ true → (a && b) ≡ true
both_true a b h k = rw (h, k) refl

pub field_spaced : (f : Option (List ℕ)) (rest : List Mark) → breaks rest ≡ true → spaced rest ≡ true → spaced (field_marks f rest) ≡ true
field_spaced None rest b h = h
field_spaced (Some f) rest b h = both_true (breaks rest) (spaced rest) b h

pub layer_spaced : (v : List ℕ) (layer : Layer) (rest : List Mark) → breaks rest ≡ true → spaced rest ≡ true → spaced (layer_marks v layer rest) ≡ true
layer_spaced v layer rest b h = both_true (breaks (field_marks layer.field rest)) (spaced (field_marks layer.field rest)) (field_breaks layer.field rest b) (field_spaced layer.field rest b h)

pub field_proper : (f : Option (List ℕ)) (rest : List Mark) → IsFieldName f → Proper rest → Proper (field_marks f rest)
field_proper None rest n h = h
field_proper (Some f) rest n h = (name_reads f n, h)

pub layer_proper : (v : List ℕ) (layer : Layer) (rest : List Mark) → Reads v (Ok (name v)) → IsLayer layer → Proper rest → Proper (layer_marks v layer rest)
layer_proper v layer rest reads n h = (reads, field_proper layer.field rest n.1 h)

-- ---- local

abbrev pub operator_marks : Marks → Tok → Marks → Marks
operator_marks A t B rest = A (gap ∷ tk t ∷ gap ∷ B rest)

abbrev pub chosen_marks : Marks → Marks → Tok → Marks → Marks
chosen_marks V A t B rest = V (gap ∷ tk (sign signs.Star) ∷ gap ∷ tk (sign signs.LeftParen) ∷ A (gap ∷ tk t ∷ gap ∷ B (tk (sign signs.RightParen) ∷ rest)))

abbrev pub local_marks : LocalOperation → Marks → Marks → Marks
local_marks locals.Sum A B = operator_marks A (sign signs.Plus) B
local_marks locals.Difference A B = operator_marks A (sign signs.Minus) B
local_marks locals.Product A B = operator_marks A (sign signs.Star) B
local_marks locals.Maximum A B = operator_marks (chosen_marks A A (sign signs.GreaterEqual) B) (sign signs.Plus) (chosen_marks B A (sign signs.Less) B)
local_marks locals.Minimum A B = operator_marks (chosen_marks A A (sign signs.LessEqual) B) (sign signs.Plus) (chosen_marks B A (sign signs.Greater) B)

plus_puts : Puts (codes " + ") (infix_marks (sign signs.Plus))
plus_puts = record { puts = λ rest. refl }

minus_puts : Puts (codes " - ") (infix_marks (sign signs.Minus))
minus_puts = record { puts = λ rest. refl }

star_puts : Puts (codes " * ") (infix_marks (sign signs.Star))
star_puts = record { puts = λ rest. refl }

at_least_puts : Puts (codes " >= ") (infix_marks (sign signs.GreaterEqual))
at_least_puts = record { puts = λ rest. refl }

at_most_puts : Puts (codes " <= ") (infix_marks (sign signs.LessEqual))
at_most_puts = record { puts = λ rest. refl }

less_puts : Puts (codes " < ") (infix_marks (sign signs.Less))
less_puts = record { puts = λ rest. refl }

greater_puts : Puts (codes " > ") (infix_marks (sign signs.Greater))
greater_puts = record { puts = λ rest. refl }

times_puts : Puts (codes " * (") (λ rest. gap ∷ tk (sign signs.Star) ∷ gap ∷ tk (sign signs.LeftParen) ∷ rest)
times_puts = record { puts = λ rest. refl }

close_puts : Puts (codes ")") (symbol signs.RightParen)
close_puts = record { puts = λ rest. refl }

chosen_puts : {v a test b : List ℕ} {V A B : Marks} {t : Tok} → Puts v V → Puts a A → Puts test (infix_marks t) → Puts b B → Puts (chosen_text v a test b) (chosen_marks V A t B)
chosen_puts hv ha ht hb = hv >>> times_puts >>> ha >>> ht >>> hb >>> close_puts

local_puts : (op : LocalOperation) {a b : List ℕ} {A B : Marks} → Puts a A → Puts b B → Puts (local_value op a b) (local_marks op A B)
local_puts locals.Sum ha hb = ha >>> plus_puts >>> hb
local_puts locals.Difference ha hb = ha >>> minus_puts >>> hb
local_puts locals.Product ha hb = ha >>> star_puts >>> hb
local_puts locals.Maximum ha hb = chosen_puts ha ha at_least_puts hb >>> plus_puts >>> chosen_puts hb ha less_puts hb
local_puts locals.Minimum ha hb = chosen_puts ha ha at_most_puts hb >>> plus_puts >>> chosen_puts hb ha greater_puts hb

abbrev pub for_a : Marks
for_a rest = tk (word words.For) ∷ gap ∷ tk (name (codes "a")) ∷ gap ∷ tk (word words.In) ∷ gap ∷ tk (sign signs.LeftParen) ∷ rest

for_a_puts : Puts (codes "for a in (") for_a
for_a_puts = record { puts = λ rest. refl }

-- a second variable
abbrev pub also : List ℕ → Marks
also v rest = tk (sign signs.RightParen) ∷ tk (sign signs.Comma) ∷ gap ∷ tk (name v) ∷ gap ∷ tk (word words.In) ∷ gap ∷ tk (sign signs.LeftParen) ∷ rest

also_b_puts : Puts (codes "), b in (") (also (codes "b"))
also_b_puts = record { puts = λ rest. refl }

abbrev pub returning : Marks
returning rest = tk (sign signs.RightParen) ∷ gap ∷ tk (word words.Return) ∷ gap ∷ tk (word words.Encode) ∷ tk (sign signs.LeftParen) ∷ rest

returning_puts : Puts (codes ") return encode(") returning
returning_puts = record { puts = λ rest. refl }

abbrev pub ending : Marks
ending rest = tk (sign signs.Comma) ∷ gap ∷ tk (word words.Csv) ∷ tk (sign signs.RightParen) ∷ rest

ending_puts : Puts (codes ", csv)") ending
ending_puts = record { puts = λ rest. refl }

abbrev pub local_query : LocalOperation → Layer → Layer → Marks
local_query op first second rest =
    for_a (tk (name first.coverage) ∷ also (codes "b") (tk (name second.coverage) ∷ returning (local_marks op (layer_marks (codes "a") first) (layer_marks (codes "b") second) (ending rest))))

pub local_query_puts : (op : LocalOperation) (first second : Layer) → Puts (local_text op first second) (local_query op first second)
local_query_puts op first second =
    for_a_puts >>> name_puts first.coverage >>> also_b_puts >>> name_puts second.coverage >>> returning_puts
    >>> local_puts op (layer_puts (codes "a") first) (layer_puts (codes "b") second) >>> ending_puts

local_value_spaced : (op : LocalOperation) (first second : Layer) (rest : List Mark) → breaks rest ≡ true → spaced rest ≡ true
    → spaced (local_marks op (layer_marks (codes "a") first) (layer_marks (codes "b") second) rest) ≡ true
local_value_spaced locals.Sum first second rest b h = layer_spaced (codes "a") first _ refl (layer_spaced (codes "b") second rest b h)
local_value_spaced locals.Difference first second rest b h = layer_spaced (codes "a") first _ refl (layer_spaced (codes "b") second rest b h)
local_value_spaced locals.Product first second rest b h = layer_spaced (codes "a") first _ refl (layer_spaced (codes "b") second rest b h)
local_value_spaced locals.Maximum first second rest b h =
    layer_spaced (codes "a") first _ refl (layer_spaced (codes "a") first _ refl (layer_spaced (codes "b") second _ refl
    (layer_spaced (codes "b") second _ refl (layer_spaced (codes "a") first _ refl (layer_spaced (codes "b") second (tk (sign signs.RightParen) ∷ rest) refl h)))))
local_value_spaced locals.Minimum first second rest b h =
    layer_spaced (codes "a") first _ refl (layer_spaced (codes "a") first _ refl (layer_spaced (codes "b") second _ refl
    (layer_spaced (codes "b") second _ refl (layer_spaced (codes "a") first _ refl (layer_spaced (codes "b") second (tk (sign signs.RightParen) ∷ rest) refl h)))))

local_value_proper : (op : LocalOperation) (first second : Layer) (rest : List Mark) → IsLayer first → IsLayer second → Proper rest
    → Proper (local_marks op (layer_marks (codes "a") first) (layer_marks (codes "b") second) rest)
local_value_proper locals.Sum first second rest m n h = layer_proper (codes "a") first _ a_reads m (layer_proper (codes "b") second rest b_reads n h)
local_value_proper locals.Difference first second rest m n h = layer_proper (codes "a") first _ a_reads m (layer_proper (codes "b") second rest b_reads n h)
local_value_proper locals.Product first second rest m n h = layer_proper (codes "a") first _ a_reads m (layer_proper (codes "b") second rest b_reads n h)
local_value_proper locals.Maximum first second rest m n h =
    layer_proper (codes "a") first _ a_reads m (layer_proper (codes "a") first _ a_reads m (layer_proper (codes "b") second _ b_reads n
    (layer_proper (codes "b") second _ b_reads n (layer_proper (codes "a") first _ a_reads m (layer_proper (codes "b") second (tk (sign signs.RightParen) ∷ rest) b_reads n h)))))
local_value_proper locals.Minimum first second rest m n h =
    layer_proper (codes "a") first _ a_reads m (layer_proper (codes "a") first _ a_reads m (layer_proper (codes "b") second _ b_reads n
    (layer_proper (codes "b") second _ b_reads n (layer_proper (codes "a") first _ a_reads m (layer_proper (codes "b") second (tk (sign signs.RightParen) ∷ rest) b_reads n h)))))

pub local_spaced : (op : LocalOperation) (first second : Layer) → spaced (local_query op first second []) ≡ true
local_spaced op first second = local_value_spaced op first second (ending []) refl refl

pub local_proper : (op : LocalOperation) (first second : Layer) → IsLayer first → IsLayer second → Proper (local_query op first second [])
local_proper op first second m n = (a_reads, (name_reads first.coverage m.0, (b_reads, (name_reads second.coverage n.0, local_value_proper op first second (ending []) m n tt))))

-- ---- bounds

abbrev pub bound_marks : ℤ → Marks
bound_marks (pos n) rest = tk (number n) ∷ rest
bound_marks (negsuc n) rest = tk (sign signs.Minus) ∷ tk (number (suc n)) ∷ rest

bound_puts : (z : ℤ) → Puts (signed_decimal z) (bound_marks z)
bound_puts (pos n) = record { puts = λ rest. refl }
bound_puts (negsuc n) = record { puts = λ rest. refl }

number_puts : (n : ℕ) → Puts (decimal n) (λ rest. tk (number n) ∷ rest)
number_puts n = record { puts = λ rest. refl }

pub bound_spaced : (z : ℤ) (rest : List Mark) → breaks rest ≡ true → spaced rest ≡ true → spaced (bound_marks z rest) ≡ true
bound_spaced (pos n) rest b h = both_true (breaks rest) (spaced rest) b h
bound_spaced (negsuc n) rest b h = both_true (breaks rest) (spaced rest) b h

-- a bound of 32 bits
abbrev pub IsShort : ℤ → Type 0
IsShort z = (negsuc 2147483647 ≤ℤ z) × (z ≤ℤ pos 2147483647)

pub bound_proper : (z : ℤ) (rest : List Mark) → IsShort z → Proper rest → Proper (bound_marks z rest)
bound_proper (pos n) rest s h = (omega (arith, ints, s.1), h)
bound_proper (negsuc n) rest s h = (omega (arith, ints, s.0), h)

colon_puts : Puts (codes ":") (symbol signs.Colon)
colon_puts = record { puts = λ rest. refl }

open_puts : Puts (codes "(") (symbol signs.LeftParen)
open_puts = record { puts = λ rest. refl }

-- what an axis has to be
pub record IsAxis (x : Axis) : Type 0 where
  pub named : IsName x.name
  pub low : IsShort x.lo
  pub high : IsShort x.hi

abbrev pub axis_marks : Axis → Marks
axis_marks x rest = tk (name x.name) ∷ tk (sign signs.LeftParen) ∷ bound_marks x.lo (tk (sign signs.Colon) ∷ bound_marks x.hi (tk (sign signs.RightParen) ∷ rest))

axis_puts : (x : Axis) → Puts (axis_text x) (axis_marks x)
axis_puts x = name_puts x.name >>> open_puts >>> bound_puts x.lo >>> colon_puts >>> bound_puts x.hi >>> close_puts

pub axis_spaced : (x : Axis) (rest : List Mark) → spaced rest ≡ true → spaced (axis_marks x rest) ≡ true
axis_spaced x rest h = bound_spaced x.lo (tk (sign signs.Colon) ∷ bound_marks x.hi (tk (sign signs.RightParen) ∷ rest)) refl (bound_spaced x.hi (tk (sign signs.RightParen) ∷ rest) refl h)

pub axis_proper : (x : Axis) (rest : List Mark) → IsAxis x → Proper rest → Proper (axis_marks x rest)
axis_proper x rest is h = (name_reads x.name is.named, bound_proper x.lo (tk (sign signs.Colon) ∷ bound_marks x.hi (tk (sign signs.RightParen) ∷ rest)) is.low (bound_proper x.hi (tk (sign signs.RightParen) ∷ rest) is.high h))

-- ---- focal

abbrev pub summary_mark : Summary → Tok
summary_mark summaries.Sum = sign signs.Plus
summary_mark summaries.Maximum = word words.Max
summary_mark summaries.Minimum = word words.Min

summary_puts : (op : Summary) → Puts (summary_text op) (λ rest. tk (summary_mark op) ∷ rest)
summary_puts summaries.Sum = record { puts = λ rest. refl }
summary_puts summaries.Maximum = record { puts = λ rest. refl }
summary_puts summaries.Minimum = record { puts = λ rest. refl }

abbrev pub window_marks : Axis → ℕ → Marks
window_marks x r rest = tk (name x.name) ∷ tk (sign signs.LeftParen) ∷ tk (sign signs.Minus) ∷ tk (number r) ∷ tk (sign signs.Colon) ∷ tk (number r) ∷ tk (sign signs.RightParen) ∷ rest

minus_open_puts : Puts (codes "(-") (λ rest. tk (sign signs.LeftParen) ∷ tk (sign signs.Minus) ∷ rest)
minus_open_puts = record { puts = λ rest. refl }

window_puts : (x : Axis) (r : ℕ) → Puts (window_text x r) (window_marks x r)
window_puts x r = name_puts x.name >>> minus_open_puts >>> number_puts r >>> colon_puts >>> number_puts r >>> close_puts

-- a coordinate and its offset
abbrev pub moved_marks : List ℕ → List ℕ → Marks
moved_marks p u rest = tk (dollar p) ∷ gap ∷ tk (sign signs.Plus) ∷ gap ∷ tk (dollar u) ∷ rest

first_moved_puts : Puts (codes "$p + $u") (moved_marks (codes "$p") (codes "$u"))
first_moved_puts = record { puts = λ rest. refl }

second_moved_puts : Puts (codes "$q + $v") (moved_marks (codes "$q") (codes "$v"))
second_moved_puts = record { puts = λ rest. refl }

abbrev pub conjunction : Marks
conjunction rest = gap ∷ tk (word words.And) ∷ gap ∷ rest

and_puts : Puts (codes " and ") conjunction
and_puts = record { puts = λ rest. refl }

abbrev pub edge_marks : Marks → Axis → Marks
edge_marks M x rest = M (gap ∷ tk (sign signs.GreaterEqual) ∷ gap ∷ bound_marks x.lo (gap ∷ tk (word words.And) ∷ gap ∷ M (gap ∷ tk (sign signs.LessEqual) ∷ gap ∷ bound_marks x.hi rest)))

edge_puts : {m : List ℕ} {M : Marks} (x : Axis) → Puts m M → Puts (edge_text m x) (edge_marks M x)
edge_puts x hm = hm >>> at_least_puts >>> bound_puts x.lo >>> and_puts >>> hm >>> at_most_puts >>> bound_puts x.hi

abbrev pub over_places : Marks
over_places rest = returning (tk (word words.Coverage) ∷ gap ∷ tk (name (codes "f")) ∷ gap ∷ tk (word words.Over) ∷ gap ∷ rest)

abbrev pub over_p : Marks
over_p rest = over_places (tk (dollar (codes "$p")) ∷ gap ∷ rest)

over_p_puts : Puts (codes ") return encode(coverage f over $p ") over_p
over_p_puts = record { puts = λ rest. refl }

abbrev pub next_iterator : List ℕ → Marks
next_iterator v rest = tk (sign signs.Comma) ∷ gap ∷ tk (dollar v) ∷ gap ∷ rest

and_q_puts : Puts (codes ", $q ") (next_iterator (codes "$q"))
and_q_puts = record { puts = λ rest. refl }

and_v_puts : Puts (codes ", $v ") (next_iterator (codes "$v"))
and_v_puts = record { puts = λ rest. refl }

abbrev pub condensing : Marks
condensing rest = gap ∷ tk (word words.Values) ∷ gap ∷ tk (word words.Condense) ∷ gap ∷ rest

condensing_puts : Puts (codes " values condense ") condensing
condensing_puts = record { puts = λ rest. refl }

over_u_puts : Puts (codes " over $u ") (λ rest. gap ∷ tk (word words.Over) ∷ gap ∷ tk (dollar (codes "$u")) ∷ gap ∷ rest)
over_u_puts = record { puts = λ rest. refl }

abbrev pub condition : Marks
condition rest = gap ∷ tk (word words.Where) ∷ gap ∷ rest

where_puts : Puts (codes " where ") condition
where_puts = record { puts = λ rest. refl }

abbrev pub body : Marks
body rest = gap ∷ tk (word words.Using) ∷ gap ∷ rest

using_puts : Puts (codes " using ") body
using_puts = record { puts = λ rest. refl }

bracket_puts : Puts (codes "[") (symbol signs.LeftBracket)
bracket_puts = record { puts = λ rest. refl }

abbrev pub first_position : Marks
first_position rest = tk (sign signs.LeftParen) ∷ moved_marks (codes "$p") (codes "$u") (tk (sign signs.RightParen) ∷ tk (sign signs.Comma) ∷ gap ∷ rest)

first_position_puts : Puts (codes "($p + $u), ") first_position
first_position_puts = record { puts = λ rest. refl }

abbrev pub second_position : Marks
second_position rest = tk (sign signs.LeftParen) ∷ moved_marks (codes "$q") (codes "$v") (tk (sign signs.RightParen) ∷ tk (sign signs.RightBracket) ∷ ending rest)

second_position_puts : Puts (codes "($q + $v)], csv)") second_position
second_position_puts = record { puts = λ rest. refl }

abbrev pub focal_head_marks : List ℕ → Axis → Axis → Marks
focal_head_marks coverage x y rest = for_a (tk (name coverage) ∷ over_p (axis_marks x (next_iterator (codes "$q") (axis_marks y rest))))

abbrev pub focal_window_marks : Summary → Axis → Axis → ℕ → Marks
focal_window_marks op x y r rest =
    condensing (tk (summary_mark op) ∷ gap ∷ tk (word words.Over) ∷ gap ∷ tk (dollar (codes "$u")) ∷ gap ∷ window_marks x r (next_iterator (codes "$v") (window_marks y r rest)))

abbrev pub focal_edges_marks : Axis → Axis → Marks
focal_edges_marks x y rest = condition (edge_marks (moved_marks (codes "$p") (codes "$u")) x (conjunction (edge_marks (moved_marks (codes "$q") (codes "$v")) y rest)))

abbrev pub focal_value_marks : Layer → Axis → Axis → Marks
focal_value_marks layer x y rest =
    body (layer_marks (codes "a") layer (tk (sign signs.LeftBracket) ∷ tk (name x.name) ∷ first_position (tk (name y.name) ∷ second_position rest)))

abbrev pub focal_query : Summary → Layer → Axis → Axis → ℕ → Marks
focal_query op layer x y r rest = focal_head_marks layer.coverage x y (focal_window_marks op x y r (focal_edges_marks x y (focal_value_marks layer x y rest)))

focal_head_puts : (coverage : List ℕ) (x y : Axis) → Puts (focal_head coverage (axis_text x) (axis_text y)) (focal_head_marks coverage x y)
focal_head_puts coverage x y = for_a_puts >>> name_puts coverage >>> over_p_puts >>> axis_puts x >>> and_q_puts >>> axis_puts y

focal_window_puts : (op : Summary) (x y : Axis) (r : ℕ) → Puts (focal_window (summary_text op) (window_text x r) (window_text y r)) (focal_window_marks op x y r)
focal_window_puts op x y r = condensing_puts >>> summary_puts op >>> over_u_puts >>> window_puts x r >>> and_v_puts >>> window_puts y r

focal_edges_puts : (x y : Axis) → Puts (focal_edges (edge_text (codes "$p + $u") x) (edge_text (codes "$q + $v") y)) (focal_edges_marks x y)
focal_edges_puts x y = where_puts >>> edge_puts x first_moved_puts >>> and_puts >>> edge_puts y second_moved_puts

focal_value_puts : (layer : Layer) (x y : Axis) → Puts (focal_value (layer_text (codes "a") layer) x.name y.name) (focal_value_marks layer x y)
focal_value_puts layer x y = using_puts >>> layer_puts (codes "a") layer >>> bracket_puts >>> name_puts x.name >>> first_position_puts >>> name_puts y.name >>> second_position_puts

pub focal_query_puts : (op : Summary) (layer : Layer) (x y : Axis) (r : ℕ) → Puts (focal_text op layer x y r) (focal_query op layer x y r)
focal_query_puts op layer x y r = focal_head_puts layer.coverage x y >>> (focal_window_puts op x y r >>> (focal_edges_puts x y >>> focal_value_puts layer x y))

-- ---- what is spaced and proper of them

edge_spaced : (p u : List ℕ) (x : Axis) (rest : List Mark) → breaks rest ≡ true → spaced rest ≡ true → spaced (edge_marks (moved_marks p u) x rest) ≡ true
edge_spaced p u x rest b h = bound_spaced x.lo (gap ∷ tk (word words.And) ∷ gap ∷ moved_marks p u (gap ∷ tk (sign signs.LessEqual) ∷ gap ∷ bound_marks x.hi rest)) refl (bound_spaced x.hi rest b h)

edge_proper : (p u : List ℕ) (x : Axis) (rest : List Mark) → Reads p (Ok (dollar p)) → Reads u (Ok (dollar u)) → IsAxis x → Proper rest → Proper (edge_marks (moved_marks p u) x rest)
edge_proper p u x rest hp hu is h =
    (hp, (hu, bound_proper x.lo (gap ∷ tk (word words.And) ∷ gap ∷ moved_marks p u (gap ∷ tk (sign signs.LessEqual) ∷ gap ∷ bound_marks x.hi rest)) is.low (hp, (hu, bound_proper x.hi rest is.high h))))

focal_value_spaced : (layer : Layer) (x y : Axis) → spaced (focal_value_marks layer x y []) ≡ true
focal_value_spaced layer x y = layer_spaced (codes "a") layer (tk (sign signs.LeftBracket) ∷ tk (name x.name) ∷ first_position (tk (name y.name) ∷ second_position [])) refl refl

focal_value_proper : (layer : Layer) (x y : Axis) → IsLayer layer → IsAxis x → IsAxis y → Proper (focal_value_marks layer x y [])
focal_value_proper layer x y n hx hy =
    layer_proper (codes "a") layer (tk (sign signs.LeftBracket) ∷ tk (name x.name) ∷ first_position (tk (name y.name) ∷ second_position [])) a_reads n
    (name_reads x.name hx.named, (p_reads, (u_reads, (name_reads y.name hy.named, (q_reads, (v_reads, tt))))))

focal_edges_spaced : (x y : Axis) (rest : List Mark) → breaks rest ≡ true → spaced rest ≡ true → spaced (focal_edges_marks x y rest) ≡ true
focal_edges_spaced x y rest b h =
    edge_spaced (codes "$p") (codes "$u") x (conjunction (edge_marks (moved_marks (codes "$q") (codes "$v")) y rest)) refl (edge_spaced (codes "$q") (codes "$v") y rest b h)

focal_edges_proper : (x y : Axis) (rest : List Mark) → IsAxis x → IsAxis y → Proper rest → Proper (focal_edges_marks x y rest)
focal_edges_proper x y rest hx hy h =
    edge_proper (codes "$p") (codes "$u") x (conjunction (edge_marks (moved_marks (codes "$q") (codes "$v")) y rest)) p_reads u_reads hx
    (edge_proper (codes "$q") (codes "$v") y rest q_reads v_reads hy h)

focal_window_spaced : (op : Summary) (x y : Axis) (r : ℕ) (rest : List Mark) → spaced rest ≡ true → spaced (focal_window_marks op x y r rest) ≡ true
focal_window_spaced summaries.Sum x y r rest h = h
focal_window_spaced summaries.Maximum x y r rest h = h
focal_window_spaced summaries.Minimum x y r rest h = h

focal_window_proper : (op : Summary) (x y : Axis) (r : ℕ) (rest : List Mark) → r ≤ 8 → IsAxis x → IsAxis y → Proper rest → Proper (focal_window_marks op x y r rest)
focal_window_proper op x y r rest small hx hy h = chosen op (u_reads, (name_reads x.name hx.named, (omega arith, (omega arith, (v_reads, (name_reads y.name hy.named, (omega arith, (omega arith, h))))))))
  where
    chosen : (op : Summary) → Proper (gap ∷ tk (word words.Over) ∷ gap ∷ tk (dollar (codes "$u")) ∷ gap ∷ window_marks x r (next_iterator (codes "$v") (window_marks y r rest))) → Proper (focal_window_marks op x y r rest)
    chosen summaries.Sum p = p
    chosen summaries.Maximum p = p
    chosen summaries.Minimum p = p

pub focal_spaced : (op : Summary) (layer : Layer) (x y : Axis) (r : ℕ) → spaced (focal_query op layer x y r []) ≡ true
focal_spaced op layer x y r =
    axis_spaced x (next_iterator (codes "$q") (axis_marks y (focal_window_marks op x y r (focal_edges_marks x y (focal_value_marks layer x y [])))))
    (axis_spaced y (focal_window_marks op x y r (focal_edges_marks x y (focal_value_marks layer x y [])))
    (focal_window_spaced op x y r (focal_edges_marks x y (focal_value_marks layer x y []))
    (focal_edges_spaced x y (focal_value_marks layer x y []) refl (focal_value_spaced layer x y))))

pub focal_proper : (op : Summary) (layer : Layer) (x y : Axis) (r : ℕ) → r ≤ 8 → IsLayer layer → IsAxis x → IsAxis y → Proper (focal_query op layer x y r [])
focal_proper op layer x y r small n hx hy = (
  a_reads,
  (
    name_reads layer.coverage n.0,
    (
      f_reads,
      (
        p_reads,
        axis_proper x (next_iterator (codes "$q") (axis_marks y (focal_window_marks op x y r (focal_edges_marks x y (focal_value_marks layer x y []))))) hx (
          q_reads,
          axis_proper y (focal_window_marks op x y r (focal_edges_marks x y (focal_value_marks layer x y []))) hy
              (focal_window_proper op x y r (focal_edges_marks x y (focal_value_marks layer x y [])) small hx hy
              (focal_edges_proper x y (focal_value_marks layer x y []) hx hy (focal_value_proper layer x y n hx hy))),
        ),
      ),
    ),
  ),
)

-- ---- zonal

-- an iterator: the stem and its number
abbrev pub numbered : List ℕ → ℕ → List ℕ
numbered stem k = stem ++ decimal k

abbrev pub iterator_marks : List ℕ → ℕ → Axis → Marks
iterator_marks stem k x rest = tk (dollar (numbered stem k)) ∷ gap ∷ axis_marks x rest

dollar_puts : (x : List ℕ) → Puts x (λ rest. tk (dollar x) ∷ rest)
dollar_puts x = record { puts = λ rest. refl }

space_puts : Puts (codes " ") (λ rest. gap ∷ rest)
space_puts = record { puts = λ rest. refl }

iterator_puts : (stem : List ℕ) (k : ℕ) (x : Axis) → Puts (iterator_text stem k x) (iterator_marks stem k x)
iterator_puts stem k x = dollar_puts (numbered stem k) >>> space_puts >>> axis_puts x

abbrev pub iterators_marks : List ℕ → ℕ → List Axis → Marks
iterators_marks stem k [] rest = rest
iterators_marks stem k (x ∷ []) rest = iterator_marks stem k x rest
iterators_marks stem k (x ∷ y ∷ axes) rest = iterator_marks stem k x (listing (iterators_marks stem (k + 1) (y ∷ axes) rest))

iterators_puts : (stem : List ℕ) (k : ℕ) (axes : List Axis) → Puts (iterators_text stem k axes) (iterators_marks stem k axes)
iterators_puts stem k [] = record { puts = λ rest. refl }
iterators_puts stem k (x ∷ []) = iterator_puts stem k x
iterators_puts stem k (x ∷ y ∷ axes) = iterator_puts stem k x >>> listing_puts >>> iterators_puts stem (k + 1) (y ∷ axes)

abbrev pub position_marks : List ℕ → ℕ → Axis → Marks
position_marks stem k x rest = tk (name x.name) ∷ tk (sign signs.LeftParen) ∷ tk (dollar (numbered stem k)) ∷ tk (sign signs.RightParen) ∷ rest

position_puts : (stem : List ℕ) (k : ℕ) (x : Axis) → Puts (position_text stem k x) (position_marks stem k x)
position_puts stem k x = ungrouped (x.name ++ codes "(") stem (decimal k) (name_puts x.name >>> open_puts >>> dollar_puts (numbered stem k)) >>> close_puts

abbrev pub positions_marks : List ℕ → ℕ → List Axis → Marks
positions_marks stem k [] rest = rest
positions_marks stem k (x ∷ []) rest = position_marks stem k x rest
positions_marks stem k (x ∷ y ∷ axes) rest = position_marks stem k x (listing (positions_marks stem (k + 1) (y ∷ axes) rest))

positions_puts : (stem : List ℕ) (k : ℕ) (axes : List Axis) → Puts (positions_text stem k axes) (positions_marks stem k axes)
positions_puts stem k [] = record { puts = λ rest. refl }
positions_puts stem k (x ∷ []) = position_puts stem k x
positions_puts stem k (x ∷ y ∷ axes) = position_puts stem k x >>> listing_puts >>> positions_puts stem (k + 1) (y ∷ axes)

abbrev pub located_marks : Marks → List ℕ → List Axis → Marks
located_marks L stem axes rest = L (tk (sign signs.LeftBracket) ∷ positions_marks stem 1 axes (tk (sign signs.RightBracket) ∷ rest))

close_bracket_puts : Puts (codes "]") (symbol signs.RightBracket)
close_bracket_puts = record { puts = λ rest. refl }

located_puts : {l : List ℕ} {L : Marks} (stem : List ℕ) (axes : List Axis) → Puts l L → Puts (located_text l stem axes) (located_marks L stem axes)
located_puts stem axes hl = hl >>> bracket_puts >>> positions_puts stem 1 axes >>> close_bracket_puts

also_z_puts : Puts (codes "), z in (") (also (codes "z"))
also_z_puts = record { puts = λ rest. refl }

over_places_puts : Puts (codes ") return encode(coverage f over ") over_places
over_places_puts = record { puts = λ rest. refl }

abbrev pub over_others : Marks
over_others rest = gap ∷ tk (word words.Over) ∷ gap ∷ rest

over_others_puts : Puts (codes " over ") over_others
over_others_puts = record { puts = λ rest. refl }

equal_puts : Puts (codes " = ") (infix_marks (sign signs.Equal))
equal_puts = record { puts = λ rest. refl }

abbrev pub zonal_value_marks : Layer → List Axis → Marks
zonal_value_marks layer axes rest = body (located_marks (layer_marks (codes "a") layer) (codes "$u") axes (ending rest))

abbrev pub zonal_test_marks : Layer → List Axis → Marks
zonal_test_marks zones axes rest =
    condition (located_marks (layer_marks (codes "z") zones) (codes "$u") axes (gap ∷ tk (sign signs.Equal) ∷ gap ∷ located_marks (layer_marks (codes "z") zones) (codes "$p") axes rest))

abbrev pub zonal_box_marks : Summary → List Axis → Marks
zonal_box_marks op axes rest = condensing (tk (summary_mark op) ∷ over_others (iterators_marks (codes "$u") 1 axes rest))

abbrev pub zonal_head_marks : Layer → Layer → List Axis → Marks
zonal_head_marks layer zones axes rest = for_a (tk (name layer.coverage) ∷ also (codes "z") (tk (name zones.coverage) ∷ over_places (iterators_marks (codes "$p") 1 axes rest)))

abbrev pub zonal_query : Summary → Layer → Layer → List Axis → Marks
zonal_query op layer zones axes rest = zonal_head_marks layer zones axes (zonal_box_marks op axes (zonal_test_marks zones axes (zonal_value_marks layer axes rest)))

zonal_head_puts : (layer zones : Layer) (axes : List Axis) → Puts (zonal_head layer.coverage zones.coverage (iterators_text (codes "$p") 1 axes)) (zonal_head_marks layer zones axes)
zonal_head_puts layer zones axes = for_a_puts >>> name_puts layer.coverage >>> also_z_puts >>> name_puts zones.coverage >>> over_places_puts >>> iterators_puts (codes "$p") 1 axes

zonal_box_puts : (op : Summary) (axes : List Axis) → Puts (zonal_box (summary_text op) (iterators_text (codes "$u") 1 axes)) (zonal_box_marks op axes)
zonal_box_puts op axes = condensing_puts >>> summary_puts op >>> over_others_puts >>> iterators_puts (codes "$u") 1 axes

zonal_test_puts : (zones : Layer) (axes : List Axis)
    → Puts (zonal_test (located_text (layer_text (codes "z") zones) (codes "$u") axes) (located_text (layer_text (codes "z") zones) (codes "$p") axes)) (zonal_test_marks zones axes)
zonal_test_puts zones axes = where_puts >>> located_puts (codes "$u") axes (layer_puts (codes "z") zones) >>> equal_puts >>> located_puts (codes "$p") axes (layer_puts (codes "z") zones)

zonal_value_puts : (layer : Layer) (axes : List Axis) → Puts (zonal_value (located_text (layer_text (codes "a") layer) (codes "$u") axes)) (zonal_value_marks layer axes)
zonal_value_puts layer axes = using_puts >>> located_puts (codes "$u") axes (layer_puts (codes "a") layer) >>> ending_puts

pub zonal_query_puts : (op : Summary) (layer zones : Layer) (axes : List Axis) → Puts (zonal_text op layer zones axes) (zonal_query op layer zones axes)
zonal_query_puts op layer zones axes = zonal_head_puts layer zones axes >>> (zonal_box_puts op axes >>> (zonal_test_puts zones axes >>> zonal_value_puts layer axes))

-- ---- what is spaced and proper of them

iterators_spaced : (stem : List ℕ) (k : ℕ) (axes : List Axis) (rest : List Mark) → spaced rest ≡ true → spaced (iterators_marks stem k axes rest) ≡ true
iterators_spaced stem k [] rest h = h
iterators_spaced stem k (x ∷ []) rest h = axis_spaced x rest h
iterators_spaced stem k (x ∷ y ∷ axes) rest h = axis_spaced x (listing (iterators_marks stem (k + 1) (y ∷ axes) rest)) (iterators_spaced stem (k + 1) (y ∷ axes) rest h)

positions_spaced : (stem : List ℕ) (k : ℕ) (axes : List Axis) (rest : List Mark) → spaced rest ≡ true → spaced (positions_marks stem k axes rest) ≡ true
positions_spaced stem k [] rest h = h
positions_spaced stem k (x ∷ []) rest h = h
positions_spaced stem k (x ∷ y ∷ axes) rest h = positions_spaced stem (k + 1) (y ∷ axes) rest h

located_spaced : (v : List ℕ) (layer : Layer) (stem : List ℕ) (axes : List Axis) (rest : List Mark) → spaced rest ≡ true → spaced (located_marks (layer_marks v layer) stem axes rest) ≡ true
located_spaced v layer stem axes rest h =
    layer_spaced v layer (tk (sign signs.LeftBracket) ∷ positions_marks stem 1 axes (tk (sign signs.RightBracket) ∷ rest)) refl (positions_spaced stem 1 axes (tk (sign signs.RightBracket) ∷ rest) h)

-- the iterators' names, from the k-th on
abbrev pub AreVariables : List ℕ → ℕ → List Axis → Type 0
AreVariables stem k [] = Unit {0}
AreVariables stem k (x ∷ axes) = Reads (numbered stem k) (Ok (dollar (numbered stem k))) × AreVariables stem (k + 1) axes

abbrev pub AreAxes : List Axis → Type 0
AreAxes [] = Unit {0}
AreAxes (x ∷ axes) = IsAxis x × AreAxes axes

iterators_proper : (stem : List ℕ) (k : ℕ) (axes : List Axis) (rest : List Mark) → AreVariables stem k axes → AreAxes axes → Proper rest → Proper (iterators_marks stem k axes rest)
iterators_proper stem k [] rest vs is h = h
iterators_proper stem k (x ∷ []) rest vs is h = (vs.0, axis_proper x rest is.0 h)
iterators_proper stem k (x ∷ y ∷ axes) rest vs is h =
    (vs.0, axis_proper x (listing (iterators_marks stem (k + 1) (y ∷ axes) rest)) is.0 (iterators_proper stem (k + 1) (y ∷ axes) rest vs.1 is.1 h))

positions_proper : (stem : List ℕ) (k : ℕ) (axes : List Axis) (rest : List Mark) → AreVariables stem k axes → AreAxes axes → Proper rest → Proper (positions_marks stem k axes rest)
positions_proper stem k [] rest vs is h = h
positions_proper stem k (x ∷ []) rest vs is h = (name_reads x.name is.0.named, (vs.0, h))
positions_proper stem k (x ∷ y ∷ axes) rest vs is h = (name_reads x.name is.0.named, (vs.0, positions_proper stem (k + 1) (y ∷ axes) rest vs.1 is.1 h))

located_proper : (v : List ℕ) (layer : Layer) (stem : List ℕ) (axes : List Axis) (rest : List Mark) → Reads v (Ok (name v)) → IsLayer layer → AreVariables stem 1 axes → AreAxes axes → Proper rest
    → Proper (located_marks (layer_marks v layer) stem axes rest)
located_proper v layer stem axes rest reads n vs is h =
    layer_proper v layer (tk (sign signs.LeftBracket) ∷ positions_marks stem 1 axes (tk (sign signs.RightBracket) ∷ rest)) reads n (positions_proper stem 1 axes (tk (sign signs.RightBracket) ∷ rest) vs is h)

p_variables : (axes : List Axis) → length axes ≤ 6 → AreVariables (codes "$p") 1 axes
p_variables [] few = tt
p_variables (x ∷ []) few = (p_number 1 (omega arith), tt)
p_variables (x ∷ y ∷ []) few = (p_number 1 (omega arith), (p_number 2 (omega arith), tt))
p_variables (x ∷ y ∷ z ∷ []) few = (p_number 1 (omega arith), (p_number 2 (omega arith), (p_number 3 (omega arith), tt)))
p_variables (x ∷ y ∷ z ∷ t ∷ []) few = (p_number 1 (omega arith), (p_number 2 (omega arith), (p_number 3 (omega arith), (p_number 4 (omega arith), tt))))
p_variables (x ∷ y ∷ z ∷ t ∷ s ∷ []) few = (p_number 1 (omega arith), (p_number 2 (omega arith), (p_number 3 (omega arith), (p_number 4 (omega arith), (p_number 5 (omega arith), tt)))))
p_variables (x ∷ y ∷ z ∷ t ∷ s ∷ r ∷ []) few = (p_number 1 (omega arith), (p_number 2 (omega arith), (p_number 3 (omega arith), (p_number 4 (omega arith), (p_number 5 (omega arith), (p_number 6 (omega arith), tt))))))
p_variables (x ∷ y ∷ z ∷ t ∷ s ∷ r ∷ q ∷ axes) few = absurd (omega arith)

u_variables : (axes : List Axis) → length axes ≤ 6 → AreVariables (codes "$u") 1 axes
u_variables [] few = tt
u_variables (x ∷ []) few = (u_number 1 (omega arith), tt)
u_variables (x ∷ y ∷ []) few = (u_number 1 (omega arith), (u_number 2 (omega arith), tt))
u_variables (x ∷ y ∷ z ∷ []) few = (u_number 1 (omega arith), (u_number 2 (omega arith), (u_number 3 (omega arith), tt)))
u_variables (x ∷ y ∷ z ∷ t ∷ []) few = (u_number 1 (omega arith), (u_number 2 (omega arith), (u_number 3 (omega arith), (u_number 4 (omega arith), tt))))
u_variables (x ∷ y ∷ z ∷ t ∷ s ∷ []) few = (u_number 1 (omega arith), (u_number 2 (omega arith), (u_number 3 (omega arith), (u_number 4 (omega arith), (u_number 5 (omega arith), tt)))))
u_variables (x ∷ y ∷ z ∷ t ∷ s ∷ r ∷ []) few = (u_number 1 (omega arith), (u_number 2 (omega arith), (u_number 3 (omega arith), (u_number 4 (omega arith), (u_number 5 (omega arith), (u_number 6 (omega arith), tt))))))
u_variables (x ∷ y ∷ z ∷ t ∷ s ∷ r ∷ q ∷ axes) few = absurd (omega arith)

zonal_box_spaced : (op : Summary) (axes : List Axis) (rest : List Mark) → spaced rest ≡ true → spaced (zonal_box_marks op axes rest) ≡ true
zonal_box_spaced summaries.Sum axes rest h = iterators_spaced (codes "$u") 1 axes rest h
zonal_box_spaced summaries.Maximum axes rest h = iterators_spaced (codes "$u") 1 axes rest h
zonal_box_spaced summaries.Minimum axes rest h = iterators_spaced (codes "$u") 1 axes rest h

zonal_box_proper : (op : Summary) (axes : List Axis) (rest : List Mark) → length axes ≤ 6 → AreAxes axes → Proper rest → Proper (zonal_box_marks op axes rest)
zonal_box_proper summaries.Sum axes rest few is h = iterators_proper (codes "$u") 1 axes rest (u_variables axes few) is h
zonal_box_proper summaries.Maximum axes rest few is h = iterators_proper (codes "$u") 1 axes rest (u_variables axes few) is h
zonal_box_proper summaries.Minimum axes rest few is h = iterators_proper (codes "$u") 1 axes rest (u_variables axes few) is h

pub zonal_spaced : (op : Summary) (layer zones : Layer) (axes : List Axis) → spaced (zonal_query op layer zones axes []) ≡ true
zonal_spaced op layer zones axes =
    iterators_spaced (codes "$p") 1 axes (zonal_box_marks op axes (zonal_test_marks zones axes (zonal_value_marks layer axes [])))
    (zonal_box_spaced op axes (zonal_test_marks zones axes (zonal_value_marks layer axes []))
    (located_spaced (codes "z") zones (codes "$u") axes (gap ∷ tk (sign signs.Equal) ∷ gap ∷ located_marks (layer_marks (codes "z") zones) (codes "$p") axes (zonal_value_marks layer axes []))
    (located_spaced (codes "z") zones (codes "$p") axes (zonal_value_marks layer axes [])
    (located_spaced (codes "a") layer (codes "$u") axes (ending []) refl))))

pub zonal_proper : (op : Summary) (layer zones : Layer) (axes : List Axis) → length axes ≤ 6 → IsLayer layer → IsLayer zones → AreAxes axes → Proper (zonal_query op layer zones axes [])
zonal_proper op layer zones axes few m n is = (
  a_reads,
  (
    name_reads layer.coverage m.0,
    (
      z_reads,
      (
        name_reads zones.coverage n.0,
        (
          f_reads,
          iterators_proper (codes "$p") 1 axes (zonal_box_marks op axes (zonal_test_marks zones axes (zonal_value_marks layer axes []))) (p_variables axes few) is
              (zonal_box_proper op axes (zonal_test_marks zones axes (zonal_value_marks layer axes [])) few is
              (located_proper (codes "z") zones (codes "$u") axes (gap ∷ tk (sign signs.Equal) ∷ gap ∷ located_marks (layer_marks (codes "z") zones) (codes "$p") axes (zonal_value_marks layer axes [])) z_reads n (u_variables axes few) is
              (located_proper (codes "z") zones (codes "$p") axes (zonal_value_marks layer axes []) z_reads n (p_variables axes few) is
              (located_proper (codes "a") layer (codes "$u") axes (ending []) a_reads m (u_variables axes few) is tt)))),
        ),
      ),
    ),
  ),
)
