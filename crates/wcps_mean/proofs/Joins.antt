-- Lists that are put together until a fault.
use Rattle.std.proofs.Common.{◌≡◌, ℕ, zero, suc, ◌+◌, ◌<◌, ◌≤◌, List, [], ◌∷◌, ◌++◌, length, map, take, drop, get_or, Bool, true, false, cond, ℤ, Result, Ok, Err, refl, sym, ap, ◌∙◌, arith, append_assoc, append-nil}
use Rattle.wcps_mean.proofs.Stacks.{take-whole}
use Rattle.wcps_mean.specs.declared.cell.PointFault.{PointFault}
use Rattle.wcps_mean.specs.declared.answer.EvalError.{EvalError}
use Rattle.wcps_mean.specs.declared.answer.EvalError.TheVariants.{Fault, Cells}
use Rattle.arr_core.specs.declared.cell.Cell.{Cell}
use Rattle.wcps_types.specs.Typed.{ItemTree, CombinationTree}
use Rattle.wcps_mean.specs.declared.item.Item.{Item}
use Rattle.wcps_mean.specs.Answer.{then_of, joined, item_cells, line_of, field_count, item_answer, chosen, combination_answer}
use Rattle.wcps_mean.specs.Errors.{TellsFault, PushesCells}

split-ok : {A : Type 0} (r : Result (List A) PointFault) (zs xs : List A) → then_of r (λ ys. Ok (zs ++ ys)) ≡ Ok xs → (ys : List A) × (r ≡ Ok ys) × (zs ++ ys ≡ xs)
split-ok (Err f) zs xs h = absurd (cc)
split-ok (Ok ys) zs xs h = (ys, refl, (cc))

pair-up : {A : Type 0} (r : Result (List A) PointFault) (zs ws xs : List A) → zs ++ ws ≡ xs → then_of (then_of r (λ ys. Ok (ws ++ ys))) (λ ys. Ok (zs ++ ys)) ≡ then_of r (λ ys. Ok (xs ++ ys))
pair-up (Err f) zs ws xs e = refl
pair-up (Ok ys) zs ws xs e = ap Ok (sym (append_assoc zs ws ys) ∙ ap (λ l. l ++ ys) e)

of-none : {A : Type 0} (r : Result (List A) PointFault) (xs : List A) → [] ≡ xs → r ≡ then_of r (λ ys. Ok (xs ++ ys))
of-none (Err f) xs e = refl
of-none (Ok ys) xs e = ap (λ l. Ok (l ++ ys)) e

joined-append : {A : Type 0} (ls bs : List (Result (List A) PointFault)) (xs : List A) → joined ls ≡ Ok xs → joined (ls ++ bs) ≡ then_of (joined bs) (λ ys. Ok (xs ++ ys))
joined-append [] bs xs h = of-none (joined bs) xs (cc)
joined-append (Err f ∷ ls) bs xs h = absurd (cc)
joined-append (Ok zs ∷ ls) bs xs h =
    let w = split-ok (joined ls) zs xs h in
    ap (λ r. then_of r (λ ys. Ok (zs ++ ys))) (joined-append ls bs w.0 w.1) ∙ pair-up (joined bs) zs w.0 xs w.2

joined-push : {A : Type 0} (ls : List (Result (List A) PointFault)) (r : Result (List A) PointFault) (xs ys : List A) → joined ls ≡ Ok xs → r ≡ Ok ys → joined (ls ++ r ∷ []) ≡ Ok (xs ++ ys)
joined-push ls r xs ys h e =
    joined-append ls (r ∷ []) xs h ∙ ap (λ q. then_of (then_of q (λ zs. Ok (zs ++ []))) (λ zs. Ok (xs ++ zs))) e ∙ ap (λ l. Ok (xs ++ l)) (append-nil ys)

joined-stop : {A : Type 0} (ls bs : List (Result (List A) PointFault)) (r : Result (List A) PointFault) (xs : List A) (f : PointFault) → joined ls ≡ Ok xs → r ≡ Err f → joined (ls ++ r ∷ bs) ≡ Err f
joined-stop ls bs r xs f h e =
    joined-append ls (r ∷ bs) xs h ∙ ap (λ q. then_of (then_of q (λ zs. then_of (joined bs) (λ ws. Ok (zs ++ ws)))) (λ zs. Ok (xs ++ zs))) e

map-cut : {X Y : Type 0} (f : X → Y) (xs : List X) (k : ℕ) (x d : X) → k < length xs → x ≡ get_or xs k d → map f xs ≡ map f (take k xs) ++ f x ∷ map f (drop (suc k) xs)
map-cut f [] k x d lt e = absurd (omega arith)
map-cut f (y ∷ xs) zero x d lt e = ap (λ z. f z ∷ map f xs) (sym e)
map-cut f (y ∷ xs) (suc k) x d lt e = ap (λ l. f y ∷ l) (map-cut f xs k x d (omega arith) e)

map-more : {X Y : Type 0} (f : X → Y) (xs : List X) (k : ℕ) (x d : X) → k < length xs → x ≡ get_or xs k d → map f (take (suc k) xs) ≡ map f (take k xs) ++ f x ∷ []
map-more f [] k x d lt e = absurd (omega arith)
map-more f (y ∷ xs) zero x d lt e = ap (λ z. f z ∷ []) (sym e)
map-more f (y ∷ xs) (suc k) x d lt e = ap (λ l. f y ∷ l) (map-more f xs k x d (omega arith) e)

-- one more turn that gives a list
pub turn-more : {X A : Type 0} (f : X → Result (List A) PointFault) (xs : List X) (k : ℕ) (x d : X) (now ys : List A) → k < length xs → x ≡ get_or xs k d → joined (map f (take k xs)) ≡ Ok now → f x ≡ Ok ys → joined (map f (take (k + 1) xs)) ≡ Ok (now ++ ys)
turn-more f xs k x d now ys lt e h g =
    let next : k + 1 ≡ suc k = omega arith in
    ap (λ n. joined (map f (take n xs))) next ∙ ap joined (map-more f xs k x d lt e) ∙ joined-push (map f (take k xs)) (f x) now ys h g

-- a turn that gives a fault
pub turn-stop : {X A : Type 0} (f : X → Result (List A) PointFault) (xs : List X) (k : ℕ) (x d : X) (now : List A) (e : PointFault) → k < length xs → x ≡ get_or xs k d → joined (map f (take k xs)) ≡ Ok now → f x ≡ Err e → joined (map f xs) ≡ Err e
turn-stop f xs k x d now e lt i h g = ap joined (map-cut f xs k x d lt i) ∙ joined-stop (map f (take k xs)) (map f (drop (suc k) xs)) (f x) now e h g

pub map-map : {X Y Z : Type 0} (f : Y → Z) (g : X → Y) (xs : List X) → map f (map g xs) ≡ map (λ x. f (g x)) xs
map-map f g [] = refl
map-map f g (x ∷ xs) = ap (λ l. f (g x) ∷ l) (map-map f g xs)

-- cells that were pushed are an answer
pub pushed-ok : {A : Type 0} (r : Result (List A) PointFault) (old new : List A) → PushesCells r old new → (xs : List A) × (r ≡ Ok xs) × (new ≡ old ++ xs)
pushed-ok (Ok xs) old new h = (xs, refl, h)
pushed-ok (Err f) old new h = absurd h

pub ok-pushed : {A : Type 0} (r : Result (List A) PointFault) (xs old new : List A) → r ≡ Ok xs → new ≡ old ++ xs → PushesCells r old new
ok-pushed (Ok ys) xs old new e h = h ∙ ap (λ l. old ++ l) (sym (cc))
ok-pushed (Err f) xs old new e h = absurd (cc)

-- a fault that is told of a part is told of the whole
pub tells-on : {A B : Type 0} (e : EvalError) (r : Result A PointFault) (q : Result B PointFault) → ((f : PointFault) → r ≡ Err f → q ≡ Err f) → TellsFault e r → TellsFault e q
tells-on (Fault f) r q h t = h f t
tells-on (Cells c) r q h t = tt

-- the answer of an item and of a combination, by what its parts give
pub item-err : (s : ℕ → ℕ → List ℤ → ℤ) (i : ItemTree) (f : PointFault) → item_cells s i ≡ Err f → item_answer s i ≡ Err f
item-err s i f h = ap (λ (r : Result (List Cell) PointFault). then_of r (λ cells. Ok (record { line = line_of i.domain; fields = field_count (length i.fields); cells = cells }))) h

pub item-ok : (s : ℕ → ℕ → List ℤ → ℤ) (i : ItemTree) (line fields : ℕ) (cells : List Cell) → item_cells s i ≡ Ok cells → line ≡ line_of i.domain → fields ≡ field_count (length i.fields)
    → item_answer s i ≡ Ok (record { line = line; fields = fields; cells = cells })
item-ok s i line fields cells h e f =
    ap (λ (r : Result (List Cell) PointFault). then_of r (λ cells. Ok (record { line = line_of i.domain; fields = field_count (length i.fields); cells = cells }))) h
    ∙ ap (λ n. Ok (record { line = n; fields = field_count (length i.fields); cells = cells })) (sym e)
    ∙ ap (λ n. Ok (record { line = line; fields = n; cells = cells })) (sym f)

abbrev from_item : Result Item PointFault → Result (List Item) PointFault
from_item r = then_of r (λ i. Ok (i ∷ []))

abbrev from_choice : Result Item PointFault → Result Bool PointFault → Result (List Item) PointFault
from_choice q r = then_of r (λ b. cond b (from_item q) (Ok []))

pub chosen-err : (s : ℕ → ℕ → List ℤ → ℤ) (c : CombinationTree) (f : PointFault) → chosen s c.condition ≡ Err f → combination_answer s c ≡ Err f
chosen-err s c f h = ap (from_choice (item_answer s c.item)) h

pub chosen-false : (s : ℕ → ℕ → List ℤ → ℤ) (c : CombinationTree) → chosen s c.condition ≡ Ok false → combination_answer s c ≡ Ok []
chosen-false s c h = ap (from_choice (item_answer s c.item)) h

pub chosen-item : (s : ℕ → ℕ → List ℤ → ℤ) (c : CombinationTree) (i : Item) → chosen s c.condition ≡ Ok true → item_answer s c.item ≡ Ok i → combination_answer s c ≡ Ok (i ∷ [])
chosen-item s c i h e = ap (from_choice (item_answer s c.item)) h ∙ ap from_item e

pub chosen-item-err : (s : ℕ → ℕ → List ℤ → ℤ) (c : CombinationTree) (f : PointFault) → chosen s c.condition ≡ Ok true → item_answer s c.item ≡ Err f → combination_answer s c ≡ Err f
chosen-item-err s c f h e = ap (from_choice (item_answer s c.item)) h ∙ ap from_item e

-- all turns
pub turns-all : {X A : Type 0} (f : X → Result (List A) PointFault) (xs : List X) (k : ℕ) → length xs ≤ k → joined (map f (take k xs)) ≡ joined (map f xs)
turns-all f xs k h = ap (λ l. joined (map f l)) (take-whole k xs h)
