-- Combinations of like coverages have one tree.
use Rattle.std.proofs.Common.{◌≡◌, ℕ, zero, suc, ◌+◌, ◌<◌, ◌≤◌, Bool, true, false, ◌&&◌, get_or, drop, List, [], ◌∷◌, ◌++◌, map, length, refl, ap, sym, subst, arith, ◌∙◌, append_assoc, length-append, add-one, Vec, Global}
use Rattle.std.specs.Prelude.{Option, Some, None, Result, slice_get, IsSomeAnd, Ok, Err}
use Rattle.std.specs.List.{list_all}
use Rattle.std.proofs.lemmas.List.{map-append, length-map}
use Rattle.std.proofs.Math.Seq.{drop-cons}
use Rattle.arr_core.specs.declared.signature.Signature.{Signature}
use Rattle.wcps_text.specs.Tree.{QueryTree}
use Rattle.wcps_types.specs.declared.bound.Bound.{Bound}
use Rattle.wcps_types.specs.declared.typed.Tree.{Tree}
use Rattle.wcps_types.specs.declared.typed_query.Combination.{Combination}
use Rattle.wcps_types.specs.declared.typed_query.Maker.{Maker}
use Rattle.wcps_types.specs.Typed.{CombinationTree, tree_view}
use Rattle.wcps_types.specs.Renamed.{renamed_combination, over, combination_view}
use Rattle.wcps_types.specs.declared.refusal.CheckError.{CheckError}
use Rattle.wcps_types.specs.declared.refusal.CheckError.TheVariants.{Refused, NoMemory}
use Rattle.wcps_types.specs.Shapes.{Answer, Says}
use Rattle.wcps_types.specs.Bindings.{ChoiceTree, combination_at, bound_to}
use Rattle.wcps_types.specs.Queries.{typ_combination}
use Rattle.wcps_types.specs.Sharing.{own, own_choices, coverages_in, with_signature, signatures_at, Stand, AreBelow, HaveTrees, AlikeAt, Alike, Grows, typed_over, is_typed, tree_in, makes, tree_of, trees_of, maker_of, AreCounted, AreMade}
use Rattle.wcps_types.proofs.RenamedForms.{answer_map}
use Rattle.wcps_types.proofs.Renamed.{combination-renamed}

stand-cons : (cs : List Signature) (a : ℕ) (more : List ℕ) (o p : Option Signature) (sigs : List Signature) → slice_get cs a ≡ o → AlikeAt o p → Stand cs more sigs → Stand cs (a ∷ more) (with_signature p sigs)
stand-cons cs a more None p sigs e h k = absurd h
stand-cons cs a more (Some s) None sigs e h k = absurd h
stand-cons cs a more (Some s) (Some t) sigs e h k = rw e (h, k)

-- alike places stand for the signatures at the others
stand-alike : (cs : List Signature) (places others : List ℕ) → Alike cs places others → Stand cs places (signatures_at cs others)
stand-alike cs [] [] h = tt
stand-alike cs [] (b ∷ others) h = absurd h
stand-alike cs (a ∷ places) [] h = absurd h
stand-alike cs (a ∷ places) (b ∷ others) h =
    stand-cons cs a places (slice_get cs a) (slice_get cs b) (signatures_at cs others) refl h.0 (stand-alike cs places others h.1)

typed-is : (a : Answer CombinationTree) → is_typed a ≡ true → a ≡ Ok (tree_in a)
typed-is (Ok t) e = refl
typed-is (Err f) e = absurd (cc)

-- the tree of a maker serves each combination that is like it
made-over : (cs : List Signature) (q : QueryTree) (bound : List Bound) (m : Maker) → Alike cs (coverages_in bound) m.coverages.items → makes cs q (own 0 bound) m ≡ true
    → typ_combination cs q bound ≡ Ok (renamed_combination (coverages_in bound) (tree_of cs q (own 0 bound) m))
made-over cs q bound m h k =
    combination-renamed cs q bound (signatures_at cs m.coverages.items) (stand-alike cs (coverages_in bound) m.coverages.items h)
    ∙ ap (answer_map (renamed_combination (coverages_in bound))) (typed-is (typed_over cs q (own 0 bound) m.coverages.items) k)

pub like-over : (cs : List Signature) (q : QueryTree) (bound : List Bound) (makers : List Maker) (k : ℕ) → AreMade cs q (own 0 bound) makers
    → IsSomeAnd (slice_get makers k) (λ (m : Maker). Alike cs (coverages_in bound) m.coverages.items)
    → typ_combination cs q bound ≡ Ok (over (coverages_in bound) (slice_get (trees_of cs q (own 0 bound) makers) k))
like-over cs q bound [] k h like = absurd like
like-over cs q bound (m ∷ makers) zero h like = made-over cs q bound m like h.0
like-over cs q bound (m ∷ makers) (suc k) h like = like-over cs q bound makers k h.2 like

pub like-inside : (P : Maker → Type 0) (makers : List Maker) (k : ℕ) → IsSomeAnd (slice_get makers k) P → k < length makers
like-inside P [] k h = absurd h
like-inside P (m ∷ makers) zero h = omega arith
like-inside P (m ∷ makers) (suc k) h = omega (arith, like-inside P makers k h)

there-at : (cs : List Signature) (k : ℕ) → k < length cs → AlikeAt (slice_get cs k) (slice_get cs k)
there-at [] k h = absurd (omega (arith, h))
there-at (s ∷ cs) zero h = (refl, refl)
there-at (s ∷ cs) (suc k) h = there-at cs k (omega (arith, h))

pub alike-itself : (cs : List Signature) (places : List ℕ) → AreBelow (length cs) places → Alike cs places places
alike-itself cs [] h = tt
alike-itself cs (k ∷ places) h = (there-at cs k h.0, alike-itself cs places h.1)

-- one maker more
pub trees-put : (cs : List Signature) (q : QueryTree) (variables : List Bound) (makers : List Maker) (m : Maker)
    → trees_of cs q variables (makers ++ m ∷ []) ≡ trees_of cs q variables makers ++ tree_of cs q variables m ∷ []
trees-put cs q variables makers m = map-append (tree_of cs q variables) makers (m ∷ [])

last-tree : (trees : List CombinationTree) (t : CombinationTree) → slice_get (trees ++ t ∷ []) (length trees) ≡ Some t
last-tree [] t = refl
last-tree (u ∷ trees) t = last-tree trees t

pub tree-put : (cs : List Signature) (q : QueryTree) (variables : List Bound) (makers : List Maker) (places : Vec ℕ Global) (t : CombinationTree) → typed_over cs q variables places.items ≡ Ok t
    → slice_get (trees_of cs q variables (makers ++ maker_of places t ∷ [])) (length makers) ≡ Some t
tree-put cs q variables makers places t e =
    ap (λ (trees : List CombinationTree). slice_get trees (length makers)) (trees-put cs q variables makers (maker_of places t))
    ∙ ap (slice_get (trees_of cs q variables makers ++ tree_of cs q variables (maker_of places t) ∷ [])) (sym (length-map makers (tree_of cs q variables)))
    ∙ last-tree (trees_of cs q variables makers) (tree_of cs q variables (maker_of places t))
    ∙ ap (λ a. Some (tree_in a)) e

grows-last : (trees : List CombinationTree) (t : CombinationTree) (k : ℕ) → k < length trees → slice_get (trees ++ t ∷ []) k ≡ slice_get trees k
grows-last [] t k h = absurd (omega (arith, h))
grows-last (u ∷ trees) t zero h = refl
grows-last (u ∷ trees) t (suc k) h = grows-last trees t k (omega (arith, h))

pub grows-put : (cs : List Signature) (q : QueryTree) (variables : List Bound) (makers : List Maker) (m : Maker) → Grows (trees_of cs q variables makers) (trees_of cs q variables (makers ++ m ∷ []))
grows-put cs q variables makers m =
    subst (Grows (trees_of cs q variables makers)) (sym (trees-put cs q variables makers m))
    (omega (arith, length-append (trees_of cs q variables makers) (tree_of cs q variables m ∷ [])), grows-last (trees_of cs q variables makers) (tree_of cs q variables m))

pub made-put : (cs : List Signature) (q : QueryTree) (variables : List Bound) (makers : List Maker) (places : Vec ℕ Global) (t : CombinationTree) → typed_over cs q variables places.items ≡ Ok t
    → AreMade cs q variables makers → AreMade cs q variables (makers ++ maker_of places t ∷ [])
made-put cs q variables [] places t e h = (ap is_typed e, ap (λ a. maker_of places (tree_in a)) (sym e), tt)
made-put cs q variables (m ∷ makers) places t e h = (h.0, h.1, made-put cs q variables makers places t e h.2)

-- what makers tell
pub counted : (cs : List Signature) (q : QueryTree) (variables : List Bound) (makers : List Maker) → AreMade cs q variables makers → AreCounted (trees_of cs q variables makers) makers
counted cs q variables [] h = tt
counted cs q variables (m ∷ makers) h = (h.1, counted cs q variables makers h.2)

pub all-made : (cs : List Signature) (q : QueryTree) (variables : List Bound) (makers : List Maker) → AreMade cs q variables makers → list_all (makes cs q variables) makers ≡ true
all-made cs q variables [] h = refl
all-made cs q variables (m ∷ makers) h = rw (h.0) (all-made cs q variables makers h.2)

both-true : (a b : Bool) → (a && b) ≡ true → (a ≡ true) × (b ≡ true)
both-true true true e = (refl, refl)
both-true true false e = absurd (cc)
both-true false b e = absurd (cc)

-- combinations keep their trees
pub views-grown : (old new : List CombinationTree) (all : List Combination) → HaveTrees (length old) all → Grows old new → map (combination_view new) all ≡ map (combination_view old) all
views-grown old new [] h g = refl
views-grown old new (c ∷ more) h g =
    ap (λ (o : Option CombinationTree). over c.coverages.items o ∷ map (combination_view new) more) (g.1 c.tree h.0)
    ∙ ap (λ (rest : List CombinationTree). combination_view old c ∷ rest) (views-grown old new more h.1 g)

pub trees-last : (n m : ℕ) (all : List Combination) (c : Combination) → HaveTrees n all → n ≤ m → c.tree < m → HaveTrees m (all ++ c ∷ [])
trees-last n m [] c h le lt = (lt, tt)
trees-last n m (d ∷ all) c h le lt = (omega (arith, h.0, le), trees-last n m all c h.1 le lt)

-- the variables of each combination
pub own-at : (k : ℕ) (choices : List ChoiceTree) (n : ℕ) → own k (combination_at choices n) ≡ own_choices k choices
own-at k [] n = refl
own-at k (c ∷ choices) n = ap (λ (more : List Bound). bound_to c.variable k ∷ more) (own-at (suc k) choices _)

-- what is said over the variables is said over the coverages
pub says-shared : (cs : List Signature) (q : QueryTree) (bound : List Bound) → AreBelow (length cs) (coverages_in bound) → (r : Result Tree CheckError)
    → Says tree_view r (typ_combination (signatures_at cs (coverages_in bound)) q (own 0 bound)) → Says (λ t. renamed_combination (coverages_in bound) (tree_view t)) r (typ_combination cs q bound)
says-shared cs q bound h (Ok t) e =
    combination-renamed cs q bound (signatures_at cs (coverages_in bound)) (stand-alike cs (coverages_in bound) (coverages_in bound) (alike-itself cs (coverages_in bound) h)) ∙ ap (answer_map (renamed_combination (coverages_in bound))) e
says-shared cs q bound h (Err (Refused f)) e =
    combination-renamed cs q bound (signatures_at cs (coverages_in bound)) (stand-alike cs (coverages_in bound) (coverages_in bound) (alike-itself cs (coverages_in bound) h)) ∙ ap (answer_map (renamed_combination (coverages_in bound))) e
says-shared cs q bound h (Err NoMemory) e = tt

-- for variables that are the combination's own
pub like-of : (cs : List Signature) (q : QueryTree) (bound variables : List Bound) (makers : List Maker) (k : ℕ) → variables ≡ own 0 bound → AreMade cs q variables makers
    → IsSomeAnd (slice_get makers k) (λ (m : Maker). Alike cs (coverages_in bound) m.coverages.items)
    → typ_combination cs q bound ≡ Ok (over (coverages_in bound) (slice_get (trees_of cs q variables makers) k))
like-of cs q bound variables makers k e h like =
    subst (λ w. typ_combination cs q bound ≡ Ok (over (coverages_in bound) (slice_get (trees_of cs q w makers) k))) (sym e)
    (like-over cs q bound makers k (subst (λ w. AreMade cs q w makers) e h) like)

pub says-over : (cs : List Signature) (q : QueryTree) (bound variables : List Bound) (places : List ℕ) → variables ≡ own 0 bound → places ≡ coverages_in bound → AreBelow (length cs) (coverages_in bound)
    → (r : Result Tree CheckError) → Says tree_view r (typed_over cs q variables places) → Says (λ t. renamed_combination (coverages_in bound) (tree_view t)) r (typ_combination cs q bound)
says-over cs q bound variables places e f h r says =
    says-shared cs q bound h r (subst (λ ps. Says tree_view r (typed_over cs q (own 0 bound) ps)) f (subst (λ w. Says tree_view r (typed_over cs q w places)) e says))

pub some-inside : (trees : List CombinationTree) (k : ℕ) (t : CombinationTree) → slice_get trees k ≡ Some t → k < length trees
some-inside [] k t e = absurd (cc)
some-inside (u ∷ trees) zero t e = omega arith
some-inside (u ∷ trees) (suc k) t e = omega (arith, some-inside trees k t e)

with-more : (o : Option Signature) (more : List Signature) → with_signature o [] ++ more ≡ with_signature o more
with-more None more = refl
with-more (Some s) more = refl

-- one variable more
pub signature-next : (cs : List Signature) (places : List ℕ) (i : ℕ) (done : List Signature) → i < length places
    → (done ++ with_signature (slice_get cs (get_or places i 0)) []) ++ signatures_at cs (drop (i + 1) places) ≡ done ++ signatures_at cs (drop i places)
signature-next cs places i done lt =
    let place = get_or places i 0 in
    let f : drop (i + 1) places ≡ drop (suc i) places = rw add-one refl in
    let e : drop i places ≡ place ∷ drop (i + 1) places = drop-cons places i 0 lt ∙ ap (λ rest. place ∷ rest) (sym f) in
    let more = signatures_at cs (drop (i + 1) places) in
    let assoc : (done ++ with_signature (slice_get cs place) []) ++ more ≡ done ++ (with_signature (slice_get cs place) [] ++ more) = simp append_assoc in
    assoc ∙ ap (λ rest. done ++ rest) (with-more (slice_get cs place) more) ∙ ap (λ rest. done ++ signatures_at cs rest) (sym e)
