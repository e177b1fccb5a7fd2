-- Folds of zones: what their accumulators are told, their places and what is fetched.
use Rattle.std.proofs.Common.{◌≡◌, ◌≢◌, ℕ, zero, suc, ◌+◌, ◌-◌, ◌*◌, ◌<◌, ◌≤◌, List, [], ◌∷◌, ◌++◌, length, get_or, map, refl, sym, ap, ◌∙◌, subst, arith, ℤ, pos, T, Bool, true, false, below_more, Option, Some, None}
use Rattle.std.specs.Prelude.{replicate, int_le, ◌&&◌, IfSome, IfOk, Result, Ok, Err}
use Rattle.std.specs.List.{flat_map}
use Rattle.std.proofs.Math.Nat.{mul_comm}
use Rattle.std.proofs.lemmas.List.{get_or-map, length-map}
use Rattle.arr_core.specs.declared.domain.Axis.{Axis}
use Rattle.arr_core.specs.declared.signature.Signature.{Signature}
use Rattle.arr_core.specs.Domains.{count, rank_of}
use Rattle.arr_core.specs.Tiles.{tile_boxes, tile_box}
use Rattle.arr_core.proofs.Points.{length-points}
use Rattle.wcps_text.specs.declared.operator.Aggregate.{Aggregate}
use Rattle.wcps_text.specs.declared.operator.BinaryOperator.TheVariants.{Equal}
use Rattle.wcps_mean.specs.declared.cell.Outcome.{Outcome}
use Rattle.wcps_mean.specs.declared.cell.Outcome.TheVariants.{Value, Fault}
use Rattle.wcps_mean.specs.Cells.{operate2, number}
use Rattle.plan_ir.specs.declared.body.Interval.{Interval}
use Rattle.plan_ir.specs.Bodies.{Tree, fold}
use Rattle.plan_ir.specs.Run.{run}
use Rattle.plan_ir.specs.Placed.{spans, IsPlaced}
use Rattle.plan_ir.specs.Units.{bound_times}
use Rattle.plan_ir.specs.Variables.{is_below}
use Rattle.plan_ir.proofs.FirstVariables.{flat-same, from-same, below-means, below-placed}
use Rattle.tile_kernel.specs.declared.accumulator.Accumulator.{Accumulator}
use Rattle.tile_kernel.specs.Columns.{outcome_at, operate_all}
use Rattle.tile_kernel.specs.Keyed.{having, number_at, IsPlaceOf}
use Rattle.tile_kernel.specs.Told.{Told, told_at, demanded_of, demanded_at}
use Rattle.tile_kernel.specs.Standing.{Stands, TakesIn, EachTakesIn, AreOf, HaveAtMost}
use Rattle.tile_columns.specs.Condensing.{told_ranked, MergesAt}
use Rattle.tile_columns.specs.Evaluating.{AreWithin, HasPlace}
use Rattle.tile_columns.specs.TileOrder.{points_to}
use Rattle.tile_columns.specs.declared.shapes.Shape.{Shape}
use Rattle.tile_columns.specs.declared.shapes.Shape.TheVariants.{Alone, First, Second}
use Rattle.tile_columns.specs.declared.zones.Role.{Role}
use Rattle.tile_columns.specs.declared.zones.Role.TheVariants.{Condition, Within}
use Rattle.tile_columns.specs.declared.zone_folds.Seen.{Seen}
use Rattle.tile_columns.specs.Shapes.{operand, shaped, joined, joined_all}
use Rattle.tile_columns.specs.Blanks.{AddsZeros, CountsZeros}
use Rattle.tile_columns.specs.Zones.{compared, equality, equation_in, other_in, condition_in, body_in, condition_of, value_of, told_all, IsZoned, IsZonal, IsWhole, HasBlanks, AreKeyed, AreCounted, AreShared, TakesInAt}
use Rattle.tile_kernel.proofs.Tellings.{length-told_at}
use Rattle.tile_columns.proofs.BlankFolds.{joined_map, length-joined, blanks_between}
use Rattle.tile_columns.proofs.Condensings.{takes_same}
use Rattle.tile_columns.proofs.Fetching.{times_both}
use Rattle.tile_columns.proofs.Placing.{left_place, right_place}
use Rattle.tile_columns.proofs.Ranges.{map_map}
use Rattle.tile_columns.proofs.TileFolds.{told_chosen, always_told, points_next}

-- ---- outcomes that are compared with a key

both_ways : (a b : Bool) → (a && b) ≡ (b && a)
both_ways true true = refl
both_ways true false = refl
both_ways false true = refl
both_ways false false = refl

equal_either : (o : Outcome) (z : ℤ) → operate2 Equal o (Value z) ≡ operate2 Equal (Value z) o
equal_either (Fault f) z = refl
equal_either (Value x) z = ap (λ b. Value (number b)) (both_ways (int_le x z) (int_le z x))

-- with a value it does not matter which operand is the key
pub having_compared : (first : Bool) (os : List Outcome) (z : ℤ) → having os z ≡ map (compared first (Value z)) os
having_compared first [] z = refl
having_compared true (o ∷ os) z = ap (λ x. x ∷ having os z) (equal_either o z) ∙ ap (λ l. operate2 Equal (Value z) o ∷ l) (having_compared true os z)
having_compared false (o ∷ os) z = ap (λ l. operate2 Equal o (Value z) ∷ l) (having_compared false os z)

-- the number at the place of a number is that number
pub placed_key : (r : Option ℕ) (z : ℤ) (numbers : List ℤ) → IfSome r (λ k. k < length numbers) → IsPlaceOf z numbers r → IfSome r (λ k. Value z ≡ Value (number_at numbers k))
placed_key None z numbers w p = w
placed_key (Some k) z numbers w p = ap Value (sym ((p k w).1 refl))

-- a column of the key in each place
pub compared_right : (os : List Outcome) (n : ℕ) (key : Outcome) → n ≡ length os → operate_all Equal os (replicate n key) ≡ map (compared false key) os
compared_right [] n key e = refl
compared_right (o ∷ os) zero key e = absurd (omega (arith, e))
compared_right (o ∷ os) (suc n) key e = ap (λ l. operate2 Equal o key ∷ l) (compared_right os n key (omega (arith, e)))

pub compared_left : (os : List Outcome) (n : ℕ) (key : Outcome) → n ≡ length os → operate_all Equal (replicate n key) os ≡ map (compared true key) os
compared_left [] zero key e = refl
compared_left [] (suc n) key e = refl
compared_left (o ∷ os) zero key e = absurd (omega (arith, e))
compared_left (o ∷ os) (suc n) key e = ap (λ l. operate2 Equal key o ∷ l) (compared_left os n key (omega (arith, e)))

-- ---- accumulators

-- an accumulator that took over what another one was told
pub merged_at : (place n : ℕ) (found : Accumulator) (more : List Told) (before after : List Accumulator) → MergesAt place found before after → Stands found more → found.running.count ≤ n → TakesInAt place more n before after
merged_at place n found more before after m s le = record {
  told = λ d. m.told more d s;
  count = λ d. let e = m.count d in omega (arith, e, le);
  kinds = m.kinds;
  others = m.others;
}

-- one more place
pub place_told : (before mid after : List Accumulator) (place n : ℕ) (told : ℕ → List Told) → TakesInAt place (told place) n mid after
    → ((k : ℕ) (d : Accumulator) → place ≤ k → get_or mid k d ≡ get_or before k d) → ((k : ℕ) (d : Accumulator) → k < place → TakesIn (get_or before k d) (get_or mid k d) (told k))
    → (k : ℕ) (d : Accumulator) → k < place + 1 → TakesIn (get_or before k d) (get_or after k d) (told k)
place_told before mid after place n told m rest h k d lt =
    below_more (λ k. (d : Accumulator) → TakesIn (get_or before k d) (get_or after k d) (told k)) place
    (λ k l d. let ne : k ≢ place = omega arith in subst (λ a. TakesIn (get_or before k d) a (told k)) (sym (m.others k d ne)) (h k d l))
    (λ d. subst (λ a. TakesIn a (get_or after place d) (told place)) (rest place d (omega arith)) (m.told d))
    k lt d

pub place_count : (before mid after : List Accumulator) (place n : ℕ) (more : List Told) → TakesInAt place more n mid after
    → ((k : ℕ) (d : Accumulator) → place ≤ k → get_or mid k d ≡ get_or before k d) → ((k : ℕ) (d : Accumulator) → k < place → (get_or mid k d).running.count ≤ (get_or before k d).running.count + n)
    → (k : ℕ) (d : Accumulator) → k < place + 1 → (get_or after k d).running.count ≤ (get_or before k d).running.count + n
place_count before mid after place n more m rest h k d lt =
    below_more (λ k. (d : Accumulator) → (get_or after k d).running.count ≤ (get_or before k d).running.count + n) place
    (λ k l d. let ne : k ≢ place = omega arith in subst (λ (a : Accumulator). a.running.count ≤ (get_or before k d).running.count + n) (sym (m.others k d ne)) (h k d l))
    (λ d. let e = m.count d in let r = ap (λ (a : Accumulator). a.running.count) (rest place d (omega arith)) in omega (arith, e, r))
    k lt d

pub place_rest : (before mid after : List Accumulator) (place n : ℕ) (more : List Told) → TakesInAt place more n mid after → ((k : ℕ) (d : Accumulator) → place ≤ k → get_or mid k d ≡ get_or before k d)
    → (k : ℕ) (d : Accumulator) → place + 1 ≤ k → get_or after k d ≡ get_or before k d
place_rest before mid after place n more m rest k d le = let ne : k ≢ place = omega arith in m.others k d ne ∙ rest k d (omega arith)

-- ---- a fold of zones at the points of a part

compared_run : (s : ℕ → ℕ → List ℤ → ℤ) (regs : List Outcome) (own key : Tree) (first : Bool) (v : List ℤ) → run s regs (equality first own key) v ≡ compared first (run s regs key v) (run s regs own v)
compared_run s regs own key true v = refl
compared_run s regs own key false v = refl

joined_run : (s : ℕ → ℕ → List ℤ → ℤ) (regs : List Outcome) (shape : Shape) (equation other : Tree) (v : List ℤ) → run s regs (shaped shape equation other) v ≡ joined shape (run s regs equation v) (run s regs other v)
joined_run s regs Alone equation other v = refl
joined_run s regs (First op) equation other v = refl
joined_run s regs (Second op) equation other v = refl

condition_run : (s : ℕ → ℕ → List ℤ → ℤ) (regs : List Outcome) (role : Role) (equation : Tree) (v : List ℤ) → run s regs (condition_in role equation) v ≡ condition_of role (run s regs equation v)
condition_run s regs Condition equation v = refl
condition_run s regs (Within shape) equation v = refl

value_run : (s : ℕ → ℕ → List ℤ → ℤ) (regs : List Outcome) (role : Role) (equation other : Tree) (v : List ℤ) → run s regs (body_in role equation other) v ≡ value_of role (run s regs equation v) (run s regs other v)
value_run s regs Condition equation other v = refl
value_run s regs (Within shape) equation other v = joined_run s regs shape equation other v

-- what the points of a part tell, by columns of the equation and of the other body
told_joined : (box : List Axis) (role : Role) (g e : List ℤ → Outcome) (vars : List ℤ) (xs : List (List ℤ)) → told_all role (map (rank_of box) xs) (map g (map (λ p. vars ++ p) xs)) (map e (map (λ p. vars ++ p) xs))
    ≡ flat_map (told_ranked box (λ v. condition_of role (g v)) (λ v. value_of role (g v) (e v)) vars) xs
told_joined box Condition g e vars xs = told_chosen box g e vars xs
told_joined box (Within shape) g e vars xs =
    let frame = map (λ p. vars ++ p) xs in
    ap (told_at (map (rank_of box) xs)) (joined_map shape g e frame)
    ∙ always_told (map (rank_of box) xs) (λ v. joined shape (g v) (e v)) frame
    ∙ told_chosen box (λ v. Value (pos 1)) (λ v. joined shape (g v) (e v)) vars xs

pub is_t : {b : Bool} → b ≡ true → T b
is_t e = subst T (sym e) tt

-- what the condition and the body give at a point of a place is told by the place's key and by what their bodies give
-- under the variables of another place
pub zone_parts : (s : ℕ → ℕ → List ℤ → ℤ) (regs : List Outcome) (role : Role) (condition body own key : Tree) (first : Bool) (depth : ℕ) (one vars x : List ℤ) → IsZoned depth role condition body own key first → length one ≡ depth → length vars ≡ depth
    → (condition_of role (compared first (run s regs key vars) (run s regs own (one ++ x))) ≡ run s regs condition (vars ++ x))
    × (value_of role (compared first (run s regs key vars) (run s regs own (one ++ x))) (run s regs (other_in role body) (one ++ x)) ≡ run s regs body (vars ++ x))
zone_parts s regs role condition body own key first depth one vars x z e f =
    let equation = equation_in role condition body in
    let other = other_in role body in
    let k : run s regs key (vars ++ x) ≡ run s regs key vars = below-means key s regs vars x (subst (λ n. T (is_below n key)) (sym f) (is_t z.sides.key_below)) in
    let o : run s regs own (one ++ x) ≡ run s regs own (vars ++ x) = from-same own s regs depth one vars x (is_t z.sides.own_from) e f in
    let r : run s regs other (one ++ x) ≡ run s regs other (vars ++ x) = from-same other s regs depth one vars x (is_t z.other_from) e f in
    let q : compared first (run s regs key vars) (run s regs own (one ++ x)) ≡ run s regs equation (vars ++ x) =
    ap (compared first (run s regs key vars)) o ∙ ap (λ q. compared first q (run s regs own (vars ++ x))) (sym k)
    ∙ sym (compared_run s regs own key first (vars ++ x)) ∙ ap (λ t. run s regs t (vars ++ x)) (sym z.sides.is) in (
      ap (condition_of role) q ∙ sym (condition_run s regs role equation (vars ++ x)) ∙ ap (λ t. run s regs t (vars ++ x)) (sym z.condition_is),
      ap (λ q. value_of role q (run s regs other (one ++ x))) q ∙ ap (value_of role (run s regs equation (vars ++ x))) r
          ∙ sym (value_run s regs role equation other (vars ++ x)) ∙ ap (λ t. run s regs t (vars ++ x)) (sym z.body_is),
    )

-- and so is what the point adds there
zone_point : (s : ℕ → ℕ → List ℤ → ℤ) (regs : List Outcome) (dom : List Axis) (role : Role) (condition body own key : Tree) (first : Bool) (depth : ℕ) (one vars x : List ℤ) → IsZoned depth role condition body own key first → length one ≡ depth → length vars ≡ depth
    → told_ranked dom (λ v. condition_of role (compared first (run s regs key vars) (run s regs own v))) (λ v. value_of role (compared first (run s regs key vars) (run s regs own v)) (run s regs (other_in role body) v)) one x
    ≡ told_ranked dom (run s regs condition) (run s regs body) vars x
zone_point s regs dom role condition body own key first depth one vars x z e f =
    let p = zone_parts s regs role condition body own key first depth one vars x z e f in
    ap (λ q. demanded_of (rank_of dom x) q (value_of role (compared first (run s regs key vars) (run s regs own (one ++ x))) (run s regs (other_in role body) (one ++ x)))) p.0
    ∙ ap (demanded_of (rank_of dom x) (run s regs condition (vars ++ x))) p.1

-- what the columns of a part tell of a place's key is what the points of the part tell at the place
pub zone_told : (s : ℕ → ℕ → List ℤ → ℤ) (regs : List Outcome) (dom : List Axis) (role : Role) (condition body own key : Tree) (first : Bool) (envs xs inner : List (List ℤ)) (keys zone column : List Outcome) (ranks : List ℕ) (before after : List Accumulator)
    → IsZonal role condition body own key first envs → length after ≡ length envs
    → inner ≡ map (λ p. get_or envs 0 [] ++ p) xs → ranks ≡ map (rank_of dom) xs → keys ≡ map (run s regs key) envs → zone ≡ map (run s regs own) inner → column ≡ map (run s regs (other_in role body)) inner
    → EachTakesIn before after (λ k. told_all role ranks (map (compared first (outcome_at keys k)) zone) column)
    → EachTakesIn before after (λ k. flat_map (told_ranked dom (run s regs condition) (run s regs body) (get_or envs k [])) xs)
zone_told s regs dom role condition body own key first envs xs inner keys zone column ranks before after z n i q h o c t =
    let one = get_or envs 0 [] in
    let other = other_in role body in
    let frame = map (λ p. one ++ p) xs in
    takes_same before after (λ k. told_all role ranks (map (compared first (outcome_at keys k)) zone) column) (λ k. flat_map (told_ranked dom (run s regs condition) (run s regs body) (get_or envs k [])) xs) t
    (λ k lt.
    let vars = get_or envs k [] in
    let l : k < length envs = omega (arith, lt, n) in
    let at : outcome_at keys k ≡ run s regs key vars = ap (λ l. outcome_at l k) h ∙ get_or-map (run s regs key) envs k [] (Value (pos 0)) l in
    let go : List ℤ → Outcome = λ v. compared first (run s regs key vars) (run s regs own v) in
    ap (λ y. told_all role ranks (map (compared first y) zone) column) at
    ∙ ap (λ l. told_all role l (map (compared first (run s regs key vars)) zone) column) q
    ∙ ap (λ l. told_all role (map (rank_of dom) xs) (map (compared first (run s regs key vars)) l) column) (o ∙ ap (map (run s regs own)) i)
    ∙ ap (λ l. told_all role (map (rank_of dom) xs) l column) (map_map (compared first (run s regs key vars)) (run s regs own) frame)
    ∙ ap (told_all role (map (rank_of dom) xs) (map go frame)) (c ∙ ap (map (run s regs other)) i)
    ∙ told_joined dom role go (run s regs other) one xs
    ∙ flat-same (told_ranked dom (λ v. condition_of role (go v)) (λ v. value_of role (go v) (run s regs other v)) one) (told_ranked dom (run s regs condition) (run s regs body) vars) xs
    (λ x. zone_point s regs dom role condition body own key first z.depth one vars x z.zoned (z.deep 0 [] z.some) (z.deep k [] l)))

-- ---- places of the bodies

equation_place : {cs : ℕ → Option Signature} {n : ℕ} (role : Role) (condition body own key : Tree) (first : Bool) (depth : ℕ) (envs : List (List ℤ)) → IsZoned depth role condition body own key first → HasPlace cs n condition envs → HasPlace cs n body envs → HasPlace cs n (equation_in role condition body) envs
equation_place Condition condition body own key first depth envs z h e = h
equation_place (Within Alone) condition body own key first depth envs z h e = e
equation_place {cs} {n} (Within (First op)) condition body own key first depth envs z h e = left_place op (operand true body) (operand false body) envs (subst (λ b. HasPlace cs n b envs) z.body_is e)
equation_place {cs} {n} (Within (Second op)) condition body own key first depth envs z h e = right_place op (operand true body) (operand false body) envs (subst (λ b. HasPlace cs n b envs) z.body_is e)

pub other_place : {cs : ℕ → Option Signature} {n : ℕ} (role : Role) (condition body own key : Tree) (first : Bool) (depth : ℕ) (envs : List (List ℤ)) → IsZoned depth role condition body own key first → HasPlace cs n body envs → HasPlace cs n (other_in role body) envs
other_place Condition condition body own key first depth envs z e = e
other_place (Within Alone) condition body own key first depth envs z e = record { scope = e.scope; placed = tt; within = e.within }
other_place {cs} {n} (Within (First op)) condition body own key first depth envs z e = right_place op (operand true body) (operand false body) envs (subst (λ b. HasPlace cs n b envs) z.body_is e)
other_place {cs} {n} (Within (Second op)) condition body own key first depth envs z e = left_place op (operand true body) (operand false body) envs (subst (λ b. HasPlace cs n b envs) z.body_is e)

side_place : {cs : ℕ → Option Signature} {n : ℕ} (own key : Tree) (first : Bool) (envs : List (List ℤ)) → HasPlace cs n (equality first own key) envs → HasPlace cs n own envs
side_place own key true envs h = right_place Equal key own envs h
side_place own key false envs h = left_place Equal own key envs h

pub own_place : {cs : ℕ → Option Signature} {n : ℕ} (role : Role) (condition body own key : Tree) (first : Bool) (depth : ℕ) (envs : List (List ℤ)) → IsZoned depth role condition body own key first → HasPlace cs n condition envs → HasPlace cs n body envs → HasPlace cs n own envs
own_place {cs} {n} role condition body own key first depth envs z h e =
    side_place own key first envs (subst (λ t. HasPlace cs n t envs) z.sides.is (equation_place role condition body own key first depth envs z h e))

pub equation_placed : (cs : ℕ → Option Signature) (n : ℕ) (scope : List Interval) (role : Role) (condition body own key : Tree) (first : Bool) (depth : ℕ) → IsZoned depth role condition body own key first → IsPlaced cs n scope condition → IsPlaced cs n scope body → IsPlaced cs n scope (equation_in role condition body)
equation_placed cs n scope Condition condition body own key first depth z h e = h
equation_placed cs n scope (Within Alone) condition body own key first depth z h e = e
equation_placed cs n scope (Within (First op)) condition body own key first depth z h e = let p : IsPlaced cs n scope (operand true body) × IsPlaced cs n scope (operand false body) = subst (λ b. IsPlaced cs n scope b) z.body_is e in p.0
equation_placed cs n scope (Within (Second op)) condition body own key first depth z h e = let p : IsPlaced cs n scope (operand true body) × IsPlaced cs n scope (operand false body) = subst (λ b. IsPlaced cs n scope b) z.body_is e in p.1

pub key_placed : (cs : ℕ → Option Signature) (n : ℕ) (scope : List Interval) (own key : Tree) (first : Bool) → IsPlaced cs n scope (equality first own key) → IsPlaced cs n scope key
key_placed cs n scope own key true p = p.0
key_placed cs n scope own key false p = p.1

within_length : (scope : List Interval) (e : List ℤ) → AreWithin scope e → length e ≡ length scope
within_length [] [] h = refl
within_length [] (z ∷ e) h = absurd h
within_length (b ∷ scope) [] h = absurd h
within_length (b ∷ scope) (z ∷ e) h = ap suc (within_length scope e h.2)

pub key_place : {cs : ℕ → Option Signature} {n : ℕ} (op : Aggregate) (box : List Axis) (role : Role) (condition body own key : Tree) (first : Bool) (envs : List (List ℤ)) → IsZonal role condition body own key first envs → HasPlace cs n (fold op box condition body) envs → HasPlace cs n key envs
key_place {cs} {n} op box role condition body own key first envs z h =
    let e : length h.scope ≡ z.depth = sym (within_length h.scope (get_or envs 0 []) (h.within 0 [] z.some)) ∙ z.deep 0 [] z.some in
    let p = equation_placed cs n (h.scope ++ spans box) role condition body own key first z.depth z.zoned h.placed.0 h.placed.1 in
    record {
      scope = h.scope;
      placed =
          below-placed key cs n h.scope (spans box) (subst (λ m. T (is_below m key)) (sym e) (is_t z.zoned.sides.key_below))
          (key_placed cs n (h.scope ++ spans box) own key first (subst (λ t. IsPlaced cs n (h.scope ++ spans box) t) z.zoned.sides.is p));
      within = h.within;
    }

-- ---- how many tiles are fetched

times_least : (a b : ℕ) (e : Tree) → a ≤ b → bound_times a e ≤ bound_times b e
times_least a b e le =
    let s : b ≡ a + (b - a) = omega (arith, le) in
    let m = ap (λ n. bound_times n e) s ∙ times_both a (b - a) e in
    omega (arith, m)

pub sides_bound : (n : ℕ) (condition own key : Tree) (first : Bool) → condition ≡ equality first own key → bound_times n condition ≡ bound_times n own + bound_times n key
sides_bound n condition own key true e = let m : bound_times n condition ≡ bound_times n key + bound_times n own = ap (bound_times n) e in omega (arith, m)
sides_bound n condition own key false e = ap (bound_times n) e

-- the equation and the other body ask for no more than the condition and the body
pub zoned_bound : (n : ℕ) (role : Role) (condition body own key : Tree) (first : Bool) (depth : ℕ) → IsZoned depth role condition body own key first
    → bound_times n (equation_in role condition body) + bound_times n (other_in role body) ≤ bound_times n condition + bound_times n body
zoned_bound n Condition condition body own key first depth z = omega arith
zoned_bound n (Within Alone) condition body own key first depth z = omega arith
zoned_bound n (Within (First op)) condition body own key first depth z =
    let e : bound_times n body ≡ bound_times n (operand true body) + bound_times n (operand false body) = ap (bound_times n) z.body_is in
    omega (arith, e)
zoned_bound n (Within (Second op)) condition body own key first depth z =
    let e : bound_times n body ≡ bound_times n (operand true body) + bound_times n (operand false body) = ap (bound_times n) z.body_is in
    omega (arith, e)

more_times : (a b : ℕ) → 0 < b → a ≤ a * b
more_times a b some =
    let s : b ≡ (b - 1) + 1 = omega (arith, some) in
    let m : a * ((b - 1) + 1) ≡ a * (b - 1) + a = grind arith in
    let e = ap (λ k. a * k) s ∙ m in
    omega (arith, e)

-- the keys once for each place, and both bodies once for each point
pub zone_bound : (places n : ℕ) (role : Role) (condition body own key : Tree) (first : Bool) (depth : ℕ) → IsZoned depth role condition body own key first → 0 < places → 0 < n
    → bound_times places key + (bound_times n own + bound_times n (other_in role body)) ≤ bound_times (places * n) condition + bound_times (places * n) body
zone_bound places n role condition body own key first depth z some more =
    let a : places ≤ places * n = more_times places n more in
    let b : n ≤ places * n = subst (λ m. n ≤ m) (mul_comm n places) (more_times n places some) in
    let k = times_least places (places * n) key a in
    let o = times_least n (places * n) own b in
    let r = times_least n (places * n) (other_in role body) b in
    let c = sides_bound (places * n) (equation_in role condition body) own key first z.sides.is in
    let w = zoned_bound (places * n) role condition body own key first depth z in
    omega (arith, k, o, r, c, w)

-- one more tile
pub times_next : (box part : List Axis) (t : ℕ) (e : Tree) → t < length (tile_boxes box) → part ≡ tile_box box t → bound_times (length (points_to box (t + 1))) e ≡ bound_times (length (points_to box t)) e + bound_times (count part) e
times_next box part t e lt is =
    ap (λ m. bound_times m e) (points_next box part t lt is ∙ ap (λ m. length (points_to box t) + m) (length-points part))
    ∙ times_both (length (points_to box t)) (count part) e

-- ---- accumulators with blanks

-- accumulators of the points with their numbers, each of which was told of blanks besides
pub counted_all : (op : Aggregate) (numbers : List ℤ) (s : Seen) (hits : List Outcome) (folds before after whole : List Accumulator) (n : ℕ) → whole ≡ after → before ≡ folds → length after ≡ length before → n ≡ length s.column.now
    → AreKeyed op numbers s.ranks.now s.own.now hits folds → ((k : ℕ) (d : Accumulator) → k < length before → CountsZeros n (get_or before k d) (get_or after k d)) → HaveAtMost n after → (AreOf op before → AreOf op after)
    → AreCounted op numbers s hits whole
counted_all op numbers s hits folds before after whole n w b l e keyed counts room kinds =
    let long : length after ≡ length folds = l ∙ ap length b in
    record {
      many = ap length w ∙ long ∙ keyed.many;
      kinds = subst (AreOf op) (sym w) (kinds (subst (AreOf op) (sym b) keyed.kinds));
      room = subst (HaveAtMost (length s.column.now)) (sym w) (subst (λ m. HaveAtMost m after) e room);
      told = λ j d more lt h m.
          let within : j < length folds = omega (arith, lt, long, ap length w) in
          let there : j < length before = omega (arith, within, ap length b) in
          let stands : Stands (get_or before j d) (demanded_at s.ranks.now (having s.own.now (number_at numbers j)) hits) = subst (λ l. Stands (get_or l j d) (demanded_at s.ranks.now (having s.own.now (number_at numbers j)) hits)) (sym b) (keyed.told j d within) in
          subst (λ l. Stands (get_or l j d) more) (sym w) (counts j d there (demanded_at s.ranks.now (having s.own.now (number_at numbers j)) hits) more stands h (m ∙ sym e));
    }

-- accumulators of a part whose points of other zones add 0
pub shared_within : (op : Aggregate) (numbers : List ℤ) (s : Seen) (shape : Shape) (hits : List Outcome) (folds : List Accumulator) → IsWhole s → s.role ≡ Within shape → hits ≡ joined_all shape (replicate (length s.column.now) (Value (pos 1))) s.column.now
    → (0 < length numbers → HasBlanks op shape s) → AreCounted op numbers s hits folds → AreShared op numbers s folds
shared_within op numbers s shape hits folds whole r e blanks counted = record {
  many = counted.many;
  kinds = counted.kinds;
  room = counted.room;
  told = λ j d lt.
      let n = length s.column.now in
      let os = s.column.now in
      let z = number_at numbers j in
      let b = blanks (omega (arith, lt, counted.many)) in
      let zones = having s.own.now z in
      let long : length zones ≡ length os = length-map s.own.now (λ (o : Outcome). operate2 Equal o (Value z)) ∙ whole.own in
      let all : length (joined_all shape zones os) ≡ length os = length-joined shape zones os long in
      let adds : AddsZeros (demanded_at s.ranks.now zones hits) (told_at s.ranks.now (joined_all shape zones os)) =
      subst (λ l. AddsZeros (demanded_at s.ranks.now zones l) (told_at s.ranks.now (joined_all shape zones os))) (sym e)
      (blanks_between shape z n s.ranks.now s.own.now os whole.ranks whole.own refl b.zeros) in
      let m : length (told_at s.ranks.now (joined_all shape zones os)) ≡ length os = length-told_at s.ranks.now (joined_all shape zones os) (whole.ranks ∙ sym all) ∙ all in
      subst (λ role. Stands (get_or folds j d) (told_all role s.ranks.now zones os)) (sym r) (counted.told j d (told_at s.ranks.now (joined_all shape zones os)) lt adds m);
}

-- and of one whose equation is the condition
pub shared_conditioned : (op : Aggregate) (numbers : List ℤ) (s : Seen) (folds : List Accumulator) → s.role ≡ Condition → AreKeyed op numbers s.ranks.now s.own.now s.column.now folds → AreShared op numbers s folds
shared_conditioned op numbers s folds r keyed = record {
  many = keyed.many;
  kinds = keyed.kinds;
  room = keyed.room;
  told = λ j d lt. subst (λ role. Stands (get_or folds j d) (told_all role s.ranks.now (having s.own.now (number_at numbers j)) s.column.now)) (sym r) (keyed.told j d lt);
}

pub if_done : {A E : Type 0} (r : Result A E) (P Q : A → Type 0) → ((x : A) → P x → Q x) → IfOk r P → IfOk r Q
if_done (Ok x) P Q f h = f x h
if_done (Err e) P Q f h = tt
