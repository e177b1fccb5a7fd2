-- What is known of a body by its key, and what it costs.
use Rattle.std.proofs.Common.{◌≡◌, ℕ, zero, suc, ◌+◌, ◌-◌, ◌*◌, ◌<◌, ◌≤◌, ◌⊎◌, inl, inr, List, [], ◌∷◌, ◌++◌, length, map, get_or, ℤ, pos, refl, sym, ap, ◌∙◌, subst, arith, Option, Some, None}
use Rattle.std.specs.Prelude.{sum_by, IfSome, IfNone}
use Rattle.std.specs.List.{All, Contains, range_with_len}
use Rattle.std.specs.declared.cmp.Ordering.TheVariants.{Equal}
use Rattle.std.specs.Ordering.{int_cmp}
use Rattle.std.proofs.lemmas.Cmp.{int_ranked}
use Rattle.std.proofs.lemmas.List.{length-map, get_or-map}
use Rattle.std.proofs.lemmas.Option.{get_or_from_slice_get}
use Rattle.arr_core.specs.declared.domain.Axis.{Axis}
use Rattle.arr_core.specs.declared.signature.Signature.{Signature}
use Rattle.arr_core.specs.Domains.{points, count, IsInside, IsBoxOf, AreOrdered}
use Rattle.arr_core.proofs.Points.{length-points}
use Rattle.wcps_mean.specs.declared.cell.Outcome.{Outcome}
use Rattle.wcps_mean.specs.declared.cell.Outcome.TheVariants.{Value}
use Rattle.plan_ir.specs.declared.plan.Field.{Field}
use Rattle.plan_ir.specs.declared.plan.Item.{Item}
use Rattle.plan_ir.specs.Bodies.{Tree, body_view, fold_view}
use Rattle.plan_ir.specs.Placed.{IsPlaced, spans}
use Rattle.plan_ir.specs.Planned.{cells_of}
use Rattle.plan_ir.specs.Plans.{FieldBody, signature_of, bind_view, field_view, item_view}
use Rattle.plan_ir.specs.Run.{run}
use Rattle.plan_ir.specs.Units.{bound_of, bound_times}
use Rattle.tile_kernel.specs.Columns.{outcome_at}
use Rattle.tile_columns.specs.declared.ground.Ground.{Ground}
use Rattle.tile_columns.specs.declared.zones.Key.{Key}
use Rattle.tile_columns.specs.Evaluating.{AreWithin}
use Rattle.tile_columns.specs.Fields.{columns_behind}
use Rattle.tile_columns.specs.Keys.{key_in, IsKeyOf, IsFoundKey}
use Rattle.tile_columns.specs.Meaning.{chosen, meaning}
use Rattle.tile_columns.specs.Sources.{SourceState}
use Rattle.tile_columns.specs.Zones.{AreZonesOf}
use Rattle.tile_columns.proofs.Boxes.{points_inside, points_within, fetches_bound}
use Rattle.tile_columns.proofs.Fetching.{times_few, times_both, times_none}
use Rattle.tile_columns.proofs.Ranges.{by_places, same_over}
use Rattle.tile_exec.specs.declared.known.Known.{Known}
use Rattle.tile_exec.specs.declared.known.KnownOutcome.{KnownOutcome}
use Rattle.tile_exec.specs.declared.samples.Sample.{Sample}
use Rattle.tile_exec.specs.Known.{point_of, IsKnownAt, IsKnownOf, IsKnown, KnowsBody, IsKnownPair, AreKnownPairs, IsSampleOf, ArePairs, IsKeyedOver, IsKeyedAt, IsKeyOfItem, IsColumnBy, Pays}
use Rattle.tile_exec.specs.Tasks.{item, bodies_of}

-- ---- places

pub inside_long : (area : List Axis) (p : List ℤ) → IsInside area p → length p ≡ length area
inside_long [] [] i = refl
inside_long [] (x ∷ p) i = absurd i
inside_long (a ∷ area) [] i = absurd i
inside_long (a ∷ area) (x ∷ p) i = let h = inside_long area p i.2 in omega (arith, h)

pub inside_within : (area : List Axis) (p : List ℤ) → IsInside area p → AreWithin (spans area) p
inside_within [] [] i = tt
inside_within [] (x ∷ p) i = absurd i
inside_within (a ∷ area) [] i = absurd i
inside_within (a ∷ area) (x ∷ p) i = (i.0, i.1, inside_within area p i.2)

pub box_long : (area box : List Axis) → IsBoxOf area box → length box ≡ length area
box_long [] [] b = refl
box_long [] (c ∷ box) b = absurd b
box_long (a ∷ area) [] b = absurd b
box_long (a ∷ area) (c ∷ box) b = let h = box_long area box b.1 in omega (arith, h)

-- a fold of zones and its key have their place at a part of a box
pub keyed_at : {K : Type 0} (s : SourceState K) (g : Ground) (area part : List Axis) (k : Key) → IsKeyedOver s g area k → IsBoxOf area part → AreOrdered part → 0 < count part → IsKeyedAt s g part k
keyed_at s g area part k h box ordered some =
    let found = h.found in
    let key = found.key in
    let within = points_within area part box ordered in
    record {
      some = some;
      found = subst (λ n. IsFoundKey n (fold_view k.fold.now) k) (sym (box_long area part box)) found;
      body = record { scope = spans area; placed = h.placed; within = within };
      key = record { scope = spans area; placed = key.placed (chosen s g) (length g.registers.now) (spans area) (length-map area _) h.placed; within = within };
    }

-- the places of a fold of zones
pub zones_at : (depth : ℕ) (body : Tree) (k : Key) (envs : List (List ℤ)) → IsFoundKey depth body k → All (λ (e : List ℤ). length e ≡ depth) envs → 0 < length envs → AreZonesOf k.fold.now envs k.zones
zones_at depth body k envs h deep some = record { depth = depth; deep = deep; some = some; zoned = h.zoned }

pub points_long : (part : List Axis) → AreOrdered part → All (λ (e : List ℤ). length e ≡ length part) (points part)
points_long part ordered k d lt = inside_long part (get_or (points part) k d) (points_inside part ordered k d lt)

-- ---- outcomes

all_contained : {X : Type 0} (P : X → Type 0) (xs : List X) (x : X) → All P xs → Contains xs x → P x
all_contained P xs x all c = subst P c.2 (all c.0 x c.1)

-- what samples tell is known
pub known_so : {K : Type 0} (s : SourceState K) (g : Ground) (area : List Axis) (k : Key) (samples : List Sample) (outcomes : List Outcome) (pairs : List KnownOutcome) → s.intact → IsFoundKey (length area) (fold_view k.fold.now) k
    → All (IsSampleOf s g area (body_view k.body.now)) samples → outcomes ≡ map (meaning s g (fold_view k.fold.now)) (map point_of samples) → ArePairs samples outcomes pairs
    → All (IsKnownAt (cells_of s.cells g.coverages.now) g.registers.now (length area) (key_in k.zones (fold_view k.fold.now)) (fold_view k.fold.now)) pairs
known_so s g area k samples outcomes pairs i found all is paired n d lt = λ q deep key.
    let body = fold_view k.fold.now in
    let f = meaning s g body in
    let cells = cells_of s.cells g.coverages.now in
    let regs = g.registers.now in
    let p = get_or pairs n d in
    let each = paired.each n d lt in
    let x = each.sample in
    let here : get_or samples each.place x ≡ x = get_or_from_slice_get samples each.place x x each.there in
    let sample : IsSampleOf s g area (body_view k.body.now) x = subst (IsSampleOf s g area (body_view k.body.now)) here (all each.place x each.below) in
    let alone = found.key in
    let same : run cells regs (body_view k.body.now) q ≡ run cells regs (body_view k.body.now) (point_of x) =
    ap (λ t. run cells regs t q) found.is ∙ key ∙ ap Value each.number ∙ sym (sample.number i) in
    let there : outcome_at outcomes each.place ≡ f (point_of x) =
    ap (λ l. outcome_at l each.place) is
    ∙ get_or-map f (map point_of samples) each.place [] (Value (pos 0)) (let m = length-map samples point_of in let b = each.below in omega (arith, m, b))
    ∙ ap f (get_or-map point_of samples each.place x [] each.below ∙ ap point_of here) in
    alone.alone cells regs q (point_of x) deep (inside_long area (point_of x) sample.inside) same ∙ sym there ∙ sym each.outcome

mapped_all : (P : List ℤ → Type 0) (xs : List Sample) → All (λ (x : Sample). P (point_of x)) xs → All P (map point_of xs)
mapped_all P [] h k d lt = absurd (omega arith)
mapped_all P (x ∷ xs) h zero d lt = h 0 x (omega arith)
mapped_all P (x ∷ xs) h (suc k) d lt = mapped_all P xs (λ j e l. h (suc j) e (omega arith)) k d (omega arith)

-- the points of samples lie in the intervals of a box, one coordinate for each axis
pub samples_within : (area : List Axis) (xs : List Sample) → All (λ (x : Sample). IsInside area (point_of x)) xs → All (AreWithin (spans area)) (map point_of xs)
samples_within area xs h = mapped_all (AreWithin (spans area)) xs (λ k d lt. inside_within area (point_of (get_or xs k d)) (h k d lt))

pub samples_long : (area : List Axis) (xs : List Sample) → All (λ (x : Sample). IsInside area (point_of x)) xs → All (λ (e : List ℤ). length e ≡ length area) (map point_of xs)
samples_long area xs h = mapped_all (λ (e : List ℤ). length e ≡ length area) xs (λ k d lt. inside_long area (point_of (get_or xs k d)) (h k d lt))

-- with one more place
below_or : (k n : ℕ) → k < n + 1 → (k < n) ⊎ (k ≡ n)
below_or zero zero lt = inr refl
below_or zero (suc n) lt = inl (omega arith)
below_or (suc k) zero lt = absurd (omega arith)
below_or (suc k) (suc n) lt = elim (below_or k n (omega arith)) [
  | inl a ↦ inl (omega (arith, a))
  | inr e ↦ inr (ap suc e)
]

own_list : {X : Type 0} (xs : List X) → xs ≡ map (λ x. x) xs
own_list [] = refl
own_list (x ∷ xs) = ap (λ l. x ∷ l) (own_list xs)

-- the pair that a search finds
pub found_pair : (known xs : List KnownOutcome) (place : ℕ) (number : ℤ) (k : Outcome) (pair : KnownOutcome) → xs ≡ known → place < length xs → pair ≡ get_or known place pair → Value number ≡ k → ((d : KnownOutcome) → int_cmp (get_or xs place d).number number ≡ Equal)
    → IsKnownPair known k pair.outcome
found_pair known xs place number k pair e lt at is found =
    let there : get_or xs place pair ≡ pair = ap (λ l. get_or l place pair) e ∙ sym at in
    let same = subst (λ (p : KnownOutcome). int_cmp p.number number ≡ Equal) there (found pair) in
    let equal : pair.number ≡ number = int_ranked pair.number number Equal (sym same) in
    record {
      pair = pair;
      there = (place, subst (λ l. place < length l) e lt, sym at);
      key = sym is ∙ ap Value (sym equal);
      outcome = refl;
    }

-- outcomes that are known at each place are those of the body
pub looked_up : {K : Type 0} (s : SourceState K) (g : Ground) (part : List Axis) (k : Key) (known : Known) (keys outcomes : List Outcome) → AreOrdered part → IsFoundKey (length part) (fold_view k.fold.now) k → known.zones ≡ k.zones
    → IsKnownOf (cells_of s.cells g.coverages.now) g.registers.now (length part) (fold_view k.fold.now) known → keys ≡ map (meaning s g (body_view k.body.now)) (points part) → AreKnownPairs known.outcomes.items keys outcomes
    → outcomes ≡ map (meaning s g (fold_view k.fold.now)) (points part)
looked_up s g part k known keys outcomes ordered found zones holds is pairs =
    let body = fold_view k.fold.now in
    let key = body_view k.body.now in
    let f = meaning s g body in
    let cells = cells_of s.cells g.coverages.now in
    let regs = g.registers.now in
    let qs = points part in
    let many : length keys ≡ length qs = ap length is ∙ length-map qs (meaning s g key) in
    let long : length outcomes ≡ length qs = pairs.many ∙ many in
    own_list outcomes
    ∙ by_places (λ o. o) outcomes (Value (pos 0))
    ∙ same_over (outcome_at outcomes) (λ n. f (get_or qs n [])) (length outcomes)
    (λ n lt.
    let below : n < length keys = omega (arith, lt, pairs.many) in
    let within : n < length qs = omega (arith, lt, long) in
    let q = get_or qs n [] in
    let pair = pairs.each n below in
    let one : IsKnownAt cells regs (length part) (key_in known.zones body) body pair.pair = all_contained (IsKnownAt cells regs (length part) (key_in known.zones body) body) known.outcomes.items pair.pair holds pair.there in
    let here : run cells regs (key_in known.zones body) q ≡ Value pair.pair.number =
    ap (λ z. run cells regs (key_in z body) q) zones ∙ sym (ap (λ t. run cells regs t q) found.is)
    ∙ sym (get_or-map (meaning s g key) qs n [] (Value (pos 0)) within) ∙ sym (ap (λ l. outcome_at l n) is) ∙ pair.key in
    sym pair.outcome ∙ sym (one q (points_long part ordered n [] within) here))
    ∙ ap (λ m. map (λ n. f (get_or qs n [])) (range_with_len 0 m)) long
    ∙ sym (by_places f qs [])

-- ---- costs

pub times_least : (a b : ℕ) (e : Tree) → a ≤ b → bound_times a e ≤ bound_times b e
times_least a b e le =
    let s : b ≡ a + (b - a) = omega (arith, le) in
    let m = ap (λ n. bound_times n e) s ∙ times_both a (b - a) e in
    omega (arith, m)

pub no_times : (e : Tree) → bound_times 0 e ≡ 0
no_times e = times_none 0 e

-- a body over a box asks for no more than at each of its points
pub bound_few : (cs : ℕ → Option Signature) (box : List Axis) (e : Tree) → bound_of cs box e ≤ bound_times (count box) e
bound_few cs box e =
    let a = fetches_bound cs box e in
    let b = times_few cs (length box) (points box) e in
    let c = ap (λ n. bound_times n e) (length-points box) in
    omega (arith, a, b, c)

-- all that is done with a key costs no more than the body at the points of a part
pub pays_off : (depth times : ℕ) (body key : Tree) (area part : List Axis) → IsKeyOf depth body key times → Pays times area part → bound_times (count area + 12288) key + bound_times 2 body ≤ bound_times (count part) body
pays_off depth times body key area part h pays =
    let m = count part - 2 in
    let some = pays.some in
    let a = times_least (count area + 12288) (m * times) key pays.cheap in
    let b = h.dearer m in
    let c : count part ≡ m + 2 = omega (arith, some) in
    let d = ap (λ n. bound_times n body) c ∙ times_both m 2 body in
    omega (arith, a, b, d)

one_sum : (b : Tree → ℕ) (t : Tree) → sum_by b (t ∷ []) ≡ b t
one_sum b t = omega arith

-- the bodies of an item of one field
pub one_body : (i : Item) (field : Field) (b : Tree → ℕ) → i.binds.items ≡ [] → i.fields.items ≡ field ∷ [] → sum_by b (bodies_of (item (item_view i))) ≡ b (body_view field.body)
one_body i field b binds fields =
    ap (λ l. sum_by b (map (λ x. x.position) (map bind_view l) ++ map (λ x. x.body) (map field_view i.fields.items))) binds
    ∙ ap (λ l. sum_by b (map (λ x. x.body) (map field_view l))) fields
    ∙ one_sum b (body_view field.body)

-- ---- items of one field

-- what is known of the item is known of its body
pub of_body : {K : Type 0} (s : SourceState K) (g : Ground) (i : Item) (field : Field) (body : Tree) (known : Option Known) → i.fields.items ≡ field ∷ [] → body ≡ body_view field.body → (s.intact → IsKnown (cells_of s.cells g.coverages.now) g.registers.now (item_view i) known)
    → KnowsBody s g (length i.domain) body known
of_body s g i field body None fields is h = λ intact. tt
of_body s g i field body (Some k) fields is h = λ intact.
    let cells = cells_of s.cells g.coverages.now in
    let all : All (λ (f : FieldBody). IsKnownOf cells g.registers.now (length i.domain) f.body k) (field_view field ∷ []) = subst (λ l. All (λ (f : FieldBody). IsKnownOf cells g.registers.now (length i.domain) f.body k) (map field_view l)) fields (h intact) in
    subst (λ t. IsKnownOf cells g.registers.now (length i.domain) t k) (sym is) (all 0 (field_view field) (omega arith))

one_field : (P : FieldBody → Type 0) (f : FieldBody) → P f → All P (f ∷ [])
one_field P f h zero d lt = h
one_field P f h (suc n) d lt = absurd (omega arith)

-- what was found is known, else what was known before
pub known_now : {K : Type 0} (s : SourceState K) (g : Ground) (depth : ℕ) (body : Tree) (found now before : Option Known) → IfSome found (λ k. now ≡ Some k) → IfNone found (now ≡ before) → KnowsBody s g depth body found → KnowsBody s g depth body before → KnowsBody s g depth body now
known_now s g depth body None now before a b f h = subst (KnowsBody s g depth body) (sym b) h
known_now s g depth body (Some k) now before a b f h = subst (KnowsBody s g depth body) (sym a) f

-- ---- another moment of the source

pub knows_later : {K : Type 0} (s now : SourceState K) (g : Ground) (depth : ℕ) (body : Tree) (known : Option Known) → now.cells ≡ s.cells → s.intact → KnowsBody s g depth body known → KnowsBody now g depth body known
knows_later s now g depth body known same i h = λ _. subst (λ c. IfSome known (IsKnownOf (cells_of c g.coverages.now) g.registers.now depth body)) (sym same) (h i)

pub samples_later : {K : Type 0} (s now : SourceState K) (g : Ground) (area : List Axis) (key : Tree) (xs : List Sample) → now.cells ≡ s.cells → s.intact → All (IsSampleOf s g area key) xs → All (IsSampleOf now g area key) xs
samples_later s now g area key xs same i h = λ k d lt.
    let x = get_or xs k d in
    let one = h k d lt in
    record { inside = one.inside; number = λ _. subst (λ c. run (cells_of c g.coverages.now) g.registers.now key (point_of x) ≡ Value x.number) (sym same) (one.number i) }

pub column_before : {K : Type 0} (s now : SourceState K) (g : Ground) (body : Tree) (envs : List (List ℤ)) (column : List Outcome) → now.cells ≡ s.cells → column ≡ map (meaning now g body) envs → column ≡ map (meaning s g body) envs
column_before s now g body envs column same h = subst (λ c. column ≡ map (run (cells_of c g.coverages.now) g.registers.now body) envs) same h

pub keyed_later : {K : Type 0} (s now : SourceState K) (g : Ground) (area : List Axis) (k : Key) → now.coverages ≡ s.coverages → IsKeyedOver s g area k → IsKeyedOver now g area k
keyed_later s now g area k same h = record {
  found = h.found;
  placed = subst (λ all. IsPlaced (signature_of all g.coverages.now) (length g.registers.now) (spans area) (fold_view k.fold.now)) (sym same) h.placed;
}

-- the key's evaluations by the tree that was found
pub key_times : (depth n : ℕ) (body : Tree) (k : Key) → IsFoundKey depth body k → fold_view k.fold.now ≡ body → bound_times n (key_in k.zones (fold_view k.fold.now)) ≡ bound_times n (body_view k.body.now)
key_times depth n body k h is = ap (λ t. bound_times n (key_in k.zones t)) is ∙ ap (bound_times n) (sym h.is)

pub knows_before : {K : Type 0} (s now : SourceState K) (g : Ground) (depth : ℕ) (body : Tree) (known : Option Known) → now.cells ≡ s.cells → (s.intact → now.intact) → (s.intact → KnowsBody now g depth body known) → KnowsBody s g depth body known
knows_before s now g depth body known same intact h = λ i. subst (λ c. IfSome known (IsKnownOf (cells_of c g.coverages.now) g.registers.now depth body)) same (h i (intact i))

-- ---- the key of an item

pub item_cost : (cs : ℕ → Option Signature) (i : Item) (area part : List Axis) (k : Key) → IsKeyOfItem i part k → area ≡ i.domain
    → bound_times (count area + 12288) (body_view k.body.now) + bound_times 2 (fold_view k.fold.now) ≤ sum_by (bound_of cs part) (bodies_of (item (item_view i)))
item_cost cs i area part k h same =
    let found = h.found in
    let body = fold_view k.fold.now in
    let key = found.key in
    let a = ap (λ a. bound_times (count a + 12288) (body_view k.body.now)) same in
    let b = pays_off (length i.domain) k.times (body_view h.field.body) (body_view k.body.now) i.domain part key h.pays in
    let c = ap (bound_times 2) found.fold in
    let d : bound_times (count part) (body_view h.field.body) ≡ bound_of cs part (body_view h.field.body) = subst (λ t. bound_times (count part) t ≡ bound_of cs part t) found.fold refl in
    let e = one_body i h.field (bound_of cs part) h.binds h.fields in
    omega (arith, a, b, c, d, e)

pub columns_known : {K : Type 0} (s : SourceState K) (g : Ground) (i : Item) (part : List Axis) (k : Key) (columns : List (List Outcome)) → IsKeyOfItem i part k → columns ≡ map (meaning s g (fold_view k.fold.now)) (points part) ∷ []
    → columns ≡ columns_behind (cells_of s.cells g.coverages.now) g.registers.now (map bind_view i.binds.items) (map field_view i.fields.items) (points part)
columns_known s g i part k columns h is =
    let cells = cells_of s.cells g.coverages.now in
    let regs = g.registers.now in
    let found = h.found in
    is
    ∙ ap (λ t. map (run cells regs t) (points part) ∷ []) found.fold
    ∙ ap (λ l. columns_behind cells regs [] (map field_view l) (points part)) (sym h.fields)
    ∙ ap (λ l. columns_behind cells regs (map bind_view l) (map field_view i.fields.items) (points part)) (sym h.binds)

-- what is known of a tile's column at the next moment of the source
pub keyed_column_so : {K : Type 0} (s now : SourceState K) (g : Ground) (area part : List Axis) (k : Key) (found is before : Option Known) (column : List Outcome) → now.cells ≡ s.cells → s.intact → now.intact → IsBoxOf area part
    → IfSome found (λ f. is ≡ Some f) → IfNone found (is ≡ before) → KnowsBody s g (length area) (fold_view k.fold.now) found → KnowsBody s g (length area) (fold_view k.fold.now) before
    → IsColumnBy now g part k is column → column ≡ map (meaning s g (fold_view k.fold.now)) (points part)
keyed_column_so s now g area part k found is before column same i later box a b f h c =
    let body = fold_view k.fold.now in
    let knows = known_now now g (length area) body found is before a b (knows_later s now g (length area) body found same i f) (knows_later s now g (length area) body before same i h) in
    column_before s now g body (points part) column same (c (subst (λ n. KnowsBody now g n body is) (sym (box_long area part box)) knows) later)

-- at the first tile: the key at each point of the box and of the samples, and twice at those of the tile
pub all_costs : (area part : List Axis) (k : Key) → count part ≤ 4096
    → (bound_times (count area + 4096) (body_view k.body.now) + bound_times 1 (fold_view k.fold.now)) + (bound_times (count part + count part) (body_view k.body.now) + bound_times 1 (fold_view k.fold.now))
    ≤ bound_times (count area + 12288) (body_view k.body.now) + bound_times 2 (fold_view k.fold.now)
all_costs area part k few =
    let key = body_view k.body.now in
    let body = fold_view k.fold.now in
    let a = times_both (count area + 4096) (count part + count part) key in
    let b = times_least ((count area + 4096) + (count part + count part)) (count area + 12288) key (omega (arith, few)) in
    let c = times_both 1 1 body in
    omega (arith, a, b, c)
