-- Variables that turn over the box of a tile, axis by axis.
use Rattle.std.proofs.Common.{◌≡◌, ℕ, ◌+◌, ◌*◌, ◌/◌, ◌%◌, ◌<◌, ◌≤◌, List, [], ◌∷◌, ◌++◌, length, refl, sym, ap, ◌∙◌, subst, arith, append_assoc, ℤ, pos}
use Rattle.std.specs.List.{All}
use Rattle.std.proofs.Math.ListN.{set}
use Rattle.std.proofs.Math.Seq.{set-append_seam}
use Rattle.std.proofs.Math.Arith.{mod-mul}
use Rattle.std.proofs.Math.Nat.{mod-lt, mod-eq_of_lt, div-div-eq-div-mul, div-mul-le_self, mul-le-mul_right}
use Rattle.std.proofs.lemmas.List.{map-id}
use Rattle.std.proofs.lemmas.List.Elements.{All-cons, All-nil}
use Rattle.arr_core.specs.declared.domain.Axis.{Axis}
use Rattle.arr_core.specs.Domains.{gap, size_of, points, count, AreOrdered, IsDomain, IsBoxOf, point_at}
use Rattle.arr_core.specs.Tiles.{edge_of, grid, part_of, box_at, tile_boxes, tile_box}
use Rattle.arr_core.proofs.Points.{count-pos, point-inside}
use Rattle.arr_core.proofs.Grids.{mul-mono, size-cell, get_or-tile_boxes, length-tile_boxes, ordered-grid, edge-some}
use Rattle.arr_core.proofs.Boxes.{IsDomain-box, IsBoxOf-box, tile-small}
use Rattle.tile_columns.specs.declared.frame.Variable.{Variable}
use Rattle.tile_columns.specs.declared.frame.Variable.TheVariants as variable
use Rattle.tile_columns.specs.declared.tiling.Behind.{Behind}
use Rattle.tile_columns.specs.Frames.{environment, environments, turn, turns, HasPlaces}
use Rattle.tile_columns.specs.Covering.{box_of_tile}
use Rattle.tile_columns.specs.Tiling.{variables_of, last_box, AddsTile}
use Rattle.tile_columns.proofs.Turns.{box_under}
use Rattle.tile_columns.proofs.Coverings.{in_front}

-- the box along one more axis
pub box_more : (edge : ℕ) (a : Axis) (rest : List Axis) (number : ℕ) → last_box edge (a ∷ rest) number ≡ part_of edge a (pos (number / count (grid edge rest) % (gap a.lo a.hi / edge + 1))) ∷ last_box edge rest number
box_more edge a rest number =
    let t = count (grid edge rest) in
    let m = gap a.lo a.hi / edge + 1 in
    let some : 0 < t = count-pos (grid edge rest) in
    let more : 0 < m = omega arith in
    ap (λ k. box_of_tile edge (a ∷ rest) (number % (k * t))) (size-cell edge a)
    ∙ ap (box_of_tile edge (a ∷ rest)) (mod-mul number more some)
    ∙ in_front edge a rest (number / t % m) (number % t) (mod-lt number some)

-- the tiles of one more axis
ahead_more : (edge : ℕ) (a : Axis) (rest : List Axis) (number : ℕ) → number / count (grid edge rest) / (gap a.lo a.hi / edge + 1) ≡ number / count (grid edge (a ∷ rest))
ahead_more edge a rest number =
    let t = count (grid edge rest) in
    let m = gap a.lo a.hi / edge + 1 in
    let turned : t * m ≡ m * t = omega arith in
    div-div-eq-div-mul number t m ∙ ap (λ k. number / k) turned ∙ ap (λ k. number / (k * t)) (sym (size-cell edge a))

-- a box has no more points than the axes
pub part_small : (axes rest : List Axis) (a : Axis) (d n : ℕ) → axes ≡ a ∷ rest → d ≤ gap a.lo a.hi → n ≤ count rest → (d + 1) * n ≤ count axes
part_small axes rest a d n e h k = subst (λ x. (d + 1) * n ≤ count x) (sym e) (mul-mono (d + 1) (size_of a) n (count rest) (omega arith) k)

-- the part of an axis that a tile has begins within it
pub place_within : (edge ahead along hi : ℕ) → 0 < edge → along ≡ hi / edge + 1 → ahead % along * edge ≤ hi
place_within edge ahead along hi some e =
    let low : ahead % along < along = mod-lt ahead (omega arith) in
    let less : ahead % along * edge ≤ hi / edge * edge = mul-le-mul_right edge (omega arith) in
    omega (arith, less, div-mul-le_self hi edge)

-- the variable of one more axis, in the place that was kept for it
pub adds_more : (edge : ℕ) (axes rest : List Axis) (a : Axis) (number level along : ℕ) (lo hi : ℤ) (old one two new : List Variable) (b r : Behind) → axes ≡ a ∷ rest → one ≡ old ++ variable.Const (pos 0) ∷ [] → AddsTile edge rest number one two b
    → level ≡ length old → along ≡ gap a.lo a.hi / edge + 1 → lo ≡ (part_of edge a (pos (b.ahead % along))).lo → hi ≡ (part_of edge a (pos (b.ahead % along))).hi
    → new ≡ set two level (variable.Axis lo hi b.points) → r.ahead ≡ b.ahead / along → r.points ≡ (gap lo hi + 1) * b.points → AddsTile edge axes number old new r
adds_more edge axes rest a number level along lo hi old one two new b r e o behind l w low high n ahead ps =
    let t = count (grid edge rest) in
    let m = gap a.lo a.hi / edge + 1 in
    let box = last_box edge rest number in
    let place : b.ahead % along ≡ number / t % m = ap (λ k. k % along) behind.ahead ∙ ap (λ k. number / t % k) w in
    let first : lo ≡ (part_of edge a (pos (number / t % m))).lo = low ∙ ap (λ k. (part_of edge a (pos k)).lo) place in
    let last : hi ≡ (part_of edge a (pos (number / t % m))).hi = high ∙ ap (λ k. (part_of edge a (pos k)).hi) place in
    let part = part_of edge a (pos (number / t % m)) in
    let whole : part ∷ box ≡ last_box edge axes number = sym (box_more edge a rest number) ∙ ap (λ x. last_box edge x number) (sym e) in
    let v : variable.Axis lo hi b.points ≡ variable.Axis part.lo part.hi (count box) =
    ap (λ z. variable.Axis z hi b.points) first ∙ ap (λ z. variable.Axis part.lo z b.points) last ∙ ap (λ k. variable.Axis part.lo part.hi k) behind.points in
    let there : two ≡ old ++ variable.Const (pos 0) ∷ variables_of box =
    behind.items ∙ ap (λ l. l ++ variables_of box) o ∙ append_assoc old (variable.Const (pos 0) ∷ []) (variables_of box) in
    record {
      items = n ∙ ap (λ l. set l level (variable.Axis lo hi b.points)) there ∙ ap (λ k. set (old ++ variable.Const (pos 0) ∷ variables_of box) k (variable.Axis lo hi b.points)) l
          ∙ set-append_seam old (variable.Const (pos 0)) (variables_of box) (variable.Axis lo hi b.points)
          ∙ ap (λ x. old ++ x ∷ variables_of box) v ∙ ap (λ x. old ++ variables_of x) whole;
      ahead = ahead ∙ ap (λ k. k / along) behind.ahead ∙ ap (λ k. number / t / k) w ∙ ahead_more edge a rest number ∙ ap (λ x. number / count (grid edge x)) (sym e);
      points = ps ∙ ap (λ k. (gap lo hi + 1) * k) behind.points ∙ ap (λ z. (gap z hi + 1) * count box) first ∙ ap (λ z. (gap part.lo z + 1) * count box) last ∙ ap count whole;
    }

-- the variables of a box turn over it
pub box_turns : (axes : List Axis) (place : ℕ) → environment (variables_of axes) place ≡ turns axes place
box_turns [] place = refl
box_turns (a ∷ axes) place = ap (λ l. turn a.lo a.hi (count axes) place ∷ l) (box_turns axes place)

pub box_whole : (n : ℕ) (axes : List Axis) → AreOrdered axes → All (HasPlaces n) (variables_of axes)
box_whole n [] o = All-nil (HasPlaces n)
box_whole n (a ∷ axes) o = All-cons (HasPlaces n) (variable.Axis a.lo a.hi (count axes)) (variables_of axes) (o.0, count-pos axes) (box_whole n axes o.1)

-- the box of a tile is one of the domain, and small
pub record IsTileBox (axes : List Axis) (n : ℕ) : Type 0 where
  pub box : last_box (edge_of (length axes)) axes n ≡ tile_box axes n
  pub inside : IsBoxOf axes (tile_box axes n)
  pub ordered : AreOrdered (tile_box axes n)
  pub few : count (tile_box axes n) ≤ 4096

pub tile_is : (axes : List Axis) (n : ℕ) → IsDomain axes → n < length (tile_boxes axes) → IsTileBox axes n
tile_is axes n d lt =
    let edge = edge_of (length axes) in
    let cells = grid edge axes in
    let some = edge-some (length axes) in
    let below : n < count cells = omega (arith, lt, length-tile_boxes axes) in
    let within = point-inside cells n below (ordered-grid edge axes) in
    let at : tile_box axes n ≡ box_at edge axes (point_at cells n) = get_or-tile_boxes axes n [] below in
    record {
      box = ap (box_of_tile edge axes) (mod-eq_of_lt below) ∙ sym at;
      inside = subst (IsBoxOf axes) (sym at) (IsBoxOf-box edge axes (point_at cells n) some d.ordered within);
      ordered = subst AreOrdered (sym at) (IsDomain-box edge axes (point_at cells n) some d within).ordered;
      few = subst (λ b. count b ≤ 4096) (sym at) (tile-small axes (point_at cells n) some d within);
    }

-- variables that were added for a tile are a frame over its box
pub record IsOverTile (domain : List Axis) (tile : ℕ) (variables : List Variable) (n : ℕ) : Type 0 where
  pub shown : environments n variables ≡ points (tile_box domain tile)
  pub few : n ≤ 4096
  pub whole : All (HasPlaces n) variables

pub over_tile : (domain axes : List Axis) (tile edge : ℕ) (old new : List Variable) (b : Behind) → IsDomain domain → tile < length (tile_boxes domain) → axes ≡ domain → edge ≡ edge_of (length domain) → old ≡ [] → AddsTile edge axes tile old new b → IsOverTile domain tile new b.points
over_tile domain axes tile edge old new b d lt e w o added =
    let it = tile_is domain tile d lt in
    let box = tile_box domain tile in
    let here : last_box edge axes tile ≡ box = ap (λ x. last_box edge x tile) e ∙ ap (λ k. last_box k domain tile) w ∙ it.box in
    let items : new ≡ variables_of box = added.items ∙ ap (λ l. l ++ variables_of (last_box edge axes tile)) o ∙ ap variables_of here in
    let n : b.points ≡ count box = added.points ∙ ap count here in
    record {
      shown = box_under box [] b.points new n (λ k. ap (λ l. environment l k) items ∙ box_turns box k) ∙ map-id (points box);
      few = omega (arith, n, it.few);
      whole = subst (All (HasPlaces b.points)) (sym items) (box_whole b.points box it.ordered);
    }
