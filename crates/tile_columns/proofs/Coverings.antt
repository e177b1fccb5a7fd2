-- Tiles over whose boxes indexes turn, axis by axis.
use Rattle.std.proofs.Common.{◌≡◌, ℕ, ◌+◌, ◌*◌, ◌/◌, ◌%◌, ◌<◌, List, [], ◌∷◌, length, sym, ap, ◌∙◌, subst, arith, pos, ◌+ℤ◌}
use Rattle.std.proofs.lemmas.Nat.{div-mul-add, mod-mul-add}
use Rattle.arr_core.specs.declared.domain.Axis.{Axis}
use Rattle.arr_core.specs.Domains.{gap, size_of, points, count}
use Rattle.arr_core.specs.Tiles.{edge_of, grid, part_of}
use Rattle.arr_core.proofs.Points.{place_below}
use Rattle.arr_core.proofs.Grids.{size-cell, get_or-tile_boxes, length-tile_boxes}
use Rattle.plan_ir.specs.declared.body.Index.{Index}
use Rattle.plan_ir.specs.Run.{numbers_at}
use Rattle.tile_columns.specs.declared.frame.Variable.{Variable}
use Rattle.tile_columns.specs.declared.covering.AxisPart.{AxisPart}
use Rattle.tile_columns.specs.declared.covering.Covered.{Covered}
use Rattle.tile_columns.specs.Frames.{environment, environments, turn, turns}
use Rattle.tile_columns.specs.Covering.{TurnsAlong, box_of_tile, TurnsOver, GoesOver}
use Rattle.tile_columns.proofs.Turns.{over_points}

-- the box of a tile of one more axis
pub in_front : (edge : ℕ) (a : Axis) (rest : List Axis) (place n : ℕ) → n < count (grid edge rest) → box_of_tile edge (a ∷ rest) (place * count (grid edge rest) + n) ≡ part_of edge a (pos place) ∷ box_of_tile edge rest n
in_front edge a rest place n lt =
    let t = count (grid edge rest) in
    let q : (place * t + n) / t ≡ place = div-mul-add place t n lt in
    let r : (place * t + n) % t ≡ n = mod-mul-add place t n lt in
    let zero : 0 + place ≡ place = omega arith in
    ap (λ m. part_of edge a (pos 0 +ℤ pos m) ∷ box_of_tile edge rest ((place * t + n) % t)) q
    ∙ ap (λ m. part_of edge a (pos m) ∷ box_of_tile edge rest ((place * t + n) % t)) zero
    ∙ ap (λ m. part_of edge a (pos place) ∷ box_of_tile edge rest m) r

-- an index more turns over a tile of an axis more
pub turns_more : (edge : ℕ) (vs : List Variable) (axes rest : List Axis) (a : Axis) (is further : List Index) (i : Index) (s : AxisPart) (b t : Covered) → axes ≡ a ∷ rest → is ≡ i ∷ further → TurnsOver edge vs further rest b → TurnsAlong edge a vs i b.points s
    → t.number ≡ s.place * b.tiles + b.number → t.tiles ≡ (gap a.lo a.hi / edge + 1) * b.tiles → t.points ≡ s.size * b.points → TurnsOver edge vs is axes t
turns_more edge vs axes rest a is further i s b t e f behind along n ts ps =
    let c = count (grid edge rest) in
    let low : b.number < c = subst (λ m. b.number < m) behind.tiles behind.number in
    let box : box_of_tile edge axes t.number ≡ part_of edge a (pos s.place) ∷ box_of_tile edge rest b.number =
    ap (λ x. box_of_tile edge x t.number) e ∙ ap (box_of_tile edge (a ∷ rest)) (n ∙ ap (λ m. s.place * m + b.number) behind.tiles) ∙ in_front edge a rest s.place b.number low in
    record {
      tiles = ts ∙ ap (λ m. (gap a.lo a.hi / edge + 1) * m) behind.tiles ∙ ap (λ m. m * c) (sym (size-cell edge a)) ∙ ap (λ x. count (grid edge x)) (sym e);
      number = subst (λ m. m < t.tiles) (sym n) (subst (λ m. s.place * b.tiles + b.number < m) (sym ts) (place_below s.place (gap a.lo a.hi / edge + 1) b.tiles b.number (omega (arith, along.within)) behind.number));
      points = ps ∙ ap (λ m. m * b.points) along.size ∙ ap (λ m. size_of (part_of edge a (pos s.place)) * m) behind.points ∙ ap count (sym box);
      turns = λ k. ap (numbers_at (environment vs k)) f
          ∙ ap (λ z. z ∷ numbers_at (environment vs k) further) (along.turns k ∙ ap (λ m. turn (part_of edge a (pos s.place)).lo (part_of edge a (pos s.place)).hi m k) behind.points)
          ∙ ap (λ zs. turn (part_of edge a (pos s.place)).lo (part_of edge a (pos s.place)).hi (count (box_of_tile edge rest b.number)) k ∷ zs) (behind.turns k)
          ∙ ap (λ x. turns x k) (sym box);
    }

-- as many places as points
pub covers : (axes : List Axis) (vs : List Variable) (is : List Index) (places : ℕ) (t : Covered) → TurnsOver (edge_of (length axes)) vs is axes t → t.points ≡ places → GoesOver axes is (environments places vs) t.number
covers axes vs is places t over e =
    let edge = edge_of (length axes) in
    let low : t.number < count (grid edge axes) = subst (λ m. t.number < m) over.tiles over.number in
    let box = get_or-tile_boxes axes t.number [] low in (
      omega (arith, low, length-tile_boxes axes),
      over_points (box_of_tile edge axes t.number) is places vs (sym e ∙ over.points) over.turns ∙ ap points (sym box),
    )
