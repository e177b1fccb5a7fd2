-- After the exchange the values and the counts are those of the runs, or the cells stand at their places.
use Rattle.std.proofs.Common.{◌≡◌, ◌∙◌, ℤ, List, length, map, min, take, ap, sym, subst, arith, take_all, refl}
use Rattle.std.specs.Prelude.{Vec, vec_capacity, ℕ, sum}
use Rattle.std.specs.declared.alloc.Global.{Global}
use Rattle.std.proofs.lemmas.List.{nil_from_length}
use Rattle.arr_core.specs.Runs.{spread, runs_of}
use Rattle.wcps_mean.specs.declared.cell.Outcome.TheVariants.{Value}
use Rattle.tile_kernel.proofs.Places.{written_back}
use Rattle.tile_kernel.proofs.Repeats.{runs_exchanged, runs_covered, runs_written, sum_front}
use Rattle.tile_kernel.proofs.column.Column.exchange_wide.Goals as goal

pub returns-then-runs-eq0-clause-value : goal.returns-then-runs-eq0-clause-value
returns-then-runs-eq0-clause-value c =
    let zs = c.args.cells.now.values.items in
    let counts = c.args.cells.now.counts.items in
    let same : c.swap.new.x.items ≡ zs = ap (λ (v : Vec ℤ Global). v.items) c.swap.ensures.x_after in
    let none : length counts ≡ 0 = omega (arith, c.len.ensures, c.min-runs.ensures, c.if-runs-eq0.true, c.args.cells.now.counts.ok.0) in
    ap (λ (l : List ℤ). map Value l) (take_all 4096 c.swap.new.x.items (omega (arith, ap length same, c.requires.room)) ∙ same ∙ sym (ap (runs_of zs) (nil_from_length counts none)))

pub invariant_of-self-then-copy_counts : goal.invariant_of-self-then-copy_counts
invariant_of-self-then-copy_counts c =
    let zs = c.args.cells.now.values.items in
    let counts = c.args.cells.now.counts.items in
    let r = c.min-runs.result in
    let few : r ≡ min (length counts) 4096 = omega (arith, c.len.ensures, c.min-runs.ensures, c.args.cells.now.counts.ok.0) in
    let kept : c.copy_counts.new.all.items ≡ take r counts = c.if-copy_counts.ensures refl ∙ ap (take r) c.deref.ensures.value in
    let long : length c.swap-then-copy_counts.new.x.items ≡ 4096 = ap (λ (v : Vec ℤ Global). length v.items) c.swap-then-copy_counts.ensures.x_after ∙ c.requires.room in
    record {
      roomy = record { few = omega arith; values = omega (arith, long); faults = omega (arith, c.grow-2.ensures.long); narrow = tt };
      covered = runs_covered r zs counts c.copy_counts.new.all.items c.requires.room c.requires.places few c.if-runs-eq0.false kept;
      whole = (long, omega (arith, c.grow-2.ensures.long));
      few_values = omega (arith, long);
      value_room = omega (arith, ap (λ (v : Vec ℤ Global). vec_capacity v) c.swap-then-copy_counts.ensures.x_after, c.requires.room, c.args.cells.now.values.ok);
      fault_room = omega (arith, c.grow-2.ensures.room, c.self.invariant.fault_room);
    }

pub returns-then-copy_counts-clause-value : goal.returns-then-copy_counts-clause-value
returns-then-copy_counts-clause-value c =
    let zs = c.args.cells.now.values.items in
    let counts = c.args.cells.now.counts.items in
    let r = c.min-runs.result in
    let few : r ≡ min (length counts) 4096 = omega (arith, c.len.ensures, c.min-runs.ensures, c.args.cells.now.counts.ok.0) in
    let kept : c.copy_counts.new.all.items ≡ take r counts = c.if-copy_counts.ensures refl ∙ ap (take r) c.deref.ensures.value in
    let same : c.swap-then-copy_counts.new.x.items ≡ zs = ap (λ (v : Vec ℤ Global). v.items) c.swap-then-copy_counts.ensures.x_after in
    runs_exchanged r c.swap-then-copy_counts.new.x.items c.self.inside.faults.items c.self.inside.narrow.items counts c.copy_counts.new.all.items (ap length same ∙ c.requires.room) few c.if-runs-eq0.false kept
    ∙ ap (λ (l : List ℤ). map Value (runs_of l counts)) same

pub spread_over-requires-clause-room : goal.spread_over-requires-clause-room
spread_over-requires-clause-room c =
    let zs = c.args.cells.now.values.items in
    let counts = c.args.cells.now.counts.items in
    let r = c.min-runs.result in
    let few : r ≡ min (length counts) 4096 = omega (arith, c.len.ensures, c.min-runs.ensures, c.args.cells.now.counts.ok.0) in
    let all : sum (take r c.deref-3.result.now) ≡ 4096 = ap (λ (cs : List ℕ). sum (take r cs)) c.deref-3.ensures.value ∙ sum_front r zs counts c.requires.room c.requires.places few c.if-runs-eq0.false in
    let room : length c.as_mut_slice.result.now ≡ 4096 = omega (arith, ap length c.as_mut_slice.ensures.value, c.grow.ensures.long, c.self.invariant.few_values) in
    omega (arith, all, room)

pub returns-clause-value : goal.returns-clause-value
returns-clause-value c =
    let zs = c.args.cells.now.values.items in
    let counts = c.args.cells.now.counts.items in
    let r = c.min-runs.result in
    let out = c.spread_over.new.out in
    let few : r ≡ min (length counts) 4096 = omega (arith, c.len.ensures, c.min-runs.ensures, c.args.cells.now.counts.ok.0) in
    let written : take (sum (take r counts)) out ≡ spread (take (length (take r counts)) zs) (take r counts) =
    subst (λ (l : List ℤ). take (sum (take r counts)) out ≡ spread (take (length (take r counts)) l) (take r counts)) c.deref-2.ensures.value
    (subst (λ (cs : List ℕ). take (sum (take r cs)) out ≡ spread (take (length (take r cs)) c.deref-2.result.now) (take r cs)) c.deref-3.ensures.value c.spread_over.ensures.front) in
    ap (λ (l : List ℤ). map Value (take 4096 l)) (written_back c.grow.new.list.len out _ (omega (arith, c.spread_over.ensures.length, c.as_mut_slice.ensures.len)))
    ∙ runs_written r zs out counts c.requires.room c.requires.places few c.if-runs-eq0.false written
