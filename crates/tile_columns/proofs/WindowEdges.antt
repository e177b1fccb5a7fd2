-- The edges of windows in any order.
use Rattle.std.proofs.Common.{◌≡◌, ℕ, ◌+◌, ℤ, pos, ◌+ℤ◌, int_le, List, get_or, Bool, true, false, cond, refl, sym, ap, ◌∙◌}
use Rattle.std.specs.Prelude.{◌||◌}
use Rattle.wcps_text.specs.declared.operator.BinaryOperator.TheVariants.{LessEqual, GreaterEqual, And}
use Rattle.wcps_mean.specs.declared.cell.PointFault.TheVariants.{Overflow}
use Rattle.wcps_mean.specs.declared.cell.Outcome.{Outcome}
use Rattle.wcps_mean.specs.declared.cell.Outcome.TheVariants.{Value, Fault}
use Rattle.wcps_mean.specs.Cells.{operate2, fits_64, truth}
use Rattle.plan_ir.specs.Bodies.{Tree, op2}
use Rattle.plan_ir.specs.Run.{run}
use Rattle.tile_columns.specs.declared.pattern.Pattern.{Pattern}
use Rattle.tile_columns.specs.declared.pattern.Edges.{Edges}
use Rattle.tile_columns.specs.Windows.{Means, low_edge, high_edge, asked, some_edges, either_edges}

-- what an edge gives: its sum overflows, or it is met or not
data Mark : Type 0 where
  over : Mark
  no : Mark
  yes : Mark

abbrev shown : Mark → Outcome
shown over = Fault Overflow
shown no = truth false
shown yes = truth true

-- of two edges
abbrev meet : Mark → Mark → Mark
meet over b = over
meet no over = over
meet no no = no
meet no yes = no
meet yes b = b

meet_shown : (a b : Mark) → operate2 And (shown a) (shown b) ≡ shown (meet a b)
meet_shown over b = refl
meet_shown no over = refl
meet_shown no no = refl
meet_shown no yes = refl
meet_shown yes over = refl
meet_shown yes no = refl
meet_shown yes yes = refl

meet_yes : (a : Mark) → meet a yes ≡ a
meet_yes over = refl
meet_yes no = refl
meet_yes yes = refl

meet_same : (a : Mark) → meet a a ≡ a
meet_same over = refl
meet_same no = refl
meet_same yes = refl

meet_turned : (a b : Mark) → meet a b ≡ meet b a
meet_turned over over = refl
meet_turned over no = refl
meet_turned over yes = refl
meet_turned no over = refl
meet_turned no no = refl
meet_turned no yes = refl
meet_turned yes b = sym (meet_yes b)

meet_grouped : (a b c : Mark) → meet (meet a b) c ≡ meet a (meet b c)
meet_grouped over b c = refl
meet_grouped no over c = refl
meet_grouped no no over = refl
meet_grouped no no no = refl
meet_grouped no no yes = refl
meet_grouped no yes c = refl
meet_grouped yes b c = refl

meet_crossed : (a b c d : Mark) → meet (meet a b) (meet c d) ≡ meet (meet a c) (meet b d)
meet_crossed a b c d =
    meet_grouped a b (meet c d)
    ∙ ap (meet a) (sym (meet_grouped b c d) ∙ ap (λ m. meet m d) (meet_turned b c) ∙ meet_grouped c b d)
    ∙ sym (meet_grouped a c (meet b d))

joined : (o : Outcome) (a : Mark) (p : Outcome) (b : Mark) → o ≡ shown a → p ≡ shown b → operate2 And o p ≡ shown (meet a b)
joined o a p b h k = ap (λ o. operate2 And o p) h ∙ ap (operate2 And (shown a)) k ∙ meet_shown a b

-- an edge that is asked for
abbrev chosen : Bool → Mark → Mark
chosen true a = a
chosen false a = yes

chosen_shown : (f : Bool) (a : Mark) → asked f (shown a) ≡ shown (chosen f a)
chosen_shown true a = refl
chosen_shown false a = refl

chosen_either : (f g : Bool) (a : Mark) → meet (chosen f a) (chosen g a) ≡ chosen (f || g) a
chosen_either true true a = meet_same a
chosen_either true false a = meet_yes a
chosen_either false g a = refl

-- the marks of all four edges at variables
record Marks : Type 0 where
  row_low : Mark
  row_high : Mark
  column_low : Mark
  column_high : Mark

abbrev all_chosen : Edges → Marks → Mark
all_chosen f m = meet (meet (meet (chosen f.row_low m.row_low) (chosen f.row_high m.row_high)) (chosen f.column_low m.column_low)) (chosen f.column_high m.column_high)

all_either : (f g : Edges) (m : Marks) → meet (all_chosen f m) (all_chosen g m) ≡ all_chosen (either_edges f g) m
all_either f g m =
    meet_crossed _ (chosen f.column_high m.column_high) _ (chosen g.column_high m.column_high)
    ∙ ap (λ x. meet x (meet (chosen f.column_high m.column_high) (chosen g.column_high m.column_high)))
    (meet_crossed _ (chosen f.column_low m.column_low) _ (chosen g.column_low m.column_low)
    ∙ ap (λ x. meet x (meet (chosen f.column_low m.column_low) (chosen g.column_low m.column_low)))
    (meet_crossed (chosen f.row_low m.row_low) (chosen f.row_high m.row_high) (chosen g.row_low m.row_low) (chosen g.row_high m.row_high)
    ∙ ap (λ x. meet x (meet (chosen f.row_high m.row_high) (chosen g.row_high m.row_high))) (chosen_either f.row_low g.row_low m.row_low)
    ∙ ap (meet (chosen (f.row_low || g.row_low) m.row_low)) (chosen_either f.row_high g.row_high m.row_high))
    ∙ ap (meet (meet (chosen (f.row_low || g.row_low) m.row_low) (chosen (f.row_high || g.row_high) m.row_high))) (chosen_either f.column_low g.column_low m.column_low))
    ∙ ap (meet (meet (meet (chosen (f.row_low || g.row_low) m.row_low) (chosen (f.row_high || g.row_high) m.row_high)) (chosen (f.column_low || g.column_low) m.column_low))) (chosen_either f.column_high g.column_high m.column_high)

-- the mark of a test of a sum that fits or not
abbrev mark : Bool → Bool → Mark
mark true true = yes
mark true false = no
mark false b = over

truth_mark : (b : Bool) → truth b ≡ shown (mark true b)
truth_mark true = refl
truth_mark false = refl

low_mark : (f : Bool) (x z : ℤ) → operate2 GreaterEqual (cond f (Value x) (Fault Overflow)) (Value z) ≡ shown (mark f (int_le z x))
low_mark true x z = truth_mark (int_le z x)
low_mark false x z = refl

high_mark : (f : Bool) (x z : ℤ) → operate2 LessEqual (cond f (Value x) (Fault Overflow)) (Value z) ≡ shown (mark f (int_le x z))
high_mark true x z = truth_mark (int_le x z)
high_mark false x z = refl

abbrev sum_of : ℕ → ℕ → List ℤ → ℤ
sum_of k m vars = get_or vars k (pos 0) +ℤ get_or vars m (pos 0)

abbrev marks : Pattern → ℕ → List ℤ → Marks
marks w n vars = record {
  row_low = mark (fits_64 (sum_of w.rows.level n vars)) (int_le w.rows.bounds.lo (sum_of w.rows.level n vars));
  row_high = mark (fits_64 (sum_of w.rows.level n vars)) (int_le (sum_of w.rows.level n vars) w.rows.bounds.hi);
  column_low = mark (fits_64 (sum_of w.columns.level (n + 1) vars)) (int_le w.columns.bounds.lo (sum_of w.columns.level (n + 1) vars));
  column_high = mark (fits_64 (sum_of w.columns.level (n + 1) vars)) (int_le (sum_of w.columns.level (n + 1) vars) w.columns.bounds.hi);
}

four_shown : (f : Edges) (m : Marks) (p q r s : Outcome) → p ≡ shown m.row_low → q ≡ shown m.row_high → r ≡ shown m.column_low → s ≡ shown m.column_high
    → operate2 And (operate2 And (operate2 And (asked f.row_low p) (asked f.row_high q)) (asked f.column_low r)) (asked f.column_high s) ≡ shown (all_chosen f m)
four_shown f m p q r s a b c d =
    ap (λ p. operate2 And (operate2 And (operate2 And (asked f.row_low p) (asked f.row_high q)) (asked f.column_low r)) (asked f.column_high s)) a
    ∙ ap (λ q. operate2 And (operate2 And (operate2 And (asked f.row_low (shown m.row_low)) (asked f.row_high q)) (asked f.column_low r)) (asked f.column_high s)) b
    ∙ ap (λ r. operate2 And (operate2 And (operate2 And (asked f.row_low (shown m.row_low)) (asked f.row_high (shown m.row_high))) (asked f.column_low r)) (asked f.column_high s)) c
    ∙ ap (λ s. operate2 And (operate2 And (operate2 And (asked f.row_low (shown m.row_low)) (asked f.row_high (shown m.row_high))) (asked f.column_low (shown m.column_low))) (asked f.column_high s)) d
    ∙ joined _ (meet (meet (chosen f.row_low m.row_low) (chosen f.row_high m.row_high)) (chosen f.column_low m.column_low)) (asked f.column_high (shown m.column_high)) (chosen f.column_high m.column_high)
    (joined _ (meet (chosen f.row_low m.row_low) (chosen f.row_high m.row_high)) (asked f.column_low (shown m.column_low)) (chosen f.column_low m.column_low)
    (joined (asked f.row_low (shown m.row_low)) (chosen f.row_low m.row_low) (asked f.row_high (shown m.row_high)) (chosen f.row_high m.row_high) (chosen_shown f.row_low m.row_low) (chosen_shown f.row_high m.row_high))
    (chosen_shown f.column_low m.column_low)) (chosen_shown f.column_high m.column_high)

edges_shown : (w : Pattern) (n : ℕ) (f : Edges) (vars : List ℤ) → some_edges w n f vars ≡ shown (all_chosen f (marks w n vars))
edges_shown w n f vars =
    let r = sum_of w.rows.level n vars in
    let c = sum_of w.columns.level (n + 1) vars in
    four_shown f (marks w n vars) (low_edge w.rows n vars) (high_edge w.rows n vars) (low_edge w.columns (n + 1) vars) (high_edge w.columns (n + 1) vars)
    (low_mark (fits_64 r) r w.rows.bounds.lo) (high_mark (fits_64 r) r w.rows.bounds.hi) (low_mark (fits_64 c) c w.columns.bounds.lo) (high_mark (fits_64 c) c w.columns.bounds.hi)

-- a conjunction has the edges of both operands
pub both_means : (w : Pattern) (n : ℕ) (f g : Edges) (l r : Tree) → Means l (some_edges w n f) → Means r (some_edges w n g) → Means (op2 And l r) (some_edges w n (either_edges f g))
both_means w n f g l r h k s regs vars =
    let m = marks w n vars in
    ap (λ o. operate2 And o (run s regs r vars)) (h s regs vars ∙ edges_shown w n f vars)
    ∙ ap (operate2 And (shown (all_chosen f m))) (k s regs vars ∙ edges_shown w n g vars)
    ∙ meet_shown (all_chosen f m) (all_chosen g m)
    ∙ ap shown (all_either f g m)
    ∙ sym (edges_shown w n (either_edges f g) vars)
