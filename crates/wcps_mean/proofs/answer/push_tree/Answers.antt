-- A tree gives its item where its condition is true or there is none, and the first fault of the two.
use Rattle.std.proofs.Common.{rules, true, false, ◌≡◌, ◌∙◌, ap, sym, [], ◌∷◌, append-nil, Ok}
use Rattle.std.proofs.lemmas.Result.{err_from_is_err_and}
use Rattle.wcps_types.specs.Cells.{max_cells}
use Rattle.wcps_mean.specs.Answer.{item_answer}
use Rattle.wcps_mean.specs.Scopes.{tree_over}
use Rattle.wcps_mean.proofs.FewCells.{few_in_item}
use Rattle.wcps_mean.proofs.Joins.{tells-on, ok-pushed, chosen-err, chosen-false, chosen-item, chosen-item-err}
use Rattle.wcps_mean.proofs.answer.push_tree.Goals as goal

pub returns-in_err-gives_item-clause-pushed : goal.returns-in_err-gives_item-clause-pushed
returns-in_err-gives_item-clause-pushed g c =
    let s = g.C.Cells.cells c.args.cells.now in
    let v = tree_over c.args.coverages.now c.args.tree.now in
    let p = err_from_is_err_and c.from_residual.result c.from_residual.ensures.1 in
    rw (p.1, p.2) (λ h. tells-on _ _ _ (λ f e. chosen-err s v f e) (c.in_err-gives_item.ensures.answer h))

pub returns-then-not-gives_item-clause-pushed : goal.returns-then-not-gives_item-clause-pushed
returns-then-not-gives_item-clause-pushed g c h =
    let s = g.C.Cells.cells c.args.cells.now in
    let v = tree_over c.args.coverages.now c.args.tree.now in
    let no : c.in_ok-gives_item.gives_item ≡ false = search rules in
    ok-pushed _ [] _ _ (chosen-false s v (c.in_ok-gives_item.ensures.answer h ∙ ap Ok no)) (sym (append-nil _))

pub returns-in_err-item-clause-pushed : goal.returns-in_err-item-clause-pushed
returns-in_err-item-clause-pushed g c =
    let s = g.C.Cells.cells c.args.cells.now in
    let v = tree_over c.args.coverages.now c.args.tree.now in
    let yes : c.in_ok-gives_item.gives_item ≡ true = search rules in
    let p = err_from_is_err_and c.from_residual-in_err-item.result c.from_residual-in_err-item.ensures.1 in
    let same = ap (λ s. item_answer s v.item) c.in_ok-gives_item.ensures.leaves.cells in
    rw (p.1, p.2) (λ h. tells-on _ _ _ (λ f e. chosen-item-err s v f (c.in_ok-gives_item.ensures.answer h ∙ ap Ok yes) (sym same ∙ e)) (c.in_err-item.ensures.answer (c.in_ok-gives_item.ensures.leaves.intact h)))

pub returns-clause-pushed : goal.returns-clause-pushed
returns-clause-pushed g c h =
    let s = g.C.Cells.cells c.args.cells.now in
    let v = tree_over c.args.coverages.now c.args.tree.now in
    let same = ap (λ s. item_answer s v.item) c.in_ok-gives_item.ensures.leaves.cells in
    let yes : c.in_ok-gives_item.gives_item ≡ true = search rules in
    ok-pushed _ (c.in_ok-item.item ∷ []) _ _ (chosen-item s v c.in_ok-item.item (c.in_ok-gives_item.ensures.answer h ∙ ap Ok yes) (sym same ∙ c.in_ok-item.ensures.answer (c.in_ok-gives_item.ensures.leaves.intact h))) c.in_ok-push.ensures.items

pub item_of-requires : goal.item_of-requires
item_of-requires g c = record {
  few_cells = few_in_item c.args.tree.now max_cells c.requires.few_cells;
}
