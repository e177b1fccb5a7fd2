-- Each piece before a comma is an item of the list, as is the last piece, and a piece that is none refuses the list.
use Rattle.std.proofs.Common.{Ok, lit<, sym, ap, ◌∙◌, subst, rules}
use Rattle.std.proofs.lemmas.Result.{err_from_is_err_and}
use Rattle.kvp_front.specs.Spelling.{list_in}
use Rattle.kvp_front.proofs.SpellingLemmas.{Left, cut_of, pieces_whole, left_more, left_refused, left_last, refused_or_out}
use Rattle.kvp_front.proofs.lists.read_list.Goals as goal

pub returns-in_err-item-in-Some : goal.returns-in_err-item-in-Some
returns-in_err-item-in-Some g c =
    let read = g.T.Item.item_in in
    let whole = list_in read c.args.text.now in
    let rest = c.pieces.rest.now in
    let cut = cut_of rest c.in-Some.piece c.in-Some.after (c.in-Some.ensures.byte (lit< tt) (λ w o x. x)) in
    let p = err_from_is_err_and c.from_residual.result c.from_residual.ensures.1 in
    rw (p.1, p.2)
    (refused_or_out (read c.in-Some.piece.now) whole _ (λ e. left_refused read whole _ rest _ _ _ cut e c.pieces.invariant.1) c.in_err-item-in-Some.ensures)

pub pieces-preserved : goal.pieces-preserved
pieces-preserved g c =
    let read = g.T.Item.item_in in
    let whole = list_in read c.args.text.now in
    let rest = c.pieces.rest.now in
    let cut = cut_of rest c.in-Some.piece c.in-Some.after (c.in-Some.ensures.byte (lit< tt) (λ w o x. x)) in (
      search rules,
      subst (λ done. Left read whole done c.in-Some.after.now) (sym c.in_ok-push-in-Some.ensures.items)
          (left_more read whole c.pieces.list.items rest c.in-Some.piece.now c.in-Some.after.now c.in_ok-item-in-Some.item cut c.in_ok-item-in-Some.ensures c.pieces.invariant.1),
    )

pub returns-in_err-item-in-None : goal.returns-in_err-item-in-None
returns-in_err-item-in-None g c =
    let read = g.T.Item.item_in in
    let whole = list_in read c.args.text.now in
    let rest = c.pieces.rest.now in
    let cut = pieces_whole rest (c.in-None.ensures.byte (lit< tt) (λ w o x. x)) in
    let p = err_from_is_err_and c.from_residual-in_err-item-in-None.result c.from_residual-in_err-item-in-None.ensures.1 in
    rw (p.1, p.2)
    (refused_or_out (read rest) whole _ (λ e. left_refused read whole _ rest _ _ _ cut e c.pieces.invariant.1) c.in_err-item-in-None.ensures)

pub returns-in-None : goal.returns-in-None
returns-in-None g c =
    let read = g.T.Item.item_in in
    let whole = list_in read c.args.text.now in
    let rest = c.pieces.rest.now in
    let cut = pieces_whole rest (c.in-None.ensures.byte (lit< tt) (λ w o x. x)) in
    left_last read whole _ rest _ cut c.in_ok-item-in-None.ensures c.pieces.invariant.1 ∙ ap Ok (sym c.in_ok-push-in-None.ensures.items)
