-- A maker that is like the combination has its tree, a tree like the last one is that one, and any other is put last.
use Rattle.std.proofs.Common.{rules, ◌≡◌, ◌<◌, ◌++◌, ◌∷◌, [], length, ap, sym, subst, ◌∙◌, arith}
use Rattle.std.specs.Prelude.{Ok, Err, Some, IsSomeAnd, slice_get}
use Rattle.std.proofs.lemmas.List.{length-map}
use Rattle.std.proofs.lemmas.Result.{err_from_is_err_and}
use Rattle.wcps_text.specs.Tree.{query_view}
use Rattle.wcps_types.specs.declared.typed_query.Maker.{Maker}
use Rattle.wcps_types.specs.Typed.{tree_view}
use Rattle.wcps_types.specs.Renamed.{over, renamed_combination}
use Rattle.wcps_types.specs.Sharing.{coverages_in, Alike, maker_of, tree_of, trees_of, typed_over}
use Rattle.wcps_types.specs.Shapes.{Says}
use Rattle.wcps_types.specs.Queries.{typ_combination}
use Rattle.wcps_types.proofs.LikeTrees.{like-of, like-inside, says-over, some-inside, tree-put, made-put, grows-put}
use Rattle.wcps_types.proofs.query.place_of_tree.Goals as goal

pub returns-in-Some-clause-said : goal.returns-in-Some-clause-said
returns-in-Some-clause-said c =
    let s = c.args.source.now in
    let k = c.in-Some.place in
    let like : IsSomeAnd (slice_get c.args.making.now.makers.items k) (λ (m : Maker). Alike s.coverages.now (coverages_in c.args.bound.now) m.coverages.items) =
    subst (λ ms. IsSomeAnd (slice_get ms k) (λ (m : Maker). Alike s.coverages.now (coverages_in c.args.bound.now) m.coverages.items)) c.deref.ensures.value c.in-Some.ensures in
    like-of s.coverages.now (query_view s.query.now) c.args.bound.now s.variables.now.list.items c.args.making.now.makers.items k c.requires.own c.requires.making.made like

pub returns-in-Some-clause-inside : goal.returns-in-Some-clause-inside
returns-in-Some-clause-inside c =
    let inside : c.in-Some.place < length c.deref.result.now = like-inside _ c.deref.result.now c.in-Some.place c.in-Some.ensures in
    omega (arith, inside, ap length c.deref.ensures.value)

pub returns-in_err-tree-clause-said : goal.returns-in_err-tree-clause-said
returns-in_err-tree-clause-said c =
    let s = c.args.source.now in
    let bound = c.args.bound.now in
    let places : c.in_ok-coverages.coverages.items ≡ coverages_in bound = search rules in
    let says = says-over s.coverages.now (query_view s.query.now) bound s.variables.now.list.items c.in_ok-coverages.coverages.items c.requires.own places c.requires.there (Err c.in_err-tree.field-0.0) (subst (λ ps. Says tree_view (Err c.in_err-tree.field-0.0) (typed_over s.coverages.now (query_view s.query.now) s.variables.now.list.items ps)) c.deref-2.ensures.value c.in_err-tree.ensures) in
    let p = err_from_is_err_and c.from_residual-in_err-tree.result c.from_residual-in_err-tree.ensures.1 in
    rw (p.1, p.2) says

pub returns-in-Some-place_of_same-clause-said : goal.returns-in-Some-place_of_same-clause-said
returns-in-Some-place_of_same-clause-said c =
    let s = c.args.source.now in
    let typed : typed_over s.coverages.now (query_view s.query.now) s.variables.now.list.items c.in_ok-coverages.coverages.items ≡ Ok (tree_view c.in_ok-tree.tree) =
    subst (λ ps. typed_over s.coverages.now (query_view s.query.now) s.variables.now.list.items ps ≡ Ok (tree_view c.in_ok-tree.tree)) c.deref-2.ensures.value c.in_ok-tree.ensures in
    let bound = c.args.bound.now in
    let cs = s.coverages.now in
    let q = query_view s.query.now in
    let trees = trees_of cs q s.variables.now.list.items c.args.making.now.makers.items in
    let places : c.in_ok-coverages.coverages.items ≡ coverages_in bound = search rules in
    let said : typ_combination cs q bound ≡ Ok (renamed_combination (coverages_in bound) (tree_view c.in_ok-tree.tree)) =
    says-over cs q bound s.variables.now.list.items c.in_ok-coverages.coverages.items c.requires.own places c.requires.there (Ok c.in_ok-tree.tree) typed in
    let at : slice_get trees c.in-Some-place_of_same.place ≡ Some (tree_view c.in_ok-tree.tree) = c.in-Some-place_of_same.ensures trees c.requires.making.latest in
    said ∙ ap (λ o. Ok (over (coverages_in bound) o)) (sym at)

pub returns-in-Some-place_of_same-clause-inside : goal.returns-in-Some-place_of_same-clause-inside
returns-in-Some-place_of_same-clause-inside c =
    let s = c.args.source.now in
    let makers = c.args.making.now.makers.items in
    let trees = trees_of s.coverages.now (query_view s.query.now) s.variables.now.list.items makers in
    let at : slice_get trees c.in-Some-place_of_same.place ≡ Some (tree_view c.in_ok-tree.tree) = c.in-Some-place_of_same.ensures trees c.requires.making.latest in
    omega (arith, some-inside trees c.in-Some-place_of_same.place (tree_view c.in_ok-tree.tree) at, length-map makers (tree_of s.coverages.now (query_view s.query.now) s.variables.now.list.items))

pub returns-clause-said : goal.returns-clause-said
returns-clause-said c =
    let s = c.args.source.now in
    let cs = s.coverages.now in
    let q = query_view s.query.now in
    let vs = s.variables.now.list.items in
    let bound = c.args.bound.now in
    let t = tree_view c.in_ok-tree.tree in
    let typed : typed_over cs q vs c.in_ok-coverages.coverages.items ≡ Ok t =
    subst (λ ps. typed_over cs q vs ps ≡ Ok t) c.deref-2.ensures.value c.in_ok-tree.ensures in
    let places : c.in_ok-coverages.coverages.items ≡ coverages_in bound = search rules in
    let said : typ_combination cs q bound ≡ Ok (renamed_combination (coverages_in bound) t) =
    says-over cs q bound vs c.in_ok-coverages.coverages.items c.requires.own places c.requires.there (Ok c.in_ok-tree.tree) typed in
    let put : c.push.new.self.items ≡ c.args.making.now.makers.items ++ maker_of c.in_ok-coverages.coverages t ∷ [] = search rules in
    let last : c.len-place.result ≡ length c.args.making.now.makers.items = search rules in
    let at : slice_get (trees_of cs q vs c.push.new.self.items) c.len-place.result ≡ Some t =
    rw (put, last) (tree-put cs q vs c.args.making.now.makers.items c.in_ok-coverages.coverages t typed) in
    said ∙ ap (λ o. Ok (over (coverages_in bound) o)) (sym at)

pub returns-clause-making : goal.returns-clause-making
returns-clause-making c =
    let s = c.args.source.now in
    let cs = s.coverages.now in
    let q = query_view s.query.now in
    let vs = s.variables.now.list.items in
    let t = tree_view c.in_ok-tree.tree in
    let typed : typed_over cs q vs c.in_ok-coverages.coverages.items ≡ Ok t =
    subst (λ ps. typed_over cs q vs ps ≡ Ok t) c.deref-2.ensures.value c.in_ok-tree.ensures in
    let put : c.push.new.self.items ≡ c.args.making.now.makers.items ++ maker_of c.in_ok-coverages.coverages t ∷ [] = search rules in
    let last : c.len-place.result ≡ length c.args.making.now.makers.items = search rules in
    let kept : c.in_ok-latest.latest.value ≡ record { place = c.len-place.result; tree = c.in_ok-tree.tree } = search rules in
    record {
      made = rw put (made-put cs q vs c.args.making.now.makers.items c.in_ok-coverages.coverages t typed c.requires.making.made);
      latest = rw (put, kept, last) (tree-put cs q vs c.args.making.now.makers.items c.in_ok-coverages.coverages t typed);
    }

pub returns-clause-kept : goal.returns-clause-kept
returns-clause-kept c =
    let s = c.args.source.now in
    let t = tree_view c.in_ok-tree.tree in
    let put : c.push.new.self.items ≡ c.args.making.now.makers.items ++ maker_of c.in_ok-coverages.coverages t ∷ [] = search rules in
    rw put (grows-put s.coverages.now (query_view s.query.now) s.variables.now.list.items c.args.making.now.makers.items (maker_of c.in_ok-coverages.coverages t))
