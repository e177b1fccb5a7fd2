-- Each cell at the front is the next one of the list, which ends where nothing is left, and what was read is itself.
use Rattle.std.proofs.Common.{◌≡◌, ◌∙◌, ◌<◌, ℕ, ◌∷◌, List, Ok, length, take, drop, ◌-◌, get_or, sym, ap, subst, arith}
use Rattle.std.proofs.lemmas.Bool.Decides.{nat_tests}
use Rattle.std.proofs.lemmas.Slice.{first_rest}
use Rattle.kvp_front.specs.Spelling.{cell_in, list_in}
use Rattle.kvp_front.specs.Front.{BeginsWith}
use Rattle.kvp_front.proofs.SpellingLemmas.{Left}
use Rattle.kvp_front.proofs.FrontLemmas.{text_is_itself, list_ends, list_goes_on, ends_as_itself, goes_on_as_itself}
use Rattle.kvp_front.proofs.cells.plain_cells.Goals as goal

pub returns-then-is_empty : goal.returns-then-is_empty
returns-then-is_empty c =
    let bytes = c.args.bytes.now in
    let rest = c.cells.rest.now in
    let after = c.in-Some.after.now in
    let none : length after ≡ 0 = grind (arith, nat_tests) in
    let itself = c.cells.invariant.0 (ends_as_itself rest after c.in-Some.cell none c.in-Some.ensures) in
    let all = list_ends (list_in cell_in bytes) c.cells.cells.items rest after c.in-Some.cell none c.in-Some.ensures c.cells.invariant.1 in
    ap (list_in cell_in) (text_is_itself bytes itself) ∙ all ∙ ap Ok (sym c.in_ok-push.ensures.items)

pub cells-preserved : goal.cells-preserved
cells-preserved c =
    let bytes = c.args.bytes.now in
    let rest = c.cells.rest.now in
    let after = c.in-Some.after.now in
    let more = take (length after - 1) (drop 1 after) in
    let some : 0 < length after = grind (arith, nat_tests) in
    let comma : get_or after 0 0 ≡ 44 = grind (arith, nat_tests) in
    let parts : after ≡ 44 ∷ more = first_rest after 0 some ∙ ap (λ b. b ∷ more) comma in
    let begins = subst (λ (l : List ℕ). BeginsWith rest c.in-Some.cell l) parts c.in-Some.ensures in (
      λ later. c.cells.invariant.0 (goes_on_as_itself rest more c.in-Some.cell begins later),
      subst (λ done. Left cell_in (list_in cell_in bytes) done more) (sym c.in_ok-push.ensures.items)
          (list_goes_on (list_in cell_in bytes) c.cells.cells.items rest more c.in-Some.cell begins c.cells.invariant.1),
    )
