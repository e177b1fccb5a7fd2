-- The new signature stands at the end, and its bytes are counted.
use Rattle.std.proofs.Common.{◌∙◌, arith}
use Rattle.indexmap.proofs.CallerLemmas.{insert_entry-new}
use Rattle.catalogue.proofs.Held.{held-push, view-push, absent, held_small}
use Rattle.catalogue.proofs.catalogue.Catalogue.push.Goals as goal

pub invariant_of-self-2 : goal.invariant_of-self-2
invariant_of-self-2 c =
    let named = c.in_ok-name.ensures.ok ∙ c.as_str.ensures.value in
    let none = absent c.self.invariant c.self.view_is named c.requires.fresh in
    let put = c.in_ok-insert.ensures.entries ∙ insert_entry-new _ c.self.inside.signatures c.in_ok-name.name c.args.signature none in
    held-push c.self.invariant c.self.view_is c.in_ok-name.name c.args.signature put named c.signature_len-bytes.ensures.signature c.requires c.signature_len-bytes.ensures.value

pub returns-clause-pushed : goal.returns-clause-pushed
returns-clause-pushed c =
    let named = c.in_ok-name.ensures.ok ∙ c.as_str.ensures.value in
    let none = absent c.self.invariant c.self.view_is named c.requires.fresh in
    let put = c.in_ok-insert.ensures.entries ∙ insert_entry-new _ c.self.inside.signatures c.in_ok-name.name c.args.signature none in
    view-push c.self.invariant c.self.view_is c.in_ok-name.name c.args.signature put

pub overflow_add-self : goal.overflow_add-self
overflow_add-self c = grind (arith, held_small)
