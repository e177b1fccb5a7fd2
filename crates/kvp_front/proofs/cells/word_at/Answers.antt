-- The bytes begin with the word that was read.
use Rattle.std.specs.Prelude.{codes}
use Rattle.kvp_front.proofs.FrontLemmas.{front_is, true_begins, false_begins}
use Rattle.kvp_front.proofs.cells.word_at.Goals as goal

pub returns-in-Some : goal.returns-in-Some
returns-in-Some c =
    let bytes = c.args.bytes.now in
    let after = c.in-Some.after.now in
    let cases = c.in-Some.ensures.cases in
    true_begins bytes after (front_is (codes "true") bytes after 4 cases.0 cases.1)

pub returns-in-Some-strip_prefix : goal.returns-in-Some-strip_prefix
returns-in-Some-strip_prefix c =
    let bytes = c.args.bytes.now in
    let after = c.in-Some-strip_prefix.after.now in
    let cases = c.in-Some-strip_prefix.ensures.cases in
    false_begins bytes after (front_is (codes "false") bytes after 5 cases.0 cases.1)
