-- The index that is read is the only one of these bytes, and damaged bytes are those of no index.
use Rattle.std.proofs.Common.{[], length, sym, ap, ◌∙◌, subst, rules, arith}
use Rattle.std.proofs.lemmas.Result.{err_from_is_err_and}
use Rattle.std.proofs.lemmas.Grind.{common_steps}
use Rattle.tile_index.specs.Entries.{AreOf}
use Rattle.tile_index.proofs.Codes.{whole, only-index}
use Rattle.tile_index.specs.Bytes.{index_bytes}
use Rattle.tile_index.proofs.index.TileIndex.from_bytes.Goals as goal

pub returns-in_err-entries-clause-damaged : goal.returns-in_err-entries-clause-damaged
returns-in_err-entries-clause-damaged c h index i _ e =
    let q = err_from_is_err_and c.from_residual.result c.from_residual.ensures.1 in
    let w = whole _ _ _ _ index c.new-bytes.ensures c.in-Some.ensures.only i e in
    c.in_err-entries.ensures.damaged (cc (q.1, q.2)) index [] w.0 w.1

pub returns-then-len-ne0-clause-damaged : goal.returns-then-len-ne0-clause-damaged
returns-then-len-ne0-clause-damaged c _ index i _ e =
    let read = c.in_ok-entries.ensures in
    let same = only-index _ _ _ _ _ _ index c.new-bytes.ensures c.in-Some.ensures.only read.read (read.counted, read.index) i e in
    c.if-len-ne0.true (c.len.ensures ∙ ap length (sym same.1))

pub returns-then-not-are_of-clause-damaged : goal.returns-then-not-are_of-clause-damaged
returns-then-not-are_of-clause-damaged c _ index i a e =
    let read = c.in_ok-entries.ensures in
    let same = (only-index _ _ _ _ _ _ index c.new-bytes.ensures c.in-Some.ensures.only read.read (read.counted, read.index) i e).0 in
    let yes = c.are_of.ensures.1 (subst (AreOf c.args.version) (same ∙ sym c.deref.ensures.value) a) in
    cc

pub returns-clause-only : goal.returns-clause-only
returns-clause-only c other i e =
    let read = c.in_ok-entries.ensures in
    (only-index _ _ _ _ _ _ other c.new-bytes.ensures c.in-Some.ensures.only read.read (read.counted, read.index) i e).0 ∙ sym c.from_entries.ensures

pub returns-in_default-clause-damaged : goal.returns-in_default-clause-damaged
unfolding index_bytes
returns-in_default-clause-damaged c = search rules

pub returns-clause-read : goal.returns-clause-read
unfolding index_bytes
returns-clause-read c = grind (arith, common_steps)
