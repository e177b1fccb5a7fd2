-- What was decoded is what the tile's bytes spell.
use Rattle.std.proofs.Common.{ap, sym, subst, ◌∙◌, option_copied, arith}
use Rattle.std.proofs.lemmas.Grind.{common_steps}
use Rattle.block_file.specs.Words.{OnlyReads}
use Rattle.tile_store.specs.Listing.{entry_times}
use Rattle.tile_store.proofs.Cells.{read_some}
use Rattle.tile_store.proofs.tile.fill_tile.Goals as goal

pub returns-in_ok-decode_into-in-Some-clause-read : goal.returns-in_ok-decode_into-in-Some-clause-read
returns-in_ok-decode_into-in-Some-clause-read g c =
    let decoded = c.in_ok-decode_into-in-Some.ensures in
    read_some c.args.kind c.args.count _ _ c.in-Some.entry.now _ _ (ap option_copied c.in-Some.is) (λ honest. c.deref.ensures.value ∙ c.in_ok-read_bytes-in-Some.ensures.value honest) decoded.spelled decoded.counted

pub returns-in_err-read_bytes-in-Some-clause-frame : goal.returns-in_err-read_bytes-in-Some-clause-frame
returns-in_err-read_bytes-in-Some-clause-frame g c =
    let state = g.B.Blocks.state in
    subst (λ o. OnlyReads (entry_times o) (state c.args.blocks.now) (state c.read_bytes.new.blocks)) (sym (ap option_copied c.in-Some.is)) c.in_err-read_bytes-in-Some.ensures.frame

pub returns-in_err-decode_into-in-Some-clause-frame : goal.returns-in_err-decode_into-in-Some-clause-frame
returns-in_err-decode_into-in-Some-clause-frame g c =
    let state = g.B.Blocks.state in
    subst (λ o. OnlyReads (entry_times o) (state c.args.blocks.now) (state c.read_bytes.new.blocks)) (sym (ap option_copied c.in-Some.is)) c.in_ok-read_bytes-in-Some.ensures.frame

pub returns-in_ok-decode_into-in-Some-clause-frame : goal.returns-in_ok-decode_into-in-Some-clause-frame
returns-in_ok-decode_into-in-Some-clause-frame g c =
    let state = g.B.Blocks.state in
    subst (λ o. OnlyReads (entry_times o) (state c.args.blocks.now) (state c.read_bytes.new.blocks)) (sym (ap option_copied c.in-Some.is)) c.in_ok-read_bytes-in-Some.ensures.frame

pub returns-in_ok-resize-in-None-clause-read : goal.returns-in_ok-resize-in-None-clause-read
returns-in_ok-resize-in-None-clause-read g c = grind (arith, common_steps)
