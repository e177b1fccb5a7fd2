-- The blocks from the first one on are those that are listed.
use Rattle.std.proofs.Common.{◌≡◌, ◌∙◌, ◌+◌, ◌*◌, ◌<◌, ap, arith, subst, length, get_or, flat_map}
use Rattle.block_file.specs.State.{block, times}
use Rattle.block_file.proofs.Times.{times_at}
use Rattle.block_file.specs.Words.{OnlyReads}
use Rattle.tile_store.proofs.Parts.{taken_back, neighbours}
use Rattle.tile_store.proofs.bytes.read_neighbours.Goals as goal

pub read_run-requires-clause-used : goal.read_run-requires-clause-used
read_run-requires-clause-used g c = λ i lt.
    let ks = c.args.numbers.now in
    let inside : i < length ks = omega (arith, lt, c.as_mut_slice-all.ensures.len, c.in_ok-resize.ensures.len) in
    let here : 0 < times ks (get_or ks 0 0 + i) = subst (λ k. 0 < times ks k) (c.requires.rising i inside) (times_at ks i inside) in
    omega (arith, here, c.requires.used (get_or ks 0 0 + i))

pub returns-clause-value : goal.returns-clause-value
returns-clause-value g c = λ honest.
    let ks = c.args.numbers.now in
    let size : length c.as_mut_slice-all.result.now ≡ 4096 * length ks = omega (arith, c.as_mut_slice-all.ensures.len, c.in_ok-resize.ensures.len) in
    taken_back c.resize.new.self.len c.read_run.new.bytes _ (omega (arith, c.read_run.auto.bytes, c.as_mut_slice-all.ensures.len))
    ∙ c.in_ok-read_run.ensures.value honest
    ∙ ap (flat_map (block (g.B.Blocks.state c.args.blocks.now))) (neighbours ks (length c.as_mut_slice-all.result.now) size c.requires.rising)

pub returns-in_err-read_run-clause-frame : goal.returns-in_err-read_run-clause-frame
returns-in_err-read_run-clause-frame g c =
    let ks = c.args.numbers.now in
    let state = g.B.Blocks.state in
    let size : length c.as_mut_slice-all.result.now ≡ 4096 * length ks = omega (arith, c.as_mut_slice-all.ensures.len, c.in_ok-resize.ensures.len) in
    subst (λ asked. OnlyReads (times asked) (state c.args.blocks.now) (state c.read_run.new.self)) (neighbours ks (length c.as_mut_slice-all.result.now) size c.requires.rising) c.in_err-read_run.ensures.frame

pub returns-clause-frame : goal.returns-clause-frame
returns-clause-frame g c =
    let ks = c.args.numbers.now in
    let state = g.B.Blocks.state in
    let size : length c.as_mut_slice-all.result.now ≡ 4096 * length ks = omega (arith, c.as_mut_slice-all.ensures.len, c.in_ok-resize.ensures.len) in
    subst (λ asked. OnlyReads (times asked) (state c.args.blocks.now) (state c.read_run.new.self)) (neighbours ks (length c.as_mut_slice-all.result.now) size c.requires.rising) c.in_ok-read_run.ensures.frame
