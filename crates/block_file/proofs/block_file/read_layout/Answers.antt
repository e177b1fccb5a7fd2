-- What a header and its chain tell is what an opened file has, since the chain is read off the same content.
use Rattle.std.proofs.Common.{◌≡◌, length, ap, sym, ◌∙◌, arith}
use Rattle.block_file.specs.Format.{version_number}
use Rattle.block_file.proofs.Headers.{opened_file}
use Rattle.block_file.proofs.block_file.read_layout.Goals as goal

pub returns-clause-opened : goal.returns-clause-opened
returns-clause-opened g c = λ honest.
    let same = c.in_ok-header.ensures.same in
    opened_file _ c.in_ok-header.header _ (c.in_ok-header.ensures.header honest) c.in_ok-header.ensures.some c.in_ok-header.ensures.few c.in_ok-header.ensures.short c.in_ok-layout.ensures.layout.size c.in_ok-layout.ensures.layout.blocks
    (rw same.same_content at (c.in_ok-layout.ensures.read (rw same.same_honest honest)))

pub returns-clause-version : goal.returns-clause-version
returns-clause-version g c = λ honest.
    let head = c.in_ok-header.ensures.header honest in
    record {
      told = λ some. head.version ∙ ap version_number (sym c.in_ok-layout.ensures.layout.version);
      new_file = λ e. absurd (let none : length (g.D.Disk.content c.args.disk.now) ≡ 0 = ap length e in omega (arith, head.whole, c.in_ok-header.ensures.some));
    }
