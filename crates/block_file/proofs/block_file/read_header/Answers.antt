-- The first block tells what the header tells, and a file of another length than it tells is damaged.
use Rattle.std.proofs.Common.{arith, ◌∙◌}
use Rattle.std.proofs.lemmas.Result.{err_from_is_err_and}
use Rattle.block_file.proofs.Headers.{starts, refused_header, damaged_length, damaged_long, header_in, number_in}
use Rattle.block_file.proofs.block_file.read_header.Goals as goal
use Rattle.block_file.proofs.block_file.read_header.Goals.{then-header-length-via-then-header-length, then-header-length-via-else-header-length+then-header-gt-MAX_BLOCKS}

pub returns-in_err-header-clause-refused : goal.returns-in_err-header-clause-refused
returns-in_err-header-clause-refused g c =
    let p = err_from_is_err_and c.from_residual-in_err-header.result c.from_residual-in_err-header.ensures.1 in
    rw (p.1, p.2) (λ honest. refused_header _ _ _ (starts _ _ (omega arith) (c.in_ok-read_at.ensures.read honest)) c.in_err-header.ensures.refused)

pub returns-then-header-length-clause-refused : goal.returns-then-header-length-clause-refused
returns-then-header-length-clause-refused g c = λ honest.
    damaged_length _ c.in_ok-header.header.blocks c.in_ok-header.header.first c.in_ok-header.header.length (header_in _ _ _ _ _ _ (starts _ _ (omega arith) (c.in_ok-read_at.ensures.read honest)) c.in_ok-header.ensures.ok)
    (λ whole few. elim c.then-header-length.branch [
      | then-header-length-via-then-header-length w ↦ omega (arith, c.len-length.ensures honest, w.if-header-length.true)
      | then-header-length-via-else-header-length+then-header-gt-MAX_BLOCKS w ↦ omega (arith, w.if-header-gt-MAX_BLOCKS.true)
    ])

pub returns-then-header-gt-MAX_METADATA-clause-refused : goal.returns-then-header-gt-MAX_METADATA-clause-refused
returns-then-header-gt-MAX_METADATA-clause-refused g c = λ honest.
    damaged_long _ c.in_ok-header.header.blocks c.in_ok-header.header.first c.in_ok-header.header.length (header_in _ _ _ _ _ _ (starts _ _ (omega arith) (c.in_ok-read_at.ensures.read honest)) c.in_ok-header.ensures.ok)
    (omega (arith, c.if-header-gt-MAX_METADATA.true))

pub returns-clause-header : goal.returns-clause-header
returns-clause-header g c = λ honest. record {
  is = header_in _ _ _ _ _ _ (starts _ _ (omega arith) (c.in_ok-read_at.ensures.read honest)) c.in_ok-header.ensures.ok;
  version = number_in _ _ _ _ (omega arith) (starts _ _ (omega arith) (c.in_ok-read_at.ensures.read honest)) ∙ c.in_ok-header.ensures.version;
  whole = omega (arith, c.len-length.ensures honest);
}
