use Rattle.std.proofs.Common.{rules}
use Rattle.block_file.proofs.header.parse_header.Goals as goal

pub shared_ref_as_front-ne : goal.shared_ref_as_front-ne
shared_ref_as_front-ne c = search rules

pub returns-then-ne-clause-refused : goal.returns-then-ne-clause-refused
returns-then-ne-clause-refused c = search rules

pub u32_at-requires : goal.u32_at-requires
u32_at-requires c = search rules

pub returns-in_default-clause-refused : goal.returns-in_default-clause-refused
returns-in_default-clause-refused c = search rules

pub u32_at-state-requires : goal.u32_at-state-requires
u32_at-state-requires c = search rules

pub returns-then-state-number-clause-refused : goal.returns-then-state-number-clause-refused
returns-then-state-number-clause-refused c = search rules

pub returns-then-state-number-2-clause-refused : goal.returns-then-state-number-2-clause-refused
returns-then-state-number-2-clause-refused c = search rules

pub all_zero-requires : goal.all_zero-requires
all_zero-requires c = search rules

pub returns-then-not-all_zero-clause-refused : goal.returns-then-not-all_zero-clause-refused
returns-then-not-all_zero-clause-refused c = search rules

pub u32_at-requires-2 : goal.u32_at-requires-2
u32_at-requires-2 c = search rules

pub u32_at-requires-3 : goal.u32_at-requires-3
u32_at-requires-3 c = search rules

pub u64_at-requires : goal.u64_at-requires
u64_at-requires c = search rules

pub returns-clause-ok : goal.returns-clause-ok
returns-clause-ok c = search rules

pub returns-clause-version : goal.returns-clause-version
returns-clause-version c = search rules
