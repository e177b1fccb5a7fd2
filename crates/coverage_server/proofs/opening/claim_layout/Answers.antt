-- What is claimed leaves the metadata room, and an honest disk is found damaged only where nothing is laid out.
use Rattle.std.proofs.Common.{arith}
use Rattle.metadata.specs.Metadata.{indexes_of}
use Rattle.coverage_server.proofs.OpeningLemmas.{layout_room, room_there, departs_map, unclaimed}
use Rattle.coverage_server.proofs.opening.claim_layout.Goals as goal

pub returns-clause-claims : goal.returns-clause-claims
returns-clause-claims g c =
    let claims = rw c.deref.ensures.value at c.in_default.ensures.claims in
    record {
      listed = c.in_ok-layout.ensures.listed;
      claims = claims;
      room = layout_room c.args.version c.args.metadata.now c.args.file.now.marks c.claim_listed.new.file.marks c.in_ok-layout.layout.catalogue (indexes_of c.in_ok-layout.layout.indexes.items) c.requires.fresh
          c.in_ok-layout.ensures.listed claims (omega (arith, c.if-div_ceil-free.false, c.free.ensures, c.div_ceil.ensures));
    }

pub returns-in-Err-clause-refused : goal.returns-in-Err-clause-refused
returns-in-Err-clause-refused g c =
    departs_map _ _ c.in-Err.fault
    (λ cannot honest. unclaimed c.args.version _ c.args.metadata.now c.args.file.now.marks _ _ (c.requires.version honest) (c.requires.opened honest) c.in_ok-layout.ensures.listed (rw c.deref.ensures.value at cannot))
    c.in-Err.ensures.refused

pub returns-then-div_ceil-free-clause-refused : goal.returns-then-div_ceil-free-clause-refused
returns-then-div_ceil-free-clause-refused g c honest =
    let claims = c.in_default.ensures.claims in
    let enough = room_there c.args.file.now.content c.args.metadata.now c.args.file.now.marks c.claim_listed.new.file.marks claims.blocks (c.requires.opened honest) claims.claims in
    absurd (omega (arith, enough, c.if-div_ceil-free.true, c.free.ensures, c.div_ceil.ensures))
