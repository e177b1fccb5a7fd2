use Rattle.std.proofs.Common.{arith}
use Rattle.wcps_types.proofs.Fields.{record_fields}
use Rattle.wcps_types.proofs.Fields.{finished_fields}
use Rattle.wcps_types.proofs.records.finished.Goals as goal

pub returns : goal.returns
returns c = grind (arith, record_fields, finished_fields)
