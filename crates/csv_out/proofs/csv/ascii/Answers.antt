-- What is ASCII is UTF-8.
use Rattle.std.proofs.Common.{rules}
use Rattle.std.specs.Str.{IsUtf8}
use Rattle.std.proofs.lemmas.Str.{IsUtf8-from_ascii}
use Rattle.csv_out.proofs.csv.ascii.Goals as goal

pub unwrap-requires : goal.unwrap-requires
unwrap-requires c = let text : IsUtf8 c.args.bytes.now = IsUtf8-from_ascii _ c.requires in search rules
