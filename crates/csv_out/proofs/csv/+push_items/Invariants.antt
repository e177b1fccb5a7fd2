use Rattle.std.proofs.Common.{length}
use Rattle.csv_out.proofs.csv.+push_items.Given as goal

abbrev pub decreases-push_items : goal.decreases-push_items
decreases-push_items l = length l.items.now
