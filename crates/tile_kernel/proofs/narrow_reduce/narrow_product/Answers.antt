-- The values, each once, are those of the list.
use Rattle.std.proofs.Common.{subst}
use Rattle.wcps_mean.specs.Products.{StandsFor}
use Rattle.tile_kernel.proofs.Reductions.{selected_all}
use Rattle.tile_kernel.proofs.narrow_reduce.narrow_product.Goals as goal

pub returns : goal.returns
returns c = subst (StandsFor c.product_over.result) (selected_all c.args.values.now) c.product_over.ensures
