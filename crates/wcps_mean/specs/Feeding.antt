-- What a running condenser has been fed.
use Rattle.std.specs.Prelude.{◌≡◌, ℤ, List, ◌++◌, length}
use Rattle.wcps_mean.specs.declared.running.Running.{Running}
use Rattle.wcps_text.specs.declared.operator.Aggregate.{Aggregate}
use Rattle.wcps_text.specs.declared.operator.Aggregate.TheVariants.{Sum, Product, Greatest, Least, Every, Any, Count, Average}
use Rattle.wcps_mean.specs.declared.cell.Outcome.{Outcome}
use Rattle.wcps_mean.specs.Condensers.{first_fault, values, total, every, any, trues}
use Rattle.wcps_mean.specs.Best.{greatest_of, least_of}
use Rattle.wcps_mean.specs.Products.{StandsFor}

-- what is kept of the values, for each kind
abbrev pub Keeps : Aggregate → Running → List ℤ → Type 0
Keeps Sum r zs = r.sum ≡ total zs
Keeps Product r zs = StandsFor r.product zs
Keeps Greatest r zs = r.best ≡ greatest_of zs
Keeps Least r zs = r.best ≡ least_of zs
Keeps Every r zs = r.all ≡ every zs
Keeps Any r zs = r.some ≡ any zs
Keeps Count r zs = r.trues ≡ trues zs
Keeps Average r zs = r.sum ≡ total zs

-- it stands for these outcomes, in this order
pub record Fed (r : Running) (outs : List Outcome) : Type 0 where
  pub counted : r.count ≡ length outs
  pub faulted : r.fault ≡ first_fault outs
  pub kept : Keeps r.op r (values outs)

-- it has taken these outcomes in, behind those before them
abbrev pub Feeds : Running → Running → List Outcome → Type 0
Feeds old new more = (outs : List Outcome) → Fed old outs → Fed new (outs ++ more)
