-- Products kept by sign, capped magnitude, and whether a factor is 0.
use Rattle.std.specs.Prelude.{◌≡◌, ℤ, List}
use Rattle.wcps_mean.specs.declared.product.Product.{Product}
use Rattle.wcps_mean.specs.Magnitudes.{cap, has_zero_of, sign_of, size_of}

-- it stands for these factors
pub record StandsFor (p : Product) (zs : List ℤ) : Type 0 where
  pub zero_kept : p.has_zero ≡ has_zero_of zs
  pub sign_kept : p.negative ≡ sign_of zs
  pub size_kept : p.magnitude ≡ cap (size_of zs)
