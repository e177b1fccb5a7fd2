-- What a loop over tokens keeps true: what the tokens ahead come to, all of them come to.
use Rattle.std.proofs.Common.{ℕ}
use Rattle.wcps_parse.specs.declared.grown.Grown.{Grown}
use Rattle.wcps_parse.specs.Comes.{Comes}
use Rattle.wcps_parse.specs.Front.{Reading}

pub record Going {T M N : Type 0} (Fits : Grown T → M → Type 0) (g : Grown T) (ahead : M → ℕ → ℕ → Reading N) (all : ℕ → ℕ → Reading N) : Type 0 where
  pub tree : M
  pub fit : Fits g tree
  pub whole : (o : Reading N) → Comes (ahead tree) o → Comes all o
