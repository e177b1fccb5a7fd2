-- What is kept of two lists of points at once.
use Rattle.std.proofs.Common.{◌≡◌, ℕ, ◌+◌, arith, List, [], ◌∷◌, ◌++◌, refl, sym, ap, ◌∙◌, subst, ℤ, ◌+ℤ◌, Bool, true, false, ◌&&◌, ◌||◌, length-append}
use Rattle.std.specs.List.Sorted.{IsPermutation}
use Rattle.std.proofs.lemmas.Int.{ints}
use Rattle.std.proofs.lemmas.List.{length-map, map-append}
use Rattle.std.proofs.lemmas.List.Sorted.{length_permutation}
use Rattle.wcps_text.specs.declared.operator.Aggregate.{Aggregate}
use Rattle.wcps_text.specs.declared.operator.Aggregate.TheVariants.{Sum, Product, Greatest, Least, Every, Any, Count, Average}
use Rattle.wcps_mean.specs.declared.running.Running.{Running}
use Rattle.wcps_mean.specs.declared.cell.Outcome.{Outcome}
use Rattle.wcps_mean.specs.declared.cell.Outcome.TheVariants.{Value, Fault}
use Rattle.arr_core.specs.Cells.{truth_of}
use Rattle.wcps_mean.specs.Condensers.{values, total, every, any, trues}
use Rattle.wcps_mean.specs.Best.{greatest_of, least_of}
use Rattle.wcps_mean.specs.Magnitudes.{cap}
use Rattle.wcps_mean.specs.Products.{StandsFor}
use Rattle.wcps_mean.specs.Feeding.{Keeps, Fed}
use Rattle.tile_kernel.specs.declared.accumulator.Accumulator.{Accumulator}
use Rattle.tile_kernel.specs.Told.{Told, outcomes, AreRising, IsFirst}
use Rattle.tile_kernel.specs.Joins.{best_both}
use Rattle.tile_kernel.specs.Standing.{Stands}
use Rattle.tile_kernel.proofs.Bests.{greatest_of-append, least_of-append}
use Rattle.tile_kernel.proofs.Faults.{fault_in_order, fault_of_one}
use Rattle.tile_kernel.proofs.Orders.{total-permuted, trues-permuted, every-permuted, any-permuted, has_zero-permuted, sign-permuted, size-permuted, greatest-permuted, least-permuted}

-- ---- values one after the other

pub total-append : (zs ws : List ℤ) → total (zs ++ ws) ≡ total zs +ℤ total ws
total-append [] ws = omega (arith, ints)
total-append (z ∷ zs) ws = let e = total-append zs ws in omega (arith, ints)

pub trues-append : (zs ws : List ℤ) → trues (zs ++ ws) ≡ trues zs + trues ws
trues-append [] ws = omega arith
trues-append (z ∷ zs) ws = let e = trues-append zs ws in omega arith

or_assoc : (a b c : Bool) → (a || b) || c ≡ a || (b || c)
or_assoc true b c = refl
or_assoc false b c = refl

and_assoc : (a b c : Bool) → (a && b) && c ≡ a && (b && c)
and_assoc true b c = refl
and_assoc false b c = refl

pub every-append : (zs ws : List ℤ) → every (zs ++ ws) ≡ (every zs && every ws)
every-append [] ws = refl
every-append (z ∷ zs) ws = ap (λ b. truth_of z && b) (every-append zs ws) ∙ sym (and_assoc (truth_of z) (every zs) (every ws))

pub any-append : (zs ws : List ℤ) → any (zs ++ ws) ≡ (any zs || any ws)
any-append [] ws = refl
any-append (z ∷ zs) ws = ap (λ b. truth_of z || b) (any-append zs ws) ∙ sym (or_assoc (truth_of z) (any zs) (any ws))

pub values-append : (a b : List Outcome) → values (a ++ b) ≡ values a ++ values b
values-append [] b = refl
values-append (Fault f ∷ a) b = values-append a b
values-append (Value z ∷ a) b = ap (λ l. z ∷ l) (values-append a b)

-- ---- two condensers

pub record Joined (a b r : Running) : Type 0 where
  pub sum : r.sum ≡ a.sum +ℤ b.sum
  pub trues : r.trues ≡ a.trues + b.trues
  pub product : (zs ws : List ℤ) → StandsFor a.product zs → StandsFor b.product ws → StandsFor r.product (zs ++ ws)
  pub best : r.best ≡ best_both a.op a.best b.best
  pub all : r.all ≡ (a.all && b.all)
  pub some : r.some ≡ (a.some || b.some)

pub keeps_joined : (op : Aggregate) (a b r : Running) (zs ws : List ℤ) → a.op ≡ op → Joined a b r → Keeps op a zs → Keeps op b ws → Keeps op r (zs ++ ws)
keeps_joined Sum a b r zs ws o j h g = j.sum ∙ ap (λ z. z +ℤ b.sum) h ∙ ap (λ z. total zs +ℤ z) g ∙ sym (total-append zs ws)
keeps_joined Average a b r zs ws o j h g = j.sum ∙ ap (λ z. z +ℤ b.sum) h ∙ ap (λ z. total zs +ℤ z) g ∙ sym (total-append zs ws)
keeps_joined Product a b r zs ws o j h g = j.product zs ws h g
keeps_joined Greatest a b r zs ws o j h g = j.best ∙ ap (λ op. best_both op a.best b.best) o ∙ ap (λ x. best_both Greatest x b.best) h ∙ ap (best_both Greatest (greatest_of zs)) g ∙ sym (greatest_of-append zs ws)
keeps_joined Least a b r zs ws o j h g = j.best ∙ ap (λ op. best_both op a.best b.best) o ∙ ap (λ x. best_both Least x b.best) h ∙ ap (best_both Least (least_of zs)) g ∙ sym (least_of-append zs ws)
keeps_joined Every a b r zs ws o j h g = j.all ∙ ap (λ c. c && b.all) h ∙ ap (λ c. every zs && c) g ∙ sym (every-append zs ws)
keeps_joined Any a b r zs ws o j h g = j.some ∙ ap (λ c. c || b.some) h ∙ ap (λ c. any zs || c) g ∙ sym (any-append zs ws)
keeps_joined Count a b r zs ws o j h g = j.trues ∙ ap (λ n. n + b.trues) h ∙ ap (λ n. trues zs + n) g ∙ sym (trues-append zs ws)

pub keeps_permuted : (op : Aggregate) (r : Running) (told ordered : List Told) → IsPermutation told ordered → Keeps op r (values (outcomes told)) → Keeps op r (values (outcomes ordered))
keeps_permuted Sum r told ordered p h = h ∙ total-permuted told ordered p
keeps_permuted Average r told ordered p h = h ∙ total-permuted told ordered p
keeps_permuted Product r told ordered p h = record {
  zero_kept = h.zero_kept ∙ has_zero-permuted told ordered p;
  sign_kept = h.sign_kept ∙ sign-permuted told ordered p;
  size_kept = h.size_kept ∙ ap cap (size-permuted told ordered p);
}
keeps_permuted Greatest r told ordered p h = h ∙ greatest-permuted told ordered p
keeps_permuted Least r told ordered p h = h ∙ least-permuted told ordered p
keeps_permuted Every r told ordered p h = h ∙ every-permuted told ordered p
keeps_permuted Any r told ordered p h = h ∙ any-permuted told ordered p
keeps_permuted Count r told ordered p h = h ∙ trues-permuted told ordered p

-- ---- the calls

pub stands_one : (r : Running) (place : ℕ) (o : Outcome) → Fed r (o ∷ []) → Stands (record { running = r; place = place }) ((place, o) ∷ [])
stands_one r place o h = record {
  counted = h.counted;
  faulted = subst (λ f. IsFirst f place ((place, o) ∷ [])) (sym h.faulted) (fault_of_one place o);
  kept = h.kept;
}

pub stands_merged : (a b r : Accumulator) (told more : List Told) → r.running.count ≡ a.running.count + b.running.count → r.running.op ≡ a.running.op → a.running.op ≡ b.running.op
    → ((told more : List Told) → IsFirst a.running.fault a.place told → IsFirst b.running.fault b.place more → IsFirst r.running.fault r.place (told ++ more))
    → ((zs ws : List ℤ) → Keeps a.running.op a.running zs → Keeps a.running.op b.running ws → Keeps a.running.op r.running (zs ++ ws))
    → Stands a told → Stands b more → Stands r (told ++ more)
stands_merged a b r told more n o same f k h g = record {
  counted = let l = length-append told more in omega (arith, h.counted, g.counted, n, l);
  faulted = f told more h.faulted g.faulted;
  kept =
      let joined = k (values (outcomes told)) (values (outcomes more)) h.kept (subst (λ op. Keeps op b.running (values (outcomes more))) (sym same) g.kept) in
      let list : values (outcomes told) ++ values (outcomes more) ≡ values (outcomes (told ++ more)) =
      sym (ap values (map-append (λ (t : Told). t.1) told more) ∙ values-append (outcomes told) (outcomes more)) in
      subst (λ op. Keeps op r.running (values (outcomes (told ++ more)))) (sym o) (subst (Keeps a.running.op r.running) list joined);
}

pub fed_in_order : (a : Accumulator) (told ordered : List Told) → Stands a told → IsPermutation told ordered → AreRising ordered → Fed a.running (outcomes ordered)
fed_in_order a told ordered h p r = record {
  counted = let l = length_permutation told ordered p in let m = length-map ordered (λ (t : Told). t.1) in omega (arith, h.counted, l, m);
  faulted = fault_in_order a.running.fault a.place told ordered h.faulted p r;
  kept = keeps_permuted a.running.op a.running told ordered p h.kept;
}
