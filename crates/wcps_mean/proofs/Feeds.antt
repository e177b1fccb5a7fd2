-- One more outcome in a running condenser.
use Rattle.std.proofs.Common.{◌≡◌, ℕ, suc, ◌+◌, ◌<◌, List, [], ◌∷◌, ◌++◌, length, get_or, take, map, Bool, true, false, ◌&&◌, ◌||◌, cond, Option, Some, None, refl, sym, ap, ◌∙◌, subst, arith, ℤ, ◌+ℤ◌, length-append, append-nil}
use Rattle.std.proofs.lemmas.Int.{ints}
use Rattle.std.specs.List.{flat_map}
use Rattle.std.proofs.lemmas.List.{get_or-map, length-map, take_more}
use Rattle.std.proofs.lemmas.List.Concat.{flat_map-append}
use Rattle.wcps_mean.specs.declared.running.Running.{Running}
use Rattle.wcps_text.specs.declared.operator.Aggregate.{Aggregate}
use Rattle.wcps_text.specs.declared.operator.Aggregate.TheVariants.{Sum, Product, Greatest, Least, Every, Any, Count, Average}
use Rattle.wcps_mean.specs.declared.cell.Outcome.{Outcome}
use Rattle.wcps_mean.specs.declared.cell.Outcome.TheVariants.{Value, Fault}
use Rattle.wcps_mean.specs.declared.cell.PointFault.{PointFault}
use Rattle.arr_core.specs.Cells.{truth_of}
use Rattle.wcps_mean.specs.Condensers.{first_fault, values, total, larger, smaller, greatest, least, every, any, trues, combined, condensed, demanded, fault_or}
use Rattle.wcps_mean.specs.Best.{greatest_of, least_of, top_of, bottom_of}
use Rattle.wcps_mean.specs.Products.{StandsFor}
use Rattle.wcps_mean.specs.Feeding.{Fed, Keeps}

-- the first of two faults
abbrev pub else_fault : Option PointFault → Option PointFault → Option PointFault
else_fault (Some f) g = Some f
else_fault None g = g

else_none : (o : Option PointFault) → else_fault o None ≡ o
else_none None = refl
else_none (Some f) = refl

pub else_kept : (o g : Option PointFault) → (o ≡ None → ⊥) → o ≡ else_fault o g
else_kept None g h = absurd (h refl)
else_kept (Some f) g h = refl

pub first_fault-append : (a b : List Outcome) → first_fault (a ++ b) ≡ else_fault (first_fault a) (first_fault b)
first_fault-append [] b = refl
first_fault-append (Fault f ∷ a) b = refl
first_fault-append (Value z ∷ a) b = first_fault-append a b

pub values-append : (a b : List Outcome) → values (a ++ b) ≡ values a ++ values b
values-append [] b = refl
values-append (Fault f ∷ a) b = values-append a b
values-append (Value z ∷ a) b = ap (λ l. z ∷ l) (values-append a b)

total-push : (zs : List ℤ) (x : ℤ) → total (zs ++ x ∷ []) ≡ total zs +ℤ x
total-push [] x = omega (arith, ints)
total-push (z ∷ zs) x = let e = total-push zs x in omega (arith, ints)

greatest-push : (m : ℤ) (zs : List ℤ) (x : ℤ) → greatest m (zs ++ x ∷ []) ≡ larger (greatest m zs) x
greatest-push m [] x = refl
greatest-push m (z ∷ zs) x = greatest-push (larger m z) zs x

least-push : (m : ℤ) (zs : List ℤ) (x : ℤ) → least m (zs ++ x ∷ []) ≡ smaller (least m zs) x
least-push m [] x = refl
least-push m (z ∷ zs) x = least-push (smaller m z) zs x

greatest_of-push : (zs : List ℤ) (x : ℤ) → greatest_of (zs ++ x ∷ []) ≡ Some (top_of (greatest_of zs) x)
greatest_of-push [] x = refl
greatest_of-push (z ∷ zs) x = ap Some (greatest-push z zs x)

least_of-push : (zs : List ℤ) (x : ℤ) → least_of (zs ++ x ∷ []) ≡ Some (bottom_of (least_of zs) x)
least_of-push [] x = refl
least_of-push (z ∷ zs) x = ap Some (least-push z zs x)

and_true : (b : Bool) → b && true ≡ b
and_true true = refl
and_true false = refl

and_assoc : (a b c : Bool) → (a && b) && c ≡ a && (b && c)
and_assoc true b c = refl
and_assoc false b c = refl

or_false : (b : Bool) → b || false ≡ b
or_false true = refl
or_false false = refl

or_assoc : (a b c : Bool) → (a || b) || c ≡ a || (b || c)
or_assoc true b c = refl
or_assoc false b c = refl

every-push : (zs : List ℤ) (x : ℤ) → every (zs ++ x ∷ []) ≡ every zs && truth_of x
every-push [] x = and_true (truth_of x)
every-push (z ∷ zs) x = ap (λ b. truth_of z && b) (every-push zs x) ∙ sym (and_assoc (truth_of z) (every zs) (truth_of x))

any-push : (zs : List ℤ) (x : ℤ) → any (zs ++ x ∷ []) ≡ any zs || truth_of x
any-push [] x = or_false (truth_of x)
any-push (z ∷ zs) x = ap (λ b. truth_of z || b) (any-push zs x) ∙ sym (or_assoc (truth_of z) (any zs) (truth_of x))

trues-push : (zs : List ℤ) (x : ℤ) → trues (zs ++ x ∷ []) ≡ trues zs + cond (truth_of x) 1 0
trues-push [] x = omega arith
trues-push (z ∷ zs) x = let e = trues-push zs x in omega arith

-- what is kept, with one more value
pub keeps_sum : (r s : Running) (zs : List ℤ) (x : ℤ) → r.op ≡ Sum → s.sum ≡ r.sum +ℤ x → Keeps r.op r zs → Keeps r.op s (zs ++ x ∷ [])
keeps_sum r s zs x o e h = subst (λ op. Keeps op s (zs ++ x ∷ [])) (sym o) (let k : r.sum ≡ total zs = subst (λ op. Keeps op r zs) o h in e ∙ ap (λ z. z +ℤ x) k ∙ sym (total-push zs x))

pub keeps_average : (r s : Running) (zs : List ℤ) (x : ℤ) → r.op ≡ Average → s.sum ≡ r.sum +ℤ x → Keeps r.op r zs → Keeps r.op s (zs ++ x ∷ [])
keeps_average r s zs x o e h = subst (λ op. Keeps op s (zs ++ x ∷ [])) (sym o) (let k : r.sum ≡ total zs = subst (λ op. Keeps op r zs) o h in e ∙ ap (λ z. z +ℤ x) k ∙ sym (total-push zs x))

pub keeps_product : (r s : Running) (zs : List ℤ) (x : ℤ) → r.op ≡ Product → ((ys : List ℤ) → StandsFor r.product ys → StandsFor s.product (ys ++ x ∷ [])) → Keeps r.op r zs → Keeps r.op s (zs ++ x ∷ [])
keeps_product r s zs x o e h = subst (λ op. Keeps op s (zs ++ x ∷ [])) (sym o) (let k : StandsFor r.product zs = subst (λ op. Keeps op r zs) o h in e zs k)

pub keeps_greatest : (r s : Running) (zs : List ℤ) (x : ℤ) → r.op ≡ Greatest → s.best ≡ Some (top_of r.best x) → Keeps r.op r zs → Keeps r.op s (zs ++ x ∷ [])
keeps_greatest r s zs x o e h = subst (λ op. Keeps op s (zs ++ x ∷ [])) (sym o) (let k : r.best ≡ greatest_of zs = subst (λ op. Keeps op r zs) o h in e ∙ ap (λ b. Some (top_of b x)) k ∙ sym (greatest_of-push zs x))

pub keeps_least : (r s : Running) (zs : List ℤ) (x : ℤ) → r.op ≡ Least → s.best ≡ Some (bottom_of r.best x) → Keeps r.op r zs → Keeps r.op s (zs ++ x ∷ [])
keeps_least r s zs x o e h = subst (λ op. Keeps op s (zs ++ x ∷ [])) (sym o) (let k : r.best ≡ least_of zs = subst (λ op. Keeps op r zs) o h in e ∙ ap (λ b. Some (bottom_of b x)) k ∙ sym (least_of-push zs x))

pub keeps_every : (r s : Running) (zs : List ℤ) (x : ℤ) → r.op ≡ Every → s.all ≡ (r.all && truth_of x) → Keeps r.op r zs → Keeps r.op s (zs ++ x ∷ [])
keeps_every r s zs x o e h = subst (λ op. Keeps op s (zs ++ x ∷ [])) (sym o) (let k : r.all ≡ every zs = subst (λ op. Keeps op r zs) o h in e ∙ ap (λ b. b && truth_of x) k ∙ sym (every-push zs x))

pub keeps_any : (r s : Running) (zs : List ℤ) (x : ℤ) → r.op ≡ Any → s.some ≡ (r.some || truth_of x) → Keeps r.op r zs → Keeps r.op s (zs ++ x ∷ [])
keeps_any r s zs x o e h = subst (λ op. Keeps op s (zs ++ x ∷ [])) (sym o) (let k : r.some ≡ any zs = subst (λ op. Keeps op r zs) o h in e ∙ ap (λ b. b || truth_of x) k ∙ sym (any-push zs x))

pub keeps_count : (r s : Running) (zs : List ℤ) (x : ℤ) → r.op ≡ Count → s.trues ≡ r.trues + cond (truth_of x) 1 0 → Keeps r.op r zs → Keeps r.op s (zs ++ x ∷ [])
keeps_count r s zs x o e h = subst (λ op. Keeps op s (zs ++ x ∷ [])) (sym o) (let k : r.trues ≡ trues zs = subst (λ op. Keeps op r zs) o h in e ∙ ap (λ n. n + cond (truth_of x) 1 0) k ∙ sym (trues-push zs x))

-- one more value
pub fed_value : (r s : Running) (outs : List Outcome) (x : ℤ) → s.op ≡ r.op → s.count ≡ r.count + 1 → s.fault ≡ r.fault → ((zs : List ℤ) → Keeps r.op r zs → Keeps r.op s (zs ++ x ∷ [])) → Fed r outs → Fed s (outs ++ Value x ∷ [])
fed_value r s outs x o n f k h =
    let v : values (outs ++ Value x ∷ []) ≡ values outs ++ x ∷ [] = values-append outs (Value x ∷ []) in
    record {
      counted = let l = length-append outs (Value x ∷ []) in omega (arith, h.counted, n, l);
      faulted = f ∙ h.faulted ∙ sym (else_none (first_fault outs)) ∙ sym (first_fault-append outs (Value x ∷ []));
      kept = subst (λ op. Keeps op s (values (outs ++ Value x ∷ []))) (sym o) (subst (Keeps r.op s) (sym v) (k (values outs) h.kept));
    }

-- what is kept looks only at these
pub record SameKept (r s : Running) : Type 0 where
  pub op : s.op ≡ r.op
  pub sum : s.sum ≡ r.sum
  pub product : s.product ≡ r.product
  pub best : s.best ≡ r.best
  pub all : s.all ≡ r.all
  pub some : s.some ≡ r.some
  pub trues : s.trues ≡ r.trues

same_keeps : (op : Aggregate) (r s : Running) (zs : List ℤ) → SameKept r s → Keeps op r zs → Keeps op s zs
same_keeps Sum r s zs e h = e.sum ∙ h
same_keeps Product r s zs e h = subst (λ p. StandsFor p zs) (sym e.product) h
same_keeps Greatest r s zs e h = e.best ∙ h
same_keeps Least r s zs e h = e.best ∙ h
same_keeps Every r s zs e h = e.all ∙ h
same_keeps Any r s zs e h = e.some ∙ h
same_keeps Count r s zs e h = e.trues ∙ h
same_keeps Average r s zs e h = e.sum ∙ h

-- one more fault
pub fed_fault : (r s : Running) (outs : List Outcome) (o : Outcome) (f : PointFault) → o ≡ Fault f → SameKept r s → s.count ≡ r.count + 1 → s.fault ≡ else_fault r.fault (Some f) → Fed r outs → Fed s (outs ++ o ∷ [])
fed_fault r s outs o f is k n e h =
    let v : values (outs ++ Fault f ∷ []) ≡ values outs = values-append outs (Fault f ∷ []) ∙ append-nil (values outs) in
    subst (λ u. Fed s (outs ++ u ∷ [])) (sym is) record {
      counted = let l = length-append outs (Fault f ∷ []) in omega (arith, h.counted, n, l);
      faulted = e ∙ ap (λ o. else_fault o (Some f)) h.faulted ∙ sym (first_fault-append outs (Fault f ∷ []));
      kept = subst (λ op. Keeps op s (values (outs ++ Fault f ∷ []))) (sym k.op) (subst (Keeps r.op s) (sym v) (same_keeps r.op r s (values outs) k h.kept));
    }

-- where there is no fault, each outcome is a value
pub length-values : (outs : List Outcome) → first_fault outs ≡ None → length (values outs) ≡ length outs
length-values [] h = refl
length-values (Fault f ∷ outs) h = cc
length-values (Value z ∷ outs) h = ap suc (length-values outs h)

pub and_of_true : (a b r : Bool) → a ≡ true → r ≡ b → r ≡ (a && b)
and_of_true a b r h e = e ∙ ap (λ x. x && b) (sym h)

pub and_of_false : (a b r : Bool) → a ≡ false → r ≡ false → r ≡ (a && b)
and_of_false a b r h e = e ∙ ap (λ x. x && b) (sym h)

pub or_of_true : (a b r : Bool) → a ≡ true → r ≡ true → r ≡ (a || b)
or_of_true a b r h e = e ∙ ap (λ x. x || b) (sym h)

pub or_of_false : (a b r : Bool) → a ≡ false → r ≡ b → r ≡ (a || b)
or_of_false a b r h e = e ∙ ap (λ x. x || b) (sym h)

-- the average at the end
pub finish_average : (r : Running) (outs : List Outcome) (o : Outcome) → r.op ≡ Average → r.fault ≡ None → Fed r outs → ((zs : List ℤ) → length zs ≡ r.count → r.sum ≡ total zs → o ≡ combined Average zs) → o ≡ condensed r.op outs
finish_average r outs o e n h f =
    let none : first_fault outs ≡ None = sym h.faulted ∙ n in
    let kept : r.sum ≡ total (values outs) = subst (λ op. Keeps op r (values outs)) e h.kept in
    f (values outs) (length-values outs none ∙ sym h.counted) kept
    ∙ sym (ap (λ x. fault_or x (combined Average (values outs))) none)
    ∙ ap (λ op. condensed op outs) (sym e)

-- the outcome at the next point
pub fed_more : (f : List ℤ → Outcome) (ps : List (List ℤ)) (place : ℕ) (o : Outcome) (r s : Running) → place < length ps → o ≡ f (get_or ps place []) → ((outs : List Outcome) → Fed r outs → Fed s (outs ++ o ∷ [])) → Fed r (take place (map f ps)) → Fed s (take (place + 1) (map f ps))
fed_more f ps place o r s lt e step h =
    let n : place < length (map f ps) = let l = length-map ps f in omega arith in
    let g : get_or (map f ps) place o ≡ o = get_or-map f ps place [] o lt ∙ sym e in
    subst (Fed s) (ap (λ z. take place (map f ps) ++ z ∷ []) (sym g) ∙ sym (take_more (map f ps) place o n)) (step _ h)

-- what the next point adds
pub fed_part : (f : List ℤ → List Outcome) (ps : List (List ℤ)) (place : ℕ) (part : List Outcome) (r s : Running) → place < length ps → part ≡ f (get_or ps place []) → ((outs : List Outcome) → Fed r outs → Fed s (outs ++ part)) → Fed r (flat_map f (take place ps)) → Fed s (flat_map f (take (place + 1) ps))
fed_part f ps place part r s lt e step h =
    subst (Fed s)
    (ap (λ z. flat_map f (take place ps) ++ z) e
    ∙ sym (ap (flat_map f) (take_more ps place [] lt) ∙ flat_map-append f (take place ps) (get_or ps place [] ∷ []) ∙ ap (λ z. flat_map f (take place ps) ++ z) (append-nil (f (get_or ps place [])))))
    (step _ h)

-- a point whose condition demands its value
pub fed-demanded : (r q s n : Running) (c o vc vb : Outcome) → s ≡ n → q ≡ r → c ≡ vc → o ≡ vb → ((value : Outcome) → demanded c value ≡ value ∷ []) → ((outs : List Outcome) → Fed q outs → Fed n (outs ++ o ∷ [])) → (outs : List Outcome) → Fed r outs → Fed s (outs ++ demanded vc vb)
fed-demanded r q s n c o vc vb is kept e f d add outs h =
    let part : o ∷ [] ≡ demanded vc vb = sym (d o) ∙ ap (λ v. demanded c v) f ∙ ap (λ u. demanded u vb) e in
    subst (λ u. Fed u (outs ++ demanded vc vb)) (sym is) (subst (λ l. Fed n (outs ++ l)) part (add outs (subst (λ u. Fed u outs) (sym kept) h)))

-- any other point with a condition
pub fed-otherwise : (r s n : Running) (c vc vb : Outcome) → s ≡ n → c ≡ vc → ((value : Outcome) (outs : List Outcome) → Fed r outs → Fed n (outs ++ demanded c value)) → (outs : List Outcome) → Fed r outs → Fed s (outs ++ demanded vc vb)
fed-otherwise r s n c vc vb is e other outs h =
    subst (λ u. Fed u (outs ++ demanded vc vb)) (sym is) (subst (λ u. Fed n (outs ++ demanded u vb)) e (other vb outs h))
