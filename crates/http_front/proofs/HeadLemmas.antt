-- The parts of a target.
use Rattle.std.proofs.Common.{◌≡◌, ℕ, ◌+◌, ◌-◌, ◌≤◌, true, false, List, take, drop, Ok, sym, ap, ◌∙◌, arith}
use Rattle.std.specs.Prelude.{bytes_eq, codes, nat_eq, slice_range}
use Rattle.std.specs.List.{starts_with}
use Rattle.std.proofs.lemmas.List.{drop-drop, drop-take}
use Rattle.http_front.specs.Head.{query_of}

pub query_after : (target : List ℕ) → bytes_eq target (codes "/ows") ≡ false
    → starts_with nat_eq target (codes "/ows?") ≡ true → query_of target ≡ Ok (drop 5 target)
query_after target e f = rw (e, f)

pub range_after : (xs : List ℕ) (start end count : ℕ) → start + count ≤ end
    → slice_range xs (start + count) end ≡ drop count (slice_range xs start end)
range_after xs start end count inside =
    let parts : end - start ≡ count + (end - (start + count)) = omega arith in
    sym (ap (λ j. drop count (take j (drop start xs))) parts ∙ drop-take count _ (drop start xs)
    ∙ ap (take (end - (start + count))) (drop-drop count start xs))
