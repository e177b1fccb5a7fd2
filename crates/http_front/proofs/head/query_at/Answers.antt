-- The query part is what stands behind the path and its question mark, which are five bytes.
use Rattle.std.proofs.Common.{◌≡◌, ◌≤◌, ◌+◌, ◌-◌, true, false, length, drop, Ok, ap, ◌∙◌, sym, arith, rules}
use Rattle.std.specs.Prelude.{bytes_eq, codes, nat_eq, slice_range}
use Rattle.std.specs.List.{starts_with}
use Rattle.std.proofs.lemmas.List.{length-take}
use Rattle.http_front.proofs.HeadLemmas.{query_after, range_after}
use Rattle.http_front.proofs.head.query_at.Goals as goal

pub returns-then-starts_with-clause-asked : goal.returns-then-starts_with-clause-asked
returns-then-starts_with-clause-asked c =
    let text = slice_range c.args.bytes.now c.args.target.start c.args.target.end in
    let differs : bytes_eq text (codes "/ows") ≡ false = search rules in
    let begins : starts_with nat_eq text (codes "/ows?") ≡ true = search rules in
    let five : c.args.target.start + 5 ≤ c.args.target.end =
    omega (arith, c.starts_with.ensures.bound c.if-starts_with.true, ap length c.of-text.ensures, length-take (c.args.target.end - c.args.target.start) (drop c.args.target.start c.args.bytes.now)) in
    ap Ok (range_after c.args.bytes.now c.args.target.start c.args.target.end 5 five) ∙ sym (query_after text differs begins)
