-- The text has the name of each coverage on a line, in the store's order.
use Rattle.std.proofs.Common.{◌≤◌, ◌++◌, [], List, ℕ, length, refl, ap, ◌∙◌, arith, append_assoc, take_all}
use Rattle.std.specs.Prelude.{codes, string_bytes}
use Rattle.std.specs.List.{flat_map}
use Rattle.std.proofs.lemmas.List.{length-map}
use Rattle.arr_core.specs.declared.signature.Signature.{Signature}
use Rattle.raster_store.specs.Calls.{signature_of}
use Rattle.coverage_server.specs.Views.{signatures_of}
use Rattle.coverage_server.proofs.ClosingLemmas.{one_further}
use Rattle.coverage_server.proofs.MachineLemmas.{lines_alike}
use Rattle.coverage_server.proofs.requests.list.Goals as goal

pub loop-place-preserved : goal.loop-place-preserved
loop-place-preserved g c =
    let s = c.at.result.now in
    let before = string_bytes c.loop-place.text in
    let name = c.in_ok-push_str.ensures.bytes ∙ ap (λ (l : List ℕ). before ++ l) c.as_str.ensures.value in
    let line = c.in_ok-push_str-2.ensures.bytes ∙ ap (λ (l : List ℕ). l ++ codes "\n") name ∙ append_assoc before s.name (codes "\n") in
    one_further (λ (t : Signature). t.name ++ codes "\n") [] before (string_bytes c.push_str-in-loop-place.new.self) (signatures_of c.args.coverages.now.store) c.loop-place.place s c.at.ensures c.loop-place.invariant line

pub returns-clause-answered : goal.returns-clause-answered
returns-clause-answered g c =
    let listed = signatures_of c.args.coverages.now.store in
    let all : length listed ≤ c.loop-place.place = omega (arith, length-map c.args.coverages.now.store signature_of) in
    λ sound. (
      c.loop-place.invariant
          ∙ ap (flat_map (λ (s : Signature). s.name ++ codes "\n")) (take_all c.loop-place.place listed all)
          ∙ lines_alike c.args.coverages.now.store,
      refl,
    )
