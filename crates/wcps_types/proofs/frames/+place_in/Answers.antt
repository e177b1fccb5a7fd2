-- A name is found outside first, and else behind all names that are outside.
use Rattle.std.proofs.Common.{◌≡◌, ◌+◌, ◌-◌, ◌++◌, ℕ, List, length, length-append, arith, Some, None, option_map, ap, ◌∙◌, sym}
use Rattle.std.specs.Str.{bytes_eq}
use Rattle.wcps_types.specs.declared.frames.Frames.{Frames}
use Rattle.wcps_types.specs.Names.{name_place}
use Rattle.wcps_types.specs.Frames.{names_in}
use Rattle.wcps_types.proofs.Places.{position-first, position-second}
use Rattle.wcps_types.proofs.frames.+place_in.Goals as goal

pub returns-in-Some : goal.returns-in-Some
returns-in-Some t c =
    let outside : name_place c.args.name.now (names_in c.in-Within.outer.now) ≡ Some c.in-Some.place = sym c.place_in.ensures ∙ c.in-Some.is in
    rw c.in-Within.is (sym (position-first (λ (n : List ℕ). bytes_eq n c.args.name.now) (names_in c.in-Within.outer.now) c.in-Within.names.now c.in-Some.place outside))

pub returns-in-None : goal.returns-in-None
returns-in-None t c =
    let outer = names_in c.in-Within.outer.now in
    let names = c.in-Within.names.now in
    let outside : name_place c.args.name.now outer ≡ None = sym c.place_in.ensures ∙ c.in-None.is in
    let all : names_in c.args.frames.now ≡ outer ++ names = ap (λ (f : Frames). names_in f) c.in-Within.is in
    let many : c.args.count ≡ length outer + length names = c.requires ∙ ap length all ∙ length-append outer names in
    let before : c.args.count - length names ≡ length outer = omega arith in
    let behind : c.place_behind.result ≡ option_map (λ k. (c.args.count - length names) + k) (name_place c.args.name.now names) = c.place_behind.ensures in
    behind ∙ ap (λ n. option_map (λ k. n + k) (name_place c.args.name.now names)) before
    ∙ sym (position-second (λ (n : List ℕ). bytes_eq n c.args.name.now) outer names outside) ∙ ap (name_place c.args.name.now) (sym all)
