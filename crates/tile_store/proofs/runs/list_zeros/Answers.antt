-- One run of zeros stands for as many of them.
use Rattle.std.proofs.Common.{◌≡◌, ℕ, ◌<◌, ℤ, pos, List, [], ◌∷◌, ◌++◌, length, replicate, set, refl, ap, ◌∙◌, arith, append-nil, rules}
use Rattle.arr_core.specs.Runs.{spread, runs_of}
use Rattle.tile_store.proofs.runs.list_zeros.Goals as goal

spread-none : (values : List ℤ) → spread values [] ≡ []
spread-none [] = refl
spread-none (v ∷ vs) = refl

one-run : (values : List ℤ) (n : ℕ) → 0 < length values → runs_of (set values 0 (pos 0)) (n ∷ []) ≡ replicate n (pos 0)
one-run [] n some = absurd (omega arith)
one-run (v ∷ vs) n some = ap (λ (l : List ℤ). replicate n (pos 0) ++ l) (spread-none vs) ∙ append-nil (replicate n (pos 0))

pub returns-clause-zeros : goal.returns-clause-zeros
returns-clause-zeros c =
    let values = c.args.runs.now.values.items in
    let pushed : c.push.new.self.items ≡ c.args.count ∷ [] = search rules in
    ap (runs_of (set values 0 (pos 0))) pushed ∙ one-run values c.args.count (omega (arith, c.requires.some, c.requires.room))
