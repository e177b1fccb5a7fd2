-- Cells of an item, one before others and a few before others.
use Rattle.std.proofs.Common.{◌≡◌, ℕ, zero, suc, ◌+◌, ◌-◌, ◌<◌, ◌≤◌, List, [], ◌∷◌, ◌++◌, length, take, drop, get_or, refl, sym, ap, ◌∙◌, arith, append_assoc, length-take, length-drop}
use Rattle.std.proofs.lemmas.List.{take-append-drop}
use Rattle.arr_core.specs.declared.cell.Cell.{Cell}
use Rattle.csv_out.specs.Csv.{cell_text, separator, cells_text}

-- a list from a place on is its element there and the rest
drop-at : (cells : List Cell) (k : ℕ) (d : Cell) → k < length cells → drop k cells ≡ get_or cells k d ∷ drop (suc k) cells
drop-at [] k d h = absurd (omega arith)
drop-at (c ∷ cells) zero d h = refl
drop-at (c ∷ cells) (suc k) d h = drop-at cells k d (omega arith)

-- a cell, what stands after it, and the cells after it
pub cell-before : (fields line n m k j : ℕ) (cells : List Cell) (c d : Cell) (mark : ℕ) (rest mid all : List ℕ) → k < length cells → c ≡ get_or cells k d → j ≡ suc k → m ≡ suc n → mark ∷ [] ≡ separator fields line m → rest ≡ cells_text fields line m (drop j cells) → mid ≡ mark ∷ rest → all ≡ cell_text c ++ mid → all ≡ cells_text fields line n (drop k cells)
cell-before fields line n m k j cells c d mark rest mid all lt is ej em sep r e a =
    let after = cells_text fields line (suc n) (drop (suc k) cells) in
    let here = separator fields line (suc n) in
    let rests : rest ≡ after = r ∙ ap (λ (i : ℕ). cells_text fields line m (drop i cells)) ej ∙ ap (λ (i : ℕ). cells_text fields line i (drop (suc k) cells)) em in
    let marks : mark ∷ [] ≡ here = sep ∙ ap (separator fields line) em in
    a ∙ ap (λ (xs : List ℕ). cell_text c ++ xs) (e ∙ ap (λ (xs : List ℕ). mark ∷ xs) rests ∙ ap (λ (xs : List ℕ). xs ++ after) marks)
    ∙ sym (append_assoc (cell_text c) here after)
    ∙ ap (λ (x : Cell). (cell_text x ++ here) ++ after) is
    ∙ ap (cells_text fields line n) (sym (drop-at cells k d lt))

cells_text-append : (fields line n : ℕ) (xs ys : List Cell) → cells_text fields line n (xs ++ ys) ≡ cells_text fields line n xs ++ cells_text fields line (n + length xs) ys
cells_text-append fields line n [] ys = ap (λ (m : ℕ). cells_text fields line m ys) (omega arith)
cells_text-append fields line n (c ∷ xs) ys =
    let front = cell_text c ++ separator fields line (suc n) in
    let e : suc n + length xs ≡ n + suc (length xs) = omega arith in
    ap (λ (t : List ℕ). front ++ t) (cells_text-append fields line (suc n) xs ys)
    ∙ sym (append_assoc front (cells_text fields line (suc n) xs) (cells_text fields line (suc n + length xs) ys))
    ∙ ap (λ (m : ℕ). (front ++ cells_text fields line (suc n) xs) ++ cells_text fields line m ys) e

drop-none : (n : ℕ) → drop {A = Cell} n [] ≡ []
drop-none zero = refl
drop-none (suc n) = refl

drop-drop : (cells : List Cell) (k n m : ℕ) → m ≡ k + n → drop n (drop k cells) ≡ drop m cells
drop-drop [] k n m e = ap (drop n) (drop-none k) ∙ drop-none n ∙ sym (drop-none m)
drop-drop (c ∷ cells) zero n m e = ap (λ (i : ℕ). drop i (c ∷ cells)) (omega (arith, e))
drop-drop (c ∷ cells) (suc k) n zero e = absurd (omega (arith, e))
drop-drop (c ∷ cells) (suc k) n (suc m) e = drop-drop cells k n m (omega (arith, e))

-- a few cells more were printed
pub few-more : (text piece new whole : List ℕ) (fields line k e : ℕ) (cells part : List Cell) → k ≤ e → e ≤ length cells → part ≡ take (e - k) (drop k cells) → piece ≡ cells_text fields line k part → new ≡ text ++ piece → text ++ cells_text fields line k (drop k cells) ≡ whole → new ++ cells_text fields line e (drop e cells) ≡ whole
few-more text piece new whole fields line k e cells part up inside is printed grown h =
    let few = take (e - k) (drop k cells) in
    let far : k + (e - k) ≡ e = omega arith in
    let split : few ++ drop e cells ≡ drop k cells =
    ap (λ (ys : List Cell). few ++ ys) (sym (drop-drop cells k (e - k) e (sym far))) ∙ take-append-drop (e - k) (drop k cells) in
    let count : e ≡ k + length few = omega (arith, length-take (e - k) (drop k cells), length-drop k cells) in
    let here : piece ≡ cells_text fields line k few = printed ∙ ap (cells_text fields line k) is in
    ap (λ (xs : List ℕ). xs ++ cells_text fields line e (drop e cells)) (grown ∙ ap (λ (xs : List ℕ). text ++ xs) here)
    ∙ ap (λ (m : ℕ). (text ++ cells_text fields line k few) ++ cells_text fields line m (drop e cells)) count
    ∙ append_assoc text (cells_text fields line k few) (cells_text fields line (k + length few) (drop e cells))
    ∙ ap (λ (xs : List ℕ). text ++ xs) (sym (cells_text-append fields line k few (drop e cells)) ∙ ap (cells_text fields line k) split)
    ∙ h
