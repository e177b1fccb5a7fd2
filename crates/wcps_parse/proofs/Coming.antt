-- How what a function comes to follows from what its parts come to.
use Rattle.std.proofs.Common.{◌≡◌, ℕ, zero, suc, ◌≤◌, List, Option, Some, None, option_and_then, Result, Ok, Err, refl, sym, ap, ◌∙◌, arith, max}
use Rattle.std.specs.Borrow.{Bor}
use Rattle.wcps_text.specs.declared.token.Token.{Token}
use Rattle.wcps_text.specs.Token.{toks}
use Rattle.wcps_parse.specs.Comes.{Comes}
use Rattle.wcps_parse.specs.declared.error.ParseError.{ParseError}
use Rattle.wcps_parse.specs.declared.error.ParseError.TheVariants.{BadSyntax, TooDeep, NoMemory}
use Rattle.wcps_parse.specs.declared.grown.Grown.{Grown}
use Rattle.wcps_parse.specs.Front.{Reading}
use Rattle.wcps_parse.specs.Fit.{Fails, Reads, ReadsAll}

pub comes_now : {A : Type 0} (a : A) → Comes (λ n m. a) a
comes_now a = record { from = 0; there = λ n m a b. refl }

round : {A : Type 0} (f : ℕ → ℕ → A) (a : A) (k : ℕ) → ((n m : ℕ) → k ≤ n → k ≤ m → f n (suc m) ≡ a) → (n m : ℕ) → suc k ≤ n → suc k ≤ m → f n m ≡ a
round f a k h n zero le lt = absurd (omega arith)
round f a k h n (suc m) le lt = h n m (omega arith) (omega arith)

-- a loop that goes round once
pub comes_suc : {A : Type 0} {f : ℕ → ℕ → A} {a : A} → Comes (λ n m. f n (suc m)) a → Comes f a
comes_suc {f} {a} c = record { from = suc c.from; there = round f a c.from c.there }

deeper : {A : Type 0} (f g : ℕ → ℕ → A) (a : A) (k : ℕ) → ((n m : ℕ) → f (suc n) m ≡ g n n) → ((n m : ℕ) → k ≤ n → k ≤ m → g n m ≡ a) → (n m : ℕ) → suc k ≤ n → suc k ≤ m → f n m ≡ a
deeper f g a k e h zero m le lt = absurd (omega arith)
deeper f g a k e h (suc n) m le lt = e n m ∙ h n n (omega arith) (omega arith)

-- a call that goes one deeper, where its loops are bounded as its calls are
pub comes_deeper : {A : Type 0} {f g : ℕ → ℕ → A} {a : A} → ((n m : ℕ) → f (suc n) m ≡ g n n) → Comes g a → Comes f a
comes_deeper {f = f} {g = g} {a = a} e c = record { from = suc c.from; there = deeper f g a c.from e c.there }

-- what does not depend on the first bound may take the first one for the second
pub comes_first : {A : Type 0} {f : ℕ → A} {a : A} → Comes (λ n m. f m) a → Comes (λ n m. f n) a
comes_first c = record { from = c.from; there = λ n m le lt. c.there m n lt le }

pub comes_then : {A B : Type 0} {f : ℕ → ℕ → Option A} {o : Option A} {b : Option B} (g : ℕ → ℕ → A → Option B) → Comes f o → Comes (λ n m. option_and_then (g n m) o) b → Comes (λ n m. option_and_then (g n m) (f n m)) b
comes_then g c d = record {
  from = max c.from d.from;
  there = λ n m le lt. ap (option_and_then (g n m)) (c.there n m (omega arith) (omega arith)) ∙ d.there n m (omega arith) (omega arith);
}

-- a limit is one
pub comes_one : {A : Type 0} {f : ℕ → ℕ → A} {a b : A} → Comes f a → Comes f b → a ≡ b
comes_one c d = sym (c.there (max c.from d.from) (max c.from d.from) (omega arith) (omega arith)) ∙ d.there (max c.from d.from) (max c.from d.from) (omega arith) (omega arith)

pub fails_then : {Y Z : Type 0} {f : ℕ → ℕ → Option Y} {g : ℕ → ℕ → Option Z} (e : ParseError) → Fails e f → (Comes f None → Comes g None) → Fails e g
fails_then BadSyntax h k = k h
fails_then TooDeep h k = h
fails_then NoMemory h k = tt

pub reads_then : {T M : Type 0} {f g : ℕ → ℕ → Reading M} (Fits : Grown T → M → Type 0) (r : Result (Grown T × Bor (List Token)) ParseError) → Reads Fits r f
    → ((o : Reading M) → Comes f o → Comes g o) → Reads Fits r g
reads_then Fits (Ok x) h k = record { whole = h.whole; fit = h.fit; comes = k (Some (h.whole, toks x.1.now)) h.comes }
reads_then Fits (Err e) h k = fails_then e h (k None)

pub reads_all_then : {T M : Type 0} {f g : ℕ → ℕ → Option M} (Fits : Grown T → M → Type 0) (r : Result (Grown T) ParseError) → ReadsAll Fits r f
    → ((o : Option M) → Comes f o → Comes g o) → ReadsAll Fits r g
reads_all_then Fits (Ok x) h k = record { whole = h.whole; fit = h.fit; comes = k (Some h.whole) h.comes }
reads_all_then Fits (Err e) h k = fails_then e h (k None)
