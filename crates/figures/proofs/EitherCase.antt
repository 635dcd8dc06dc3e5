-- Hex characters of either case are known from what they are read as, as far as their figures are decimal; and no character of F comes before the upper-case one. Assumes nothing.
use Rattle.std.proofs.Common.{ℕ, ◌/◌, ◌%◌, ◌≤◌, ◌<◌, ◌≡◌, sym, ap, ◌∙◌, ◌⊎◌, inl, inr, ⊎_elim, arith, leb-false, leb}
use Rattle.wire.specs.Choose.{choose}
use Rattle.wire.proofs.Cases.{by_choice}
use Rattle.wire.proofs.Lengths.{between_facts}
use Rattle.figures.specs.Figure.{decimal, hex, base, zero_char, nine_char, upper_a, upper_f, lower_a, lower_f, figure_of, char_of, pair_byte}
use Rattle.figures.proofs.Known.{char_figure}

-- a figure is an upper-case one, or its character is a lower-case letter
cases_of : (x : ℕ) → figure_of x < hex → (figure_of x < 16) ⊎ ((26 ≤ figure_of x) × (lower_a ≤ x))
unfolding figure_of
cases_of x =
    by_choice P _ _ _ (λ e _. inl (omega (arith, between_facts zero_char nine_char x e)))
    (λ _. by_choice P _ _ _ (λ e _. inl (omega (arith, between_facts upper_a upper_f x e)))
    (λ _. by_choice P _ _ _ (λ e _. inr (omega (arith, between_facts lower_a lower_f x e))) (λ _ h. let z : ⊥ = omega arith in absurd z)))
  where
    P : ℕ → Type 0
    P v = v < hex → (v < 16) ⊎ ((26 ≤ v) × (lower_a ≤ x))

-- a character whose value is a decimal figure
low_char : (x v : ℕ) → figure_of x < hex → figure_of x % base ≡ v → v < decimal → x ≡ char_of v
low_char x v h e l =
    ⊎_elim
    (λ (u : figure_of x < 16). let m : figure_of x ≡ v = omega (arith, e) in sym (char_figure x u) ∙ ap char_of m)
    (λ (u : (26 ≤ figure_of x) × (lower_a ≤ x)). let z : ⊥ = omega (arith, e, u) in absurd z)
    (cases_of x h)

-- a character whose value is F
last_char : (x : ℕ) → figure_of x < hex → figure_of x % base ≡ 15 → upper_f ≤ x
unfolding char_of choose
last_char x h e =
    ⊎_elim
    (λ (u : figure_of x < 16).
    let m : figure_of x ≡ 15 = omega (arith, e) in
    let c : x ≡ char_of 15 = sym (char_figure x u) ∙ ap char_of m in
    omega (arith, c))
    (λ (u : (26 ≤ figure_of x) × (lower_a ≤ x)). omega (arith, u))
    (cases_of x h)

-- two characters that are a byte
pair_values : (h l c : ℕ) → c < 256 → pair_byte hex h l ≡ c → ((figure_of h < hex) × (figure_of h % base ≡ c / base)) × ((figure_of l < hex) × (figure_of l % base ≡ c % base))
unfolding pair_byte
pair_values h l c most =
    by_choice P (leb hex (figure_of h)) _ _ (λ _ e. let z : ⊥ = omega arith in absurd z)
    (λ a. by_choice P (leb hex (figure_of l)) _ _ (λ _ e. let z : ⊥ = omega arith in absurd z)
    (λ b e.
    let x = leb-false hex (figure_of h) a in
    let y = leb-false hex (figure_of l) b in
    let u : figure_of h % base ≡ c / base = omega arith in
    let v : figure_of l % base ≡ c % base = omega arith in
    ((x, u), (y, v))))
  where
    P : ℕ → Type 0
    P n = n ≡ c → ((figure_of h < hex) × (figure_of h % base ≡ c / base)) × ((figure_of l < hex) × (figure_of l % base ≡ c % base))

pub low_pair : (h l c : ℕ) → c < 256 → c / base < decimal → c % base < decimal → pair_byte hex h l ≡ c → (h ≡ char_of (c / base)) × (l ≡ char_of (c % base))
low_pair h l c most a b e =
    let p = pair_values h l c most e in
    (low_char h (c / base) p.0.0 p.0.1 a, low_char l (c % base) p.1.0 p.1.1 b)

pub last_pair : (h l : ℕ) → pair_byte hex h l ≡ 255 → (upper_f ≤ h) × (upper_f ≤ l)
last_pair h l e =
    let p = pair_values h l 255 (omega arith) e in
    (last_char h p.0.0 p.0.1, last_char l p.1.0 p.1.1)
