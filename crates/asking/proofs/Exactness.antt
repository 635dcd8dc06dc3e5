-- `Exact`, from what a dialect owes for one reply. Assumes nothing.
use Rattle.std.proofs.Common.{◌≡◌, ℕ, ◌-◌, ◌≤◌, true, false, ◌⊎◌, List, length, sym, ap, ◌∙◌, ⊎_elim, arith}
use Rattle.wire.specs.Buffer.{put}
use Rattle.card.specs.Numbers.{frame_form, check_character}
use Rattle.asking.specs.Hearing.{Hearing, is_said}
use Rattle.asking.specs.Hearing.Hearing.{Unread}
use Rattle.asking.specs.Claims.{Dialect, Answers, Has, CheckWrong, Exact}

-- other check characters that make a reply an answer
pub record Mended (d : Dialect) (q : d.Request) (r : List ℕ) : Type 0 where
  pub characters : List ℕ
  pub size : length characters ≡ d.check_size q
  pub inside : d.check_back q ≤ length r
  pub says : Hearing
  pub answers : Answers d q says (put r (length r - d.check_back q) characters)

-- what a dialect owes for a reply
pub record Owed (d : Dialect) (q : d.Request) (r : List ℕ) : Type 0 where
  -- what is heard is said, 3 or 4
  pub total : (is_said (d.heard q r) ≡ true) ⊎ ((d.heard q r ≡ Unread frame_form) ⊎ (d.heard q r ≡ Unread check_character))
  -- what is said document 01 has, and what it has is said
  pub has : is_said (d.heard q r) ≡ true → Has d q (d.heard q r) r
  pub said : (h : Hearing) → Has d q h r → (is_said h ≡ true) × (d.heard q r ≡ h)
  -- 4: it can be mended; and what can be mended is said, or 4
  pub mends : d.heard q r ≡ Unread check_character → Mended d q r
  pub mended : Mended d q r → (is_said (d.heard q r) ≡ true) ⊎ (d.heard q r ≡ Unread check_character)

-- nothing that is not said is said
pub unsaid : {A : Type 0} (h : Hearing) (number : ℕ) → h ≡ Unread number → is_said h ≡ true → A
unsaid h number e s =
    let z : false ≡ true = ap is_said (sym e) ∙ s in
    let n : ◌≡◌ {A = ℕ} 0 1 = cc in
    let w : ⊥ = omega (arith, n) in absurd w

module _ (d : Dialect) (q : d.Request) (r : List ℕ) (o : Owed d q r) where
  -- a reply that is heard as a number is none that document 01 has
  none : (number : ℕ) → d.heard q r ≡ Unread number → (h : Hearing) → Has d q h r → ⊥
  none number e h x =
      let s = o.said h x in
      unsaid (d.heard q r) number e (ap is_said s.1 ∙ s.0)

  wrong : d.heard q r ≡ Unread check_character → CheckWrong d q r
  wrong e =
      let m = o.mends e in
      record { characters = m.characters; size = m.size; inside = m.inside; says = m.says; mended = m.answers; none = none check_character e }

  mendable : CheckWrong d q r → Mended d q r
  mendable w = record { characters = w.characters; size = w.size; inside = w.inside; says = w.says; answers = w.mended }

  right : CheckWrong d q r → d.heard q r ≡ Unread check_character
  right w =
      ⊎_elim (λ (s : is_said (d.heard q r) ≡ true). absurd (w.none (d.heard q r) (o.has s))) (λ (e : d.heard q r ≡ Unread check_character). e) (o.mended (mendable w))

  other : ((h : Hearing) → Has d q h r → ⊥) → (CheckWrong d q r → ⊥) → d.heard q r ≡ Unread frame_form
  other n w =
      ⊎_elim (λ (s : is_said (d.heard q r) ≡ true). absurd (n (d.heard q r) (o.has s)))
      (λ (x : (d.heard q r ≡ Unread frame_form) ⊎ (d.heard q r ≡ Unread check_character)).
      ⊎_elim (λ (e : d.heard q r ≡ Unread frame_form). e) (λ (e : d.heard q r ≡ Unread check_character). absurd (w (wrong e))) x)
      o.total

  not_four : d.heard q r ≡ Unread frame_form → CheckWrong d q r → ⊥
  not_four e w = let z : Unread frame_form ≡ Unread check_character = sym e ∙ right w in let n : ◌≡◌ {A = ℕ} 3 4 = cc in omega (arith, n)

  pub exact_from : Exact d q r
  exact_from =
      record {
        said = λ h s. (λ e. rw e at (o.has (rw e s)), λ x. (o.said h x).1);
        check = (wrong, right);
        form = (λ e. (none frame_form e, not_four e), λ x. other x.0 x.1);
      }
