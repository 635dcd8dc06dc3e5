-- An answer that is written piece by piece, and sent unless the address is collective. Assumes nothing.
use Rattle.std.proofs.Common.{◌≡◌, ℕ, ◌+◌, ◌-◌, ◌<◌, ◌≤◌, Bool, true, false, List, [], ◌∷◌, ◌++◌, length, set, sym, refl, ap, ◌∙◌, ap₂, append_assoc, arith, length-append, length-drop, length-take}
use Rattle.wire.specs.Buffer.{put, part}
use Rattle.wire.proofs.Cases.{yes, no}
use Rattle.wire.proofs.Buffers.{overlay_rest, put_set, part_append, part_front, take_put, part_put}
use Rattle.figures.specs.Signed.{text_of, longest_text}
use Rattle.figures.proofs.Texts.{text_length}
use Rattle.card.specs.Numbers.{answered, done}
use Rattle.card.specs.Reply.{Wrote, Told, GaveWords, leaving}
use Rattle.card.proofs.Replies.{wrote_none, wrote_one, wrote_as, wrote_put, told_as, gave_leaving}
use Rattle.lecom.specs.Form.{stx, etx, extended_hex}
use Rattle.lecom.specs.Frame.{collective, code_at, code_end, code_of, bcc_of}
use Rattle.lecom.specs.Answer.{closed, value_body, value_bytes, refusal_bytes, quietly, done_by, refused_by}
use Rattle.lecom.proofs.Frames.{bounds}

-- a code is as long as its places are apart, at most "!" and six characters
pub code_length : (f : List ℕ) → code_end f ≤ length f → length (code_of f) ≡ code_end f - code_at f
unfolding code_of
code_length f h = simp (length-take, length-drop) (omega (arith, bounds f))

pub code_most : (f : List ℕ) → code_end f ≤ length f → length (code_of f) ≤ 1 + extended_hex
code_most f h = omega (arith, bounds f, code_length f h)

-- STX, and the code copied after it
pub wrote_code : (f out : List ℕ) (at end : ℕ) (out' : List ℕ) → at ≡ code_at f → end ≡ code_end f → code_end f ≤ length f → 0 < length out → out' ≡ put (set out 0 stx) 1 (part f at end)
    → Wrote (stx ∷ code_of f) out (1 + (end - at)) out'
unfolding code_of
wrote_code f out at end out' a e h l p =
    let n : 1 + (end - at) ≡ 1 + length (code_of f) = omega (arith, code_length f h) in
    let q : part f at end ≡ code_of f = rw (a, e) in
    rw (n, p, q) (wrote_put (stx ∷ []) out (wrote_one stx out l) (code_of f))

-- a value's text has at most `longest_text` characters
pub text_most : (value : ℕ) {k : ℕ} → k ≡ length (text_of value) → k ≤ longest_text
text_most value e = omega (arith, e, text_length value)

pub closed_length : (code : List ℕ) (value : ℕ) → length (closed code value) ≡ length (text_of value) + 2
unfolding closed
closed_length code value = simp length-append (omega arith)

-- a value's k characters, ETX and the BCC written behind a code
pub put_closed : (d : List ℕ) (at text value k check : ℕ) (d₁ : List ℕ) → at ≤ text → k ≡ length (text_of value) → d₁ ≡ put d text (text_of value) → text + k + 1 < length d
    → check ≡ bcc_of (part (set d₁ (text + k) etx) at (text + k + 1)) → set (set d₁ (text + k) etx) (text + k + 1) check ≡ put d text (closed (part d at text) value)
unfolding closed
put_closed d at text value k check d₁ l n e h c =
    let t = text_of value in
    let b = t ++ (etx ∷ []) in
    let a : text + k ≡ text + length t = omega (arith, n) in
    let m : text + k + 1 ≡ text + length b = simp length-append (omega (arith, n)) in
    let x : set d₁ (text + k) etx ≡ put d text b = rw (e, a) (put_set d text t etx (omega (arith, n))) in
    let code : part (put d text b) at text ≡ part d at text = part_front (put d text b) d text (take_put d text b (omega (arith, m)) text (omega arith)) at text l (omega arith) in
    let data' : part (put d text b) text (text + k + 1) ≡ b = ap (part (put d text b) text) m ∙ part_put d text b (omega (arith, m)) in
    let over : part (put d text b) at (text + k + 1) ≡ part d at text ++ b = sym (part_append (put d text b) at text (text + k + 1) l (omega arith)) ∙ ap₂ (λ (p q : List ℕ). p ++ q) code data' in
    let y : check ≡ bcc_of (part d at text ++ b) = c ∙ ap bcc_of (ap (λ (p : List ℕ). part p at (text + k + 1)) x ∙ over) in
    ap (λ (p : List ℕ). set p (text + k + 1) check) x ∙ ap (λ (i : ℕ). set (put d text b) i check) m ∙ ap (set (put d text b) (text + length b)) y
    ∙ put_set d text b (bcc_of (part d at text ++ b)) (omega (arith, m))

-- the same behind STX and the code as received
pub wrote_value : (f out out₁ : List ℕ) (value at : ℕ) {len : ℕ} {out₂ : List ℕ} → Wrote (stx ∷ code_of f) out at out₁ → len ≡ at + length (closed (part out₁ 1 at) value)
    → out₂ ≡ put out₁ at (closed (part out₁ 1 at) value) → Wrote (value_bytes f value) out len out₂
unfolding value_bytes value_body closed
wrote_value f out out₁ value at w n p =
    let e : at - 1 ≡ length (code_of f) = omega (arith, w.measured) in
    let c : part out₁ 1 at ≡ code_of f = rw (e, w.written) (overlay_rest stx (code_of f) out) in
    let b = text_of value ++ (etx ∷ []) in
    let same : (stx ∷ code_of f) ++ (b ++ (bcc_of (code_of f ++ b) ∷ [])) ≡ (stx ∷ (code_of f ++ b)) ++ (bcc_of (code_of f ++ b) ∷ []) = sym (append_assoc (stx ∷ code_of f) b _) in
    wrote_as _ _ same (rw (n, p, c) (wrote_put (stx ∷ code_of f) out w (b ++ (bcc_of (code_of f ++ b) ∷ []))))

-- a frame to a collective address: no byte
pub done_quiet : (quiet : Bool) (bytes out : List ℕ) → quiet ≡ true → Told (done_by quiet bytes) out done 0 out
unfolding done_by
done_quiet quiet bytes out h = told_as _ _ (yes _ _ _ _ h refl) (record { numbered = refl; wrote = wrote_none out })

pub refused_quiet : (f : List ℕ) (number : ℕ) (out : List ℕ) → collective f ≡ true → Told (refused_by f number) out number 0 out
unfolding refused_by
refused_quiet f number out h = told_as _ _ (yes _ _ _ _ h refl) (record { numbered = refl; wrote = wrote_none out })

-- a frame to the unit's own: the bytes
pub done_sent : (quiet : Bool) (bytes out : List ℕ) {len : ℕ} {out' : List ℕ} → quiet ≡ false → Wrote bytes out len out' → Told (done_by quiet bytes) out answered len out'
unfolding done_by
done_sent quiet bytes out h w = told_as _ _ (no _ _ _ _ h refl) (record { numbered = refl; wrote = w })

pub refused_sent : (f : List ℕ) (number : ℕ) (out : List ℕ) {len : ℕ} {out' : List ℕ} → collective f ≡ false → Wrote (refusal_bytes f number) out len out'
    → Told (refused_by f number) out number len out'
unfolding refused_by
refused_sent f number out h w = told_as _ _ (no _ _ _ _ h refl) (record { numbered = refl; wrote = w })

-- a refusal with no byte
pub gave_quietly : (words : List ℕ) (number : ℕ) (out : List ℕ) → GaveWords (leaving words (quietly number)) out number 0 words out
gave_quietly words number out = gave_leaving words (quietly number) out (record { numbered = refl; wrote = wrote_none out })
