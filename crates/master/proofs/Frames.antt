-- Laws of specs/Frames.antt: the data of a change, when two lists are the same, and when an answer is a response or an echo. Assumes nothing.
use Rattle.std.proofs.Common.{◌≡◌, refl, sym, ap, ◌∙◌, subst, Bool, true, false, ◌&&◌, List, [], ◌∷◌, ◌++◌, append_assoc, ℕ, zero, suc, ◌+◌, ◌-◌, ◌*◌, ◌%◌, ◌/◌, ◌≤◌, ◌<◌, add-one, arith, eq-eqb, eqb-true, eqb, lit≤, length, get_or, take, drop, set, length-append, length-take, length-drop, drop_of_length-le, drop-cons, take_all, take-suc, take-add, length-take-le}
use Prim.{tt}
use borrow.Author.Tests.{eqb-false}
use lib.Seq.{take-append_seam}
use Rattle.wire.proofs.Same.{same_refl, same_true}
use Rattle.wire.proofs.Tests.{and_true, both, and_assoc, and_true_right, same_test}
use Rattle.wire.specs.Buffer.{overlay, same, part}
use Rattle.wire.specs.Sum.{sum_of, byte_values}
use Rattle.wire.proofs.Buffers.{overlay_set, part_append}
use Rattle.card.specs.Layout.{data_most}
use Rattle.datalink.specs.Form.{start, framed, response_bits, second_at, frame_data_at}
use Rattle.datalink.specs.Answer.{response}
use Rattle.datalink.proofs.Writes.{framed_length}
use Rattle.master.specs.Request.{Ask, Request, ask_in, named_by, named_most, paired, as_asked}
use Rattle.master.specs.Request.Ask.{bytes, bits}
use Rattle.master.specs.Frames.{pairs, data_of, command_of, body, change_frame, echo, is_echo, data_in, responds, shown_in, all_asked}
use Rattle.master.specs.declared.request.Kind.TheVariants.{Bytes, Bits}
use Rattle.master.specs.Askable.{asked_by}
use Rattle.master.specs.declared.request.Askable.{Askable}

-- masks and states by turns

pub pairs_length : (masks states : List ℕ) → length masks ≡ length states → length (pairs masks states) ≡ 2 * length masks
pairs_length [] states e = refl
pairs_length (m ∷ masks) [] e = let z : ⊥ = omega arith in absurd z
pairs_length (m ∷ masks) (s ∷ states) e = omega (arith, pairs_length masks states (omega arith))

-- mask and state i
pub pairs_at : (masks states : List ℕ) (i : ℕ) → length masks ≡ length states → i < length masks
    → (get_or (pairs masks states) (2 * i) 0 ≡ get_or masks i 0) × (get_or (pairs masks states) (2 * i + 1) 0 ≡ get_or states i 0)
pairs_at [] states i e h = let z : ⊥ = omega arith in absurd z
pairs_at (m ∷ masks) [] i e h = let z : ⊥ = omega arith in absurd z
pairs_at (m ∷ masks) (s ∷ states) zero e h = (refl, refl)
pairs_at (m ∷ masks) (s ∷ states) (suc i) e h =
    let r = pairs_at masks states i (omega arith) (omega arith) in
    let a : 2 * suc i ≡ suc (suc (2 * i)) = omega arith in
    let b : 2 * suc i + 1 ≡ suc (suc (2 * i + 1)) = omega arith in
    (ap (λ (j : ℕ). get_or (m ∷ s ∷ pairs masks states) j 0) a ∙ r.0, ap (λ (j : ℕ). get_or (m ∷ s ∷ pairs masks states) j 0) b ∙ r.1)

pairs_next : (masks states : List ℕ) (i : ℕ) → i < length masks → i < length states
    → pairs (take (suc i) masks) (take (suc i) states) ≡ pairs (take i masks) (take i states) ++ (get_or masks i 0 ∷ get_or states i 0 ∷ [])
pairs_next [] states i h k = let z : ⊥ = omega arith in absurd z
pairs_next (m ∷ masks) [] i h k = let z : ⊥ = omega arith in absurd z
pairs_next (m ∷ masks) (s ∷ states) zero h k = refl
pairs_next (m ∷ masks) (s ∷ states) (suc i) h k = ap (λ (l : List ℕ). m ∷ s ∷ l) (pairs_next masks states i (omega arith) (omega arith))

-- one more mask and state stored after the others
pub pair_stored : (masks states out : List ℕ) (i : ℕ) → i < length masks → length masks ≡ length states → length masks + length masks ≤ length out
    → set (set (overlay (pairs (take i masks) (take i states)) out) (2 * i) (get_or masks i 0)) (2 * i + 1) (get_or states i 0)
    ≡ overlay (pairs (take (suc i) masks) (take (suc i) states)) out
pair_stored masks states out i h e room =
    let m = get_or masks i 0 in
    let s = get_or states i 0 in
    let ps = pairs (take i masks) (take i states) in
    let a : length (take i masks) ≡ i = simp length-take (omega arith) in
    let b : length (take i states) ≡ i = simp length-take (omega arith) in
    let n : 2 * i ≡ length ps = omega (arith, pairs_length (take i masks) (take i states) (a ∙ sym b)) in
    let k : 2 * i + 1 ≡ length (ps ++ (m ∷ [])) = simp length-append (omega arith) in
    ap (λ (j : ℕ). set (set (overlay ps out) j m) (2 * i + 1) s) n
    ∙ ap (λ (l : List ℕ). set l (2 * i + 1) s) (overlay_set ps out m (omega arith))
    ∙ ap (λ (j : ℕ). set (overlay (ps ++ (m ∷ [])) out) j s) k
    ∙ overlay_set (ps ++ (m ∷ [])) out s (omega arith)
    ∙ ap (λ (l : List ℕ). overlay l out) (append_assoc ps (m ∷ []) (s ∷ []) ∙ sym (pairs_next masks states i h (omega arith)))

-- the request's change, kind by kind
module _ (r : Askable) (command : ℕ) (told : command ≡ command_of (ask_in r.ask)) where
  pub change_bytes : r.ask.kind ≡ Bytes → framed (command + r.ia) (body (length r.ask.sent.now) r.address r.ask.sent.now) ≡ change_frame (asked_by r)
  unfolding change_frame
  change_bytes e = rw (told, e)

  pub change_bits_law : (d : List ℕ) → r.ask.kind ≡ Bits → length r.ask.sent.now ≡ length r.ask.states.now → d ≡ pairs r.ask.sent.now r.ask.states.now
      → framed (command + r.ia) (body (2 * length r.ask.sent.now) r.address d) ≡ change_frame (asked_by r)
  unfolding change_frame
  change_bits_law d e l p = rw (told, e, p, pairs_length r.ask.sent.now r.ask.states.now l)

pub few_of : (a : Ask) → named_by a ≤ named_most a → paired a ≡ true → length (data_of a) ≤ data_most
few_of (bytes sent) h e = h
few_of (bits masks states) h e = omega (arith, pairs_length masks states (eqb-true (length masks) (length states) e))

-- two lists of bytes

pub same_append : (xs us ys vs : List ℕ) → length xs ≡ length us → same (xs ++ ys) (us ++ vs) ≡ (same xs us && same ys vs)
unfolding same
same_append [] [] ys vs e = refl
same_append [] (u ∷ us) ys vs e = let z : ⊥ = omega arith in absurd z
same_append (x ∷ xs) [] ys vs e = let z : ⊥ = omega arith in absurd z
same_append (x ∷ xs) (u ∷ us) ys vs e = rw (same_append xs us ys vs (omega arith)) (and_assoc (eqb x u) (same xs us) (same ys vs))

same_one : (x y : ℕ) → same (x ∷ []) (y ∷ []) ≡ eqb x y
unfolding same
same_one x y = and_true_right (eqb x y)

-- compared from the front, with masks and states by turns
pub turns_next : (ok : Bool) (shown masks states : List ℕ) (i : ℕ) → length masks ≡ length states → length shown ≡ 2 * length masks → i < length masks
    → (ok && same (drop (2 * i) shown) (pairs (drop i masks) (drop i states)))
    ≡ ((ok && (eqb (get_or shown (2 * i) 0) (get_or masks i 0) && eqb (get_or shown (2 * i + 1) 0) (get_or states i 0)))
    && same (drop (2 * suc i) shown) (pairs (drop (suc i) masks) (drop (suc i) states)))
unfolding same
turns_next ok shown masks states i e l h =
    let mask = eqb (get_or shown (2 * i) 0) (get_or masks i 0) in
    let state = eqb (get_or shown (suc (2 * i)) 0) (get_or states i 0) in
    let rest = same (drop (suc (suc (2 * i))) shown) (pairs (drop (suc i) masks) (drop (suc i) states)) in
    let next : 2 * suc i ≡ suc (suc (2 * i)) = omega arith in
    rw (next, add-one (2 * i), drop-cons shown (2 * i) 0 (omega arith), drop-cons shown (suc (2 * i)) 0 (omega arith), drop-cons masks i 0 h, drop-cons states i 0 (omega arith))
    (ap (λ (t : Bool). ok && t) (and_assoc mask state rest) ∙ and_assoc ok (mask && state) rest)

pub turns_end : (ok : Bool) (shown masks states : List ℕ) (i : ℕ) → length shown ≤ 2 * i → length masks ≤ i
    → (ok && same (drop (2 * i) shown) (pairs (drop i masks) (drop i states))) ≡ ok
unfolding same
turns_end ok shown masks states i h k = rw (drop_of_length-le shown h, drop_of_length-le masks k) (and_true_right ok)

-- every byte read as asked, byte by byte

pub asked_all : (a : Ask) (read : List ℕ) (k : ℕ) → all_asked a read k ≡ true → (i : ℕ) → i < k → as_asked a (get_or read i 0) i ≡ get_or read i 0
unfolding all_asked
asked_all a read zero e i h = let z : ⊥ = omega arith in absurd z
asked_all a read (suc k) e i h =
    let p = and_true (all_asked a read k) (eqb (as_asked a (get_or read k 0) k) (get_or read k 0)) e in
    by (eqb i k) refl (asked_all a read k p.0 i) (eqb-true (as_asked a (get_or read k 0) k) (get_or read k 0) p.1)
  where
    by : (t : Bool) → eqb i k ≡ t → (i < k → as_asked a (get_or read i 0) i ≡ get_or read i 0) → as_asked a (get_or read k 0) k ≡ get_or read k 0 → as_asked a (get_or read i 0) i ≡ get_or read i 0
    by true u r s = subst (λ (j : ℕ). as_asked a (get_or read j 0) j ≡ get_or read j 0) (sym (eqb-true i k u)) s
    by false u r s = r (omega (arith, eqb-false i k u))

pub all_asked_law : (a : Ask) (read : List ℕ) (k : ℕ) → ((i : ℕ) → i < k → as_asked a (get_or read i 0) i ≡ get_or read i 0) → all_asked a read k ≡ true
unfolding all_asked
all_asked_law a read zero f = refl
all_asked_law a read (suc k) f = rw (all_asked_law a read k (λ i h. f i (omega arith)), eq-eqb (as_asked a (get_or read k 0) k) (get_or read k 0) (f k (omega arith)))

-- the data that a response shows
data_shown : (ia num address : ℕ) (d : List ℕ) → length d ≡ num → data_in num (response ia (body num address d)) ≡ d
unfolding response framed
data_shown ia num address d e =
    let n : frame_data_at + num - frame_data_at ≡ length d = omega arith in
    ap (λ (j : ℕ). take j (d ++ (sum_of ((response_bits + ia) ∷ body num address d) ∷ []))) n ∙ take-append_seam d _

pub shown_response : (q : Request) (read : List ℕ) → length read ≡ named_by q.ask → shown_in q (response q.ia (body (named_by q.ask) q.address read)) ≡ read
shown_response q read e = data_shown q.ia (named_by q.ask) q.address read e

-- an exact echo is a response that shows the data of the change
echo_parts : (q : Request) (answer : List ℕ)
    → (responds q.ia (length (data_of q.ask)) q.address answer && same (data_in (length (data_of q.ask)) answer) (data_of q.ask)) ≡ is_echo q answer
unfolding is_echo echo
echo_parts q answer =
    let d = data_of q.ask in
    let n = length d in
    let shown = data_in n answer in
    let showing : List ℕ → List ℕ = λ (l : List ℕ). response q.ia (body n q.address l) in
    same_test (same answer (showing shown) && same shown d) (same answer (showing d))
    (λ e. let p = and_true (same answer (showing shown)) (same shown d) e in ap (λ (l : List ℕ). same answer (showing l)) (sym (same_true shown d p.1)) ∙ p.0)
    (λ e.
    let s : shown ≡ d = ap (data_in n) (same_true answer (showing d) e) ∙ data_shown q.ia n q.address d refl in
    both (ap (λ (l : List ℕ). same answer (showing l)) s ∙ e) (ap (λ (l : List ℕ). same l d) s ∙ same_refl d))

pub echo_shows : (q : Request) (answer : List ℕ) (num : ℕ) → num ≡ length (data_of q.ask)
    → (responds q.ia num q.address answer && same (data_in num answer) (data_of q.ask)) ≡ is_echo q answer
echo_shows q answer num e = rw e (echo_parts q answer)

-- when an answer is a response: its length, its head of five bytes, and its LRC

abbrev pub head_of : ℕ → ℕ → ℕ → List ℕ
head_of ia num address = start ∷ (response_bits + ia) ∷ num ∷ address % byte_values ∷ address / byte_values ∷ []

part_tail : (s : List ℕ) → part s second_at frame_data_at ≡ drop second_at (take frame_data_at s)
part_tail [] = refl
part_tail (x ∷ s) = refl

module _ (ia num address : ℕ) (answer : List ℕ) where
  pub responds_long : responds ia num address answer ≡ true → length answer ≡ frame_data_at + num + 1
  unfolding response
  responds_long e =
      let shown = data_in num answer in
      let b = body num address shown in
      let l : length answer ≡ length (framed (response_bits + ia) b) = ap length (same_true answer (framed (response_bits + ia) b) e) in
      let f = framed_length (response_bits + ia) b in
      let s = length-take (frame_data_at + num - frame_data_at) (drop frame_data_at answer) in
      let d = length-drop frame_data_at answer in
      omega arith

  pub other_length : (length answer ≡ frame_data_at + num + 1 → ⊥) → false ≡ responds ia num address answer
  other_length n = by (responds ia num address answer) refl
    where
      by : (t : Bool) → responds ia num address answer ≡ t → false ≡ t
      by true e = absurd (n (responds_long e))
      by false e = refl

  module _ (long : length answer ≡ frame_data_at + num + 1) where
    responds_parts : responds ia num address answer
        ≡ (same (take frame_data_at answer) (head_of ia num address) && eqb (get_or answer (frame_data_at + num) 0) (sum_of ((response_bits + ia) ∷ body num address (data_in num answer))))
    unfolding response framed
    responds_parts =
        let front = take frame_data_at answer in
        let head = head_of ia num address in
        let shown = data_in num answer in
        let x = get_or answer (frame_data_at + num) 0 in
        let lrc = sum_of ((response_bits + ia) ∷ body num address shown) in
        let n : frame_data_at + num - frame_data_at ≡ num = omega arith in
        let most : take (frame_data_at + num) answer ≡ front ++ shown = take-add frame_data_at num answer ∙ ap (λ (j : ℕ). front ++ take j (drop frame_data_at answer)) (sym n) in
        let whole : answer ≡ front ++ (shown ++ (x ∷ [])) =
        sym (take_all (suc (frame_data_at + num)) answer (omega arith)) ∙ take-suc answer (frame_data_at + num) 0 (omega arith) ∙ ap (λ (l : List ℕ). l ++ (x ∷ [])) most ∙ append_assoc front shown (x ∷ []) in
        let rest : same (shown ++ (x ∷ [])) (shown ++ (lrc ∷ [])) ≡ eqb x lrc = same_append shown shown (x ∷ []) (lrc ∷ []) refl ∙ rw (same_refl shown) (same_one x lrc) in
        ap (λ (l : List ℕ). same l (head ++ (shown ++ (lrc ∷ [])))) whole
        ∙ same_append front head (shown ++ (x ∷ [])) (shown ++ (lrc ∷ [])) (length-take-le frame_data_at answer (omega arith))
        ∙ ap (λ (t : Bool). same front head && t) rest

    pub other_head : same (take frame_data_at answer) (head_of ia num address) ≡ false → false ≡ responds ia num address answer
    other_head h = sym (responds_parts ∙ rw h)

    pub lrc_tells : (lrc : ℕ) → same (take frame_data_at answer) (head_of ia num address) ≡ true → lrc ≡ sum_of (part answer second_at (frame_data_at + num))
        → eqb (get_or answer (frame_data_at + num) 0) lrc ≡ responds ia num address answer
    lrc_tells lrc h e =
        let shown = data_in num answer in
        let front = part_tail answer ∙ ap (drop second_at) (same_true (take frame_data_at answer) (head_of ia num address) h) in
        let summed : part answer second_at (frame_data_at + num) ≡ (response_bits + ia) ∷ body num address shown =
        sym (part_append answer second_at frame_data_at (frame_data_at + num) (lit≤ tt) (omega arith)) ∙ ap (λ (l : List ℕ). l ++ shown) front in
        sym (responds_parts ∙ rw (h, e, summed))
