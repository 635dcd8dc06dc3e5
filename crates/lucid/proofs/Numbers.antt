-- Numbers of several bytes, the lowest first: what is read of a number's bytes is that number, and the other way round. Assumes nothing.
use Rattle.std.proofs.Common.{◌≡◌, refl, List, [], ◌∷◌, ◌++◌, append_assoc, ℕ, zero, suc, ◌+◌, ◌*◌, ◌/◌, ◌%◌, ◌^◌, ◌≤◌, ◌<◌, add-zero, pow-suc, add-one, arith, length, take, drop, get_or, length-append, drop-cons, get_or-append-add}
use Rattle.wire.specs.Sum.{byte_values}
use Rattle.lucid.specs.Form.{little, number_at}

-- the number read where its bytes stand
pub number_little : (n x : ℕ) (a b : List ℕ) → x < byte_values ^ n → number_at n (a ++ (little n x ++ b)) (length a) ≡ x
unfolding number_at little
number_little zero x a b h = omega arith
number_little (suc n) x a b h =
    let low = x % byte_values in
    let rest = number_little n (x / byte_values) (a ++ (low ∷ [])) b (omega (arith, pow-suc byte_values n)) in
    let l : length (a ++ (low ∷ [])) ≡ length a + 1 = length-append a (low ∷ []) in
    let e : (a ++ (low ∷ [])) ++ (little n (x / byte_values) ++ b) ≡ a ++ (low ∷ (little n (x / byte_values) ++ b)) = append_assoc a (low ∷ []) (little n (x / byte_values) ++ b) in
    let first : get_or (a ++ (low ∷ (little n (x / byte_values) ++ b))) (length a) 0 ≡ low = rw add-zero at (get_or-append-add a (low ∷ (little n (x / byte_values) ++ b)) 0 0) in
    let next : number_at n (a ++ (low ∷ (little n (x / byte_values) ++ b))) (length a + 1) ≡ x / byte_values = rw (e, l) at rest in
    rw (first, next) (omega arith)

-- the bytes of a number that was read
pub little_number : (n : ℕ) (f : List ℕ) (at : ℕ) → ((i : ℕ) → get_or f i 0 < byte_values) → at + n ≤ length f → little n (number_at n f at) ≡ take n (drop at f)
unfolding number_at little
little_number zero f at bytes h = refl
little_number (suc n) f at bytes h =
    let b = bytes at in
    let inside : at < length f = omega arith in
    let x = get_or f at 0 in
    let rest = number_at n f (at + 1) in
    let low : (x + byte_values * rest) % byte_values ≡ x = omega arith in
    let high : (x + byte_values * rest) / byte_values ≡ rest = omega arith in
    rw (low, high, little_number n f (at + 1) bytes (omega arith), drop-cons f at 0, add-one)
