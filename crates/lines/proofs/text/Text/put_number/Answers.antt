-- `lines::text::Text::put_number` meets its contract.
use Rattle.std.proofs.Common.{◌≡◌, ℕ, ◌+◌, sym, ap, ◌∙◌, arith}
use Rattle.wire.specs.Buffer.{put}
use Rattle.figures.specs.Decimal.{digits, size_of, shortest}
use Rattle.figures.proofs.Decimals.{size_at_most, shortest_length}
use Rattle.lines.proofs.text.Text.put_number.Goals as goal

pub put_digits-requires : goal.put_digits-requires
put_digits-requires g c = omega (arith, c.size-k.ensures, size_at_most 9 c.args.n (omega arith))

pub overflow_add-self : goal.overflow_add-self
overflow_add-self g c = omega (arith, c.size-k.ensures, size_at_most 9 c.args.n (omega arith))

pub invariant_of-self : goal.invariant_of-self
invariant_of-self g c = omega (arith, c.size-k.ensures, size_at_most 9 c.args.n (omega arith))

pub returns : goal.returns
unfolding shortest
returns g c = let a = c.args in
    let k = c.size-k in
    let e : k.result ≡ size_of a.n = k.ensures in
    record {
      measured = ap (λ (x : ℕ). a.self.now.len + x) (e ∙ sym (shortest_length a.n));
      short = omega (arith, e, size_at_most 9 a.n (omega arith));
      written = c.put_digits.ensures ∙ ap (λ (x : ℕ). put a.self.now.out a.self.now.len (digits x a.n)) e;
    }
