-- `lines::text::Text::put_entry` meets its contract.
use Rattle.std.proofs.Common.{ℕ, ◌+◌, ap, arith}
use Rattle.figures.proofs.Texts.{text_length}
use Rattle.lines.proofs.Puts.{put_as, entry_signed, entry_unsigned}
use Rattle.lines.proofs.text.Text.put_entry.Goals as goal

pub overflow_add-self : goal.overflow_add-self
overflow_add-self g c = omega (arith, c.put_text.ensures.0, text_length c.args.word)

pub invariant_of-self : goal.invariant_of-self
invariant_of-self g c = omega (arith, c.put_text.ensures.0, text_length c.args.word)

pub returns-then-signed : goal.returns-then-signed
returns-then-signed g c = let a = c.args in
    let t = c.put_text.ensures in
    put_as (entry_signed a.signed a.word c.if-signed.true)
    (record {
      measured = ap (λ (x : ℕ). a.self.now.len + x) t.0;
      short = omega (arith, t.0, text_length a.word);
      written = t.1;
    })

pub returns : goal.returns
returns g c = let a = c.args in
    put_as (entry_unsigned a.signed a.word c.if-signed.false) c.put_number.ensures
