-- `lecom::frame::outline_of` meets its contract, place by place. Assumes nothing.
use Rattle.std.proofs.Common.{◌≡◌, ℕ, ◌+◌, Bool, true, false, eqb, List, get_or, refl, sym, ◌∙◌, arith, eq-eqb, ne_eqb}
use mir.Val.{bool_byte}
use Rattle.wire.specs.Choose.{choose}
use Rattle.lecom.specs.Form.{start_at, stx, extended_mark}
use Rattle.lecom.specs.Frame.{collective, ones_in, is_write, code_at, is_extended, hex_at}
use Rattle.lecom.proofs.Frames.{extended_end, standard_code, standard_hex_law}
use Rattle.lecom.proofs.frame.outline_of.Goals.{then-extended, else-extended}
use Rattle.lecom.proofs.frame.outline_of.Goals as goal

-- a place, or the next one: by a test's number
next : (t : Bool) (n : ℕ) → n + bool_byte t ≡ choose t (n + 1) n
unfolding choose
next true n = refl
next false n = omega arith

-- the places of the code's first character and of its first hex character
start : (f : List ℕ) → start_at + bool_byte (eqb (get_or f start_at 0) stx) ≡ code_at f
unfolding code_at is_write
start f = next (is_write f) start_at

extended : (f : List ℕ) {s : ℕ} → s ≡ code_at f → eqb (get_or f s 0) extended_mark ≡ is_extended f
unfolding is_extended
extended f e = rw e

hex : (f : List ℕ) {s : ℕ} → s ≡ code_at f → s + bool_byte (eqb (get_or f s 0) extended_mark) ≡ hex_at f
unfolding hex_at
hex f e = (rw (extended f e, e)) ∙ next (is_extended f) (code_at f)

pub returns : goal.returns
unfolding collective ones_in is_write
returns c =
    let f = c.args.f.now in
    let s = start f in
    let x = extended f s in
    let h = hex f s in
    record {
      quiet = rw c.figure-collective.ensures;
      writes = refl;
      extends = x;
      starts = s;
      hexed = h;
      ends = elim c.if-extended.branch [
        | then-extended w ↦ omega (arith, h, w.size-is, extended_end f (sym x ∙ eq-eqb _ _ w.if-extended.true))
        | else-extended w ↦ let no = sym x ∙ ne_eqb _ _ w.if-extended.false in omega (arith, h, w.size-is, standard_code f no, standard_hex_law f no)
      ];
    }
