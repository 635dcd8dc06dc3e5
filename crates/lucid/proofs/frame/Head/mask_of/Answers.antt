-- `lucid::frame::Head::mask_of` meets its contract, test by test. Assumes nothing.
use Rattle.std.proofs.Common.{◌≡◌, ℕ, ◌^◌, ◌<◌, Bool, true, false, ◌||◌, ltb, ltb-true, ◌∙◌, one-mul, shl_exact, arith}
use Rattle.wire.proofs.Cases.{cases, no, told_false}
use Rattle.card.specs.Layout.{channels}
use Rattle.lucid.specs.Frame.{mask_of}
use Rattle.lucid.proofs.frame.Head.mask_of.Goals as goal

-- a channel, since the command is no group
single : (group : Bool) (p1 : ℕ) → group ≡ false → (group || ltb p1 channels) ≡ true → p1 < channels
single group p1 e h = let within : ltb p1 channels ≡ true = rw e at h in ltb-true p1 channels within

pub returns-then-is_group : goal.returns-then-is_group
unfolding mask_of
returns-then-is_group c = search cases

pub returns : goal.returns
unfolding mask_of
returns c = let p1 = c.args.self.p1 in
    let none = told_false c.is_group.ensures c.if-is_group.false in
    no _ _ _ _ none (shl_exact 1 p1 8 (omega arith) (omega (arith, single _ p1 none c.requires)) ∙ one-mul (2 ^ p1))
