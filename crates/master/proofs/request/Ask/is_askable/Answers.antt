-- `master::request::Ask::is_askable` meets its contract, test by test.
use Rattle.std.proofs.Common.{arith, le-leb}
use borrow.Author.Tests.{lt-leb}
use Rattle.wire.proofs.Cases.{told_true, told_false}
use Rattle.master.proofs.Requests.{named_sent, named_few}
use Rattle.master.specs.Request.{ask_in, askable}
use Rattle.master.proofs.request.Ask.is_askable.Goals as goal

pub returns-then-ia-gt-IA_MOST : goal.returns-then-ia-gt-IA_MOST
unfolding askable
returns-then-ia-gt-IA_MOST c = rw (lt-leb _ _ c.if-ia-gt-IA_MOST.true)

pub returns-then-named_most-self : goal.returns-then-named_most-self
unfolding askable
returns-then-named_most-self c =
    rw (le-leb _ _ c.if-ia-gt-IA_MOST.false, named_sent c.args.self, lt-leb _ _ (rw c.named_most.ensures at c.if-named_most-self.true))

pub returns-then-not-is_paired : goal.returns-then-not-is_paired
unfolding askable
returns-then-not-is_paired c =
    rw (le-leb _ _ c.if-ia-gt-IA_MOST.false, named_sent c.args.self, ← c.named_most.ensures, le-leb _ _ c.if-named_most-self.false, told_false c.is_paired.ensures c.if-not-is_paired.true)

pub returns-then-address-gt-ADDRESS_MOST : goal.returns-then-address-gt-ADDRESS_MOST
unfolding askable
returns-then-address-gt-ADDRESS_MOST c =
    let paired = told_true c.is_paired.ensures c.if-not-is_paired.false in
    rw (le-leb _ _ c.if-ia-gt-IA_MOST.false, named_sent c.args.self, ← c.named_most.ensures, le-leb _ _ c.if-named_most-self.false, paired, lt-leb _ _ c.if-address-gt-ADDRESS_MOST.true)

pub overflow_cast-result : goal.overflow_cast-result
overflow_cast-result c = omega (arith, named_few (ask_in c.args.self), c.named_most.ensures, c.if-named_most-self.false)

pub overflow_add-result : goal.overflow_add-result
overflow_add-result c = omega (arith, named_few (ask_in c.args.self), c.named_most.ensures, c.if-named_most-self.false)

pub returns : goal.returns
unfolding askable
returns c =
    let paired = told_true c.is_paired.ensures c.if-not-is_paired.false in
    rw (le-leb _ _ c.if-ia-gt-IA_MOST.false, named_sent c.args.self, ← c.named_most.ensures, le-leb _ _ c.if-named_most-self.false, paired, le-leb _ _ c.if-address-gt-ADDRESS_MOST.false)
