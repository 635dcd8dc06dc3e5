-- `card::fitness::fit_words` meets its contract: the tests are those of the definition. Assumes nothing.
use Rattle.wire.proofs.Cases.{told_true, told_false}
use Rattle.card.proofs.Ranges.{words_scanned}
use Rattle.std.proofs.Common.{rules}
use Rattle.card.proofs.fitness.fit_words.Goals as goal

pub returns-then-not-fit_addresses : goal.returns-then-not-fit_addresses
returns-then-not-fit_addresses c = let ws = c.args.words.now in
    rw (← words_scanned ws (search rules)) (simp (told_false c.fit_addresses.ensures c.if-not-fit_addresses.true))

pub returns-then-not-all_in : goal.returns-then-not-all_in
returns-then-not-all_in c = let ws = c.args.words.now in
    rw (← words_scanned ws (search rules)) (simp (told_true c.fit_addresses.ensures c.if-not-fit_addresses.false, told_false c.all_in.ensures c.if-not-all_in.true))

pub returns-then-not-all_in-2 : goal.returns-then-not-all_in-2
returns-then-not-all_in-2 c = let ws = c.args.words.now in
    rw (← words_scanned ws (search rules))
    (simp (told_true c.fit_addresses.ensures c.if-not-fit_addresses.false, told_true c.all_in.ensures c.if-not-all_in.false, told_false c.all_in-2.ensures c.if-not-all_in-2.true))

pub returns-then-not-fit_parameters : goal.returns-then-not-fit_parameters
returns-then-not-fit_parameters c = let ws = c.args.words.now in
    rw (← words_scanned ws (search rules))
    (simp (told_true c.fit_addresses.ensures c.if-not-fit_addresses.false, told_true c.all_in.ensures c.if-not-all_in.false, told_true c.all_in-2.ensures c.if-not-all_in-2.false, told_false c.fit_parameters.ensures c.if-not-fit_parameters.true))

pub returns : goal.returns
returns c = let ws = c.args.words.now in
    rw (← words_scanned ws (search rules))
    (simp (told_true c.fit_addresses.ensures c.if-not-fit_addresses.false, told_true c.all_in.ensures c.if-not-all_in.false, told_true c.all_in-2.ensures c.if-not-all_in-2.false, told_true c.fit_parameters.ensures c.if-not-fit_parameters.false)
    c.fit_registers.ensures)
