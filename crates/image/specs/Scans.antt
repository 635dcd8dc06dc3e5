-- The form run by run, for the functions that go through it. proofs/Runs.antt holds it to specs/Form.antt.
use Rattle.std.specs.Prelude.{ℕ, ◌+◌, List, length, take, drop, slice_index_or}
use Rattle.card.specs.Layout.{registers, parameter_count, love_count}
use Rattle.image.specs.declared.form.Run.{Run}
use Rattle.image.specs.Form.{Entry, run_of, entries_of_run, entries_in, saved_runs, used}

-- how many runs it has, and what stands past the last
abbrev pub run_count : ℕ
run_count = 6

abbrev pub no_run : Run
no_run = run_of 0 0 0 0

-- run k, its entries, and those from run k on
abbrev pub run_at : ℕ → Run
run_at k = slice_index_or saved_runs k no_run

abbrev pub entries_at : ℕ → List Entry
entries_at k = entries_of_run (run_at k)

unfoldable pub rest_of : ℕ → List Entry
rest_of k = entries_in (drop k saved_runs)

-- the number of run k's first entry, and the run's bits
unfoldable pub first_of : ℕ → ℕ
first_of k = length (entries_in (take k saved_runs))

abbrev pub bits_of : ℕ → ℕ
bits_of k = used (entries_at k)

-- where the kinds of entries begin, after the three addresses, and how many entries there are
abbrev pub first_register : ℕ
first_register = 3

abbrev pub first_parameter : ℕ
first_parameter = first_register + registers

abbrev pub first_love : ℕ
first_love = first_parameter + parameter_count

abbrev pub entry_count : ℕ
entry_count = first_love + love_count
