-- To unfold `computed` is to unfold every definition of this crate's written meanings, for examples and runs that are computed. Assumes nothing.
use Prim.{Unit, tt}
use Rattle.card.specs.Change.{in_memory, names_read_only, named, num_right, echoable, two_bytes, fit_pending}
use Rattle.card.specs.Row.{count_at, with_count, no_parts}
use Rattle.card.specs.Fitness.{in_span, in_range, in_ranges, fit_words, fit}
use Rattle.card.specs.Reply.{done_with, shell, early, guarded}
use Rattle.card.specs.Probe.{tenths_of, reading_of}
use Rattle.card.specs.Entries.{with_code, set_code, registers_to, restored_registers, restored_parameters, full_demands, faulted, dropped, restarted, restart}
use Rattle.card.specs.Governor.{degrees_of, told_of, governor_of, case_of, governor_answer}

unfoldable pub computed : Unit {0}
unfolding in_memory names_read_only named num_right echoable two_bytes fit_pending count_at with_count no_parts in_span in_range in_ranges fit_words fit done_with shell early guarded tenths_of reading_of with_code set_code registers_to restored_registers restored_parameters full_demands faulted dropped restarted restart degrees_of told_of governor_of case_of governor_answer
computed = tt
