-- To unfold `computed` is to unfold every definition of this crate's written meanings, for examples and runs that are computed. Assumes nothing.
use Prim.{Unit, tt}
use Rattle.lecom.specs.Form.{named_by}
use Rattle.lecom.specs.Frame.{figures_right, tens_in, ones_in, collective, reaches, is_write, code_at, is_extended, hex_at, code_end, code_of, size_right, end_right, code_right, xor_from, bcc_of, bcc_right, pair_in, quad_in, code_number, subcode_right, named_in, code_known, write_right, data_of, data_read, value_right, value_in, data_right, ordered, asked}
use Rattle.lecom.specs.Answer.{closed, value_body, value_bytes, unknown_bytes, refusal_bytes, done_by, refused_by, probe_answer, read_answer, activated, stored, written, obeyed, address_of, lecom_reply}
use Rattle.lecom.specs.Receiver.{bcc_next, step, held_behind_stx, held_behind_eot, held}

unfoldable pub computed : Unit {0}
unfolding named_by figures_right tens_in ones_in collective reaches is_write code_at is_extended hex_at code_end code_of size_right end_right code_right xor_from bcc_of bcc_right pair_in quad_in code_number subcode_right named_in code_known write_right data_of data_read value_right value_in data_right ordered asked closed value_body value_bytes unknown_bytes refusal_bytes done_by refused_by probe_answer read_answer activated stored written obeyed address_of lecom_reply bcc_next step held_behind_stx held_behind_eot held
computed = tt
