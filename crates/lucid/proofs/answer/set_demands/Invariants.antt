-- `lucid::answer::set_demands` meets its contract. The invariant: the demands still to be set from here make the words asked for. Assumes nothing.
use Rattle.std.proofs.Common.{◌≡◌, ◌+◌, ◌*◌, length}
use Rattle.lucid.proofs.Channels.{channels_left}
use Rattle.lucid.specs.Answer.{demanded}
use Rattle.lucid.specs.Form.{data_at, demand_size, channels_of}
use Rattle.lucid.proofs.answer.set_demands.Given as goal

abbrev pub invariant-loop-channel : goal.invariant-loop-channel
invariant-loop-channel l = record {
  kept : length l.words ≡ length l.initial.words;
  left : length l.f ≡ l.at + demand_size * length (channels_left l.channel l.mask);
  set : demanded (channels_left l.channel l.mask) l.f l.at l.words ≡ demanded (channels_of l.mask) l.f data_at l.initial.words;
}
