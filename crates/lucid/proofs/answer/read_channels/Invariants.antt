-- `lucid::answer::read_channels` meets its contract. The invariant: the values held and those of the channels still to come are those of the whole group. Assumes nothing.
use Rattle.std.proofs.Common.{◌≡◌, ◌*◌, ◌≤◌, length}
use Rattle.lucid.proofs.Channels.{channels_left}
use Rattle.lucid.specs.Answer.{Held, joined, group, value_of}
use Rattle.lucid.specs.Form.{channels_of, hundredths_size}
use Rattle.lucid.specs.Value.{type_of}
use Rattle.lucid.proofs.answer.read_channels.Given as goal

abbrev pub invariant-loop-channel : goal.invariant-loop-channel
invariant-loop-channel l = record {
  kept : l.out ≡ l.initial.out;
  room : length l.values ≤ hundredths_size * l.channel;
  joins : joined (Held l.values) (group (value_of l.words l.memory (type_of l.value_type)) (channels_left l.channel l.mask)) ≡ group (value_of l.words l.memory (type_of l.value_type)) (channels_of l.mask);
}
