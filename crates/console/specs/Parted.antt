-- Where the parts of a line stand.
use Rattle.std.specs.Prelude.{ℕ, ◌+◌, ◌≤◌, ◌≡◌, List, length, take, drop}
use Rattle.console.specs.declared.question.Question.{Question}
use Rattle.console.specs.declared.question.Question.TheVariants.{Nothing, Unknown, Call}

-- a call's name stands from one place of the line on; the words after it go from a place that is not before its end to the end of the line
pub record Parted (line name rest : List ℕ) (at : ℕ) : Type 0 where
  pub from : ℕ
  pub named : name ≡ take (length name) (drop from line)
  pub after : from + length name ≤ at
  pub inside : at ≤ length line
  pub stays : rest ≡ line

-- what a line asks has its name and its words from that line
abbrev pub AskedIn : List ℕ → Question → Type 0
AskedIn line Nothing = Unit {0}
AskedIn line Unknown = Unit {0}
AskedIn line (Call call name words) = Parted line name.now words.bytes.now words.at
