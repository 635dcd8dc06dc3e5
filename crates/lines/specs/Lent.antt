-- What the console lends for one line: the line, and the buffer of the answer line.
use Rattle.std.specs.Prelude.{ℕ, ◌+◌, ◌≡◌, List, leb, length, Option, Some, None}
use Rattle.wire.specs.Choose.{choose}
use Rattle.wire.specs.Buffer.{put}

-- "error line longer than 32768 bytes"
abbrev pub line_most : ℕ
line_most = 32768

-- bytes came to the n of a line: they follow those, or, where the line gets too long, it is left as it is and has no length
pub record Joined (n : ℕ) (bytes text : List ℕ) (r : Option ℕ) (text' : List ℕ) : Type 0 where
  pub measured : r ≡ choose (leb (n + length bytes) line_most) (Some (n + length bytes)) None
  pub written : text' ≡ choose (leb (n + length bytes) line_most) (put text n bytes) text

-- no line names more bytes
abbrev pub bytes_most : ℕ
bytes_most = 16384

-- the buffer of the answer line
abbrev pub answer_most : ℕ
answer_most = 65536

-- "an answer buffer of ROOM bytes (0 to 1024)"
abbrev pub room_most : ℕ
room_most = 1024

-- a list of usage lines, and the words before each: "error expected " or " or "
abbrev pub list_most : ℕ
list_most = 1024

abbrev pub before_most : ℕ
before_most = 15
