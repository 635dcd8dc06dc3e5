-- Laws of specs/Lent.antt: bytes that join a line, which gets too long or does not. Assumes nothing.
use Rattle.std.proofs.Common.{◌≡◌, ℕ, ◌+◌, ◌<◌, ◌≤◌, List, length, Some, None, refl, le-leb}
use borrow.Author.Tests.{lt-leb}
use Rattle.wire.specs.Buffer.{put}
use Rattle.wire.proofs.Cases.{yes, no}
use Rattle.lines.specs.Lent.{line_most, Joined}

pub too_long : (n : ℕ) (bytes text : List ℕ) → line_most < n + length bytes → Joined n bytes text None text
too_long n bytes text h =
    let t = lt-leb (n + length bytes) line_most h in
    record { measured = no _ _ _ _ t refl; written = no _ _ _ _ t refl }

pub joined : (n : ℕ) (bytes text text' : List ℕ) → n + length bytes ≤ line_most → text' ≡ put text n bytes → Joined n bytes text (Some (n + length bytes)) text'
joined n bytes text text' h e =
    let t = le-leb (n + length bytes) line_most h in
    record { measured = yes _ _ _ _ t refl; written = yes _ _ _ _ t e }
