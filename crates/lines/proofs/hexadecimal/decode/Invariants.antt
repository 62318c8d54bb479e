use Rattle.std.proofs.Common.{◌≡◌, ◌*◌, ◌++◌, take, drop}
use Rattle.lines.proofs.hexadecimal.decode.Given as goal
use Rattle.lines.specs.Hexadecimal.{decoded}

-- The bytes so far are followed by those of the rest of the text, and the rest of the buffer is as it was.
abbrev pub invariant-loop-place : goal.invariant-loop-place
invariant-loop-place l =
    (take l.place l.out ++ decoded (drop (2 * l.place) l.text) ≡ decoded l.text)
    × (drop l.place l.out ≡ drop l.place l.initial.out)
