-- What a reader reads.
use Rattle.std.specs.Prelude.{ℕ, List}
use Rattle.reader.specs.declared.reading.Reader.{Reader}

-- the bytes that it was lent
abbrev pub lent : Reader → List ℕ
lent r = r.bytes.now
