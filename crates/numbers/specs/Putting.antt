-- A text put at the head of an output.
use Rattle.std.specs.Prelude.{◌++◌, length, drop}
use Rattle.words.specs.Words.{Bytes}

-- a text at the head of a buffer: "Bytes behind the text stay."
abbrev pub put : Bytes → Bytes → Bytes
put s out = s ++ drop (length s) out
