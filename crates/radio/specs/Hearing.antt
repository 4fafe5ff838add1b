-- The bytes of a table, heard one by one.
-- Inner: no promise and no contract of a public function speaks of it.
use Rattle.std.specs.Prelude.{[], ◌∷◌}
use Rattle.words.specs.Words.{Bytes}
use Rattle.tables.specs.declared.Table.{Table}
use Rattle.radio.specs.Radio.{Course, byte_heard}

unfoldable pub bytes_heard : Table → Bytes → Course → Course
bytes_heard t [] c = c
bytes_heard t (x ∷ xs) c = bytes_heard t xs (byte_heard t x c)
