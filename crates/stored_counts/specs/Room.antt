-- Whether there is room for a record. Assumes nothing.
use Rattle.std.specs.Prelude.{ℕ, Bool, ◌&&◌, ltb, leb}
use Rattle.scope.specs.Layout.{record_words, room_numbers}

-- the tables are long enough for a network, and a region has room for a record i
abbrev pub has_room : ℕ → ℕ → ℕ → Bool
has_room words room i = leb record_words words && ltb i room

abbrev pub have_room : ℕ → ℕ → ℕ → ℕ → Bool
have_room words numbers room i = leb room_numbers numbers && has_room words room i
