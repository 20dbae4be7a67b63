-- Document 01, "Numbers and times": "then cut to a whole number (NaN and negatives 0, 2^64 and above 18,446,744,073,709,551,615)". Assumes nothing.
use Rattle.std.specs.Prelude.{ℕ, ◌-◌, ◌*◌, ◌/◌, ◌^◌, min, true, false, Float}
use Rattle.std.specs.Float.{nan, inf, fin}
use Rattle.std.specs.Float.Ieee.{up, down}

abbrev pub cut : Float → ℕ
cut nan = 0
cut (inf true) = 0
cut (inf false) = 2 ^ 64 - 1
cut (fin true m e) = 0
cut (fin false m e) = min (m * up e / down e) (2 ^ 64 - 1)
