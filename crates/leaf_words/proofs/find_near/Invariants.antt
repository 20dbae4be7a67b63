-- `leaf_words::find_near` meets its contract. Assumes nothing.
use Rattle.std.proofs.Common.{◌≡◌, ◌+◌, ◌≤◌, max, length, drop}
use Rattle.leaf_words.specs.Scan.{clear_len}
use Rattle.leaf_words.proofs.find_near.Given as goal

abbrev pub invariant-loop-i : goal.invariant-loop-i
invariant-loop-i l = (l.i ≤ max l.from (length l.text)) × (l.i + clear_len l.a l.b (drop l.i l.text) ≡ l.from + clear_len l.a l.b (drop l.from l.text))
