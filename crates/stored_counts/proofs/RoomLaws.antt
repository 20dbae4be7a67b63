-- A record for which there is room stands in the tables. Assumes nothing.
use Prim.Native.Nat.{ℕ, ◌≤◌, ◌<◌}
use mathlib.Core.Path.{◌≡◌, refl}
use mathlib.Core.Bool.{Bool, true, false, ◌&&◌, false≢true}
use lib.Dec.{leb, ltb}
use borrow.Author.Tests.{leb-true, ltb-true}
use Rattle.scope.specs.Layout.{record_words, room_numbers}
use Rattle.stored_counts.specs.Room.{has_room, have_room}

both : (s t : Bool) → (s && t) ≡ true → (s ≡ true) × (t ≡ true)
both true t e = (refl, e)
both false t e = absurd (false≢true e)

module _ (words room i : ℕ) where
  pub room-is : has_room words room i ≡ true → (i < room) × (record_words ≤ words)
  room-is e =
      let h = both (leb record_words words) (ltb i room) e in
      (ltb-true i room h.1, leb-true record_words words h.0)

  pub rooms-are : (numbers : ℕ) → have_room words numbers room i ≡ true → (i < room) × (record_words ≤ words) × (room_numbers ≤ numbers)
  rooms-are numbers e =
      let h = both (leb room_numbers numbers) (has_room words room i) e in
      let k = room-is h.1 in
      (k.0, k.1, leb-true room_numbers numbers h.0)
