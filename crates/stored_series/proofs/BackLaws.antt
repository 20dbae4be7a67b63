-- What is read from the words and numbers of a series or a time is the record. Assumes nothing.
use Rattle.std.specs.Prelude.{None, Option, Some}
use Prim.Native.Nat.{ℕ, ◌+◌, ◌*◌, ◌<◌}
use native.Mathlib.Omega.{arith}
use mathlib.Core.Path.{◌≡◌, refl, ◌∙◌}
use mathlib.Core.Bool.{true}
use mathlib.Core.List.{List}
use lib.ListN.{length, get_or, take, drop, replicate}
use lib.Ieee.{Float, nan}
use Rattle.leaf_fields.specs.Fields.{Name}
use Rattle.scope.specs.Records.{Network, Demand, no_name, no_demand, no_point, no_multiplier}
use Rattle.scope.specs.Tables.{packed, id_words, point_numbers, demand_words, count_words}
use Rattle.scope.specs.Sections.{room_curves, room_points, room_patterns, room_multipliers, room_demands}
use Rattle.scope.specs.Layout.{room_times, id_place, id_length, name_length, demand_node, demand_own, demand_name, demand_index, time_set, time_seconds, point_x, point_y, curves_width, patterns_width}
use Rattle.scope.specs.Layout.{curves_at, points_at, patterns_at, multipliers_at, demands_at, times_at, id_width, curves_width, patterns_width, demands_width, times_width}
use Rattle.scope.specs.Layout.{point_numbers_at, multiplier_numbers_at, demand_numbers_at, point_numbers_width, record_words, room_numbers}
use Rattle.table_rows.proofs.SizeLaws.{curve-words-lie, point-words-lie, pattern-words-lie, multiplier-words-lie, demand-words-lie, point-numbers-lie, multiplier-numbers-lie, demand-numbers-lie}
use Rattle.table_rows.proofs.ReadLaws.{one_place, time-word}
use Rattle.stored_words.specs.Words.{amount_from, amount_of}
use Rattle.table_codes.proofs.CodeLaws.{flag-back}
use Rattle.stored_words.proofs.WordLaws.{found_back, amount-back}
use Rattle.stored_counts.specs.Room.{has_room, have_room}
use Rattle.stored_counts.proofs.RoomLaws.{room-is, rooms-are}
use Rattle.stored_records.proofs.PastLaws.{any_word, in_row, only}
use Rattle.stored_records.specs.Back.{Stands, words_in, numbers_in}
use Rattle.stored_records.proofs.BackLaws.{word, number}
use Rattle.stored_series.specs.Back.{curve_back, pattern_back, point_back, multiplier_back, demand_back}
use Rattle.stored_series.proofs.Whole.{curve_by, pattern_by, point_by, multiplier_by, demand_by}

-- what stands past the end is zeros
no-id : id_words no_name ≡ replicate id_width 0
unfolding packed
no-id = refl

-- with a pattern and without one
demand-back : (d : Demand) (n : Option Name) → let e : Demand = record { node = d.node; own = d.own; base = d.base; pattern = n; index = d.index } in
    demand_by (words_in (demand_words e)) e.base ≡ demand_back e
demand-back d None = rw (flag-back d.own, found_back d.index)
demand-back d (Some n) = rw (flag-back d.own, found_back d.index)

-- ---- record i of the tables
module _ {m : Network} {w : List ℕ} {f : List Float} (g : Stands m w f) (i : ℕ) where
  pub curve-is : (row : List ℕ) → row ≡ take curves_width (drop (curves_at + i * curves_width) w) → has_room (length w) room_curves i ≡ true → curve_by (words_in row) ≡ curve_back (get_or m.curves i no_name)
  curve-is row p e =
      let h = (room-is (length w) room_curves i e).0 in
      let a : (j : ℕ) → j < curves_width → words_in row j ≡ words_in (id_words (get_or m.curves i no_name)) j =
      λ j hj. in_row w (curves_at + i * curves_width) curves_width p j 0 hj ∙ word w (curves_at + i * curves_width + j) (omega arith) ∙ any_word (curve-words-lie g.words.known) g.words.exact i j 0 no_name no-id (omega arith) hj in
      rw (a id_place (omega arith), a id_length (omega arith))

  pub pattern-is : (row : List ℕ) → row ≡ take patterns_width (drop (patterns_at + i * patterns_width) w) → has_room (length w) room_patterns i ≡ true → pattern_by (words_in row) ≡ pattern_back (get_or m.patterns i no_name)
  pattern-is row p e =
      let h = (room-is (length w) room_patterns i e).0 in
      let a : (j : ℕ) → j < patterns_width → words_in row j ≡ words_in (id_words (get_or m.patterns i no_name)) j =
      λ j hj. in_row w (patterns_at + i * patterns_width) patterns_width p j 0 hj ∙ word w (patterns_at + i * patterns_width + j) (omega arith) ∙ any_word (pattern-words-lie g.words.known) g.words.exact i j 0 no_name no-id (omega arith) hj in
      rw (a id_place (omega arith), a id_length (omega arith))

  pub point-is : (row : List ℕ) (numbers : List Float) → row ≡ take 1 (drop (points_at + i * 1) w) → numbers ≡ take point_numbers_width (drop (point_numbers_at + i * point_numbers_width) f) → have_room (length w) (length f) room_points i ≡ true → point_by (words_in row 0) (numbers_in numbers) ≡ point_back (get_or m.points i no_point)
  point-is row numbers p q e =
      let h = (rooms-are (length w) room_points i (length f) e).0 in
      let a : words_in row 0 ≡ (get_or m.points i no_point).curve =
      only w points_at i 0 p ∙ word w (points_at + i) (omega arith) ∙ one_place (take record_words w) points_at i 0
      (any_word (point-words-lie g.words.known) g.words.exact i 0 0 no_point refl (omega arith) (omega arith)) in
      let b : (j : ℕ) → j < point_numbers_width → numbers_in numbers j ≡ numbers_in (point_numbers (get_or m.points i no_point)) j =
      λ j hj. in_row f (point_numbers_at + i * point_numbers_width) point_numbers_width q j nan hj ∙ number f (point_numbers_at + i * point_numbers_width + j) (omega arith) ∙ any_word (point-numbers-lie g.words.known) g.numbers.exact i j nan no_point refl (omega arith) hj in
      rw (a, b point_x (omega arith), b point_y (omega arith))

  pub multiplier-is : (row : List ℕ) (numbers : List Float) → row ≡ take 1 (drop (multipliers_at + i * 1) w) → numbers ≡ take 1 (drop (multiplier_numbers_at + i * 1) f) → have_room (length w) (length f) room_multipliers i ≡ true → multiplier_by (words_in row 0) (numbers_in numbers 0) ≡ multiplier_back (get_or m.multipliers i no_multiplier)
  multiplier-is row numbers p q e =
      let h = (rooms-are (length w) room_multipliers i (length f) e).0 in
      let a : words_in row 0 ≡ (get_or m.multipliers i no_multiplier).pattern =
      only w multipliers_at i 0 p ∙ word w (multipliers_at + i) (omega arith)
      ∙ one_place (take record_words w) multipliers_at i 0 (any_word (multiplier-words-lie g.words.known) g.words.exact i 0 0 no_multiplier refl (omega arith) (omega arith)) in
      let b : numbers_in numbers 0 ≡ (get_or m.multipliers i no_multiplier).value =
      only f multiplier_numbers_at i nan q ∙ number f (multiplier_numbers_at + i) (omega arith)
      ∙ one_place (take room_numbers f) multiplier_numbers_at i nan (any_word (multiplier-numbers-lie g.words.known) g.numbers.exact i 0 nan no_multiplier refl (omega arith) (omega arith)) in
      rw (a, b)

  pub demand-is : (row : List ℕ) (numbers : List Float) → row ≡ take demands_width (drop (demands_at + i * demands_width) w) → numbers ≡ take 1 (drop (demand_numbers_at + i * 1) f) → have_room (length w) (length f) room_demands i ≡ true → demand_by (words_in row) (numbers_in numbers 0) ≡ demand_back (get_or m.demands i no_demand)
  demand-is row numbers p q e =
      let h = (rooms-are (length w) room_demands i (length f) e).0 in
      let a : (j : ℕ) → j < demands_width → words_in row j ≡ words_in (demand_words (get_or m.demands i no_demand)) j =
      λ j hj. in_row w (demands_at + i * demands_width) demands_width p j 0 hj ∙ word w (demands_at + i * demands_width + j) (omega arith) ∙ any_word (demand-words-lie g.words.known) g.words.exact i j 0 no_demand refl (omega arith) hj in
      let b : numbers_in numbers 0 ≡ (get_or m.demands i no_demand).base =
      only f demand_numbers_at i nan q ∙ number f (demand_numbers_at + i) (omega arith)
      ∙ one_place (take room_numbers f) demand_numbers_at i nan (any_word (demand-numbers-lie g.words.known) g.numbers.exact i 0 nan no_demand refl (omega arith) (omega arith)) in
      rw (a demand_node (omega arith), a demand_own (omega arith), a demand_name (omega arith), a (demand_name + name_length) (omega arith), a demand_index (omega arith), b)
      (demand-back (get_or m.demands i no_demand) (get_or m.demands i no_demand).pattern)

  pub time-is : (row : List ℕ) → row ≡ take times_width (drop (times_at + i * times_width) w) → has_room (length w) room_times i ≡ true
      → amount_from (words_in row time_set) (words_in row time_seconds) ≡ amount_of (get_or m.times i None)
  time-is row p e =
      let h = (room-is (length w) room_times i e).0 in
      let a : (j : ℕ) → j < times_width → words_in row j ≡ get_or (count_words (get_or m.times i None)) j 0 =
      λ j hj. in_row w (times_at + i * times_width) times_width p j 0 hj ∙ word w (times_at + i * times_width + j) (omega arith) ∙ time-word g.words i j None h hj in
      rw (a time_set (omega arith), a time_seconds (omega arith)) (amount-back (get_or m.times i None))
