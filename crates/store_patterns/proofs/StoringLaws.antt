-- Loops that store the multipliers of a line. Assumes nothing.
use Rattle.leaf_decimals.specs.declared.NumberError.{NumberError}
use Rattle.std.specs.Prelude.{Err, Ok, Result}
use Prim.Native.Nat.{ℕ, suc, ◌+◌, ◌≤◌, ◌<◌}
use native.Mathlib.Omega.{arith}
use native.Mathlib.Numerals.{add-one}
use mathlib.Core.Path.{◌≡◌, refl, sym, ap, ◌∙◌}
use mathlib.Core.List.{List, [], ◌∷◌, ◌++◌, append_assoc}
use lib.ListN.{length, take, drop, set, get_or, replicate, length-append, length-drop, length-replicate, length-set, get_or-replicate, replicate-append-replicate, take-append-drop}
use lib.Seq.{paste, paste-zero, paste-suc, take_all, take_at, drop_at, drop-drop, drop-cons, length-take-le}
use lib.Ieee.{Float, nan}
use Rattle.leaf_decimals.specs.Numbers.{number_of}
use Rattle.leaf_decimals.specs.declared.NumberError.TheVariants.{Malformed, Beyond}
use Rattle.leaf_fields.specs.Fields.{Name}
use Rattle.scope.specs.Sections.{room_multipliers}
use Rattle.scope.specs.declared.Reason.{Reason}
use Rattle.scope.specs.Values.{Read, good, bad, on_read, took, refused, as_number, number_from}
use Rattle.scope.specs.Series.{multipliers_of}
use Rattle.table_rows.specs.Table.{splice}
use Rattle.scope.specs.Layout.{multipliers_at, multiplier_numbers_at, record_words, room_numbers}
use Rattle.parse_series.specs.Lines.{Multipliers}

-- the numbers xs are put into the tables, as multipliers of a pattern from multiplier number k on
abbrev pub Put : (k pattern : ℕ) (xs : List Float) (w0 w : List ℕ) (f0 f : List Float) → Type 0
Put k pattern xs w0 w f0 f = (w ≡ splice w0 (multipliers_at + k) (replicate (length xs) pattern)) × (f ≡ splice f0 (multiplier_numbers_at + k) xs)

-- the first j of them are put into the tables
pub record Placed (xs : List Float) (k pattern : ℕ) (w0 w : List ℕ) (f0 f : List Float) (j : ℕ) : Type 0 where
  pub upto : j ≤ length xs
  pub room : k + length xs ≤ room_multipliers
  pub words-room : length w0 ≡ record_words
  pub numbers-room : length f0 ≡ room_numbers
  pub words : w ≡ paste w0 (multipliers_at + k) (replicate (length xs) pattern) j
  pub numbers : f ≡ paste f0 (multiplier_numbers_at + k) xs j
  pub words_long : length w ≡ length w0
  pub numbers-long : length f ≡ length f0

pub none-placed : (xs : List Float) (k pattern : ℕ) (w : List ℕ) (f : List Float) → k + length xs ≤ room_multipliers → length w ≡ record_words → length f ≡ room_numbers → Placed xs k pattern w w f f 0
none-placed xs k pattern w f h hw hf =
    record {
      upto = omega arith;
      room = h;
      words-room = hw;
      numbers-room = hf;
      words = paste-zero w (multipliers_at + k) (replicate (length xs) pattern);
      numbers = paste-zero f (multiplier_numbers_at + k) xs;
      words_long = refl;
      numbers-long = refl;
    }

module _ {xs : List Float} {k pattern : ℕ} {w0 w : List ℕ} {f0 f : List Float} {j : ℕ} (g : Placed xs k pattern w0 w f0 f j) where
  pub one_placed : j < length xs → Placed xs k pattern w0 (set w (multipliers_at + k + j) pattern) f0 (set f (multiplier_numbers_at + k + j) (get_or xs j nan)) (j + 1)
  one_placed h =
      let rep : get_or (replicate (length xs) pattern) j 0 ≡ pattern = get_or-replicate (length xs) j pattern 0 h in
      record {
        upto = omega arith;
        room = g.room;
        words-room = g.words-room;
        numbers-room = g.numbers-room;
        words = rw (g.words, add-one) (ap (λ (v : ℕ). set (paste w0 (multipliers_at + k) (replicate (length xs) pattern) j) (multipliers_at + k + j) v) (sym rep)
            ∙ paste-suc w0 (multipliers_at + k) (replicate (length xs) pattern) j 0 (omega (arith, h, g.room, g.words-room)) (rw (length-replicate (length xs) pattern) h));
        numbers = rw (g.numbers, add-one) (paste-suc f0 (multiplier_numbers_at + k) xs j nan (omega (arith, h, g.room, g.numbers-room)) h);
        words_long = length-set w (multipliers_at + k + j) pattern ∙ g.words_long;
        numbers-long = length-set f (multiplier_numbers_at + k + j) (get_or xs j nan) ∙ g.numbers-long;
      }

  pub all_placed : length xs ≤ j → Put k pattern xs w0 w f0 f
  all_placed h =
      let jj : j ≡ length xs = omega (arith, h, g.upto) in
      let lr : length (replicate (length xs) pattern) ≡ length xs = length-replicate (length xs) pattern in (
        g.words ∙ rw (jj, take_all (length xs) (replicate (length xs) pattern) (omega (arith, lr)), lr),
        g.numbers ∙ rw (jj, take_all (length xs) xs (omega arith)),
      )

-- what a taken number says of the fields and of the multipliers
as-took : (n : Result Float NumberError) (fs gs : List Name) (x : Float) → as_number n fs ≡ took x gs → (as_number n fs ≡ took x fs) × (fs ≡ gs)
as-took (Ok y) fs gs x e = let a : y ≡ x = cc in let b : fs ≡ gs = cc in (rw a, b)
as-took (Err Malformed) fs gs x e = absurd (let z : ◌≡◌ {A = ℕ} 0 1 = cc in omega arith)
as-took (Err Beyond) fs gs x e = absurd (let z : ◌≡◌ {A = ℕ} 0 1 = cc in omega arith)

pub took_one : (fs gs : List Name) (x : Float) → number_from fs ≡ took x gs
    → (length fs ≡ suc (length gs)) × (multipliers_of fs ≡ on_read (multipliers_of gs) (λ xs. good (x ∷ xs)))
unfolding multipliers_of
took_one [] gs x e = absurd (let z : ◌≡◌ {A = ℕ} 0 1 = cc in omega arith)
took_one (f ∷ fs) gs x e = let p = as-took (number_of f.letters) fs gs x e in (rw p.1, rw (p.0, p.1))

-- the multipliers of fs are read up to the fields gs, and i - k of them are stored
pub record Storing (fs gs : List Name) (k pattern : ℕ) (w0 w : List ℕ) (f0 f : List Float) (i : ℕ) : Type 0 where
  pub xs : List Float
  pub j : ℕ
  pub here : i ≡ k + j
  pub whole : multipliers_of fs ≡ good xs
  pub left : multipliers_of gs ≡ good (drop j xs)
  pub placed : Placed xs k pattern w0 w f0 f j

pub start-storing : (fs : List Name) (k pattern : ℕ) (w : List ℕ) (f : List Float) (xs : List Float) → multipliers_of fs ≡ good xs
    → k + length xs ≤ room_multipliers → length w ≡ record_words → length f ≡ room_numbers
    → Storing fs fs k pattern w w f f k
start-storing fs k pattern w f xs e h hw hf =
    record {
      xs = xs;
      j = 0;
      here = omega arith;
      whole = e;
      left = e;
      placed = none-placed xs k pattern w f h hw hf;
    }

uncons : (o : Read (List Float)) (x : Float) (zs : List Float) → on_read o (λ ys. good (x ∷ ys)) ≡ good zs → (ys : List Float) × (o ≡ good ys) × (zs ≡ x ∷ ys)
uncons (good ys) x zs e = (ys, refl, let q : x ∷ ys ≡ zs = cc in sym q)
uncons (bad n) x zs e = absurd (let z : ◌≡◌ {A = ℕ} 0 1 = cc in omega arith)

at-end : (gs : List Name) (why : Reason) (zs : List Float) → number_from gs ≡ refused why → multipliers_of gs ≡ good zs → zs ≡ []
unfolding multipliers_of
at-end [] why zs e q = let p : [] ≡ zs = cc in sym p
at-end (f ∷ fs) why zs e q = absurd (let z : ◌≡◌ {A = ℕ} 0 1 = let p = rw e at q in cc in omega arith)

module _ {fs gs : List Name} {k pattern : ℕ} {w0 w : List ℕ} {f0 f : List Float} {i : ℕ} (g : Storing fs gs k pattern w0 w f0 f i) where
  -- a number is taken: there is room for it
  module _ (hs : List Name) (x : Float) (e : number_from gs ≡ took x hs) where
    next : (ys : List Float) × (multipliers_of hs ≡ good ys) × (drop g.j g.xs ≡ x ∷ ys)
    next = uncons (multipliers_of hs) x (drop g.j g.xs) (sym (took_one gs hs x e).1 ∙ g.left)

    inside : g.j < length g.xs
    inside = omega (arith, ap length next.2, length-drop g.j g.xs)

    pub turn : Storing fs hs k pattern w0 (set w (multipliers_at + i) pattern) f0 (set f (multiplier_numbers_at + i) x) (i + 1)
    turn =
        let d : drop g.j g.xs ≡ get_or g.xs g.j nan ∷ drop (suc g.j) g.xs = drop-cons g.xs g.j nan inside in
        let n = next.2 in
        let ex : get_or g.xs g.j nan ≡ x = cc in
        let er : drop (suc g.j) g.xs ≡ next.0 = cc in
        let at : multipliers_at + i ≡ multipliers_at + k + g.j = omega (arith, g.here) in
        let at_n : multiplier_numbers_at + i ≡ multiplier_numbers_at + k + g.j = omega (arith, g.here) in
        record {
          xs = g.xs;
          j = g.j + 1;
          here = omega (arith, g.here);
          whole = g.whole;
          left = next.1 ∙ rw (add-one, er);
          placed = rw (at, at_n, ← ex) (one_placed g.placed inside);
        }

  pub ended : (why : Reason) → number_from gs ≡ refused why → (xs : List Float) → multipliers_of fs ≡ good xs → Put k pattern xs w0 w f0 f
  ended why e xs q =
      let z : drop g.j g.xs ≡ [] = at-end gs why (drop g.j g.xs) e g.left in
      let same : g.xs ≡ xs = let p = g.whole in cc in
      rw (← same) (all_placed g.placed (omega (arith, ap length z, length-drop g.j g.xs)))

-- two parts, one after the other
splice-two : {A : Type 0} (w : List A) (a : ℕ) (xs ys : List A) → a + length xs ≤ length w → splice (splice w a xs) (a + length xs) ys ≡ splice w a (xs ++ ys)
splice-two {A} w a xs ys h =
    let head : List A = take a w ++ xs in
    let tail : List A = drop (a + length xs) w in
    let long : length head ≡ a + length xs = length-append (take a w) xs ∙ rw (length-take-le a w (omega arith)) in
    let t : take (a + length xs) (splice w a xs) ≡ head = take_at head tail (a + length xs) long in
    let sum : a + length xs + length ys ≡ a + length (xs ++ ys) = omega (arith, length-append xs ys) in
    let d : drop (a + length xs + length ys) (splice w a xs) ≡ drop (a + length (xs ++ ys)) w =
    sym (drop-drop (length ys) (a + length xs) (splice w a xs)) ∙ ap (drop (length ys)) (drop_at head tail (a + length xs) long) ∙ drop-drop (length ys) (a + length xs) w ∙ rw sum in
    rw (t, d) (simp append_assoc)

put_two : {A : Type 0} (w0 : List A) {w1 w : List A} (a b : ℕ) (xs ys zs : List A) → a + length xs ≤ length w0 → b ≡ a + length xs → xs ++ ys ≡ zs
    → w1 ≡ splice w0 a xs → w ≡ splice w1 b ys → w ≡ splice w0 a zs
put_two w0 a b xs ys zs h at all first then = then ∙ rw (first, at, ← all) (splice-two w0 a xs ys h)

-- the multipliers of a line: those that were kept, and then the others
module _ {l : List ℕ} {first : List Float} {count rest : ℕ} {xs : List Float} (g : Multipliers l first count rest xs) (k : ℕ) where
  abbrev others : List Float
  others = drop (length first) xs

  all-kept : count ≤ length first → xs ≡ take count first
  all-kept h = sym (g.kept ∙ take_all (length first) xs (omega (arith, g.long)))

  some-kept : length first ≤ count → first ++ others ≡ xs
  some-kept h = ap (λ (ys : List Float). ys ++ others) (sym (take_all count first h) ∙ g.kept) ∙ take-append-drop (length first) xs

  some-long : length first ≤ count → length first + length others ≡ length xs
  some-long h = omega (arith, g.long, length-drop (length first) xs)

  module _ (room : k + length xs ≤ room_multipliers) where
    pub kept-room : count ≤ length first → k + length (take count first) ≤ room_multipliers
    kept-room h = rw (← all-kept h) room

    pub rest-room : length first ≤ count → k + length first + length others ≤ room_multipliers
    rest-room h = omega (arith, room, some-long h)

  module _ (pattern : ℕ) (w0 : List ℕ) (f0 : List Float) where
    pub put-kept : {w : List ℕ} {f : List Float} → count ≤ length first → Put k pattern (take count first) w0 w f0 f → Put k pattern xs w0 w f0 f
    put-kept h e = rw (all-kept h) e

    pub put_both : {w1 w : List ℕ} {f1 f : List Float} → length first ≤ count → length w0 ≡ record_words → length f0 ≡ room_numbers → k + length xs ≤ room_multipliers
        → Put k pattern first w0 w1 f0 f1 → Put (k + length first) pattern others w1 w f1 f → Put k pattern xs w0 w f0 f
    put_both h hw hf room a b =
        let n = some-long h in
        let r : length (replicate (length first) pattern) ≡ length first = length-replicate (length first) pattern in
        let both : replicate (length first) pattern ++ replicate (length others) pattern ≡ replicate (length xs) pattern = replicate-append-replicate (length first) (length others) pattern ∙ rw n in (
          put_two w0 (multipliers_at + k) (multipliers_at + (k + length first)) (replicate (length first) pattern) (replicate (length others) pattern)
              (replicate (length xs) pattern) (omega arith) (omega arith) both a.0 b.0,
          put_two f0 (multiplier_numbers_at + k) (multiplier_numbers_at + (k + length first)) first others xs (omega arith) (omega arith) (some-kept h) a.1 b.1,
        )
