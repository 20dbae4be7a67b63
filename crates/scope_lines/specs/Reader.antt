-- "Lines and groups" of document 01, over any type A of lines, S of sections and R of records: what a line does, strict
-- reading, survey reading, and striking. Nothing here knows of bytes, places or names.
use Rattle.std.specs.Prelude.{Bool, ℕ, ◌+◌, eqb}
use Rattle.std.proofs.Math.Bool.{true, false, cond}
use mathlib.Core.List.{List, [], ◌∷◌, ◌++◌}

-- ---- what a concrete reader gives

-- what a line is, by its letters alone: blank; a header, and the section that it opens; a line that starts with RULE; any other
pub data Sort (S : Type 0) : Type 0 where
  empty : Sort S
  heading : S → Sort S
  start other : Sort S

-- what is said of a piece, "which is a line or a rule group": the new records, or the number of the refusal
pub data Verdict (R : Type 0) : Type 0 where
  good : R → Verdict R
  bad : ℕ → Verdict R

-- by the number of a refusal, 0 for none
abbrev pub verdict : {R : Type 0} → ℕ → R → Verdict R
verdict k r = cond (eqb k 0) (good r) (bad k)

-- a line outside RULES is passed over, or judged
pub data Stored (R : Type 0) : Type 0 where
  over : Stored R
  judged : Verdict R → Stored R

-- the sort of a line; whether a section is RULES; what a line of another section, and a group that closes, make of the records;
-- what is done once the text is read to its end
pub record Reader (S A R : Type 0) : Type 0 where
  pub sort : A → Sort S
  pub rules : S → Bool
  pub store : S → A → R → Stored R
  pub close : List A → R → Verdict R
  pub finish : R → R

-- ---- where a reading stands, classes, replies

-- the section, the lines of the open group ([] where none is open), the records
pub record Standing (S A R : Type 0) : Type 0 where
  pub sec : S
  pub group : List A
  pub recs : R

abbrev pub standing : {S A R : Type 0} → S → List A → R → Standing S A R
standing s g r = record { sec = s; group = g; recs = r }

-- "each line in one class, numbered from 1: blank, header, passed, taken, refused, rule taken, rule refused, open"
pub data Class : Type 0 where
  blank header passed taken refused rule_taken rule_refused rule_open : Class

unfoldable pub code : Class → ℕ
code blank = 1
code header = 2
code passed = 3
code taken = 4
code refused = 5
code rule_taken = 6
code rule_refused = 7
code rule_open = 8

-- the classes of a line that stores nothing, joins nothing and is not refused
pub data Still : Type 0 where
  is_blank is_header is_passed : Still

unfoldable pub still_class : Still → Class
still_class is_blank = blank
still_class is_header = header
still_class is_passed = passed

-- what a survey says of a line: its class and its reason
pub record Mark : Type 0 where
  pub class : Class
  pub reason : ℕ

abbrev pub marked : Class → ℕ → Mark
marked c n = record { class = c; reason = n }

-- a piece: a line, or the lines of a group
pub data Piece (A : Type 0) : Type 0 where
  a_line : A → Piece A
  a_group : List A → Piece A

-- what strict reading comes to: accepted, with the records; or stopped, with the number of the refusal, the refused piece and
-- the records at that point
pub data Reply (A R : Type 0) : Type 0 where
  accepted : R → Reply A R
  stopped : ℕ → Piece A → R → Reply A R

-- what becomes of a group: still open at the end, taken, refused
pub data Fate : Type 0 where
  unclosed approved : Fate
  rejected : ℕ → Fate

-- ---- one line

-- what a line that closes a group is itself: a line of its own kind (which may set the section), the last line of the
-- group that it closes, or the first of the next
pub data Own (S : Type 0) : Type 0 where
  itself : Still → S → Own S
  last fresh : Own S

-- what a line does: nothing but perhaps set the section; is judged; joins the open group, or opens one; closes the open group
pub data Outcome (S R : Type 0) : Type 0 where
  still : Still → S → Outcome S R
  filed : Verdict R → Outcome S R
  joins : Outcome S R
  closes : Verdict R → Own S → Outcome S R

unfoldable pub settle : {R : Type 0} → Verdict R → R → R
settle (good r') r = r'
settle (bad n) r = r

unfoldable pub fate_of : {R : Type 0} → Verdict R → Fate
fate_of (good r) = approved
fate_of (bad n) = rejected n

unfoldable pub group_class : Fate → Class
group_class unclosed = rule_open
group_class approved = rule_taken
group_class (rejected n) = rule_refused

unfoldable pub reason_of : Fate → ℕ
reason_of unclosed = 0
reason_of approved = 0
reason_of (rejected n) = n

-- is a group open?
unfoldable pub if_open : {A X : Type 0} → List A → X → X → X
if_open [] yes' no' = no'
if_open (x ∷ g) yes' no' = yes'

unfoldable pub of_stored : {S R : Type 0} → S → Stored R → Outcome S R
of_stored s over = still is_passed s
of_stored s (judged v) = filed v

-- where the reading stands after a line: "every other refusal stores nothing of its piece"
unfoldable pub next : {S A R : Type 0} → Standing S A R → A → Outcome S R → Standing S A R
unfolding settle
next st l (still c s) = standing s st.group st.recs
next st l (filed v) = standing st.sec st.group (settle v st.recs)
next st l joins = standing st.sec (st.group ++ (l ∷ [])) st.recs
next st l (closes v (itself c s)) = standing s [] (settle v st.recs)
next st l (closes v last) = standing st.sec [] (settle v st.recs)
next st l (closes v fresh) = standing st.sec (l ∷ []) (settle v st.recs)

-- strict reading stops at a piece that is refused; else it comes to `a`
unfoldable pub unless : {A R : Type 0} → Verdict R → Piece A → R → Reply A R → Reply A R
unless (good r') p r a = a
unless (bad n) p r a = stopped n p r

unfoldable pub stop_at : {S A R : Type 0} → Standing S A R → A → Outcome S R → Reply A R → Reply A R
unfolding unless
stop_at st l (still c s) a = a
stop_at st l (filed v) a = unless v (a_line l) st.recs a
stop_at st l joins a = a
stop_at st l (closes v own) a = unless v (a_group st.group) st.recs a

-- what becomes of the group that is open before a line, if `f` becomes of the one that is open after it
unfoldable pub fate_at : {S R : Type 0} → Outcome S R → Fate → Fate
unfolding fate_of
fate_at (still c s) f = f
fate_at (filed v) f = f
fate_at joins f = f
fate_at (closes v own) f = fate_of v

-- "a refused line's reason stands at that line, a refused group's at its first line": the mark of a group's first line, and of a
-- line that joins the group whose lines so far are `g`
unfoldable pub first_mark : Fate → Mark
unfolding group_class reason_of
first_mark f = marked (group_class f) (reason_of f)

unfoldable pub group_mark : {A : Type 0} → List A → Fate → Mark
unfolding first_mark
group_mark [] f = first_mark f
group_mark (x ∷ g) f = marked (group_class f) 0

unfoldable pub line_mark : {R : Type 0} → Verdict R → Mark
line_mark (good r) = marked taken 0
line_mark (bad n) = marked refused n

-- the mark of a line, if `f` becomes of the group that is open after it
unfoldable pub mark : {S A R : Type 0} → Standing S A R → Outcome S R → Fate → Mark
unfolding still_class group_mark first_mark line_mark group_class fate_of
mark st (still c s) f = marked (still_class c) 0
mark st (filed v) f = line_mark v
mark st joins f = group_mark st.group f
mark st (closes v (itself c s)) f = marked (still_class c) 0
mark st (closes v last) f = marked (group_class (fate_of v)) 0
mark st (closes v fresh) f = first_mark f

-- how many lines are of the class with number k
unfoldable pub tally : ℕ → Class → ℕ
unfolding code
tally k c = cond (eqb (code c) k) 1 0

unfoldable pub count : ℕ → List Mark → ℕ
unfolding tally
count k [] = 0
count k (m ∷ ms) = tally k m.class + count k ms

-- ---- striking: demand 3 strikes the lines of the classes refused and rule refused

unfoldable pub struck : Class → Bool
struck blank = false
struck header = false
struck passed = false
struck taken = false
struck refused = true
struck rule_taken = false
struck rule_refused = true
struck rule_open = false

unfoldable pub strike_by : {X : Type 0} → List Mark → List X → List X
unfolding struck
strike_by [] ls = ls
strike_by (m ∷ ms) [] = []
strike_by (m ∷ ms) (l ∷ ls) = cond (struck m.class) (strike_by ms ls) (l ∷ strike_by ms ls)

-- the verdict on the open group, if it is closed now; nothing happens where none is open
unfoldable pub shut : {S A R : Type 0} → Reader S A R → Standing S A R → Verdict R
unfolding if_open
shut 𝓡 st = if_open st.group (𝓡.close st.group st.recs) (good st.recs)

-- ---- the two readings. Plain reading (house is false) is that of document 01: "a blank line in any section closes the open group.
-- A line in RULES starting with RULE, met while a group is open, closes it and is itself dropped. A header closes nothing. A group
-- still open at the end is discarded." In a house text (house is true) a header and the end close the open group too, and a RULE
-- line that closes one opens the next.

module _ {S A R : Type 0} (𝓡 : Reader S A R) (house : Bool) where
  -- by the line's sort, and whether the section is that of the rules
  unfoldable pub act : Sort S → Bool → Standing S A R → A → Outcome S R
  unfolding if_open of_stored shut
  act empty b st l = if_open st.group (closes (shut 𝓡 st) (itself is_blank st.sec)) (still is_blank st.sec)
  act (heading s) b st l = cond house (if_open st.group (closes (shut 𝓡 st) (itself is_header s)) (still is_header s)) (still is_header s)
  act start true st l = if_open st.group (closes (shut 𝓡 st) (cond house fresh last)) joins
  act start false st l = of_stored st.sec (𝓡.store st.sec l st.recs)
  act other true st l = joins
  act other false st l = of_stored st.sec (𝓡.store st.sec l st.recs)

  unfoldable pub step : Standing S A R → A → Outcome S R
  unfolding act
  step st l = act (𝓡.sort l) (𝓡.rules st.sec) st l

  -- what the end of the text says of the records, and what becomes of the open group there
  unfoldable pub end_verdict : Standing S A R → Verdict R
  unfolding shut
  end_verdict st = cond house (shut 𝓡 st) (good st.recs)

  unfoldable pub end_fate : Standing S A R → Fate
  unfolding shut fate_of
  end_fate st = cond house (fate_of (shut 𝓡 st)) unclosed

  -- reading that stops at the first refused piece; `ε` answers where the lines end
  unfoldable pub read : (Standing S A R → Reply A R) → Standing S A R → List A → Reply A R
  unfolding stop_at step next
  read ε st [] = ε st
  read ε st (l ∷ ls) = stop_at st l (step st l) (read ε (next st l (step st l)) ls)

  unfoldable pub ending : Standing S A R → Reply A R
  unfolding end_verdict settle unless
  ending st = unless (end_verdict st) (a_group st.group) st.recs (accepted (𝓡.finish (settle (end_verdict st) st.recs)))

  -- STRICT: of a text; and of lines that are only the beginning of one
  unfoldable pub strict : Standing S A R → List A → Reply A R
  unfolding read ending
  strict st ls = read ending st ls

  unfoldable pub strict_to : Standing S A R → List A → Reply A R
  unfolding read
  strict_to st ls = read (λ q. accepted q.recs) st ls

  -- SURVEY: where the reading stands after some lines, what becomes of the open group in the lines to come (`φ` if they do not close it),
  -- the marks, the records
  unfoldable pub after : Standing S A R → List A → Standing S A R
  unfolding step next
  after st [] = st
  after st (l ∷ ls) = after (next st l (step st l)) ls

  unfoldable pub fate : Fate → Standing S A R → List A → Fate
  unfolding step next fate_at
  fate φ st [] = φ
  fate φ st (l ∷ ls) = fate_at (step st l) (fate φ (next st l (step st l)) ls)

  unfoldable pub marks : Fate → Standing S A R → List A → List Mark
  unfolding step next mark fate
  marks φ st [] = []
  marks φ st (l ∷ ls) =
      mark st (step st l) (fate φ (next st l (step st l)) ls) ∷ marks φ (next st l (step st l)) ls

  unfoldable pub survey_marks : Standing S A R → List A → List Mark
  unfolding end_fate after marks
  survey_marks st ls = marks (end_fate (after st ls)) st ls

  unfoldable pub survey_recs : Standing S A R → List A → R
  unfolding settle end_verdict after
  survey_recs st ls = 𝓡.finish (settle (end_verdict (after st ls)) (after st ls).recs)

  unfoldable pub strike : Fate → Standing S A R → List A → List A
  unfolding strike_by marks
  strike φ st ls = strike_by (marks φ st ls) ls
