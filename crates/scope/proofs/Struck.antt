-- A struck text, and a text up to a line, are no longer than the text and have no new bytes; so the public answers about them are those of the reading. Assumes nothing.
use Prim.Native.Nat.{ℕ, zero, suc, ◌≤◌}
use native.Mathlib.Omega.{arith}
use borrow.Author.Tests.{le-ltb}
use mathlib.Core.Path.{◌≡◌, refl, ap}
use mathlib.Core.Bool.{Bool, true, false, cond, false≢true}
use mathlib.Core.List.{List, [], ◌∷◌, ◌++◌}
use lib.ListN.{length, take, length-append}
use lib.Dec.{ltb}
use Rattle.leaf_scans.specs.Lines.{chunks, joined}
use Rattle.leaf_scans.proofs.LineLaws.{joined-chunks}
use Rattle.scope_lines.specs.Reader.{Mark, struck, strike_by}
use Rattle.scope_lines.specs.Text.{strike_text, up_to}
use Rattle.scope.specs.Sections.{room_text}
use Rattle.scope.specs.Layout.{room_words, room_numbers}
use Rattle.scope.specs.Reading.{all_low, strict_of, told, too_small, strict_answer, network_in, strict_network, surveyed, survey_network}
use Rattle.scope.specs.Promises.{Readable, Roomy}

-- ---- bytes
low-both : (a b : List ℕ) → all_low (a ++ b) ≡ true → (all_low a ≡ true) × (all_low b ≡ true)
unfolding all_low
low-both [] b h = (refl, h)
low-both (x ∷ a) b h = go (ltb 127 x) h (low-both a b)
  where
    go : (t : Bool) → cond t false (all_low (a ++ b)) ≡ true → (all_low (a ++ b) ≡ true → (all_low a ≡ true) × (all_low b ≡ true))
        → (cond t false (all_low a) ≡ true) × (all_low b ≡ true)
    go true h f = absurd (false≢true h)
    go false h f = f h

low-join : (a b : List ℕ) → all_low a ≡ true → all_low b ≡ true → all_low (a ++ b) ≡ true
unfolding all_low
low-join [] b h k = k
low-join (x ∷ a) b h k = go (ltb 127 x) h (λ e. low-join a b e k)
  where
    go : (t : Bool) → cond t false (all_low a) ≡ true → (all_low a ≡ true → all_low (a ++ b) ≡ true) → cond t false (all_low (a ++ b)) ≡ true
    go true h f = h
    go false h f = f h

-- ---- the lines `cs` are some of the lines `ds`, in their order
data Some : List (List ℕ) → List (List ℕ) → Type 0 where
  none : Some [] []
  kept : {c : List ℕ} {cs ds : List (List ℕ)} → Some cs ds → Some (c ∷ cs) (c ∷ ds)
  left : {c : List ℕ} {cs ds : List (List ℕ)} → Some cs ds → Some cs (c ∷ ds)

all : (cs : List (List ℕ)) → Some cs cs
all [] = none
all (c ∷ cs) = kept (all cs)

no_lines : (cs : List (List ℕ)) → Some [] cs
no_lines [] = none
no_lines (c ∷ cs) = left (no_lines cs)

some-struck : (ms : List Mark) (cs : List (List ℕ)) → Some (strike_by ms cs) cs
unfolding strike_by
some-struck [] cs = all cs
some-struck (m ∷ ms) [] = none
some-struck (m ∷ ms) (c ∷ cs) = go (struck m.class) (some-struck ms cs)
  where
    go : (t : Bool) → Some (strike_by ms cs) cs → Some (cond t (strike_by ms cs) (c ∷ strike_by ms cs)) (c ∷ cs)
    go true s = left s
    go false s = kept s

some_first : (k : ℕ) (cs : List (List ℕ)) → Some (take k cs) cs
some_first zero cs = no_lines cs
some_first (suc k) [] = none
some_first (suc k) (c ∷ cs) = kept (some_first k cs)

some-short : {cs ds : List (List ℕ)} → Some cs ds → length (joined cs) ≤ length (joined ds)
unfolding joined
some-short none = omega arith
some-short (kept {c} {cs} {ds} s) = omega (arith, some-short s, length-append c (joined cs), length-append c (joined ds))
some-short (left {c} {cs} {ds} s) = omega (arith, some-short s, length-append c (joined ds))

some-low : {cs ds : List (List ℕ)} → Some cs ds → all_low (joined ds) ≡ true → all_low (joined cs) ≡ true
unfolding joined
some-low none h = h
some-low (kept {c} {cs} {ds} s) h = let p = low-both c (joined ds) h in low-join c (joined cs) p.0 (some-low s p.1)
some-low (left {c} {cs} {ds} s) h = some-low s (low-both c (joined ds) h).1

-- ---- texts
some-readable : (t : List ℕ) {cs : List (List ℕ)} → Some cs (chunks t) → Readable t → Readable (joined cs)
some-readable t s r =
    let j : joined (chunks t) ≡ t = joined-chunks t in
    record { short = omega (arith, some-short s, ap length j, r.short); low = some-low s (rw j r.low) }

pub struck-readable : (ms : List Mark) (t : List ℕ) → Readable t → Readable (strike_text ms t)
unfolding strike_text
struck-readable ms t r = some-readable t (some-struck ms (chunks t)) r

pub first-readable : (k : ℕ) (t : List ℕ) → Readable t → Readable (up_to k t)
unfolding up_to
first-readable k t r = some-readable t (some_first k (chunks t)) r

-- ---- the public answer
pub answered : (t : List ℕ) (w f : ℕ) → Readable t → Roomy w f → strict_answer t w f ≡ told (strict_of t)
unfolding strict_answer too_small
answered t w f r k = rw (le-ltb w room_words k.words, le-ltb f room_numbers k.numbers, le-ltb room_text (length t) r.short, r.low)

-- ---- what the public functions store
pub strict-stores : (t : List ℕ) → Readable t → strict_network t ≡ network_in (strict_of t)
unfolding strict_network
strict-stores t r = rw (le-ltb room_text (length t) r.short, r.low)

pub survey-stores : (t : List ℕ) → Readable t → survey_network t ≡ surveyed t
unfolding survey_network
survey-stores t r = rw (le-ltb room_text (length t) r.short, r.low)
