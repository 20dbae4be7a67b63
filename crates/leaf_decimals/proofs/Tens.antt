-- The table of powers of ten: each entry is the double of the whole number. Assumes nothing.
use mathlib.Core.Path.{◌≡◌, refl, sym, ap, ◌∙◌}
use mathlib.Core.List.{List, [], ◌∷◌}
use Prim.Native.Nat.{ℕ, zero, suc, ◌+◌, ◌<◌}
use native.Mathlib.Nat.{add-zero, zero-add, add-suc, suc-add, not-suc-le-zero, le_of_suc-le-suc}
use lib.ListN.{length, get_or}
use lib.Ieee.{Float, nan, binary64, of_bits, of_int}
use Rattle.leaf_decimals.specs.Reach.{ten}

abbrev pub tens : List Float
tens =
    of_bits binary64 4607182418800017408
    ∷ of_bits binary64 4621819117588971520
    ∷ of_bits binary64 4636737291354636288
    ∷ of_bits binary64 4652007308841189376
    ∷ of_bits binary64 4666723172467343360
    ∷ of_bits binary64 4681608360884174848
    ∷ of_bits binary64 4696837146684686336
    ∷ of_bits binary64 4711630319722168320
    ∷ of_bits binary64 4726483295884279808
    ∷ of_bits binary64 4741671816366391296
    ∷ of_bits binary64 4756540486875873280
    ∷ of_bits binary64 4771362005757984768
    ∷ of_bits binary64 4786511204640096256
    ∷ of_bits binary64 4801453603149578240
    ∷ of_bits binary64 4816244402031689728
    ∷ of_bits binary64 4831355200913801216
    ∷ of_bits binary64 4846369599423283200
    ∷ of_bits binary64 4861130398305394688
    ∷ of_bits binary64 4876203697187506176
    ∷ of_bits binary64 4891288408196988160
    ∷ of_bits binary64 4906019910204099648
    ∷ of_bits binary64 4921056587992461136
    ∷ of_bits binary64 4936209963552724370
    ∷ []

-- entry i of xs is 10 ^ (k + i)
abbrev Powers : List Float → ℕ → Type 0
Powers [] k = Unit {0}
Powers (x ∷ xs) k = (x ≡ ten k) × Powers xs (suc k)

at : (xs : List Float) (k i : ℕ) → Powers xs k → i < length xs → get_or xs i nan ≡ ten (k + i)
at [] k i p h = absurd (not-suc-le-zero h)
at (x ∷ xs) k zero p h = p.0 ∙ ap ten (sym (add-zero k))
at (x ∷ xs) k (suc i) p h = at xs (suc k) i p.1 (le_of_suc-le-suc h) ∙ ap ten (suc-add k i ∙ sym (add-suc k i))

rows : Powers tens 0
unfolding of_bits of_int
rows = (refl, (refl, (refl, (refl, (refl, (refl, (refl, (refl, (refl, (refl, (refl, (refl, (refl, (refl, (refl, (refl, (refl, (refl, (refl, (refl, (refl, (refl, (refl, tt)))))))))))))))))))))))

pub tens-at : (k : ℕ) → k < 23 → get_or tens k nan ≡ ten k
tens-at k h = at tens 0 k rows h ∙ ap ten (zero-add k)
