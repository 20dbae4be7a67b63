-- The classes of the lines, counted. Assumes nothing.
use Rattle.std.specs.Prelude.{ℕ, List}
use Rattle.scope_lines.specs.Tables.{count_in}
use Rattle.scope.specs.declared.Survey.{Survey}

unfoldable pub counted : List ℕ → ℕ → Survey
counted xs n =
    record {
      number = 0;
      lines = n;
      blank = count_in 1 xs;
      header = count_in 2 xs;
      passed = count_in 3 xs;
      taken = count_in 4 xs;
      refused = count_in 5 xs;
      ruletaken = count_in 6 xs;
      rulerefused = count_in 7 xs;
      ruleopen = count_in 8 xs;
    }
