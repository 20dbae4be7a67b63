-- The code's answers as what document 01 says of the type and the setting of a valve. Assumes nothing.
use Rattle.std.specs.Prelude.{ℕ, ◌≡◌, List, Err, None, Ok, Option, Result, Some}
use Rattle.leaf_fields.specs.Fields.{fields_at}
use Rattle.scope.specs.declared.Reason.{Reason}
use Rattle.scope.specs.declared.Reason.TheVariants.{UnknownWord}
use Rattle.scope.specs.declared.ValveType.{ValveType}
use Rattle.scope.specs.Values.{Read, good, bad, Took, took, refused}
use Rattle.scope.specs.Links as scope
use Rattle.parse_fields.specs.Taking.{opt_in, MayFit}
use Rattle.parse_valves.specs.declared.Setting.{Setting}

abbrev pub TypeAs : Read ValveType → Option ValveType → Type 0
TypeAs o (Some t) = o ≡ good t
TypeAs o None = o ≡ bad UnknownWord

abbrev pub SettingAs : List ℕ → Took scope.Setting → Result (Setting × ℕ) Reason → Type 0
SettingAs l o (Ok (s, next)) = (o ≡ took (record { value = s.value; curve = opt_in l s.curve }) (fields_at l next)) × MayFit l s.curve
SettingAs l o (Err why) = o ≡ refused why
