-- `leaf_fields::field_end` meets its contract. Assumes nothing.
use Rattle.leaf_fields.proofs.FieldLaws.{past-taken, past-nothing}
use Rattle.leaf_fields.proofs.field_end.Goals as goal

pub returns-in_default : goal.returns-in_default
returns-in_default c = λ l n. past-nothing l _ _ n c.in_default.is

pub returns : goal.returns
returns c = λ l n. past-taken l _ _ n _ c.in-Some.is
