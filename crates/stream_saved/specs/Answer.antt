-- What restoring answers.
use Rattle.std.specs.Prelude.{Result}
use Rattle.entcode.specs.declared.reasons.Refusal.{Refusal}
use Rattle.stream_saved.specs.declared.WithRecord.{WithRecord}

-- nothing or a refusal, and a record
abbrev pub Restored : Type 0
Restored = WithRecord (Result (Unit {0}) Refusal)
