-- What the workers ask of a sink and its bytes, and leave so.
use Rattle.std.specs.Prelude.{◌+◌, ◌≤◌, ◌≡◌, length}
use Rattle.entenc_sink.specs.Out.{Out}

-- the storage is the lent length, and the two places lie within it
pub record Fit (o : Out) : Type 0 where
  pub len : o.sink.storage ≡ length o.bytes
  pub room : o.sink.offs + o.sink.ends ≤ o.sink.storage
