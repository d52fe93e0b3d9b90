-- An inbox as contracts see it. It stands apart from what is defined of it, since the struct's own model cites it.
use Rattle.std.specs.Prelude.{ℕ, List}

-- the parts of the request that was given last, and the bytes that have come after it
pub record Holding : Type 0 where
  pub method : List ℕ
  pub path : List ℕ
  pub body : List ℕ
  pub held : List ℕ
