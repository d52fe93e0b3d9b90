-- Which counts have risen where a link ends by a fault or by a denial.
use Rattle.std.specs.Prelude.{◌≡◌, ℕ}
use Rattle.un_io.specs.Outside.{Rose}
use Rattle.un_publish.specs.declared.session.Denied.{Denied}
use Rattle.un_exchange.specs.declared.end.LinkEnd.{LinkEnd}
use Rattle.un_exchange.specs.declared.end.LinkEnd.TheVariants as end

-- a link that ends by a failed write has counted it
abbrev pub CountsWriteFault : LinkEnd → ℕ → ℕ → Type 0
CountsWriteFault result old new = result ≡ end.WriteFault → Rose old new

-- a link that ends by a failed read has counted it
abbrev pub CountsReadFault : LinkEnd → ℕ → ℕ → Type 0
CountsReadFault result old new = result ≡ end.ReadFault → Rose old new

-- where a link ends since its session was denied, the session has counted that
abbrev pub CountsDenial : LinkEnd → ℕ → ℕ → Type 0
CountsDenial result old new = (d : Denied) → result ≡ end.Denied d → Rose old new
