-- What is written, and what this leads to.
use Rattle.std.specs.Prelude.{◌≡◌, ◌⊎◌, Bool, List, ℕ, Option, Some, is_some}
use Rattle.std.specs.Io.KnownBytes.{Appends}
use Rattle.un_io.specs.Outside.{AppendsPrefix}
use Rattle.un_http.specs.declared.check.Check.{Check}
use Rattle.un_http.specs.declared.check.Check.TheVariants.{BadHead, ManyHeaders, NotSupported, LongBody, NoLength}
use Rattle.un_turns.specs.declared.request.Response.{Response}
use Rattle.un_exchange.specs.declared.asked.Asked.{Asked}
use Rattle.un_exchange.specs.declared.end.LinkEnd.{LinkEnd}
use Rattle.un_exchange.specs.declared.end.LinkEnd.TheVariants as end
use Rattle.un_exchange.specs.declared.status.Status.TheVariants as status
use Rattle.un_exchange.specs.declared.respond.Outgoing.{Outgoing}
use Rattle.un_exchange.specs.declared.respond.Outgoing.TheVariants.{Printed, Page, Denied, Memory}
use Rattle.un_exchange.specs.Pages.{PageModel, page, http_page, memory_page, response_bytes}
use Rattle.un_exchange.specs.Exchanges.{Printing, page_of, end_if, end_after}

-- how the link ends after a check that a request failed
abbrev pub check_end : Check → LinkEnd
check_end BadHead = end.BadHead
check_end ManyHeaders = end.TooLarge
check_end NotSupported = end.NotSupported
check_end LongBody = end.TooLarge
check_end NoLength = end.NoLength

-- the bytes were written, and then the link goes on or ends as it is to; or a write failed, and the link ends by that
abbrev pub Writes : Option (List ℕ) → Option (List ℕ) → List ℕ → Option LinkEnd → Option LinkEnd → Type 0
Writes taken taken' bytes after result =
    ((result ≡ after) × Appends taken taken' bytes) ⊎ ((result ≡ Some end.WriteFault) × AppendsPrefix taken taken' bytes)

-- the bytes of a page, after which the link ends so
abbrev pub page_bytes : PageModel → Option LinkEnd → List ℕ
page_bytes page after = response_bytes page (is_some after)

-- the response that says that there is no memory was written, and then the link ends so; or a write failed
abbrev pub WritesMemoryPage : Option (List ℕ) → Option (List ℕ) → LinkEnd → Type 0
WritesMemoryPage taken taken' result = Writes taken taken' (page_bytes memory_page (Some end.Memory)) (Some end.Memory) (Some result)

-- what is to be written: what was printed, with its status; or a page of its own
abbrev pub outgoing_page : List ℕ → Outgoing → PageModel
outgoing_page printed (Printed status) = page status printed
outgoing_page printed (Page page) = page
outgoing_page printed (Denied d) = http_page status.Denied
outgoing_page printed Memory = memory_page

-- how the link ends after it
abbrev pub outgoing_end : Bool → Outgoing → Option LinkEnd
outgoing_end close (Printed status) = end_if close
outgoing_end close (Page page) = end_if close
outgoing_end close (Denied d) = Some (end.Denied d)
outgoing_end close Memory = Some end.Memory

module _ {C R Q A : Type 0} where
  -- what is to be written is the response
  pub record IsOutgoing (p : Printing R A) (asked : Asked C Q) (response : Response R A) (printed : List ℕ) (out : Outgoing) : Type 0 where
    pub says : outgoing_page printed out ≡ page_of p asked response
    pub ends : (close : Bool) → outgoing_end close out ≡ end_after close response
