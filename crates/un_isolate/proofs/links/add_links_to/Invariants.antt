use Rattle.std.proofs.Common.{take}
use Rattle.un_isolate.specs.Links.{AddsLinksTo}
use Rattle.un_isolate.proofs.links.add_links_to.Given as goal

abbrev pub invariant-loop-place : goal.invariant-loop-place
invariant-loop-place l = AddsLinksTo l.fn.links l.links (take l.place-index l.from) l.to
