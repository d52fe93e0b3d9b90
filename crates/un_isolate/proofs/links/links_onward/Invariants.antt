use Rattle.un_isolate.specs.Links.{AreLinksOf}
use Rattle.un_isolate.proofs.links.links_onward.Given as goal

abbrev pub invariant-loop-one : goal.invariant-loop-one
invariant-loop-one l = AreLinksOf l.barriers l.nodes l.links.items l.one-index
