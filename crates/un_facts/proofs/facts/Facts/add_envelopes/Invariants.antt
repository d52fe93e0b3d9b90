use Rattle.std.proofs.Common.{◌≡◌, ◌++◌, flat_map, take}
use Rattle.un_defs.specs.Dirtied.{envelope_of}
use Rattle.un_facts.proofs.facts.Facts.add_envelopes.Given as goal

-- the envelopes of the rows so far are added
abbrev pub invariant-loop-id : goal.invariant-loop-id
invariant-loop-id l = l.rects.items ≡ l.fn.rects.items ++ flat_map (envelope_of l.self.features) (take l.id-index l.ids)
