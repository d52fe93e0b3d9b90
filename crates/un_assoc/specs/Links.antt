-- The associations and the controllers of a network, and the network that has them.
use Rattle.std.specs.Prelude.{ℕ, Bool, List, [], map}
use Rattle.un_defs.specs.declared.port.Port.{Port}
use Rattle.un_defs.specs.declared.assoc.Assoc.{Assoc}
use Rattle.un_defs.specs.declared.assoc.AssocKind.{AssocKind}
use Rattle.un_defs.specs.declared.assoc.AssocKind.TheVariants.{Connectivity, Containment, Attachment}
use Rattle.un_defs.specs.declared.assoc.Controller.{Controller}
use Rattle.un_defs.specs.Features.{Features, controllers_of}
use Rattle.un_defs.specs.Links.{is_connectivity}
use Rattle.un_defs.specs.Star.{is_containment, is_attachment}

-- the live associations by rising id, and the controllers in the order of their ports
pub record Links : Type 0 where
  pub associations : List Assoc
  pub controllers : List Controller

-- the associations and controllers of a network
abbrev pub links_of : Features → Links
links_of F = record { associations = F.associations; controllers = F.controllers }

-- the network with these associations and controllers in place of its own
abbrev pub with_links : Features → Links → Features
with_links F L = record F { associations = L.associations; controllers = L.controllers }

-- a network that has only associations and controllers
abbrev pub only_links : Links → Features
only_links L = record { rows = []; associations = L.associations; controllers = L.controllers; rules = [] }

-- the ports of the controllers of a subnetwork, in their order
abbrev pub controller_ports : Links → ℕ → List ℕ → List Port
controller_ports L tier subnet = map (λ c. c.port) (controllers_of (only_links L) tier subnet)

-- none of either
abbrev pub no_links : Links
no_links = record { associations = []; controllers = [] }

-- the test for a sort
abbrev pub is_sort : AssocKind → AssocKind → Bool
is_sort Connectivity = is_connectivity
is_sort Containment = is_containment
is_sort Attachment = is_attachment

-- the association is of the sort
abbrev pub is_of_sort : AssocKind → Assoc → Bool
is_of_sort sort a = is_sort sort a.sort
