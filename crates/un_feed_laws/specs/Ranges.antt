-- Features whose ids, terminals, attributes, points and names are in range: what a page needs of them, besides that they are sound.
use Rattle.std.specs.Prelude.{◌≤◌, ◌<◌, List, length, All}
use Rattle.un_geom.specs.Places.{IsPlace}
use Rattle.un_attrs.specs.Attributes.{IsAttributes}
use Rattle.un_schema.specs.Catalog.{Catalog}
use Rattle.un_schema.specs.Names.{IsName}
use Rattle.un_tiers.specs.declared.tier.Tier.{Tier}
use Rattle.un_defs.specs.declared.row.Row.{Row}
use Rattle.un_defs.specs.declared.assoc.Assoc.{Assoc}
use Rattle.un_defs.specs.declared.assoc.Controller.{Controller}
use Rattle.un_defs.specs.Features.{Features}
use Rattle.un_feed_json.specs.Sound.{IsId}

-- the row's attributes are those of a feature, and the schema has them
pub record IsRowInRange (S : Catalog) (r : Row) : Type 0 where
  pub id : IsId r.id
  pub terminals : r.terminals ≤ 63
  pub attrs : IsAttributes r.attrs
  pub named : All (λ pair. pair.0 < length S.attributes) r.attrs
  pub placed : All IsPlace r.shape

-- each end of the association is a whole feature, or one of its terminals
pub record IsAssocInRange (a : Assoc) : Type 0 where
  pub id : IsId a.id
  pub from : a.from.number ≤ 63
  pub to : a.to.number ≤ 63

-- the controller's tier exists, and its subnetwork's name has the form of a name
pub record IsControllerInRange (T : List Tier) (c : Controller) : Type 0 where
  pub tier : c.tier < length T
  pub subnet : IsName c.subnet

pub record AreInRange (S : Catalog) (T : List Tier) (F : Features) : Type 0 where
  pub rows : All (IsRowInRange S) F.rows
  pub associations : All IsAssocInRange F.associations
  pub controllers : All (IsControllerInRange T) F.controllers
