-- The law that an edit keeps features in range.
use Rattle.std.proofs.Common.{[], refl}
use Rattle.un_store.specs.Refusals.{refusal_of as row_refusal}
use Rattle.un_store.proofs.Fitting.{none_refused}
use Rattle.un_assoc.specs.Refusals.{refusal_of as link_refusal}
use Rattle.un_facts.specs.Known.{setting}
use Rattle.un_facts.specs.Refusals.{standing_refusal}
use Rattle.un_feed_laws.specs.Edits.{EditsStayInRangeLaw}
use Rattle.un_feed_laws.proofs.RowsKept.{rows_kept}
use Rattle.un_feed_laws.proofs.LinksKept.{associations_kept, controllers_kept}

pub edits_kept : EditsStayInRangeLaw
edits_kept K next e catalog typed feature association range none =
    let T = setting K.setup in
    let F = K.features in
    let row = none_refused (row_refusal K.setup.schema F.rows e) _ none in
    let stands = none_refused (standing_refusal F e) _ row.1 in
    let link = none_refused (link_refusal T F e) [] stands.1 in
    record {
      rows = rows_kept T catalog next F range.rows e feature row.0;
      associations = associations_kept T next F range.rows range.associations e association link.0;
      controllers = controllers_kept T next F K.setup.tiers refl range.controllers e typed;
    }
