-- A command that is decided after a read.
use Rattle.std.proofs.Common.{◌≡◌, ◌⊎◌, List, true, false, inl, inr, subst}
use Rattle.un_machine.specs.declared.Entry.{Entry}
use Rattle.un_publish.specs.Models.{SessionModel}
use Rattle.un_publish.specs.declared.session.Denied.TheVariants.{NoCopy, Book, Long}
use Rattle.un_publish.specs.declared.session.SessionFault.{SessionFault}
use Rattle.un_publish.specs.declared.session.SessionFault.TheVariants.{Denied as Refused, Memory}
use Rattle.un_turns.proofs.Prefixes.{prefix_trans}
use Rattle.un_journal.specs.declared.receipt.Receipt.{Receipt}
use Rattle.un_journal.specs.Books.{JournalModel, IsAccepted, IsRefused}
use Rattle.un_journal.specs.Commits.{IsReceipt}
use Rattle.un_desk.specs.Desks.{IsSubmitted, IsDeskFault, counted}
use Rattle.un_turns.specs.Prepared.{ReadFirstLaw, ReadFirstFaultLaw}

module _ {M C R H K : Type 0} where
  fault_first : (s t : SessionModel M C R H K) (xs : List (Entry M C R H K)) (f : SessionFault) → IsDeskFault (counted (record s { seen = xs })) t f → IsDeskFault (counted s) t f
  fault_first s t xs Memory h = h
  fault_first s t xs (Refused NoCopy) h = h
  fault_first s t xs (Refused (Long a b)) h = h
  fault_first s t xs (Refused (Book a b)) h = h

module _ {M C R H K : Type 0} (step : M → C → (M × (R × K)) ⊎ R) where
  -- a receipt does not depend on what the session had seen before
  same_receipt : (a b : JournalModel M C R H K) (s t : SessionModel M C R H K) (xs : List (Entry M C R H K)) (cmd : C) (r : Receipt M C R H K)
      → IsReceipt step a b (record s { seen = xs }) t cmd r → IsReceipt step a b s t cmd r
  same_receipt a b s t xs cmd r h = record {
    book = h.book;
    seen = h.seen;
    version = h.version;
    view = h.view;
    state = h.state;
    decided = elim h.decided as (λ _. ((r.accepted ≡ true) × IsAccepted step a b s t cmd r.reply) ⊎ ((r.accepted ≡ false) × IsRefused step a b s t cmd r.reply)) [
      | inl d ↦ inl (d.0, record { mark = d.1.mark; steps = d.1.steps; log = d.1.log; session = d.1.session })
      | inr d ↦ inr (d.0, record { steps = d.1.steps; same = d.1.same; session = d.1.session })
    ];
  }

module _ {M C R H K : Type 0} (step : M → C → (M × (R × K)) ⊎ R) (opening : List M) where
  pub read_first : ReadFirstLaw H step opening
  read_first s m t v cmd r read h =
      let k = subst (λ (x : SessionModel M C R H K). IsSubmitted step opening x t cmd r) read.kept h in
      record {
        before = k.before;
        after = k.after;
        receipt = same_receipt step k.before k.after (counted s) t m.seen cmd r k.receipt;
        reaches = k.reaches;
        seen = prefix_trans s.seen m.seen t.seen read.seen h.seen;
      }

  pub read_first_fault : ReadFirstFaultLaw H step opening
  read_first_fault s m t v f read h = fault_first s t m.seen f (subst (λ (x : SessionModel M C R H K). IsDeskFault (counted x) t f) read.kept h)
