-- Facts of an answer, put together.
use Rattle.std.proofs.Common.{◌≡◌, ◌⊎◌, List, Result, Ok, Err, IfOk, IfErr, inl, inr, ⊎_elim, true, false, ap, sym, ◌∙◌}
use Rattle.un_machine.specs.declared.Entry.{Entry}
use Rattle.un_publish.specs.Models.{SessionModel, risen}
use Rattle.un_publish.specs.Faults.{IsDenied, IsTeachFault}
use Rattle.un_publish.specs.declared.session.Denied.{Denied}
use Rattle.un_publish.specs.declared.session.Denied.TheVariants.{NoCopy, Book, Long}
use Rattle.un_publish.specs.declared.session.SessionFault.{SessionFault}
use Rattle.un_publish.specs.declared.session.SessionFault.TheVariants.{Denied as Refused, Memory}
use Rattle.un_journal.specs.declared.receipt.Receipt.{Receipt}
use Rattle.un_journal.specs.Books.{JournalModel, IsAccepted, IsRefused}
use Rattle.un_journal.specs.Commits.{IsReceipt, IsCommitFault}
use Rattle.un_desk.specs.Desks.{IsDeskFault}

pub both_ok : {A E : Type 0} (r : Result A E) {P Q S : A → Type 0} → ((a : A) → P a → Q a → S a) → IfOk r P → IfOk r Q → IfOk r S
both_ok (Ok a) f p q = f a p q
both_ok (Err e) f p q = tt

pub each_err : {A E : Type 0} (r : Result A E) {P S : E → Type 0} → ((e : E) → P e → S e) → IfErr r P → IfErr r S
each_err (Ok a) f p = tt
each_err (Err e) f p = f e p

module _ {M C R H K : Type 0} where
  -- nothing but the count of denials has changed
  pub denied_alone : (s t : SessionModel M C R H K) (seen : List (Entry M C R H K)) → t ≡ record s { seen = seen; denied = risen s.denied } → IsDenied s t
  denied_alone s t seen h = h ∙ ap (λ (l : List (Entry M C R H K)). record s { seen = l; denied = risen s.denied }) (sym (ap (λ (u : SessionModel M C R H K). u.seen) h))

  pub teach_fault : (log : List (Entry M C R H K)) (s t : SessionModel M C R H K) (d : Denied) → IsTeachFault log s t d → IsDeskFault s t (Refused d)
  teach_fault log s t NoCopy h = denied_alone s t s.seen h
  teach_fault log s t (Long seen n) h = (h.0, h.1, h.3)
  teach_fault log s t (Book book own) h = absurd h

  -- whatever was seen when the commit began
  pub commit_fault : (a : JournalModel M C R H K) (s t : SessionModel M C R H K) (seen : List (Entry M C R H K)) (f : SessionFault) → IsCommitFault a (record s { seen = seen }) t f → IsDeskFault s t f
  commit_fault a s t seen Memory h = h.1
  commit_fault a s t seen (Refused NoCopy) h = denied_alone s t seen h.1
  commit_fault a s t seen (Refused (Long n m)) h = (h.1.0, h.1.1, h.1.3)
  commit_fault a s t seen (Refused (Book book own)) h = (denied_alone s t seen h.3, h.1, h.2)

  pub commit_receipt : (step : M → C → (M × (R × K)) ⊎ R) (a b : JournalModel M C R H K) (s t : SessionModel M C R H K) (seen : List (Entry M C R H K)) (cmd : C) (r : Receipt M C R H K)
      → IsReceipt step a b (record s { seen = seen }) t cmd r → IsReceipt step a b s t cmd r
  commit_receipt step a b s t seen cmd r h = record {
    book = h.book;
    seen = h.seen;
    version = h.version;
    view = h.view;
    state = h.state;
    decided = ⊎_elim
        (λ (d : (r.accepted ≡ true) × IsAccepted step a b (record s { seen = seen }) t cmd r.reply). inl (d.0, record { mark = d.1.mark; steps = d.1.steps; log = d.1.log; session = d.1.session }))
        (λ (d : (r.accepted ≡ false) × IsRefused step a b (record s { seen = seen }) t cmd r.reply). inr (d.0, record { steps = d.1.steps; same = d.1.same; session = d.1.session }))
        h.decided;
  }
