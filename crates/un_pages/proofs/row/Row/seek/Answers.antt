use Rattle.std.proofs.Common.{rules}
use Rattle.std.proofs.lemmas.List.Sorted.{answers_always}
use Rattle.un_pages.proofs.Searched.{searched}
use Rattle.un_pages.proofs.row.Row.seek.Goals as goal

-- the closure compares an entry's key with the key, and the slice is the row's entries
pub returns-clause-found : goal.returns-clause-found
returns-clause-found g c =
    let facts = c.binary_search_by_key.ensures in
    let by_key = facts.position (λ p. p.0) (answers_always _ _ _ (λ f a r h called. search rules)) in
    let answer = searched g.met.K.Ord.total c.args.key.now _ (rw c.deref.ensures.value (rw c.self.view_is c.requires)) _ facts.bound by_key in
    rw (← c.self.view_is, ← c.deref.ensures.value) answer.0

pub returns-clause-gap : goal.returns-clause-gap
returns-clause-gap g c =
    let facts = c.binary_search_by_key.ensures in
    let by_key = facts.position (λ p. p.0) (answers_always _ _ _ (λ f a r h called. search rules)) in
    let answer = searched g.met.K.Ord.total c.args.key.now _ (rw c.deref.ensures.value (rw c.self.view_is c.requires)) _ facts.bound by_key in
    rw (← c.self.view_is, ← c.deref.ensures.value) answer.1
