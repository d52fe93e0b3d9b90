use Rattle.std.proofs.Common.{◌-◌, ◌∙◌, ap, length, slice_get}
use Rattle.un_feed.proofs.Paging.{last_is}
use Rattle.un_feed.proofs.follower.last_place.Goals as goal

pub returns-in-Some : goal.returns-in-Some
returns-in-Some c = last_is c.args.page.now.pairs c.args.after c.in-Some.change.now (c.in-Some.ensures.value ∙ ap (λ l. slice_get l (length l - 1)) c.as_slice.ensures)
