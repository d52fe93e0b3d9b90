use Rattle.std.proofs.Common.{get_or}
use Rattle.std.proofs.lemmas.Option.{slice_get-get_or}
use Rattle.un_isolate.proofs.Linking.{adds_link}
use Rattle.un_isolate.proofs.links.add_link.Goals as goal

pub returns : goal.returns
returns c =
    adds_link c.args.links.now c.args.from c.args.to (get_or c.args.links.now c.args.from c.index-links-from.result) c.push.new.self c.requires
    (slice_get-get_or c.args.links.now c.args.from c.index-links-from.result c.requires) c.in_ok-push.ensures.ok
