use Rattle.std.proofs.Common.{refl}
use Rattle.un_isolate.proofs.Finding.{adds_new}
use Rattle.un_isolate.proofs.spread.Found.add.Goals as goal

pub returns-in_ok-push : goal.returns-in_ok-push
returns-in_ok-push c = adds_new c.args.self.now _ c.args.place c.requires.listed c.requires.inside refl c.in_ok-push.ensures.items
