use Rattle.un_serve.proofs.Names.{subnetwork_names}
use Rattle.un_serve.proofs.asking.subnet_asked.Goals as goal

pub name_in-requires-2 : goal.name_in-requires-2
name_in-requires-2 c = (subnetwork_names c.args.path.now c.args.tier c.args.subnet c.requires).subnet_name
