-- `service` beside `fates` and `walk`.
use Rattle.command_rooms.proofs.ServiceBesideFatesLaws.{service-agrees}
use Rattle.command_rooms.proofs.commands.service.agree_law.Goals as goal

pub returns : goal.returns
returns c = service-agrees
