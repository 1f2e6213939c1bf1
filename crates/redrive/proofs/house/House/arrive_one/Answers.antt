use Rattle.std.proofs.Common.{◌∙◌}
use Rattle.redrive.proofs.house.House.arrive_one.Goals as goal
