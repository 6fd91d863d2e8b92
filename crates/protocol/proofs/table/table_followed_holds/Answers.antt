use Rattle.protocol.proofs.Worked.{table_followed}
use Rattle.protocol.proofs.table.table_followed_holds.Goals as goal

pub returns : goal.returns
returns c = table_followed
