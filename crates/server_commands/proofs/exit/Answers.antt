-- `server_commands::exit` meets its contract: the sender's number says whether admin sends.
-- Assumes nothing.
use Rattle.server_commands.proofs.Naming.{exit_denied, exit_done}
use Rattle.server_commands.proofs.exit.Goals as goal

pub returns-then-sender-ne0 : goal.returns-then-sender-ne0
returns-then-sender-ne0 c s R = exit_denied s c.args.l _ R c.if-sender-ne0.true

pub returns : goal.returns
returns c s R = exit_done s c.args.l _ R c.if-sender-ne0.false
