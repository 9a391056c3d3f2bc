use Rattle.row_lists.specs.Limits.{weight_limit}
use Rattle.session_server.proofs.sit.sit.Given as goal

abbrev pub ghosts-sit_as : goal.ghosts-sit_as
ghosts-sit_as g a = record { parts = a.master.parts; clients = 1; limit = weight_limit; client = 1 }
