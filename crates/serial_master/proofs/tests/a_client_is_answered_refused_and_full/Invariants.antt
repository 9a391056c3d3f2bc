use Rattle.serial_master.proofs.tests.a_client_is_answered_refused_and_full.Given as goal

abbrev pub ghosts-sit : goal.ghosts-sit
ghosts-sit g a = record { parts = a.master.parts; clients = a.master.clients; limit = a.master.limit; client = 1 }
