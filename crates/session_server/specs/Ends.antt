-- The statuses of the ends of `serve`, and their lines.
-- Cited by `End::status` and `serve`
use Rattle.std.specs.Prelude.{◌≡◌, ℕ, codes}
use Rattle.layout_io.specs.declared.fault.IoFault.{IoFault}
use Rattle.layout_io.specs.declared.fault.IoFault.TheVariants as faults
use Rattle.layout_io.specs.Told.{SinkTold}
use Rattle.whole_files.specs.Stops.{Tells, stop_line}
use Rattle.whole_files.specs.declared.stop.Stop.{Stop}
use Rattle.whole_files.specs.declared.stop.Stop.TheVariants as stops
use Rattle.session_server.specs.declared.ends.End.{End}
use Rattle.session_server.specs.declared.ends.End.TheVariants as ends

-- the status of an end
abbrev pub status_of : End → ℕ
status_of ends.Done = 0
status_of ends.Usage = 1
status_of (ends.Design kind at) = 2
status_of ends.Read = 3
status_of ends.Write = 4
status_of (ends.Unclean a b) = 6
status_of ends.Memory = 7
status_of ends.Door = 8

-- the end's line is written, or cut by one fault or one want of memory of its own writing; where all was done there is none
abbrev pub TellsEnd : End → SinkTold → SinkTold → Type 0
TellsEnd ends.Done o p = p ≡ o
TellsEnd ends.Usage o p = Tells (codes "usage\n") o p
TellsEnd (ends.Design kind at) o p = Tells (stop_line (stops.Design (record { kind = kind; at = at }))) o p
TellsEnd ends.Read o p = Tells (stop_line stops.Read) o p
TellsEnd ends.Write o p = Tells (stop_line stops.Write) o p
TellsEnd (ends.Unclean a b) o p = Tells (stop_line (stops.Unclean a b)) o p
TellsEnd ends.Memory o p = Tells (stop_line stops.Memory) o p
TellsEnd ends.Door o p = Tells (codes "door\n") o p

-- the end that a stop is; none is a script's
abbrev pub end_of_stop : Stop → End
end_of_stop (stops.Design e) = ends.Design e.kind e.at
end_of_stop stops.Read = ends.Read
end_of_stop stops.Write = ends.Write
end_of_stop (stops.Script k) = ends.Memory
end_of_stop (stops.Unclean a b) = ends.Unclean a b
end_of_stop stops.Memory = ends.Memory

-- the end that a failed accept is
abbrev pub end_of_fault : IoFault → End
end_of_fault faults.Failed = ends.Door
end_of_fault faults.Memory = ends.Memory
