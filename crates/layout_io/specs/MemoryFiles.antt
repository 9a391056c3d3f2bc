-- What contracts see of files in memory.
use Rattle.std.specs.Prelude.{◌≡◌, ◌<◌, ◌++◌, ◌∷◌, [], ℕ, List, length}
use Rattle.layout_io.specs.declared.stored.Stored.{Stored}
use Rattle.layout_io.specs.declared.memory_files.MemFiles.{MemFiles}
use Rattle.layout_io.specs.Calls.{IsListed, next_number}
use Rattle.layout_io.specs.Told.{Disk}
use Rattle.layout_io.specs.Places.{left_at, target_at}

-- the files
abbrev pub stored_files : MemFiles → List Stored
stored_files m = m.files.items

-- the files, and the places in those that were opened or created
abbrev pub disk_of : MemFiles → Disk
disk_of m = record { files = m.files.items; left = left_at m.readers.items; target = target_at m.targets.items }

-- the names asked for, in order
abbrev pub asked_of : MemFiles → List (List ℕ)
asked_of m = m.asked.items

-- `open_read` gave this number
abbrev pub IsReader : MemFiles → ℕ → Type 0
IsReader m n = n < length m.readers.items

-- `create` gave this number
abbrev pub IsWriter : MemFiles → ℕ → Type 0
IsWriter m n = n < length m.targets.items

-- the calls that are to fail, how many calls were made, and how many bytes a write takes at most
pub record Plan : Type 0 where
  pub failing_reads : List ℕ
  pub reads : ℕ
  pub failing_writes : List ℕ
  pub writes : ℕ
  pub most : ℕ

-- the plan that the files follow
abbrev pub plan_of : MemFiles → Plan
plan_of m = record { failing_reads = m.failing_reads.items; reads = m.read_calls; failing_writes = m.failing_writes.items; writes = m.write_calls; most = m.most }

-- the plan with one more open, read or create that is to fail
abbrev pub add_failing_read : ℕ → Plan → Plan
add_failing_read call p = record p { failing_reads = p.failing_reads ++ call ∷ [] }

-- the plan with one more write that is to fail
abbrev pub add_failing_write : ℕ → Plan → Plan
add_failing_write call p = record p { failing_writes = p.failing_writes ++ call ∷ [] }

-- the next open, read or create is listed to fail
abbrev pub IsReadDue : Plan → Type 0
IsReadDue p = IsListed p.failing_reads p.reads

-- the next write is listed to fail
abbrev pub IsWriteDue : Plan → Type 0
IsWriteDue p = IsListed p.failing_writes p.writes

-- the plan after an open, a read or a create
abbrev pub after_read : Plan → Plan
after_read p = record p { reads = next_number p.reads }

-- the plan after a write
abbrev pub after_write : Plan → Plan
after_write p = record p { writes = next_number p.writes }

-- the opened and created files, the names asked for and what is told of faults are as they were
pub record KeepsTold (old new : MemFiles) : Type 0 where
  pub readers : new.readers.items ≡ old.readers.items
  pub writers : new.targets.items ≡ old.targets.items
  pub asked : asked_of new ≡ asked_of old
  pub read_faults : new.read_faults ≡ old.read_faults
  pub write_faults : new.write_faults ≡ old.write_faults
