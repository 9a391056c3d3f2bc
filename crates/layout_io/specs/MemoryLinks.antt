-- What contracts see of a connection in memory.
use Rattle.std.specs.Prelude.{◌≡◌, ℕ, List, ◌++◌, ◌∷◌, [], Some}
use Rattle.layout_io.specs.declared.memory_link.MemLink.{MemLink}
use Rattle.layout_io.specs.Calls.{IsListed, next_number}
use Rattle.layout_io.specs.Links.{Wire, LinkTold}
use Rattle.layout_io.specs.Places.{rest_of}

-- the bytes left to read, and the bytes written
abbrev pub wire_of : MemLink → Wire
wire_of l = record { left = rest_of l.input; written = l.written.items }

-- what the link tells
abbrev pub link_told : MemLink → LinkTold
link_told l = record { wire = Some (wire_of l); read_faults = l.read_faults; write_faults = l.write_faults; shortages = l.shortages; late = l.late }

-- the reads and the writes that are to fail, how many were made, and how many bytes a call takes at most
pub record LinkPlan : Type 0 where
  pub failing_reads : List ℕ
  pub reads : ℕ
  pub failing_writes : List ℕ
  pub writes : ℕ
  pub most : ℕ

-- the plan that the link follows
abbrev pub link_plan : MemLink → LinkPlan
link_plan l = record { failing_reads = l.failing_reads.items; reads = l.read_calls; failing_writes = l.failing_writes.items; writes = l.write_calls; most = l.most }

-- the next read is listed to fail
abbrev pub IsLinkReadDue : LinkPlan → Type 0
IsLinkReadDue p = IsListed p.failing_reads p.reads

-- the next write is listed to fail
abbrev pub IsLinkWriteDue : LinkPlan → Type 0
IsLinkWriteDue p = IsListed p.failing_writes p.writes

-- the plan after a read
abbrev pub after_link_read : LinkPlan → LinkPlan
after_link_read p = record p { reads = next_number p.reads }

-- the plan after a write
abbrev pub after_link_write : LinkPlan → LinkPlan
after_link_write p = record p { writes = next_number p.writes }

-- the plan with one more read that is to fail
abbrev pub list_read : ℕ → LinkPlan → LinkPlan
list_read call p = record p { failing_reads = p.failing_reads ++ call ∷ [] }

-- the plan with one more write that is to fail
abbrev pub list_write : ℕ → LinkPlan → LinkPlan
list_write call p = record p { failing_writes = p.failing_writes ++ call ∷ [] }
