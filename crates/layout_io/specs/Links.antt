-- What a connection tells of its bytes and of its faults.
use Rattle.std.specs.Prelude.{◌≡◌, ◌≤◌, ◌+◌, ℕ, Bool, true, List, ◌++◌, Option, Some, None, ⊤}

-- the bytes that are left to read, and the bytes written
pub record Wire : Type 0 where
  pub left : List ℕ
  pub written : List ℕ

-- what a link tells: its bytes, where it tells them, how often a read and how often a write answered `Failed`, how often a
-- write answered `Memory`, and whether a call was made after one that answered `Failed`
pub record LinkTold : Type 0 where
  pub wire : Option Wire
  pub read_faults : ℕ
  pub write_faults : ℕ
  pub shortages : ℕ
  pub late : Bool

-- where the old bytes are told, the new ones are told, and they are related so
abbrev pub Across : Option Wire → Option Wire → (Wire → Wire → Type 0) → Type 0
Across None new R = ⊤
Across (Some w) None R = ⊥
Across (Some w) (Some v) R = R w v

-- these bytes were read
pub record IsReceived (bytes : List ℕ) (w v : Wire) : Type 0 where
  pub taken : w.left ≡ bytes ++ v.left
  pub written : v.written ≡ w.written

-- these bytes were written
pub record IsSent (bytes : List ℕ) (w v : Wire) : Type 0 where
  pub sent : v.written ≡ w.written ++ bytes
  pub left : v.left ≡ w.left

-- the link tells from now on that a call came late, exactly where a call had answered `Failed` before
pub record MarksLate (old new : LinkTold) : Type 0 where
  pub timely : old.read_faults ≡ 0 → old.write_faults ≡ 0 → new.late ≡ old.late
  pub behind : 1 ≤ old.read_faults + old.write_faults → new.late ≡ true
