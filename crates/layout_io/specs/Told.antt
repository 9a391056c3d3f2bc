-- What an object tells of its bytes.
use Rattle.std.specs.Prelude.{◌≡◌, ◌≢◌, ℕ, ◌<◌, ◌≤◌, List, [], ◌∷◌, ◌++◌, length, take, Option, Some, None, ⊤}
use Rattle.std.specs.Str.{bytes_eq}
use Rattle.std.specs.Option.{option_map}
use Rattle.std.specs.List.{find}
use Rattle.layout_io.specs.declared.stored.Stored.{Stored}
use Rattle.std.specs.Prelude.{Result, Ok, Err}
use Rattle.std.specs.Io.KnownBytes.{Appends}
use Rattle.layout_io.specs.declared.fault.IoFault.{IoFault}
use Rattle.layout_io.specs.declared.fault.IoFault.TheVariants.{Failed, Memory}

-- a write took n bytes of the piece, at least one where there is one
pub record Wrote (piece : List ℕ) (old new : Option (List ℕ)) (n : ℕ) : Type 0 where
  pub at_most : n ≤ length piece
  pub some : 0 < length piece → 0 < n
  pub appended : Appends old new (take n piece)

-- the files, what is left to read of each that was opened, and the name of each that was created, by their numbers
pub record Disk : Type 0 where
  pub files : List Stored
  pub left : ℕ → List ℕ
  pub target : ℕ → List ℕ

-- what a sink tells: the bytes written, where it tells them, and how often a write answered `Failed` and how often `Memory`
pub record SinkTold : Type 0 where
  pub written : Option (List ℕ)
  pub faults : ℕ
  pub shortages : ℕ

-- what files tell: the disk, where they tell it, the names asked for in order, and how often an open or a read, and a create or a write, answered `Failed`
pub record FilesTold : Type 0 where
  pub disk : Option Disk
  pub asked : List (List ℕ)
  pub read_faults : ℕ
  pub write_faults : ℕ

-- the bytes under a name
abbrev pub bytes_of : List Stored → List ℕ → Option (List ℕ)
bytes_of files name = option_map (λ (f : Stored). f.bytes) (find (λ (f : Stored). bytes_eq f.name name) files)

-- where the old disk is told, the new one is told, and they are related so
abbrev pub Told : Option Disk → Option Disk → (Disk → Disk → Type 0) → Type 0
Told None new R = ⊤
Told (Some d) None R = ⊥
Told (Some d) (Some e) R = R d e

-- what is told stays
abbrev pub Stays : Option Disk → Option Disk → Type 0
Stays old new = Told old new (λ d e. e ≡ d)

-- the file under the name was opened for reading under the number n
pub record IsOpened (name : List ℕ) (n : ℕ) (d e : Disk) : Type 0 where
  pub whole : bytes_of d.files name ≡ Some (e.left n)
  pub files : e.files ≡ d.files
  pub others : (k : ℕ) → k ≢ n → e.left k ≡ d.left k
  pub targets : e.target ≡ d.target

-- these bytes were read under the number n
pub record IsRead (n : ℕ) (bytes : List ℕ) (d e : Disk) : Type 0 where
  pub taken : d.left n ≡ bytes ++ e.left n
  pub files : e.files ≡ d.files
  pub others : (k : ℕ) → k ≢ n → e.left k ≡ d.left k
  pub targets : e.target ≡ d.target

-- other names keep their bytes
abbrev pub SameBut : List ℕ → List Stored → List Stored → Type 0
SameBut name old new = (other : List ℕ) → other ≢ name → bytes_of new other ≡ bytes_of old other

-- the file under the name is empty, and is written under the number n
pub record IsCreated (name : List ℕ) (n : ℕ) (d e : Disk) : Type 0 where
  pub empty : bytes_of e.files name ≡ Some []
  pub others : SameBut name d.files e.files
  pub target : e.target n ≡ name
  pub targets : (k : ℕ) → k ≢ n → e.target k ≡ d.target k
  pub left : e.left ≡ d.left

-- these bytes went to the end of the file that is written under the number n
pub record IsWritten (n : ℕ) (bytes : List ℕ) (d e : Disk) : Type 0 where
  pub grown : (old : List ℕ) → bytes_of d.files (d.target n) ≡ Some old → bytes_of e.files (d.target n) ≡ Some (old ++ bytes)
  pub others : SameBut (d.target n) d.files e.files
  pub targets : e.target ≡ d.target
  pub left : e.left ≡ d.left

-- the name joins those asked for, but where memory ran out
abbrev pub AsksFor : {T : Type 0} → List ℕ → List (List ℕ) → List (List ℕ) → Result T IoFault → Type 0
AsksFor name old new (Ok x) = new ≡ old ++ name ∷ []
AsksFor name old new (Err Failed) = new ≡ old ++ name ∷ []
AsksFor name old new (Err Memory) = new ≡ old

-- earlier numbers stay given, and an `Ok` gives its own
abbrev pub Gave : (ℕ → Type 0) → (ℕ → Type 0) → Result ℕ IoFault → Type 0
Gave old new (Ok n) = ((k : ℕ) → old k → new k) × new n
Gave old new (Err e) = (k : ℕ) → old k → new k

-- these bytes went to the end of the file under the name
pub record IsGrown (name piece : List ℕ) (old new : List Stored) : Type 0 where
  pub grown : (had : List ℕ) → bytes_of old name ≡ Some had → bytes_of new name ≡ Some (had ++ piece)
  pub others : SameBut name old new

-- these bytes are under the name
pub record IsPut (name bytes : List ℕ) (old new : List Stored) : Type 0 where
  pub there : bytes_of new name ≡ Some bytes
  pub others : SameBut name old new
