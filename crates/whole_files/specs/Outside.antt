-- What reading and writing a whole file does, by what the files told before and after.
use Rattle.std.specs.Prelude.{◌≡◌, ℕ, ◌<◌, ◌≤◌, List, [], ◌++◌, length, take, Some}
use Rattle.layout_io.specs.Causes.{Rose}
use Rattle.layout_io.specs.Told.{Disk, Told, FilesTold, SameBut, bytes_of}
use Rattle.whole_files.specs.Words.{Asked}
use Rattle.whole_files.specs.declared.stop.Stop.{Stop}
use Rattle.whole_files.specs.declared.stop.Stop.TheVariants as stops

-- no file changed
abbrev pub SameFiles : Disk → Disk → Type 0
SameFiles d e = e.files ≡ d.files

-- these names were asked for, and all is read of them that was wanted: no file changed, and no count rose
pub record OnlyRead (names : List (List ℕ)) (f g : FilesTold) : Type 0 where
  pub kept : Told f.disk g.disk SameFiles
  pub asked : g.asked ≡ f.asked ++ names
  pub reads : g.read_faults ≡ f.read_faults
  pub writes : g.write_faults ≡ f.write_faults

-- these names were asked for, and the last one's open or read failed
pub record FailedRead (names : List (List ℕ)) (f g : FilesTold) : Type 0 where
  pub kept : Told f.disk g.disk SameFiles
  pub asked : g.asked ≡ f.asked ++ names
  pub reads : Rose f.read_faults g.read_faults
  pub writes : g.write_faults ≡ f.write_faults

-- some first ones of these names were asked for, and memory ran out
pub record ShortRead (names : List (List ℕ)) (f g : FilesTold) : Type 0 where
  pub kept : Told f.disk g.disk SameFiles
  pub asked : Asked names f.asked g.asked
  pub reads : g.read_faults ≡ f.read_faults
  pub writes : g.write_faults ≡ f.write_faults

-- why the bytes under these names were not read
abbrev pub ReadStop : List (List ℕ) → FilesTold → FilesTold → Stop → Type 0
ReadStop names f g stops.Read = FailedRead names f g
ReadStop names f g stops.Memory = ShortRead names f g
ReadStop names f g _ = ⊥

-- the next bytes of an opened file were read, and no file changed
abbrev pub ReadRest : ℕ → List ℕ → Disk → Disk → Type 0
ReadRest file bytes d e = (d.left file ≡ bytes ++ e.left file) × (e.files ≡ d.files)

-- an opened file was read to its end, or to more than so many bytes
pub record ReadTo (file most : ℕ) (bytes : List ℕ) (d e : Disk) : Type 0 where
  pub read : ReadRest file bytes d e
  pub whole : length bytes ≤ most → e.left file ≡ []

-- the bytes under the name are these, or begin with them where they are more than so many; no file changed
pub record IsFound (name : List ℕ) (most : ℕ) (bytes : List ℕ) (d e : Disk) : Type 0 where
  pub more : List ℕ
  pub bytes_are : bytes_of d.files name ≡ Some (bytes ++ more)
  pub whole : length bytes ≤ most → more ≡ []
  pub files : e.files ≡ d.files

-- these bytes went to the end of the file that is written under the number, and other files stayed
pub record WroteFile (file : ℕ) (bytes : List ℕ) (d e : Disk) : Type 0 where
  pub grown : (had : List ℕ) → bytes_of d.files (d.target file) ≡ Some had → bytes_of e.files (d.target file) ≡ Some (had ++ bytes)
  pub others : SameBut (d.target file) d.files e.files
  pub target : e.target ≡ d.target

-- the first m bytes of the text went there
abbrev pub WroteFirst : ℕ → List ℕ → ℕ → Disk → Disk → Type 0
WroteFirst file text m d e = WroteFile file (take m text) d e

-- a front of the text went there, and not the whole
pub record WroteSome (file : ℕ) (text : List ℕ) (f g : FilesTold) : Type 0 where
  pub m : ℕ
  pub less : m < length text
  pub wrote : Told f.disk g.disk (WroteFirst file text m)

-- no name was asked for, and no count of reads rose
pub record OnlyWrites (f g : FilesTold) : Type 0 where
  pub asked : g.asked ≡ f.asked
  pub reads : g.read_faults ≡ f.read_faults

-- why a text is cut in its writing to a file
abbrev pub WriteStop : ℕ → List ℕ → FilesTold → FilesTold → Stop → Type 0
WriteStop file text f g stops.Write = WroteSome file text f g × Rose f.write_faults g.write_faults
WriteStop file text f g stops.Memory = WroteSome file text f g × (g.write_faults ≡ f.write_faults)
WriteStop file text f g _ = ⊥
