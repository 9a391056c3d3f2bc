-- Models: what the program leaves at its end, and what at each stop.
-- Left out: what is no design for any other reason than its first fault.
-- Cited by: `run` and the functions that load and write.
use Rattle.std.specs.Prelude.{◌≡◌, ◌⊎◌, ℕ, List, [], ◌∷◌, length, codes, Option, Some, None, IfSome}
use Rattle.layout_io.specs.Told.{Disk, SinkTold, FilesTold, bytes_of}
use Rattle.dsn_lists.specs.declared.faults.DesignFault.{DesignFault}
use Rattle.dsn_reader.specs.Design.{IsFirstFault}
use Rattle.whole_files.specs.Words.{text_at}
use Rattle.whole_files.specs.Outside.{OnlyRead, FailedRead, ShortRead}
use Rattle.whole_files.specs.Puts.{IsPut, IsCut, MetFault, MetShortage}
use Rattle.whole_files.specs.declared.stop.Stop.{Stop}
use Rattle.whole_files.specs.declared.stop.Stop.TheVariants as stops
use Rattle.board_numbers.specs.Numbers.{IsNumbered}

-- the words are `numbers` and a name
pub record IsNumbers (words : List (List ℕ)) : Type 0 where
  pub count : length words ≡ 2
  pub command : text_at words 0 ≡ codes "numbers"

-- the file under the name states a design, and this is the text of its numbers
abbrev pub HasNumbers : List ℕ → List ℕ → Disk → Type 0
HasNumbers name text disk = (bytes : List ℕ) × (bytes_of disk.files name ≡ Some bytes) × IsNumbered bytes text

-- the file under the name has this first fault
abbrev pub HasFault : List ℕ → DesignFault → Disk → Type 0
HasFault name e disk = (bytes : List ℕ) × (bytes_of disk.files name ≡ Some bytes) × IsFirstFault bytes e

-- the files are told, and the one under the name states a design with these numbers
abbrev pub HasToldNumbers : List ℕ → List ℕ → Option Disk → Type 0
HasToldNumbers name text None = ⊥
HasToldNumbers name text (Some disk) = HasNumbers name text disk

-- why bytes give no numbers
abbrev pub TextCause : List ℕ → Stop → Type 0
TextCause bytes (stops.Design e) = IsFirstFault bytes e
TextCause bytes stops.Memory = Unit {0}
TextCause bytes _ = ⊥

-- why no numbers were made, and what was asked for
abbrev pub LoadStop : List ℕ → FilesTold → FilesTold → Stop → Type 0
LoadStop name f g (stops.Design e) = IfSome f.disk (HasFault name e) × OnlyRead (name ∷ []) f g
LoadStop name f g stops.Read = FailedRead (name ∷ []) f g
LoadStop name f g stops.Memory = ShortRead (name ∷ []) f g
LoadStop name f g _ = ⊥

-- the file states a design, the output is the text of its numbers, no file changed and no count rose
pub record Numbers (name : List ℕ) (f g : FilesTold) (o p : SinkTold) : Type 0 where
  pub text : List ℕ
  pub has : IfSome f.disk (HasNumbers name text)
  pub out : IsPut text o p
  pub reads : OnlyRead (name ∷ []) f g

-- the file states a design, and the text of its numbers is cut
pub record CutNumbers (name : List ℕ) (f : FilesTold) (o p : SinkTold) : Type 0 where
  pub text : List ℕ
  pub has : IfSome f.disk (HasNumbers name text)
  pub out : IsCut text o p

-- why the program stops, and what it leaves written before the stop's line
abbrev pub NumbersStop : List ℕ → FilesTold → FilesTold → SinkTold → SinkTold → Stop → Type 0
NumbersStop name f g o p stops.Write = CutNumbers name f o p × MetFault o p × OnlyRead (name ∷ []) f g
NumbersStop name f g o p stops.Memory = ShortRead (name ∷ []) f g × ((p ≡ o) ⊎ (CutNumbers name f o p × MetShortage o p))
NumbersStop name f g o p stop = LoadStop name f g stop × (p ≡ o)

-- the statuses that are given: 0 to 4, and 7
abbrev pub IsGiven : ℕ → Type 0
IsGiven status = (status ≡ 0) ⊎ ((status ≡ 1) ⊎ ((status ≡ 2) ⊎ ((status ≡ 3) ⊎ ((status ≡ 4) ⊎ (status ≡ 7)))))
