-- The files up to the making of the session file.
use Rattle.std.proofs.Common.{◌≡◌, ℕ, List, [], ◌∷◌, Option, ap, subst, ◌∙◌, inl, inr}
use Rattle.layout_io.specs.Causes.{Rose}
use Rattle.layout_io.specs.Told.{Disk, Told, FilesTold, SameBut, IsCreated}
use Rattle.layout_io.specs.declared.stored.Stored.{Stored}
use Rattle.std.specs.Prelude.{IfSome}
use Rattle.row_lists.specs.Limits.{weight_limit}
use Rattle.board_rules.specs.declared.design.Design.{Design}
use Rattle.board_rules.specs.declared.design.Parts.{Parts}
use Rattle.client_desk.specs.Standings.{Standing}
use Rattle.board_files.specs.Inputs.{HasClean, IsClean}
use Rattle.whole_files.specs.Words.{Asked}
use Rattle.whole_files.specs.Outside.{SameFiles, OnlyRead, ShortRead}
use Rattle.whole_files.specs.declared.stop.Stop.{Stop}
use Rattle.whole_files.specs.declared.stop.Stop.TheVariants as stops
use Rattle.whole_files.proofs.Asks.{asked_less, asked_after}
use Rattle.whole_files.proofs.Tolds.{told_then, told_weaker}
use Rattle.whole_files.proofs.Founds.{short_of}
use Rattle.board_files.specs.Loads.{DesignStop}
use Rattle.session_server.specs.Ends.{end_of_stop}
use Rattle.session_server.specs.Rows.{HasFile, AsksBoth, IsShort, FilesEnd}
use Rattle.session_server.specs.Stages.{IsLoaded, MakeEnd, IsEmptyFile, IsReady}
use Rattle.session_server.specs.declared.ends.End.{End}
use Rattle.session_server.specs.declared.ends.End.TheVariants as ends

asks_design : (design session : List ℕ) (f g : FilesTold) → ShortRead (design ∷ []) f g → AsksBoth design session f g
asks_design design session f g short = record { asked = asked_less (design ∷ []) (session ∷ []) f.asked g.asked short.asked; reads = short.reads }

short_read : (design session : List ℕ) (f g : FilesTold) → ShortRead (design ∷ []) f g → IsShort design session f g
short_read design session f g short = record { file = inl short.kept; asks = asks_design design session f g short; writes = short.writes }

-- the master of a design that was loaded
pub loaded : (design : List ℕ) (d : Design) (m : Standing) (f : FilesTold) → IfSome f.disk (HasClean design d) → IsClean d → m ≡ record { parts = d.parts; clients = 1; limit = weight_limit; history = [] } → IsLoaded design m.parts f
loaded design d m f has clean is = record { design = d; parts_are = ap (λ (x : Standing). x.parts) is; has = has; clean = clean }

-- a design that was not loaded
pub load_end : (stop : Stop) (design session : List ℕ) (f g : FilesTold) → DesignStop design f g stop → FilesEnd design session f g (end_of_stop stop)
load_end (stops.Design e) design session f g cause = cause
load_end stops.Read design session f g cause = cause
load_end stops.Write design session f g cause = absurd cause
load_end (stops.Script k) design session f g cause = absurd cause
load_end (stops.Unclean a b) design session f g cause = cause
load_end stops.Memory design session f g cause = short_read design session f g cause

-- no memory for the master of a design that was loaded
pub start_end : (design session : List ℕ) (f g : FilesTold) → OnlyRead (design ∷ []) f g → FilesEnd design session f g ends.Memory
start_end design session f g only = short_read design session f g (short_of (design ∷ []) f g only)

same_behind : (a b c : Option Disk) → Told a b SameFiles → Told b c SameFiles → Told a c SameFiles
same_behind a b c p q = told_then a b c SameFiles SameFiles SameFiles p q (λ d e f x y. y ∙ x)

asks_both : (design session : List ℕ) (f g h : FilesTold) → OnlyRead (design ∷ []) f g → Asked (session ∷ []) g.asked h.asked → h.read_faults ≡ g.read_faults → AsksBoth design session f h
asks_both design session f g h only asked reads = record {
  asked = asked_after (design ∷ []) (session ∷ []) f.asked g.asked h.asked only.asked asked;
  reads = reads ∙ only.reads;
}

-- the session file was not made
pub unmade : (end : End) (design session : List ℕ) (parts : Parts) (f g h : FilesTold) → IsLoaded design parts f → OnlyRead (design ∷ []) f g → Asked (session ∷ []) g.asked h.asked → h.read_faults ≡ g.read_faults → MakeEnd g h end → FilesEnd design session f h end
unmade ends.Write design session parts f g h loaded only asked reads cause = record {
  clean = (loaded.design, loaded.has);
  kept = same_behind f.disk g.disk h.disk only.kept cause.0;
  asks = asks_both design session f g h only asked reads;
  rose = subst (λ (k : ℕ). Rose k h.write_faults) only.writes cause.1;
}
unmade ends.Memory design session parts f g h loaded only asked reads cause = record {
  file = inl (same_behind f.disk g.disk h.disk only.kept cause.0);
  asks = asks_both design session f g h only asked reads;
  writes = cause.1 ∙ only.writes;
}
unmade ends.Done design session parts f g h loaded only asked reads cause = absurd cause
unmade ends.Usage design session parts f g h loaded only asked reads cause = absurd cause
unmade (ends.Design kind at) design session parts f g h loaded only asked reads cause = absurd cause
unmade ends.Read design session parts f g h loaded only asked reads cause = absurd cause
unmade (ends.Unclean a b) design session parts f g h loaded only asked reads cause = absurd cause
unmade ends.Door design session parts f g h loaded only asked reads cause = absurd cause

-- the session file was made behind the reading
created_behind : (session : List ℕ) (file : ℕ) (d e f : Disk) → SameFiles d e → IsCreated session file e f → IsEmptyFile session file d f
created_behind session file d e f same made = record {
  empty = made.empty;
  others = subst (λ (files : List Stored). SameBut session files f.files) same made.others;
  target = made.target;
}

pub ready : (design session : List ℕ) (parts : Parts) (file : ℕ) (f g h : FilesTold) → IsLoaded design parts f → OnlyRead (design ∷ []) f g → Told g.disk h.disk (IsCreated session file) → Asked (session ∷ []) g.asked h.asked → h.read_faults ≡ g.read_faults → h.write_faults ≡ g.write_faults
    → IsReady design session parts file f h
ready design session parts file f g h loaded only made asked reads writes = record {
  loaded = loaded;
  made = told_then f.disk g.disk h.disk SameFiles (IsCreated session file) (IsEmptyFile session file) only.kept made (created_behind session file);
  asks = asks_both design session f g h only asked reads;
  writes = writes ∙ only.writes;
}

-- the file that was made is there, and empty
pub empty_file : (design session : List ℕ) (parts : Parts) (file : ℕ) (f g : FilesTold) → IsReady design session parts file f g → Told f.disk g.disk (HasFile session [])
empty_file design session parts file f g r = told_weaker f.disk g.disk (IsEmptyFile session file) (HasFile session []) r.made (λ d e made. (made.empty, made.others))

pub short_ready : (design session : List ℕ) (parts : Parts) (file : ℕ) (f g : FilesTold) → IsReady design session parts file f g → IsShort design session f g
short_ready design session parts file f g r = record { file = inr (empty_file design session parts file f g r); asks = r.asks; writes = r.writes }
