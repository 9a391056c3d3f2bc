-- Where `replay` stops, and what it leaves at its end.
use Rattle.std.proofs.Common.{◌≡◌, ℕ, List, [], ◌∷◌, take, Option, refl, sym, ap, subst, ◌∙◌, arith, inl, inr}
use Rattle.std.specs.Prelude.{IfSome, IfErr, OnOk, Result, Ok, Err}
use Rattle.layout_io.specs.Causes.{Rose}
use Rattle.layout_io.specs.Told.{Disk, Told, SinkTold, FilesTold, SameBut, IsCreated}
use Rattle.layout_io.specs.declared.stored.Stored.{Stored}
use Rattle.layout_server.specs.Words.{named}
use Rattle.whole_files.specs.Words.{Asked}
use Rattle.whole_files.specs.Outside.{SameFiles, OnlyRead, OnlyWrites, WroteFile, WroteSome}
use Rattle.whole_files.specs.Puts.{IsPut, IsCut}
use Rattle.board_files.specs.Inputs.{HasClean}
use Rattle.layout_server.specs.Inputs.{HasSteps}
use Rattle.script_replay.specs.Replays.{IsRunOf}
use Rattle.layout_server.specs.Loads.{LoadStop}
use Rattle.board_files.specs.Stores.{MakeStop}
use Rattle.layout_server.specs.Stores.{TextsStop}
use Rattle.layout_server.specs.Headline.{HasSession, HasRun, AsksAll, Replays, CutOutput, CutSession, ReplayStop}
use Rattle.layout_server.specs.declared.load.Loaded.{Loaded}
use Rattle.whole_files.specs.declared.stop.Stop.{Stop}
use Rattle.whole_files.specs.declared.stop.Stop.TheVariants as stops
use Rattle.whole_files.proofs.Asks.{asked_less, asked_after}
use Rattle.whole_files.proofs.Tolds.{told_then, told_weaker}
use Rattle.layout_server.proofs.Made.{made_then_given, made_empty}

-- what was loaded, and how the files were asked for it
pub record AreLoaded (design script : List ℕ) (l : Loaded) (f g : FilesTold) : Type 0 where
  pub inputs : IfSome f.disk (λ disk. HasClean design l.design disk × HasSteps script l.steps disk)
  pub only : OnlyRead (design ∷ script ∷ []) f g

-- the session file was made behind the loading
pub record IsMade (session : List ℕ) (file : ℕ) (g h : FilesTold) : Type 0 where
  pub made : Told g.disk h.disk (IsCreated session file)
  pub asked : Asked (session ∷ []) g.asked h.asked
  pub reads : h.read_faults ≡ g.read_faults
  pub writes : h.write_faults ≡ g.write_faults

asks_less : (design script session : List ℕ) (f g : FilesTold) → Asked (design ∷ script ∷ []) f.asked g.asked → g.read_faults ≡ f.read_faults → AsksAll (named design script session) f g
asks_less design script session f g asked reads = record { asked = asked_less (design ∷ script ∷ []) (session ∷ []) f.asked g.asked asked; reads = reads }

asks_after : (design script session : List ℕ) (f g h : FilesTold) → OnlyRead (design ∷ script ∷ []) f g → Asked (session ∷ []) g.asked h.asked → h.read_faults ≡ g.read_faults → AsksAll (named design script session) f h
asks_after design script session f g h only asked reads = record {
  asked = asked_after (design ∷ script ∷ []) (session ∷ []) f.asked g.asked h.asked only.asked asked;
  reads = reads ∙ only.reads;
}

-- ---- in the loading

pub load_stops : (stop : Stop) (design script session : List ℕ) (f g : FilesTold) (o : SinkTold) → LoadStop design script f g stop → ReplayStop (named design script session) f g o o stop
load_stops (stops.Design e) design script session f g o h = (h, refl)
load_stops stops.Read design script session f g o h = (h, refl)
load_stops stops.Write design script session f g o h = absurd h
load_stops (stops.Script k) design script session f g o h = (h, refl)
load_stops (stops.Unclean x y) design script session f g o h = (h, refl)
load_stops stops.Memory design script session f g o h = (asks_less design script session f g h.asked h.reads, h.writes, inl (record { files = h.kept; out = refl }))

-- ---- in the making of the session file

same_behind : (a b c : Option Disk) → Told a b SameFiles → Told b c SameFiles → Told a c SameFiles
same_behind a b c p q = told_then a b c SameFiles SameFiles SameFiles p q (λ d e f x y. y ∙ x)

pub make_stops : (stop : Stop) (design script session : List ℕ) (l : Loaded) (f g h : FilesTold) (o : SinkTold) → AreLoaded design script l f g → Asked (session ∷ []) g.asked h.asked → h.read_faults ≡ g.read_faults → MakeStop g h stop
    → ReplayStop (named design script session) f h o o stop
make_stops stops.Write design script session l f g h o are asked reads stop = (
  asks_after design script session f g h are.only asked reads,
  inl ((l.design, l.steps, are.inputs), record { files = same_behind f.disk g.disk h.disk are.only.kept stop.0; out = refl }, subst (λ (k : ℕ). Rose k h.write_faults) are.only.writes stop.1),
)
make_stops stops.Memory design script session l f g h o are asked reads stop =
    (asks_after design script session f g h are.only asked reads, stop.1 ∙ are.only.writes, inl (record { files = same_behind f.disk g.disk h.disk are.only.kept stop.0; out = refl }))
make_stops (stops.Design e) design script session l f g h o are asked reads stop = absurd stop
make_stops stops.Read design script session l f g h o are asked reads stop = absurd stop
make_stops (stops.Script k) design script session l f g h o are asked reads stop = absurd stop
make_stops (stops.Unclean x y) design script session l f g h o are asked reads stop = absurd stop

-- ---- behind it

-- behind calls that changed no file
session_behind : (name bytes : List ℕ) (d e f : Disk) → SameFiles d e → HasSession name bytes e f → HasSession name bytes d f
session_behind name bytes d e f same h = (h.0, subst (λ (files : List Stored). SameBut name files f.files) same h.1)

-- the file under the name holds what it was given
holds : (name bytes : List ℕ) (file : ℕ) (a b c d : Option Disk) → Told a b SameFiles → Told b c (IsCreated name file) → Told c d (WroteFile file bytes) → Told a d (HasSession name bytes)
holds name bytes file a b c d kept made wrote =
    told_then a b d SameFiles (HasSession name bytes) (HasSession name bytes) kept
    (told_then b c d (IsCreated name file) (WroteFile file bytes) (HasSession name bytes) made wrote (made_then_given name bytes file)) (session_behind name bytes)

holds_none : (name : List ℕ) (file : ℕ) (a b c : Option Disk) → Told a b SameFiles → Told b c (IsCreated name file) → Told a c (HasSession name [])
holds_none name file a b c kept made =
    told_then a b c SameFiles (HasSession name []) (HasSession name []) kept (told_weaker b c (IsCreated name file) (HasSession name []) made (made_empty name file)) (session_behind name [])

asks_made : (design script session : List ℕ) (l : Loaded) (file : ℕ) (f g h k : FilesTold) → AreLoaded design script l f g → IsMade session file g h → OnlyWrites h k → AsksAll (named design script session) f k
asks_made design script session l file f g h k are made only = asks_after design script session f g k are.only (made.asked.0, only.asked ∙ made.asked.1) (only.reads ∙ made.reads)

pub only_made : (design script session : List ℕ) (l : Loaded) (file : ℕ) (f g h : FilesTold) (o : SinkTold) → AreLoaded design script l f g → IsMade session file g h → ReplayStop (named design script session) f h o o stops.Memory
only_made design script session l file f g h o are made = (
  asks_after design script session f g h are.only made.asked made.reads,
  made.writes ∙ are.only.writes,
  inr (inl (record { file = holds_none session file f.disk g.disk h.disk are.only.kept made.made; out = refl })),
)

run_of : (design script session output text : List ℕ) (l : Loaded) (f g : FilesTold) → AreLoaded design script l f g → IsRunOf l.design l.steps output text → HasRun (named design script session) f
run_of design script session output text l f g are run = record { design = l.design; steps = l.steps; output = output; session = text; run = run; inputs = are.inputs }

cut_output : (design script session output : List ℕ) (l : Loaded) (file : ℕ) (f g h : FilesTold) (o p : SinkTold) → AreLoaded design script l f g → IsMade session file g h → IsCut output o p → CutOutput session output f h o p
cut_output design script session output l file f g h o p are made cut = record { out = cut; file = holds_none session file f.disk g.disk h.disk are.only.kept made.made }

cut_session : (design script session output text : List ℕ) (l : Loaded) (file : ℕ) (f g h k : FilesTold) (o p : SinkTold) → AreLoaded design script l f g → IsMade session file g h → IsPut output o p → WroteSome file text h k → CutSession session output text f k o p
cut_session design script session output text l file f g h k o p are made put some = record {
  out = put;
  m = some.m;
  less = some.less;
  file = holds session (take some.m text) file f.disk g.disk h.disk k.disk are.only.kept made.made some.wrote;
}

rose_behind : (f g h k : FilesTold) → g.write_faults ≡ f.write_faults → h.write_faults ≡ g.write_faults → Rose h.write_faults k.write_faults → Rose f.write_faults k.write_faults
rose_behind f g h k e i rose = omega (arith, e, i, rose)

pub texts_stop : (stop : Stop) (design script session output text : List ℕ) (l : Loaded) (file : ℕ) (f g h k : FilesTold) (o p : SinkTold) → AreLoaded design script l f g → IsMade session file g h → OnlyWrites h k
    → IsRunOf l.design l.steps output text → TextsStop output text file h k o p stop → ReplayStop (named design script session) f k o p stop
unfolding run_of
texts_stop stops.Write design script session output text l file f g h k o p are made only run (inl cut) = (
  asks_made design script session l file f g h k are made only,
  inr (inl (run_of design script session output text l f g are run, subst (λ (x : FilesTold). CutOutput session output f x o p) (sym cut.2) (cut_output design script session output l file f g h o p are made cut.0), cut.1, ap (λ (x : FilesTold). x.write_faults) cut.2 ∙ made.writes ∙ are.only.writes)),
)
texts_stop stops.Write design script session output text l file f g h k o p are made only run (inr cut) = (
  asks_made design script session l file f g h k are made only,
  inr (inr (run_of design script session output text l f g are run, cut_session design script session output text l file f g h k o p are made cut.0 cut.1, rose_behind f g h k are.only.writes made.writes cut.2)),
)
texts_stop stops.Memory design script session output text l file f g h k o p are made only run (inl cut) = (
  asks_made design script session l file f g h k are made only,
  ap (λ (x : FilesTold). x.write_faults) cut.2 ∙ made.writes ∙ are.only.writes,
  inr (inr (inl (run_of design script session output text l f g are run, subst (λ (x : FilesTold). CutOutput session output f x o p) (sym cut.2) (cut_output design script session output l file f g h o p are made cut.0), cut.1))),
)
texts_stop stops.Memory design script session output text l file f g h k o p are made only run (inr cut) = (
  asks_made design script session l file f g h k are made only,
  cut.2 ∙ made.writes ∙ are.only.writes,
  inr (inr (inr (run_of design script session output text l f g are run, cut_session design script session output text l file f g h k o p are made cut.0 cut.1))),
)
texts_stop (stops.Design e) design script session output text l file f g h k o p are made only run stop = absurd stop
texts_stop stops.Read design script session output text l file f g h k o p are made only run stop = absurd stop
texts_stop (stops.Script j) design script session output text l file f g h k o p are made only run stop = absurd stop
texts_stop (stops.Unclean x y) design script session output text l file f g h k o p are made only run stop = absurd stop

pub all_stored : (design script session output text : List ℕ) (l : Loaded) (file : ℕ) (f g h k : FilesTold) (o p : SinkTold) → AreLoaded design script l f g → IsMade session file g h → OnlyWrites h k → IsRunOf l.design l.steps output text
    → IsPut output o p → Told h.disk k.disk (WroteFile file text) → k.write_faults ≡ h.write_faults → Replays (named design script session) f k o p
unfolding run_of
all_stored design script session output text l file f g h k o p are made only run put wrote writes = record {
  has = run_of design script session output text l f g are run;
  out = put;
  file = holds session text file f.disk g.disk h.disk k.disk are.only.kept made.made wrote;
  writes = writes ∙ made.writes ∙ are.only.writes;
  asks = asks_made design script session l file f g h k are made only;
}

pub texts_if : (r : Result (Unit {0}) Stop) (design script session output text : List ℕ) (l : Loaded) (file : ℕ) (f g h k : FilesTold) (o p : SinkTold) → AreLoaded design script l f g → IsMade session file g h → OnlyWrites h k → IsRunOf l.design l.steps output text
    → IfErr r (TextsStop output text file h k o p) → IfErr r (ReplayStop (named design script session) f k o p)
texts_if (Ok u) design script session output text l file f g h k o p are made only run stop = tt
texts_if (Err e) design script session output text l file f g h k o p are made only run stop = texts_stop e design script session output text l file f g h k o p are made only run stop

pub stored_if : (r : Result (Unit {0}) Stop) (design script session output text : List ℕ) (l : Loaded) (file : ℕ) (f g h k : FilesTold) (o p : SinkTold) → AreLoaded design script l f g → IsMade session file g h → OnlyWrites h k → IsRunOf l.design l.steps output text
    → OnOk r (IsPut output o p) → OnOk r (Told h.disk k.disk (WroteFile file text)) → OnOk r (k.write_faults ≡ h.write_faults) → OnOk r (Replays (named design script session) f k o p)
stored_if (Ok u) design script session output text l file f g h k o p are made only run put wrote writes = all_stored design script session output text l file f g h k o p are made only run put wrote writes
stored_if (Err e) design script session output text l file f g h k o p are made only run put wrote writes = tt
