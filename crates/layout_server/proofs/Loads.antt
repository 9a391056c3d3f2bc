-- What is known of the inputs from the bytes that were read of their files.
use Rattle.std.proofs.Common.{◌≡◌, ℕ, ◌<◌, List, [], ◌∷◌, ◌++◌, length, Option, Some, None, sym, ap, ◌∙◌, append_assoc, length-append, arith, inl, inr}
use Rattle.std.specs.Prelude.{IfSome}
use Rattle.layout_io.specs.Told.{Disk, Told, FilesTold, bytes_of}
use Rattle.layout_io.specs.declared.stored.Stored.{Stored}
use Rattle.board_rules.specs.declared.design.Design.{Design}
use Rattle.session_wire.specs.declared.steps.ScriptStep.{ScriptStep}
use Rattle.whole_files.specs.Outside.{SameFiles, IsFound, OnlyRead, ReadStop}
use Rattle.script_replay.specs.Scripts.{IsScript, IsBad}
use Rattle.board_files.specs.Inputs.{HasClean}
use Rattle.board_files.specs.Loads.{DesignStop}
use Rattle.layout_server.specs.Inputs.{HasSteps, HasBadLine}
use Rattle.layout_server.specs.Loads.{ScriptCause, ScriptStop, LoadStop}
use Rattle.whole_files.specs.declared.stop.Stop.{Stop}
use Rattle.whole_files.specs.declared.stop.Stop.TheVariants as stops
use Rattle.whole_files.proofs.Asks.{asked_less, asked_after}
use Rattle.whole_files.proofs.Tolds.{told_then}
use Rattle.whole_files.proofs.Founds.{short_of, found_long, found_whole}

-- ---- one file

pub found_steps : (name bytes : List ℕ) (steps : List ScriptStep) (a b : Option Disk) → Told a b (IsFound name 67108864 bytes) → IsScript bytes steps → IfSome a (HasSteps name steps)
found_steps name bytes steps a b told is = found_whole name bytes (λ all. IsScript all steps) a b told is.short is

longer : (bytes more : List ℕ) → 67108864 < length bytes → 67108864 < length (bytes ++ more)
longer bytes more long = omega (arith, long, length-append bytes more)

found_bad : (name bytes : List ℕ) (k : ℕ) (a b : Option Disk) → Told a b (IsFound name 67108864 bytes) → IsBad bytes k → IfSome a (HasBadLine name k)
found_bad name bytes k a b told (inl h) = found_long name bytes (λ all. IsBad all k) a b told (λ more. inl (longer bytes more h.0, h.1))
found_bad name bytes k a b told (inr h) = found_whole name bytes (λ all. IsBad all k) a b told h.0 (inr h)

-- the bytes of a script were read, and give no steps
pub script_stop : (stop : Stop) (name bytes : List ℕ) (f g : FilesTold) → Told f.disk g.disk (IsFound name 67108864 bytes) → OnlyRead (name ∷ []) f g → ScriptCause bytes stop → ScriptStop name f g stop
script_stop (stops.Script k) name bytes f g told only cause = (found_bad name bytes k f.disk g.disk told cause, only)
script_stop stops.Memory name bytes f g told only cause = short_of (name ∷ []) f g only
script_stop stops.Read name bytes f g told only cause = absurd cause
script_stop stops.Write name bytes f g told only cause = absurd cause
script_stop (stops.Design e) name bytes f g told only cause = absurd cause
script_stop (stops.Unclean x y) name bytes f g told only cause = absurd cause

pub script_unread : (stop : Stop) (name : List ℕ) (f g : FilesTold) → ReadStop (name ∷ []) f g stop → ScriptStop name f g stop
script_unread stops.Read name f g cause = cause
script_unread stops.Memory name f g cause = cause
script_unread (stops.Design e) name f g cause = absurd cause
script_unread stops.Write name f g cause = absurd cause
script_unread (stops.Script k) name f g cause = absurd cause
script_unread (stops.Unclean x y) name f g cause = absurd cause

-- ---- both files

pub design_first : (stop : Stop) (design script : List ℕ) (f g : FilesTold) → DesignStop design f g stop → LoadStop design script f g stop
design_first (stops.Design e) design script f g h = h
design_first stops.Read design script f g h = inl h
design_first stops.Write design script f g h = absurd h
design_first (stops.Script k) design script f g h = absurd h
design_first (stops.Unclean x y) design script f g h = h
design_first stops.Memory design script f g h = record { kept = h.kept; asked = asked_less (design ∷ []) (script ∷ []) f.asked g.asked h.asked; reads = h.reads; writes = h.writes }

same_files : (a b c : Option Disk) → Told a b SameFiles → Told b c SameFiles → Told a c SameFiles
same_files a b c p q = told_then a b c SameFiles SameFiles SameFiles p q (λ d e f x y. y ∙ x)

both_asked : (x y : List ℕ) (a b c : List (List ℕ)) → b ≡ a ++ x ∷ [] → c ≡ b ++ y ∷ [] → c ≡ a ++ x ∷ y ∷ []
both_asked x y a b c e f = f ∙ ap (λ (names : List (List ℕ)). names ++ y ∷ []) e ∙ append_assoc a (x ∷ []) (y ∷ [])

pub both_read : (design script : List ℕ) (f g h : FilesTold) → OnlyRead (design ∷ []) f g → OnlyRead (script ∷ []) g h → OnlyRead (design ∷ script ∷ []) f h
both_read design script f g h p q = record {
  kept = same_files f.disk g.disk h.disk p.kept q.kept;
  asked = both_asked design script f.asked g.asked h.asked p.asked q.asked;
  reads = q.reads ∙ p.reads;
  writes = q.writes ∙ p.writes;
}

same_bytes : (name : List ℕ) (P : List ℕ → Type 0) (a b : Option Disk) → Told a b SameFiles → IfSome b (λ d. (all : List ℕ) × (bytes_of d.files name ≡ Some all) × P all) → IfSome a (λ d. (all : List ℕ) × (bytes_of d.files name ≡ Some all) × P all)
same_bytes name P None b kept has = tt
same_bytes name P (Some d) None kept has = absurd kept
same_bytes name P (Some d) (Some e) kept has = (has.0, ap (λ (files : List Stored). bytes_of files name) (sym kept) ∙ has.1, has.2)

both_hold : (a : Option Disk) (P Q : Disk → Type 0) → IfSome a P → IfSome a Q → IfSome a (λ d. P d × Q d)
both_hold None P Q p q = tt
both_hold (Some d) P Q p q = (p, q)

-- the script was read behind the design, of which no file was changed
pub both_inputs : (design script : List ℕ) (d : Design) (steps : List ScriptStep) (a b : Option Disk) → IfSome a (HasClean design d) → Told a b SameFiles → IfSome b (HasSteps script steps) → IfSome a (λ disk. HasClean design d disk × HasSteps script steps disk)
both_inputs design script d steps a b clean kept has = both_hold a (HasClean design d) (HasSteps script steps) clean (same_bytes script (λ text. IsScript text steps) a b kept has)

pub script_behind : (stop : Stop) (design script : List ℕ) (d : Design) (f g h : FilesTold) → IfSome f.disk (HasClean design d) → OnlyRead (design ∷ []) f g → ScriptStop script g h stop → LoadStop design script f h stop
script_behind stops.Read design script d f g h clean only stop = inr (
  d,
  clean,
  record {
    kept = same_files f.disk g.disk h.disk only.kept stop.kept;
    asked = both_asked design script f.asked g.asked h.asked only.asked stop.asked;
    reads = omega (arith, only.reads, stop.reads);
    writes = stop.writes ∙ only.writes;
  },
)
script_behind (stops.Script k) design script d f g h clean only stop =
    ((d, both_hold f.disk (HasClean design d) (HasBadLine script k) clean (same_bytes script (λ text. IsBad text k) f.disk g.disk only.kept stop.0)), both_read design script f g h only stop.1)
script_behind stops.Memory design script d f g h clean only stop = record {
  kept = same_files f.disk g.disk h.disk only.kept stop.kept;
  asked = asked_after (design ∷ []) (script ∷ []) f.asked g.asked h.asked only.asked stop.asked;
  reads = stop.reads ∙ only.reads;
  writes = stop.writes ∙ only.writes;
}
script_behind (stops.Design e) design script d f g h clean only stop = absurd stop
script_behind stops.Write design script d f g h clean only stop = absurd stop
script_behind (stops.Unclean x y) design script d f g h clean only stop = absurd stop
