-- What is known of a client's files from the bytes that were read of them.
use Rattle.std.proofs.Common.{◌≡◌, ℕ, ◌≤◌, List, [], ◌∷◌, ◌++◌, length, Option, Some, None, sym, ap, ◌∙◌, append_assoc, arith, inl, inr}
use Rattle.std.specs.Prelude.{IfSome}
use Rattle.std.proofs.lemmas.List.{append-nil}
use Rattle.layout_io.specs.Told.{Disk, Told, FilesTold, bytes_of}
use Rattle.layout_io.specs.declared.stored.Stored.{Stored}
use Rattle.board_rules.specs.declared.design.Design.{Design}
use Rattle.whole_files.specs.Outside.{SameFiles, IsFound, OnlyRead, ReadStop}
use Rattle.whole_files.specs.declared.stop.Stop.{Stop}
use Rattle.whole_files.specs.declared.stop.Stop.TheVariants as stops
use Rattle.whole_files.proofs.Asks.{asked_less, asked_after}
use Rattle.whole_files.proofs.Tolds.{told_then}
use Rattle.board_files.specs.Inputs.{HasDesign}
use Rattle.board_files.specs.Loads.{DesignCause}
use Rattle.board_files.proofs.Loads.{design_stop}
use Rattle.board_client.specs.Loads.{PlanStop, HasText, HasInputs, LoadStop}

-- the bytes of a design were read, and give none
pub plan_stop : (stop : Stop) (name bytes : List ℕ) (f g : FilesTold) → Told f.disk g.disk (IsFound name 67108864 bytes) → OnlyRead (name ∷ []) f g → DesignCause bytes stop → PlanStop name f g stop
plan_stop (stops.Design e) name bytes f g told only cause = design_stop (stops.Design e) name bytes f g told only cause
plan_stop stops.Memory name bytes f g told only cause = design_stop stops.Memory name bytes f g told only cause
plan_stop stops.Read name bytes f g told only cause = absurd cause
plan_stop stops.Write name bytes f g told only cause = absurd cause
plan_stop (stops.Script k) name bytes f g told only cause = absurd cause
plan_stop (stops.Unclean x y) name bytes f g told only cause = absurd cause

pub plan_unread : (stop : Stop) (name : List ℕ) (f g : FilesTold) → ReadStop (name ∷ []) f g stop → PlanStop name f g stop
plan_unread stops.Read name f g cause = cause
plan_unread stops.Memory name f g cause = cause
plan_unread (stops.Design e) name f g cause = absurd cause
plan_unread stops.Write name f g cause = absurd cause
plan_unread (stops.Script k) name f g cause = absurd cause
plan_unread (stops.Unclean x y) name f g cause = absurd cause

-- bytes that are not too many are all of the file's
pub found_text : (name bytes : List ℕ) (most : ℕ) (a b : Option Disk) → Told a b (IsFound name most bytes) → length bytes ≤ most → IfSome a (HasText name bytes)
found_text name bytes most None b told short = tt
found_text name bytes most (Some d) None told short = absurd told
found_text name bytes most (Some d) (Some e) told short = told.bytes_are ∙ ap (λ (more : List ℕ). Some (bytes ++ more)) (told.whole short) ∙ ap Some (append-nil bytes)

-- ---- both files

pub design_first : (stop : Stop) (design lines : List ℕ) (f g : FilesTold) → PlanStop design f g stop → LoadStop design lines f g stop
design_first (stops.Design e) design lines f g h = h
design_first stops.Read design lines f g h = inl h
design_first stops.Write design lines f g h = absurd h
design_first (stops.Script k) design lines f g h = absurd h
design_first (stops.Unclean x y) design lines f g h = absurd h
design_first stops.Memory design lines f g h = record { kept = h.kept; asked = asked_less (design ∷ []) (lines ∷ []) f.asked g.asked h.asked; reads = h.reads; writes = h.writes }

same_files : (a b c : Option Disk) → Told a b SameFiles → Told b c SameFiles → Told a c SameFiles
same_files a b c p q = told_then a b c SameFiles SameFiles SameFiles p q (λ d e f x y. y ∙ x)

both_asked : (x y : List ℕ) (a b c : List (List ℕ)) → b ≡ a ++ x ∷ [] → c ≡ b ++ y ∷ [] → c ≡ a ++ x ∷ y ∷ []
both_asked x y a b c e f = f ∙ ap (λ (names : List (List ℕ)). names ++ y ∷ []) e ∙ append_assoc a (x ∷ []) (y ∷ [])

pub both_read : (design lines : List ℕ) (f g h : FilesTold) → OnlyRead (design ∷ []) f g → OnlyRead (lines ∷ []) g h → OnlyRead (design ∷ lines ∷ []) f h
both_read design lines f g h p q = record {
  kept = same_files f.disk g.disk h.disk p.kept q.kept;
  asked = both_asked design lines f.asked g.asked h.asked p.asked q.asked;
  reads = q.reads ∙ p.reads;
  writes = q.writes ∙ p.writes;
}

-- the lines were read behind the design, of which no file was changed
pub both_inputs : (design lines : List ℕ) (d : Design) (text : List ℕ) (a b : Option Disk) → IfSome a (HasDesign design d) → Told a b SameFiles → IfSome b (HasText lines text) → IfSome a (HasInputs design d lines text)
both_inputs design lines d text None b has kept found = tt
both_inputs design lines d text (Some x) None has kept found = absurd kept
both_inputs design lines d text (Some x) (Some y) has kept found = (has, ap (λ (files : List Stored). bytes_of files lines) (sym kept) ∙ found)

pub text_behind : (stop : Stop) (design lines : List ℕ) (d : Design) (f g h : FilesTold) → IfSome f.disk (HasDesign design d) → OnlyRead (design ∷ []) f g → ReadStop (lines ∷ []) g h stop → LoadStop design lines f h stop
text_behind stops.Read design lines d f g h has only stop = inr (
  d,
  has,
  record {
    kept = same_files f.disk g.disk h.disk only.kept stop.kept;
    asked = both_asked design lines f.asked g.asked h.asked only.asked stop.asked;
    reads = omega (arith, only.reads, stop.reads);
    writes = stop.writes ∙ only.writes;
  },
)
text_behind stops.Memory design lines d f g h has only stop = record {
  kept = same_files f.disk g.disk h.disk only.kept stop.kept;
  asked = asked_after (design ∷ []) (lines ∷ []) f.asked g.asked h.asked only.asked stop.asked;
  reads = stop.reads ∙ only.reads;
  writes = stop.writes ∙ only.writes;
}
text_behind (stops.Design e) design lines d f g h has only stop = absurd stop
text_behind stops.Write design lines d f g h has only stop = absurd stop
text_behind (stops.Script k) design lines d f g h has only stop = absurd stop
text_behind (stops.Unclean x y) design lines d f g h has only stop = absurd stop
