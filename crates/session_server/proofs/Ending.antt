-- From the parts of a serving to its end.
use Rattle.std.proofs.Common.{◌≡◌, ◌⊎◌, ℕ, List, Option, sym, subst, refl, ◌∙◌, inl, inr}
use Rattle.layout_io.specs.Causes.{Rose}
use Rattle.layout_io.specs.Told.{FilesTold}
use Rattle.layout_io.specs.Doors.{DoorTold}
use Rattle.board_rules.specs.declared.design.Design.{Design}
use Rattle.board_rules.specs.declared.design.Parts.{Parts}
use Rattle.board_core.specs.Boards.{last_board}
use Rattle.board_files.specs.Inputs.{HasToldClean}
use Rattle.board_files.proofs.Excluded.{told_fault, told_unclean}
use Rattle.ses_writer.specs.Session.{session_of}
use Rattle.session_server.specs.Words.{Names}
use Rattle.session_server.specs.Lefts.{Left, HasServed}
use Rattle.session_server.specs.Rows.{IsMade, IsStored, HasNotBegun, HasBegun, IsEnded, NoFault}
use Rattle.session_server.specs.Stages.{IsBound, IsReady, AcceptEnd, HasRun, RunEnd}
use Rattle.session_server.proofs.Files.{empty_file, short_ready}
use Rattle.session_server.proofs.Texts.{stored, only_written, asks_written}
use Rattle.session_server.specs.declared.ends.End.{End}
use Rattle.session_server.specs.declared.ends.End.TheVariants as ends

-- ---- no link was accepted

made_of : (design session : List ℕ) (parts : Parts) (file : ℕ) (f g : FilesTold) → IsReady design session parts file f g → IsMade design session f g
made_of design session parts file f g r = record {
  clean = (r.loaded.design, r.loaded.has);
  file = empty_file design session parts file f g r;
  asks = r.asks;
  writes = r.writes;
}

accept_end : (end : End) (n : Names) (parts : Parts) (file : ℕ) (f g : FilesTold) (d e a : DoorTold) → IsBound n.address d e → IsReady n.design n.session parts file f g → AcceptEnd e a end → HasNotBegun n f g d a end
accept_end ends.Door n parts file f g d e a bound r cause = record {
  asked = cause.1 ∙ bound.asked;
  rose = subst (λ (k : ℕ). Rose k a.faults) bound.faults cause.0;
  files = inr (made_of n.design n.session parts file f g r);
}
accept_end ends.Memory n parts file f g d e a bound r cause = (short_ready n.design n.session parts file f g r, (inr (cause.1 ∙ bound.asked), cause.0 ∙ bound.faults))
accept_end ends.Done n parts file f g d e a bound r cause = absurd cause
accept_end ends.Usage n parts file f g d e a bound r cause = absurd cause
accept_end (ends.Design kind at) n parts file f g d e a bound r cause = absurd cause
accept_end ends.Read n parts file f g d e a bound r cause = absurd cause
accept_end ends.Write n parts file f g d e a bound r cause = absurd cause
accept_end (ends.Unclean x y) n parts file f g d e a bound r cause = absurd cause

-- ---- a session was served

served_from : (p q : Parts) (now before : Option (List (List ℕ))) (l : Left) → p ≡ q → now ≡ before → HasServed p now l → HasServed q before l
served_from p q now before l parts coming s = subst (λ (x : Parts). HasServed x before l) parts (subst (λ (c : Option (List (List ℕ))). HasServed p c l) coming s)

begun : (end : End) (n : Names) (parts : Parts) (file : ℕ) (f g h : FilesTold) (d e a : DoorTold) (l : Left) → IsBound n.address d e → IsReady n.design n.session parts file f g → HasRun parts file g h e a l end → HasBegun n f h d a l end
begun end n parts file f g h d e a l bound r run =
    let text = session_of parts (last_board parts l.journal).live in record {
      design = r.loaded.design;
      has = r.loaded.has;
      served = served_from parts r.loaded.design.parts e.coming d.coming l r.loaded.parts_are bound.coming run.served;
      stored = subst (λ (p : Parts). IsStored n.session (session_of p (last_board p l.journal).live) f h end) r.loaded.parts_are (stored end n.session text file f g h r.made r.writes run.stored);
      asks = asks_written n.design n.session f g h r.asks (only_written end file text g h run.stored);
      door = record { asked = run.door.asked ∙ bound.asked; faults = run.door.faults ∙ bound.faults };
    }

pub opened_end : (end : End) (n : Names) (parts : Parts) (file : ℕ) (f g h : FilesTold) (d e a : DoorTold) (l : Left) → IsBound n.address d e → IsReady n.design n.session parts file f g → RunEnd parts file g h e a l end → IsEnded n f h d a l end
opened_end end n parts file f g h d e a l bound r (inl none) = inl (none.0, subst (λ (x : FilesTold). HasNotBegun n f x d a end) (sym none.1) (accept_end end n parts file f g d e a bound r none.2))
opened_end end n parts file f g h d e a l bound r (inr run) = inr (begun end n parts file f g h d e a l bound r run)

no_usage : (n : Names) (f g : FilesTold) (d e : DoorTold) (l : Left) → IsEnded n f g d e l ends.Usage → ⊥
no_usage n f g d e l (inl none) = none.1.0
no_usage n f g d e l (inr b) = b.stored

-- ---- completeness

pub ended_complete : (end : End) (n : Names) (design : Design) (f g : FilesTold) (d e : DoorTold) (l : Left) → HasToldClean n.design design f.disk → NoFault f g d e → IsEnded n f g d e l end → (end ≡ ends.Done) ⊎ (end ≡ ends.Memory)
ended_complete ends.Done n design f g d e l has none ended = inl refl
ended_complete ends.Memory n design f g d e l has none ended = inr refl
ended_complete ends.Usage n design f g d e l has none ended = absurd (no_usage n f g d e l ended)
ended_complete (ends.Design kind at) n design f g d e l has none (inl not) = absurd (told_fault n.design design (record { kind = kind; at = at }) f.disk has not.1.0.0)
ended_complete ends.Read n design f g d e l has none (inl not) = absurd (none.read not.1.0.reads)
ended_complete ends.Write n design f g d e l has none (inl not) = absurd (none.write not.1.0.rose)
ended_complete (ends.Unclean x y) n design f g d e l has none (inl not) = absurd (told_unclean n.design design x.0 y.0 f.disk has not.1.0.0)
ended_complete ends.Door n design f g d e l has none (inl not) = absurd (none.door not.1.rose)
ended_complete (ends.Design kind at) n design f g d e l has none (inr b) = absurd b.stored
ended_complete ends.Read n design f g d e l has none (inr b) = absurd b.stored
ended_complete ends.Write n design f g d e l has none (inr b) = absurd (none.write b.stored.3)
ended_complete (ends.Unclean x y) n design f g d e l has none (inr b) = absurd b.stored
ended_complete ends.Door n design f g d e l has none (inr b) = absurd b.stored
