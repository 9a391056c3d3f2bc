-- What a status and a stop of `check` say of the counts and of the name that was asked for.
use Rattle.std.proofs.Common.{◌≡◌, ◌≢◌, ◌⊎◌, ℕ, List, [], ◌∷◌, sym, refl, subst, ◌∙◌, arith, inl, inr}
use Rattle.layout_io.specs.Told.{SinkTold, FilesTold}
use Rattle.board_rules.specs.declared.design.Design.{Design}
use Rattle.whole_files.specs.Words.{Asked}
use Rattle.board_files.specs.Inputs.{HasToldClean}
use Rattle.whole_files.specs.Stops.{Stops, Tells, HasCounts, NoFault, status_of}
use Rattle.layout_server.specs.Checks.{Checks, CheckStop}
use Rattle.whole_files.specs.declared.stop.Stop.{Stop}
use Rattle.whole_files.specs.declared.stop.Stop.TheVariants as stops
use Rattle.board_files.proofs.Excluded.{told_fault, told_unclean}
use Rattle.whole_files.proofs.Statuses.{later, rose_later, quiet, not_read, not_written, done_counts, not_zero}

check_counts_of : (stop : Stop) (name : List ℕ) (f g : FilesTold) (o m p : SinkTold) (line : List ℕ) → CheckStop name f g o m stop → Tells line m p → HasCounts (status_of stop) f g o p
check_counts_of (stops.Design e) name f g o m p line h tells = quiet 2 f g o p (λ e. absurd (omega (arith, e))) (λ e. absurd (omega (arith, e))) (λ e. absurd (omega (arith, e))) h.0.1.reads h.0.1.writes
check_counts_of stops.Read name f g o m p line h tells = not_read f g o p h.0.reads h.0.writes
check_counts_of stops.Write name f g o m p line h tells = not_written f g o p h.2.reads (inr (rose_later o.faults m.faults p.faults h.1.rose (later line m p tells)))
check_counts_of (stops.Script k) name f g o m p line h tells = absurd h.0
check_counts_of (stops.Unclean a b) name f g o m p line h tells = quiet 6 f g o p (λ e. absurd (omega (arith, e))) (λ e. absurd (omega (arith, e))) (λ e. absurd (omega (arith, e))) h.0.1.reads h.0.1.writes
check_counts_of stops.Memory name f g o m p line h tells = quiet 7 f g o p (λ e. absurd (omega (arith, e))) (λ e. absurd (omega (arith, e))) (λ e. absurd (omega (arith, e))) h.0.reads h.0.writes

check_asked_of : (stop : Stop) (name : List ℕ) (f g : FilesTold) (o m : SinkTold) → CheckStop name f g o m stop → Asked (name ∷ []) f.asked g.asked
check_asked_of (stops.Design e) name f g o m h = (1, h.0.1.asked)
check_asked_of stops.Read name f g o m h = (1, h.0.asked)
check_asked_of stops.Write name f g o m h = (1, h.2.asked)
check_asked_of (stops.Script k) name f g o m h = absurd h.0
check_asked_of (stops.Unclean a b) name f g o m h = (1, h.0.1.asked)
check_asked_of stops.Memory name f g o m h = h.0.asked

check_memory_alone : (stop : Stop) (name : List ℕ) (d : Design) (f g : FilesTold) (o m p : SinkTold) (line : List ℕ) → HasToldClean name d f.disk → CheckStop name f g o m stop → Tells line m p → NoFault f g o p → status_of stop ≡ 7
check_memory_alone (stops.Design e) name d f g o m p line has h tells none = absurd (told_fault name d e f.disk has h.0.0)
check_memory_alone stops.Read name d f g o m p line has h tells none = absurd (none.read h.0.reads)
check_memory_alone stops.Write name d f g o m p line has h tells none = absurd (none.out (rose_later o.faults m.faults p.faults h.1.rose (later line m p tells)))
check_memory_alone (stops.Script k) name d f g o m p line has h tells none = absurd h.0
check_memory_alone (stops.Unclean a b) name d f g o m p line has h tells none = absurd (told_unclean name d a.0 b.0 f.disk has h.0.0)
check_memory_alone stops.Memory name d f g o m p line has h tells none = refl

check_counts_in : (name : List ℕ) (f g : FilesTold) (o p : SinkTold) (status : ℕ) → (status ≡ 0 → Checks name f g o p) → (status ≢ 0 → Stops (CheckStop name f g o) p status) → (status ≡ 0) ⊎ (status ≢ 0) → HasCounts status f g o p
check_counts_in name f g o p status done stopped (inl none) = let r = done none in subst (λ (n : ℕ). HasCounts n f g o p) (sym none) (done_counts f g o p r.reads.reads r.reads.writes r.out.faults)
check_counts_in name f g o p status done stopped (inr not) =
    let s = stopped not in subst (λ (n : ℕ). HasCounts n f g o p) (sym s.status_is) (check_counts_of s.stop name f g o s.mid p _ s.why s.line)

pub check_counts : (name : List ℕ) (f g : FilesTold) (o p : SinkTold) (status : ℕ) → (status ≡ 0 → Checks name f g o p) → (status ≢ 0 → Stops (CheckStop name f g o) p status) → HasCounts status f g o p
check_counts name f g o p status done stopped = check_counts_in name f g o p status done stopped (not_zero status)

check_asked_in : (name : List ℕ) (f g : FilesTold) (o p : SinkTold) (status : ℕ) → (status ≡ 0 → Checks name f g o p) → (status ≢ 0 → Stops (CheckStop name f g o) p status) → (status ≡ 0) ⊎ (status ≢ 0) → Asked (name ∷ []) f.asked g.asked
check_asked_in name f g o p status done stopped (inl none) = (1, (done none).reads.asked)
check_asked_in name f g o p status done stopped (inr not) = let s = stopped not in check_asked_of s.stop name f g o s.mid s.why

pub check_asked : (name : List ℕ) (f g : FilesTold) (o p : SinkTold) (status : ℕ) → (status ≡ 0 → Checks name f g o p) → (status ≢ 0 → Stops (CheckStop name f g o) p status) → Asked (name ∷ []) f.asked g.asked
check_asked name f g o p status done stopped = check_asked_in name f g o p status done stopped (not_zero status)

check_complete_in : (name : List ℕ) (d : Design) (f g : FilesTold) (o p : SinkTold) (status : ℕ) → (status ≢ 0 → Stops (CheckStop name f g o) p status) → HasToldClean name d f.disk → NoFault f g o p → (status ≡ 0) ⊎ (status ≢ 0) → (status ≡ 0) ⊎ (status ≡ 7)
check_complete_in name d f g o p status stopped has quiet (inl none) = inl none
check_complete_in name d f g o p status stopped has none (inr not) = let s = stopped not in inr (s.status_is ∙ check_memory_alone s.stop name d f g o s.mid p _ has s.why s.line none)

pub check_complete : (name : List ℕ) (d : Design) (f g : FilesTold) (o p : SinkTold) (status : ℕ) → (status ≢ 0 → Stops (CheckStop name f g o) p status) → HasToldClean name d f.disk → NoFault f g o p → (status ≡ 0) ⊎ (status ≡ 7)
check_complete name d f g o p status stopped has none = check_complete_in name d f g o p status stopped has none (not_zero status)
