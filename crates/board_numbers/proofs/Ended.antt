-- What a status and a stop say of the counts and of the name that was asked for.
use Rattle.std.proofs.Common.{◌≡◌, ◌≢◌, ◌⊎◌, ℕ, List, [], ◌∷◌, Option, Some, None, sym, refl, subst, ◌∙◌, arith, inl, inr}
use Rattle.std.specs.Prelude.{IfSome}
use Rattle.layout_io.specs.Told.{Disk, SinkTold, FilesTold, bytes_of}
use Rattle.dsn_lists.specs.declared.faults.DesignFault.{DesignFault}
use Rattle.dsn_reader.specs.Design.{IsDesign}
use Rattle.dsn_reader.proofs.Laws.{no_fault}
use Rattle.whole_files.specs.Words.{Asked}
use Rattle.whole_files.specs.Stops.{Stops, Tells, HasCounts, NoFault, status_of}
use Rattle.whole_files.specs.declared.stop.Stop.{Stop}
use Rattle.whole_files.specs.declared.stop.Stop.TheVariants as stops
use Rattle.whole_files.proofs.Statuses.{later, rose_later, quiet, not_read, not_written, done_counts, not_zero}
use Rattle.board_numbers.specs.Headline.{IsGiven, HasNumbers, HasFault, HasToldNumbers, Numbers, NumbersStop}

-- ---- a design with numbers has no fault

same_found : (o : Option (List ℕ)) (a b : List ℕ) → o ≡ Some a → o ≡ Some b → a ≡ b
same_found o a b p q = let both : Some a ≡ Some b = sym p ∙ q in cc

no_fault_in : (name text : List ℕ) (e : DesignFault) (disk : Disk) → HasNumbers name text disk → HasFault name e disk → ⊥
no_fault_in name text e disk has fault =
    let same = same_found (bytes_of disk.files name) has.0 fault.0 has.1 fault.1 in
    let is : IsDesign fault.0 has.2.design = subst (λ (b : List ℕ). IsDesign b has.2.design) same has.2.is_design in
    no_fault fault.0 has.2.design e is fault.2

told_fault : (name text : List ℕ) (e : DesignFault) (a : Option Disk) → HasToldNumbers name text a → IfSome a (HasFault name e) → ⊥
told_fault name text e None has fault = absurd has
told_fault name text e (Some disk) has fault = no_fault_in name text e disk has fault

-- ---- statuses

given_of : (stop : Stop) (name : List ℕ) (f g : FilesTold) (o m : SinkTold) → NumbersStop name f g o m stop → IsGiven (status_of stop)
given_of (stops.Design e) name f g o m h = inr (inr (inl refl))
given_of stops.Read name f g o m h = inr (inr (inr (inl refl)))
given_of stops.Write name f g o m h = inr (inr (inr (inr (inl refl))))
given_of (stops.Script k) name f g o m h = absurd h.0
given_of (stops.Unclean a b) name f g o m h = absurd h.0
given_of stops.Memory name f g o m h = inr (inr (inr (inr (inr refl))))

given_in : (name : List ℕ) (f g : FilesTold) (o p : SinkTold) (status : ℕ) → (status ≢ 0 → Stops (NumbersStop name f g o) p status) → (status ≡ 0) ⊎ (status ≢ 0) → IsGiven status
given_in name f g o p status stopped (inl none) = inl none
given_in name f g o p status stopped (inr not) = let s = stopped not in subst IsGiven (sym s.status_is) (given_of s.stop name f g o s.mid s.why)

pub is_given : (name : List ℕ) (f g : FilesTold) (o p : SinkTold) (status : ℕ) → (status ≢ 0 → Stops (NumbersStop name f g o) p status) → IsGiven status
is_given name f g o p status stopped = given_in name f g o p status stopped (not_zero status)

-- ---- counts, and the name that was asked for

numbers_counts_of : (stop : Stop) (name : List ℕ) (f g : FilesTold) (o m p : SinkTold) (line : List ℕ) → NumbersStop name f g o m stop → Tells line m p → HasCounts (status_of stop) f g o p
numbers_counts_of (stops.Design e) name f g o m p line h tells = quiet 2 f g o p (λ e. absurd (omega (arith, e))) (λ e. absurd (omega (arith, e))) (λ e. absurd (omega (arith, e))) h.0.1.reads h.0.1.writes
numbers_counts_of stops.Read name f g o m p line h tells = not_read f g o p h.0.reads h.0.writes
numbers_counts_of stops.Write name f g o m p line h tells = not_written f g o p h.2.reads (inr (rose_later o.faults m.faults p.faults h.1.rose (later line m p tells)))
numbers_counts_of (stops.Script k) name f g o m p line h tells = absurd h.0
numbers_counts_of (stops.Unclean a b) name f g o m p line h tells = absurd h.0
numbers_counts_of stops.Memory name f g o m p line h tells = quiet 7 f g o p (λ e. absurd (omega (arith, e))) (λ e. absurd (omega (arith, e))) (λ e. absurd (omega (arith, e))) h.0.reads h.0.writes

numbers_asked_of : (stop : Stop) (name : List ℕ) (f g : FilesTold) (o m : SinkTold) → NumbersStop name f g o m stop → Asked (name ∷ []) f.asked g.asked
numbers_asked_of (stops.Design e) name f g o m h = (1, h.0.1.asked)
numbers_asked_of stops.Read name f g o m h = (1, h.0.asked)
numbers_asked_of stops.Write name f g o m h = (1, h.2.asked)
numbers_asked_of (stops.Script k) name f g o m h = absurd h.0
numbers_asked_of (stops.Unclean a b) name f g o m h = absurd h.0
numbers_asked_of stops.Memory name f g o m h = h.0.asked

numbers_memory_alone : (stop : Stop) (name : List ℕ) (text : List ℕ) (f g : FilesTold) (o m p : SinkTold) (line : List ℕ) → HasToldNumbers name text f.disk → NumbersStop name f g o m stop → Tells line m p → NoFault f g o p → status_of stop ≡ 7
numbers_memory_alone (stops.Design e) name text f g o m p line has h tells none = absurd (told_fault name text e f.disk has h.0.0)
numbers_memory_alone stops.Read name text f g o m p line has h tells none = absurd (none.read h.0.reads)
numbers_memory_alone stops.Write name text f g o m p line has h tells none = absurd (none.out (rose_later o.faults m.faults p.faults h.1.rose (later line m p tells)))
numbers_memory_alone (stops.Script k) name text f g o m p line has h tells none = absurd h.0
numbers_memory_alone (stops.Unclean a b) name text f g o m p line has h tells none = absurd h.0
numbers_memory_alone stops.Memory name text f g o m p line has h tells none = refl

numbers_counts_in : (name : List ℕ) (f g : FilesTold) (o p : SinkTold) (status : ℕ) → (status ≡ 0 → Numbers name f g o p) → (status ≢ 0 → Stops (NumbersStop name f g o) p status) → (status ≡ 0) ⊎ (status ≢ 0) → HasCounts status f g o p
numbers_counts_in name f g o p status done stopped (inl none) = let r = done none in subst (λ (n : ℕ). HasCounts n f g o p) (sym none) (done_counts f g o p r.reads.reads r.reads.writes r.out.faults)
numbers_counts_in name f g o p status done stopped (inr not) =
    let s = stopped not in subst (λ (n : ℕ). HasCounts n f g o p) (sym s.status_is) (numbers_counts_of s.stop name f g o s.mid p _ s.why s.line)

pub numbers_counts : (name : List ℕ) (f g : FilesTold) (o p : SinkTold) (status : ℕ) → (status ≡ 0 → Numbers name f g o p) → (status ≢ 0 → Stops (NumbersStop name f g o) p status) → HasCounts status f g o p
numbers_counts name f g o p status done stopped = numbers_counts_in name f g o p status done stopped (not_zero status)

numbers_asked_in : (name : List ℕ) (f g : FilesTold) (o p : SinkTold) (status : ℕ) → (status ≡ 0 → Numbers name f g o p) → (status ≢ 0 → Stops (NumbersStop name f g o) p status) → (status ≡ 0) ⊎ (status ≢ 0) → Asked (name ∷ []) f.asked g.asked
numbers_asked_in name f g o p status done stopped (inl none) = (1, (done none).reads.asked)
numbers_asked_in name f g o p status done stopped (inr not) = let s = stopped not in numbers_asked_of s.stop name f g o s.mid s.why

pub numbers_asked : (name : List ℕ) (f g : FilesTold) (o p : SinkTold) (status : ℕ) → (status ≡ 0 → Numbers name f g o p) → (status ≢ 0 → Stops (NumbersStop name f g o) p status) → Asked (name ∷ []) f.asked g.asked
numbers_asked name f g o p status done stopped = numbers_asked_in name f g o p status done stopped (not_zero status)

numbers_complete_in : (name : List ℕ) (text : List ℕ) (f g : FilesTold) (o p : SinkTold) (status : ℕ) → (status ≢ 0 → Stops (NumbersStop name f g o) p status) → HasToldNumbers name text f.disk → NoFault f g o p → (status ≡ 0) ⊎ (status ≢ 0) → (status ≡ 0) ⊎ (status ≡ 7)
numbers_complete_in name text f g o p status stopped has quiet (inl none) = inl none
numbers_complete_in name text f g o p status stopped has none (inr not) = let s = stopped not in inr (s.status_is ∙ numbers_memory_alone s.stop name text f g o s.mid p _ has s.why s.line none)

pub numbers_complete : (name : List ℕ) (text : List ℕ) (f g : FilesTold) (o p : SinkTold) (status : ℕ) → (status ≢ 0 → Stops (NumbersStop name f g o) p status) → HasToldNumbers name text f.disk → NoFault f g o p → (status ≡ 0) ⊎ (status ≡ 7)
numbers_complete name text f g o p status stopped has none = numbers_complete_in name text f g o p status stopped has none (not_zero status)
