-- What a status and a stop say of the counts.
use Rattle.std.proofs.Common.{◌≡◌, ◌≢◌, ◌⊎◌, ℕ, zero, suc, ◌≤◌, List, refl, arith, inl, inr}
use Rattle.layout_io.specs.Causes.{Rose}
use Rattle.layout_io.specs.Told.{SinkTold, FilesTold}
use Rattle.whole_files.specs.Stops.{Stops, Tells, HasCounts, IsStatus, status_of}
use Rattle.whole_files.specs.declared.stop.Stop.{Stop}
use Rattle.whole_files.specs.declared.stop.Stop.TheVariants as stops

pub never_0 : (stop : Stop) (status : ℕ) → status ≡ status_of stop → status ≡ 0 → ⊥
never_0 (stops.Design e) status is none = absurd (omega (arith, is, none))
never_0 stops.Read status is none = absurd (omega (arith, is, none))
never_0 stops.Write status is none = absurd (omega (arith, is, none))
never_0 (stops.Script k) status is none = absurd (omega (arith, is, none))
never_0 (stops.Unclean a b) status is none = absurd (omega (arith, is, none))
never_0 stops.Memory status is none = absurd (omega (arith, is, none))

-- a stop's status is one from 2 to 7
within : (stop : Stop) → (2 ≤ status_of stop) × (status_of stop ≤ 7)
within (stops.Design e) = (omega arith, omega arith)
within stops.Read = (omega arith, omega arith)
within stops.Write = (omega arith, omega arith)
within (stops.Script k) = (omega arith, omega arith)
within (stops.Unclean a b) = (omega arith, omega arith)
within stops.Memory = (omega arith, omega arith)

pub not_zero : (n : ℕ) → (n ≡ 0) ⊎ (n ≢ 0)
not_zero zero = inl refl
not_zero (suc n) = inr (λ e. absurd (omega (arith, e)))

-- a line's telling lowers no count
pub later : (line : List ℕ) (o p : SinkTold) → Tells line o p → o.faults ≤ p.faults
later line o p (inl put) = omega (arith, put.faults)
later line o p (inr (cut, inl met)) = met.later
later line o p (inr (cut, inr met)) = omega (arith, met.faults)

pub rose_later : (a b c : ℕ) → Rose a b → b ≤ c → Rose a c
rose_later a b c rose more = omega (arith, rose, more)

-- a status that comes of no fault
pub quiet : (n : ℕ) (f g : FilesTold) (o p : SinkTold) → n ≢ 0 → n ≢ 3 → n ≢ 4 → g.read_faults ≡ f.read_faults → g.write_faults ≡ f.write_faults → HasCounts n f g o p
quiet n f g o p not0 not3 not4 reads writes = record {
  read = λ e. absurd (not3 e);
  no_read_fault = λ _. reads;
  write = λ e. absurd (not4 e);
  no_write_fault = λ _. writes;
  no_out_fault = λ e. absurd (not0 e);
}

pub not_read : (f g : FilesTold) (o p : SinkTold) → Rose f.read_faults g.read_faults → g.write_faults ≡ f.write_faults → HasCounts 3 f g o p
not_read f g o p rose writes = record {
  read = λ _. rose;
  no_read_fault = λ n. absurd (n refl);
  write = λ e. absurd (omega (arith, e));
  no_write_fault = λ _. writes;
  no_out_fault = λ e. absurd (omega (arith, e));
}

pub not_written : (f g : FilesTold) (o p : SinkTold) → g.read_faults ≡ f.read_faults → Rose f.write_faults g.write_faults ⊎ Rose o.faults p.faults → HasCounts 4 f g o p
not_written f g o p reads rose = record {
  read = λ e. absurd (omega (arith, e));
  no_read_fault = λ _. reads;
  write = λ _. rose;
  no_write_fault = λ n. absurd (n refl);
  no_out_fault = λ e. absurd (omega (arith, e));
}

pub done_counts : (f g : FilesTold) (o p : SinkTold) → g.read_faults ≡ f.read_faults → g.write_faults ≡ f.write_faults → p.faults ≡ o.faults → HasCounts 0 f g o p
done_counts f g o p reads writes out = record {
  read = λ e. absurd (omega (arith, e));
  no_read_fault = λ _. reads;
  write = λ e. absurd (omega (arith, e));
  no_write_fault = λ _. writes;
  no_out_fault = λ _. out;
}

-- wrong words ask for nothing
pub usage_counts : (f : FilesTold) (o p : SinkTold) → HasCounts 1 f f o p
usage_counts f o p = quiet 1 f f o p (λ e. absurd (omega (arith, e))) (λ e. absurd (omega (arith, e))) (λ e. absurd (omega (arith, e))) refl refl

pub stop_status : (left : SinkTold → Stop → Type 0) (last : SinkTold) (status : ℕ) → Stops left last status → (2 ≤ status) × (status ≤ 7)
stop_status left last status s = let bounds = within s.stop in (omega (arith, s.status_is, bounds.0), omega (arith, s.status_is, bounds.1))

-- a command's status is 0, or that of a stop
pub never_1 : (left : SinkTold → Stop → Type 0) (last : SinkTold) (status : ℕ) → (status ≢ 0 → Stops left last status) → status ≡ 1 → ⊥
never_1 left last status stopped one = let bounds = stop_status left last status (stopped (λ none. absurd (omega (arith, none, one)))) in absurd (omega (arith, bounds.0, one))

ended : (left : SinkTold → Stop → Type 0) (last : SinkTold) (status : ℕ) → (status ≢ 0 → Stops left last status) → (status ≡ 0) ⊎ (status ≢ 0) → status ≤ 7
ended left last status stopped (inl none) = omega (arith, none)
ended left last status stopped (inr not) = (stop_status left last status (stopped not)).1

pub is_status : (left : SinkTold → Stop → Type 0) (last : SinkTold) (status : ℕ) → (status ≢ 0 → Stops left last status) → IsStatus status
is_status left last status stopped = ended left last status stopped (not_zero status)
