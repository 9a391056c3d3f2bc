-- What a status and a stop say of the counts and of the names that were asked for.
use Rattle.std.proofs.Common.{◌≡◌, ◌≢◌, ◌⊎◌, ℕ, List, [], ◌∷◌, ◌++◌, refl, sym, subst, ◌∙◌, arith, inl, inr}
use Rattle.layout_io.specs.Causes.{Rose}
use Rattle.layout_io.specs.Told.{SinkTold, FilesTold}
use Rattle.board_rules.specs.declared.design.Design.{Design}
use Rattle.session_wire.specs.declared.steps.ScriptStep.{ScriptStep}
use Rattle.layout_server.specs.Words.{Names, three}
use Rattle.whole_files.specs.Words.{Asked}
use Rattle.layout_server.specs.Inputs.{HasToldInputs}
use Rattle.whole_files.specs.Stops.{Stops, Tells, HasCounts, NoFault, status_of}
use Rattle.layout_server.specs.Headline.{Replays, ReplayStop, HasFailedWrite}
use Rattle.whole_files.specs.declared.stop.Stop.{Stop}
use Rattle.whole_files.specs.declared.stop.Stop.TheVariants as stops
use Rattle.board_files.proofs.Excluded.{told_fault, told_unclean}
use Rattle.layout_server.proofs.Excluded.{clean_told, told_bad}
use Rattle.whole_files.proofs.Statuses.{later, not_zero, not_read, rose_later, quiet, not_written, done_counts}

-- ---- statuses

-- ---- the stops of `replay`

rose_of : (names : Names) (f g : FilesTold) (o m p : SinkTold) (line : List ℕ) → HasFailedWrite names f g o m → Tells line m p → Rose f.write_faults g.write_faults ⊎ Rose o.faults p.faults
rose_of names f g o m p line (inl h) tells = inl h.2
rose_of names f g o m p line (inr (inl h)) tells = inr (rose_later o.faults m.faults p.faults h.2.rose (later line m p tells))
rose_of names f g o m p line (inr (inr h)) tells = inl h.2

stop_counts : (stop : Stop) (names : Names) (f g : FilesTold) (o m p : SinkTold) (line : List ℕ) → ReplayStop names f g o m stop → Tells line m p → HasCounts (status_of stop) f g o p
stop_counts (stops.Design e) names f g o m p line h tells = quiet 2 f g o p (λ e. absurd (omega (arith, e))) (λ e. absurd (omega (arith, e))) (λ e. absurd (omega (arith, e))) h.0.1.reads h.0.1.writes
stop_counts stops.Read names f g o m p line (inl h, same) tells = not_read f g o p h.reads h.writes
stop_counts stops.Read names f g o m p line (inr h, same) tells = not_read f g o p h.2.reads h.2.writes
stop_counts stops.Write names f g o m p line h tells = not_written f g o p h.0.reads (rose_of names f g o m p line h.1 tells)
stop_counts (stops.Script k) names f g o m p line h tells = quiet 5 f g o p (λ e. absurd (omega (arith, e))) (λ e. absurd (omega (arith, e))) (λ e. absurd (omega (arith, e))) h.0.1.reads h.0.1.writes
stop_counts (stops.Unclean a b) names f g o m p line h tells = quiet 6 f g o p (λ e. absurd (omega (arith, e))) (λ e. absurd (omega (arith, e))) (λ e. absurd (omega (arith, e))) h.0.1.reads h.0.1.writes
stop_counts stops.Memory names f g o m p line h tells = quiet 7 f g o p (λ e. absurd (omega (arith, e))) (λ e. absurd (omega (arith, e))) (λ e. absurd (omega (arith, e))) h.0.reads h.1

-- the first one or two of three names were asked for
first_asked : (names : Names) (old new : List (List ℕ)) → new ≡ old ++ names.design ∷ [] → Asked (three names) old new
first_asked names old new e = (1, e)

second_asked : (names : Names) (old new : List (List ℕ)) → new ≡ old ++ names.design ∷ names.script ∷ [] → Asked (three names) old new
second_asked names old new e = (2, e)

stop_asked : (stop : Stop) (names : Names) (f g : FilesTold) (o m : SinkTold) → ReplayStop names f g o m stop → Asked (three names) f.asked g.asked
stop_asked (stops.Design e) names f g o m h = first_asked names f.asked g.asked h.0.1.asked
stop_asked stops.Read names f g o m (inl h, same) = first_asked names f.asked g.asked h.asked
stop_asked stops.Read names f g o m (inr h, same) = second_asked names f.asked g.asked h.2.asked
stop_asked stops.Write names f g o m h = h.0.asked
stop_asked (stops.Script k) names f g o m h = second_asked names f.asked g.asked h.0.1.asked
stop_asked (stops.Unclean a b) names f g o m h = first_asked names f.asked g.asked h.0.1.asked
stop_asked stops.Memory names f g o m h = h.0.asked

no_write : (f g : FilesTold) (o p : SinkTold) → NoFault f g o p → Rose f.write_faults g.write_faults ⊎ Rose o.faults p.faults → ⊥
no_write f g o p none (inl rose) = none.write rose
no_write f g o p none (inr rose) = none.out rose

memory_alone : (stop : Stop) (names : Names) (d : Design) (steps : List ScriptStep) (f g : FilesTold) (o m p : SinkTold) (line : List ℕ) → HasToldInputs names d steps f.disk → ReplayStop names f g o m stop → Tells line m p → NoFault f g o p → status_of stop ≡ 7
memory_alone (stops.Design e) names d steps f g o m p line has h tells none = absurd (told_fault names.design d e f.disk (clean_told names d steps f.disk has) h.0.0)
memory_alone stops.Read names d steps f g o m p line has (inl h, same) tells none = absurd (none.read h.reads)
memory_alone stops.Read names d steps f g o m p line has (inr h, same) tells none = absurd (none.read h.2.reads)
memory_alone stops.Write names d steps f g o m p line has h tells none = absurd (no_write f g o p none (rose_of names f g o m p line h.1 tells))
memory_alone (stops.Script k) names d steps f g o m p line has h tells none = absurd (told_bad names d h.0.0.0 steps k f.disk has h.0.0.1)
memory_alone (stops.Unclean a b) names d steps f g o m p line has h tells none = absurd (told_unclean names.design d a.0 b.0 f.disk (clean_told names d steps f.disk has) h.0.0)
memory_alone stops.Memory names d steps f g o m p line has h tells none = refl

-- ---- a status

replay_counts_of : (names : Names) (f g : FilesTold) (o p : SinkTold) (status : ℕ) → (status ≡ 0 → Replays names f g o p) → (status ≢ 0 → Stops (ReplayStop names f g o) p status) → (status ≡ 0) ⊎ (status ≢ 0) → HasCounts status f g o p
replay_counts_of names f g o p status done stopped (inl none) = let r = done none in subst (λ (n : ℕ). HasCounts n f g o p) (sym none) (done_counts f g o p r.asks.reads r.writes r.out.faults)
replay_counts_of names f g o p status done stopped (inr not) =
    let s = stopped not in subst (λ (n : ℕ). HasCounts n f g o p) (sym s.status_is) (stop_counts s.stop names f g o s.mid p _ s.why s.line)

pub replay_counts : (names : Names) (f g : FilesTold) (o p : SinkTold) (status : ℕ) → (status ≡ 0 → Replays names f g o p) → (status ≢ 0 → Stops (ReplayStop names f g o) p status) → HasCounts status f g o p
replay_counts names f g o p status done stopped = replay_counts_of names f g o p status done stopped (not_zero status)

replay_asked_of : (names : Names) (f g : FilesTold) (o p : SinkTold) (status : ℕ) → (status ≡ 0 → Replays names f g o p) → (status ≢ 0 → Stops (ReplayStop names f g o) p status) → (status ≡ 0) ⊎ (status ≢ 0) → Asked (three names) f.asked g.asked
replay_asked_of names f g o p status done stopped (inl none) = (done none).asks.asked
replay_asked_of names f g o p status done stopped (inr not) = let s = stopped not in stop_asked s.stop names f g o s.mid s.why

pub replay_asked : (names : Names) (f g : FilesTold) (o p : SinkTold) (status : ℕ) → (status ≡ 0 → Replays names f g o p) → (status ≢ 0 → Stops (ReplayStop names f g o) p status) → Asked (three names) f.asked g.asked
replay_asked names f g o p status done stopped = replay_asked_of names f g o p status done stopped (not_zero status)

replay_complete_of : (names : Names) (d : Design) (steps : List ScriptStep) (f g : FilesTold) (o p : SinkTold) (status : ℕ) → (status ≢ 0 → Stops (ReplayStop names f g o) p status) → HasToldInputs names d steps f.disk → NoFault f g o p
    → (status ≡ 0) ⊎ (status ≢ 0) → (status ≡ 0) ⊎ (status ≡ 7)
replay_complete_of names d steps f g o p status stopped has quiet (inl none) = inl none
replay_complete_of names d steps f g o p status stopped has none (inr not) = let s = stopped not in inr (s.status_is ∙ memory_alone s.stop names d steps f g o s.mid p _ has s.why s.line none)

pub replay_complete : (names : Names) (d : Design) (steps : List ScriptStep) (f g : FilesTold) (o p : SinkTold) (status : ℕ) → (status ≢ 0 → Stops (ReplayStop names f g o) p status) → HasToldInputs names d steps f.disk → NoFault f g o p → (status ≡ 0) ⊎ (status ≡ 7)
replay_complete names d steps f g o p status stopped has none = replay_complete_of names d steps f g o p status stopped has none (not_zero status)
