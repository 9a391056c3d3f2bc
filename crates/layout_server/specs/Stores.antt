-- What of a run's two texts was stored where the storing stops.
use Rattle.std.specs.Prelude.{◌≡◌, ◌⊎◌, ℕ, List}
use Rattle.layout_io.specs.Causes.{Rose}
use Rattle.layout_io.specs.Told.{SinkTold, FilesTold}
use Rattle.whole_files.specs.Outside.{WroteSome}
use Rattle.whole_files.specs.Puts.{IsPut, IsCut, MetFault, MetShortage}
use Rattle.whole_files.specs.declared.stop.Stop.{Stop}
use Rattle.whole_files.specs.declared.stop.Stop.TheVariants as stops

-- why the two texts were not stored: the output is cut and the files stay, or it is whole and the session is cut
abbrev pub TextsStop : List ℕ → List ℕ → ℕ → FilesTold → FilesTold → SinkTold → SinkTold → Stop → Type 0
TextsStop output session file f g o p stops.Write =
    (IsCut output o p × MetFault o p × (g ≡ f)) ⊎ (IsPut output o p × WroteSome file session f g × Rose f.write_faults g.write_faults)
TextsStop output session file f g o p stops.Memory =
    (IsCut output o p × MetShortage o p × (g ≡ f)) ⊎ (IsPut output o p × WroteSome file session f g × (g.write_faults ≡ f.write_faults))
TextsStop output session file f g o p _ = ⊥
