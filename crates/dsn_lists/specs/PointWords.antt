-- The layers that words name, and the lengths and points that words state.
use Rattle.std.specs.Prelude.{◌≡◌, ℕ, ℤ, ◌⊎◌, Bool, true, false, List, [], ◌∷◌, Option, Some, None, Ok, Err}
use Rattle.std.specs.List.{AllByRecursion}
use Rattle.sexp_text.specs.declared.units.Unit.{Unit as LengthUnit}
use Rattle.sexp_text.specs.declared.num_fault.NumFault.TheVariants.{Range}
use Rattle.sexp_text.specs.NumberTexts.{IsNumberText}
use Rattle.seg_geometry.specs.declared.points.Pt.{Pt}
use Rattle.dsn_lists.specs.declared.faults.DesignFault.{DesignFault}
use Rattle.dsn_lists.specs.declared.faults.DesignKind.{DesignKind}
use Rattle.dsn_lists.specs.declared.faults.DesignKind.TheVariants as kind
use Rattle.dsn_lists.specs.declared.marks.Mark.{Mark}
use Rattle.dsn_lists.specs.Names.{place_of}
use Rattle.dsn_lists.specs.Layers.{is_every}
use Rattle.dsn_lists.specs.Lists.{told}
use Rattle.dsn_lists.specs.Measures.{Measures}

-- ---- the word of a layer

-- the word names the layer of this number, or stands for every layer
abbrev pub NamesLayer : List (List ℕ) → List ℕ → Option ℕ → Type 0
NamesLayer layers text (Some n) = place_of layers text ≡ Some n
NamesLayer layers text None = (place_of layers text ≡ None) × (is_every text ≡ true)

-- the fault of a word at this byte that is to name a layer
abbrev pub LayerWordFault : List (List ℕ) → ℕ → List ℕ → DesignFault → Type 0
LayerWordFault layers at text e = (place_of layers text ≡ None) × (is_every text ≡ false) × (e ≡ told kind.Layer at)

-- ---- lengths

-- the text states a length
abbrev pub StatesLength : LengthUnit → List ℕ → Type 0
StatesLength u text = (z : ℤ) × Measures u text (Ok z)

-- why a text states no length: it is no number, or its length is out of range
abbrev pub NoLength : LengthUnit → List ℕ → DesignKind → Type 0
NoLength u text kind.Number = IsNumberText text → ⊥
NoLength u text kind.Range = Measures u text (Err Range)
NoLength u text _ = ⊥

-- the fault of a word at this byte that is to state a length
abbrev pub LengthWordFault : LengthUnit → ℕ → List ℕ → DesignFault → Type 0
LengthWordFault u at text e = NoLength u text e.kind × (e.at ≡ at)

-- each word states a length
abbrev pub AllLengths : LengthUnit → List Mark → Type 0
AllLengths u words = AllByRecursion (λ (w : Mark). StatesLength u w.name) words

-- the fault of words that are to state lengths: that of the first that states none
abbrev pub LengthsFault : LengthUnit → List Mark → DesignFault → Type 0
LengthsFault u [] e = ⊥
LengthsFault u (w ∷ ws) e = LengthWordFault u w.at w.name e ⊎ (StatesLength u w.name × LengthsFault u ws e)

-- the words state the x and the y of each of these points by turns
abbrev pub ArePoints : LengthUnit → List Mark → List Pt → Type 0
ArePoints u [] ps = ps ≡ []
ArePoints u (x ∷ []) ps = ⊥
ArePoints u (x ∷ y ∷ ws) [] = ⊥
ArePoints u (x ∷ y ∷ ws) (p ∷ ps) = Measures u x.name (Ok p.x) × Measures u y.name (Ok p.y) × ArePoints u ws ps

-- the words are even in number
abbrev pub are_even : List Mark → Bool
are_even [] = true
are_even (x ∷ []) = false
are_even (x ∷ y ∷ ws) = are_even ws
