-- The least pair of live items that are too near, one item after another.
use Rattle.std.proofs.Common.{◌≡◌, ℕ, ◌+◌, ◌<◌, List, [], ◌∷◌, refl, sym, ap, subst, ◌∙◌, arith, inl, inr}
use Rattle.std.specs.Prelude.{Option, Some, None}
use Rattle.board_items.specs.declared.items.Item.{Item}
use Rattle.board_items.specs.declared.items.ItemId.{ItemId}
use Rattle.board_rules.specs.declared.design.Parts.{Parts}
use Rattle.board_rules.specs.Needs.{KeepsNeed}
use Rattle.number_slots.specs.Leasts.{IsLeast}
use Rattle.number_slots.specs.Slots.{without, numbered, IsAt, IsRisingFrom}
use Rattle.number_slots.proofs.ByNumber.{at_least, without_none}
use Rattle.board_core.specs.Costs.{item_most, pairs_most}
use Rattle.board_core.specs.Clean.{IsCleanBoard, IsLeastPair, GoesBefore}
use Rattle.board_core.specs.Edits.{IsNear}
use Rattle.board_core.proofs.Keeping.{keeps_need}

-- what is told of live items
abbrev pub Told : Parts → List (Option ℕ) → List (ℕ × Item) → Option (ItemId × ItemId) → Type 0
Told p rules live None = IsCleanBoard p rules live
Told p rules live (Some pair) = IsLeastPair p rules live pair.0.0 pair.1.0

-- an item keeps its need of each live one that isn't near
keeps_one : (p : Parts) (rules : List (Option ℕ)) (x : Item) (live : List (ℕ × Item)) (d : ℕ) (z : Item) → IsAt live d z → (IsNear p rules live [] x d → ⊥) → KeepsNeed p rules x z
keeps_one p rules x live d z f none = keeps_need p rules x z (λ no_. none (record { other = z; other_is = f; near = no_; stays = refl }))

-- no item behind the first one has its number or a lower one
behind : (x : ℕ × Item) (rest : List (ℕ × Item)) (d : ℕ) (z : Item) → IsRisingFrom 1 (x ∷ rest) → IsAt rest d z → x.0 < d
behind x rest d z r f = let le = at_least (x.0 + 1) rest d z r.1 f in omega arith

clean_one : (p : Parts) (rules : List (Option ℕ)) (x : ℕ × Item) (rest : List (ℕ × Item)) (a b : ℕ) (y z : Item) → IsRisingFrom 1 (x ∷ rest) → a < b → IsLeast (IsNear p rules rest [] x.1) None → IsAt (x ∷ rest) a y → IsAt (x ∷ rest) b z
    → (IsAt rest a y → IsAt rest b z → KeepsNeed p rules y z) → KeepsNeed p rules y z
clean_one p rules x rest a b y z r lt none (inl f) (inl g) more = absurd (omega (arith, f.0, g.0))
clean_one p rules x rest a b y z r lt none (inl f) (inr g) more = subst (λ (w : Item). KeepsNeed p rules w z) f.1 (keeps_one p rules x.1 rest b z g (none b))
clean_one p rules x rest a b y z r lt none (inr f) (inl g) more = let low = behind x rest a y r f in absurd (omega (arith, g.0))
clean_one p rules x rest a b y z r lt none (inr f) (inr g) more = more f g

clean_first : (p : Parts) (rules : List (Option ℕ)) (x : ℕ × Item) (rest : List (ℕ × Item)) (r : Option (ItemId × ItemId)) → IsRisingFrom 1 (x ∷ rest) → IsLeast (IsNear p rules rest [] x.1) None → Told p rules rest r → Told p rules (x ∷ rest) r
clean_first p rules x rest None r none h = λ a b y z lt f g. clean_one p rules x rest a b y z r lt none f g (λ k l. h a b y z lt k l)
clean_first p rules x rest (Some pair) r none h = record {
  first = h.first;
  second = h.second;
  order = h.order;
  first_is = inr h.first_is;
  second_is = inr h.second_is;
  near = h.near;
  least = λ c d y z lt before f g. clean_one p rules x rest c d y z r lt none f g (λ k l. h.least c d y z lt before k l);
}

-- a first item to which no later one is too near changes nothing
pub clean_on : (p : Parts) (rules : List (Option ℕ)) (xs : List (ℕ × Item)) (x : ℕ × Item) (rest : List (ℕ × Item)) (r : Option (ItemId × ItemId)) → xs ≡ x ∷ rest → IsRisingFrom 1 xs → IsLeast (IsNear p rules rest [] x.1) None → Told p rules rest r → Told p rules xs r
clean_on p rules xs x rest r cut rises none h =
    subst (λ (zs : List (ℕ × Item)). Told p rules zs r) (sym cut) (clean_first p rules x rest r (subst (λ (zs : List (ℕ × Item)). IsRisingFrom 1 zs) cut rises) none h)

none_before : (p : Parts) (rules : List (Option ℕ)) (x : ℕ × Item) (rest : List (ℕ × Item)) (b : ℕ) → IsRisingFrom 1 (x ∷ rest) → IsLeast (IsNear p rules rest [] x.1) (Some b) → (c d : ℕ) (y z : Item) → c < d → GoesBefore c d x.0 b
    → IsAt (x ∷ rest) c y → IsAt (x ∷ rest) d z → KeepsNeed p rules y z
none_before p rules x rest b r h c d y z lt (inl low) (inl f) g = absurd (omega (arith, f.0))
none_before p rules x rest b r h c d y z lt (inl low) (inr f) g = let high = behind x rest c y r f in absurd (omega arith)
none_before p rules x rest b r h c d y z lt (inr same) (inl f) (inl g) = absurd (omega (arith, f.0, g.0))
none_before p rules x rest b r h c d y z lt (inr same) (inl f) (inr g) =
    subst (λ (w : Item). KeepsNeed p rules w z) f.1 (keeps_one p rules x.1 rest d z g (λ near. let le = h.1 d near in absurd (omega (arith, same.1))))
none_before p rules x rest b r h c d y z lt (inr same) (inr f) g = let high = behind x rest c y r f in absurd (omega (arith, same.0))

pair_first : (p : Parts) (rules : List (Option ℕ)) (x : ℕ × Item) (rest : List (ℕ × Item)) (b : ℕ) → IsRisingFrom 1 (x ∷ rest) → IsLeast (IsNear p rules rest [] x.1) (Some b) → IsLeastPair p rules (x ∷ rest) x.0 b
pair_first p rules x rest b r h = record {
  first = x.1;
  second = h.0.other;
  order = behind x rest b h.0.other r h.0.other_is;
  first_is = inl (refl, refl);
  second_is = inr h.0.other_is;
  near = h.0.near;
  least = λ c d y z lt before f g. none_before p rules x rest b r h c d y z lt before f g;
}

-- the first item and the least one that is too near to it are the least pair
pub pair_here : (p : Parts) (rules : List (Option ℕ)) (xs : List (ℕ × Item)) (x : ℕ × Item) (rest : List (ℕ × Item)) (b : ℕ) → xs ≡ x ∷ rest → IsRisingFrom 1 xs → IsLeast (IsNear p rules rest [] x.1) (Some b) → IsLeastPair p rules xs x.0 b
pair_here p rules xs x rest b cut rises h =
    subst (λ (zs : List (ℕ × Item)). IsLeastPair p rules zs x.0 b) (sym cut) (pair_first p rules x rest b (subst (λ (zs : List (ℕ × Item)). IsRisingFrom 1 zs) cut rises) h)

-- no item is left
pub clean_end : (p : Parts) (rules : List (Option ℕ)) (xs : List (ℕ × Item)) → xs ≡ [] → IsCleanBoard p rules xs
clean_end p rules xs over = λ a b x y lt f g. absurd (subst (λ (zs : List (ℕ × Item)). IsAt zs a x) over f)

-- the first item's steps and those of the others
pub pairs_on : (p : Parts) (xs : List (ℕ × Item)) (x : ℕ × Item) (rest : List (ℕ × Item)) → xs ≡ x ∷ rest → item_most p x.1 (without [] rest) + pairs_most p rest ≡ pairs_most p xs
pairs_on p xs x rest cut = ap (λ (zs : List (ℕ × Item)). item_most p x.1 zs + pairs_most p rest) (without_none rest) ∙ ap (pairs_most p) (sym cut)

-- loaded items rise
pub numbered_rises : (n : ℕ) (items : List Item) → IsRisingFrom n (numbered n items)
numbered_rises n [] = tt
numbered_rises n (x ∷ rest) = (omega arith, numbered_rises (n + 1) rest)
