-- The text of live items by their nets, as one walk over them collects it.
use Rattle.std.specs.Prelude.{ℕ, ◌≡◌, ◌<◌, ◌||◌, Bool, List, [], ◌∷◌, ◌++◌, length, if◌then◌else◌, slice_index_or, false, replicate}
use Rattle.board_items.specs.declared.items.Item.{Item}
use Rattle.board_items.specs.declared.items.Padstack.{Padstack}
use Rattle.board_rules.specs.declared.design.NetRow.{NetRow}
use Rattle.board_rules.specs.declared.design.Parts.{Parts}
use Rattle.ses_writer.specs.declared.by_net.NetLists.{NetLists}
use Rattle.ses_writer.specs.Routes.{item_text, is_wire_of, is_via_of, uses}
use Rattle.ses_writer.specs.Library.{is_used, stack_text}
use Rattle.ses_writer.specs.Session.{wires_text, vias_text, has_routes, net_text}

-- what is written of a net's live items
abbrev pub lists_of : Parts → List (ℕ × Item) → ℕ → NetLists
lists_of p live net = record { listed = has_routes live net; wires = wires_text p live net; vias = vias_text p live net }

-- a net's texts with one more item, where it is a wire or via of this net
abbrev pub with_item : Parts → ℕ → Item → NetLists → NetLists
with_item p net item b = record {
  listed = b.listed || (is_wire_of net item || is_via_of net item);
  wires = b.wires ++ (if is_wire_of net item then item_text p item else []);
  vias = b.vias ++ (if is_via_of net item then item_text p item else []);
}

-- the texts of so many nets without items
abbrev pub NoLists : ℕ → List NetLists → Type 0
NoLists count lists = lists ≡ replicate count (record { listed = false; wires = []; vias = [] })

-- each net's texts got the item
pub record GotItem (p : Parts) (item : Item) (old new : List NetLists) : Type 0 where
  pub count : length new ≡ length old
  pub each : (net : ℕ) (d : NetLists) → net < length old → slice_index_or new net d ≡ with_item p net item (slice_index_or old net d)

-- each padstack's mark got the item
pub record GotMark (item : Item) (old new : List Bool) : Type 0 where
  pub count : length new ≡ length old
  pub each : (k : ℕ) (d : Bool) → k < length old → slice_index_or new k d ≡ (slice_index_or old k d || uses k item)

-- each net's texts are those of its live items
pub record HasLists (p : Parts) (live : List (ℕ × Item)) (lists : List NetLists) : Type 0 where
  pub count : length lists ≡ length p.nets
  pub each : (net : ℕ) (d : NetLists) → net < length lists → slice_index_or lists net d ≡ lists_of p live net

-- each padstack is marked where a live via uses it
pub record HasMarks (p : Parts) (live : List (ℕ × Item)) (marks : List Bool) : Type 0 where
  pub count : length marks ≡ length p.stacks
  pub each : (k : ℕ) (d : Bool) → k < length marks → slice_index_or marks k d ≡ is_used live k

-- the padstacks that are marked
abbrev pub marked_text : Parts → List Bool → List Padstack → List ℕ
marked_text p (m ∷ marks) (s ∷ rest) = (if m then stack_text p s else []) ++ marked_text p marks rest
marked_text p _ _ = []

-- the nets that are listed
abbrev pub listed_text : List NetLists → List NetRow → List ℕ
listed_text (b ∷ lists) (row ∷ rest) = (if b.listed then net_text row.name b.wires b.vias else []) ++ listed_text lists rest
listed_text _ _ = []
